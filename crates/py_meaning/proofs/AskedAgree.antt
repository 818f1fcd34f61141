-- The drives of one script ask the same in two runs, as far as the events in front of them are the same.
use Rattle.std.proofs.Common.{◌≡◌, ◌≤◌, ◌<◌, ℕ, zero, suc, true, Option, Some, None, List, [], ◌∷◌, ◌++◌, refl, sym, ap, subst, ◌∙◌, slice_get, arith}
use Rattle.std.specs.Prelude.{All}
use Rattle.std.proofs.lemmas.List.Elements.{All-head, All-tail}
use Rattle.py_objects.specs.declared.payload.Payload.{Payload}
use Rattle.py_objects.specs.declared.payload.Payload.TheVariants as payload
use Rattle.py_objects.specs.declared.request.Keywords.TheVariants as keywords
use Rattle.py_objects.specs.declared.request.Request.{Request}
use Rattle.py_objects.specs.declared.request.Request.TheVariants as request
use Rattle.py_objects.specs.declared.event.DriveAnswer.{DriveAnswer}
use Rattle.py_objects.specs.declared.event.DriveAnswer.TheVariants as answer
use Rattle.py_objects.specs.declared.event.Event.{Event}
use Rattle.py_objects.specs.declared.event.Event.TheVariants as event
use Rattle.py_objects.specs.Objects.{Obj, Name, HasPayload, as_object, declared}
use Rattle.py_lines.specs.declared.drive.DriveAtom.{DriveAtom}
use Rattle.py_lines.specs.declared.drive.DriveAtom.TheVariants as atom
use Rattle.py_lines.specs.declared.drive.DriveLine.{DriveLine}
use Rattle.py_lines.specs.declared.drive.DriveLine.TheVariants as drive
use Rattle.py_run.specs.declared.drive.Told.TheVariants as told
use Rattle.py_run.specs.Run.{Pose, Requests, Forms, Reports, Posed, Plan, State, start, after, state_after}
use Rattle.py_run.specs.Coming.{Past, nothing, past_after, MayCome, Comes}
use Rattle.py_run.proofs.RunLemmas.{comes_front}
use Rattle.py_agreement.specs.Agreement.{Relation, SameMaybe, SameAll, has_literal}
use Rattle.py_determined.specs.Sameness.{SameAsked}
use Rattle.py_determined.specs.Events.{SameResult, SameEvent, SameEvents}
use Rattle.py_determined.proofs.SameStates.{SamePose, SamePosed}
use Rattle.py_meaning.specs.Earlier.{AtomIsEarlier, ValueIsEarlier, LineIsEarlier, NameEarlier}
use Rattle.py_meaning.specs.Core.{is_plain}
use Rattle.py_meaning.specs.Whole.{IsLeft, IsLeftBy, IsOf, AreOf, IsThrown, AsksThis, Poses, AreAsked}
use Rattle.py_meaning.proofs.CoreLemmas.{ArePlain, none_reported}

-- ---- results come in the order of their numbers

-- no event takes a result away
done_grows : (s : State) (e : Event) → s.done ≤ (after s e).done
done_grows s (event.Result d w) = omega arith
done_grows s _ = omega arith

-- a result that comes has the next number
result_next : (plan : Plan) (objects : List Payload) (p : Past) (e : Event) (n : ℕ) (w : DriveAnswer) → e ≡ event.Result n w → MayCome plan objects p e
    → (n ≡ suc p.state.done) × (n ≡ (after p.state e).done)
result_next plan objects p e n w is may =
    let next : n ≡ suc p.state.done = (subst (λ (x : Event). MayCome plan objects p x) is may).0 in
    (next, next ∙ ap (λ (x : Event). (after p.state x).done) (sym is))

one_entry : {A : Type 0} (x y : A) → Some x ≡ Some y → x ≡ y
one_entry x y e = cc e

-- one that comes behind others has a greater number than they
results_later : (plan : Plan) (objects : List Payload) (p : Past) (es : List Event) (i n : ℕ) (w : DriveAnswer) → Comes plan objects p es
    → slice_get es i ≡ Some (event.Result n w) → p.state.done < n
results_later plan objects p [] i n w comes at = absurd (cc at)
results_later plan objects p (e ∷ es) zero n w comes at =
    let next = (result_next plan objects p e n w (one_entry e (event.Result n w) at) comes.0).0 in omega (arith, next)
results_later plan objects p (e ∷ es) (suc i) n w comes at =
    let later = results_later plan objects (past_after plan p e) es i n w comes.1 at in
    let more = done_grows p.state e in
    omega (arith, later, more)

-- the result of a drive that is done stands among the events that it is done behind
result_before : (plan : Plan) (objects : List Payload) (p : Past) (es more : List Event) (i n : ℕ) (w : DriveAnswer) → Comes plan objects p (es ++ more)
    → n ≤ (state_after p.state es).done → slice_get (es ++ more) i ≡ Some (event.Result n w) → slice_get es i ≡ Some (event.Result n w)
result_before plan objects p [] more i n w comes low at =
    absurd (let later = results_later plan objects p more i n w comes at in omega (arith, low, later))
result_before plan objects p (e ∷ es) more zero n w comes low at = at
result_before plan objects p (e ∷ es) more (suc i) n w comes low at = result_before plan objects (past_after plan p e) es more i n w comes.1 low at

module _ (S : Relation) where
  -- what is the same as a result is one of the same drive
  as_result : (n : ℕ) (w : DriveAnswer) (f : Event) → SameEvent S (event.Result n w) f → (u : DriveAnswer) × (f ≡ event.Result n u)
  as_result n w (event.Result m u) s = (u, ap (λ (k : ℕ). event.Result k u) (sym s.0))
  as_result n w _ s = absurd s

  as_result_too : (n : ℕ) (w : DriveAnswer) (f : Event) → SameEvent S f (event.Result n w) → (u : DriveAnswer) × (f ≡ event.Result n u)
  as_result_too n w (event.Result m u) s = (u, ap (λ (k : ℕ). event.Result k u) s.0)
  as_result_too n w _ s = absurd s

  -- the results of one drive are the same
  results_agree : (plan plan' : Plan) (objects objects' : List Payload) (p p' : Past) (es fs : List Event) (i j n : ℕ) (w w' : DriveAnswer)
      → Comes plan objects p es → Comes plan' objects' p' fs → SameEvents S es fs
      → slice_get es i ≡ Some (event.Result n w) → slice_get fs j ≡ Some (event.Result n w') → SameResult S w w'
  results_agree plan plan' objects objects' p p' [] fs i j n w w' comes comes' same at at' = absurd (cc at)
  results_agree plan plan' objects objects' p p' (e ∷ es) [] i j n w w' comes comes' same at at' = absurd (cc at')
  results_agree plan plan' objects objects' p p' (e ∷ es) (f ∷ fs) zero zero n w w' comes comes' same at at' =
      let s : SameEvent S (event.Result n w) (event.Result n w') =
      subst (λ (x : Event). SameEvent S x (event.Result n w')) (one_entry e (event.Result n w) at) (subst (λ (x : Event). SameEvent S e x) (one_entry f (event.Result n w') at') same.0) in
      s.1
  results_agree plan plan' objects objects' p p' (e ∷ es) (f ∷ fs) zero (suc j) n w w' comes comes' same at at' =
      let (u, is) = as_result n w f (subst (λ (x : Event). SameEvent S x f) (one_entry e (event.Result n w) at) same.0) in
      let next = (result_next plan' objects' p' f n u is comes'.0).1 in
      let later = results_later plan' objects' (past_after plan' p' f) fs j n w' comes'.1 at' in
      absurd (omega (arith, next, later))
  results_agree plan plan' objects objects' p p' (e ∷ es) (f ∷ fs) (suc i) zero n w w' comes comes' same at at' =
      let (u, is) = as_result_too n w' e (subst (λ (x : Event). SameEvent S e x) (one_entry f (event.Result n w') at') same.0) in
      let next = (result_next plan objects p e n u is comes.0).1 in
      let later = results_later plan objects (past_after plan p e) es i n w comes.1 at in
      absurd (omega (arith, next, later))
  results_agree plan plan' objects objects' p p' (e ∷ es) (f ∷ fs) (suc i) (suc j) n w w' comes comes' same at at' =
      results_agree plan plan' objects objects' (past_after plan p e) (past_after plan' p' f) es fs i j n w w' comes.1 comes'.1 same.1 at at'

  module _ (objects objects' : List Payload) (literals : (p : Payload) (v w : Obj) → has_literal p ≡ true → HasPayload objects v p → HasPayload objects' w p → S v w)
      (declares : (x : Name) → SameMaybe S (declared objects x) (declared objects' x)) where
    -- ---- what drives leave

    both_are : (v w x y : Obj) → S x y → v ≡ x → w ≡ y → S v w
    both_are v w x y s is is' = subst (λ (z : Obj). S z w) (sym is) (subst (λ (z : Obj). S x z) (sym is') s)

    left_agrees : (x y : DriveAnswer) (v w : Obj) → SameResult S x y → IsLeft objects x v → IsLeft objects' y w → S v w
    left_agrees (answer.Returns x) (answer.Returns y) v w s is is' = both_are v w x y s is is'
    left_agrees (answer.Yields x) (answer.Yields y) v w s is is' = both_are v w x y s is is'
    left_agrees (answer.Stops None) (answer.Stops None) v w s is is' = literals payload.None v w refl is is'
    left_agrees (answer.Stops (Some x)) (answer.Stops (Some y)) v w s is is' = both_are v w x y s is is'
    left_agrees (answer.Stops None) (answer.Stops (Some y)) v w s is is' = absurd s
    left_agrees (answer.Stops (Some x)) (answer.Stops None) v w s is is' = absurd s
    left_agrees answer.Closes answer.Closes v w s is is' = literals payload.None v w refl is is'
    left_agrees (answer.Raises e) (answer.Raises f) v w s is is' = both_are v w (as_object e) (as_object f) s is is'
    left_agrees (answer.Reported t) (answer.Reported u) v w s is is' = literals payload.None v w refl is is'
    left_agrees _ _ v w s is is' = absurd s

    -- what is declared under a name
    declared_agree : (x : Name) (v w : Obj) → declared objects x ≡ Some v → declared objects' x ≡ Some w → S v w
    declared_agree x v w is is' =
        subst (λ (o : Option Obj). SameMaybe S (Some v) o) is' (subst (λ (o : Option Obj). SameMaybe S o (declared objects' x)) is (declares x))

    module _ (made : ℕ) (es es' : List Event)
        (left : (n : ℕ) (v w : Obj) → n ≤ made → IsLeftBy objects es n v → IsLeftBy objects' es' n w → S v w) where
      -- ---- what a drive asks behind so many others, where what these left is related

      of_agrees : (a : DriveAtom) (v w : Obj) → AtomIsEarlier made a → IsOf objects es a v → IsOf objects' es' a w → S v w
      of_agrees atom.None v w may is is' = literals payload.None v w refl is is'
      of_agrees (atom.Bool b) v w may is is' = literals (payload.Bool b) v w refl is is'
      of_agrees (atom.Int n) v w may is is' = literals (payload.Int n) v w refl is is'
      of_agrees (atom.Str s) v w may is is' = literals (payload.Str s) v w refl is is'
      of_agrees (atom.Name x) v w may is is' = declared_agree x v w is is'
      of_agrees (atom.Drive n) v w may is is' = left n v w may is is'

      all_agree : (atoms : List DriveAtom) (vs ws : List Obj) → All (AtomIsEarlier made) atoms → AreOf objects es atoms vs → AreOf objects' es' atoms ws → SameAll S vs ws
      all_agree [] [] [] may are are' = tt
      all_agree (a ∷ atoms) (v ∷ vs) (w ∷ ws) may are are' = (of_agrees a v w (All-head (AtomIsEarlier made) a atoms may) are.0 are'.0, all_agree atoms vs ws (All-tail (AtomIsEarlier made) a atoms may) are.1 are'.1)
      all_agree [] [] (w ∷ ws) may are are' = absurd are'
      all_agree (a ∷ atoms) (v ∷ vs) [] may are are' = absurd are'
      all_agree _ _ _ may are are' = absurd are

      thrown_agrees : (a : Option DriveAtom) (v w : Obj) → ValueIsEarlier made a → IsThrown objects es a v → IsThrown objects' es' a w → S v w
      thrown_agrees None v w may is is' = literals payload.None v w refl is is'
      thrown_agrees (Some a) v w may is is' = of_agrees a v w may is is'

      asked_as : (r r' q q' : Request) → r ≡ q → r' ≡ q' → SameAsked S q q' → SameAsked S r r'
      asked_as r r' q q' is is' s = subst (λ (x : Request). SameAsked S x r') (sym is) (subst (λ (x : Request). SameAsked S q x) (sym is') s)

      -- the same line asks the same
      asks_agree : (d : DriveLine) (r r' : Request) → LineIsEarlier made d → AsksThis objects es d r → AsksThis objects' es' d r' → SameAsked S r r'
      asks_agree (drive.Call x args) r r' may (g, vs, is, said, are) (g', ws, is', said', are') =
          asked_as r r' (request.Call g vs keywords.None) (request.Call g' ws keywords.None) is is' ((declared_agree x g g' said said', all_agree args vs ws may are are'), tt)
      asks_agree (drive.Next n) r r' may (g, v, is, by, none) (g', w, is', by', none') =
          asked_as r r' (request.Send g v) (request.Send g' w) is is' ((left n g g' may by by', literals payload.None v w refl none none'), tt)
      asks_agree (drive.Send n a) r r' may (g, v, is, by, of) (g', w, is', by', of') =
          asked_as r r' (request.Send g v) (request.Send g' w) is is' ((left n g g' may.0 by by', of_agrees a v w may.1 of of'), tt)
      asks_agree (drive.Throw n x a) r r' may (g, c, v, is, by, said, of) (g', c', w, is', by', said', of') =
          asked_as r r' (request.Throw g c (Some v) None) (request.Throw g' c' (Some w) None) is is'
          ((left n g g' may.0 by by', declared_agree x c c' said said', thrown_agrees a v w may.1 of of', tt), tt)
      asks_agree (drive.Close n) r r' may (g, is, by) (g', is', by') = asked_as r r' (request.Close g) (request.Close g') is is' (left n g g' may by by', tt)
      asks_agree (drive.Report n) r r' may asks asks' = absurd asks

      pub poses_agree : (d : DriveLine) (x y : Pose) → is_plain d ≡ true → LineIsEarlier made d → Poses objects es d x → Poses objects' es' d y → SamePose S x y
      poses_agree d (Requests r) (Requests r') plain may asks asks' = asks_agree d r r' may asks asks'
      poses_agree d (Forms x) y plain may asks asks' = absurd asks
      poses_agree d (Requests r) (Forms y) plain may asks asks' = absurd asks'
      poses_agree d (Reports (told.Report e)) y plain may asks asks' = absurd (none_reported d es e plain asks)
      poses_agree d (Reports (told.Part e)) y plain may asks asks' = absurd asks
      poses_agree d (Reports (told.Exit e)) y plain may asks asks' = absurd asks
      poses_agree d (Requests r) (Reports (told.Report e)) plain may asks asks' = absurd (none_reported d es' e plain asks')
      poses_agree d (Requests r) (Reports (told.Part e)) plain may asks asks' = absurd asks'
      poses_agree d (Requests r) (Reports (told.Exit e)) plain may asks asks' = absurd asks'

    -- ---- drives of a run

    -- what a drive left that is done is related, where the events behind which it is done are the same
    pub left_by_agrees : (plan plan' : Plan) (es fs more more' : List Event) (n : ℕ) (v w : Obj)
        → Comes plan objects nothing (es ++ more) → Comes plan' objects' nothing (fs ++ more') → SameEvents S es fs
        → n ≤ (state_after start es).done → n ≤ (state_after start fs).done
        → IsLeftBy objects (es ++ more) n v → IsLeftBy objects' (fs ++ more') n w → S v w
    left_by_agrees plan plan' es fs more more' n v w comes comes' same low low' (i, x, at, is) (j, y, at', is') =
        left_agrees x y v w
        (results_agree plan plan' objects objects' nothing nothing es fs i j n x y (comes_front plan objects nothing es more comes) (comes_front plan' objects' nothing fs more' comes') same
        (result_before plan objects nothing es more i n x comes low at) (result_before plan' objects' nothing fs more' j n y comes' low' at')) is is'

    -- the question of the drive with this place
    asked_at : (store : List Payload) (es : List Event) (ds : List DriveLine) (asked : List Posed) (i : ℕ) (q : Posed) → AreAsked store es ds asked → slice_get asked i ≡ Some q
        → (d : DriveLine) × (slice_get ds i ≡ Some d) × Poses store es d q.pose × (q.entered ≡ 0)
    asked_at store es ds [] i q are at = absurd (cc at)
    asked_at store es [] (p ∷ asked) i q are at = absurd are
    asked_at store es (d ∷ ds) (p ∷ asked) zero q are at =
        let same : p ≡ q = cc at in
        (d, refl, subst (λ (x : Posed). Poses store es d x.pose) same are.0.0, ap (λ (x : Posed). x.entered) (sym same) ∙ are.0.1)
    asked_at store es (d ∷ ds) (p ∷ asked) (suc i) q are at = asked_at store es ds asked i q are.1 at

    -- a drive poses the same in two runs, where the events behind which those in front of it are done are the same
    pub posed_agree : (ds : List DriveLine) (asked asked' : List Posed) (plan plan' : Plan) (es fs more more' : List Event) (i : ℕ) (q q' : Posed)
        → NameEarlier ds → ArePlain ds
        → Comes plan objects nothing (es ++ more) → Comes plan' objects' nothing (fs ++ more') → SameEvents S es fs
        → i ≤ (state_after start es).done → i ≤ (state_after start fs).done
        → AreAsked objects (es ++ more) ds asked → AreAsked objects' (fs ++ more') ds asked'
        → slice_get asked i ≡ Some q → slice_get asked' i ≡ Some q' → SamePosed S q q'
    posed_agree ds asked asked' plan plan' es fs more more' i q q' well core comes comes' same low low' are are' at at' =
        let (d, line, asks, none) = asked_at objects (es ++ more) ds asked i q are at in
        let (d', line', asks', none') = asked_at objects' (fs ++ more') ds asked' i q' are' at' in
        let one : d' ≡ d = one_entry d' d (sym line' ∙ line) in
        record {
          pose =
              poses_agree i (es ++ more) (fs ++ more')
              (λ n v w few by by'. left_by_agrees plan plan' es fs more more' n v w comes comes' same (omega (arith, few, low)) (omega (arith, few, low')) by by') d q.pose q'.pose (core i d line) (well i d line) asks
              (subst (λ (x : DriveLine). Poses objects' (fs ++ more') x q'.pose) one asks');
          entered = none ∙ sym none';
        }
