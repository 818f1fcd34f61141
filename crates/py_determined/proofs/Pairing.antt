-- Two runs relate what their events name at one place: their objects stay alike, where what is named is related, or new on both sides and alike.
use Rattle.std.proofs.Common.{◌≡◌, ℕ, suc, ◌⊎◌, inl, inr, List, [], ◌∷◌, ◌++◌, Bool, true, false, eqb, length, Some, None, ◌||◌, refl, sym, ap, subst, ◌∙◌, append_assoc, arith}
use Rattle.std.proofs.lemmas.Bool.{eqb-true, eq-eqb}
use Rattle.std.proofs.lemmas.Option.{same_Some}
use Rattle.std.specs.Prelude.{Option, is_none, slice_get}
use Rattle.py_objects.specs.declared.payload.Payload.{Payload}
use Rattle.py_objects.specs.declared.payload.Payload.TheVariants as payload
use Rattle.py_objects.specs.declared.refs.PyBaseExceptionRef.{PyBaseExceptionRef}
use Rattle.py_objects.specs.declared.request.Request.{Request}
use Rattle.py_objects.specs.declared.request.Request.TheVariants as request
use Rattle.py_objects.specs.declared.event.GotAnswer.{GotAnswer}
use Rattle.py_objects.specs.declared.event.GotAnswer.TheVariants as got
use Rattle.py_objects.specs.declared.event.ResumeHow.{ResumeHow}
use Rattle.py_objects.specs.declared.event.ResumeHow.TheVariants as how
use Rattle.py_objects.specs.declared.event.Ending.{Ending}
use Rattle.py_objects.specs.declared.event.Ending.TheVariants as ending
use Rattle.py_objects.specs.declared.event.DriveAnswer.{DriveAnswer}
use Rattle.py_objects.specs.declared.event.DriveAnswer.TheVariants as answer
use Rattle.py_objects.specs.declared.event.Event.{Event}
use Rattle.py_objects.specs.declared.event.Event.TheVariants as event
use Rattle.py_objects.specs.Objects.{Obj, Name, HasPayload, declared, numbers, numbers_if, number_if, request_numbers, how_numbers, got_numbers, ending_numbers, result_numbers, event_numbers, is_among, IsNew}
use Rattle.py_objects.specs.Ancestry.{first_class}
use Rattle.py_answers.proofs.ReadingLemmas.{one_payload}
use Rattle.py_agreement.specs.Agreement.{Relation, SameMaybe, SameHandled, SameAll, SameAnswer, SameHow, SameEnding, has_literal}
use Rattle.py_determined.specs.Alike.{Alike, AreAlike, numbered}
use Rattle.py_determined.specs.Sameness.{SameTold}
use Rattle.py_determined.specs.Events.{SameResult, SameEvent}
use Rattle.py_determined.specs.Related.{asked_numbers, value_numbers, paired, pairs_of, IsPair, Related}
use Rattle.py_determined.proofs.AlikeLemmas.{eqb_turned}
use Rattle.py_determined.proofs.Requests.{BothAsk, BothUnbound, BothGlobal, BothBinary, BothCompare, BothTruth, BothMatch, BothHandled, BothRaisable, BothShow, BothCall, BothSend, BothThrow, BothClose, BothEnter, BothExit, BothNoExit, both_ask}
use Rattle.py_determined.proofs.Growing.{maybe_grows, alike_grows}

-- ---- pairs

-- a pair among more behind
pub pair_left : (ps qs : List (ℕ × ℕ)) (v w : Obj) → IsPair ps v w → IsPair (ps ++ qs) v w
pair_left [] qs v w is = absurd is
pair_left (p ∷ ps) qs v w (inl here) = inl here
pair_left (p ∷ ps) qs v w (inr there) = inr (pair_left ps qs v w there)

-- and in front
pub pair_right : (ps qs : List (ℕ × ℕ)) (v w : Obj) → IsPair qs v w → IsPair (ps ++ qs) v w
pair_right [] qs v w is = is
pair_right (p ∷ ps) qs v w is = inr (pair_right ps qs v w is)

-- one of two lists has it
pub pair_either : (ps qs : List (ℕ × ℕ)) (v w : Obj) → IsPair (ps ++ qs) v w → IsPair ps v w ⊎ IsPair qs v w
pair_either [] qs v w is = inr is
pair_either (p ∷ ps) qs v w (inl here) = inl (inl here)
pair_either (p ∷ ps) qs v w (inr there) = elim (pair_either ps qs v w there) [ inl a ↦ inl (inr a) | inr b ↦ inr b ]

-- the pairs of one event more, where both lists are as long
pub pairs_on : (es fs : List Event) (e f : Event) → length es ≡ length fs → pairs_of (es ++ e ∷ []) (fs ++ f ∷ []) ≡ pairs_of es fs ++ (paired (value_numbers e) (value_numbers f) ++ [])
pairs_on [] [] e f same = refl
pairs_on (x ∷ es) (y ∷ fs) e f same =
    ap (λ l. paired (value_numbers x) (value_numbers y) ++ l) (pairs_on es fs e f (omega (arith, same))) ∙ sym (append_assoc (paired (value_numbers x) (value_numbers y)) (pairs_of es fs) _)
pairs_on [] (y ∷ fs) e f same = absurd (omega (arith, same))
pairs_on (x ∷ es) [] e f same = absurd (omega (arith, same))

-- where one of both ends, what follows the other one adds none
pub pairs_end : (es fs more : List Event) → length es ≡ length fs → (pairs_of (es ++ more) fs ≡ pairs_of es fs) × (pairs_of es (fs ++ more) ≡ pairs_of es fs)
pairs_end [] [] [] same = (refl, refl)
pairs_end [] [] (x ∷ more) same = (refl, refl)
pairs_end (x ∷ es) (y ∷ fs) more same =
    let rest = pairs_end es fs more (omega (arith, same)) in
    (ap (λ l. paired (value_numbers x) (value_numbers y) ++ l) rest.0, ap (λ l. paired (value_numbers x) (value_numbers y) ++ l) rest.1)
pairs_end [] (y ∷ fs) more same = absurd (omega (arith, same))
pairs_end (x ∷ es) [] more same = absurd (omega (arith, same))

-- ---- what is named at one place is related

-- numbers of related objects, as many on both sides
abbrev pub SameNumbers : Relation → List ℕ → List ℕ → Type 0
SameNumbers N [] [] = Unit {0}
SameNumbers N (i ∷ is) (j ∷ js) = N (numbered i) (numbered j) × SameNumbers N is js
SameNumbers N _ _ = ⊥

module _ (N : Relation) where
  -- so each pair of them is of related objects
  pub pairs_related : (ms ns : List ℕ) (v w : Obj) → SameNumbers N ms ns → IsPair (paired ms ns) v w → N v w
  pairs_related [] [] v w s is = absurd is
  pairs_related (i ∷ ms) (j ∷ ns) v w s (inl (here, there)) = subst (λ n. N (numbered n) w) (sym here) (subst (λ n. N (numbered i) (numbered n)) (sym there) s.0)
  pairs_related (i ∷ ms) (j ∷ ns) v w s (inr rest) = pairs_related ms ns v w s.1 rest
  pairs_related [] (j ∷ ns) v w s is = absurd s
  pairs_related (i ∷ ms) [] v w s is = absurd s

  both_numbers : (is js ks ls : List ℕ) → SameNumbers N is js → SameNumbers N ks ls → SameNumbers N (is ++ ks) (js ++ ls)
  both_numbers [] [] ks ls s t = t
  both_numbers (i ∷ is) (j ∷ js) ks ls s t = (s.0, both_numbers is js ks ls s.1 t)
  both_numbers _ _ ks ls s t = absurd s

  all_numbers : (vs ws : List Obj) → SameAll N vs ws → SameNumbers N (numbers vs) (numbers ws)
  all_numbers [] [] s = tt
  all_numbers (v ∷ vs) (w ∷ ws) s = (s.0, all_numbers vs ws s.1)
  all_numbers _ _ s = absurd s

  maybe_numbers : (v w : Option Obj) → SameMaybe N v w → SameNumbers N (numbers_if v) (numbers_if w)
  maybe_numbers None None s = tt
  maybe_numbers (Some v) (Some w) s = (s, tt)
  maybe_numbers _ _ s = absurd s

  handled_numbers : (h h' : Option PyBaseExceptionRef) → SameHandled N h h' → SameNumbers N (number_if h) (number_if h')
  handled_numbers None None s = tt
  handled_numbers (Some e) (Some f) s = (s, tt)
  handled_numbers _ _ s = absurd s

  question_numbers : (r r' : Request) → BothAsk N r r' → SameTold N r r' → SameNumbers N (asked_numbers r) (asked_numbers r')
  question_numbers _ _ (BothUnbound x y e) told = tt
  question_numbers _ _ (BothGlobal d d' x y e) told = tt
  question_numbers _ _ (BothBinary op op' a a' b b' e s t) told = (s, (t, tt))
  question_numbers _ _ (BothCompare op op' a a' b b' e s t) told = (s, (t, tt))
  question_numbers _ _ (BothTruth v w s) told = (s, tt)
  question_numbers _ _ (BothMatch e e' c c' s t) told = (s, (t, tt))
  question_numbers _ _ BothHandled told = tt
  question_numbers _ _ (BothRaisable v w s) told = (s, tt)
  question_numbers _ _ (BothShow v w s) told = (s, tt)
  question_numbers _ _ (BothCall f g vs ws s t) told = (s, both_numbers (numbers vs) (numbers ws) [] [] (all_numbers vs ws t) tt)
  question_numbers _ _ (BothSend g g' v w s t) told = (s, (t, tt))
  question_numbers _ _ (BothThrow g g' c c' v v' t t' s k x y) told = (s, (k, both_numbers _ _ _ _ (maybe_numbers v v' x) (maybe_numbers t t' y)))
  question_numbers _ _ (BothClose g g' s) told = (s, tt)
  question_numbers _ _ (BothEnter m m' s) told = (s, tt)
  question_numbers _ _ (BothExit m m' c c' e e' t t' s k x) told = (s, (k, (x, (told, tt))))
  question_numbers _ _ (BothNoExit m m' s) told = (s, tt)

  got_same : (w w' : GotAnswer) → SameAnswer N w w' → SameNumbers N (got_numbers w) (got_numbers w')
  got_same (got.Value v) (got.Value w) s = (s, tt)
  got_same (got.Stop v) (got.Stop w) s = maybe_numbers v w s
  got_same (got.Raise e) (got.Raise f) s = (s, tt)
  got_same _ _ s = absurd s

  how_same : (h h' : ResumeHow) → SameHow N h h' → SameNumbers N (how_numbers h) (how_numbers h')
  how_same how.Start how.Start s = tt
  how_same (how.Send v) (how.Send w) s = (s, tt)
  how_same (how.Throw e) (how.Throw f) s = (s, tt)
  how_same _ _ s = absurd s

  ending_same : (e f : Ending) → SameEnding N e f → SameNumbers N (ending_numbers e) (ending_numbers f)
  ending_same (ending.Return v) (ending.Return w) s = (s, tt)
  ending_same (ending.Raise e) (ending.Raise f) s = (s, tt)
  ending_same _ _ s = absurd s

  result_same : (w w' : DriveAnswer) → SameResult N w w' → SameNumbers N (result_numbers w) (result_numbers w')
  result_same (answer.Returns v) (answer.Returns w) s = (s, tt)
  result_same (answer.Yields v) (answer.Yields w) s = (s, tt)
  result_same (answer.Stops v) (answer.Stops w) s = maybe_numbers v w s
  result_same answer.Closes answer.Closes s = tt
  result_same (answer.Raises e) (answer.Raises f) s = (s, tt)
  result_same (answer.Reported s) (answer.Reported t) e = tt
  result_same _ _ s = absurd s

  -- the same events name related objects at one place
  pub event_same : (e f : Event) → SameEvent N e f → SameNumbers N (value_numbers e) (value_numbers f)
  event_same (event.Drive d) (event.Drive d') s = tt
  event_same (event.Result d w) (event.Result d' w') s = result_same w w' s.1
  event_same (event.Make a f vs) (event.Make b g ws) s = (s.1, all_numbers vs ws s.2)
  event_same (event.Resume a h) (event.Resume b h') s = how_same h h' s.1
  event_same (event.Ask a r own at) (event.Ask b r' own' at') s =
      both_numbers (number_if own) (number_if own') (asked_numbers r) (asked_numbers r') (handled_numbers own own' s.2) (question_numbers r r' (both_ask N r r' s.1.0) s.1.1)
  event_same (event.Got a w) (event.Got b w') s = got_same w w' s.1
  event_same (event.Round a at) (event.Round b at') s = tt
  event_same (event.Yield a v at) (event.Yield b w at') s = (s.1, tt)
  event_same (event.End a e at) (event.End b f at') s = ending_same e f s.1
  event_same _ _ s = absurd s

-- ---- objects that no event named

-- a number stands on the left in none of the pairs, and one on the right
abbrev pub NoLeft : ℕ → List (ℕ × ℕ) → Type 0
NoLeft n [] = Unit {0}
NoLeft n (p ∷ ps) = (eqb n p.0 ≡ false) × NoLeft n ps

abbrev pub NoRight : ℕ → List (ℕ × ℕ) → Type 0
NoRight n [] = Unit {0}
NoRight n (p ∷ ps) = (eqb n p.1 ≡ false) × NoRight n ps

-- so it isn't the left number of a pair
pub no_left : (n : ℕ) (ps : List (ℕ × ℕ)) (v w : Obj) → NoLeft n ps → IsPair ps v w → eqb n v.number ≡ false
no_left n [] v w none is = absurd is
no_left n (p ∷ ps) v w none (inl (here, there)) = ap (eqb n) here ∙ none.0
no_left n (p ∷ ps) v w none (inr rest) = no_left n ps v w none.1 rest

-- nor the right one
pub no_right : (n : ℕ) (ps : List (ℕ × ℕ)) (v w : Obj) → NoRight n ps → IsPair ps v w → eqb n w.number ≡ false
no_right n [] v w none is = absurd is
no_right n (p ∷ ps) v w none (inl (here, there)) = ap (eqb n) there ∙ none.0
no_right n (p ∷ ps) v w none (inr rest) = no_right n ps v w none.1 rest

left_on : (n : ℕ) (ps qs : List (ℕ × ℕ)) → NoLeft n ps → NoLeft n qs → NoLeft n (ps ++ qs)
left_on n [] qs none more = more
left_on n (p ∷ ps) qs none more = (none.0, left_on n ps qs none.1 more)

right_on : (n : ℕ) (ps qs : List (ℕ × ℕ)) → NoRight n ps → NoRight n qs → NoRight n (ps ++ qs)
right_on n [] qs none more = more
right_on n (p ∷ ps) qs none more = (none.0, right_on n ps qs none.1 more)

-- neither of two tests passes
neither : (b c : Bool) → (b || c) ≡ false → (b ≡ false) × (c ≡ false)
neither false c is = (refl, is)
neither true c is = absurd (cc is)

-- a number that isn't among those of its side stands in none of their pairs
left_paired : (n : ℕ) (is js : List ℕ) → is_among n is ≡ false → NoLeft n (paired is js)
left_paired n [] js none = tt
left_paired n (i ∷ is) [] none = tt
left_paired n (i ∷ is) (j ∷ js) none = let both = neither (eqb n i) (is_among n is) none in (both.0, left_paired n is js both.1)

right_paired : (n : ℕ) (is js : List ℕ) → is_among n js ≡ false → NoRight n (paired is js)
right_paired n [] js none = tt
right_paired n (i ∷ is) [] none = tt
right_paired n (i ∷ is) (j ∷ js) none = let both = neither (eqb n j) (is_among n js) none in (both.0, right_paired n is js both.1)

-- a number that isn't among these isn't among the first of them
front_unnamed : (n : ℕ) (ms ns : List ℕ) → is_among n (ms ++ ns) ≡ false → is_among n (ms ++ []) ≡ false
front_unnamed n [] ns none = refl
front_unnamed n (m ∷ ms) ns none = let both = neither (eqb n m) (is_among n (ms ++ ns)) none in rw (both.0) (front_unnamed n ms ns both.1)

-- so one that a question doesn't name is none of its values'
asked_unnamed : (n : ℕ) (own : List ℕ) (r : Request) → is_among n (own ++ request_numbers r) ≡ false → is_among n (own ++ asked_numbers r) ≡ false
asked_unnamed n own (request.Global d x) none = front_unnamed n own (d.number ∷ []) none
asked_unnamed n own _ none = none

-- nor is one that an event doesn't name
values_unnamed : (n : ℕ) (e : Event) → is_among n (event_numbers e) ≡ false → is_among n (value_numbers e) ≡ false
values_unnamed n (event.Ask a r own at) none = asked_unnamed n (number_if own) r none
values_unnamed n _ none = none

-- what no event names is in no pair
pub unnamed_left : (n : ℕ) (es fs : List Event) → ((i : ℕ) (e : Event) → slice_get es i ≡ Some e → is_among n (event_numbers e) ≡ false) → NoLeft n (pairs_of es fs)
unnamed_left n [] fs none = tt
unnamed_left n (e ∷ es) [] none = tt
unnamed_left n (e ∷ es) (f ∷ fs) none =
    left_on n (paired (value_numbers e) (value_numbers f)) (pairs_of es fs) (left_paired n _ _ (values_unnamed n e (none 0 e refl))) (unnamed_left n es fs (λ i x is. none (suc i) x is))

pub unnamed_right : (n : ℕ) (es fs : List Event) → ((i : ℕ) (f : Event) → slice_get fs i ≡ Some f → is_among n (event_numbers f) ≡ false) → NoRight n (pairs_of es fs)
unnamed_right n [] fs none = tt
unnamed_right n (e ∷ es) [] none = tt
unnamed_right n (e ∷ es) (f ∷ fs) none =
    right_on n (paired (value_numbers e) (value_numbers f)) (pairs_of es fs) (right_paired n _ _ (values_unnamed n f (none 0 f refl))) (unnamed_right n es fs (λ i x is. none (suc i) x is))

-- ---- one more pair

-- what comes of an event as a new object: an exception, a generator or a traceback
abbrev pub is_born : Payload → Bool
is_born (payload.Generator g) = true
is_born (payload.Exception e) = true
is_born (payload.Traceback t) = true
is_born _ = false

-- two objects that are new in their runs, with payloads that are alike
pub record AreBorn (S : Relation) (objects objects' : List Payload) (es fs : List Event) (v w : Obj) : Type 0 where
  pub first : Payload
  pub second : Payload
  pub has_first : HasPayload objects v first
  pub has_second : HasPayload objects' w second
  pub is_first : is_born first ≡ true
  pub is_second : is_born second ≡ true
  pub alike : Alike S objects objects' first second
  pub new_first : IsNew objects es v.number
  pub new_second : IsNew objects' fs w.number

-- whether an entry is no traceback, and has none
abbrev pub is_bare : Payload → Bool
is_bare (payload.Exception e) = is_none e.traceback
is_bare (payload.Traceback t) = false
is_bare _ = true

-- an object has such an entry
abbrev pub IsBare : List Payload → Obj → Type 0
IsBare objects v = (p : Payload) × HasPayload objects v p × (is_bare p ≡ true)

-- objects of payloads of which only one may be are two
apart : (objects : List Payload) (test : Payload → Bool) (v w : Obj) (p q : Payload) → HasPayload objects v p → HasPayload objects w q → test p ≡ true → test q ≡ false → eqb v.number w.number ≡ false
apart objects test v w p q has has' yes_first no_second = pick (eqb v.number w.number) refl
  where
    pick : (b : Bool) → eqb v.number w.number ≡ b → eqb v.number w.number ≡ false
    pick false is = is
    pick true is =
        let here : HasPayload objects v q = subst (λ n. slice_get objects n ≡ Some q) (sym (eqb-true v.number w.number is)) has' in
        absurd (cc (sym yes_first ∙ ap test (one_payload objects v.number p q has here) ∙ no_second))

module _ (S S' : Relation) (objects objects' : List Payload) (more : (v w : Obj) → S v w → S' v w) where
  declares_grow : AreAlike S objects objects' → (x : Name) → SameMaybe S' (declared objects x) (declared objects' x)
  declares_grow alike x = maybe_grows S S' more (declared objects x) (declared objects' x) (alike.declares x)

  first_grows : AreAlike S objects objects' → (x : Name) → SameMaybe (λ i j. S' (numbered i) (numbered j)) (first_class x objects) (first_class x objects')
  first_grows alike x =
      maybe_grows (λ i j. S (numbered i) (numbered j)) (λ i j. S' (numbered i) (numbered j)) (λ i j s. more (numbered i) (numbered j) s) (first_class x objects) (first_class x objects') (alike.first x)

  -- where no more are related, the same are alike
  pub no_more_alike : ((v w : Obj) → S' v w → S v w) → AreAlike S objects objects' → AreAlike S' objects objects'
  no_more_alike less alike = record {
    literals = λ p v w is has has'. more v w (alike.literals p v w is has has');
    payloads = λ v w p q s has has'. alike_grows S S' more objects objects' p q (alike.payloads v w p q (less v w s) has has');
    one = λ v v2 w w2 p s t has is. alike.one v v2 w w2 p (less v w s) (less v2 w2 t) has is;
    declares = declares_grow alike;
    first = first_grows alike;
  }

  -- where two that are born are, too, of which neither was related
  module _ (es fs : List Event) (x y : Obj) (born : AreBorn S objects objects' es fs x y)
      (either : (v w : Obj) → S' v w → S v w ⊎ ((v ≡ x) × (w ≡ y)))
      (none_left : (v w : Obj) → S v w → eqb x.number v.number ≡ false) (none_right : (v w : Obj) → S v w → eqb y.number w.number ≡ false) where
    -- the payloads of related objects are alike, those of the two, too
    payloads_grow : AreAlike S objects objects' → (v w : Obj) (p q : Payload) → S v w ⊎ ((v ≡ x) × (w ≡ y)) → HasPayload objects v p → HasPayload objects' w q → Alike S' objects objects' p q
    payloads_grow alike v w p q (inl s) has has' = alike_grows S S' more objects objects' p q (alike.payloads v w p q s has has')
    payloads_grow alike v w p q (inr (here, there)) has has' =
        let first : born.first ≡ p = same_Some born.first p (sym born.has_first ∙ subst (λ (o : Obj). HasPayload objects o p) here has) in
        let second : born.second ≡ q = same_Some born.second q (sym born.has_second ∙ subst (λ (o : Obj). HasPayload objects' o q) there has') in
        subst (λ a. Alike S' objects objects' a q) first (subst (λ b. Alike S' objects objects' born.first b) second (alike_grows S S' more objects objects' born.first born.second born.alike))

    -- and two are one object on the one side where they are on the other
    one_grows : AreAlike S objects objects' → (v v2 w w2 : Obj) (p : Payload) → S v w ⊎ ((v ≡ x) × (w ≡ y)) → S v2 w2 ⊎ ((v2 ≡ x) × (w2 ≡ y)) → HasPayload objects v p → has_literal p ≡ false
        → eqb v.number v2.number ≡ eqb w.number w2.number
    one_grows alike v v2 w w2 p (inl s) (inl t) has is = alike.one v v2 w w2 p s t has is
    one_grows alike v v2 w w2 p (inr (here, there)) (inl t) has is =
        ap (λ (o : Obj). eqb o.number v2.number) here ∙ none_left v2 w2 t ∙ sym (ap (λ (o : Obj). eqb o.number w2.number) there ∙ none_right v2 w2 t)
    one_grows alike v v2 w w2 p (inl s) (inr (here, there)) has is =
        ap (λ (o : Obj). eqb v.number o.number) here ∙ eqb_turned v.number x.number ∙ none_left v w s
        ∙ sym (ap (λ (o : Obj). eqb w.number o.number) there ∙ eqb_turned w.number y.number ∙ none_right v w s)
    one_grows alike v v2 w w2 p (inr (here, there)) (inr (here2, there2)) has is =
        eq-eqb v.number v2.number (ap (λ (o : Obj). o.number) (here ∙ sym here2)) ∙ sym (eq-eqb w.number w2.number (ap (λ (o : Obj). o.number) (there ∙ sym there2)))

    -- so the objects stay alike
    pub born_alike : AreAlike S objects objects' → AreAlike S' objects objects'
    born_alike alike = record {
      literals = λ p v w is has has'. more v w (alike.literals p v w is has has');
      payloads = λ v w p q s has has'. payloads_grow alike v w p q (either v w s) has has';
      one = λ v v2 w w2 p s t has is. one_grows alike v v2 w w2 p (either v w s) (either v2 w2 t) has is;
      declares = declares_grow alike;
      first = first_grows alike;
    }

-- ---- what is new is related to nothing

-- what a literal stands for isn't born
literal_unborn : (p : Payload) → has_literal p ≡ true → is_born p ≡ false
literal_unborn payload.None is = refl
literal_unborn (payload.Bool b) is = refl
literal_unborn (payload.Int n) is = refl
literal_unborn (payload.Str s) is = refl
literal_unborn _ is = absurd (cc is)

module _ (objects objects' : List Payload) (es fs : List Event) where
  pub new_left : (x : Obj) (p : Payload) → HasPayload objects x p → is_born p ≡ true → IsNew objects es x.number
      → (v w : Obj) → Related objects objects' (pairs_of es fs) v w → eqb x.number v.number ≡ false
  new_left x p has is new v w (inl (q, literal, has_v, has_w)) = apart objects is_born x v p q has has_v is (literal_unborn q literal)
  new_left x p has is new v w (inr (inl (n, there, there'))) = new.undeclared n v there
  new_left x p has is new v w (inr (inr pair)) = no_left x.number (pairs_of es fs) v w (unnamed_left x.number es fs new.unnamed) pair

  pub new_right : (y : Obj) (p : Payload) → HasPayload objects' y p → is_born p ≡ true → IsNew objects' fs y.number
      → (v w : Obj) → Related objects objects' (pairs_of es fs) v w → eqb y.number w.number ≡ false
  new_right y p has is new v w (inl (q, literal, has_v, has_w)) = apart objects' is_born y w p q has has_w is (literal_unborn q literal)
  new_right y p has is new v w (inr (inl (n, there, there'))) = new.undeclared n w there'
  new_right y p has is new v w (inr (inr pair)) = no_right y.number (pairs_of es fs) v w (unnamed_right y.number es fs new.unnamed) pair

  -- related objects stay related with more pairs behind
  pub related_on : (ps qs : List (ℕ × ℕ)) (v w : Obj) → Related objects objects' ps v w → Related objects objects' (ps ++ qs) v w
  related_on ps qs v w (inl literal) = inl literal
  related_on ps qs v w (inr (inl name)) = inr (inl name)
  related_on ps qs v w (inr (inr pair)) = inr (inr (pair_left ps qs v w pair))

  -- and others are one of these pairs
  pub related_either : (ps qs : List (ℕ × ℕ)) (v w : Obj) → Related objects objects' (ps ++ qs) v w → Related objects objects' ps v w ⊎ IsPair qs v w
  related_either ps qs v w (inl literal) = inl (inl literal)
  related_either ps qs v w (inr (inl name)) = inl (inr (inl name))
  related_either ps qs v w (inr (inr pair)) = elim (pair_either ps qs v w pair) [ inl a ↦ inl (inr (inr a)) | inr b ↦ inr b ]
