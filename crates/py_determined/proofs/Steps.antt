-- From where two runs of one script are alike both go on by the same event.
use Rattle.std.proofs.Common.{◌≡◌, ℕ, suc, ◌⊎◌, inl, inr, List, [], ◌∷◌, ◌++◌, length, Some, None, refl, sym, ap, subst, ◌∙◌}
use Rattle.std.specs.Prelude.{Option, slice_get}
use Rattle.std.proofs.lemmas.Option.{same_Some}
use Rattle.py_objects.specs.declared.payload.Payload.{Payload}
use Rattle.py_objects.specs.declared.payload.Payload.TheVariants as payload
use Rattle.py_objects.specs.declared.payload.CoroBody.{CoroBody}
use Rattle.py_objects.specs.declared.payload.CoroKind.{CoroKind}
use Rattle.py_objects.specs.declared.payload.FunctionBody.{FunctionBody}
use Rattle.py_objects.specs.declared.refs.PyBaseExceptionRef.{PyBaseExceptionRef}
use Rattle.py_objects.specs.declared.request.Request.{Request}
use Rattle.py_objects.specs.declared.request.Request.TheVariants as request
use Rattle.py_objects.specs.declared.event.GotAnswer.{GotAnswer}
use Rattle.py_objects.specs.declared.event.GotAnswer.TheVariants as got
use Rattle.py_objects.specs.declared.event.DriveAnswer.{DriveAnswer}
use Rattle.py_objects.specs.declared.event.DriveAnswer.TheVariants as answer
use Rattle.py_objects.specs.declared.event.ResumeHow.TheVariants as how
use Rattle.py_objects.specs.declared.event.Event.{Event}
use Rattle.py_objects.specs.declared.event.Event.TheVariants as event
use Rattle.py_objects.specs.Objects.{Obj, HasPayload, as_object, number_if}
use Rattle.py_coro.specs.declared.coro.CoroEnd.{CoroEnd}
use Rattle.py_answers.specs.Answers.{Reply, Has, Is, Makes, Creates, Fails, FailsFrom, Passes, Yields, Stops, Closes, GivesBody, GivesDrive, for_body}
use Rattle.py_run.specs.Run.{Signature, Plan, Phase, Idle, Asking, Going, Made, Due, Act, IsTop, question}
use Rattle.py_determined.specs.Raises.{Raise, raise_of, raises_of, IsToldOf, Tells, TellsRaise}
use Rattle.py_run.specs.Calls.{Course, Says, Enters, Begins, Sends, Throws}
use Rattle.py_run.specs.Coming.{Past, setting, IsOfKind, MakesGenerator, MayCome}
use Rattle.py_agreement.specs.Agreement.{Relation, SameMaybe, SameHandled, SameRequest}
use Rattle.py_determined.specs.Alike.{AreAlike}
use Rattle.py_determined.specs.Sameness.{SameAsked, SameReply, SameLeft, SameCourse, SameSetting}
use Rattle.py_determined.specs.Events.{SameEvent}
use Rattle.py_determined.specs.Related.{paired, value_numbers, IsPair}
use Rattle.py_determined.proofs.SameStates.{SamePhase, SameActs, SameState, SameRaises}
use Rattle.py_determined.proofs.CoursesAgree.{courses_agree, due_agree}
use Rattle.py_determined.proofs.Requests.{BothAsk, BothUnbound, BothGlobal, BothBinary, BothCompare, BothTruth, BothMatch, BothHandled, BothRaisable, BothShow, BothCall, BothSend, BothThrow, BothClose, BothEnter, BothExit, BothNoExit, both_ask}
use Rattle.py_determined.proofs.Growing.{requests_grow, handled_grows}
use Rattle.py_determined.proofs.StatesAgree.{tops_same, made_count}
use Rattle.py_determined.proofs.RaisesAgree.{raise_same, IsToldRight, AsksRight}
use Rattle.py_determined.proofs.Pairing.{AreBorn, IsBare}
use Rattle.py_determined.proofs.Births.{AreGiven, body_same, raise_given, value_given, raised_given, not_both, nor_both, traceback_given}
use Rattle.py_determined.proofs.Telling.{SameTelling}
use Rattle.py_determined.proofs.Phases.{at_phase, IsAnswer, IsCourse, IsTold, Requesting, idle_next, asking_next, going_next, made_next, due_next}

-- two objects are related, or both are these
abbrev pub OrBoth : Relation → Obj → Obj → Obj → Obj → Type 0
OrBoth S x y v w = S v w ⊎ ((v ≡ x) × (w ≡ y))

-- an exit is told this as a traceback
abbrev pub IsToldAs : Request → Obj → Type 0
IsToldAs (request.Exit m c e t) x = x ≡ t
IsToldAs _ x = ⊥

-- what an event names that is new: the traceback that an exit is told, or what is no traceback, and has none
abbrev pub Brings : List Payload → Event → Obj → Type 0
Brings objects (event.Ask a r own at) x = IsToldAs r x
Brings objects _ x = IsBare objects x

-- two events are the same, or but for two objects that are new and alike, which both name at one place
pub record AreNext (S : Relation) (objects objects' : List Payload) (p q : Past) (e f : Event) : Type 0 where
  pub same : SameEvent S e f
      ⊎ ((x : Obj) × (y : Obj) × AreBorn S objects objects' p.events q.events x y × Brings objects e x × SameEvent (OrBoth S x y) e f × IsPair (paired (value_numbers e) (value_numbers f)) x y)
  pub right : AsksRight objects objects' e f

-- two that may be there are there
maybe_both : {A : Type 0} (R : A → A → Type 0) (v w : Option A) (a b : A) → v ≡ Some a → w ≡ Some b → SameMaybe R v w → R a b
maybe_both R (Some x) (Some y) a b is is' s = subst (λ z. R z b) (same_Some x a is) (subst (λ z. R x z) (same_Some y b is') s)
maybe_both R None w a b is is' s = absurd (cc is)
maybe_both R (Some x) None a b is is' s = absurd (cc is')

-- kinds of results
data ResultKind : Type 0 where
  OfValue OfRaise OfYield OfStop OfClose OfReport : ResultKind

abbrev reply_kind : Reply → ResultKind
reply_kind (Has p) = OfValue
reply_kind (Is v) = OfValue
reply_kind (Makes c vs) = OfValue
reply_kind (Creates b) = OfValue
reply_kind (Fails k s) = OfRaise
reply_kind (FailsFrom k s e) = OfRaise
reply_kind (Passes x) = OfRaise
reply_kind (Yields v) = OfYield
reply_kind (Stops v) = OfStop
reply_kind Closes = OfClose

abbrev kind_given : DriveAnswer → ResultKind
kind_given (answer.Returns v) = OfValue
kind_given (answer.Raises e) = OfRaise
kind_given (answer.Yields v) = OfYield
kind_given (answer.Stops v) = OfStop
kind_given answer.Closes = OfClose
kind_given (answer.Reported s) = OfReport

-- a result is of the kind of the reply that it gives
given_kind : (objects : List Payload) (es : List Event) (reply : Reply) (w : DriveAnswer) → GivesDrive objects es reply w → reply_kind reply ≡ kind_given w
given_kind objects es reply (answer.Yields v) is = ap (λ x. reply_kind x) is
given_kind objects es reply (answer.Stops v) is = ap (λ x. reply_kind x) is
given_kind objects es reply answer.Closes is = ap (λ x. reply_kind x) is
given_kind objects es (Has p) (answer.Returns v) is = refl
given_kind objects es (Is x) (answer.Returns v) is = refl
given_kind objects es (Makes c vs) (answer.Returns v) is = refl
given_kind objects es (Creates b) (answer.Returns v) is = refl
given_kind objects es (Fails k s) (answer.Raises e) is = refl
given_kind objects es (FailsFrom k s x) (answer.Raises e) is = refl
given_kind objects es (Passes x) (answer.Raises e) is = refl
given_kind objects es _ _ is = absurd is

module _ (S : Relation) where
  -- the same replies are of one kind
  reply_kinds_same : (x y : Reply) → SameReply S x y → reply_kind x ≡ reply_kind y
  reply_kinds_same (Has p) (Has q) s = refl
  reply_kinds_same (Is v) (Is w) s = refl
  reply_kinds_same (Makes c vs) (Makes d ws) s = refl
  reply_kinds_same (Creates b) (Creates c) s = refl
  reply_kinds_same (Fails k t) (Fails l u) s = refl
  reply_kinds_same (FailsFrom k t e) (FailsFrom l u f) s = refl
  reply_kinds_same (Passes x) (Passes y) s = refl
  reply_kinds_same (Yields v) (Yields w) s = refl
  reply_kinds_same (Stops v) (Stops w) s = refl
  reply_kinds_same Closes Closes s = refl
  reply_kinds_same _ _ s = absurd s

module _ (plan plan' : Plan) (objects objects' : List Payload) (signatures : plan.signatures ≡ plan'.signatures) (S : Relation) (alike : AreAlike S objects objects')
    (p q : Past) where
  -- what is given, and what comes next
  abbrev Given : Obj → Obj → Type 0
  Given v w = AreGiven S objects objects' alike p.events q.events v w

  abbrev Next : Event → Event → Type 0
  Next e f = AreNext S objects objects' p q e f

  -- what holds of events holds of those that are equal to them
  moved : (e e' f f' : Event) → e ≡ e' → f ≡ f' → Next e' f' → Next e f
  moved e e' f f' is is' next = subst (λ x. Next x f) (sym is) (subst (λ y. Next e' y) (sym is') next)

  -- where an activation runs in the one run, some runs in the other
  top_alone : (a : ℕ) (stack stack' : List Act) → SameActs S stack stack' → IsTop a stack → stack' ≡ [] → ⊥
  top_alone a [] stack' s top alone = top
  top_alone a (x ∷ stack) [] s top alone = s
  top_alone a (x ∷ stack) (y ∷ stack') s top alone = cc alone

  alone_top : (a : ℕ) (stack stack' : List Act) → SameActs S stack stack' → stack ≡ [] → IsTop a stack' → ⊥
  alone_top a stack [] s alone top = top
  alone_top a [] (y ∷ stack') s alone top = s
  alone_top a (x ∷ stack) (y ∷ stack') s alone top = cc alone

  -- ---- answers

  got_next : (a b : ℕ) (x y : Reply) (w w' : GotAnswer) → a ≡ b → SameReply S (for_body x) (for_body y) → GivesBody objects p.events x w → GivesBody objects' q.events y w'
      → Next (event.Got a w) (event.Got b w')
  got_next a b x y (got.Value v) (got.Value w) same s gives gives' = elim (value_given S objects objects' alike p.events q.events (for_body x) (for_body y) v w s gives gives') [
    | inl related ↦ record { same = inl (same, related); right = tt }
    | inr (born, bare) ↦ record { same = inr (v, w, born, bare, (same, inr (refl, refl)), inl (refl, refl)); right = tt }
  ]
  got_next a b x y (got.Raise e) (got.Raise f) same s gives gives' = elim (raised_given S objects objects' alike p.events q.events (for_body x) (for_body y) e f s gives gives') [
    | inl related ↦ record { same = inl (same, related); right = tt }
    | inr (born, bare) ↦ record { same = inr (as_object e, as_object f, born, bare, (same, inr (refl, refl)), inl (refl, refl)); right = tt }
  ]
  got_next a b x y (got.Value v) (got.Raise f) same s gives gives' = absurd (not_both S objects objects' alike p.events q.events (for_body x) (for_body y) v f s gives gives')
  got_next a b x y (got.Raise e) (got.Value w) same s gives gives' = absurd (nor_both S objects objects' alike p.events q.events (for_body x) (for_body y) e w s gives gives')
  got_next a b x y (got.Stop v) w' same s gives gives' = absurd gives
  got_next a b x y w (got.Stop v) same s gives gives' = absurd gives'

  yields_same : (x y : Reply) (v w : Obj) → SameReply S x y → x ≡ Yields v → y ≡ Yields w → S v w
  yields_same x y v w s is is' = subst (λ z. SameReply S (Yields v) z) is' (subst (λ z. SameReply S z y) is s)

  stops_same : (x y : Reply) (v w : Option Obj) → SameReply S x y → x ≡ Stops v → y ≡ Stops w → SameMaybe S v w
  stops_same x y v w s is is' = subst (λ z. SameReply S (Stops v) z) is' (subst (λ z. SameReply S z y) is s)

  result_next : (d d' : ℕ) (x y : Reply) (w w' : DriveAnswer) → d ≡ d' → SameReply S x y → kind_given w ≡ kind_given w' → GivesDrive objects p.events x w → GivesDrive objects' q.events y w'
      → Next (event.Result d w) (event.Result d' w')
  result_next d d' x y (answer.Returns v) (answer.Returns w) same s kind gives gives' = elim (value_given S objects objects' alike p.events q.events x y v w s gives gives') [
    | inl related ↦ record { same = inl (same, related); right = tt }
    | inr (born, bare) ↦ record { same = inr (v, w, born, bare, (same, inr (refl, refl)), inl (refl, refl)); right = tt }
  ]
  result_next d d' x y (answer.Raises e) (answer.Raises f) same s kind gives gives' = elim (raised_given S objects objects' alike p.events q.events x y e f s gives gives') [
    | inl related ↦ record { same = inl (same, related); right = tt }
    | inr (born, bare) ↦ record { same = inr (as_object e, as_object f, born, bare, (same, inr (refl, refl)), inl (refl, refl)); right = tt }
  ]
  result_next d d' x y (answer.Yields v) (answer.Yields w) same s kind gives gives' = record { same = inl (same, yields_same x y v w s gives gives'); right = tt }
  result_next d d' x y (answer.Stops v) (answer.Stops w) same s kind gives gives' = record { same = inl (same, stops_same x y v w s gives gives'); right = tt }
  result_next d d' x y answer.Closes answer.Closes same s kind gives gives' = record { same = inl (same, tt); right = tt }
  result_next d d' x y (answer.Reported t) w' same s kind gives gives' = absurd gives
  result_next d d' x y w (answer.Reported t) same s kind gives gives' = absurd gives'
  result_next d d' x y _ _ same s kind gives gives' = absurd (cc kind)

  module _ (state : SameState S p.state q.state) where
    answer_next : (x y : Reply) (e f : Event) → SameReply S x y → IsAnswer plan objects p x e → IsAnswer plan' objects' q y f → Next e f
    answer_next x y (event.Got a w) (event.Got b w') s (top, gives) (top', gives') =
        got_next a b x y w w' (tops_same S a b p.state.stack q.state.stack state.stack top top') (body_same S x y s) gives gives'
    answer_next x y (event.Result d w) (event.Result d' w') s (next, alone, gives) (next', alone', gives') =
        result_next d d' x y w w' (next ∙ ap suc state.done ∙ sym next') s
        (sym (given_kind objects p.events x w gives) ∙ reply_kinds_same S x y s ∙ given_kind objects' q.events y w' gives') gives gives'
    answer_next x y (event.Got a w) (event.Result d w') s (top, gives) (next, alone, gives') = absurd (top_alone a p.state.stack q.state.stack state.stack top alone)
    answer_next x y (event.Result d w) (event.Got a w') s (next, alone, gives) (top, gives') = absurd (alone_top a p.state.stack q.state.stack state.stack alone top)
    answer_next x y (event.Got a w) _ s is is' = absurd is'
    answer_next x y (event.Result d w) _ s is is' = absurd is'
    answer_next x y _ _ s is is' = absurd is

    made_numbers : length p.state.made ≡ length q.state.made
    made_numbers = made_count S p.state.made q.state.made state.made

    -- ---- courses

    course_next : (c c' : Course) (e f : Event) → SameCourse S c c' → IsCourse plan objects p c e → IsCourse plan' objects' q c' f → Next e f
    course_next (Says x) (Says y) e f s is is' = answer_next x y e f s is is'
    course_next (Enters g vs) (Enters h ws) e f s is is' = moved e _ f _ is is' (record { same = inl (ap suc made_numbers, s.0, s.1); right = tt })
    course_next (Begins a) (Begins b) e f s is is' = moved e _ f _ is is' (record { same = inl (s, tt); right = tt })
    course_next (Sends a v) (Sends b w) e f s is is' = moved e _ f _ is is' (record { same = inl (s.0, s.1); right = tt })
    course_next (Throws a x) (Throws b y) e f s (k, is, raise) (l, is', raise') =
        moved e _ f _ is is'
        (elim (raise_given S objects objects' alike p.events q.events x y k l s.1 raise raise') [
          | inl related ↦ record { same = inl (s.0, related); right = tt }
          | inr (born, bare) ↦ record { same = inr (as_object k, as_object l, born, bare, (s.0, inr (refl, refl)), inl (refl, refl)); right = tt }
        ])
    course_next _ _ e f s is is' = absurd s

    -- ---- functions

    -- related functions are one, and of one kind
    function_same : (f g : Obj) (k k' : Option CoroKind) (is : IsOfKind plan objects f k) (is' : IsOfKind plan' objects' g k') → S f g → (is.body ≡ is'.body) × (k ≡ k')
    function_same f g k k' is is' s =
        let body : is.body ≡ is'.body = alike.payloads f g (payload.Function is.body) (payload.Function is'.body) s is.entry is'.entry in
        let there : slice_get plan'.signatures is'.body.code ≡ Some is.signature =
        subst (λ (b : FunctionBody). slice_get plan'.signatures b.code ≡ Some is.signature) body (subst (λ l. slice_get l is.body.code ≡ Some is.signature) signatures is.signed) in
        let same : is.signature ≡ is'.signature = same_Some is.signature is'.signature (sym there ∙ is'.signed) in
        (body, sym is.kind_is ∙ ap (λ (x : Signature). x.kind) same ∙ is'.kind_is)

    -- so calls of them make the same generator
    generator_same : (f g : Obj) (x y : Reply) → S f g → MakesGenerator plan objects f (length p.state.made) x → MakesGenerator plan' objects' g (length q.state.made) y → SameReply S x y
    generator_same f g x y s (k, is, made) (k', is', made') =
        let both = function_same f g (Some k) (Some k') is is' s in
        let kind : k ≡ k' = same_Some k k' both.1 in
        let b : CoroBody = record { activation = length p.state.made; name = is.body.name; kind = k } in
        let c : CoroBody = record { activation = length q.state.made; name = is'.body.name; kind = k' } in
        let bodies : b ≡ c =
        ap (λ n. record { activation = n; name = is.body.name; kind = k }) made_numbers ∙ ap (λ (z : FunctionBody). record { activation = length q.state.made; name = z.name; kind = k }) both.0
        ∙ ap (λ z. record { activation = length q.state.made; name = is'.body.name; kind = z }) kind in
        subst (λ z. SameReply S z y) (sym made) (subst (λ z. SameReply S (Creates b) z) (sym made') bodies)

    -- ---- phases

    idle_same : (e f : Event) → MayCome plan objects (at_phase p Idle) e → MayCome plan' objects' (at_phase q Idle) f → Next e f
    idle_same e f may may' =
        let (d, is, next) = idle_next plan objects p e may in
        let (d', is', next') = idle_next plan' objects' q f may' in
        moved e _ f _ is is' (record { same = inl (next ∙ ap suc state.done ∙ sym next'); right = tt })

    asking_same : (e f : Event) → SameSetting S (setting plan p) (setting plan' q) → SameMaybe (SameAsked S) (question plan p.state) (question plan' q.state)
        → Requesting plan objects p × Requesting plan' objects' q → MayCome plan objects (at_phase p Asking) e → MayCome plan' objects' (at_phase q Asking) f → Next e f
    asking_same e f settings questions none may may' =
        let (r, c, open_, comes, is) = asking_next plan objects p e none.0 may in
        let (r', c', open_', comes', is') = asking_next plan' objects' q f none.1 may' in
        course_next c c' e f (courses_agree S objects objects' alike (setting plan p) (setting plan' q) r r' c c' settings (maybe_both (SameAsked S) _ _ r r' open_ open_' questions) comes comes') is is'

    made_same : (f g : Obj) (x y : Event) → S f g → MayCome plan objects (at_phase p (Made f)) x → MayCome plan' objects' (at_phase q (Made g)) y → Next x y
    made_same f g x y s may may' = both (made_next plan objects p f x may) (made_next plan' objects' q g y may')
      where
        both : ((x ≡ event.Resume (length p.state.made) how.Start) × IsOfKind plan objects f None)
            ⊎ ((reply : Reply) × MakesGenerator plan objects f (length p.state.made) reply × IsAnswer plan objects p reply x)
            → ((y ≡ event.Resume (length q.state.made) how.Start) × IsOfKind plan' objects' g None)
            ⊎ ((reply : Reply) × MakesGenerator plan' objects' g (length q.state.made) reply × IsAnswer plan' objects' q reply y)
            → Next x y
        both (inl (is, kind)) (inl (is', kind')) = moved x _ y _ is is' (record { same = inl (made_numbers, tt); right = tt })
        both (inr (reply, makes, is)) (inr (reply', makes', is')) = answer_next reply reply' x y (generator_same f g reply reply' s makes makes') is is'
        both (inl (is, kind)) (inr (reply', (k, kind', made), is')) = absurd (cc (function_same f g None (Some k) kind kind' s).1)
        both (inr (reply, (k, kind, made), is)) (inl (is', kind')) = absurd (cc (function_same f g (Some k) None kind kind' s).1)

    due_same : (how how' : CoroEnd) (e f : Event) → SameLeft S how how' → SameMaybe (SameAsked S) (question plan p.state) (question plan' q.state)
        → MayCome plan objects (at_phase p (Due how)) e → MayCome plan' objects' (at_phase q (Due how')) f → Next e f
    due_same how how' e f left questions may may' =
        let (r, reply, open_, due, is) = due_next plan objects p how e may in
        let (r', reply', open_', due', is') = due_next plan' objects' q how' f may' in
        answer_next reply reply' e f (due_agree S objects objects' alike r r' how how' reply reply' (maybe_both (SameAsked S) _ _ r r' open_ open_' questions) left due due') is is'

    -- ---- what is told

    -- two None are related
    none_same : (v w : Obj) → HasPayload objects v payload.None → HasPayload objects' w payload.None → S v w
    none_same v w has has' = alike.literals payload.None v w refl has has'

    -- the tracebacks that two exits are told
    raise_told : (x y : Option Raise) (t u : Obj) → SameMaybe (λ (x : Raise) (y : Raise). SameMaybe S x.traceback y.traceback) x y → IsToldOf objects p.events x t → IsToldOf objects' q.events y u
        → Given t u
    raise_told None None t u s has has' = inl (none_same t u has has')
    raise_told (Some x) (Some y) t u s is is' = traceback_given S objects objects' alike p.events q.events x.traceback y.traceback t u s is is'
    raise_told _ _ t u s is is' = absurd s

    module _ (raises : SameRaises S objects (raises_of p.events) (raises_of q.events)) where
      -- two exits of related exceptions are told related tracebacks, or new ones; or both are told of None
      exit_told : (m m' c c' e e' t t' : Obj) → S e e' → Tells objects p.events (raises_of p.events) (request.Exit m c e t) → Tells objects' q.events (raises_of q.events) (request.Exit m' c' e' t')
          → Given t t' × IsToldRight objects objects' (request.Exit m c e t) (request.Exit m' c' e' t')
      exit_told m m' c c' e e' t t' s (inl none) (inl none') = (inl (none_same t t' none.2 none'.2), inr (none.1, none'.1))
      exit_told m m' c c' e e' t t' s (inr (body, has, class, told)) (inr (body', has', class', told')) = (
        raise_told (raise_of e (raises_of p.events)) (raise_of e' (raises_of q.events)) t t'
            (raise_same S objects objects' alike e e' body (raises_of p.events) (raises_of q.events) s has raises) told told',
        inl (body, has),
      )
      exit_told m m' c c' e e' t t' s (inl none) (inr (body', has', class', told')) = absurd (alike.payloads e e' payload.None (payload.Exception body') s none.1 has')
      exit_told m m' c c' e e' t t' s (inr (body, has, class, told)) (inl none') = absurd (alike.payloads e e' (payload.Exception body) payload.None s has none'.1)

      -- a pair behind what is handled
      behind_handled : (h h' : Option PyBaseExceptionRef) (is js : List ℕ) (v w : Obj) → SameHandled S h h' → IsPair (paired is js) v w
          → IsPair (paired (number_if h ++ is) (number_if h' ++ js)) v w
      behind_handled None None is js v w s pair = pair
      behind_handled (Some x) (Some y) is js v w s pair = inr pair
      behind_handled _ _ is js v w s pair = absurd s

      -- two questions, where what they tell is right
      ask_kinds : (a b at at' : ℕ) (own own' : Option PyBaseExceptionRef) (r r' : Request) → a ≡ b → SameHandled S own own' → BothAsk S r r' → SameRequest S r r'
          → Tells objects p.events (raises_of p.events) r → Tells objects' q.events (raises_of q.events) r' → Next (event.Ask a r own at) (event.Ask b r' own' at')
      ask_kinds a b at at' own own' _ _ same handled (BothExit m m' c c' e e' t t' s k x) asked tells tells' =
          let (given, right) = exit_told m m' c c' e e' t t' x tells tells' in
          elim given [
            | inl related ↦ record { same = inl (same, (asked, related), handled); right = right }
            | inr born ↦ record {
              same = inr (
                t,
                t',
                born,
                refl,
                (
                  same,
                  (requests_grow S (OrBoth S t t') (λ v w s. inl s) (request.Exit m c e t) (request.Exit m' c' e' t') asked, inr (refl, refl)),
                  handled_grows S (OrBoth S t t') (λ v w s. inl s) own own' handled,
                ),
                behind_handled own own' _ _ t t' handled (inr (inr (inr (inl (refl, refl))))),
              );
              right = right;
            }
          ]
      ask_kinds a b at at' own own' _ _ same handled (BothUnbound x y e) asked tells tells' = record { same = inl (same, (asked, tt), handled); right = tt }
      ask_kinds a b at at' own own' _ _ same handled (BothGlobal d d' x y e) asked tells tells' = record { same = inl (same, (asked, tt), handled); right = tt }
      ask_kinds a b at at' own own' _ _ same handled (BothBinary op op' c c' d d' e s t) asked tells tells' = record { same = inl (same, (asked, tt), handled); right = tt }
      ask_kinds a b at at' own own' _ _ same handled (BothCompare op op' c c' d d' e s t) asked tells tells' = record { same = inl (same, (asked, tt), handled); right = tt }
      ask_kinds a b at at' own own' _ _ same handled (BothTruth v w s) asked tells tells' = record { same = inl (same, (asked, tt), handled); right = tt }
      ask_kinds a b at at' own own' _ _ same handled (BothMatch e e' c c' s t) asked tells tells' = record { same = inl (same, (asked, tt), handled); right = tt }
      ask_kinds a b at at' own own' _ _ same handled BothHandled asked tells tells' = record { same = inl (same, (asked, tt), handled); right = tt }
      ask_kinds a b at at' own own' _ _ same handled (BothRaisable v w s) asked tells tells' = record { same = inl (same, (asked, tt), handled); right = tt }
      ask_kinds a b at at' own own' _ _ same handled (BothShow v w s) asked tells tells' = record { same = inl (same, (asked, tt), handled); right = tt }
      ask_kinds a b at at' own own' _ _ same handled (BothCall f g vs ws s t) asked tells tells' = record { same = inl (same, (asked, tt), handled); right = tt }
      ask_kinds a b at at' own own' _ _ same handled (BothSend g g' v w s t) asked tells tells' = record { same = inl (same, (asked, tt), handled); right = tt }
      ask_kinds a b at at' own own' _ _ same handled (BothThrow g g' c c' v v' t t' s k x y) asked tells tells' = record { same = inl (same, (asked, tt), handled); right = tt }
      ask_kinds a b at at' own own' _ _ same handled (BothClose g g' s) asked tells tells' = record { same = inl (same, (asked, tt), handled); right = tt }
      ask_kinds a b at at' own own' _ _ same handled (BothEnter m m' s) asked tells tells' = record { same = inl (same, (asked, tt), handled); right = tt }
      ask_kinds a b at at' own own' _ _ same handled (BothNoExit m m' s) asked tells tells' = record { same = inl (same, (asked, tt), handled); right = tt }

      -- what the innermost activations tell, where it agrees
      pub told_next : (e f : Event) → SameTelling S e f → IsTold plan objects p e → IsTold plan' objects' q f → TellsRaise objects p.events e → TellsRaise objects' q.events f → Next e f
      told_next (event.Ask a r own at) (event.Ask b r' own' at') s top top' tells tells' =
          ask_kinds a b at at' own own' r r' (tops_same S a b p.state.stack q.state.stack state.stack top top') s.1 (both_ask S r r' s.0) s.0 tells tells'
      told_next (event.Round a at) (event.Round b at') s top top' tells tells' = record { same = inl (tops_same S a b p.state.stack q.state.stack state.stack top top'); right = tt }
      told_next (event.Yield a v at) (event.Yield b w at') s top top' tells tells' = record { same = inl (tops_same S a b p.state.stack q.state.stack state.stack top top', s); right = tt }
      told_next (event.End a e at) (event.End b f at') s top top' tells tells' = record { same = inl (tops_same S a b p.state.stack q.state.stack state.stack top top', s); right = tt }
      told_next _ _ s told told' tells tells' = absurd s

    -- what comes next, in each phase, where what is told next agrees
    pub phase_next : (x y : Phase) (e f : Event) → SamePhase S x y → SameRaises S objects (raises_of p.events) (raises_of q.events)
        → ((x ≡ Idle) ⊎ (SameSetting S (setting plan p) (setting plan' q) × SameMaybe (SameAsked S) (question plan p.state) (question plan' q.state)))
        → ((x ≡ Idle) ⊎ (Requesting plan objects p × Requesting plan' objects' q))
        → (x ≡ Going → IsTold plan objects p e → IsTold plan' objects' q f → SameTelling S e f) → TellsRaise objects p.events e → TellsRaise objects' q.events f
        → MayCome plan objects (at_phase p x) e → MayCome plan' objects' (at_phase q y) f → Next e f
    phase_next Idle Idle e f phase raises open_ forms telling tells tells' may may' = idle_same e f may may'
    phase_next Asking Asking e f phase raises (inr (settings, questions)) (inr none) telling tells tells' may may' = asking_same e f settings questions none may may'
    phase_next Asking Asking e f phase raises (inl idle) forms telling tells tells' may may' = absurd (cc idle)
    phase_next Asking Asking e f phase raises (inr open_) (inl idle) telling tells tells' may may' = absurd (cc idle)
    phase_next Going Going e f phase raises open_ forms telling tells tells' may may' =
        let first = going_next plan objects p e may in
        let second = going_next plan' objects' q f may' in
        told_next raises e f (telling refl first second) first second tells tells'
    phase_next (Made g) (Made h) e f phase raises open_ forms telling tells tells' may may' = made_same g h e f phase may may'
    phase_next (Due how) (Due how') e f phase raises (inr (settings, questions)) forms telling tells tells' may may' = due_same how how' e f phase questions may may'
    phase_next (Due how) (Due how') e f phase raises (inl idle) forms telling tells tells' may may' = absurd (cc idle)
    phase_next _ _ e f phase raises open_ forms telling tells tells' may may' = absurd phase
