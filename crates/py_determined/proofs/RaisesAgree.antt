-- Behind the same events the raises are the same, where exits are told of the same.
use Rattle.std.proofs.Common.{◌≡◌, ◌⊎◌, inl, inr, List, [], ◌∷◌, Bool, true, false, eqb, Some, None, refl, sym, subst, ◌∙◌}
use Rattle.std.proofs.lemmas.Bool.{eqb-true}
use Rattle.std.specs.Prelude.{Option, slice_get, if◌then◌else◌}
use Rattle.std.proofs.lemmas.Option.{same_Some}
use Rattle.py_objects.specs.declared.payload.Payload.{Payload}
use Rattle.py_objects.specs.declared.payload.Payload.TheVariants as payload
use Rattle.py_objects.specs.declared.payload.ExceptionBody.{ExceptionBody}
use Rattle.py_objects.specs.declared.request.Request.{Request}
use Rattle.py_objects.specs.declared.request.Request.TheVariants as request
use Rattle.py_objects.specs.declared.event.GotAnswer.{GotAnswer}
use Rattle.py_objects.specs.declared.event.GotAnswer.TheVariants as got
use Rattle.py_objects.specs.declared.event.Event.{Event}
use Rattle.py_objects.specs.declared.event.Event.TheVariants as event
use Rattle.py_objects.specs.Objects.{Obj, HasPayload}
use Rattle.py_run.specs.Run.{State, open_in}
use Rattle.py_run.specs.Raises.{is_raising, raised_by}
use Rattle.py_determined.specs.Raises.{Raise, raise_of, with_raise, with_traceback, told_by, raises_after}
use Rattle.py_agreement.specs.Agreement.{Relation, SameMaybe, SameAnswer, has_literal}
use Rattle.py_determined.specs.Alike.{Alike, AreAlike}
use Rattle.py_determined.specs.Sameness.{SameTold, SameAsked}
use Rattle.py_determined.specs.Events.{SameEvent}
use Rattle.py_determined.proofs.SameStates.{SameState, SameRaises}
use Rattle.py_determined.proofs.AlikeLemmas.{eqb_turned}
use Rattle.py_determined.proofs.Requests.{BothAsk, BothUnbound, BothGlobal, BothBinary, BothCompare, BothTruth, BothMatch, BothHandled, BothRaisable, BothShow, BothCall, BothSend, BothThrow, BothClose, BothEnter, BothExit, BothNoExit, both_ask}
use Rattle.py_determined.proofs.StatesAgree.{open_same}

-- two exits are told of exceptions, or both of none
abbrev pub IsToldRight : List Payload → List Payload → Request → Request → Type 0
IsToldRight objects objects' (request.Exit m c e t) (request.Exit m' c' f u) =
    ((body : ExceptionBody) × HasPayload objects e (payload.Exception body)) ⊎ (HasPayload objects e payload.None × HasPayload objects' f payload.None)
IsToldRight objects objects' _ _ = Unit {0}

-- where two events ask this
abbrev pub AsksRight : List Payload → List Payload → Event → Event → Type 0
AsksRight objects objects' (event.Ask a r own at) (event.Ask b r' own' at') = IsToldRight objects objects' r r'
AsksRight objects objects' _ _ = Unit {0}

module _ (S : Relation) (objects objects' : List Payload) (alike : AreAlike S objects objects') where
  -- two tests that come to the same do so turned
  tests_turned : (v v2 w w2 : Obj) → eqb v2.number v.number ≡ eqb w2.number w.number → eqb v.number v2.number ≡ eqb w.number w2.number
  tests_turned v v2 w w2 e = eqb_turned v.number v2.number ∙ e ∙ eqb_turned w2.number w.number

  -- the last raise of a related exception, with its traceback
  pub raise_same : (e f : Obj) (body : ExceptionBody) (xs ys : List Raise) → S e f → HasPayload objects e (payload.Exception body) → SameRaises S objects xs ys
      → SameMaybe (λ (x : Raise) (y : Raise). SameMaybe S x.traceback y.traceback) (raise_of e xs) (raise_of f ys)
  raise_same e f body [] [] s has t = tt
  raise_same e f body (x ∷ xs) (y ∷ ys) s has t =
      pick (eqb x.exception.number e.number) (eqb y.exception.number f.number) refl
      (tests_turned x.exception e y.exception f (alike.one e x.exception f y.exception (payload.Exception body) s t.0.exception has refl))
      (raise_same e f body xs ys s has t.1)
    where
      pick : (c d : Bool) → eqb x.exception.number e.number ≡ c → c ≡ d → SameMaybe (λ (x : Raise) (y : Raise). SameMaybe S x.traceback y.traceback) (raise_of e xs) (raise_of f ys)
          → SameMaybe (λ (x : Raise) (y : Raise). SameMaybe S x.traceback y.traceback) (if c then Some x else raise_of e xs) (if d then Some y else raise_of f ys)
      pick true true is same rest =
          let here : slice_get objects x.exception.number ≡ Some (payload.Exception body) =
          subst (λ n. slice_get objects n ≡ Some (payload.Exception body)) (sym (eqb-true x.exception.number e.number is)) has in
          t.0.traceback (payload.Exception body) here refl
      pick false false is same rest = rest
      pick true false is same rest = absurd (cc same)
      pick false true is same rest = absurd (cc same)
  raise_same e f body _ _ s has t = absurd t

  -- an exit is told the traceback of one
  told_raise_same : (e f t u : Obj) (body : ExceptionBody) (xs ys : List Raise) → S e f → S t u → HasPayload objects e (payload.Exception body) → SameRaises S objects xs ys
      → SameRaises S objects (with_traceback e t xs) (with_traceback f u ys)
  told_raise_same e f t u body [] [] s told has same = tt
  told_raise_same e f t u body (x ∷ xs) (y ∷ ys) s told has same =
      pick (eqb x.exception.number e.number) (eqb y.exception.number f.number)
      (tests_turned x.exception e y.exception f (alike.one e x.exception f y.exception (payload.Exception body) s same.0.exception has refl))
      (told_raise_same e f t u body xs ys s told has same.1)
    where
      pick : (c d : Bool) → c ≡ d → SameRaises S objects (with_traceback e t xs) (with_traceback f u ys)
          → SameRaises S objects (if c then record x { traceback = Some t } ∷ xs else x ∷ with_traceback e t xs) (if d then record y { traceback = Some u } ∷ ys else y ∷ with_traceback f u ys)
      pick true true is rest = (record { exception = same.0.exception; traceback = λ p there plain. told }, same.1)
      pick false false is rest = (same.0, rest)
      pick true false is rest = absurd (cc is)
      pick false true is rest = absurd (cc is)
  told_raise_same e f t u body _ _ s told has same = absurd same

  -- or three None, which leaves the raises of exceptions
  none_left : (e t : Obj) (xs ys : List Raise) → HasPayload objects e payload.None → SameRaises S objects xs ys → SameRaises S objects (with_traceback e t xs) ys
  none_left e t [] [] has same = tt
  none_left e t (x ∷ xs) (y ∷ ys) has same = pick (eqb x.exception.number e.number) refl (none_left e t xs ys has same.1)
    where
      pick : (c : Bool) → eqb x.exception.number e.number ≡ c → SameRaises S objects (with_traceback e t xs) ys
          → SameRaises S objects (if c then record x { traceback = Some t } ∷ xs else x ∷ with_traceback e t xs) (y ∷ ys)
      pick true is rest = (
        record {
          exception = same.0.exception;
          traceback = λ p there plain.
              let here : slice_get objects x.exception.number ≡ Some payload.None = subst (λ n. slice_get objects n ≡ Some payload.None) (sym (eqb-true x.exception.number e.number is)) has in
              let none : p ≡ payload.None = same_Some p payload.None (sym there ∙ here) in
              let clash : true ≡ false = subst (λ q. has_literal q ≡ false) none plain in absurd (cc clash);
        },
        same.1,
      )
      pick false is rest = (same.0, rest)
  none_left e t _ _ has same = absurd same

  -- what no literal stands for isn't alike to None
  not_none : (p : Payload) → has_literal p ≡ false → Alike S objects objects' p payload.None → ⊥
  not_none payload.None plain is = cc plain
  not_none _ plain is = is

  -- nor do the raises change where None is told of on the other side
  none_right : (f u : Obj) (xs ys : List Raise) → HasPayload objects' f payload.None → SameRaises S objects xs ys → SameRaises S objects xs (with_traceback f u ys)
  none_right f u [] [] has same = tt
  none_right f u (x ∷ xs) (y ∷ ys) has same = pick (eqb y.exception.number f.number) refl (none_right f u xs ys has same.1)
    where
      pick : (c : Bool) → eqb y.exception.number f.number ≡ c → SameRaises S objects xs (with_traceback f u ys)
          → SameRaises S objects (x ∷ xs) (if c then record y { traceback = Some u } ∷ ys else y ∷ with_traceback f u ys)
      pick true is rest = (
        record {
          exception = same.0.exception;
          traceback = λ p there plain.
              let here : slice_get objects' y.exception.number ≡ Some payload.None = subst (λ n. slice_get objects' n ≡ Some payload.None) (sym (eqb-true y.exception.number f.number is)) has in
              absurd (not_none p plain (alike.payloads x.exception y.exception p payload.None same.0.exception there here));
        },
        same.1,
      )
      pick false is rest = (same.0, rest)
  none_right f u _ _ has same = absurd same

  -- what is told of related objects, of which both are exceptions, or none is anything
  told_same : (e f t u : Obj) (xs ys : List Raise) → S e f → S t u
      → ((body : ExceptionBody) × HasPayload objects e (payload.Exception body)) ⊎ (HasPayload objects e payload.None × HasPayload objects' f payload.None)
      → SameRaises S objects xs ys → SameRaises S objects (with_traceback e t xs) (with_traceback f u ys)
  told_same e f t u xs ys s told (inl (body, has)) same = told_raise_same e f t u body xs ys s told has same
  told_same e f t u xs ys s told (inr (none, none')) same = none_left e t xs (with_traceback f u ys) none (none_right f u xs ys none' same)

  module _ (xs ys : List Raise) (same : SameRaises S objects xs ys) where
    ask_same : (r r' : Request) → BothAsk S r r' → SameTold S r r' → IsToldRight objects objects' r r' → SameRaises S objects (told_by r xs) (told_by r' ys)
    ask_same _ _ (BothExit m m' c c' e e' t t' s k x) told right = told_same e e' t t' xs ys x told right same
    ask_same _ _ (BothUnbound x y e) told right = same
    ask_same _ _ (BothGlobal d d' x y e) told right = same
    ask_same _ _ (BothBinary op op' a a' b b' e s t) told right = same
    ask_same _ _ (BothCompare op op' a a' b b' e s t) told right = same
    ask_same _ _ (BothTruth v w s) told right = same
    ask_same _ _ (BothMatch e e' c c' s t) told right = same
    ask_same _ _ BothHandled told right = same
    ask_same _ _ (BothRaisable v w s) told right = same
    ask_same _ _ (BothShow v w s) told right = same
    ask_same _ _ (BothCall f g vs ws s t) told right = same
    ask_same _ _ (BothSend g g' v w s t) told right = same
    ask_same _ _ (BothThrow g g' c c' v v' t t' s k x y) told right = same
    ask_same _ _ (BothClose g g' s) told right = same
    ask_same _ _ (BothEnter m m' s) told right = same
    ask_same _ _ (BothNoExit m m' s) told right = same

    raised_on : (v w : Option Obj) → SameMaybe S v w → SameRaises S objects (with_raise v xs) (with_raise w ys)
    raised_on None None s = same
    raised_on (Some v) (Some w) s = (record { exception = s; traceback = λ p has is. tt }, same)
    raised_on _ _ s = absurd s

  raising_kind : (r r' : Request) → BothAsk S r r' → is_raising (Some r) ≡ is_raising (Some r')
  raising_kind _ _ (BothUnbound x y e) = refl
  raising_kind _ _ (BothGlobal d d' x y e) = refl
  raising_kind _ _ (BothBinary op op' a a' b b' e s t) = refl
  raising_kind _ _ (BothCompare op op' a a' b b' e s t) = refl
  raising_kind _ _ (BothTruth v w s) = refl
  raising_kind _ _ (BothMatch e e' c c' s t) = refl
  raising_kind _ _ BothHandled = refl
  raising_kind _ _ (BothRaisable v w s) = refl
  raising_kind _ _ (BothShow v w s) = refl
  raising_kind _ _ (BothCall f g vs ws s t) = refl
  raising_kind _ _ (BothSend g g' v w s t) = refl
  raising_kind _ _ (BothThrow g g' c c' v v' t t' s k x y) = refl
  raising_kind _ _ (BothClose g g' s) = refl
  raising_kind _ _ (BothEnter m m' s) = refl
  raising_kind _ _ (BothExit m m' c c' e e' t t' s k x) = refl
  raising_kind _ _ (BothNoExit m m' s) = refl

  raising_same : (q q' : Option Request) → SameMaybe (SameAsked S) q q' → is_raising q ≡ is_raising q'
  raising_same None None s = refl
  raising_same (Some r) (Some r') s = raising_kind r r' (both_ask S r r' s.0)
  raising_same _ _ s = absurd s

  raised_same : (q q' : Option Request) (w w' : GotAnswer) → SameMaybe (SameAsked S) q q' → SameAnswer S w w' → SameMaybe S (raised_by q w) (raised_by q' w')
  raised_same q q' (got.Value v) (got.Value w) asked s = pick (is_raising q) (is_raising q') (raising_same q q' asked)
    where
      pick : (c d : Bool) → c ≡ d → SameMaybe S (if c then Some v else None) (if d then Some w else None)
      pick true true e = s
      pick false false e = tt
      pick true false e = absurd (cc e)
      pick false true e = absurd (cc e)
  raised_same q q' (got.Stop v) (got.Stop w) asked s = tt
  raised_same q q' (got.Raise e) (got.Raise f) asked s = s
  raised_same q q' _ _ asked s = absurd s

  -- the raises behind the same event
  pub raises_same : (s s' : State) (xs ys : List Raise) (e f : Event) → SameState S s s' → SameRaises S objects xs ys → SameEvent S e f → AsksRight objects objects' e f
      → SameRaises S objects (raises_after s xs e) (raises_after s' ys f)
  raises_same s s' xs ys (event.Drive d) (event.Drive d') same t is right = t
  raises_same s s' xs ys (event.Result d w) (event.Result d' w') same t is right = t
  raises_same s s' xs ys (event.Make a f vs) (event.Make b g ws) same t is right = t
  raises_same s s' xs ys (event.Resume a h) (event.Resume b h') same t is right = t
  raises_same s s' xs ys (event.Ask a r own at) (event.Ask b r' own' at') same t is right = ask_same xs ys t r r' (both_ask S r r' is.1.0) is.1.1 right
  raises_same s s' xs ys (event.Got a w) (event.Got b w') same t is right =
      raised_on xs ys t _ _ (raised_same (open_in None s.stack) (open_in None s'.stack) w w' (open_same S None None s.stack s'.stack tt same.stack) is.1)
  raises_same s s' xs ys (event.Round a at) (event.Round b at') same t is right = t
  raises_same s s' xs ys (event.Yield a v at) (event.Yield b w at') same t is right = t
  raises_same s s' xs ys (event.End a e at) (event.End b f at') same t is right = t
  raises_same s s' xs ys _ _ same t is right = absurd is
