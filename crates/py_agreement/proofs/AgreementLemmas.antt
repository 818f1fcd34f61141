-- Two tellings in the same words agree, where what may follow them agrees.
use Rattle.std.proofs.Common.{◌≡◌, ℕ, Bool, true, false, List, [], ◌∷◌, Some, None, refl, sym, ap, ◌⊎◌, inl, inr}
use Rattle.std.specs.Prelude.{Option, bytes_eq, if◌then◌else◌}
use Rattle.py_objects.specs.declared.request.Request.{Request}
use Rattle.py_objects.specs.declared.event.GotAnswer.{GotAnswer}
use Rattle.py_objects.specs.declared.event.GotAnswer.TheVariants as got
use Rattle.py_objects.specs.declared.event.ResumeHow.{ResumeHow}
use Rattle.py_objects.specs.declared.event.ResumeHow.TheVariants as how
use Rattle.py_objects.specs.Objects.{Obj}
use Rattle.py_objects.specs.Own.{Own, Resumes, Asks, Gets, Rounds, Yields}
use Rattle.py_objects.specs.Telling.{Value, Given, Failed, Stopped, AfterValue, Answers, Answered, Asked, GoesOn, Resumed, Yielded, Rounded}
use Rattle.py_tree.specs.Tree.{Name}
use Rattle.py_tree.specs.Binding.{Env, find_local, set_local, bind, begun}
use Rattle.py_tree.specs.Outcome.{Handled}
use Rattle.py_agreement.specs.Agreement.{Relation, SameException, SameMaybe, SameHandled, SameAll, SameRequest, SameAnswer, SameHow, AgreeStep, Agree, SameEnv}

module _ (S : Relation) where
  -- ---- lists

  -- what is told here agrees with what is told there, whatever events were heard last
  abbrev pub Agreeing : (ℕ → List Own → Type 0) → (ℕ → List Own → Type 0) → Type 0
  Agreeing P Q = (i j : ℕ) (ts us : List Own) → P i ts → Q j us → Agree S ts us

  pub left_ends : (ts us : List Own) → ts ≡ [] → Agree S ts us
  left_ends ts us e = rw e tt

  no_more : (ts : List Own) → Agree S ts []
  no_more [] = tt
  no_more (t ∷ ts) = tt

  pub right_ends : (ts us : List Own) → us ≡ [] → Agree S ts us
  right_ends ts us e = rw e (no_more ts)

  pub both_tell : (t u : Own) (ts us mid mid' : List Own) → ts ≡ t ∷ mid → us ≡ u ∷ mid' → AgreeStep S t u (Agree S mid mid') → Agree S ts us
  both_tell t u ts us mid mid' e f agree = rw (e, f) agree

  -- what may be cut where nothing is left agrees, if it does where it goes on
  pub cut_agree : (cut cut' : ℕ → Type 0) (P Q : ℕ → List Own → Type 0) → Agreeing P Q
      → Agreeing (λ i ts. ((ts ≡ []) × cut i) ⊎ P i ts) (λ j us. ((us ≡ []) × cut' j) ⊎ Q j us)
  cut_agree cut cut' P Q agree i j ts us (inl a) told = left_ends ts us a.0
  cut_agree cut cut' P Q agree i j ts us (inr a) (inl b) = right_ends ts us b.0
  cut_agree cut cut' P Q agree i j ts us (inr a) (inr b) = agree i j ts us a b

  -- ---- words of tellings

  -- the same comes of both
  abbrev pub SameValue : Value → Value → Type 0
  SameValue (Given v) (Given w) = S v w
  SameValue (Failed e) (Failed f) = SameException S e f
  SameValue Stopped Stopped = Unit {0}
  SameValue _ _ = ⊥

  -- behind the same what may follow agrees
  abbrev pub ValuesAgree : AfterValue → AfterValue → Type 0
  ValuesAgree K K' = (v w : Value) → SameValue v w → Agreeing (K v) (K' w)

  answers_agree : (w w' : GotAnswer) (K K' : AfterValue) (i j : ℕ) (ts us : List Own) → ValuesAgree K K' → Answers w i ts K → Answers w' j us K' → SameAnswer S w w' → Agree S ts us
  answers_agree (got.Value v) (got.Value w) K K' i j ts us agree a b s = agree (Given v) (Given w) s i j ts us a b
  answers_agree (got.Raise e) (got.Raise f) K K' i j ts us agree a b s = agree (Failed e) (Failed f) s i j ts us a b
  answers_agree (got.Stop v) (got.Stop w) K K' i j ts us agree a b s = absurd a
  answers_agree _ _ K K' i j ts us agree a b s = absurd s

  answered_agree : (K K' : AfterValue) → ValuesAgree K K' → Agreeing (λ i ts. Answered i ts K) (λ j us. Answered j us K')
  answered_agree K K' agree =
      cut_agree _ _ _ _ (λ i j ts us (k, w, mid, e, a) (l, w', mid', f, b). both_tell (Gets k w) (Gets l w') ts us mid mid' e f (answers_agree w w' K K' k l mid mid' agree a b))

  pub asked_agree : (units units' : ℕ → Bool) (r r' : Request) (h h' : Handled) (K K' : AfterValue) → SameRequest S r r' → SameHandled S h h' → ValuesAgree K K'
      → Agreeing (λ i ts. Asked units r h i ts K) (λ j us. Asked units' r' h' j us K')
  asked_agree units units' r r' h h' K K' same_r same_h agree =
      cut_agree _ _ _ _
      (λ i j ts us (at, mid, is, e, a) (at', mid', is', f, b). both_tell (Asks at r h) (Asks at' r' h') ts us mid mid' e f (same_r, same_h, answered_agree K K' agree i j mid mid' a b))

  module _ (throws throws' : ℕ → Bool) where
    go_on_agree : (w w' : ResumeHow) (K K' : AfterValue) (i j : ℕ) (ts us : List Own) → ValuesAgree K K' → GoesOn throws w i ts K → GoesOn throws' w' j us K' → SameHow S w w' → Agree S ts us
    go_on_agree how.Start how.Start K K' i j ts us agree a b s = absurd a
    go_on_agree (how.Send v) (how.Send w) K K' i j ts us agree a b s = agree (Given v) (Given w) s i j ts us a b
    go_on_agree (how.Throw e) (how.Throw f) K K' i j ts us agree a b s = agree (Failed e) (Failed f) s i j ts us a.1 b.1
    go_on_agree _ _ K K' i j ts us agree a b s = absurd s

    resumed_agree : (K K' : AfterValue) → ValuesAgree K K' → Agreeing (λ i ts. Resumed throws i ts K) (λ j us. Resumed throws' j us K')
    resumed_agree K K' agree =
        cut_agree _ _ _ _ (λ i j ts us (k, w, mid, e, a) (l, w', mid', f, b). both_tell (Resumes k w) (Resumes l w') ts us mid mid' e f (go_on_agree w w' K K' k l mid mid' agree a b))

    pub yielded_agree : (units units' : ℕ → Bool) (v w : Obj) (K K' : AfterValue) → S v w → ValuesAgree K K' → Agreeing (λ i ts. Yielded units throws v i ts K) (λ j us. Yielded units' throws' w j us K')
    yielded_agree units units' v w K K' s agree =
        cut_agree _ _ _ _ (λ i j ts us (at, mid, is, e, a) (at', mid', is', f, b). both_tell (Yields at v) (Yields at' w) ts us mid mid' e f (s, resumed_agree K K' agree i j mid mid' a b))

  pub rounded_agree : (cut cut' : ℕ → Type 0) (P Q : ℕ → List Own → Type 0) → Agreeing P Q → Agreeing (λ i ts. Rounded ts (cut i) (P i)) (λ j us. Rounded us (cut' j) (Q j))
  rounded_agree cut cut' P Q agree = cut_agree _ _ _ _ (λ i j ts us (at, mid, e, a) (at', mid', f, b). both_tell (Rounds at) (Rounds at') ts us mid mid' e f (agree i j mid mid' a b))

  -- ---- locals

  pub find_same : (x : Name) (env env' : Env) → SameEnv S env env' → SameMaybe (SameMaybe S) (find_local x env) (find_local x env')
  find_same x [] [] s = tt
  find_same x (p ∷ env) (q ∷ env') s =
      rw (sym s.0) (here (bytes_eq x p.0) (find_same x env env' s.2))
    where
      here : (b : Bool) → SameMaybe (SameMaybe S) (find_local x env) (find_local x env')
          → SameMaybe (SameMaybe S) (if b then Some p.1 else find_local x env) (if b then Some q.1 else find_local x env')
      here true behind = s.1
      here false behind = behind
  find_same x _ _ s = absurd s

  pub set_same : (x : Name) (v w : Option Obj) (env env' : Env) → SameMaybe S v w → SameEnv S env env' → SameEnv S (set_local x v env) (set_local x w env')
  set_same x v w [] [] same s = (refl, same, tt)
  set_same x v w (p ∷ env) (q ∷ env') same s =
      here (bytes_eq x p.0) (bytes_eq x q.0) (ap (bytes_eq x) s.0) (set_same x v w env env' same s.2)
    where
      here : (b c : Bool) → b ≡ c → SameEnv S (set_local x v env) (set_local x w env')
          → SameEnv S (if b then (p.0, v) ∷ env else p ∷ set_local x v env) (if c then (q.0, w) ∷ env' else q ∷ set_local x w env')
      here true true e behind = (s.0, same, s.2)
      here false false e behind = (s.0, s.1, behind)
      here true false e behind = absurd (cc e)
      here false true e behind = absurd (cc e)
  set_same x v w _ _ same s = absurd s

  pub bind_same : (x : Option Name) (v w : Obj) (env env' : Env) → S v w → SameEnv S env env' → SameEnv S (bind x v env) (bind x w env')
  bind_same None v w env env' same s = s
  bind_same (Some x) v w env env' same s = set_same x (Some v) (Some w) env env' same s

  pub begun_same : (names : List Name) (vs ws : List Obj) → SameAll S vs ws → SameEnv S (begun names vs) (begun names ws)
  begun_same [] vs ws s = tt
  begun_same (x ∷ xs) [] [] s = (refl, tt, begun_same xs [] [] tt)
  begun_same (x ∷ xs) (v ∷ vs) (w ∷ ws) s = (refl, s.0, begun_same xs vs ws s.1)
  begun_same (x ∷ xs) _ _ s = absurd s
