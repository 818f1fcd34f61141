-- The activation that an event is of was made before, and goes on by what it tells.
use Rattle.std.proofs.Common.{◌≡◌, ◌<◌, ◌≤◌, ◌∙◌, ℕ, zero, suc, true, List, [], ◌∷◌, ◌++◌, Some, None, refl, sym, ap, append_assoc, length, arith}
use Rattle.std.specs.Prelude.{Option, slice_get, slice_set}
use Rattle.std.proofs.lemmas.Option.{same_Some}
use Rattle.py_objects.specs.declared.payload.Payload.{Payload}
use Rattle.py_objects.specs.declared.payload.Payload.TheVariants as payload
use Rattle.py_objects.specs.declared.payload.FunctionBody.{FunctionBody}
use Rattle.py_objects.specs.declared.event.Event.{Event}
use Rattle.py_objects.specs.declared.event.Event.TheVariants as event
use Rattle.py_objects.specs.Objects.{Obj}
use Rattle.py_objects.specs.Own.{Own, Makes, Resumes, Asks, Gets, Rounds, Yields, Ends, whose, own_of, told_by, own_from, own_events}
use Rattle.py_lines.specs.declared.drive.DriveLine.{DriveLine}
use Rattle.py_grammar.specs.Grammar.{Coded, OfBody}
use Rattle.py_tree.specs.Tree.{Tree}
use Rattle.py_run.specs.Run.{Plan, Act, IsTop}
use Rattle.py_run.specs.Coming.{Past, past_after, MayCome}
use Rattle.py_run.proofs.CoursesLemmas.{resumed}
use Rattle.py_run.proofs.CutLemmas.{AreBelow, IsNumbered, resumed_made}
use Rattle.py_run.proofs.OwnLemmas.{own_events_own}
use Rattle.py_determined.proofs.Telling.{IsPositive, top_positive}
use Rattle.py_places.specs.Place.{Place}
use Rattle.py_places.specs.Stepping.{step}
use Rattle.py_places.specs.Checking.{made, run_on, is_there, accepts}
use Rattle.py_following.specs.Followed.{looked_up_by, placed, with_place, stepped}
use Rattle.py_following.proofs.Hearing.{front_there}
use Rattle.py_following.proofs.Placing.{IsTreeOf, looked_up_in, run_last}

-- ---- the number of an activation that tells something

-- a number is that of an activation that was made
abbrev pub IsMade : Past → ℕ → Type 0
IsMade p a = (i : ℕ) × (a ≡ suc i) × (i < length p.state.made)

made_number : (p : Past) (a : ℕ) → 0 < a → a ≤ length p.state.made → IsMade p a
made_number p zero some low = absurd (omega (arith, some))
made_number p (suc i) some low = (i, refl, omega (arith, low))

-- the innermost one has no more than the last that was made
top_low : (n a : ℕ) (stack : List Act) → AreBelow n stack → IsTop a stack → a ≤ n
top_low n a [] below top = absurd top
top_low n a (x ∷ stack) below top = let here = below.0 in omega (arith, here, top)

top_made : (p : Past) (a : ℕ) → IsNumbered p → IsPositive p → IsTop a p.state.stack → IsMade p a
top_made p a numbered positive top =
    made_number p a (top_positive a p.state.stack positive.stack top) (top_low (length p.state.made) a p.state.stack numbered.stack top)

-- an event that doesn't make its activation is of one that was made
pub told_made : (plan : Plan) (objects : List Payload) (p : Past) (k : ℕ) (e : Event) (own : Own) → MayCome plan objects p e → IsNumbered p → IsPositive p
    → IsPositive (past_after plan p e) → own_of k e ≡ own ∷ [] → (own ≡ Makes → ⊥) → IsMade p (whose e)
told_made plan objects p k (event.Drive d) own may numbered positive behind tells other = absurd (cc tells)
told_made plan objects p k (event.Result d w) own may numbered positive behind tells other = absurd (cc tells)
told_made plan objects p k (event.Make a f vs) own may numbered positive behind tells other =
    let same : own ≡ Makes = cc tells in absurd (other same)
told_made plan objects p k (event.Resume a h) own may numbered positive behind tells other =
    made_number p a behind.stack.0 (resumed_made plan p a numbered (resumed plan objects p a h may))
told_made plan objects p k (event.Ask a r x at) own may numbered positive behind tells other = top_made p a numbered positive may.1
told_made plan objects p k (event.Got a w) own may numbered positive behind tells other = top_made p a numbered positive may.0
told_made plan objects p k (event.Round a at) own may numbered positive behind tells other = top_made p a numbered positive may.1
told_made plan objects p k (event.Yield a v at) own may numbered positive behind tells other = top_made p a numbered positive may.1
told_made plan objects p k (event.End a x at) own may numbered positive behind tells other = top_made p a numbered positive may.1

-- ---- what it tells

-- what is looked up by an event is what its activation looks up
pub looks_alike : (k : ℕ) (e : Event) (own : Own) → own_of k e ≡ own ∷ [] → looked_up_in own ≡ looked_up_by e
looks_alike k (event.Drive d) own tells = absurd (cc tells)
looks_alike k (event.Result d w) own tells = absurd (cc tells)
looks_alike k (event.Make a f vs) own tells = let same : own ≡ Makes = cc tells in ap looked_up_in same
looks_alike k (event.Resume a h) own tells = let same : own ≡ Resumes k h = cc tells in ap looked_up_in same
looks_alike k (event.Ask a r x at) own tells = let same : own ≡ Asks at r x = cc tells in ap looked_up_in same
looks_alike k (event.Got a w) own tells = let same : own ≡ Gets k w = cc tells in ap looked_up_in same
looks_alike k (event.Round a at) own tells = let same : own ≡ Rounds at = cc tells in ap looked_up_in same
looks_alike k (event.Yield a v at) own tells = let same : own ≡ Yields at v = cc tells in ap looked_up_in same
looks_alike k (event.End a x at) own tells = let same : own ≡ Ends at x = cc tells in ap looked_up_in same

-- what is told by a front comes first
own_front : (a k : ℕ) (es more : List Event) → (rest : List Own) × (own_from a k (es ++ more) ≡ own_from a k es ++ rest)
unfolding own_from
own_front a k [] more = (own_from a k more, refl)
own_front a k (x ∷ es) more =
    let (rest, is) = own_front a (suc k) es more in
    (rest, ap (λ l. told_by a k x ++ l) is ∙ sym (append_assoc (told_by a k x) (own_from a (suc k) es) rest))

-- behind it comes what the next event tells
pub own_next : (a : ℕ) (front back : List Event) (e : Event) (own : Own) → a ≡ whose e → own_of (length front) e ≡ own ∷ []
    → (rest : List Own) × (own_events a (front ++ e ∷ back) ≡ (own_events a front ++ own ∷ []) ++ rest)
own_next a front back e own is tells =
    let (rest, same) = own_front a 0 (front ++ e ∷ []) back in (
      rest,
      ap (own_events a) (sym (append_assoc front (e ∷ []) back))
          ∙ same
          ∙ ap (λ l. l ++ rest) (own_events_own a front e is ∙ ap (λ l. own_events a front ++ l) tells),
    )

-- ---- its place

there_some : (objects : List Payload) (g : Obj) (m : Option Place) → is_there objects g m ≡ true → (q : Place) × (m ≡ Some q)
there_some objects g None there = absurd (cc there)
there_some objects g (Some q) there = (q, refl)

-- a place goes on by what is told behind what led to it, where all is accepted
pub step_there : (objects : List Payload) (g : Obj) (t : Tree) (vs : List Obj) (all told rest : List Own) (own : Own) (p : Place) → accepts objects g t vs all ≡ true
    → all ≡ ((Makes ∷ told) ++ own ∷ []) ++ rest → run_on objects g (made t vs) told ≡ Some p → (q : Place) × (step objects g p own ≡ Some q)
step_there objects g t vs all told rest own p accepted is leads =
    let whole : is_there objects g (run_on objects g (made t vs) ((told ++ own ∷ []) ++ rest)) ≡ true = ap (accepts objects g t vs) (sym is) ∙ accepted in
    let front : is_there objects g (run_on objects g (made t vs) (told ++ own ∷ [])) ≡ true = front_there objects g (told ++ own ∷ []) rest (made t vs) whole in
    there_some objects g (step objects g p own) (ap (is_there objects g) (sym (run_last objects g told (made t vs) p own leads)) ∙ front)

module _ (coded : List Coded) (objects : List Payload) (drives : List DriveLine) where
  -- a function runs one tree
  pub tree_same : (f : Obj) (t u : Tree) → IsTreeOf coded objects drives f t → IsTreeOf coded objects drives f u → t ≡ u
  tree_same f t u (b, has, at) (c, has', at') =
      let both : payload.Function b ≡ payload.Function c = same_Some (payload.Function b) (payload.Function c) (sym has ∙ has') in
      let body : b ≡ c = cc both in
      let trees : OfBody t ≡ OfBody u = same_Some (OfBody t) (OfBody u) (sym at ∙ ap (λ (x : FunctionBody). slice_get coded x.code) body ∙ at') in
      cc trees

  -- the places go on where that of the activation does
  pub placed_on : (dict : Obj) (places : List Place) (a i : ℕ) (own : Own) (p q : Place) → a ≡ suc i → slice_get places i ≡ Some p → step objects dict p own ≡ Some q
      → placed coded objects dict places a own ≡ Some (slice_set places i q)
  placed_on dict places a i own p q number at steps =
      ap (λ n. placed coded objects dict places n own) number
      ∙ ap (λ m. with_place coded objects places i (stepped coded objects dict m own)) at
      ∙ ap (with_place coded objects places i) steps
