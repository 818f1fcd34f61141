-- Events of which no link comes, where none is set.
use Rattle.std.proofs.Common.{◌≡◌, ◌≤◌, ◌<◌, ◌+◌, ◌++◌, ◌&&◌, ◌||◌, ℕ, suc, Bool, true, false, not, List, [], ◌∷◌, refl, subst, length, length-append, arith, nat_lt}
use Rattle.std.specs.Prelude.{◌==◌, nat_le}
use Rattle.std.proofs.lemmas.Bool.{and_parts}
use Rattle.std.proofs.lemmas.Bool.Decides.{nat_tests}
use Rattle.py_objects.specs.declared.payload.Payload.{Payload}
use Rattle.py_objects.specs.declared.edit.Change.{Change}
use Rattle.py_objects.specs.declared.request.Request.{Request}
use Rattle.py_objects.specs.declared.request.Request.TheVariants as request
use Rattle.py_objects.specs.declared.event.GotAnswer.{GotAnswer}
use Rattle.py_objects.specs.declared.event.GotAnswer.TheVariants as got
use Rattle.py_objects.specs.declared.event.ResumeHow.TheVariants as how
use Rattle.py_objects.specs.declared.event.Event.{Event}
use Rattle.py_objects.specs.declared.event.Event.TheVariants as event
use Rattle.py_objects.specs.Objects.{Obj}
use Rattle.py_run.specs.Run.{Act, State, after, start, state_after}
use Rattle.py_run.specs.Raises.{is_raising}
use Rattle.py_run.specs.Links.{AsksNow, ComeOf, ComeOfTop, Lines, LinksCome, MayUnder, RaisesIf, Scene, TellsNow, links_at, scene_at}
use Rattle.py_run.proofs.LinksLemmas.{links_join}
use Rattle.py_run.proofs.OwnLemmas.{state_lists}

-- whether an answer raises nothing in the innermost of these activations
abbrev pub raises_nothing : List Act → GotAnswer → Bool
raises_nothing [] w = false
raises_nothing (top ∷ rest) (got.Value v) = not (is_raising top.asks)
raises_nothing (top ∷ rest) (got.Stop v) = true
raises_nothing (top ∷ rest) (got.Raise e) = false

-- whether a question tells of no exception
abbrev pub tells_nothing : Request → Bool
tells_nothing (request.Exit x c e t) = false
tells_nothing _ = true

-- whether an event throws nothing in, tells of nothing, and raises nothing
abbrev pub links_nothing : State → Event → Bool
links_nothing s (event.Resume a (how.Throw e)) = false
links_nothing s (event.Ask a r own at) = tells_nothing r
links_nothing s (event.Got a w) = raises_nothing s.stack w
links_nothing s _ = true

-- whether each of these events does, behind those that come to this state
abbrev pub link_nothing : State → List Event → Bool
link_nothing s [] = true
link_nothing s (e ∷ es) = links_nothing s e && link_nothing (after s e) es

-- no link was set at the events from a number on, as many as these
abbrev pub NoneSet : List Change → ℕ → List Event → Type 0
NoneSet changes n es = (k : ℕ) → n ≤ k → k < n + length es → links_at (suc k) changes ≡ []

-- whether none of these changes is at the events from a number on, so many
abbrev pub none_set : List Change → (from count : ℕ) → Bool
none_set [] from count = true
none_set (c ∷ cs) from count = (nat_le c.after from || nat_lt (from + count) c.after) && none_set cs from count

not_at : (after from count k : ℕ) → (nat_le after from || nat_lt (from + count) after) ≡ true → from ≤ k → k < from + count → (after == suc k) ≡ false
not_at after from count k apart low high = grind (arith, nat_tests, apart, low, high)

unset : (changes : List Change) (from : ℕ) (es : List Event) → none_set changes from (length es) ≡ true → NoneSet changes from es
unset [] from es none k low high = refl
unset (c ∷ cs) from es none k low high =
    let (apart, rest) = and_parts (nat_le c.after from || nat_lt (from + length es) c.after) _ none in
    rw (not_at c.after from (length es) k apart low high) (unset cs from es rest k low high)

asks_none : (made now : List Payload) (r : Request) → tells_nothing r ≡ true → AsksNow made now r
asks_none made now (request.Exit x c e t) none = absurd (cc none)
asks_none made now _ none = tt

module _ (may : MayUnder) (lines : Lines) (made : List Payload) (changes : List Change) where
  tells_none : (s : State) (now : List Payload) (e : Event) → links_nothing s e ≡ true → TellsNow made now e
  tells_none s now (event.Ask a r own at) none = asks_none made now r none
  tells_none s now _ none = tt

  raises_none : (b : Bool) (z : Scene) (act at : ℕ) (v : Obj) → not b ≡ true → RaisesIf lines made b z act at v []
  raises_none false z act at v none = refl
  raises_none true z act at v none = absurd (cc none)

  top_none : (z : Scene) (stack : List Act) (act : ℕ) (w : GotAnswer) → raises_nothing stack w ≡ true → ComeOfTop lines made stack z act w []
  top_none z [] act w none = absurd (cc none)
  top_none z (top ∷ rest) act (got.Value v) none = raises_none (is_raising top.asks) z act top.at v none
  top_none z (top ∷ rest) act (got.Stop v) none = refl
  top_none z (top ∷ rest) act (got.Raise e) none = absurd (cc none)

  come_none : (before : List Event) (s : State) (e : Event) → links_nothing s e ≡ true → ComeOf may lines made (scene_at may lines made changes before s) e []
  come_none before s (event.Resume a how.Start) none = refl
  come_none before s (event.Resume a (how.Send v)) none = refl
  come_none before s (event.Resume a (how.Throw e)) none = absurd (cc none)
  come_none before s (event.Ask a r own at) none = refl
  come_none before s (event.Got a w) none = top_none (scene_at may lines made changes before s) s.stack a w none
  come_none before s _ none = refl

  -- where each of these events links nothing, the links that come of them are none
  pub no_links : (before : List Event) (s : State) (es : List Event) → link_nothing s es ≡ true → NoneSet changes (length before) es → LinksCome may lines made changes before s es
  no_links before s [] none unset = tt
  no_links before s (e ∷ es) none unset =
      let (first, rest) = and_parts (links_nothing s e) _ none in
      let longer : length (before ++ e ∷ []) ≡ length before + 1 = length-append before (e ∷ []) in (
        tells_none s _ e first,
        ([], come_none before s e first, unset (length before) (omega arith) (omega arith)),
        no_links (before ++ e ∷ []) (after s e) es rest (λ k low high. unset k (omega (arith, low, longer)) (omega (arith, high, longer))),
      )

  -- so they are where no change is at these events
  pub quiet : (before es : List Event) → link_nothing (state_after start before) es ≡ true → none_set changes (length before) (length es) ≡ true
      → LinksCome may lines made changes before (state_after start before) es
  quiet before es none apart = no_links before (state_after start before) es none (unset changes (length before) es apart)

  -- and then the links of later events come
  pub quiet_then : (before es fs : List Event) → link_nothing (state_after start before) es ≡ true → none_set changes (length before) (length es) ≡ true
      → LinksCome may lines made changes (before ++ es) (state_after start (before ++ es)) fs → LinksCome may lines made changes before (state_after start before) (es ++ fs)
  quiet_then before es fs none apart later =
      links_join may lines made changes before (state_after start before) es fs (quiet before es none apart)
      (subst (λ s. LinksCome may lines made changes (before ++ es) s fs) (state_lists start before es) later)
