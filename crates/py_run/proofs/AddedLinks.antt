-- The links of a journal as a drive adds to it, and by other words of what activations tell.
use Rattle.std.proofs.Common.{◌≡◌, ◌≤◌, ◌<◌, ◌++◌, ◌∙◌, ℕ, zero, suc, List, [], ◌∷◌, Some, refl, sym, subst, length, arith, append_assoc, append-nil}
use Rattle.std.specs.Prelude.{Option, slice_get}
use Rattle.py_objects.specs.declared.refs.PyBaseExceptionRef.{PyBaseExceptionRef}
use Rattle.py_objects.specs.declared.payload.Payload.{Payload}
use Rattle.py_objects.specs.declared.edit.Change.{Change}
use Rattle.py_objects.specs.declared.event.ResumeHow.{ResumeHow}
use Rattle.py_objects.specs.declared.event.ResumeHow.TheVariants as how
use Rattle.py_objects.specs.declared.event.Event.{Event}
use Rattle.py_objects.specs.declared.event.Event.TheVariants as event
use Rattle.py_objects.specs.Objects.{Obj, AllFit}
use Rattle.py_objects.specs.Originals.{ChangesBelow}
use Rattle.py_objects.specs.Own.{Own, Resumes, own_events}
use Rattle.py_objects.specs.Telling.{ThrowTest}
use Rattle.py_run.specs.Run.{Activation, State, start, after, state_after}
use Rattle.py_run.specs.Links.{AreLinks, ComeOf, HandlesThen, HasLinksOf, Lines, LinksCome, MayUnder, ObjectEdit, scene_at}
use Rattle.py_run.proofs.LinksLemmas.{all_seen_below, edits_below, links_join}
use Rattle.py_run.proofs.MoreLinks.{AreLater, LinesGo, links_more}
use Rattle.py_run.proofs.OwnLemmas.{state_after-append}

-- ---- by other words

module _ (may may' : MayUnder) (lines : Lines) (made : List Payload) (changes : List Change) where
  -- what an activation may tell by these events, and as it is entered next, it may tell by other words, too
  abbrev pub TellsOtherwise : List Event → Type 0
  TellsOtherwise before =
      (i : ℕ) (x : Activation) (how : ResumeHow) (test : ThrowTest) → slice_get (state_after start before).made i ≡ Some x
      → may test x.function x.args (own_events (suc i) before ++ Resumes (length before) how ∷ []) → may' test x.function x.args (own_events (suc i) before ++ Resumes (length before) how ∷ [])

  handles_otherwise : (before : List Event) → TellsOtherwise before → (a : ℕ) (how : ResumeHow) (h : Option PyBaseExceptionRef)
      → HandlesThen may (scene_at may lines made changes before (state_after start before)) a how h → HandlesThen may' (scene_at may' lines made changes before (state_after start before)) a how h
  handles_otherwise before tells zero how h handles = handles
  handles_otherwise before tells (suc i) how h (x, here, told) = (x, here, tells i x how _ here told)

  come_otherwise : (before : List Event) → TellsOtherwise before → (e : Event) (edits : List ObjectEdit)
      → ComeOf may lines made (scene_at may lines made changes before (state_after start before)) e edits → ComeOf may' lines made (scene_at may' lines made changes before (state_after start before)) e edits
  come_otherwise before tells (event.Resume a (how.Throw e)) edits (h, handles, gives) = (h, handles_otherwise before tells a (how.Throw e) h handles, gives)
  come_otherwise before tells (event.Resume a how.Start) edits come = come
  come_otherwise before tells (event.Resume a (how.Send v)) edits come = come
  come_otherwise before tells _ edits come = come

  has_otherwise : (before : List Event) → TellsOtherwise before → (e : Event)
      → HasLinksOf may lines made changes before (state_after start before) e → HasLinksOf may' lines made changes before (state_after start before) e
  has_otherwise before tells e (edits, come, are) = (edits, come_otherwise before tells e edits come, are)

  -- links that come where activations tell by the first words come where they tell by the others
  pub links_otherwise : (before es : List Event) → ((front back : List Event) → before ++ es ≡ front ++ back → TellsOtherwise front)
      → LinksCome may lines made changes before (state_after start before) es → LinksCome may' lines made changes before (state_after start before) es
  links_otherwise before [] tells come = tt
  links_otherwise before (e ∷ es) tells (told, has, come) =
      let behind : List Event = before ++ e ∷ [] in
      let same : state_after start behind ≡ after (state_after start before) e = state_after-append start before e in
      let rest = links_otherwise behind es (λ front back is. tells front back (sym (append_assoc before (e ∷ []) es) ∙ is))
      (subst (λ (s : State). LinksCome may lines made changes behind s es) (sym same) come) in
      (told, has_otherwise before (tells before (e ∷ es) refl) e has, subst (λ (s : State). LinksCome may' lines made changes behind s es) same rest)

-- ---- as a drive adds to a journal

-- links from a later number on are later
later_from : (n k m : ℕ) (cs : List Change) → suc n ≤ k → AreLinks k m cs → AreLater n cs
later_from n k m [] low are = tt
later_from n k m (c ∷ cs) low (sets, first, last, rest) =
    (omega (arith, low, first), (λ is. let e : n < c.after = omega (arith, low, first) in e), later_from n c.after m cs (omega (arith, low, first)) rest)

-- they are links from an earlier number on, too
links_from : (k n m : ℕ) (cs : List Change) → k ≤ n → AreLinks n m cs → AreLinks k m cs
links_from k n m [] low are = tt
links_from k n m (c ∷ cs) low (sets, first, last, rest) = (sets, omega (arith, low, first), last, rest)

-- links of so many events and then of later ones
pub links_both : (k n m : ℕ) (cs more : List Change) → k ≤ suc n → n ≤ m → AreLinks k n cs → AreLinks (suc n) m more → AreLinks k m (cs ++ more)
links_both k n m [] more low high are later = links_from k (suc n) m more low later
links_both k n m (c ∷ cs) more low high (sets, first, last, rest) later =
    (sets, first, omega (arith, last, high), links_both c.after n m cs more (omega (arith, last)) high rest later)

-- links that came come still, as more objects come
pub links_grown : (may may' : MayUnder) → ((test : ThrowTest) (f : Obj) (vs : List Obj) (own : List Own) → may test f vs own → may' test f vs own)
    → (lines lines' : Lines) → LinesGo lines lines' → (objects others : List Payload) → AllFit objects → (changes : List Change) → ChangesBelow (length objects) changes → (es : List Event)
    → LinksCome may lines objects changes [] start es → LinksCome may' lines' (objects ++ others) changes [] start es
links_grown may may' carry lines lines' go objects others fit changes below es come =
    subst (λ (cs : List Change). LinksCome may' lines' (objects ++ others) cs [] start es) (append-nil changes)
    (links_more objects others changes [] (length es) tt (edits_below (length objects) changes below) (all_seen_below objects fit) may may' carry lines lines' go [] start es (omega arith) come)

module _ (may may' : MayUnder) (carry : (test : ThrowTest) (f : Obj) (vs : List Obj) (own : List Own) → may test f vs own → may' test f vs own)
    (lines lines' : Lines) (go : LinesGo lines lines') (objects others : List Payload) (fit : AllFit objects) (changes more : List Change) (below : ChangesBelow (length objects) changes) (es part : List Event) where
  -- the links that came of events come of them still, and those of later events come behind them
  pub links_added : (m : ℕ) → AreLinks (suc (length es)) m more → LinksCome may lines objects changes [] start es
      → LinksCome may' lines' (objects ++ others) (changes ++ more) es (state_after start es) part → LinksCome may' lines' (objects ++ others) (changes ++ more) [] start (es ++ part)
  links_added m later came come =
      links_join may' lines' (objects ++ others) (changes ++ more) [] start es part
      (links_more objects others changes more (length es) (later_from (length es) (suc (length es)) m more (omega arith) later) (edits_below (length objects) changes below) (all_seen_below objects fit)
      may may' carry lines lines' go [] start es (omega arith) came) come
