-- The links that come of a group: the exception that work raises gets an entry of its traceback. None gets a context: work raises where nothing is
-- handled, and so is a generator closed.
use Rattle.std.proofs.Common.{◌≡◌, ◌+◌, length-append, take, ◌++◌, ◌==◌, ℕ, suc, List, [], ◌∷◌, true, not, Some, None, drop, length, refl, sym, ap, subst, ◌∙◌, inl, inr, arith}
use Rattle.std.specs.Prelude.{slice_get}
use Rattle.std.proofs.lemmas.Bool.{or_right}
use Rattle.py_objects.specs.declared.payload.Payload.{Payload}
use Rattle.py_objects.specs.declared.event.ResumeHow.TheVariants as how
use Rattle.py_objects.specs.declared.edit.Change.{Change}
use Rattle.py_objects.specs.declared.event.Event.{Event}
use Rattle.py_objects.specs.declared.event.Event.TheVariants as event
use Rattle.py_objects.specs.declared.request.Request.TheVariants as request
use Rattle.py_objects.specs.Singletons.{none_object}
use Rattle.py_objects.specs.Objects.{Obj}
use Rattle.py_objects.specs.Own.{Own, Resumes, Rounds, Yields, own_events, own_from, told_by}
use Rattle.py_objects.specs.Telling.{ThrowTest}
use Rattle.py_objects.proofs.GrowthLemmas.{slice_get_behind}
use Rattle.py_make.proofs.ScriptLemmas.{count_suite}
use Rattle.py_tree.specs.Binding.{start_env}
use Rattle.py_tree.specs.Outcome.{RunsSuite}
use Rattle.py_tree.specs.Trace.{EndsBy}
use Rattle.py_grammar.specs.Grammar.{OfBody}
use Rattle.py_run.specs.Run.{Activation, after, state_after}
use Rattle.py_run.specs.Links.{HandlesThen, LinksCome, MayUnder, scene_at, thrown_under}
use Rattle.py_run.proofs.LinksLemmas.{links_join}
use Rattle.py_run.proofs.NoLinks.{NoneSet, no_links}
use Rattle.py_meaning.specs.Whole.{TracesUnder, thrown_in}
use Rattle.made_runs.proofs.Blocks.{up, block, Acts, own_later, own_lists, own_shifted}
use Rattle.made_runs.proofs.Counting.{thrown}
use Rattle.made_runs.proofs.Groups.{Returns, Counts, closes, counted, created, events_of, exception, yields}
use Rattle.made_runs.proofs.Objects.{coded, count_function, count_object, count_tree, globals_object, scope_object, store, true_object, zero_object}
use Rattle.made_runs.proofs.Located.{the_lines}
use Rattle.made_runs.proofs.Steps.{idle}
use Rattle.made_runs.proofs.Telling.{gets, hears}

-- what activations of the script may tell, where exceptions are thrown in under what a test lets through
abbrev pub under : List Payload → MayUnder
under more = λ throws. TracesUnder throws coded globals_object (store more)

-- these events, behind others that come to this state, bring such links
abbrev pub BringLinks : List Payload → List Change → List Event → (d : ℕ) → List Activation → List Event → Type 0
BringLinks more changes before d ms es = LinksCome (under more) the_lines (store more) changes before (idle d ms) es

-- the body of count yields while nothing is handled
yields_plainly : (more : List Payload) (throws : ThrowTest) (i j n : ℕ) (x : Obj) → throws j None ≡ true
    → RunsSuite (thrown_in throws (store more) globals_object) count_suite (start_env count_tree (x ∷ [])) None (up i 4)
    (Rounds 0 ∷ gets (up i 7) (request.Truth true_object) None true_object (Yields 0 zero_object ∷ Resumes j (how.Throw (exception (suc n))) ∷ []))
    (EndsBy (thrown_in throws (store more) globals_object))
yields_plainly more throws i j n x lets =
    inr (inr (zero_object, refl, inr (1, inr (0, _, refl, inr (true_object, refl, hears true_object (true, refl, inr (inr (thrown (exception (suc n)) (lets, inl (refl, refl))))))))))

-- ---- where no link is set

pub none_front : (changes : List Change) (n : ℕ) (xs ys : List Event) → NoneSet changes n (xs ++ ys) → NoneSet changes n xs
none_front changes n xs ys unset k low high = unset k low (let all = length-append xs ys in omega (arith, high, all))

pub none_behind : (changes : List Change) (n : ℕ) (xs ys : List Event) → NoneSet changes n (xs ++ ys) → (m : ℕ) → m ≡ n + length xs → NoneSet changes m ys
none_behind changes n xs ys unset m is k low high = unset k (omega (arith, low, is)) (let all = length-append xs ys in omega (arith, high, is, all))

-- ---- groups

module _ (more : List Payload) (es : List Event) (d n : ℕ) (ms : List Activation) (x : Obj) (acts : Acts (length ms) es) (changes : List Change) where
  -- the events of a group of count up to the close
  abbrev front : List Event
  front = block (length ms) d (created 0 0 x (yields 0 1 0 n (event.Drive 2 ∷ [])))

  -- what its activation tells by them
  own_front : own_events (suc (length ms)) (es ++ front) ≡ own_from 0 (0 + length es) (created 0 0 x (yields 0 1 0 n (event.Drive 2 ∷ [])))
  own_front =
      own_lists (suc (length ms)) 0 es front
      ∙ ap (λ (own : List Own). own ++ own_from (suc (length ms)) (0 + length es) front) (own_later (length ms) 0 0 es acts)
      ∙ own_shifted (length ms) d 0 (0 + length es) (created 0 0 x (yields 0 1 0 n (event.Drive 2 ∷ [])))

  -- it handles nothing where the close throws
  closed_plainly : HandlesThen (under more) (scene_at (under more) the_lines (store more) changes (es ++ front) (state_after (idle d ms) front)) (suc (length ms)) (how.Throw (exception (suc n))) None
  unfolding own_from told_by
  closed_plainly =
      let k : ℕ = length (es ++ front) in
      let here : slice_get (ms ++ counted x ∷ []) (length ms) ≡ Some (counted x) =
      ap (slice_get (ms ++ counted x ∷ [])) (let same : length ms ≡ length ms + 0 = omega arith in same) ∙ slice_get_behind ms (counted x ∷ []) 0 in
      let throws : ThrowTest = thrown_under k None in (
        counted x,
        here,
        subst (λ (own : List Own). under more throws count_object (x ∷ []) (own ++ Resumes k (how.Throw (exception (suc n))) ∷ [])) (sym own_front)
            (count_function, refl, (OfBody count_tree, refl, (refl, (_, refl, yields_plainly more throws (0 + length es) k n x (or_right (not (k == k)) true refl))))),
      )

  -- a group of count brings none
  pub counting_links : NoneSet changes (length es) (block (length ms) d (events_of Counts n x)) → BringLinks more changes es d ms (block (length ms) d (events_of Counts n x))
  counting_links unset =
      let closing : Event = event.Resume (suc (length ms)) (how.Throw (exception (suc n))) in
      let rest : List Event = block (length ms) d (closes 2 0 n) in
      let last : List Event = block (length ms) d (drop 1 (closes 2 0 n)) in
      let behind : NoneSet changes (length (es ++ front)) rest = none_behind changes (length es) front rest unset (length (es ++ front)) (length-append es front) in
      links_join (under more) the_lines (store more) changes es (idle d ms) front rest
      (no_links (under more) the_lines (store more) changes es (idle d ms) front refl (none_front changes (length es) front rest unset)) (
        tt,
        ([], (None, closed_plainly, refl), behind (length (es ++ front)) (omega arith) (omega arith)),
        no_links (under more) the_lines (store more) changes ((es ++ front) ++ closing ∷ []) (after (state_after (idle d ms) front) closing) last refl
            (none_behind changes (length (es ++ front)) (closing ∷ []) last behind (length ((es ++ front) ++ closing ∷ [])) (length-append (es ++ front) (closing ∷ []))),
      )

  -- nor does one that returns, whose exit is told None
  pub returning_links : NoneSet changes (length es) (block (length ms) d (events_of Returns n x)) → BringLinks more changes es d ms (block (length ms) d (events_of Returns n x))
  returning_links unset =
      let all : List Event = block (length ms) d (events_of Returns n x) in
      let before : List Event = take 16 all in
      let exit : Event = event.Ask (suc (length ms)) (request.Exit scope_object none_object none_object none_object) None 0 in
      let last : List Event = drop 17 all in
      let behind : NoneSet changes (length (es ++ before)) (exit ∷ last) = none_behind changes (length es) before (exit ∷ last) unset (length (es ++ before)) (length-append es before) in
      links_join (under more) the_lines (store more) changes es (idle d ms) before (exit ∷ last)
      (no_links (under more) the_lines (store more) changes es (idle d ms) before refl (none_front changes (length es) before (exit ∷ last) unset)) (
        inl (refl, refl, refl),
        ([], refl, behind (length (es ++ before)) (omega arith) (omega arith)),
        no_links (under more) the_lines (store more) changes ((es ++ before) ++ exit ∷ []) (after (state_after (idle d ms) before) exit) last refl
            (none_behind changes (length (es ++ before)) (exit ∷ []) last behind (length ((es ++ before) ++ exit ∷ [])) (length-append (es ++ before) (exit ∷ []))),
      )
