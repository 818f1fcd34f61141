-- What activations of a group tell, as traces of their bodies: those of the functions that show a text, and what all
-- calls of work begin with.
use Rattle.std.specs.Prelude.{ℕ, suc, Bool, Option, Some, None, List, [], ◌∷◌, codes}
use Rattle.std.proofs.Common.{◌≡◌, ◌⊎◌, true, refl, inr}
use Rattle.py_code.specs.declared.operator.ComparisonOperator.TheVariants as comparison
use Rattle.py_objects.specs.declared.refs.PyBaseExceptionRef.{PyBaseExceptionRef}
use Rattle.py_objects.specs.declared.payload.Payload.{Payload}
use Rattle.py_objects.specs.declared.payload.Payload.TheVariants as payload
use Rattle.py_objects.specs.declared.request.Request.{Request}
use Rattle.py_objects.specs.declared.request.Request.TheVariants as request
use Rattle.py_objects.specs.declared.event.ResumeHow.TheVariants as how
use Rattle.py_objects.specs.declared.event.GotAnswer.{GotAnswer}
use Rattle.py_objects.specs.declared.event.GotAnswer.TheVariants as got
use Rattle.py_objects.specs.declared.event.Ending.TheVariants as ending
use Rattle.py_objects.specs.declared.event.Event.{Event}
use Rattle.py_objects.specs.Singletons.{none_object}
use Rattle.py_objects.specs.Objects.{Obj, HasPayload}
use Rattle.py_objects.specs.Own.{Own, Makes, Resumes, Asks, Gets, Ends, own_from}
use Rattle.py_tree.specs.declared.expr.Atom.TheVariants as atom
use Rattle.py_tree.specs.Tree.{Leaf, Show, Return, Raise, If, With, TryExcept, Suite, nothing, first, Clauses, clause}
use Rattle.py_tree.specs.Tree.{no_more}
use Rattle.py_tree.specs.Binding.{Env, set_local, start_env}
use Rattle.py_tree.specs.Scene.{Scene, anywhere}
use Rattle.py_tree.specs.Outcome.{After, On_normal, On_raise, On_exit, RunsSuite, Tries}
use Rattle.py_tree.specs.Trace.{EndsBy}
use Rattle.py_grammar.specs.Grammar.{OfBody}
use Rattle.py_make.proofs.ScriptLemmas.{work_suite}
use Rattle.py_run.specs.Run.{Activation}
use Rattle.py_run.specs.Coming.{May}
use Rattle.py_meaning.specs.Whole.{Traces}
use Rattle.made_runs.proofs.Blocks.{up}
use Rattle.made_runs.proofs.Objects.{enter_tree, exit_tree, work_tree, coded, enter_function, exit_function}
use Rattle.made_runs.proofs.Objects.{work_function}
use Rattle.made_runs.proofs.Objects.{store, truth_object, enter_object, exit_object, scope_object, work_object}
use Rattle.made_runs.proofs.Objects.{globals_object, open_object, close_object, limit_object}

-- what activations of the script may tell
abbrev pub may : List Payload → May
may more = Traces coded globals_object (store more)

-- each of these activations, numbered from l on, tells what it may by these events, numbered from k on
abbrev pub Tell : List Payload → (l k : ℕ) → List Event → List Activation → Type 0
Tell more l k es [] = Unit {0}
Tell more l k es (a ∷ others) = may more a.function a.args (own_from l k es) × Tell more (suc l) k es others

-- an activation asks, while this is handled, and hears a value by the event i
abbrev pub gets : (i : ℕ) → Request → Option PyBaseExceptionRef → Obj → List Own → List Own
gets i r own v rest = Asks 0 r own ∷ Gets i (got.Value v) ∷ rest

-- a trace goes on by a question that is answered a value, where what is left of it goes on behind that
pub hears : {A : Type 0} {C : List Own → Type 0} {D : ℕ → GotAnswer → List Own → Type 0} {r : Request}
    {own : Option PyBaseExceptionRef} {i : ℕ} {rest : List Own} (v : Obj) → D i (got.Value v) rest
    → A ⊎ ((at : ℕ) × (mid : List Own) × (true ≡ true) × (gets i r own v rest ≡ Asks at r own ∷ mid)
    × (C mid ⊎ ((j : ℕ) × (w : GotAnswer) × (left : List Own) × (mid ≡ Gets j w ∷ left) × D j w left)))
hears v told = inr (0, _, refl, refl, inr (_, got.Value v, _, refl, told))

-- where bodies of the script run
abbrev pub scene : List Payload → Scene
scene more = anywhere (store more) globals_object

-- what follows the last statement of a body: its end
abbrev pub behind_body : List Payload → After
behind_body more =
    On_normal (EndsBy (scene more)) (λ env i mid. RunsSuite (scene more) nothing env None i mid (EndsBy (scene more)))

-- ---- a text is shown

-- what is told by an activation that shows a text
abbrev pub showing : (i j : ℕ) → (text : Obj) → List Own
showing i j text =
    Makes ∷ Resumes i how.Start ∷ gets j (request.Show text) None none_object (Ends 0 (ending.Return none_object) ∷ [])

-- a body that shows a text tells so
shown_tells : (more : List Payload) (i j line : ℕ) (text : List ℕ) (v : Obj) (env : Env)
    → HasPayload (store more) v (payload.Str text)
    → RunsSuite (scene more) (first line (Show (Leaf (atom.Str text))) nothing) env None i
    (gets j (request.Show v) None none_object (Ends 0 (ending.Return none_object) ∷ [])) (EndsBy (scene more))
shown_tells more i j line text v env is =
    inr (inr (v, is, hears none_object (inr (inr (none_object, refl, inr (0, refl))))))

-- so do the entries of the manager
pub enter_tells : (more : List Payload) (i j : ℕ) → may more enter_object [] (showing i j open_object)
enter_tells more i j =
    let shown = shown_tells more i j 3 (codes "open") open_object (start_env enter_tree []) refl in
    (enter_function, refl, (OfBody enter_tree, refl, (refl, (_, refl, shown))))

-- and its exits
pub exit_tells : (more : List Payload) (i j : ℕ) (c e t : Obj)
    → may more exit_object (c ∷ e ∷ t ∷ []) (showing i j close_object)
exit_tells more i j c e t =
    let shown = shown_tells more i j 6 (codes "close") close_object (start_env exit_tree (c ∷ e ∷ t ∷ [])) refl in
    (exit_function, refl, (OfBody exit_tree, refl, (refl, (_, refl, shown))))

-- ---- work is called

-- what is done within the scope: work raises where its local is true, and returns its number else
abbrev within : Suite
within =
    first 13 (If (Leaf (atom.Name (codes "c"))) (first 14 (Raise (Leaf (atom.Name (codes "Fault")))) nothing))
    (first 16 (Return (Leaf (atom.Name (codes "a")))) nothing)

-- the clause that catches what is raised there
abbrev pub catching : Clauses
catching =
    clause 18 (codes "Fault") (Some (codes "e")) (first 19 (Return (Leaf (atom.Name (codes "e")))) nothing) no_more

-- the statement that has both
abbrev trying : Suite
trying = first 11 (TryExcept (first 12 (With (Leaf (atom.Name (codes "scope"))) None within) nothing) catching) nothing

-- the locals of work behind its test
abbrev pub tested : Obj → Bool → Env
tested x b = set_local (codes "c") (Some (truth_object b)) (start_env work_tree (x ∷ []))

-- what it tells from its entry of the scope on
abbrev entering : (g e : ℕ) → List Own → List Own
entering g e rest =
    gets g (request.Global globals_object (codes "scope")) None scope_object
    (gets e (request.Enter scope_object) None none_object rest)

-- and what it tells from its beginning on, where the events of its group begin with the number k
abbrev working : (k : ℕ) → Obj → Bool → List Own → List Own
working k x b rest =
    gets (up k 4) (request.Compare comparison.Less x limit_object) None (truth_object b)
    (entering (up k 6) (up k 13) rest)

module _ (more : List Payload) where
  -- what follows the suite of the try: the clause, where it raised
  abbrev behind_suite : After
  behind_suite =
      On_raise (behind_body more)
      (λ e env i mid. Tries (scene more) 11 catching e env (Some e) i mid (behind_body more))

  -- what follows the with, which is all of that suite
  abbrev behind_with : After
  behind_with = On_normal behind_suite (λ env i mid. RunsSuite (scene more) nothing env None i mid behind_suite)

  -- what follows what is done within the scope: its exit
  abbrev pub behind_scope : After
  behind_scope = On_exit (scene more) 12 scope_object None behind_with

  -- this may be told within the scope, by a call with x whose test gave b, behind the event that was heard last
  abbrev pub TellsWithin : Obj → Bool → (heard : ℕ) → List Own → Type 0
  TellsWithin x b heard own = RunsSuite (scene more) within (tested x b) None heard own behind_scope

  -- then work tells its entry of the scope and this
  scope_tells : (x : Obj) (b : Bool) (c g e : ℕ) (rest : List Own) → TellsWithin x b e rest
      → RunsSuite (scene more) trying (tested x b) None c (entering g e rest) (EndsBy (scene more))
  scope_tells x b c g e rest told =
      inr (inr (hears scope_object (hears none_object (inr (_, refl, told)))))

  -- so it tells its test, its entry of the scope and this
  pub work_tells : (k : ℕ) (x : Obj) (b : Bool) (rest : List Own) → TellsWithin x b (up k 13) rest
      → may more work_object (x ∷ []) (Makes ∷ Resumes (up k 2) how.Start ∷ working k x b rest)
  work_tells k x b rest told =
      let tries = scope_tells x b (up k 4) (up k 6) (up k 13) rest told in
      let tests : RunsSuite (scene more) work_suite (start_env work_tree (x ∷ [])) None (up k 2) (working k x b rest)
      (EndsBy (scene more)) =
      inr (inr (limit_object, refl, hears (truth_object b) tries)) in
      (work_function, refl, (OfBody work_tree, refl, (refl, (_, refl, tests))))
