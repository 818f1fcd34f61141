-- Laid code runs as its tree: every form, every suite and all clauses, by induction over the tree. The runs take only the loop
-- around from a scope; the real stack and blocks are those of the context.
use Rattle.std.proofs.Common.{◌≤◌, ℕ}
use Rattle.py_objects.specs.declared.refs.PyBaseExceptionRef.{PyBaseExceptionRef}
use Rattle.py_tree.specs.Tree.{Form, Assign, Do, Show, Return, Raise, Reraise, Break, Continue, Pass, If, IfElse, While, TryExcept, TryFinally, With, Suite, nothing, first, Clauses, no_more, clause}
use Rattle.py_tree.specs.Outcome.{Normal, Handled, Runs, RunsSuite}
use Rattle.py_laid.specs.Code.{Scope, in_loop, in_try, in_clauses, in_finally, before_finally, on, LaidForm, LaidSuite, LaidClauses}
use Rattle.py_laid.proofs.Decoding.{Execution, TellsFrom, parts_of, scene_of}
use Rattle.py_laid.proofs.Places.{form_bound, suite_bound, handler_bound, clauses_bound}
use Rattle.py_laid.proofs.Lands.{Context, RunsFrom}
use Rattle.py_laid.proofs.Loads.{true_stays}
use Rattle.py_laid.proofs.Units.{suite_pauses, clause_pauses}
use Rattle.py_laid.proofs.Plain.{assign_run, do_run, show_run, return_run, raise_run, reraise_run, pass_run, break_run, continue_run, branch_run, if_else_run, nothing_run, first_run}
use Rattle.py_laid.proofs.Looping.{while_run}
use Rattle.py_laid.proofs.Trying.{finally_run, handler_suite_run}
use Rattle.py_laid.proofs.Managing.{with_run}
use Rattle.py_laid.proofs.Clauses.{TriesFrom, no_more_run, clause_run, except_run}

module _ (ex : Execution) where
  mutual
    form_run : (f : Form) (scope : Scope) (line at to : ℕ) → LaidForm (parts_of ex) scope line f at to → RunsFrom ex scope.around at to (Runs (scene_of ex) line f)
    form_run (Assign x e) scope line at to laid = assign_run ex scope line at to x e laid
    form_run (Do o es) scope line at to laid = do_run ex scope line at to o es laid
    form_run (Show a) scope line at to laid = show_run ex scope line at to a laid
    form_run (Return a) scope line at to laid = return_run ex scope line at to a laid
    form_run (Raise a) scope line at to laid = raise_run ex scope line at to a laid
    form_run Reraise scope line at to laid = reraise_run ex scope line at to laid
    form_run Break scope line at to laid = break_run ex scope.around scope line at to laid
    form_run Continue scope line at to laid = continue_run ex scope.around scope line at to laid
    form_run Pass scope line at to laid = pass_run ex scope line at to laid
    form_run (If a s) scope line at to laid = branch_run ex scope (λ b. b) (true_stays ex) line at to a s (λ begins suite. suite_run s scope begins to suite) laid
    form_run (IfElse a s t) scope line at to laid =
        if_else_run ex scope line at to a s t (λ begins leaves suite. suite_run s scope begins leaves suite) (λ other suite. suite_run t scope other to suite) laid
    form_run (While a s) scope line at to laid = while_run ex scope line at to a s (λ labels begins repeats suite. suite_run s (in_loop labels scope) begins repeats suite) laid
    form_run (TryExcept s cs) scope line at to laid =
        except_run ex scope line at to s cs (λ handler begins leaves suite. suite_run s (in_try handler scope) begins leaves suite)
        (λ handler clauses c e kept low high later. clauses_run cs scope line handler to clauses c e kept low high later) laid
    form_run (TryFinally s t) scope line at to laid =
        finally_run ex scope.around scope line at to (RunsSuite (scene_of ex) s) (RunsSuite (scene_of ex) t) (λ within begins leaves. LaidSuite (parts_of ex) within s begins leaves)
        (λ within handler ends. LaidSuite (parts_of ex) within t handler ends)
        (λ within from upto suite. suite_bound (parts_of ex) within s from upto suite) (λ within from upto suite. suite_bound (parts_of ex) within t from upto suite)
        (suite_pauses ex s) (suite_pauses ex t)
        (λ handler from upto suite. suite_run s (before_finally handler scope) from upto suite) (λ from upto suite. suite_run t (in_finally scope) from upto suite) laid
    form_run (With a x s) scope line at to laid =
        with_run ex scope.around scope line at to a x (RunsSuite (scene_of ex) s) (λ within begins leaves. LaidSuite (parts_of ex) within s begins leaves)
        (λ within from upto suite. suite_bound (parts_of ex) within s from upto suite) (suite_pauses ex s)
        (λ handler from upto suite. suite_run s (before_finally handler (on scope)) from upto suite) laid

    -- a run of the code of statements tells what they may tell
    pub suite_run : (s : Suite) (scope : Scope) (at to : ℕ) → LaidSuite (parts_of ex) scope s at to → RunsFrom ex scope.around at to (RunsSuite (scene_of ex) s)
    suite_run nothing scope at to laid = nothing_run ex scope at to laid
    suite_run (first line f more) scope at to (mid, one, rest) =
        first_run ex scope.around line at mid to f more (form_bound (parts_of ex) scope f line at mid one) (suite_bound (parts_of ex) scope more mid to rest)
        (form_run f scope line at mid one) (suite_run more scope mid to rest)

    clauses_run : (cs : Clauses) (scope : Scope) (line at to : ℕ) → LaidClauses (parts_of ex) scope line cs at to
        → (c : Context ex scope.around) (e : PyBaseExceptionRef) (kept : Handled) → c.low ≤ at → to ≤ c.high
        → TellsFrom ex to c.base c.blocks c.limit (λ env. c.K env Normal) → TriesFrom ex c e kept at line cs
    clauses_run no_more scope line at to laid c e kept low high later = no_more_run ex c e kept _ line at to laid low high
    clauses_run (clause n class x s more) scope line at to
        (loads, asks, decides, binds, begins, leaves, jumps, other, duplicate, load, matches, decide, binding, suite, pop, leave, rest) c e kept low high later =
        clause_run ex c e kept scope line at to n class x s more loads asks decides binds begins leaves jumps other duplicate load matches decide binding pop leave
        (handler_bound (parts_of ex) (in_clauses scope) n x (λ within from upto. LaidSuite (parts_of ex) within s from upto) begins leaves
        (λ within from upto laid. suite_bound (parts_of ex) within s from upto laid) suite)
        (clauses_bound (parts_of ex) scope line more other to rest) low high (clause_pauses ex x (RunsSuite (scene_of ex) s) (suite_pauses ex s))
        (handler_suite_run ex scope.around (in_clauses scope) n begins leaves x (RunsSuite (scene_of ex) s) (λ within from upto. LaidSuite (parts_of ex) within s from upto)
        (λ within from upto laid. suite_bound (parts_of ex) within s from upto laid) (suite_pauses ex s)
        (λ from upto laid. suite_run s (in_clauses scope) from upto laid) (λ handler from upto laid. suite_run s (before_finally handler (in_clauses scope)) from upto laid) suite)
        (λ below. clauses_run more scope line other to rest c e kept below high later) later
