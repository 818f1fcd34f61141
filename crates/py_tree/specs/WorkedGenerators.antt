-- Small generators: what they yield, how they go on, and what is thrown into them.
use Rattle.std.specs.Prelude.{ℕ, true, false, Some, None, List, [], ◌∷◌, ◌≡◌, codes, eqb, pos}
use Rattle.py_objects.specs.declared.refs.PyBaseExceptionRef.{PyBaseExceptionRef}
use Rattle.py_objects.specs.declared.payload.Payload.{Payload}
use Rattle.py_objects.specs.declared.payload.Payload.TheVariants as payload
use Rattle.py_objects.specs.declared.request.Request.TheVariants as request
use Rattle.py_objects.specs.declared.event.ResumeHow.TheVariants as how
use Rattle.py_objects.specs.declared.event.GotAnswer.TheVariants as got
use Rattle.py_objects.specs.declared.event.Ending.TheVariants as ending
use Rattle.py_objects.specs.Objects.{Obj, HasPayload}
use Rattle.py_objects.specs.Own.{Makes, Resumes, Asks, Gets, Yields, Ends}
use Rattle.py_objects.specs.Telling.{ThrowTest, under_any}
use Rattle.py_tree.specs.declared.body.BodyKind.TheVariants.{Generator}
use Rattle.py_tree.specs.declared.expr.Atom.TheVariants as atom
use Rattle.py_tree.specs.declared.expr.Operator.TheVariants as operator
use Rattle.py_tree.specs.Tree.{Name, Leaf, Operate, operand, no_operands, Assign, Do, Show, Pass, TryExcept, TryFinally, Suite, nothing, first, no_more, clause, Tree}
use Rattle.py_tree.specs.Scene.{Scene, anywhere}
use Rattle.py_tree.specs.Outcome.{Handled}
use Rattle.py_tree.specs.Trace.{IsTrace}
use Rattle.py_tree.specs.Worked.{e_name, shows_behind}
use Rattle.py_tree.specs.WorkedHandlers.{x_name, none_object}

-- a generator of these statements
abbrev pub generator : Suite → Tree
generator s = record { kind = Generator; name = codes "g"; params = []; suite = s; line = 1 }

-- where object 0 is None and object 1 is 1, each unit asks for a statement of the line that its place is, and by this test exceptions are
-- thrown in
abbrev pub yielding : ThrowTest → Obj → Scene
yielding throws globals = record { objects = payload.None ∷ payload.Int (pos 1) ∷ []; globals = globals; is_of = λ at line. eqb at line; throws_under = throws }

abbrev pub one_object : Obj
one_object = record { number = 1 }

-- ---- what is yielded, and what is sent

-- x = (yield 1) / show x
abbrev pub yields_one : Tree
yields_one = generator (first 2 (Assign x_name (Operate operator.Yield (operand (Leaf (atom.Int (pos 1))) no_operands))) (first 3 (Show (Leaf (atom.Name x_name))) nothing))

-- it yields 1 from its line, and shows what it is sent
abbrev pub YieldedIsTrace : Type 0
YieldedIsTrace = (globals v u : Obj)
    → IsTrace (yielding under_any globals) yields_one []
    (Makes ∷ Resumes 2 how.Start ∷ Yields 2 one_object ∷ Resumes 7 (how.Send v) ∷ Asks 3 (request.Show v) None ∷ Gets 8 (got.Value u) ∷ Ends 0 (ending.Return none_object) ∷ [])

-- it yields no other number
abbrev pub NoOtherYielded : Type 0
NoOtherYielded = (scene : Scene) (k at : ℕ) (v : Obj) → HasPayload scene.objects v (payload.Int (pos 2)) → IsTrace scene yields_one [] (Makes ∷ Resumes k how.Start ∷ Yields at v ∷ []) → ⊥

-- it doesn't go on before it is entered again
abbrev pub NoneGoesOnAlone : Type 0
NoneGoesOnAlone = (scene : Scene) (k at after : ℕ) (v w : Obj) → IsTrace scene yields_one [] (Makes ∷ Resumes k how.Start ∷ Yields at v ∷ Asks after (request.Show w) None ∷ []) → ⊥

-- ---- what is thrown in before the start

-- try / show None / except E / pass / end
abbrev pub guards : Tree
guards = generator (first 2 (TryExcept (first 3 (Show (Leaf atom.None)) nothing) (clause 4 e_name None (first 5 Pass nothing) no_more)) nothing)

-- what is thrown into a generator that hasn't started ends it
abbrev pub ThrownInIsTrace : Type 0
ThrownInIsTrace = (objects : List Payload) (globals : Obj) (e : PyBaseExceptionRef)
    → IsTrace (anywhere objects globals) guards [] (Makes ∷ Resumes 2 (how.Throw e) ∷ Ends 0 (ending.Raise e) ∷ [])

-- its clause isn't asked
abbrev pub NoClauseBeforeStart : Type 0
NoClauseBeforeStart = (scene : Scene) (k at : ℕ) (h : Handled) (e : PyBaseExceptionRef) (x : Name) → IsTrace scene guards [] (Makes ∷ Resumes k (how.Throw e) ∷ Asks at (request.Global scene.globals x) h ∷ []) → ⊥

-- and nothing is thrown into a function
abbrev pub NoThrowIntoFunction : Type 0
NoThrowIntoFunction = (scene : Scene) (k : ℕ) (e : PyBaseExceptionRef) → IsTrace scene shows_behind [] (Makes ∷ Resumes k (how.Throw e) ∷ []) → ⊥

-- ---- what is handled where an exception is thrown in

-- try / show None / finally / do (yield 1) / end
abbrev pub yields_in_finally : Tree
yields_in_finally =
    generator (first 2 (TryFinally (first 3 (Show (Leaf atom.None)) nothing) (first 5 (Do operator.Yield (operand (Leaf (atom.Int (pos 1))) no_operands)) nothing)) nothing)

-- where the show raises e, it yields while e is handled; an event that may throw f in then ends it by f
abbrev pub ThrownWhileHandling : Type 0
ThrownWhileHandling = (throws : ThrowTest) (globals : Obj) (e f : PyBaseExceptionRef) → throws 7 (Some e) ≡ true
    → IsTrace (yielding throws globals) yields_in_finally []
    (Makes ∷ Resumes 2 how.Start ∷ Asks 3 (request.Show none_object) None ∷ Gets 4 (got.Raise e) ∷ Yields 5 one_object ∷ Resumes 7 (how.Throw f) ∷ Ends 0 (ending.Raise f) ∷ [])

-- an event throws nothing in that may not while e is handled, such as one that may only while nothing is
abbrev pub NoThrowWhereItMayNot : Type 0
NoThrowWhereItMayNot = (scene : Scene) (k at l after i : ℕ) (v w : Obj) (e f : PyBaseExceptionRef) → scene.throws_under i (Some e) ≡ false
    → IsTrace scene yields_in_finally [] (Makes ∷ Resumes k how.Start ∷ Asks at (request.Show v) None ∷ Gets l (got.Raise e) ∷ Yields after w ∷ Resumes i (how.Throw f) ∷ []) → ⊥
