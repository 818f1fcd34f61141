-- What holds of laid code.
use Rattle.std.specs.Prelude.{ℕ, Option, List, [], ◌∷◌, ◌≡◌, length}
use Rattle.std.specs.Option.{option_or}
use Rattle.py_objects.specs.declared.refs.PyBaseExceptionRef.{PyBaseExceptionRef}
use Rattle.py_objects.specs.declared.payload.Payload.{Payload}
use Rattle.py_objects.specs.Objects.{Obj}
use Rattle.py_objects.specs.declared.request.Request.{Request}
use Rattle.py_objects.specs.Own.{Own, Makes, Asks}
use Rattle.py_objects.specs.Telling.{ThrowTest}
use Rattle.py_check.specs.declared.annotated.Annotated.{Annotated}
use Rattle.py_check.specs.Sheet.{sheet_of}
use Rattle.py_check.specs.Typing.{IsTyped}
use Rattle.py_check.specs.Running.{AllRun}
use Rattle.py_rows.specs.States.{Setting, State}
use Rattle.py_rows.specs.RunOfRows.{Runs, Steps, started}
use Rattle.py_tree.specs.Tree.{Name, Tree}
use Rattle.py_tree.specs.Binding.{locals_of}
use Rattle.py_tree.specs.Trace.{IsTrace}
use Rattle.py_laid.specs.Code.{IsLaid, IsPlain}
use Rattle.py_laid.specs.Fits.{Fits, located}
use Rattle.py_laid.specs.Instructions.{UsesCompiled}
use Rattle.py_laid.specs.Naming.{NamesAll, IsNamed}

-- each run of laid code, whole or cut, from any arguments, as many as there are parameters, with any closure, whatever the slot holds
-- at first, however its frame is entered and whatever answers of the wanted kinds come, is a trace of its tree behind the making of
-- its activation, in which each unit asks and yields for a statement of its line, and what is thrown in comes while the tree handles what
-- the frame's blocks do
abbrev pub RunsAreTraces : Type 0
RunsAreTraces = (globals : List Name) (code : Annotated) (t : Tree) (table : List (List ℕ)) (dict : Obj) (closure : List Obj) (objects : List Payload)
    (throws : ThrowTest) (slot : Option PyBaseExceptionRef) (args : List Obj) (ts : List Own) (s : State)
    → IsLaid globals code t → NamesAll table code.code.code.names.items globals → NamesAll table code.code.code.varnames.items (locals_of t)
    → length args ≡ length t.params
    → Runs objects (record { code = code.code; names = table; globals = dict; closure = closure; throws_under = throws }) (started code.code slot args) ts s
    → IsTrace (located code.code objects dict throws) t args (Makes ∷ ts)

-- laid code that is plain keeps the typing rules with its notes, behind whatever codes, and each of its units runs
abbrev pub LaidCodeIsTyped : Type 0
LaidCodeIsTyped = (globals : List Name) (code : Annotated) (t : Tree) → IsLaid globals code t → IsPlain code t
    → ((shapes : List ℕ) → IsTyped shapes (sheet_of code)) × AllRun (sheet_of code)

-- and fits its tree, where its names are in the table
abbrev pub LaidCodeFits : Type 0
LaidCodeFits = (table : List (List ℕ)) (globals : List Name) (code : Annotated) (t : Tree) → IsLaid globals code t → IsPlain code t → IsNamed table globals code.code t → Fits table code t

-- each of its units is of an instruction that bodies are compiled to
abbrev pub LaidCodeIsCompiled : Type 0
LaidCodeIsCompiled = (globals : List Name) (code : Annotated) (t : Tree) → IsLaid globals code t → UsesCompiled code.code

-- behind each question of a run of any code the slot holds what the question names as handled, or, where it names nothing, what the
-- slot held at first
abbrev pub QuestionsNameSlot : Type 0
QuestionsNameSlot = (objects : List Payload) (setting : Setting) (slot own : Option PyBaseExceptionRef) (args : List Obj) (ts : List Own) (s t : State) (at : ℕ) (r : Request)
    → Runs objects setting (started setting.code slot args) ts s → Steps objects setting s (Asks at r own ∷ []) t → t.slot ≡ option_or own slot
