-- Code that does what a body does.
use Rattle.std.specs.Prelude.{ℕ, Bool, false, Option, Some, None, List, ◌∷◌, ◌++◌, ◌≡◌, length, slice_get, eqb, codes, encode_utf8_all}
use Rattle.py_code.specs.declared.code.PyCode.{PyCode}
use Rattle.py_objects.specs.declared.refs.PyBaseExceptionRef.{PyBaseExceptionRef}
use Rattle.py_objects.specs.declared.payload.Payload.{Payload}
use Rattle.py_objects.specs.Objects.{Obj}
use Rattle.py_objects.specs.Own.{Own, Makes}
use Rattle.py_objects.specs.Telling.{ThrowTest}
use Rattle.py_check.specs.declared.annotated.Annotated.{Annotated}
use Rattle.py_rows.specs.States.{State}
use Rattle.py_rows.specs.RunOfRows.{Runs, started}
use Rattle.py_check.specs.Sheet.{sheet_of}
use Rattle.py_check.specs.Typing.{IsTyped}
use Rattle.py_rows.specs.Sound.{IsSound}
use Rattle.py_rows.specs.Signature.{kind_of, params_of}
use Rattle.py_laid.specs.Naming.{IsNameOf}
use Rattle.py_tree.specs.Tree.{Tree, seen_as}
use Rattle.py_tree.specs.Scene.{Scene}
use Rattle.py_tree.specs.Trace.{IsTrace}

-- one list goes on as another
abbrev pub Continues : {A : Type 0} → List A → List A → Type 0
Continues {A} front whole = (more : List A) × (whole ≡ front ++ more)

-- whether this line is the one that is there
abbrev pub is_line : ℕ → Option ℕ → Bool
is_line line None = false
is_line line (Some other) = eqb line other

-- each unit asks for a statement of the line that the code has for it, and by this test exceptions are thrown in
abbrev pub located : PyCode → List Payload → Obj → ThrowTest → Scene
located code objects globals throws =
    record { objects = objects; globals = globals; is_of = λ at line. is_line line (slice_get code.code.locations.items at); throws_under = throws }

-- the code has the body's kind, its name and its parameters, and the path of scripts, keeps the typing rules with its notes, behind whatever codes, its names are in the table, and each run of its
-- rows, whole or cut, from any arguments, with any closure, whatever the slot holds at first and whatever answers of the wanted kinds come, is a
-- trace of the body behind the making of its activation, in which each unit that asks has its statement's line. Where an exception is
-- thrown in, the body handles what the frame's blocks do: a test that lets the run through lets the trace through. All this where the
-- table may have grown since
pub record Fits (names : List (List ℕ)) (code : Annotated) (t : Tree) : Type 0 where
  pub kind : kind_of code.code.code.flags ≡ seen_as t.kind
  pub arity : code.code.code.arg_count ≡ length t.params
  pub params : params_of names code.code ≡ t.params
  pub source_path : IsNameOf names code.code.code.source_path (codes "<script>")
  pub obj_name : IsNameOf names code.code.code.obj_name (encode_utf8_all t.name)
  pub sound : IsSound names code
  pub typed : (shapes : List ℕ) → IsTyped shapes (sheet_of code)
  pub traces : (table : List (List ℕ)) (globals : Obj) (closure : List Obj) (objects : List Payload) (throws : ThrowTest)
      (slot : Option PyBaseExceptionRef) (args : List Obj) (ts : List Own) (s : State)
      → Continues names table → length args ≡ length t.params
      → Runs objects (record { code = code.code; names = table; globals = globals; closure = closure; throws_under = throws }) (started code.code slot args) ts s
      → IsTrace (located code.code objects globals throws) t args (Makes ∷ ts)
