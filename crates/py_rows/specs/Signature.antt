-- The parameters of a code, and what its activations are.
use Rattle.std.specs.Prelude.{ℕ, ◌==◌, Bool, true, false, Option, Some, None, List, [], map, take}
use Rattle.py_code.specs.declared.code.PyCode.{PyCode}
use Rattle.py_code.specs.declared.flags.CodeFlags.{CodeFlags}
use Rattle.py_code.specs.declared.flags.TheConstants.CodeFlags.{IS_GENERATOR, IS_COROUTINE}
use Rattle.py_check.specs.WholeCode.{counts_if}
use Rattle.py_objects.specs.declared.payload.CoroKind.{CoroKind}
use Rattle.py_objects.specs.declared.payload.CoroKind.TheVariants.{Generator, Coroutine, AsyncGen}
use Rattle.py_objects.specs.Objects.{Name}
use Rattle.py_rows.specs.Asked.{name_in}

-- the characters of a name, none where it isn't there
abbrev pub characters : Option Name → Name
characters None = []
characters (Some x) = x

-- the names of a code's positional parameters, in order, by the table that its names are places in
abbrev pub params_of : List (List ℕ) → PyCode → List Name
params_of names code = map (λ id. characters (name_in names (Some id))) (take code.code.arg_count code.code.varnames.items)

-- what activations are seen as that can be suspended, by whether they are those of a generator and of a coroutine (Python Language
-- Reference, 6.2.9)
abbrev pub kind_by : (generator coroutine : Bool) → Option CoroKind
kind_by false false = None
kind_by true false = Some Generator
kind_by false true = Some Coroutine
kind_by true true = Some AsyncGen

-- those of a code with these flags
abbrev pub kind_of : CodeFlags → Option CoroKind
kind_of flags = kind_by (counts_if flags IS_GENERATOR == 1) (counts_if flags IS_COROUTINE == 1)
