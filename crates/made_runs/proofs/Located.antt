-- Codes of which the lines of units are known: nothing else is read of them here.
use Rattle.std.proofs.Common.{◌≡◌, ◌<◌, ◌^◌, ℕ, List, [], ◌∷◌, Some, None, length, refl, lit<, arith}
use Rattle.std.specs.Global.{Vec}
use Rattle.py_code.specs.declared.code.PyCode.{PyCode}
use Rattle.py_code.specs.declared.code.CodeObject.{CodeObject}
use Rattle.py_code.specs.Codes.{Codes}
use Rattle.py_code.specs.Flags.{all_of}
use Rattle.py_run.specs.Links.{Lines, lines_in}
use denote.RawPtr.{null_ptr}

-- a vector of these items
vector : {X : Type 0} (xs : List X) → length xs < 2 ^ 63 → Vec X
vector xs few = record {
  items = xs;
  ptr = null_ptr;
  len = length xs;
  cap = length xs;
  alloc = record { memory = record { seal = tt } };
  ok = (refl, omega arith);
  small = few;
}

-- the line in which work raises
abbrev pub raise_line : ℕ
raise_line = 14

-- a code whose first unit is of this line
abbrev code_at : ℕ → CodeObject
code_at line = record {
  instructions = vector [] (lit< tt);
  locations = vector (line ∷ []) (lit< tt);
  flags = all_of [];
  posonlyarg_count = 0;
  arg_count = 0;
  kwonlyarg_count = 0;
  source_path = record { index = 0 };
  first_line_number = None;
  max_stackdepth = 0;
  obj_name = record { index = 0 };
  cell2arg = vector [] (lit< tt);
  constants = record { items = vector [] (lit< tt) };
  names = vector [] (lit< tt);
  varnames = vector [] (lit< tt);
  cellvars = vector [] (lit< tt);
  freevars = vector [] (lit< tt);
}

-- the codes of the journal, of which that of work is the third
pub located : Codes
located =
    let code : PyCode = record { code = code_at raise_line } in
    record { names = []; codes = code ∷ code ∷ code ∷ [] }

abbrev pub the_lines : Lines
the_lines = lines_in located

-- work raises in its line
pub raises_there : the_lines 2 0 ≡ Some raise_line
unfolding vector located
raises_there = refl
