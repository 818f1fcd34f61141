-- The codes of a program.
use Rattle.std.specs.Prelude.{ℕ, List}
use Rattle.py_code.specs.declared.code.PyCode.{PyCode}

-- codes in order, and the texts that their names are places of
pub record Codes : Type 0 where
  pub names : List (List ℕ)
  pub codes : List PyCode
