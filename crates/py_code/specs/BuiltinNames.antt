-- The functions that the machine itself carries out, by their names.
use Rattle.std.specs.Prelude.{ℕ, List, codes}
use Rattle.py_code.specs.declared.literal.BuiltinFn.{BuiltinFn}
use Rattle.py_code.specs.declared.literal.BuiltinFn.TheVariants as builtin

-- the name of such a function
abbrev pub builtin_name : BuiltinFn → List ℕ
builtin_name builtin.Len = codes "len"
builtin_name builtin.Repr = codes "repr"
builtin_name builtin.Str = codes "str"
builtin_name builtin.IsInstance = codes "isinstance"
builtin_name builtin.Iter = codes "iter"
builtin_name builtin.Next = codes "next"
builtin_name builtin.Range = codes "range"
builtin_name builtin.BuildClass = codes "buildclass"
builtin_name builtin.Send = codes "send"
builtin_name builtin.Throw = codes "throw"
builtin_name builtin.Close = codes "close"
builtin_name builtin.ASend = codes "asend"
builtin_name builtin.AThrow = codes "athrow"
builtin_name builtin.AClose = codes "aclose"
