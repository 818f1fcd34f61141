-- What operators do with the values of their operands: a line an operator.
use Rattle.std.specs.Prelude.{None}
use Rattle.py_code.specs.declared.operator.BinaryOperator.TheVariants as binary
use Rattle.py_code.specs.declared.operator.ComparisonOperator.TheVariants as comparison
use Rattle.py_objects.specs.declared.request.Request.{Request}
use Rattle.py_objects.specs.declared.request.Request.TheVariants as request
use Rattle.py_objects.specs.Objects.{Obj}
use Rattle.py_tree.specs.declared.expr.Operator.{Operator}
use Rattle.py_tree.specs.declared.expr.Operator.TheVariants as operator

-- what is done with values: a request is made of one, of two, of a callee and its arguments, or one is yielded
pub data Way : Type 0 where
  Asks_one : (Obj → Request) → Way
  Asks_two : (Obj → Obj → Request) → Way
  Calls_it : Way
  Yields_it : Way

-- the request of a throw into a generator, without a value or a traceback beside what is thrown
abbrev pub throws : Obj → Obj → Request
throws g c = request.Throw g c None None

abbrev pub way_of : Operator → Way
way_of operator.Add = Asks_two (request.Binary binary.Add)
way_of operator.Sub = Asks_two (request.Binary binary.Subtract)
way_of operator.Lt = Asks_two (request.Compare comparison.Less)
way_of operator.Eq = Asks_two (request.Compare comparison.Equal)
way_of operator.Send = Asks_two request.Send
way_of operator.Throw = Asks_two throws
way_of operator.Close = Asks_one request.Close
way_of operator.Yield = Yields_it
way_of operator.Call = Calls_it
