use Rattle.std.proofs.Common.{map, ap}
use Rattle.py_code.proofs.NamesLemmas.{list_any-view}
use Rattle.py_objects.specs.ErrorKinds.{error_kinds, name_of}
use Rattle.py_grammar.proofs.rules.is_builtin_class.Goals as goal

pub returns : goal.returns
returns c = list_any-view name_of c.all.result.now (map name_of error_kinds) (ap (map name_of) c.all.ensures) c.args.name.now c.is_name_of.result c.is_name_of.ensures
