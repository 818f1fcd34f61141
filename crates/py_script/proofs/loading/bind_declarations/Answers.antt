use Rattle.std.proofs.Common.{map}
use Rattle.py_grammar.specs.Script.{decl_of}
use Rattle.py_script.proofs.Objects.{bindings_below}
use Rattle.py_script.proofs.loading.bind_declarations.Goals as goal

pub take_globals-requires-clause-below : goal.take_globals-requires-clause-below
take_globals-requires-clause-below c = bindings_below c.bind_names.new.vm.objects (map decl_of c.args.declarations.now) c.in_ok-pairs.pairs c.in_ok-pairs.ensures.bindings
