use Rattle.std.proofs.Common.{ap, ◌∙◌}
use Rattle.py_objects.specs.Attrs.{inserted}
use Rattle.py_objects.specs.AttrEntries.{attrs_of}
use Rattle.py_objects.proofs.AttrsLemmas.{attrs_of-insert_entry}
use Rattle.py_objects.proofs.attr_map.AttrMap.insert.Goals as goal

pub returns-clause-inserted : goal.returns-clause-inserted
returns-clause-inserted c =
    ap attrs_of c.in_ok-insert.ensures.entries ∙ attrs_of-insert_entry c.into_vec.result c.args.value c.self.inside.entries.entries
    ∙ ap (λ x. inserted x c.args.value (attrs_of c.self.inside.entries.entries)) c.into_vec.ensures ∙ ap (inserted c.args.name c.args.value) c.self.view_is
