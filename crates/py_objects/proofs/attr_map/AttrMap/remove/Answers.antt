use Rattle.std.proofs.Common.{ap, ◌∙◌}
use Rattle.py_objects.specs.Attrs.{without}
use Rattle.py_objects.specs.AttrEntries.{attrs_of}
use Rattle.py_objects.proofs.AttrsLemmas.{attrs_of-remove_entry}
use Rattle.py_objects.proofs.attr_map.AttrMap.remove.Goals as goal

pub returns : goal.returns
returns c =
    ap attrs_of c.shift_remove-value.ensures.entries ∙ attrs_of-remove_entry c.as_slice.result.now c.self.inside.entries.entries
    ∙ ap (λ x. without x (attrs_of c.self.inside.entries.entries)) c.as_slice.ensures ∙ ap (without c.args.name.now) c.self.view_is
