use Rattle.std.proofs.Common.{ap, ◌∙◌}
use Rattle.py_objects.specs.AttrEntries.{attrs_of}
use Rattle.py_objects.specs.Attrs.{value_of}
use Rattle.py_objects.proofs.AttrsLemmas.{value_of-attrs_of}
use Rattle.py_objects.proofs.attr_map.AttrMap.get.Goals as goal

pub returns : goal.returns
returns c =
    c.copied.ensures ∙ c.get.ensures.value ∙ value_of-attrs_of c.as_slice.result.now c.self.inside.entries.entries
    ∙ ap (λ x. value_of x (attrs_of c.self.inside.entries.entries)) c.as_slice.ensures ∙ ap (value_of c.args.name.now) c.self.view_is
