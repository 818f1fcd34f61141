use Rattle.std.proofs.Common.{sym, ap, ◌∙◌, map, refl}
use Rattle.py_code.specs.declared.literal.Literal.{Tuple}
use Rattle.py_raw.specs.RawSheet.{plain_constant}
use Rattle.py_raw.proofs.LiteralLemmas.{placed_there, tuple_is}
use Rattle.py_raw.proofs.constants.constant_of.Goals as goal

-- a code that is named is there
pub unreachable-requires : goal.unreachable-requires
unreachable-requires c =
    placed_there c.args.earlier.now c.in-Code.name (rw c.in-Code.is at c.requires) (sym c.in-None.is ∙ c.place.ensures.place)

pub returns-in_ok-items_of-in-Tuple : goal.returns-in_ok-items_of-in-Tuple
returns-in_ok-items_of-in-Tuple c =
    let items = c.in_ok-items_of-in-Tuple.field-0 in
    rw c.in-Tuple.is
    (tuple_is c.args.earlier.now c.in-Tuple.atoms items (Tuple items) refl (c.in_ok-items_of-in-Tuple.ensures ∙ ap (map plain_constant) c.as_slice.ensures))
