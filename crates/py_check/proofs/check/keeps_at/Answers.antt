use Rattle.std.proofs.Common.{◌≡◌, ℕ, List, length, Bool, true, Some, slice_get, refl, sym, subst, ap, ◌∙◌, arith, rules}
use Rattle.std.specs.Prelude.{IfOk}
use Rattle.std.proofs.lemmas.Option.{slice_get_read}
use Rattle.std.proofs.lemmas.Bool.Decides.{nat_tests}
use Rattle.py_check.specs.declared.note.Kind.{Kind}
use Rattle.py_check.specs.declared.note.Note.TheVariants.{Live}
use Rattle.py_check.specs.Sheet.{sheet_of}
use Rattle.py_check.specs.Operands.{operand}
use Rattle.py_check.specs.Landing.{has_room, levels_nest, handlers_land}
use Rattle.py_check.specs.Typing.{keeps_at, keeps_op}
use Rattle.py_check.proofs.CheckLemmas.{keeps_live}
use Rattle.py_check.proofs.check.keeps_at.Goals as goal

pub returns-else-not-open_handlers_land : goal.returns-else-not-open_handlers_land
returns-else-not-open_handlers_land c =
    let units = c.args.checking.now.code.now.code.code.instructions.items in
    let sheet = sheet_of c.args.checking.now.code.now in
    let u = c.index.result.now in
    let ks = c.as_slice-kinds.result.now in
    let unit : slice_get units c.args.at ≡ Some u = slice_get_read units (length units) c.args.at u refl c.requires.within c.index.ensures in
    let same : ks ≡ c.in-Some-Live.kinds = search rules in
    let there : slice_get c.args.checking.now.code.now.notes c.args.at ≡ Some (Live c.in-Some-Live.kinds c.in-Some-Live.blocks) = search rules in
    let note : slice_get c.args.checking.now.code.now.notes c.args.at ≡ Some (Live ks c.in-Some-Live.blocks) = there ∙ ap (λ (l : List Kind). Some (Live l c.in-Some-Live.blocks)) (sym same) in
    let counted : length ks ≡ length c.in-Some-Live.kinds = ap length same in
    let room : has_room sheet ks ≡ true = grind (arith, nat_tests, c.len.ensures, c.if-len-code.false, counted) in
    let nest : levels_nest (length ks) c.in-Some-Live.blocks ≡ true = sym c.levels_nest.ensures ∙ c.if-not-levels_nest.false in
    let land : handlers_land sheet ks c.in-Some-Live.blocks ≡ true = sym c.open_handlers_land.ensures ∙ c.if-not-open_handlers_land.false in
    let is : keeps_at c.args.checking.now.shapes.now sheet c.args.at ≡ keeps_op c.args.checking.now.shapes.now sheet c.args.at u.op (operand units c.args.at u) ks c.in-Some-Live.blocks = keeps_live c.args.checking.now.shapes.now sheet c.args.at u ks c.in-Some-Live.blocks unit note room nest land in
    subst (λ (b : Bool). IfOk c.keeps_op.result (λ kept. kept ≡ b)) (ap (λ (n : ℕ). keeps_op c.args.checking.now.shapes.now sheet c.args.at u.op n ks c.in-Some-Live.blocks) (c.requires.arg u unit) ∙ sym is) c.keeps_op.ensures
