use Rattle.std.proofs.Common.{◌∙◌, ◌∷◌, [], refl, ap, arith, length, length-append, map, subst, take}
use Rattle.py_grammar.specs.Grammar.{codes_in}
use Rattle.py_grammar.specs.Script.{decl_of}
use Rattle.py_vm.specs.Machine.{Machine}
use Rattle.py_script.specs.Loaded.{HasObjects}
use Rattle.py_script.proofs.Declarations.{front_whole}
use Rattle.py_script.proofs.Adding.{added_next, entry_next, founded_next, codes_more, nothing_added}
use Rattle.py_script.proofs.declaring.add_declarations.Goals as goal

pub entry_of-requires : goal.entry_of-requires
entry_of-requires c =
    let so_far = c.loop-declaration.invariant.added in
    record {
      works = ap (λ (m : Machine). m.failed) so_far.others ∙ c.requires.works;
      unchanged = ap (λ (m : Machine). m.changes) so_far.others ∙ c.requires.unchanged;
      founded = founded_next c.args.declarations.now c.loop-declaration.declaration-index c.declaration-item.result c.loop-declaration-test.true c.declaration-item.is c.requires.well c.loop-declaration.vm.objects so_far.are;
    }

pub add_object-requires : goal.add_object-requires
add_object-requires c =
    let so_far = c.loop-declaration.invariant in
    let same = ap (λ (m : Machine). length m.checked.codes) so_far.added.others in
    let may = entry_next c.args.declarations.now c.loop-declaration.declaration-index c.declaration-item.result c.loop-declaration-test.true c.declaration-item.is c.requires.well
    c.loop-declaration.vm.objects (length c.loop-declaration.vm.checked.codes) c.loop-declaration.code c.in_ok-entry.entry so_far.added.are so_far.number (omega (arith, same, c.requires.coded)) c.in_ok-entry.ensures in
    record { below = may.below; made = may.made; addable = may.addable }

pub loop-declaration-init : goal.loop-declaration-init
loop-declaration-init c = record { added = nothing_added c.args.vm.now c.requires.first; number = refl; few = omega arith }

pub loop-declaration-preserved : goal.loop-declaration-preserved
loop-declaration-preserved c =
    let so_far = c.loop-declaration.invariant in
    let ds = c.args.declarations.now in
    let i = c.loop-declaration.declaration-index in
    let d = c.declaration-item.result in
    let now = c.loop-declaration.vm in
    let n = c.loop-declaration.code in
    let count = ap length (codes_more ds i d c.loop-declaration-test.true c.declaration-item.is) ∙ length-append (codes_in (map decl_of (take i ds))) (codes_in (decl_of d ∷ [])) in
    record {
      added = added_next ds i d c.loop-declaration-test.true c.declaration-item.is c.requires.well c.args.vm.now now c.add_object.new.self n c.in_ok-entry.entry so_far.added so_far.number c.in_ok-entry.ensures c.in-Ok.ensures.1.1;
      number = omega (arith, so_far.number, count, c.code_count-code.ensures.is);
      few = omega (arith, so_far.few, c.code_count-code.ensures.few);
    }

pub returns : goal.returns
returns c = subst (λ ds. HasObjects ds c.args.vm.now c.loop-declaration.vm) (front_whole decl_of c.args.declarations.now c.loop-declaration.declaration-index (omega (arith, c.loop-declaration-test.false))) c.loop-declaration.invariant.added
