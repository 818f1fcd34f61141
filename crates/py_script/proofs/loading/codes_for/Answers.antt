use Rattle.std.proofs.Common.{sym, subst, ap, ◌∙◌, ◌+◌, List, take}
use Rattle.std.specs.Prelude.{ℕ, map}
use Rattle.py_check.specs.declared.annotated.Annotated.{Annotated}
use Rattle.py_grammar.specs.Grammar.{codes_in}
use Rattle.py_grammar.specs.Script.{decl_of}
use Rattle.py_script.specs.Broken.{IsFirstBroken}
use Rattle.py_script.specs.Loaded.{AreReady, IsCodeFor}
use Rattle.py_script.proofs.Coding.{broken_next, codable_next, earlier_none, earlier_some, new_next, ready_none, ready_some}
use Rattle.py_script.proofs.loading.codes_for.Goals as goal
use Rattle.py_script.proofs.loading.codes_for.Goals.{in-Some+in_ok-push_code, in_default}

pub code_for-requires : goal.code_for-requires
code_for-requires c =
    codable_next c.args.declarations.now c.loop-declaration.declaration-index c.declaration-item.result c.loop-declaration-test.true c.declaration-item.is c.requires
    c.loop-declaration.earlier c.loop-declaration.invariant.earlier

pub push_code-requires : goal.push_code-requires
push_code-requires c =
    new_next c.args.declarations.now c.loop-declaration.declaration-index c.declaration-item.result c.loop-declaration-test.true c.declaration-item.is c.requires
    c.loop-declaration.earlier c.loop-declaration.invariant.earlier c.name.result.now c.name.ensures

pub returns-in-Err-Breaks-clause-fault : goal.returns-in-Err-Breaks-clause-fault
returns-in-Err-Breaks-clause-fault c =
    let ds = c.args.declarations.now in
    let so_far = c.loop-declaration.invariant in
    let broken = broken_next ds c.loop-declaration.declaration-index c.declaration-item.result c.loop-declaration-test.true c.declaration-item.is c.loop-declaration.names c.loop-declaration.codes.items
    c.loop-declaration.earlier so_far.ready so_far.earlier c.in-Err-Breaks.field-0 _ c.in-Err-Breaks.field-0-is c.in-Err-Breaks.ensures.fault in
    let counted = subst (λ (n : ℕ). IsFirstBroken (map decl_of ds) n c.in-Err-Breaks.at) (sym (c.len.ensures ∙ c.loop-declaration.codes.ok.0)) broken in
    subst (λ (at : ℕ). IsFirstBroken (map decl_of ds) c.len.result at) (sym c.in-Err-Breaks.at-is) counted

pub loop-declaration-preserved : goal.loop-declaration-preserved
loop-declaration-preserved c =
    let ds = c.args.declarations.now in
    let i = c.loop-declaration.declaration-index in
    let d = c.declaration-item.result in
    let low = c.loop-declaration-test.true in
    let names = c.loop-declaration.names in
    let codes : List Annotated = c.loop-declaration.codes.items in
    let earlier = c.loop-declaration.earlier in
    let so_far = c.loop-declaration.invariant in
    let coded = codes_in (map decl_of (take (i + 1) ds)) in
    let grows = c.code_for.ensures.grows in
    elim c.match-made.branch [
      | in-Some+in_ok-push_code w ↦
          let made = subst (IsCodeFor c.code_for.new.names earlier (decl_of d)) w.in-Some.is c.in-Ok.ensures.made in
          record {
            ready = subst (λ (cs : List Annotated). AreReady coded (record { names = c.code_for.new.names; codes = cs })) (sym (ap (λ v. v.items) w.codes-is ∙ w.in_ok-push_code.ensures.codes))
                (ready_some ds i d low c.declaration-item.is names codes earlier so_far.ready so_far.earlier c.code_for.new.names grows w.in-Some.code made);
            earlier = w.earlier-is
                ∙ (w.in_ok-push_code.ensures.earlier
                ∙ earlier_some ds i d low c.declaration-item.is names codes earlier so_far.ready so_far.earlier c.code_for.new.names grows w.in-Some.code made w.name.result.now w.name.ensures);
          }
      | in_default w ↦
          let none = subst (IsCodeFor c.code_for.new.names earlier (decl_of d)) w.in_default.is c.in-Ok.ensures.made in
          record {
            ready = subst (λ (cs : List Annotated). AreReady coded (record { names = c.code_for.new.names; codes = cs })) (sym (ap (λ v. v.items) w.codes-is))
                (ready_none ds i d low c.declaration-item.is names codes earlier so_far.ready so_far.earlier c.code_for.new.names grows none);
            earlier = w.earlier-is ∙ earlier_none ds i d low c.declaration-item.is names codes earlier so_far.ready so_far.earlier c.code_for.new.names grows none;
          }
    ]
