use Rattle.std.proofs.Common.{◌≡◌, List, ap, ◌∙◌, refl, subst, length, rules}
use Rattle.py_code.specs.declared.code.CodeObject.{CodeObject}
use Rattle.py_check.specs.declared.annotated.Annotated.{Annotated}
use Rattle.py_tree.specs.Tree.{Name}
use Rattle.py_tree.specs.Views.{tree_of}
use Rattle.py_tree.specs.Binding.{locals_of}
use Rattle.py_laid.specs.Code.{parts_with}
use Rattle.py_laid.specs.Naming.{NamesAll}
use Rattle.py_body.specs.Emitting.{Draft, draft_of}
use Rattle.py_body.proofs.BodyLemmas.{laid_code, matched_code, same_parts}
use Rattle.py_body.proofs.NamingLemmas.{length-NamesAll, named_code}
use Rattle.py_body.proofs.compile.compile_code.Goals as goal

pub returns-clause-laid : goal.returns-clause-laid
returns-clause-laid c =
    let d : Draft = draft_of c.in_ok-emitter.emitter in
    let t = tree_of c.args.body.now in
    let code : Annotated = record { code = c.new-code.result; notes = c.in_ok-emitter.emitter.notes } in
    let vars = c.in_ok-emitter.ensures.vars in
    let ids = c.in_ok-ids.ensures in
    let object = c.new-code.ensures in
    let same : parts_with d.parts.names (locals_of t) code ≡ d.parts = same_parts d code _ t object refl vars refl refl refl in (
      c.in_ok-emitter.emitter.globals,
      laid_code d code t c.in_ok-emitter.ensures same (ap (λ (o : CodeObject). o.flags) object ∙ c.flags_of.ensures) (ap (λ (o : CodeObject). o.arg_count) object ∙ c.len.ensures)
          (ap (λ (o : CodeObject). length o.varnames.items) object ∙ length-NamesAll _ _ _ ids.varnames ∙ ap (λ (names : List Name). length names) vars)
          (ap (λ (o : CodeObject). length o.names.items) object ∙ length-NamesAll _ _ _ ids.global_names),
      named_code c.names_for.new.names c.in_ok-emitter.emitter.globals c.new-code.result _ t object ids.source_path ids.obj_name ids.global_names
          (subst (λ (names : List Name). NamesAll c.names_for.new.names c.in_ok-ids.ids.varnames.items names) vars ids.varnames),
    )

pub returns-clause-plain : goal.returns-clause-plain
returns-clause-plain c =
    let d : Draft = draft_of c.in_ok-emitter.emitter in
    let t = tree_of c.args.body.now in
    let code : Annotated = record { code = c.new-code.result; notes = c.in_ok-emitter.emitter.notes } in
    let object = c.new-code.ensures in
    let same : parts_with d.parts.names (locals_of t) code ≡ d.parts = same_parts d code _ t object refl c.in_ok-emitter.ensures.vars refl refl refl in
    let matched = matched_code d code t c.in_ok-emitter.ensures same (ap (λ (o : CodeObject). o.max_stackdepth) object) in
    record {
      flags = search rules;
      first_line_number = search rules;
      posonlyarg_count = search rules;
      kwonlyarg_count = search rules;
      cells = search rules;
      room = matched.room;
      max_stackdepth = matched.low;
      spelled = matched.spelled.few;
      no_code = matched.no_code;
    }
