use Rattle.std.proofs.Common.{◌++◌, ◌∷◌, [], List, ap, sym, subst, ◌∙◌, append-nil, append_assoc}
use Rattle.py_check.specs.declared.annotated.Annotated.{Annotated}
use Rattle.py_check.specs.Sheet.{sheet_of}
use Rattle.py_check.specs.Typing.{IsTyped}
use Rattle.py_rows.specs.Sound.{AreNames}
use Rattle.py_vm.specs.Codes.{Checked, shapes_of}
use Rattle.py_vm.specs.Machine.{Machine}
use Rattle.py_script.specs.Loaded.{AreLoadable}
use Rattle.py_script.proofs.Declarations.{first_loadable, others_loadable}
use Rattle.py_script.proofs.loading.add_codes.Goals as goal

abbrev set_codes : Machine → List Annotated → Machine
set_codes m codes = record m { checked = record m.checked { codes = codes } }

pub loop-code-init : goal.loop-code-init
loop-code-init c =
    let vm : Machine = c.args.vm.now in
    record {
      is = ap (set_codes vm) (sym (append-nil vm.checked.codes));
      loadable = subst (λ (codes : List Annotated). AreLoadable (record vm.checked { codes = codes }) c.into_iter-code-iterator.result.rest.items) (sym (append-nil vm.checked.codes))
          (subst (AreLoadable vm.checked) (sym c.into_iter-code-iterator.ensures.into_iter_gives.0) c.requires);
    }

pub add_code-requires : goal.add_code-requires
add_code-requires c =
    let vm : Machine = c.args.vm.now in
    let code = c.in-Some.code in
    let before : Checked = record vm.checked { codes = vm.checked.codes ++ c.loop-code.yielded } in
    let first = first_loadable before code c.next.new.self.rest.items (subst (AreLoadable before) c.in-Some.ensures.steps.0 c.loop-code.invariant.loadable) in
    record {
      typed = subst (λ (m : Machine). IsTyped (shapes_of m.checked.codes) (sheet_of code)) (sym c.loop-code.invariant.is) first.typed;
      runs = first.runs;
      named = subst (λ (m : Machine). AreNames m.checked.names code.code) (sym c.loop-code.invariant.is) first.named;
      answered = first.answered;
    }

pub loop-code-preserved : goal.loop-code-preserved
loop-code-preserved c =
    let vm : Machine = c.args.vm.now in
    let so_far = c.loop-code.invariant in
    let code = c.in-Some.code in
    let before : Checked = record vm.checked { codes = vm.checked.codes ++ c.loop-code.yielded } in
    let rest = c.next.new.self.rest.items in
    record {
      is = c.in-Ok.ensures.1.1 ∙ (ap (λ (m : Machine). set_codes m (m.checked.codes ++ code ∷ [])) so_far.is
          ∙ ap (set_codes vm) (append_assoc vm.checked.codes c.loop-code.yielded (code ∷ [])));
      loadable = subst (λ (codes : List Annotated). AreLoadable (record vm.checked { codes = codes }) rest) (append_assoc vm.checked.codes c.loop-code.yielded (code ∷ []))
          (others_loadable before code rest (subst (AreLoadable before) c.in-Some.ensures.steps.0 so_far.loadable));
    }
