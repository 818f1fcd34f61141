use Rattle.std.proofs.Common.{◌∙◌, ap, length, List, map, sym, subst, arith}
use Rattle.py_grammar.specs.Grammar.{Decl, codes_in}
use Rattle.py_grammar.specs.Script.{decl_of}
use Rattle.py_vm.specs.Machine.{Machine}
use Rattle.py_meaning.specs.Entries.{AreWellDeclared}
use Rattle.py_script.specs.Loaded.{AreChecked, AreLoadable, AreReady, HasObjects, with_codes}
use Rattle.py_script.proofs.Declarations.{of_decls, ready_checked, ready_loadable}
use Rattle.py_script.proofs.Loaded.{has_declarations}
use Rattle.py_script.proofs.loading.load_declarations.Goals as goal

pub codes_for-requires : goal.codes_for-requires
codes_for-requires c = of_decls AreWellDeclared _ _ (sym c.as_slice-declarations.ensures) (record { each = c.requires.declared; distinct = c.requires.distinct })

pub add_codes-requires : goal.add_codes-requires
add_codes-requires c =
    let declarations = c.as_slice-declarations.result.now in
    let ready : AreReady (codes_in (map decl_of declarations)) (record { names = c.codes_for.new.names; codes = c.in_ok-codes.codes.items }) = c.in_ok-codes.ensures.checked in
    subst (λ (m : Machine). AreLoadable m.checked c.in_ok-codes.codes.items) (sym c.in_ok-vm.ensures) (ready_loadable (codes_in (map decl_of declarations)) _ ready)

pub add_declarations-requires : goal.add_declarations-requires
add_declarations-requires c =
    let is = c.in_ok-add_codes.ensures ∙ ap (λ (m : Machine). with_codes m c.in_ok-codes.codes.items) c.in_ok-vm.ensures in
    let count = ap (λ (m : Machine). length m.checked.codes) is in
    let bodies = c.in_ok-codes.ensures.checked.count in
    record {
      works = ap (λ (m : Machine). m.failed) is;
      first = ap (λ (m : Machine). m.objects) is;
      unchanged = ap (λ (m : Machine). m.changes) is;
      well = of_decls AreWellDeclared _ _ (sym c.as_slice-declarations.ensures) (record { each = c.requires.declared; distinct = c.requires.distinct });
      coded = omega (arith, count, bodies);
    }

pub returns-clause-has : goal.returns-clause-has
returns-clause-has c =
    let names = c.codes_for.new.names in
    let codes = c.in_ok-codes.codes.items in
    let P : List Decl → Type 0 = λ ds. AreChecked (codes_in ds) (record { names = names; codes = codes }) in
    let checked = ready_checked (codes_in (map decl_of c.as_slice-declarations.result.now)) (record { names = names; codes = codes }) c.in_ok-codes.ensures.checked in
    has_declarations (map decl_of c.args.script.now.declarations) c.in_ok-vm.vm c.add_codes.new.vm c.add_declarations.new.vm names codes c.in_ok-vm.ensures c.in_ok-add_codes.ensures
    (of_decls P _ _ c.as_slice-declarations.ensures checked)
    (of_decls (λ ds. HasObjects ds c.add_codes.new.vm c.add_declarations.new.vm) _ _ c.as_slice-declarations.ensures c.in_ok-add_declarations.ensures)
