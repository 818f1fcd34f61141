use Rattle.std.proofs.Common.{false, refl, sym}
use Rattle.py_grammar.specs.Script.{decls_of}
use Rattle.py_meaning.specs.Entries.{AreDeclared}
use Rattle.py_script.specs.Session.{BindsAll}
use Rattle.py_script.proofs.Declarations.{of_decls}
use Rattle.py_meaning.proofs.Entries.{are_declared}
use Rattle.py_script.proofs.Loaded.{all_loaded}
use Rattle.py_script.proofs.loading.load_session.Goals as goal

pub bind_declarations-requires-clause-declared : goal.bind_declarations-requires-clause-declared
bind_declarations-requires-clause-declared c =
    let objects = c.in_ok-vm.vm.objects in
    of_decls (AreDeclared objects) c.args.script.now.declarations c.as_slice.result.now (sym c.as_slice.ensures) (are_declared (decls_of c.args.script.now) objects c.in_ok-vm.ensures.has.are_objects)

pub returns-clause-loaded : goal.returns-clause-loaded
returns-clause-loaded c =
    let binds = of_decls (λ ds. BindsAll ds c.in_ok-vm.vm c.bind_declarations.new.vm) _ _ c.as_slice.ensures c.in_ok-bind_declarations.ensures in
    all_loaded c.args.script.now (record { vm = c.bind_declarations.new.vm; values = c.new.result; raised = c.new-2.result; sources = c.in_ok-sources.sources; failed = false }) c.in_ok-vm.vm c.in_ok-vm.ensures.has binds c.new.ensures c.new-2.ensures refl
