use Rattle.std.proofs.Common.{subst, sym, ap, ◌∙◌}
use Rattle.std.specs.Prelude.{Err}
use Rattle.py_check.specs.declared.annotated.Annotated.{Annotated}
use Rattle.py_check.specs.Sheet.{sheet_of}
use Rattle.py_check.proofs.BreakingLemmas.{none_breaks}
use Rattle.py_grammar.specs.Grammar.{OfBody}
use Rattle.py_laid.specs.Code.{IsPlain}
use Rattle.py_laid.specs.Fits.{Fits}
use Rattle.py_laid.specs.Instructions.{UsesCompiled, is_compiled}
use Rattle.py_laid.proofs.Uses.{compiled_raise}
use Rattle.py_body.proofs.CodesLemmas.{last_of_each}
use Rattle.py_tree.specs.Views.{tree_of}
use Rattle.py_vm.proofs.CodesLemmas.{AreAnswered, code_answered}
use Rattle.py_script.specs.Loaded.{IsReadyCode}
use Rattle.py_script.proofs.Declarations.{fits_driven, fits_ready, plain_positional}
use Rattle.py_script.proofs.loading.compile_one.Goals as goal

-- the code keeps the rules
pub unreachable-requires-in-Err-Breaks : goal.unreachable-requires-in-Err-Breaks
unreachable-requires-in-Err-Breaks c =
    let at = c.in-Err-Breaks.field-0-0 in
    let fits = last_of_each (λ (code : Annotated). Fits c.compile_body.new.names code (tree_of c.args.body.now)) _ _ _ _ _ c.into_vec.ensures c.pop.ensures.items c.in-Some.is c.in_ok-codes.ensures.fits in
    none_breaks c.args.earlier.now.shapes (sheet_of c.in-Some.code) at (fits.typed c.args.earlier.now.shapes) (c.check_code.ensures.breaks at (c.in-Err-Breaks.is ∙ ap Err c.in-Err-Breaks.field-0-is))

-- the machine answers what code asks that bodies are compiled to
compiled_answered : AreAnswered is_compiled
compiled_answered = record { no_cause = compiled_raise }

pub returns-in-Ok-clause-ready : goal.returns-in-Ok-clause-ready
returns-in-Ok-clause-ready c =
    let names = c.compile_body.new.names in
    let earlier = c.args.earlier.now in
    let tree = tree_of c.args.body.now in
    let uses = last_of_each (λ (code : Annotated). UsesCompiled code.code) _ _ _ _ _ c.into_vec.ensures c.pop.ensures.items c.in-Some.is c.in_ok-codes.ensures.uses in
    let fits = last_of_each (λ (code : Annotated). Fits names code tree) _ _ _ _ _ c.into_vec.ensures c.pop.ensures.items c.in-Some.is c.in_ok-codes.ensures.fits in
    let plain = last_of_each (λ (code : Annotated). IsPlain code tree) _ _ _ _ _ c.into_vec.ensures c.pop.ensures.items c.in-Some.is c.in_ok-codes.ensures.plain in
    let code : Annotated = c.in-Some.code in
    let answered = code_answered is_compiled compiled_answered code.code uses (plain_positional code tree plain) (fits_driven names code tree fits) in
    subst (λ (made : Annotated). IsReadyCode names earlier made (OfBody tree)) (sym c.in-Ok.ensures.ok) (fits_ready names earlier code tree fits plain answered)
