use Rattle.std.proofs.Common.{◌≡◌, ◌∙◌, ℕ, ap, refl, subst, sym}
use Rattle.std.specs.Prelude.{Err}
use Rattle.std.specs.List.{list_all}
use Rattle.py_code.specs.declared.flags.CodeFlags.{CodeFlags}
use Rattle.py_code.specs.declared.flags.TheConstants.CodeFlags.{HAS_VARARGS, HAS_VARKEYWORDS}
use Rattle.py_check.specs.declared.annotated.Annotated.{Annotated}
use Rattle.py_check.specs.WholeCode.{counts_if}
use Rattle.py_check.specs.Sheet.{sheet_of}
use Rattle.py_check.proofs.BreakingLemmas.{none_breaks}
use Rattle.py_tree.specs.declared.body.BodyKind.{BodyKind}
use Rattle.py_tree.specs.declared.body.BodyKind.TheVariants as kind
use Rattle.py_tree.specs.Tree.{Tree, seen_as}
use Rattle.py_tree.specs.Views.{tree_of}
use Rattle.py_laid.specs.Code.{IsPlain, flags_of}
use Rattle.py_laid.specs.Fits.{Fits}
use Rattle.py_laid.specs.Instructions.{UsesCompiled, is_compiled}
use Rattle.py_laid.proofs.Uses.{compiled_raise}
use Rattle.py_body.proofs.CodesLemmas.{last_of_each}
use Rattle.py_vm.specs.Codes.{IsDriven, TakesPositional, takes_none}
use Rattle.py_vm.proofs.CodesLemmas.{AreAnswered, code_answered}
use Rattle.worked_host.specs.Host.{IsTaken}
use Rattle.worked_host.proofs.host.checked_code.Goals as goal

-- the code keeps the rules
pub unreachable-requires-in-Err-Breaks : goal.unreachable-requires-in-Err-Breaks
unreachable-requires-in-Err-Breaks c =
    let at = c.in-Err-Breaks.field-0-0 in
    let shapes = c.new-shapes.result in
    let fits = last_of_each (λ (code : Annotated). Fits c.compile_body.new.names code (tree_of c.args.body.now)) _ _ _ _ _ c.into_vec.ensures c.pop.ensures.items c.in-Some.is c.in_ok-codes.ensures.fits in
    none_breaks shapes (sheet_of c.in-Some.code) at (fits.typed shapes) (c.check_code.ensures.breaks at (c.in-Err-Breaks.is ∙ ap Err c.in-Err-Breaks.field-0-is))

-- the machine answers what code asks that bodies are compiled to
compiled_answered : AreAnswered is_compiled
compiled_answered = record { no_cause = compiled_raise }

-- and drives their activations
kind_driven : (k : BodyKind) → IsDriven (seen_as k)
kind_driven kind.Function = tt
kind_driven kind.Generator = tt

-- their parameters take positional arguments alone
plain_positional : (c : Annotated) (t : Tree) → IsPlain c t → TakesPositional c.code.code
plain_positional c t plain = record {
  varargs = ap (λ (flags : CodeFlags). counts_if flags HAS_VARARGS) plain.flags ∙ no_varargs t.kind;
  varkeywords = ap (λ (flags : CodeFlags). counts_if flags HAS_VARKEYWORDS) plain.flags ∙ no_varkeywords t.kind;
  keyword_only = plain.kwonlyarg_count;
  cells = ap (list_all takes_none) plain.cells.1;
}
  where
    no_varargs : (k : BodyKind) → counts_if (flags_of k) HAS_VARARGS ≡ 0
    no_varargs kind.Function = refl
    no_varargs kind.Generator = refl

    no_varkeywords : (k : BodyKind) → counts_if (flags_of k) HAS_VARKEYWORDS ≡ 0
    no_varkeywords kind.Function = refl
    no_varkeywords kind.Generator = refl

pub returns-in-Ok : goal.returns-in-Ok
returns-in-Ok c =
    let names = c.compile_body.new.names in
    let tree = tree_of c.args.body.now in
    let uses = last_of_each (λ (code : Annotated). UsesCompiled code.code) _ _ _ _ _ c.into_vec.ensures c.pop.ensures.items c.in-Some.is c.in_ok-codes.ensures.uses in
    let fits : Fits names c.in-Some.code tree = last_of_each (λ (code : Annotated). Fits names code tree) _ _ _ _ _ c.into_vec.ensures c.pop.ensures.items c.in-Some.is c.in_ok-codes.ensures.fits in
    let plain = last_of_each (λ (code : Annotated). IsPlain code tree) _ _ _ _ _ c.into_vec.ensures c.pop.ensures.items c.in-Some.is c.in_ok-codes.ensures.plain in
    let code : Annotated = c.in-Some.code in
    subst (IsTaken names) (sym c.in-Ok.ensures.ok) (record {
      typed = fits.typed;
      runs = fits.sound.runs;
      named = fits.sound.named;
      answered = code_answered is_compiled compiled_answered code.code uses (plain_positional code tree plain) (subst IsDriven (sym fits.kind) (kind_driven tree.kind));
    })
