use Rattle.std.proofs.Common.{◌≡◌, ◌≤◌, ◌∙◌, List, ℕ, length, sym, ap, subst, arith}
use Rattle.std.specs.Prelude.{Err}
use Rattle.py_grammar.proofs.Verdicts.{spelled_not_bad}
use Rattle.py_grammar.specs.Script.{IsBadLine, IsReadScript, IsScript}
use Rattle.py_make.specs.Made.{made_text}
use Rattle.py_make.proofs.LengthLemmas.{are_short}
use Rattle.py_make.proofs.ScriptLemmas.{are_scripts}
use Rattle.made_runs.proofs.Runs.{are_core, have_runs}
use Rattle.py_meaning.proofs.ScriptsAgree.{never_longer}
use Rattle.py_vm.specs.declared.fault.VmFault.TheVariants as vm_fault
use Rattle.py_script.specs.Steps.{HasRun}
use Rattle.py_script.proofs.Broken.{core_not_broken}
use Rattle.py_script.proofs.making.run_made.Goals as goal

pub parse_script-requires : goal.parse_script-requires
parse_script-requires c = subst (λ (l : List ℕ). length l ≤ 1048576) (sym (c.as_slice.ensures.value ∙ c.in_ok-text.ensures)) (are_short c.args.seed c.args.count c.requires)

pub unreachable-requires : goal.unreachable-requires
unreachable-requires c =
    let bad = c.parse_script.ensures.malformed c.in-Err-Malformed.field-0-0 (c.in-Err-Malformed.is ∙ ap Err c.in-Err-Malformed.field-0-is) in
    spelled_not_bad (made_text c.args.seed c.args.count) c.in-Err-Malformed.field-0-0 (are_scripts c.args.seed c.args.count c.requires)
    (subst (λ (l : List ℕ). IsBadLine l c.in-Err-Malformed.field-0-0) (c.as_slice.ensures.value ∙ c.in_ok-text.ensures) bad)

-- a text that is made has no raw code
pub unreachable-requires-in-Err-Refused : goal.unreachable-requires-in-Err-Refused
unreachable-requires-in-Err-Refused c =
    let text = made_text c.args.seed c.args.count in
    let script : IsScript text c.in-Ok.script = subst (λ (l : List ℕ). IsScript l c.in-Ok.script) (c.as_slice.ensures.value ∙ c.in_ok-text.ensures) c.in-Ok.ensures.ok in
    core_not_broken text c.in-Ok.script c.in-Err-Refused.field-0 c.in-Err-Refused.field-0-0 c.in-Err-Refused.field-0-1 (are_core c.args.seed c.args.count c.requires) script c.in-Err-Refused.field-0-is c.in-Err-Refused.ensures.fault

-- a run that spends its turns is longer than a whole one
pub unreachable-requires-in-Err-OutOfTurns : goal.unreachable-requires-in-Err-OutOfTurns
unreachable-requires-in-Err-OutOfTurns c =
    let text = made_text c.args.seed c.args.count in
    let journal = c.in-Ok-run_drives.ran.0 in
    let fault : c.in-Err-OutOfTurns.field-0 ≡ vm_fault.OutOfTurns = rw c.in-Err-OutOfTurns.is at c.in-Err-OutOfTurns.field-0-is in
    let spent : c.in-Ok-run_drives.ran.1 ≡ Err vm_fault.OutOfTurns = c.in-Err-OutOfTurns.is ∙ ap Err fault in
    let run = subst (HasRun c.in-Ok.script 1000000 journal) spent c.in-Ok-run_drives.ensures.ran in
    let script : IsReadScript text c.in-Ok.script = subst (λ (l : List ℕ). IsReadScript l c.in-Ok.script) (c.as_slice.ensures.value ∙ c.in_ok-text.ensures) (c.in-Ok.ensures.ok, c.in-Ok.ensures.text) in
    let (s, whole, is_script, is_run, is_whole, short) = have_runs c.args.seed c.args.count c.requires in
    let longest : length journal.events ≤ length whole.events = never_longer text whole journal (are_core c.args.seed c.args.count c.requires) (s, is_script, is_run, is_whole) (c.in-Ok.script, script, run.0) in
    absurd (omega (arith, short, longest, run.2, c.requires))
