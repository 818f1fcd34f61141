use Rattle.std.proofs.Common.{◌≡◌, ◌∙◌, List, None, sym, ap, subst, length}
use Rattle.py_code.specs.declared.code.PyCode.{PyCode}
use Rattle.py_objects.specs.declared.payload.Payload.{Payload}
use Rattle.py_objects.specs.Edits.{Kept}
use Rattle.py_objects.specs.Objects.{Obj}
use Rattle.py_objects.specs.Scopes.{scope_of}
use Rattle.py_rows.proofs.StepLemmas.{length-filled}
use Rattle.py_frame.specs.Frames.{Framed}
use Rattle.py_frame.specs.Running.{IsRunning}
use Rattle.frame_tests.proofs.DriveLemmas.{frame_runs}
use Rattle.frame_tests.proofs.drives.frame_of.Goals as goal

pub fill-requires-clause-all : goal.fill-requires-clause-all
fill-requires-clause-all c = ap length c.in_ok-locals.ensures ∙ length-filled _ _ ∙ sym (length-filled _ _) ∙ ap (λ (f : Framed). length f.state.locals) (sym c.in_ok-frame.ensures.frame)

pub returns-clause-running : goal.returns-clause-running
returns-clause-running c names sound =
    let room : c.in_ok-stack.stack.room ≡ c.args.code.now.code.code.max_stackdepth = rw c.in_ok-stack.ensures (c.co_stacksize-size.ensures ∙ ap (λ (k : PyCode). k.code.max_stackdepth) c.code.ensures.value) in
    subst (λ (os : List Payload). IsRunning os names c.args.code.now c.fill.new.self) (sym (ap (λ (s : Kept). s.made) (c.fill.ensures.store ∙ c.in_ok-frame.ensures.store) ∙ c.requires.objects))
    (frame_runs names c.args.code.now _ _ _ _ _ _ _ _ c.in_ok-frame.ensures.frame c.in_ok-frame.ensures.blocks c.in_ok-locals.ensures c.fill.ensures.frame
    (c.new-scope.ensures ∙ ap (λ (v : Obj). scope_of None v) c.object.ensures) c.in_ok-arguments.ensures room sound)
