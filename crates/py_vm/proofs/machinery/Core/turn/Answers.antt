use Rattle.std.proofs.Common.{◌≡◌, [], refl, sym, subst}
use Rattle.std.specs.Prelude.{None}
use Rattle.std.proofs.lemmas.Result.{IfOk-weaker}
use Rattle.py_run.specs.Drives.{request_of}
use Rattle.py_vm.specs.declared.stage.Stage.{Stage}
use Rattle.py_vm.specs.declared.stage.Stage.TheVariants as stage
use Rattle.py_vm.specs.Turns.{Turned}
use Rattle.py_vm.proofs.LeavingLemmas.{finished_at, started_at}
use Rattle.py_vm.proofs.PartsLemmas.{answered_at, comes_on_at, went_on_at}
use Rattle.py_vm.proofs.machinery.Core.turn.Goals as goal

pub returns-in-Asking-clause-ok : goal.returns-in-Asking-clause-ok
returns-in-Asking-clause-ok c =
    let is : c.args.self.now.stage ≡ stage.Asking = cc in
    IfOk-weaker c.open.result _ _
    (λ a comes. subst (λ (s : Stage). Turned c.args.self.now c.args.drive.now s a c.open.new.self) (sym is)
    (comes_on_at c.args.self.now c.replace.new.dest (request_of c.args.drive.now) [] a c.open.new.self comes)) c.open.ensures.ok

pub returns-in-Made-clause-ok : goal.returns-in-Made-clause-ok
returns-in-Made-clause-ok c =
    let is : c.args.self.now.stage ≡ stage.Made c.in-Made.running c.in-Made.function = cc in
    IfOk-weaker c.start.result _ _
    (λ a starts. subst (λ (s : Stage). Turned c.args.self.now c.args.drive.now s a c.start.new.self) (sym is)
    (started_at c.args.self.now c.replace.new.dest c.in-Made.running c.in-Made.function c.in-Made.running.kind a c.start.new.self starts)) c.start.ensures.ok

pub returns-in_ok-go-in-Going-clause-ok : goal.returns-in_ok-go-in-Going-clause-ok
returns-in_ok-go-in-Going-clause-ok c =
    let is : c.args.self.now.stage ≡ stage.Going c.in-Going.running = cc in
    subst (λ (s : Stage). Turned c.args.self.now c.args.drive.now s None c.go.new.self) (sym is)
    (refl, went_on_at c.args.self.now c.replace.new.dest c.in-Going.running c.go.new.self c.in_ok-go-in-Going.ensures.ok)

pub returns-in-Waiting-clause-ok : goal.returns-in-Waiting-clause-ok
returns-in-Waiting-clause-ok c =
    let is : c.args.self.now.stage ≡ stage.Waiting c.in-Waiting.halted = cc in
    IfOk-weaker c.answer.result _ _
    (λ a answers. subst (λ (s : Stage). Turned c.args.self.now c.args.drive.now s a c.answer.new.self) (sym is)
    (answered_at c.args.self.now c.replace.new.dest c.in-Waiting.halted a c.answer.new.self answers)) c.answer.ensures.ok

pub returns-in-Due-clause-ok : goal.returns-in-Due-clause-ok
returns-in-Due-clause-ok c =
    let is : c.args.self.now.stage ≡ stage.Due c.in-Due.left c.in-Due.how = cc in
    IfOk-weaker c.finish.result _ _
    (λ a finishes. subst (λ (s : Stage). Turned c.args.self.now c.args.drive.now s a c.finish.new.self) (sym is)
    (finished_at c.args.self.now c.replace.new.dest c.args.drive.now c.in-Due.left c.in-Due.how a c.finish.new.self finishes)) c.finish.ensures.ok
