use Rattle.std.proofs.Common.{◌≡◌, ◌∙◌, ◌+◌, ◌++◌, ◌∷◌, [], ℕ, List, true, false, take, ap, sym, refl, subst}
use Rattle.std.specs.Prelude.{Bool, Result, Ok, Err, OnErr}
use Rattle.py_objects.specs.declared.event.DriveAnswer.{DriveAnswer}
use Rattle.py_lines.specs.declared.drive.DriveLine.{DriveLine}
use Rattle.py_grammar.specs.Grammar.{Decl}
use Rattle.py_grammar.specs.Script.{decls_of}
use Rattle.py_vm.specs.declared.fault.VmFault.{VmFault}
use Rattle.py_script.specs.Held.{Held}
use Rattle.py_script.specs.Session.{IsSessionOf}
use Rattle.py_script.specs.Driving.{IsDriven}
use Rattle.py_script.proofs.Sessions.{front_and, next_may}
use Rattle.plugin_host.proofs.driving.drive_lines.Goals as goal

-- what has not failed behind a drive had not failed before, for what had failed is as it was
sound_before : (failed : Bool) (s s' : Held) → s.failed ≡ failed → (s.failed ≡ true → s' ≡ s) → s'.failed ≡ false → s.failed ≡ false
sound_before false s s' is kept sound = is
sound_before true s s' is kept sound = sym (ap (λ (h : Held). h.failed) (kept is)) ∙ sound

-- and the drive had an answer
answered_of : (decls : List Decl) (drives : List DriveLine) (turns : ℕ) (s s' : Held) (r : Result DriveAnswer VmFault) → IsDriven decls drives turns s s' r → OnErr r (s'.failed ≡ true) → s'.failed ≡ false → IsSessionOf decls drives s'
answered_of decls drives turns s s' (Ok w) driven fails sound = driven.3
answered_of decls drives turns s s' (Err e) driven fails sound = absurd (cc (sym sound ∙ fails))

pub drive-came-requires : goal.drive-came-requires
drive-came-requires c =
    let decls = decls_of c.args.script.now in
    record {
      may = λ sound. next_may c.as_slice-line-items.result.now c.args.script.now.drives c.loop-line.line-index c.line-item.result c.as_slice-line-items.ensures c.loop-line-test.true c.line-item.is decls c.loop-line.session
          c.requires.well.driven (c.loop-line.invariant.behind sound);
    }

pub loop-line-preserved : goal.loop-line-preserved
loop-line-preserved c =
    let some = c.as_slice-line-items.result.now in
    let all = c.args.script.now.drives in
    let i = c.loop-line.line-index in
    let d = c.line-item.result in
    let decls = decls_of c.args.script.now in
    let s : Held = c.loop-line.session in
    let s' : Held = c.drive-came.new.self in
    record {
      behind = λ sound'.
          let sound = sound_before s.failed s s' refl (λ bad. (c.drive-came.ensures.failed bad).1) sound' in
          let driven = c.drive-came.ensures.runs sound decls (take i all) (c.loop-line.invariant.behind sound) in
          subst (λ (ds : List DriveLine). IsSessionOf decls ds s') (sym (front_and some all i d c.as_slice-line-items.ensures c.loop-line-test.true c.line-item.is))
          (answered_of decls (take i all ++ d ∷ []) 100 s s' c.drive-came.result driven c.drive-came.ensures.fails sound');
    }
