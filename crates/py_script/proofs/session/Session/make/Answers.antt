use Rattle.std.proofs.Common.{◌≡◌, true, false, ◌∙◌, ◌++◌, ◌∷◌, [], List, ap, sym, subst}
use Rattle.std.specs.Prelude.{Err, Result, Option}
use Rattle.py_objects.specs.declared.refs.PyBaseExceptionRef.{PyBaseExceptionRef}
use Rattle.py_meaning.specs.Whole.{raised_in}
use Rattle.py_objects.specs.Objects.{Obj}
use Rattle.py_objects.specs.declared.event.DriveAnswer.{DriveAnswer}
use Rattle.py_vm.specs.declared.fault.VmFault.{VmFault}
use Rattle.py_script.specs.Held.{Held}
use Rattle.py_script.specs.Driving.{IsDriven}
use Rattle.py_script.proofs.Sessions.{answered, err_is, given_up, grew_on, line_there, not_kept, not_posed, posed_in, posed_on, session_open}
use Rattle.py_script.proofs.session.Session.make.Goals as goal

pub question_of-requires-clause-open : goal.question_of-requires-clause-open
question_of-requires-clause-open c = let (decls, drives, session, well) = c.requires.may in session_open decls drives c.args.self.now session

pub question_of-requires-clause-there : goal.question_of-requires-clause-there
question_of-requires-clause-there c = let (decls, drives, session, well) = c.requires.may in line_there decls drives c.args.self.now session c.args.line.now well

pub returns-in_default-clause-runs : goal.returns-in_default-clause-runs
returns-in_default-clause-runs c decls drives session = not_posed decls drives c.args.self.now c.args.line.now session c.args.turns c.question_of.new.self c.question_of.ensures.grew (ap (λ (h : Held). h.sources) c.question_of.ensures.others)

pub returns-in_default-clause-adds : goal.returns-in_default-clause-adds
returns-in_default-clause-adds c = grew_on c.args.self.now c.question_of.new.self c.question_of.ensures.grew (ap (λ (h : Held). h.sources) c.question_of.ensures.others)

pub returns-in_err-answer-clause-runs : goal.returns-in_err-answer-clause-runs
returns-in_err-answer-clause-runs c decls drives session =
    let old = c.args.self.now in
    let line = c.args.line.now in
    let s : Held = record { vm = c.drive.new.self; values = c.self.inside.values; raised = c.self.inside.raised; sources = c.self.inside.sources; failed = c.self.inside.failed } in
    let works = ap (λ (h : Held). h.vm.failed) c.self.view_is ∙ c.in-Ok.ensures.works in
    let posed = posed_in old c.drive.new.self line c.in-Ok.question c.self.view_is c.question_of.ensures.grew c.in-Ok.ensures.asks c.in-Ok.ensures.works (ap (λ (h : Held). h.sources) c.question_of.ensures.others) c.drive.ensures.adds in
    subst (λ (r : Result DriveAnswer VmFault). IsDriven decls (drives ++ line ∷ []) c.args.turns old s r) (sym (err_is c.from_residual.result c.in_err-answer.field-0.0 c.from_residual.ensures.1))
    (given_up decls drives old line session c.self.inside.vm s c.in-Ok.question posed (ap (λ (h : Held). h.sources) (c.self.view_is ∙ c.question_of.ensures.others)) c.args.turns c.in_err-answer.field-0.0 c.drive.ensures.turns
    (λ e. let spent = c.drive.ensures.out_of_turns (c.in_err-answer.was ∙ ap Err e) in (spent.0, spent.1))
    (λ e. let failed = c.drive.ensures.failed_only (c.in_err-answer.was ∙ ap Err e) in let clash : true ≡ false = sym failed ∙ works in cc clash)
    (λ x e. c.drive.ensures.no_raise x (c.in_err-answer.was ∙ ap Err e)))

pub returns-in-Ok-keep-clause-runs : goal.returns-in-Ok-keep-clause-runs
returns-in-Ok-keep-clause-runs c decls drives session =
    let old = c.args.self.now in
    let s : Held = record { vm = c.drive.new.self; values = c.keep.new.values; raised = c.keep.new.raised; sources = c.self.inside.sources; failed = c.self.inside.failed } in
    let posed = posed_in old c.drive.new.self c.args.line.now c.in-Ok.question c.self.view_is c.question_of.ensures.grew c.in-Ok.ensures.asks c.in-Ok.ensures.works (ap (λ (h : Held). h.sources) c.question_of.ensures.others) c.drive.ensures.adds in
    let (value, is, below, values, raised) = c.in-Ok-keep.ensures in
    let before : c.self.inside.values ≡ old.values = ap (λ (h : Held). h.values) (c.self.view_is ∙ c.question_of.ensures.others) in
    answered decls drives old c.args.line.now session c.self.inside.vm s c.in-Ok.question posed (ap (λ (h : Held). h.sources) (c.self.view_is ∙ c.question_of.ensures.others)) c.args.turns (record {
      works = c.in_ok-answer.ensures.done.1;
      done = c.in_ok-answer.ensures.done.0;
      answer = c.in_ok-answer.answer;
      ends = c.in_ok-answer.ensures.answer;
      keeps = c.in_ok-answer.ensures.generators;
      value = value;
      left = record { is = is; below = below };
      values = values ∙ ap (λ (l : List Obj). l ++ value ∷ []) before;
      raised = raised ∙ ap (λ (l : List (Option PyBaseExceptionRef)). l ++ raised_in c.in_ok-answer.answer ∷ []) (ap (λ (h : Held). h.raised) (c.self.view_is ∙ c.question_of.ensures.others));
      sources = ap (λ (h : Held). h.sources) (c.self.view_is ∙ c.question_of.ensures.others);
    }) (ap (λ (h : Held). h.failed) (c.self.view_is ∙ c.question_of.ensures.others) ∙ c.requires.sound)

pub returns-clause-runs : goal.returns-clause-runs
returns-clause-runs c decls drives session =
    let old = c.args.self.now in
    let s : Held = record { vm = c.drive.new.self; values = c.keep.new.values; raised = c.keep.new.raised; sources = c.self.inside.sources; failed = c.self.inside.failed } in
    let posed = posed_in old c.drive.new.self c.args.line.now c.in-Ok.question c.self.view_is c.question_of.ensures.grew c.in-Ok.ensures.asks c.in-Ok.ensures.works (ap (λ (h : Held). h.sources) c.question_of.ensures.others) c.drive.ensures.adds in
    not_kept decls drives old c.args.line.now session c.self.inside.vm s c.in-Ok.question posed (ap (λ (h : Held). h.sources) (c.self.view_is ∙ c.question_of.ensures.others)) c.args.turns c.drive.ensures.turns

pub returns-in_err-answer-clause-adds : goal.returns-in_err-answer-clause-adds
returns-in_err-answer-clause-adds c =
    let old = c.args.self.now in
    let s : Held = record { vm = c.drive.new.self; values = c.self.inside.values; raised = c.self.inside.raised; sources = c.self.inside.sources; failed = c.self.inside.failed } in
    posed_on old s c.self.inside.vm c.args.line.now c.in-Ok.question
    (posed_in old c.drive.new.self c.args.line.now c.in-Ok.question c.self.view_is c.question_of.ensures.grew c.in-Ok.ensures.asks c.in-Ok.ensures.works (ap (λ (h : Held). h.sources) c.question_of.ensures.others) c.drive.ensures.adds) (ap (λ (h : Held). h.sources) (c.self.view_is ∙ c.question_of.ensures.others))

pub returns-in-Ok-keep-clause-adds : goal.returns-in-Ok-keep-clause-adds
returns-in-Ok-keep-clause-adds c =
    let old = c.args.self.now in
    let s : Held = record { vm = c.drive.new.self; values = c.keep.new.values; raised = c.keep.new.raised; sources = c.self.inside.sources; failed = c.self.inside.failed } in
    posed_on old s c.self.inside.vm c.args.line.now c.in-Ok.question
    (posed_in old c.drive.new.self c.args.line.now c.in-Ok.question c.self.view_is c.question_of.ensures.grew c.in-Ok.ensures.asks c.in-Ok.ensures.works (ap (λ (h : Held). h.sources) c.question_of.ensures.others) c.drive.ensures.adds) (ap (λ (h : Held). h.sources) (c.self.view_is ∙ c.question_of.ensures.others))

pub returns-clause-adds : goal.returns-clause-adds
returns-clause-adds c =
    let old = c.args.self.now in
    let s : Held = record { vm = c.drive.new.self; values = c.keep.new.values; raised = c.keep.new.raised; sources = c.self.inside.sources; failed = c.self.inside.failed } in
    posed_on old s c.self.inside.vm c.args.line.now c.in-Ok.question
    (posed_in old c.drive.new.self c.args.line.now c.in-Ok.question c.self.view_is c.question_of.ensures.grew c.in-Ok.ensures.asks c.in-Ok.ensures.works (ap (λ (h : Held). h.sources) c.question_of.ensures.others) c.drive.ensures.adds) (ap (λ (h : Held). h.sources) (c.self.view_is ∙ c.question_of.ensures.others))
