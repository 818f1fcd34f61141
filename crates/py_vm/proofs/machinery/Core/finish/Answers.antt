use Rattle.std.proofs.Common.{subst, sym}
use Rattle.std.proofs.lemmas.Result.{IfOk-weaker, on_err_weaker}
use Rattle.py_vm.specs.declared.reply.Reply.{Reply as MadeReply}
use Rattle.py_vm.specs.Turns.{Replies}
use Rattle.py_vm.specs.Ready.{FirstRaises}
use Rattle.py_vm.proofs.PartsLemmas.{call_finished, entered_runs, generator_finished, halts_trans, settled_halts, settled_raises, settled_replies}
use Rattle.py_vm.proofs.RaisingLemmas.{passed_raises}
use Rattle.py_vm.proofs.machinery.Core.finish.Goals as goal

pub settle-requires-clause-runs : goal.settle-requires-clause-runs
settle-requires-clause-runs c = (entered_runs c.args.self.now c.args.drive.now c.args.how c.generator_entered.result c.in-Some.generator c.requires.can c.generator_entered.ensures c.in-Some.is).0

pub settle-requires-clause-generator : goal.settle-requires-clause-generator
settle-requires-clause-generator c = (entered_runs c.args.self.now c.args.drive.now c.args.how c.generator_entered.result c.in-Some.generator c.requires.can c.generator_entered.ensures c.in-Some.is).1

pub reply-requires-in-Some-clause-classes : goal.reply-requires-in-Some-clause-classes
reply-requires-in-Some-clause-classes c =
    (settled_replies c.args.self.now c.settle.new.self c.in-Some.generator c.args.left c.args.how c.in_ok-reply-in-Some.reply c.in_ok-reply-in-Some.ensures.ok
    c.requires.done c.requires.can.0.classes c.requires.can.0.readable c.requires.can.3).classes

pub reply-requires-in-Some-clause-readable : goal.reply-requires-in-Some-clause-readable
reply-requires-in-Some-clause-readable c =
    (settled_replies c.args.self.now c.settle.new.self c.in-Some.generator c.args.left c.args.how c.in_ok-reply-in-Some.reply c.in_ok-reply-in-Some.ensures.ok
    c.requires.done c.requires.can.0.classes c.requires.can.0.readable c.requires.can.3).readable

pub reply-requires-in-Some-clause-first : goal.reply-requires-in-Some-clause-first
reply-requires-in-Some-clause-first c =
    (settled_replies c.args.self.now c.settle.new.self c.in-Some.generator c.args.left c.args.how c.in_ok-reply-in-Some.reply c.in_ok-reply-in-Some.ensures.ok
    c.requires.done c.requires.can.0.classes c.requires.can.0.readable c.requires.can.3).first

pub reply-requires-in-Some-clause-raises : goal.reply-requires-in-Some-clause-raises
reply-requires-in-Some-clause-raises c =
    settled_raises c.args.self.now c.settle.new.self c.in-Some.generator c.args.left c.args.how c.in_ok-reply-in-Some.reply c.in_ok-reply-in-Some.ensures.ok c.requires.can.0.readable c.requires.can.4

pub reply-requires-clause-raises : goal.reply-requires-clause-raises
reply-requires-clause-raises c =
    subst (FirstRaises c.args.self.now.world.store c.args.self.now.events c.args.self.now.callers) (sym c.passed.ensures)
    (passed_raises c.args.self.now.world.store c.args.self.now.events c.args.self.now.callers c.args.how c.requires.can.1 c.requires.can.4)

pub returns-in-None-clause-ok : goal.returns-in-None-clause-ok
returns-in-None-clause-ok c =
    IfOk-weaker c.reply.result _ _
    (λ a replies. call_finished c.args.self.now c.args.drive.now c.args.left c.args.how c.generator_entered.result c.requires.can c.generator_entered.ensures a c.reply.new.self c.in-None.is
    (subst (λ (w : MadeReply). Replies c.args.self.now w c.args.self.now.callers a c.reply.new.self) c.passed.ensures replies)) c.reply.ensures.ok

pub returns-in_ok-reply-in-Some-clause-ok : goal.returns-in_ok-reply-in-Some-clause-ok
returns-in_ok-reply-in-Some-clause-ok c =
    IfOk-weaker c.reply-in-Some.result _ _
    (λ a replies. generator_finished c.args.self.now c.args.drive.now c.args.left c.args.how c.generator_entered.result c.requires.can c.generator_entered.ensures c.in-Some.generator c.in_ok-reply-in-Some.reply
    c.settle.new.self a c.reply-in-Some.new.self c.in-Some.is c.in_ok-reply-in-Some.ensures.ok replies) c.reply-in-Some.ensures.ok

pub returns-in_ok-reply-in-Some-clause-err : goal.returns-in_ok-reply-in-Some-clause-err
returns-in_ok-reply-in-Some-clause-err c =
    on_err_weaker _ (halts_trans c.args.self.now c.settle.new.self c.reply-in-Some.new.self
    (settled_halts c.args.self.now c.settle.new.self c.in-Some.generator c.args.left c.args.how c.in_ok-reply-in-Some.reply c.in_ok-reply-in-Some.ensures.ok)) c.reply-in-Some.ensures.err
