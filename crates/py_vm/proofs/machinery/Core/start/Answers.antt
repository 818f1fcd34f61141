use Rattle.std.proofs.lemmas.Result.{on_err_weaker}
use Rattle.py_vm.proofs.PartsLemmas.{created_halts, created_raises, created_replies, halts_trans}
use Rattle.py_vm.proofs.machinery.Core.start.Goals as goal

pub reply-requires-clause-classes : goal.reply-requires-clause-classes
reply-requires-clause-classes c =
    (created_replies c.args.self.now c.create.new.self c.args.running c.args.function c.in-Some.kind c.in_ok-object-in-Some.object c.in_ok-object-in-Some.ensures.ok
    c.requires.done c.requires.can.stored.classes c.requires.can.stored.readable c.requires.first).classes

pub reply-requires-clause-readable : goal.reply-requires-clause-readable
reply-requires-clause-readable c =
    (created_replies c.args.self.now c.create.new.self c.args.running c.args.function c.in-Some.kind c.in_ok-object-in-Some.object c.in_ok-object-in-Some.ensures.ok
    c.requires.done c.requires.can.stored.classes c.requires.can.stored.readable c.requires.first).readable

pub reply-requires-clause-first : goal.reply-requires-clause-first
reply-requires-clause-first c =
    (created_replies c.args.self.now c.create.new.self c.args.running c.args.function c.in-Some.kind c.in_ok-object-in-Some.object c.in_ok-object-in-Some.ensures.ok
    c.requires.done c.requires.can.stored.classes c.requires.can.stored.readable c.requires.first).first

pub reply-requires-clause-raises : goal.reply-requires-clause-raises
reply-requires-clause-raises c =
    created_raises c.args.self.now c.create.new.self c.args.running c.args.function c.in-Some.kind c.in_ok-object-in-Some.object c.in_ok-object-in-Some.ensures.ok c.requires.no_raise

pub returns-in_ok-object-in-Some-clause-err : goal.returns-in_ok-object-in-Some-clause-err
returns-in_ok-object-in-Some-clause-err c =
    on_err_weaker _ (halts_trans c.args.self.now c.create.new.self c.reply.new.self
    (created_halts c.args.self.now c.create.new.self c.args.running c.args.function c.in-Some.kind c.in_ok-object-in-Some.object c.in_ok-object-in-Some.ensures.ok)) c.reply.ensures.err
