use Rattle.std.proofs.Common.{refl}
use Rattle.py_vm.specs.declared.reply.Reply.TheVariants as made
use Rattle.py_vm.proofs.LeavingLemmas.{answers_there, ending_read, settled_at_once, settled_converted, settled_ignored}
use Rattle.py_vm.proofs.machinery.Core.settle.Goals as goal

pub finish-requires-clause-read : goal.finish-requires-clause-read
finish-requires-clause-read c = ending_read c.args.self.now.world.store.made c.args.how c.requires.ending

pub returns-in-Value-clause-ok : goal.returns-in-Value-clause-ok
returns-in-Value-clause-ok c = rw c.in-Value.is at (settled_at_once c.args.self.now c.args.object c.args.left c.args.how c.requires.runs c.requires.generator c.requires.ending c.finish.result c.finish.ensures.answer c.finish.new.self c.finish.ensures.left (made.Yields c.in-Value.value)) refl

pub returns-in-Stop-clause-ok : goal.returns-in-Stop-clause-ok
returns-in-Stop-clause-ok c = rw c.in-Stop.is at (settled_at_once c.args.self.now c.args.object c.args.left c.args.how c.requires.runs c.requires.generator c.requires.ending c.finish.result c.finish.ensures.answer c.finish.new.self c.finish.ensures.left (made.Stops c.in-Stop.value)) refl

pub returns-in-Closed-clause-ok : goal.returns-in-Closed-clause-ok
returns-in-Closed-clause-ok c = rw c.in-Closed.is at (settled_at_once c.args.self.now c.args.object c.args.left c.args.how c.requires.runs c.requires.generator c.requires.ending c.finish.result c.finish.ensures.answer c.finish.new.self c.finish.ensures.left made.Closes) refl

pub returns-in-Raise-clause-ok : goal.returns-in-Raise-clause-ok
returns-in-Raise-clause-ok c = rw c.in-Raise.is at (settled_at_once c.args.self.now c.args.object c.args.left c.args.how c.requires.runs c.requires.generator c.requires.ending c.finish.result c.finish.ensures.answer c.finish.new.self c.finish.ensures.left (made.Passed c.in-Raise.exception)) refl

pub new_exception_from-requires-clause-cause : goal.new_exception_from-requires-clause-cause
new_exception_from-requires-clause-cause c = rw c.in-Convert.is at (answers_there c.args.self.now c.args.object c.args.left c.args.how c.requires.runs c.requires.generator c.requires.ending c.finish.result c.finish.ensures.answer c.finish.new.self c.finish.ensures.left)

pub returns-in_ok-exception-in-Convert-clause-ok : goal.returns-in_ok-exception-in-Convert-clause-ok
returns-in_ok-exception-in-Convert-clause-ok c =
    settled_converted c.args.self.now c.args.object c.args.left c.args.how c.requires.runs c.requires.generator c.requires.ending c.finish.result c.finish.ensures.answer c.finish.new.self c.finish.ensures.left
    c.generator_kind-kind.result c.generator_kind-kind.ensures c.new_exception_from.new.store c.in_ok-exception-in-Convert.ensures.grows c.requires.stored.classes c.in_ok-exception-in-Convert.exception c.in_ok-fault-in-Convert.fault
    c.in-Convert.cause c.in-Convert.stop c.in-Convert.is c.in_ok-fault-in-Convert.ensures c.in_ok-exception-in-Convert.ensures.made

pub returns-in_ok-exception-in-Ignored-clause-ok : goal.returns-in_ok-exception-in-Ignored-clause-ok
returns-in_ok-exception-in-Ignored-clause-ok c =
    settled_ignored c.args.self.now c.args.object c.args.left c.args.how c.requires.runs c.requires.generator c.requires.ending c.finish.result c.finish.ensures.answer c.finish.new.self c.finish.ensures.left
    c.generator_kind-kind.result c.generator_kind-kind.ensures c.new_exception.new.store c.in_ok-exception-in-Ignored.ensures.grows c.requires.stored.classes c.in_ok-exception-in-Ignored.exception c.in_ok-fault-in-Ignored.fault
    c.in-Ignored.is c.in_ok-fault-in-Ignored.ensures c.in_ok-exception-in-Ignored.ensures.made
