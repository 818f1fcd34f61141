use Rattle.py_vm.proofs.RepliesLemmas.{closed_given, fresh_given, passed_given, stopped_given, value_given, yielded_given}
use Rattle.py_vm.proofs.reply.Reply.answer.Goals as goal

pub returns-in-Value-clause-given : goal.returns-in-Value-clause-given
returns-in-Value-clause-given c before reply grows fit replied = value_given before c.args.store.now.made reply c.args.self replied c.in-Value.value c.in-Value.is

pub returns-in-Fresh-clause-given : goal.returns-in-Fresh-clause-given
returns-in-Fresh-clause-given c before reply grows fit replied = fresh_given before c.args.store.now.made reply c.args.self replied c.in-Fresh.exception c.in-Fresh.is

pub returns-in-Passed-clause-given : goal.returns-in-Passed-clause-given
returns-in-Passed-clause-given c before reply grows fit replied = passed_given before c.args.store.now.made reply c.args.self replied c.in-Passed.exception c.in-Passed.is

pub returns-in-Yields-clause-given : goal.returns-in-Yields-clause-given
returns-in-Yields-clause-given c before reply grows fit replied = yielded_given before c.args.store.now.made reply c.args.self replied c.in-Yields.value c.in-Yields.is

pub returns-in_ok-stopped-in-Stops-clause-given : goal.returns-in_ok-stopped-in-Stops-clause-given
returns-in_ok-stopped-in-Stops-clause-given c before reply grows fit replied =
    stopped_given before c.args.store.now.made c.stopped.new.store.made reply c.args.self c.in-Stops.value c.args.zoo.now _ replied c.in-Stops.is grows fit c.requires.classes
    c.in_ok-stopped-in-Stops.ensures.grows.objects c.in_ok-stopped-in-Stops.ensures.made

pub returns-in-Closes-clause-given : goal.returns-in-Closes-clause-given
returns-in-Closes-clause-given c before reply grows fit replied = closed_given before c.args.store.now.made reply c.args.self replied c.none.result c.in-Closes.is c.none.ensures.has
