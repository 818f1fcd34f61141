use Rattle.py_answers.proofs.ReadingLemmas.{read_made, parts_now, instance_as_made, class_matches}
use Rattle.py_answers.proofs.matching.matches.Goals as goal

pub is_instance-requires : goal.is_instance-requires
is_instance-requires c =
    parts_now c.args.store.now c.entry-caught.result.now (read_made c.args.store.now.made c.args.exception c.entry-caught.result.now c.requires.readable.fit c.entry-caught.ensures)

pub returns-clause-reply : goal.returns-clause-reply
returns-clause-reply c =
    let made = read_made c.args.store.now.made c.args.exception c.entry-caught.result.now c.requires.readable.fit c.entry-caught.ensures in
    class_matches c.args.store.now.made c.args.exception c.args.class c.entry-caught.result.now c.entry.result.now c.in-Class.field-0 c.is_instance.result
    c.entry-caught.ensures c.entry.ensures c.in-Class.is (rw c.if-not-is_of_exceptions.false at c.is_of_exceptions.ensures)
    (instance_as_made c.args.store.now c.entry-caught.result.now c.args.class c.is_instance.result made c.is_instance.ensures)
