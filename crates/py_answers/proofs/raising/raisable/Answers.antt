use Rattle.std.proofs.Common.{inl, inr, refl}
use Rattle.py_answers.proofs.ReadingLemmas.{taken_as_made}
use Rattle.py_answers.proofs.raising.raisable.Goals as goal

pub returns-in-Ok-clause-reply : goal.returns-in-Ok-clause-reply
returns-in-Ok-clause-reply c =
    inl (c.in-Ok.ctor, taken_as_made c.args.store.now c.args.object _ c.requires.readable.unread c.in-Ok.ensures, c.raised_as.ensures.reply)

pub returns-in-Err-NotException-clause-reply : goal.returns-in-Err-NotException-clause-reply
returns-in-Err-NotException-clause-reply c =
    let taken = taken_as_made c.args.store.now c.args.object _ c.requires.readable.unread c.try_from_object.ensures in
    rw c.in-Err-NotException.fault-is
    (inr (c.in-Err-NotException.fault, rw (c.in-Err-NotException.is, c.in-Err-NotException.field-0-is) at taken, refl))
