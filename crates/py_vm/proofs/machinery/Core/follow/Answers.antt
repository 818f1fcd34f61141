use Rattle.std.proofs.Common.{refl}
use Rattle.py_vm.proofs.machinery.Core.follow.Goals as goal

pub reply-requires-clause-classes : goal.reply-requires-clause-classes
reply-requires-clause-classes c = (rw c.in-Says.is at c.requires.can).0

pub reply-requires-clause-there : goal.reply-requires-clause-there
reply-requires-clause-there c = (rw c.in-Says.is at c.requires.can).1

pub reply-requires-clause-first : goal.reply-requires-clause-first
reply-requires-clause-first c = (rw c.in-Says.is at c.requires.can).3

pub reply-requires-clause-readable : goal.reply-requires-clause-readable
reply-requires-clause-readable c = (rw c.in-Says.is at c.requires.can).2

pub reply-requires-clause-raises : goal.reply-requires-clause-raises
reply-requires-clause-raises c = (rw c.in-Says.is at c.requires.can).4

pub returns-in-Says-clause-ok : goal.returns-in-Says-clause-ok
returns-in-Says-clause-ok c = rw c.in-Says.is c.reply.ensures.ok

pub make-requires-clause-readable : goal.make-requires-clause-readable
make-requires-clause-readable c = (rw c.in-Enters.is at c.requires.can).0

pub make-requires-clause-runnable : goal.make-requires-clause-runnable
make-requires-clause-runnable c = (rw c.in-Enters.is at c.requires.can).1

pub make-requires-clause-callee : goal.make-requires-clause-callee
make-requires-clause-callee c = (rw c.in-Enters.is at c.requires.can).2

pub returns-in_ok-make-in-Enters-clause-ok : goal.returns-in_ok-make-in-Enters-clause-ok
returns-in_ok-make-in-Enters-clause-ok c = rw c.in-Enters.is (refl, c.in_ok-make-in-Enters.ensures.ok)

pub resume-requires : goal.resume-requires
resume-requires c = rw c.in-Resumes.is at c.requires.can

pub returns-in_ok-resume-in-Resumes-clause-ok : goal.returns-in_ok-resume-in-Resumes-clause-ok
returns-in_ok-resume-in-Resumes-clause-ok c = rw c.in-Resumes.is (refl, c.in_ok-resume-in-Resumes.ensures.ok)
