use Rattle.std.proofs.Common.{Some}
use Rattle.std.proofs.lemmas.Result.{IfOk-weaker}
use Rattle.py_answers.proofs.ThrownLemmas.{parts_there}
use Rattle.py_vm.proofs.NormalizingLemmas.{done_form, fault_form, made_form, refused_done, refused_made}
use Rattle.py_vm.proofs.ThrowingLemmas.{args_called, class_called}
use Rattle.py_vm.proofs.normalizing.form_exception.Goals as goal

pub normalized-requires-clause-value : goal.normalized-requires-clause-value
normalized-requires-clause-value c = parts_there c.args.store.now c.args.makings.value c.requires.readable c.requires.below.1.0

pub make_exception-requires-clause-class : goal.make_exception-requires-clause-class
make_exception-requires-clause-class c =
    class_called c.args.store.now c.args.makings.thrown (Some c.args.makings.value) c.in-Make.class c.in-Make.args c.requires.readable c.in-Make.ensures

pub make_exception-requires-clause-args : goal.make_exception-requires-clause-args
make_exception-requires-clause-args c =
    args_called c.args.store.now c.args.makings.thrown (Some c.args.makings.value) c.in-Make.class c.in-Make.args c.requires.readable c.in-Make.ensures

pub returns-in-Some-clause-formed : goal.returns-in-Some-clause-formed
returns-in-Some-clause-formed c =
    done_form c.args.store.now c.args.makings c.requires.readable c.in-Done.exception c.in-Some.traceback c.in-Done.ensures c.in-Some.ensures

pub returns-in-None-clause-formed : goal.returns-in-None-clause-formed
returns-in-None-clause-formed c =
    IfOk-weaker c.refused.result _ _
    (λ f refused. refused_done c.args.store.now c.args.makings c.requires.readable c.refused.new.store.made c.in-Done.exception f c.in-Done.ensures c.in-None.ensures refused)
    c.refused.ensures.refused

pub returns-in_ok-exception-in-Some-traceback_of-clause-formed : goal.returns-in_ok-exception-in-Some-traceback_of-clause-formed
returns-in_ok-exception-in-Some-traceback_of-clause-formed c =
    made_form c.args.store.now c.args.makings c.requires.readable c.make_exception.new.store c.in-Make.class c.in-Make.args c.in_ok-exception-in-Some-traceback_of.exception
    c.in-Some-traceback_of.traceback c.in-Make.ensures c.in-Some-traceback_of.ensures c.in_ok-exception-in-Some-traceback_of.ensures.grows
    c.in_ok-exception-in-Some-traceback_of.ensures.made

pub returns-in-None-traceback_of-clause-formed : goal.returns-in-None-traceback_of-clause-formed
returns-in-None-traceback_of-clause-formed c =
    IfOk-weaker c.refused-in-None-traceback_of.result _ _
    (λ f refused. refused_made c.args.store.now c.args.makings c.requires.readable c.refused-in-None-traceback_of.new.store.made c.in-Make.class c.in-Make.args f c.in-Make.ensures
    c.in-None-traceback_of.ensures refused) c.refused-in-None-traceback_of.ensures.refused

pub returns-in_ok-exception-in-Fault-clause-formed : goal.returns-in_ok-exception-in-Fault-clause-formed
returns-in_ok-exception-in-Fault-clause-formed c =
    fault_form c.args.store.now c.args.makings c.requires.readable c.new_exception.new.store c.args.zoo.now c.in-Fault.fault c.in_ok-exception-in-Fault.exception c.in-Fault.ensures
    c.requires.below.1.1.0 c.requires.classes c.in_ok-exception-in-Fault.ensures.grows c.in_ok-exception-in-Fault.ensures.made
