use Rattle.std.proofs.Common.{sym, subst}
use Rattle.std.specs.Prelude.{Option}
use Rattle.py_objects.specs.declared.refs.PyBaseExceptionRef.{PyBaseExceptionRef}
use Rattle.py_rows.specs.RunOfRows.{IsExit}
use Rattle.py_frame.proofs.AddedLemmas.{adds_grow, adds_on}
use Rattle.py_frame.proofs.ExitLemmas.{exit_none, exit_raised}
use Rattle.py_frame.proofs.exits.exit_arguments.Goals as goal

pub returns-in_err-exception-in-None-clause-objects : goal.returns-in_err-exception-in-None-clause-objects
returns-in_err-exception-in-None-clause-objects c = adds_on _ _ _ c.add_none.ensures.objects c.add_none-in-None.ensures.objects

pub returns-in_err-traceback-in-None-clause-objects : goal.returns-in_err-traceback-in-None-clause-objects
returns-in_err-traceback-in-None-clause-objects c =
    adds_on _ _ _ (adds_on _ _ _ c.add_none.ensures.objects c.add_none-in-None.ensures.objects) c.add_none-in-None-2.ensures.objects

pub returns-in_ok-traceback-in-None-clause-told : goal.returns-in_ok-traceback-in-None-clause-told
returns-in_ok-traceback-in-None-clause-told c =
    subst (λ (e : Option PyBaseExceptionRef). IsExit c.add_none-in-None-2.new.store.made e c.in_ok-class-in-None.class c.in_ok-exception-in-None.exception c.in_ok-traceback-in-None.traceback) (sym c.in-None.is)
    (exit_none _ _ _ _ _ _ (adds_grow _ _ c.add_none-in-None.ensures.objects) (adds_grow _ _ c.add_none-in-None-2.ensures.objects) c.in_ok-class-in-None.ensures.none c.in_ok-exception-in-None.ensures.none c.in_ok-traceback-in-None.ensures.none)

pub returns-in_ok-traceback-in-None-clause-objects : goal.returns-in_ok-traceback-in-None-clause-objects
returns-in_ok-traceback-in-None-clause-objects c =
    adds_on _ _ _ (adds_on _ _ _ c.add_none.ensures.objects c.add_none-in-None.ensures.objects) c.add_none-in-None-2.ensures.objects

pub returns-in_ok-traceback-in-Some-clause-told : goal.returns-in_ok-traceback-in-Some-clause-told
returns-in_ok-traceback-in-Some-clause-told c =
    subst (λ (e : Option PyBaseExceptionRef). IsExit c.traceback.new.store.made e c.class-class.result c.as_object-exception.result c.in_ok-traceback-in-Some.traceback) (sym c.in-Some.is)
    (exit_raised c.args.store.now c.traceback.new.store c.in-Some.exception _ _ _ (adds_grow _ _ c.traceback.ensures.objects) c.as_object-exception.ensures c.class-class.ensures c.in_ok-traceback-in-Some.ensures.told)
