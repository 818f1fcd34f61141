use Rattle.std.proofs.Common.{◌∙◌, Some, sym, ap, arith}
use Rattle.std.proofs.lemmas.Option.{slice_get-get_or, slice_get_within}
use Rattle.py_objects.specs.declared.payload.Payload.TheVariants as payload
use Rattle.py_frame.proofs.ObjectsLemmas.{is_traceback, traceback_found, traceback_is, no_traceback}
use Rattle.py_frame.proofs.objects.is_traceback.Goals as goal

pub returns-in-Traceback-clause-is : goal.returns-in-Traceback-clause-is
returns-in-Traceback-clause-is c =
    λ yes.
    let has = slice_get-get_or c.args.store.now.made c.args.value.number payload.None (omega (arith, c.if-value-len.true, c.len.ensures)) in
    let (t, is) = traceback_is _ (sym (traceback_found c.args.store.now.made c.args.store.now.changes c.args.value _ _ has c.get.ensures.now) ∙ ap is_traceback c.in-Traceback.is) in
    (t, has ∙ ap Some is)

pub returns-in_default : goal.returns-in_default
returns-in_default c = record {
  is = λ yes. cc;
  no = λ no (t, has).
      let found = traceback_found c.args.store.now.made c.args.store.now.changes c.args.value _ _ has c.get.ensures.now in
      let other = no_traceback _ c.in_default.not-Traceback in
      cc;
}

pub returns-else-value-len-clause-no : goal.returns-else-value-len-clause-no
returns-else-value-len-clause-no c = λ no (t, has). omega (arith, c.if-value-len.false, c.len.ensures, slice_get_within c.args.store.now.made c.args.value.number (payload.Traceback t) has)
