use Rattle.std.proofs.Common.{subst}
use Rattle.std.proofs.lemmas.List.{take_all}
use Rattle.py_laid.specs.Naming.{NamesAll}
use Rattle.py_laid.proofs.BindingLemmas.{Continues-trans}
use Rattle.py_body.proofs.NamingLemmas.{names_more}
use Rattle.py_body.proofs.naming.intern_all.Goals as goal

pub loop-text-preserved : goal.loop-text-preserved
loop-text-preserved c =
    record {
      named = rw c.in_ok-push.ensures.items
          (names_more c.loop-text.names c.intern_text.new.names c.loop-text.ids.items c.args.texts.now c.loop-text.text-index c.in_ok-id.id c.text-item.result
          c.loop-text-test.true c.text-item.is c.in_ok-id.ensures.grows c.loop-text.invariant.named c.in_ok-id.ensures.named);
      grows = Continues-trans c.args.names.now c.loop-text.names c.intern_text.new.names c.loop-text.invariant.grows c.in_ok-id.ensures.grows;
    }

pub returns-clause-named : goal.returns-clause-named
returns-clause-named c = subst (NamesAll c.loop-text.names c.loop-text.ids.items) (take_all c.loop-text.text-index c.args.texts.now c.loop-text-test.false) c.loop-text.invariant.named

pub returns-in_err-id-clause-grows : goal.returns-in_err-id-clause-grows
returns-in_err-id-clause-grows c = Continues-trans c.args.names.now c.loop-text.names c.intern_text.new.names c.loop-text.invariant.grows c.in_err-id.ensures.grows

pub returns-in_err-push-clause-grows : goal.returns-in_err-push-clause-grows
returns-in_err-push-clause-grows c = Continues-trans c.args.names.now c.loop-text.names c.intern_text.new.names c.loop-text.invariant.grows c.in_ok-id.ensures.grows
