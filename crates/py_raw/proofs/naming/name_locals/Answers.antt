use Rattle.py_laid.proofs.BindingLemmas.{Continues-trans}
use Rattle.py_raw.proofs.LocalLemmas.{locals_more}
use Rattle.py_raw.proofs.naming.name_locals.Goals as goal

pub loop-text-preserved : goal.loop-text-preserved
loop-text-preserved c =
    let b = c.args.block.now in
    let low = rw c.as_slice-text-items.ensures at c.loop-text-test.true in
    let there = rw c.as_slice-text-items.ensures at c.text-item.is in
    record {
      named = rw c.in_ok-push.ensures.items
          (locals_more c.loop-text.names c.intern_text.new.names c.loop-text.ids.items b.params b.vars c.loop-text.text-index c.in_ok-id.id c.text-item.result
          low there c.in_ok-id.ensures.grows c.loop-text.invariant.named c.in_ok-id.ensures.named);
      grows = Continues-trans c.args.names.now c.loop-text.names c.intern_text.new.names c.loop-text.invariant.grows c.in_ok-id.ensures.grows;
    }
