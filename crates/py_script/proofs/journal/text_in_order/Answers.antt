use Rattle.std.proofs.Common.{◌≡◌, sym, ◌∙◌, rules}
use Rattle.py_objects.specs.Edits.{store_at}
use Rattle.py_script.specs.Writing.{latest}
use Rattle.py_script.proofs.TextLemmas.{due_made, left_on, text_more}
use Rattle.py_script.proofs.journal.text_in_order.Goals as goal

pub loop-number-preserved : goal.loop-number-preserved
loop-number-preserved c =
    let made = c.args.journal.now.objects in
    let changes = c.args.journal.now.changes in
    let k = c.loop-number.number in
    let before = c.loop-number.invariant.left in
    let told : latest made c.go_on.new.changed ≡ store_at made changes k = c.in_ok-left.ensures.made ∙ sym (due_made made _ changes _ k before) in
    record {
      text =
          text_more made _ changes k c.args.journal.now.events c.as_slice-event-items.result.now c.event-item.result _ _ _
          c.as_slice-event-items.ensures c.loop-number-test.true c.event-item.is told (search rules) c.loop-number.invariant.text;
      left = rw (c.in_ok-left.ensures.made, c.in_ok-left.ensures.left) (left_on made _ changes _ k before);
    }
