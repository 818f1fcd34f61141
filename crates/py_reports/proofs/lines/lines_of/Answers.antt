use Rattle.std.proofs.Common.{◌+◌, ◌∙◌, ◌++◌, List, ap, subst, sym}
use Rattle.py_objects.specs.Objects.{Name}
use Rattle.py_reports.specs.Inside.{one_line, without_return}
use Rattle.py_reports.proofs.LinesLemmas.{cut_more, cut_on, cut_whole, IsCut}
use Rattle.py_reports.proofs.lines.lines_of.Goals as goal
use Rattle.py_reports.proofs.lines.lines_of.Goals.{then-c-eq10+in_ok-copy_of+in_ok-push, else-c-eq10+in_ok-push-2}

pub loop-c-preserved : goal.loop-c-preserved
loop-c-preserved c =
    elim c.if-c-eq10.branch [
      | then-c-eq10+in_ok-copy_of+in_ok-push w ↦
          cut_more c.args.text.now c.loop-c.lines c.if-c-eq10.lines c.loop-c.line.items w.in_ok-copy_of.field-0 c.if-c-eq10.line.items c.loop-c.c-index c.c-item.result c.loop-c-test.true c.c-item.is
          w.if-c-eq10.true (w.in_ok-copy_of.ensures ∙ w.without_return.ensures ∙ ap without_return w.as_slice.ensures.value) (w.lines-is ∙ w.in_ok-push.ensures.added)
          (ap (λ v. v.items) w.line-is ∙ w.clear.ensures.items) c.loop-c.invariant
      | else-c-eq10+in_ok-push-2 w ↦
          subst (λ (lines : List Name). IsCut c.args.text.now lines c.if-c-eq10.line.items (c.loop-c.c-index + 1)) (sym w.lines-is)
          (cut_on c.args.text.now c.loop-c.lines c.loop-c.line.items c.if-c-eq10.line.items c.loop-c.c-index c.c-item.result c.loop-c-test.true c.c-item.is w.if-c-eq10.false
          (ap (λ v. v.items) w.line-is ∙ w.in_ok-push-2.ensures.items) c.loop-c.invariant)
    ]

pub returns : goal.returns
returns c =
    c.in_ok-push_rest.ensures ∙ ap (λ (line : Name). c.loop-c.lines ++ one_line line) c.of.ensures
    ∙ sym (cut_whole c.args.text.now c.loop-c.lines c.loop-c.line.items c.loop-c.c-index c.loop-c-test.false c.loop-c.invariant)
