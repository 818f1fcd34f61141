use Rattle.std.proofs.Common.{sym, ◌∙◌}
use Rattle.py_lines.proofs.Texts.{quoted_yes, quoted_open, quoted_no}
use Rattle.py_lines.proofs.word.quoted_text.Goals as goal
use Rattle.py_lines.proofs.word.quoted_text.Goals.{else-last-eq39-via-then-last-eq39+else-all_stand_in_text, else-last-eq39-via-else-last-eq39}

pub returns-then-all_stand_in_text : goal.returns-then-all_stand_in_text
returns-then-all_stand_in_text c =
    quoted_yes c.args.word.now c.in_ok-first.rest.now c.in_ok-last.text.now c.in_ok-first.first.now c.in_ok-last.last.now c.in_ok-first.ensures.cases.0 c.if-first-ne39.false c.in_ok-last.ensures.cases.0
    c.if-last-eq39.true (sym c.all_stand_in_text.ensures ∙ c.if-all_stand_in_text.true)

pub returns-else-last-eq39 : goal.returns-else-last-eq39
returns-else-last-eq39 c =
    elim c.else-last-eq39.branch [
      | else-last-eq39-via-then-last-eq39+else-all_stand_in_text w ↦
          quoted_no c.args.word.now c.in_ok-first.rest.now c.in_ok-last.text.now c.in_ok-first.first.now c.in_ok-last.last.now c.in_ok-first.ensures.cases.0
          c.if-first-ne39.false c.in_ok-last.ensures.cases.0 w.if-last-eq39.true (sym w.all_stand_in_text.ensures ∙ w.if-all_stand_in_text.false)
      | else-last-eq39-via-else-last-eq39 w ↦
          quoted_open c.args.word.now c.in_ok-first.rest.now c.in_ok-last.text.now c.in_ok-first.first.now c.in_ok-last.last.now c.in_ok-first.ensures.cases.0
          c.if-first-ne39.false c.in_ok-last.ensures.cases.0 w.if-last-eq39.false
    ]
