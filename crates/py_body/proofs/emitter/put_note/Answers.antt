use Rattle.std.proofs.Common.{[], ◌∷◌, ◌++◌, ◌∙◌}
use Rattle.py_check.specs.declared.note.Note.{Note}
use Rattle.py_laid.specs.Code.{note_of, over}
use Rattle.py_body.specs.Emitting.{scope_of}
use Rattle.py_body.proofs.ListLemmas.{replicate_more}
use Rattle.py_body.proofs.emitter.put_note.Goals as goal

pub loop-unit-preserved : goal.loop-unit-preserved
loop-unit-preserved c =
    let one : Note = note_of (over c.args.above (scope_of c.args.scope.now)) in
    c.in_ok-push.ensures.added ∙ (λ k. c.loop-unit.invariant k ++ c.in_ok-note.ensures k ∷ []) ∙ replicate_more c.args.notes.now c.loop-unit._unit one
