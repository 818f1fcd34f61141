use Rattle.std.proofs.Common.{subst}
use Rattle.py_tree.specs.Views.{tree_of}
use Rattle.py_body.specs.Emitting.{Draft, draft_of, EmitsBody}
use Rattle.py_body.proofs.BodyLemmas.{body_emitted, few_locals}
use Rattle.py_body.proofs.compile.emit_body.Goals as goal

pub others_for-others-requires-clause-locals : goal.others_for-others-requires-clause-locals
others_for-others-requires-clause-locals c = few_locals (tree_of c.args.body.now) c.in_ok-locals.locals c.requires c.in_ok-locals.ensures

pub returns : goal.returns
returns c =
    body_emitted (draft_of c.emit_all.new.emitter) (tree_of c.args.body.now) c.in_ok-locals.locals c.labels_for-labels.result c.others_for-others.result c.in_ok-locals.ensures
    c.labels_for-labels.ensures.low
    c.labels_for-labels.ensures.room c.others_for-others.ensures.used c.others_for-others.ensures.locals
    (subst (λ (d : Draft). EmitsBody d (draft_of c.emit_all.new.emitter) (tree_of c.args.body.now)) c.new-emitter.ensures.parts c.in_ok-emit_all.ensures)
