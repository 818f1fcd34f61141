use Rattle.std.proofs.Common.{List, ap, ◌∙◌, sym}
use Rattle.std.proofs.lemmas.Result.{on_ok_weaker}
use Rattle.py_laid.specs.Code.{Scope, over}
use Rattle.py_body.specs.Emitting.{Draft, draft_of, scope_of}
use Rattle.py_body.proofs.ScopeLemmas.{over_shallow}
use Rattle.py_code.specs.Names.{place_of}
use Rattle.py_tree.specs.Tree.{Name}
use Rattle.py_body.proofs.Operands.{load_global_emits, load_local_emits}
use Rattle.py_body.proofs.emitter.Emitter.put_load.Goals as goal

pub returns-in-Some-clause-code : goal.returns-in-Some-clause-code
returns-in-Some-clause-code c =
    let old : Draft = draft_of c.args.self.now in
    let scope : Scope = over c.args.above (scope_of c.args.at.now.scope.now) in
    on_ok_weaker c.put.result
    (load_local_emits old (draft_of c.put.new.self) scope c.args.at.now.line c.args.name.now c.in-Some.place c.index_of-arg.result c.requires.low
    (over_shallow c.args.above (scope_of c.args.at.now.scope.now) c.requires.depth)
    (sym c.in-Some.ensures.place) c.in-Some.ensures.within c.index_of-arg.ensures)
    c.put.ensures.put

pub returns-clause-code : goal.returns-clause-code
returns-clause-code c =
    let old : Draft = draft_of c.args.self.now in
    let scope : Scope = over c.args.above (scope_of c.args.at.now.scope.now) in
    let names = c.in_ok-place.ensures.names in
    let mid : Draft = record old { parts = record old.parts { names = c.insert.new.self } } in
    on_ok_weaker c.put-2.result
    (load_global_emits old mid (draft_of c.put-2.new.self) scope c.args.at.now.line c.args.name.now c.in_ok-place.place c.index_of-arg-2.result c.requires.low
    (over_shallow c.args.above (scope_of c.args.at.now.scope.now) c.requires.depth)
    (sym c.place.ensures.place ∙ c.in_default.is) (sym (ap (λ (l : List Name). place_of l c.args.name.now) names) ∙ c.in_ok-place.ensures.place) c.index_of-arg-2.ensures
    (λ k. record old { parts = record old.parts { names = names k } }))
    c.put-2.ensures.put
