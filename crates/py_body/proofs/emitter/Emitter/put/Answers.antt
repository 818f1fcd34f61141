use Rattle.std.proofs.Common.{◌≡◌, ◌++◌, ℕ, replicate, max, suc, ap, sym, ◌∙◌, add-one}
use Rattle.py_laid.specs.Code.{Scope, note_of, over}
use Rattle.py_body.specs.Emitting.{draft_of, scope_of}
use Rattle.py_body.proofs.ScopeLemmas.{over_depth}
use Rattle.py_body.proofs.emitter.Emitter.put.Goals as goal

pub returns-clause-put : goal.returns-clause-put
returns-clause-put c =
    let d = draft_of c.args.self.now in
    let scope : Scope = over c.args.above (scope_of c.args.at.now.scope.now) in
    let locations : c.put_line.new.locations.items ≡ d.parts.locations ++ replicate (suc c.args.unit.width) c.args.at.now.line =
    c.in_ok-put_line.ensures ∙ ap (λ (n : ℕ). d.parts.locations ++ replicate n c.args.at.now.line) (add-one c.args.unit.width) in
    let notes : c.put_note.new.notes ≡ d.parts.notes ++ replicate (suc c.args.unit.width) (note_of scope) =
    c.in_ok-put_note.ensures ∙ ap (λ (n : ℕ). d.parts.notes ++ replicate n (note_of scope)) (add-one c.args.unit.width) in
    let deepest : c.max-self.result ≡ max d.deepest scope.depth = c.max-self.ensures ∙ ap (λ (n : ℕ). max d.deepest n) (sym (over_depth c.args.above (scope_of c.args.at.now.scope.now))) in
    λ k. record {
      parts = record { units = c.in_ok-put_units.ensures k; locations = locations k; notes = notes k; constants = d.parts.constants; names = d.parts.names; vars = d.parts.vars };
      labels = d.labels;
      others = d.others;
      deepest = deepest k;
    }
