use Rattle.std.proofs.Common.{◌≡◌, ◌<◌, ◌+◌, List, Some, ap, sym, ◌∙◌, length, get_or, map, take, subst}
use Rattle.std.specs.Prelude.{slice_get, encode_utf8_all}
use Rattle.py_code.specs.declared.literal.Literal.{Literal}
use Rattle.py_code.specs.Literals.{literals_of}
use Rattle.py_code.specs.Replacing.{AreNames, text_bytes}
use Rattle.py_code.proofs.NamesLemmas.{grown-interned}
use Rattle.py_code.proofs.ReplacingLemmas.{AreNames-more, first_are, table_more, texts_more}
use Rattle.py_code.proofs.replace.intern_all.Goals as goal

pub loop-literal-preserved : goal.loop-literal-preserved
loop-literal-preserved c =
    let before = c.loop-literal.names in
    let after = c.intern.new.self in
    let literals = literals_of c.args.texts.now in
    let i = c.loop-literal.literal-index in
    let id = c.in_ok-intern.field-0 in
    let literal = c.literal-item.result in
    let text = c.in-Str.text in
    let same = c.as_slice-literal-items.ensures in
    let low : i < length literals = subst (λ (ls : List Literal). i < length ls) same c.loop-literal-test.true in
    let here : literal ≡ get_or literals i literal = c.literal-item.is ∙ ap (λ (ls : List Literal). get_or ls i literal) same in
    let spelled : c.deref.result.now ≡ encode_utf8_all text = c.deref.ensures ∙ c.in_ok-utf8_of.ensures.text in
    let found : slice_get after id.index ≡ Some (encode_utf8_all text) = c.in_ok-intern.ensures.found ∙ ap Some spelled in
    let grows = grown-interned before after c.deref.result.now c.in_ok-intern.ensures.texts in
    record {
      named =
          subst (AreNames after c.push.new.self.items) (sym (texts_more literals i literal text low here c.in-Str.is))
          (AreNames-more before after c.loop-literal.ids.items c.push.new.self.items (map text_bytes (take i literals)) id (encode_utf8_all text) grows found
          c.in_ok-push.ensures.items c.loop-literal.invariant.named);
      table =
          table_more c.args.names.now before after literals i literal text c.deref.result.now low here c.in-Str.is spelled c.loop-literal.invariant.table
          c.in_ok-intern.ensures.texts;
    }

pub returns-in_err-utf8_of-clause-some : goal.returns-in_err-utf8_of-clause-some
returns-in_err-utf8_of-clause-some c = first_are c.args.texts.now c.loop-literal.literal-index c.args.names.now c.loop-literal.names c.loop-literal.invariant.table

pub returns-in_err-intern-clause-some : goal.returns-in_err-intern-clause-some
returns-in_err-intern-clause-some c =
    first_are c.args.texts.now c.loop-literal.literal-index c.args.names.now c.intern.new.self (c.in_err-intern.ensures.err ∙ c.loop-literal.invariant.table)

pub returns-in_err-push-clause-some : goal.returns-in_err-push-clause-some
returns-in_err-push-clause-some c =
    let before = c.loop-literal.names in
    let literals = literals_of c.args.texts.now in
    let i = c.loop-literal.literal-index in
    let literal = c.literal-item.result in
    let same = c.as_slice-literal-items.ensures in
    let low : i < length literals = subst (λ (ls : List Literal). i < length ls) same c.loop-literal-test.true in
    let here : literal ≡ get_or literals i literal = c.literal-item.is ∙ ap (λ (ls : List Literal). get_or ls i literal) same in
    let spelled : c.deref.result.now ≡ encode_utf8_all c.in-Str.text = c.deref.ensures ∙ c.in_ok-utf8_of.ensures.text in
    first_are c.args.texts.now (i + 1) c.args.names.now c.intern.new.self
    (table_more c.args.names.now before c.intern.new.self literals i literal c.in-Str.text c.deref.result.now low here c.in-Str.is spelled c.loop-literal.invariant.table
    c.in_ok-intern.ensures.texts)
