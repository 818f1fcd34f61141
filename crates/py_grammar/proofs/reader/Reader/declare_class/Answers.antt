use Rattle.std.proofs.Common.{◌≡◌, ◌∙◌, sym, true, refl, map}
use Rattle.py_grammar.specs.Grammar.{declared_as}
use Rattle.py_grammar.specs.Rules.{may_derive}
use Rattle.py_grammar.specs.Script.{decls_of}
use Rattle.py_grammar.proofs.Tables.{decls_more, may_derive_names, table_class, table_outside}
use Rattle.py_grammar.proofs.reader.Reader.declare_class.Goals as goal

pub returns-clause-taken : goal.returns-clause-taken
returns-clause-taken c =
    let kept = table_outside c.args.self.now c.requires.kept c.requires.outside in
    let may : may_derive (map declared_as (decls_of c.args.self.now.whole)) c.args.name c.args.base ≡ true =
    sym (may_derive_names (decls_of c.args.self.now.whole) c.args.self.now.table c.args.name c.args.base kept) ∙ sym c.may_derive.ensures ∙ c.if-not-may_derive.false in
    rw (may, decls_more _ _ _ c.in_ok-push.ensures.added, c.requires.outside)

pub returns-clause-kept : goal.returns-clause-kept
returns-clause-kept c =
    let kept = table_outside c.args.self.now c.requires.kept c.requires.outside in
    record {
      table = rw (decls_more _ _ _ c.in_ok-push.ensures.added, c.requires.outside)
          (c.in_ok-add_class.ensures ∙ table_class (decls_of c.args.self.now.whole) c.args.self.now.table c.args.name c.args.base kept (sym c.may_derive.ensures ∙ c.if-not-may_derive.false));
      still_new = rw c.requires.outside refl;
    }
