use Rattle.std.proofs.Common.{◌≡◌, ◌∙◌, sym, true, refl, map}
use Rattle.py_grammar.specs.Grammar.{declared_as}
use Rattle.py_grammar.specs.Rules.{may_manage}
use Rattle.py_grammar.specs.Script.{decls_of}
use Rattle.py_grammar.proofs.Tables.{decls_more, may_manage_names, table_manager, table_outside}
use Rattle.py_grammar.proofs.reader.Reader.declare_manager.Goals as goal

pub returns-clause-taken : goal.returns-clause-taken
returns-clause-taken c =
    let kept = table_outside c.args.self.now c.requires.kept c.requires.outside in
    let may : may_manage (map declared_as (decls_of c.args.self.now.whole)) c.args.name c.args.enter c.args.exit ≡ true =
    sym (may_manage_names (decls_of c.args.self.now.whole) c.args.self.now.table c.args.name c.args.enter c.args.exit kept) ∙ sym c.may_manage.ensures ∙ c.if-not-may_manage.false in
    rw (may, decls_more _ _ _ c.in_ok-push.ensures.added, c.requires.outside)

pub returns-clause-kept : goal.returns-clause-kept
returns-clause-kept c =
    let kept = table_outside c.args.self.now c.requires.kept c.requires.outside in
    record {
      table = rw (decls_more _ _ _ c.in_ok-push.ensures.added, c.requires.outside)
          (c.in_ok-add_manager.ensures ∙ table_manager (decls_of c.args.self.now.whole) c.args.self.now.table c.args.name c.args.enter c.args.exit kept (sym c.may_manage.ensures ∙ c.if-not-may_manage.false));
      still_new = rw c.requires.outside refl;
    }
