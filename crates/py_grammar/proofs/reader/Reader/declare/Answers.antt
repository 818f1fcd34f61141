use Rattle.std.proofs.Common.{◌≡◌, ◌∙◌, List, [], ◌∷◌, ◌++◌, None, Some, true, ap, refl, sym}
use Rattle.std.specs.Prelude.{not}
use Rattle.py_tree.specs.Views.{tree_of}
use Rattle.py_grammar.specs.declared.open_item.OpenItem.TheVariants as item
use Rattle.py_grammar.specs.Grammar.{Decl, RawDecl}
use Rattle.py_grammar.specs.RawText.{raw_of}
use Rattle.py_grammar.specs.Rules.{is_among}
use Rattle.py_grammar.specs.Script.{decls_of}
use Rattle.py_grammar.specs.Tables.{is_still_new, names_of, table_of, with_function_name}
use Rattle.py_grammar.proofs.Tables.{decls_more, table_closed, table_coded}
use Rattle.py_grammar.proofs.reader.Reader.declare.Goals as goal

pub returns-in_ok-push-in-Some-Body-clause-kept : goal.returns-in_ok-push-in-Some-Body-clause-kept
returns-in_ok-push-in-Some-Body-clause-kept c =
    let ds : List Decl = decls_of c.args.self.now.whole in
    let open_here : c.args.self.now.inside ≡ Some (item.Body c.in-Some-Body.body) = cc (c.take.ensures.value, c.in-Some-Body.is) in
    record {
      table = rw (decls_more _ _ _ c.in_ok-push-in-Some-Body.ensures.added, c.take.ensures.after)
          (table_closed ds c.args.self.now.table c.in-Some-Body.body (tree_of c.function.result) (c.requires.table ∙ ap (table_of ds) open_here) (ap (λ t. t.name) c.function.ensures));
      still_new = rw c.take.ensures.after refl;
    }

pub returns-in_ok-push-in-Some-Raw-clause-kept : goal.returns-in_ok-push-in-Some-Raw-clause-kept
returns-in_ok-push-in-Some-Raw-clause-kept c =
    let ds : List Decl = decls_of c.args.self.now.whole in
    let open_here : c.args.self.now.inside ≡ Some (item.Raw c.in-Some-Raw.raw) = cc (c.take.ensures.value, c.in-Some-Raw.is) in
    let new : not (is_among c.in-Some-Raw.raw.name (names_of ds)) ≡ true = sym (ap (is_still_new ds) open_here) ∙ c.requires.still_new in
    let behind = table_coded ds c.args.self.now.table (raw_of c.in-Some-Raw.raw) (c.requires.table ∙ ap (table_of ds) open_here) new in
    let named : c.name.result.now ≡ c.in-Some-Raw.raw.name = c.name.ensures in
    let made : c.block.result ≡ raw_of c.in-Some-Raw.raw = c.block.ensures in
    record {
      table = rw (decls_more _ _ _ c.in_ok-push-in-Some-Raw.ensures.added, c.take.ensures.after)
          (c.in_ok-add_function-in-Some-Raw.ensures ∙ ap (with_function_name c.args.self.now.table) named ∙ behind
          ∙ ap (λ b. table_of (ds ++ RawDecl b ∷ []) None) (sym made));
      still_new = rw c.take.ensures.after refl;
    }
