use Rattle.std.proofs.Common.{List, sym, ◌∙◌, subst, codes}
use Rattle.py_tree.specs.Tree.{Name}
use Rattle.py_laid.specs.Fits.{Continues}
use Rattle.py_laid.specs.Naming.{NamesAll}
use Rattle.py_laid.proofs.BindingLemmas.{Continues-refl, Continues-trans}
use Rattle.py_laid.proofs.NamingLemmas.{IsNameOf-grown, NamesAll-grown}
use Rattle.py_body.proofs.NamingLemmas.{Continues-names, is_name_of}
use Rattle.py_body.proofs.compile.names_for.Goals as goal

-- ---- what has a name keeps it while the table grows

pub returns-clause-source_path : goal.returns-clause-source_path
returns-clause-source_path c =
    let id = c.in_ok-source_path.source_path in
    IsNameOf-grown c.intern_all.new.names c.intern_all-2.new.names id _ c.in_ok-global_names.ensures.grows
    (IsNameOf-grown c.intern_text.new.names c.intern_all.new.names id _ c.in_ok-varnames.ensures.grows
    (IsNameOf-grown c.intern.new.self c.intern_text.new.names id _ c.in_ok-obj_name.ensures.grows (is_name_of c.intern.new.self id _ c.in_ok-source_path.ensures.found)))

pub returns-clause-obj_name : goal.returns-clause-obj_name
returns-clause-obj_name c =
    let id = c.in_ok-obj_name.obj_name in
    IsNameOf-grown c.intern_all.new.names c.intern_all-2.new.names id _ c.in_ok-global_names.ensures.grows
    (IsNameOf-grown c.intern_text.new.names c.intern_all.new.names id _ c.in_ok-varnames.ensures.grows c.in_ok-obj_name.ensures.named.0)

pub returns-clause-global_names : goal.returns-clause-global_names
returns-clause-global_names c =
    subst (λ (names : List Name). NamesAll c.intern_all-2.new.names c.in_ok-global_names.global_names.items names) (c.as_slice-2.ensures ∙ c.in_ok-globals.ensures) c.in_ok-global_names.ensures.named

pub returns-clause-varnames : goal.returns-clause-varnames
returns-clause-varnames c =
    NamesAll-grown c.intern_all.new.names c.intern_all-2.new.names c.in_ok-varnames.varnames.items _ c.in_ok-global_names.ensures.grows
    (subst (λ (names : List Name). NamesAll c.intern_all.new.names c.in_ok-varnames.varnames.items names) (c.as_slice.ensures ∙ c.in_ok-locals.ensures) c.in_ok-varnames.ensures.named)

-- ---- the table only grows, wherever memory runs out

pub returns-in_err-source_path-clause-grows : goal.returns-in_err-source_path-clause-grows
returns-in_err-source_path-clause-grows c = subst (Continues c.args.names.now) (sym c.in_err-source_path.ensures.err) (Continues-refl c.args.names.now)

pub returns-in_err-obj_name-clause-grows : goal.returns-in_err-obj_name-clause-grows
returns-in_err-obj_name-clause-grows c =
    Continues-names c.args.names.now c.intern.new.self c.intern.new.self c.intern_text.new.names (codes "<script>") c.in_ok-source_path.ensures.texts (Continues-refl c.intern.new.self)
    c.in_err-obj_name.ensures.grows

pub returns-in_err-varnames-clause-grows : goal.returns-in_err-varnames-clause-grows
returns-in_err-varnames-clause-grows c =
    Continues-names c.args.names.now c.intern.new.self c.intern_text.new.names c.intern_all.new.names (codes "<script>") c.in_ok-source_path.ensures.texts c.in_ok-obj_name.ensures.grows
    c.in_err-varnames.ensures.grows

pub returns-in_err-global_names-clause-grows : goal.returns-in_err-global_names-clause-grows
returns-in_err-global_names-clause-grows c =
    Continues-trans c.args.names.now c.intern_all.new.names c.intern_all-2.new.names
    (Continues-names c.args.names.now c.intern.new.self c.intern_text.new.names c.intern_all.new.names (codes "<script>") c.in_ok-source_path.ensures.texts c.in_ok-obj_name.ensures.grows
    c.in_ok-varnames.ensures.grows)
    c.in_err-global_names.ensures.grows

pub returns-clause-grows : goal.returns-clause-grows
returns-clause-grows c =
    Continues-trans c.args.names.now c.intern_all.new.names c.intern_all-2.new.names
    (Continues-names c.args.names.now c.intern.new.self c.intern_text.new.names c.intern_all.new.names (codes "<script>") c.in_ok-source_path.ensures.texts c.in_ok-obj_name.ensures.grows
    c.in_ok-varnames.ensures.grows)
    c.in_ok-global_names.ensures.grows
