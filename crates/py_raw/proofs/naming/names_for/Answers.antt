use Rattle.std.proofs.Common.{List, subst}
use Rattle.py_tree.specs.Tree.{Name}
use Rattle.py_laid.specs.Naming.{NamesAll}
use Rattle.py_laid.proofs.BindingLemmas.{Continues-trans}
use Rattle.py_laid.proofs.NamingLemmas.{NamesAll-grown}
use Rattle.py_raw.specs.RawSheet.{locals_of}
use Rattle.py_raw.proofs.naming.names_for.Goals as goal

-- what has names keeps them while the table grows

pub returns-clause-global_names : goal.returns-clause-global_names
returns-clause-global_names c =
    let names = c.in_ok-global_names.global_names.items in
    let first = c.intern_all.new.names in
    let last = c.intern_all-3.new.names in
    let named = subst (λ (xs : List Name). NamesAll first names xs) c.as_slice.ensures c.in_ok-global_names.ensures.named in
    NamesAll-grown first last names c.args.block.now.names
    (Continues-trans first c.intern_all-2.new.names last c.in_ok-cellvars.ensures.grows c.in_ok-freevars.ensures.grows) named

pub returns-clause-varnames : goal.returns-clause-varnames
returns-clause-varnames c =
    let first = c.name_locals.new.names in
    let second = c.intern_all.new.names in
    let last = c.intern_all-3.new.names in
    NamesAll-grown first last c.in_ok-varnames.varnames.items (locals_of c.args.block.now)
    (Continues-trans first second last c.in_ok-global_names.ensures.grows
    (Continues-trans second c.intern_all-2.new.names last c.in_ok-cellvars.ensures.grows c.in_ok-freevars.ensures.grows)) c.in_ok-varnames.ensures.named

pub returns-clause-cellvars : goal.returns-clause-cellvars
returns-clause-cellvars c =
    let names = c.in_ok-cellvars.cellvars.items in
    let named = subst (λ (xs : List Name). NamesAll c.intern_all-2.new.names names xs) c.as_slice-2.ensures c.in_ok-cellvars.ensures.named in
    NamesAll-grown c.intern_all-2.new.names c.intern_all-3.new.names names c.args.block.now.cells c.in_ok-freevars.ensures.grows named
