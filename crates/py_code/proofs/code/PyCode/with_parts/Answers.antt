use Rattle.std.proofs.Common.{List, rules, sym, subst}
use Rattle.py_code.specs.declared.code.CodeObject.{CodeObject}
use Rattle.py_code.specs.declared.names.NameId.{NameId}
use Rattle.py_code.specs.Replacing.{AreNamesOr, IsReplaced, names_given, text_given, texts_given}
use Rattle.py_code.proofs.ReplacingLemmas.{AreNamesOr-grown, IsNameOr-grown, all_are, all_done, first_failed, fourth_failed, grown-trans, interned_grown, second_failed, third_failed}
use Rattle.py_code.proofs.code.PyCode.with_parts.Goals as goal

pub returns-clause-replaced : goal.returns-clause-replaced
returns-clause-replaced c =
    let own = c.args.self.now.code in
    let given = c.args.args in
    let named = c.name_or-2.new.names in
    let used = c.names_or.new.names in
    let table = c.names_or-2.new.names in
    let last = interned_grown (texts_given given.co_varnames) used table c.in_ok-varnames.ensures.table in
    let later = grown-trans named used table (interned_grown (texts_given given.co_names) named used c.in_ok-global_names.ensures.table) last in
    let all = grown-trans c.name_or.new.names named table (interned_grown (text_given given.co_name) c.name_or.new.names named c.in_ok-obj_name.ensures.table) later in
    subst (λ (made : CodeObject). IsReplaced table own given made) (sym c.new.ensures)
    (record {
      posonlyarg_count = search rules;
      arg_count = search rules;
      kwonlyarg_count = search rules;
      flags = search rules;
      first_line_number = search rules;
      source_path = IsNameOr-grown c.name_or.new.names table given.co_filename own.source_path c.in_ok-source_path.source_path all c.in_ok-source_path.ensures.named;
      obj_name = IsNameOr-grown named table given.co_name own.obj_name c.in_ok-obj_name.obj_name later c.in_ok-obj_name.ensures.named;
      names = AreNamesOr-grown used table given.co_names own.names.items c.in_ok-global_names.global_names.items last
          (subst (λ (ids : List NameId). AreNamesOr used given.co_names ids c.in_ok-global_names.global_names.items) c.as_slice.ensures.value c.in_ok-global_names.ensures.named);
      varnames =
          subst (λ (ids : List NameId). AreNamesOr table given.co_varnames ids c.in_ok-varnames.varnames.items) c.as_slice-2.ensures.value c.in_ok-varnames.ensures.named;
      constants = search rules;
      instructions = search rules;
      locations = search rules;
      max_stackdepth = search rules;
      cell2arg = search rules;
      cellvars = search rules;
      freevars = search rules;
    })

pub returns-clause-table : goal.returns-clause-table
returns-clause-table c =
    all_done c.args.names.now (text_given c.args.args.co_filename) (text_given c.args.args.co_name) (texts_given c.args.args.co_names) (texts_given c.args.args.co_varnames)
    c.name_or.new.names c.in_ok-source_path.ensures.table c.name_or-2.new.names c.in_ok-obj_name.ensures.table c.names_or.new.names c.in_ok-global_names.ensures.table
    c.names_or-2.new.names c.in_ok-varnames.ensures.table

pub returns-in_err-source_path-clause-some : goal.returns-in_err-source_path-clause-some
returns-in_err-source_path-clause-some c =
    first_failed c.args.names.now (text_given c.args.args.co_filename) (text_given c.args.args.co_name) (texts_given c.args.args.co_names) (texts_given c.args.args.co_varnames)
    c.name_or.new.names c.in_err-source_path.ensures.some

pub returns-in_err-obj_name-clause-some : goal.returns-in_err-obj_name-clause-some
returns-in_err-obj_name-clause-some c =
    second_failed c.args.names.now (text_given c.args.args.co_filename) (text_given c.args.args.co_name) (texts_given c.args.args.co_names) (texts_given c.args.args.co_varnames)
    c.name_or.new.names c.in_ok-source_path.ensures.table c.name_or-2.new.names c.in_err-obj_name.ensures.some

pub returns-in_err-global_names-clause-some : goal.returns-in_err-global_names-clause-some
returns-in_err-global_names-clause-some c =
    third_failed c.args.names.now (text_given c.args.args.co_filename) (text_given c.args.args.co_name) (texts_given c.args.args.co_names) (texts_given c.args.args.co_varnames)
    c.name_or.new.names c.in_ok-source_path.ensures.table c.name_or-2.new.names c.in_ok-obj_name.ensures.table c.names_or.new.names c.in_err-global_names.ensures.some

pub returns-in_err-varnames-clause-some : goal.returns-in_err-varnames-clause-some
returns-in_err-varnames-clause-some c =
    fourth_failed c.args.names.now (text_given c.args.args.co_filename) (text_given c.args.args.co_name) (texts_given c.args.args.co_names) (texts_given c.args.args.co_varnames)
    c.name_or.new.names c.in_ok-source_path.ensures.table c.name_or-2.new.names c.in_ok-obj_name.ensures.table c.names_or.new.names c.in_ok-global_names.ensures.table c.names_or-2.new.names c.in_err-varnames.ensures.some

pub returns-in_err-constants-clause-some : goal.returns-in_err-constants-clause-some
returns-in_err-constants-clause-some c =
    all_are (names_given c.args.args) c.args.names.now c.names_or-2.new.names
    (all_done c.args.names.now (text_given c.args.args.co_filename) (text_given c.args.args.co_name) (texts_given c.args.args.co_names) (texts_given c.args.args.co_varnames)
    c.name_or.new.names c.in_ok-source_path.ensures.table c.name_or-2.new.names c.in_ok-obj_name.ensures.table c.names_or.new.names c.in_ok-global_names.ensures.table
    c.names_or-2.new.names c.in_ok-varnames.ensures.table)

pub returns-in_err-copy_of-clause-some : goal.returns-in_err-copy_of-clause-some
returns-in_err-copy_of-clause-some c =
    all_are (names_given c.args.args) c.args.names.now c.names_or-2.new.names
    (all_done c.args.names.now (text_given c.args.args.co_filename) (text_given c.args.args.co_name) (texts_given c.args.args.co_names) (texts_given c.args.args.co_varnames)
    c.name_or.new.names c.in_ok-source_path.ensures.table c.name_or-2.new.names c.in_ok-obj_name.ensures.table c.names_or.new.names c.in_ok-global_names.ensures.table
    c.names_or-2.new.names c.in_ok-varnames.ensures.table)

pub returns-in_err-copy_of-2-clause-some : goal.returns-in_err-copy_of-2-clause-some
returns-in_err-copy_of-2-clause-some c =
    all_are (names_given c.args.args) c.args.names.now c.names_or-2.new.names
    (all_done c.args.names.now (text_given c.args.args.co_filename) (text_given c.args.args.co_name) (texts_given c.args.args.co_names) (texts_given c.args.args.co_varnames)
    c.name_or.new.names c.in_ok-source_path.ensures.table c.name_or-2.new.names c.in_ok-obj_name.ensures.table c.names_or.new.names c.in_ok-global_names.ensures.table
    c.names_or-2.new.names c.in_ok-varnames.ensures.table)

pub returns-in_err-copy_of-3-clause-some : goal.returns-in_err-copy_of-3-clause-some
returns-in_err-copy_of-3-clause-some c =
    all_are (names_given c.args.args) c.args.names.now c.names_or-2.new.names
    (all_done c.args.names.now (text_given c.args.args.co_filename) (text_given c.args.args.co_name) (texts_given c.args.args.co_names) (texts_given c.args.args.co_varnames)
    c.name_or.new.names c.in_ok-source_path.ensures.table c.name_or-2.new.names c.in_ok-obj_name.ensures.table c.names_or.new.names c.in_ok-global_names.ensures.table
    c.names_or-2.new.names c.in_ok-varnames.ensures.table)

pub returns-in_err-copy_of-4-clause-some : goal.returns-in_err-copy_of-4-clause-some
returns-in_err-copy_of-4-clause-some c =
    all_are (names_given c.args.args) c.args.names.now c.names_or-2.new.names
    (all_done c.args.names.now (text_given c.args.args.co_filename) (text_given c.args.args.co_name) (texts_given c.args.args.co_names) (texts_given c.args.args.co_varnames)
    c.name_or.new.names c.in_ok-source_path.ensures.table c.name_or-2.new.names c.in_ok-obj_name.ensures.table c.names_or.new.names c.in_ok-global_names.ensures.table
    c.names_or-2.new.names c.in_ok-varnames.ensures.table)

pub returns-in_err-copy_of-5-clause-some : goal.returns-in_err-copy_of-5-clause-some
returns-in_err-copy_of-5-clause-some c =
    all_are (names_given c.args.args) c.args.names.now c.names_or-2.new.names
    (all_done c.args.names.now (text_given c.args.args.co_filename) (text_given c.args.args.co_name) (texts_given c.args.args.co_names) (texts_given c.args.args.co_varnames)
    c.name_or.new.names c.in_ok-source_path.ensures.table c.name_or-2.new.names c.in_ok-obj_name.ensures.table c.names_or.new.names c.in_ok-global_names.ensures.table
    c.names_or-2.new.names c.in_ok-varnames.ensures.table)

pub returns-clause-some : goal.returns-clause-some
returns-clause-some c =
    all_are (names_given c.args.args) c.args.names.now c.names_or-2.new.names
    (all_done c.args.names.now (text_given c.args.args.co_filename) (text_given c.args.args.co_name) (texts_given c.args.args.co_names) (texts_given c.args.args.co_varnames)
    c.name_or.new.names c.in_ok-source_path.ensures.table c.name_or-2.new.names c.in_ok-obj_name.ensures.table c.names_or.new.names c.in_ok-global_names.ensures.table
    c.names_or-2.new.names c.in_ok-varnames.ensures.table)
