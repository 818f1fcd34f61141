use Rattle.std.proofs.Common.{◌≡◌, List, length, map, refl, sym, ap, ◌∙◌, subst}
use Rattle.std.proofs.lemmas.List.{length-map}
use Rattle.py_code.specs.declared.code.CodeObject.{CodeObject}
use Rattle.py_code.specs.Literals.{literals_of}
use Rattle.py_lines.specs.declared.constant.RawConst.{RawConst}
use Rattle.py_body.proofs.NamingLemmas.{length-NamesAll}
use Rattle.py_raw.specs.RawSheet.{AreLiteralsOf, counts_of, flags_of, line_of, locals_of, note_at, unit_of}
use Rattle.py_raw.specs.Assembled.{IsAssembled}
use Rattle.py_raw.proofs.assembler.assemble.Goals as goal

pub returns-clause-assembled : goal.returns-clause-assembled
returns-clause-assembled c =
    let b = c.args.block.now in
    let table = c.names_for.new.names in
    let ids = c.in_ok-ids.ids in
    let named = c.in_ok-ids.ensures in
    let literals = literals_of c.in_ok-literals_of.field-0 in
    let lines : c.in_ok-locations_of.field-0.items ≡ map line_of b.units = c.in_ok-locations_of.ensures ∙ ap (map line_of) c.as_slice-units.ensures in
    let units : c.in_ok-instructions_of.field-0.items ≡ map unit_of b.units = c.in_ok-instructions_of.ensures ∙ ap (map unit_of) c.as_slice-units.ensures in
    let located : length c.in_ok-locations_of.field-0.items ≡ length b.units = ap length lines ∙ length-map b.units line_of in
    let notes : c.in_ok-notes.notes ≡ map note_at b.units = c.in_ok-notes.ensures ∙ ap (map note_at) c.as_slice-units.ensures in
    let flags : c.flags_of.result ≡ flags_of b.flags = c.flags_of.ensures ∙ ap flags_of c.as_slice.ensures in
    let counts : c.counts_of-counts.result ≡ counts_of b = c.counts_of-counts.ensures in
    subst
    (λ (o : CodeObject). IsAssembled table c.args.earlier.now (record { code = record { code = o }; notes = c.in_ok-notes.notes }) b)
    (sym c.new-code.ensures)
    (record {
      literals = literals;
      are_literals = subst (λ (cs : List RawConst). AreLiteralsOf c.args.earlier.now cs literals) c.as_slice-2.ensures c.in_ok-literals_of.ensures;
      sheet = λ k. record {
        units = units k;
        locations = located k;
        notes = notes k;
        flags = flags k;
        posonlyarg_count = (counts k).positional;
        arg_count = (counts k).args;
        kwonlyarg_count = (counts k).named;
        max_stackdepth = b.depth;
        cell2arg = c.new.ensures.items k;
        constants = literals;
        names = length-NamesAll table ids.global_names.items b.names named.global_names k;
        varnames = length-NamesAll table ids.varnames.items (locals_of b) named.varnames k;
        cellvars = length-NamesAll table ids.cellvars.items b.cells named.cellvars k;
        freevars = length-NamesAll table ids.freevars.items b.frees named.freevars k;
      };
      locations = lines;
      first_line_number = refl;
      source_path = named.source_path;
      obj_name = named.obj_name;
      names = named.global_names;
      varnames = named.varnames;
      cellvars = named.cellvars;
      freevars = named.freevars;
    })
