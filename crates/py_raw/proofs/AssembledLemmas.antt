-- What an assembled code is: its names, its counts, and what its units do.
use Rattle.std.proofs.Common.{◌≡◌, ◌≢◌, ℕ, zero, suc, List, [], ◌∷◌, Some, refl, sym, ap, ◌∙◌, subst, length, take, map}
use Rattle.std.specs.Prelude.{Option, None, true, option_map, chars, slice_get}
use Rattle.py_code.specs.declared.instruction.Instruction.TheVariants.{Raise}
use Rattle.py_code.specs.declared.names.NameId.{NameId}
use Rattle.py_code.specs.declared.operator.RaiseKind.TheVariants.{RaiseCause}
use Rattle.py_code.specs.declared.unit.CodeUnit.{CodeUnit}
use Rattle.py_code.specs.Units.{with_byte}
use Rattle.py_check.specs.declared.annotated.Annotated.{Annotated}
use Rattle.py_check.specs.Operands.{carried}
use Rattle.py_check.specs.Sheet.{Sheet, sheet_of}
use Rattle.py_check.specs.Typing.{IsTyped}
use Rattle.py_check.specs.Running.{AllRun}
use Rattle.py_rows.specs.Asked.{name_in}
use Rattle.py_rows.specs.Signature.{characters, params_of}
use Rattle.py_rows.specs.Sound.{AreNames}
use Rattle.py_rows.specs.Questions.{raise_of}
use Rattle.py_tree.specs.Tree.{Name}
use Rattle.py_laid.specs.Fits.{Continues}
use Rattle.py_laid.specs.Naming.{IsNameFor, NamesAll}
use Rattle.py_laid.proofs.NamingLemmas.{IsNameOf-grown, NamesAll-below, NamesAll-grown}
use Rattle.py_grammar.specs.declared.raw_block.RawBlock.{RawBlock}
use Rattle.py_grammar.specs.declared.raw_block.RawCounts.{RawCounts}
use Rattle.py_grammar.specs.declared.raw_block.RawUnit.{RawUnit}
use Rattle.py_grammar.specs.RawRules.{may_run}
use Rattle.py_grammar.specs.WellFormed.{IsWellCoded, NoneNamed}
use Rattle.py_raw.specs.RawSheet.{counts_by, counts_of, locals_of, unit_of}
use Rattle.py_raw.specs.Assembled.{IsAssembled, script_path}
use Rattle.py_raw.proofs.ListLemmas.{from_map}
use Rattle.py_raw.proofs.RunningLemmas.{raise_has_none, raw_runs, unit_runs}

-- ---- its counts

pub assembled_arity : (table : List (List ℕ)) (earlier : List Name) (a : Annotated) (b : RawBlock) → IsAssembled table earlier a b
    → a.code.code.arg_count ≡ (counts_of b).args
assembled_arity table earlier a b is = ap (λ (s : Sheet). s.arg_count) is.sheet

pub assembled_frees : (table : List (List ℕ)) (earlier : List Name) (a : Annotated) (b : RawBlock) → IsAssembled table earlier a b
    → length a.code.code.freevars.items ≡ length b.frees
assembled_frees table earlier a b is = ap (λ (s : Sheet). s.freevars) is.sheet

-- no cell takes over a parameter
pub assembled_cells : (table : List (List ℕ)) (earlier : List Name) (a : Annotated) (b : RawBlock) → IsAssembled table earlier a b
    → a.code.code.cell2arg.items ≡ []
assembled_cells table earlier a b is = ap (λ (s : Sheet). s.cell2arg) is.sheet

none_named : (n : ℕ) (counts : Option RawCounts) → NoneNamed counts → (counts_by n counts).named ≡ 0
none_named n None none = refl
none_named n (Some counts) none = none

-- no parameter takes named arguments alone
pub assembled_named_only : (table : List (List ℕ)) (earlier : List Name) (a : Annotated) (b : RawBlock) → IsAssembled table earlier a b
    → IsWellCoded earlier b → a.code.code.kwonlyarg_count ≡ 0
assembled_named_only table earlier a b is coded = ap (λ (s : Sheet). s.kwonlyarg_count) is.sheet ∙ none_named (length b.params) b.counts coded.counts

-- ---- its units

pub assembled_runs : (table : List (List ℕ)) (shapes : List ℕ) (earlier : List Name) (a : Annotated) (b : RawBlock) → IsAssembled table earlier a b
    → IsWellCoded earlier b → IsTyped shapes (sheet_of a) → AllRun (sheet_of a)
assembled_runs table shapes earlier a b is coded typed =
    subst AllRun (sym is.sheet) (raw_runs shapes earlier b is.literals is.are_literals coded (subst (IsTyped shapes) is.sheet typed))

-- no raise has a cause
pub assembled_raises : (table : List (List ℕ)) (earlier : List Name) (a : Annotated) (b : RawBlock) → IsAssembled table earlier a b
    → IsWellCoded earlier b → (at : ℕ) (u : CodeUnit) → slice_get a.code.code.instructions.items at ≡ Some u → u.op ≡ Raise → raise_of u.arg ≢ Some RaiseCause
assembled_raises table earlier a b is coded at u there raises =
    let units : a.code.code.instructions.items ≡ map unit_of b.units = ap (λ (s : Sheet). s.units) is.sheet in
    let (r, here, same) = from_map unit_of b.units at u (ap (λ (us : List CodeUnit). slice_get us at) (sym units) ∙ there) in
    raised r same (unit_runs b.units coded.run at r here)
  where
    raised : (r : RawUnit) → unit_of r ≡ u → may_run r.op (with_byte (carried (map unit_of b.units) at) r.arg) ≡ true → raise_of u.arg ≢ Some RaiseCause
    raised r same may =
        let op : r.op ≡ Raise = ap (λ (v : CodeUnit). v.op) same ∙ raises in
        subst (λ (v : CodeUnit). raise_of v.arg ≢ Some RaiseCause) same (raise_has_none r.op _ r.arg op may)

-- ---- its names

pub assembled_named : (table : List (List ℕ)) (earlier : List Name) (a : Annotated) (b : RawBlock) → IsAssembled table earlier a b → AreNames table a.code
assembled_named table earlier a b is = record {
  locals = λ i id there. NamesAll-below table a.code.code.varnames.items (locals_of b) i id is.varnames there;
  globals = λ i id there. NamesAll-below table a.code.code.names.items b.names i id is.names there;
}

-- the characters of the first names
first_names : (table : List (List ℕ)) (ids : List NameId) (xs : List Name) (n : ℕ) → NamesAll table ids xs
    → map (λ id. characters (name_in table (Some id))) (take n ids) ≡ take n xs
first_names table [] [] zero named = refl
first_names table [] [] (suc n) named = refl
first_names table [] (x ∷ xs) n named = absurd named
first_names table (id ∷ ids) [] n named = absurd named
first_names table (id ∷ ids) (x ∷ xs) zero named = refl
first_names table (id ∷ ids) (x ∷ xs) (suc n) (((low, is), spells), rest) =
    let one : characters (name_in table (Some id)) ≡ x = ap (λ (o : Option (List ℕ)). characters (option_map chars o)) is ∙ spells in
    let others = first_names table ids xs n rest in
    λ k. one k ∷ others k

pub assembled_params : (table : List (List ℕ)) (earlier : List Name) (a : Annotated) (b : RawBlock) → IsAssembled table earlier a b
    → params_of table a.code ≡ take (counts_of b).args (locals_of b)
assembled_params table earlier a b is =
    ap (λ (n : ℕ). map (λ id. characters (name_in table (Some id))) (take n a.code.code.varnames.items)) (assembled_arity table earlier a b is)
    ∙ first_names table a.code.code.varnames.items (locals_of b) (counts_of b).args is.varnames

IsNameFor-grown : (old new : List (List ℕ)) (id : NameId) (x : Name) → Continues old new → IsNameFor old id x → IsNameFor new id x
IsNameFor-grown old new id x grows (named, spells) = (IsNameOf-grown old new id _ grows named, spells)

pub assembled_continues : (table longer : List (List ℕ)) (earlier : List Name) (a : Annotated) (b : RawBlock) → Continues table longer
    → IsAssembled table earlier a b → IsAssembled longer earlier a b
assembled_continues table longer earlier a b grows is = record {
  literals = is.literals;
  are_literals = is.are_literals;
  sheet = is.sheet;
  locations = is.locations;
  first_line_number = is.first_line_number;
  source_path = IsNameOf-grown table longer a.code.code.source_path script_path grows is.source_path;
  obj_name = IsNameFor-grown table longer a.code.code.obj_name b.name grows is.obj_name;
  names = NamesAll-grown table longer a.code.code.names.items b.names grows is.names;
  varnames = NamesAll-grown table longer a.code.code.varnames.items (locals_of b) grows is.varnames;
  cellvars = NamesAll-grown table longer a.code.code.cellvars.items b.cells grows is.cellvars;
  freevars = NamesAll-grown table longer a.code.code.freevars.items b.frees grows is.freevars;
}
