-- How a script's declarations come into a machine.
use Rattle.std.specs.Prelude.{ℕ, Option, Some, None, List, [], ◌∷◌, ◌++◌, ◌≡◌, map, slice_get, length, take}
use Rattle.py_objects.specs.declared.payload.Payload.{Payload}
use Rattle.py_objects.specs.declared.payload.Payload.TheVariants as payload
use Rattle.py_objects.specs.declared.payload.ClassBody.{ClassBody}
use Rattle.py_objects.specs.Objects.{Obj, HasPayload}
use Rattle.py_objects.specs.Singletons.{none_object}
use Rattle.py_check.specs.declared.annotated.Annotated.{Annotated}
use Rattle.py_check.specs.Sheet.{sheet_of}
use Rattle.py_check.specs.Typing.{IsTyped}
use Rattle.py_check.specs.Running.{AllRun}
use Rattle.py_rows.specs.Sound.{AreNames}
use Rattle.py_grammar.specs.declared.script.Declaration.{Declaration}
use Rattle.py_grammar.specs.Grammar.{Decl, ClassDecl, ManagerDecl, FunctionDecl, RawDecl, Coded, codes_in}
use Rattle.py_grammar.specs.Script.{decl_of}
use Rattle.py_grammar.specs.WellFormed.{IsWellCoded}
use Rattle.py_raw.specs.declared.earlier.Earlier.{Earlier}
use Rattle.py_tree.specs.Compilable.{IsCompilable}
use Rattle.py_tree.specs.Tree.{Name}
use Rattle.py_vm.specs.Codes.{Checked, CodeIsAnswered, shapes_of, signature_in}
use Rattle.py_vm.specs.Machine.{Machine}
use Rattle.py_meaning.specs.Whole.{AreObjects, signature_of}
use Rattle.py_script.specs.Compiled.{IsCodeOf}
use Rattle.py_script.specs.Earlier.{free_names, earlier_before}

-- None is the first object
abbrev pub HasNone : List Payload → Type 0
HasNone objects = HasPayload objects none_object payload.None

-- the objects of these declarations came to a machine that has done nothing
pub record HasObjects (decls : List Decl) (old new : Machine) : Type 0 where
  pub none : HasNone new.objects
  pub are : AreObjects decls new.objects
  pub others : new ≡ record old { objects = new.objects }

-- a class, and after it those that its entry derives from
abbrev pub IsOrderFrom : List Payload → Obj → List Obj → Type 0
IsOrderFrom objects base order = (above : ClassBody) × HasPayload objects base (payload.Class above) × (order ≡ base ∷ above.mro)

-- ---- one code

-- a declaration whose code can be made after codes of these names: a function can be compiled, and a raw code has what can be run so far
abbrev pub IsCodable : List Name → Decl → Type 0
IsCodable earlier (ClassDecl c b) = Unit {0}
IsCodable earlier (ManagerDecl m e x) = Unit {0}
IsCodable earlier (FunctionDecl t) = IsCompilable t
IsCodable earlier (RawDecl b) = IsWellCoded earlier b

-- a code that the machine takes after codes of so many free names: it keeps the rules, each of its units runs so far, its names are in
-- the table, and the machine answers all that it may ask
pub record IsLoadable (names : List (List ℕ)) (shapes : List ℕ) (code : Annotated) : Type 0 where
  pub typed : IsTyped shapes (sheet_of code)
  pub runs : AllRun (sheet_of code)
  pub named : AreNames names code.code
  pub answered : CodeIsAnswered code.code

-- it is one of this, with its signature and its free names
pub record IsReadyCode (names : List (List ℕ)) (earlier : Earlier) (code : Annotated) (k : Coded) : Type 0 where
  pub is : IsCodeOf names earlier code k
  pub signed : signature_of k ≡ signature_in names code
  pub free : length code.code.code.freevars.items ≡ free_names k
  pub loadable : IsLoadable names earlier.shapes code

-- the code of a declaration, where it has one
abbrev pub IsCodeFor : List (List ℕ) → Earlier → Decl → Option Annotated → Type 0
IsCodeFor names earlier d None = codes_in (d ∷ []) ≡ []
IsCodeFor names earlier d (Some code) = (k : Coded) × (codes_in (d ∷ []) ≡ k ∷ []) × IsReadyCode names earlier code k

-- ---- all codes

-- there is a code for each of these, and the one at its place is one of it
pub record AreReady (coded : List Coded) (cs : Checked) : Type 0 where
  pub count : length cs.codes ≡ length coded
  pub fit : (i : ℕ) (k : Coded) → slice_get coded i ≡ Some k → (c : Annotated) × (slice_get cs.codes i ≡ Some c) × IsReadyCode cs.names (earlier_before coded i) c k

-- these are the codes of declarations, in order, with their names
abbrev pub AreCodesOf : List Declaration → List (List ℕ) → List Annotated → Type 0
AreCodesOf declarations names codes = AreReady (codes_in (map decl_of declarations)) (record { names = names; codes = codes })

-- the machine takes these codes one after another, after those that it has
abbrev pub AreLoadable : Checked → List Annotated → Type 0
AreLoadable cs codes = (i : ℕ) (c : Annotated) → slice_get codes i ≡ Some c → IsLoadable cs.names (shapes_of (cs.codes ++ take i codes)) c

-- there is a checked code for each of these, and the one at its place is one of it and has its signature
pub record AreChecked (coded : List Coded) (cs : Checked) : Type 0 where
  pub count : length cs.codes ≡ length coded
  pub fit : (i : ℕ) (k : Coded) → slice_get coded i ≡ Some k
      → (c : Annotated) × (slice_get cs.codes i ≡ Some c) × IsCodeOf cs.names (earlier_before coded i) c k × (signature_of k ≡ signature_in cs.names c)

-- with more codes
abbrev pub with_codes : Machine → List Annotated → Machine
with_codes m codes = record m { checked = record m.checked { codes = m.checked.codes ++ codes } }
