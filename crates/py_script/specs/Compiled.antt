-- The codes of a journal are those that the script declares, and its activations run them.
use Rattle.std.specs.Prelude.{ℕ, Some, List, ◌≡◌, slice_get, length}
use Rattle.py_objects.specs.Objects.{Obj}
use Rattle.py_code.specs.Codes.{Codes}
use Rattle.py_code.specs.declared.code.PyCode.{PyCode}
use Rattle.py_check.specs.declared.annotated.Annotated.{Annotated}
use Rattle.py_check.specs.declared.note.Note.{Note}
use Rattle.py_check.specs.Sheet.{sheet_of}
use Rattle.py_check.specs.Typing.{IsTyped}
use Rattle.py_laid.specs.Fits.{Fits}
use Rattle.py_grammar.specs.declared.script.Script.{Script}
use Rattle.py_grammar.specs.Grammar.{Decl, Coded, OfBody, OfRaw, codes_in}
use Rattle.py_grammar.specs.Script.{decls_of}
use Rattle.py_run.specs.declared.journal.Journal.{Journal}
use Rattle.py_run.specs.Coming.{EachTells}
use Rattle.py_run.specs.Links.{HasLinks}
use Rattle.py_vm.specs.RowsOf.{RowsOf, RowsUnder}
use Rattle.py_meaning.specs.Whole.{AreGlobals}
use Rattle.py_raw.specs.declared.earlier.Earlier.{Earlier}
use Rattle.py_raw.specs.Assembled.{IsAssembled}
use Rattle.py_script.specs.Earlier.{earlier_before}

-- with these names, and after these codes, a code with its notes is one of this: that of a body fits it; that of a raw code is the code
-- as it was written, and keeps the rules
abbrev pub IsCodeOf : List (List ℕ) → Earlier → Annotated → Coded → Type 0
IsCodeOf names earlier c (OfBody t) = Fits names c t
IsCodeOf names earlier c (OfRaw b) = IsAssembled names earlier.names c b × IsTyped earlier.shapes (sheet_of c)

-- one of these codes is, with some notes, the code of what has its place
abbrev pub IsPlacedCode : List Coded → Codes → ℕ → Coded → Type 0
IsPlacedCode coded cs i k =
    (c : PyCode) × (slice_get cs.codes i ≡ Some c)
    × ((notes : List Note) × IsCodeOf cs.names (earlier_before coded i) (record { code = c; notes = notes }) k)

-- there is a code for each of these, and the one at its place is one of it
pub record AreCompiled (coded : List Coded) (cs : Codes) : Type 0 where
  pub count : length cs.codes ≡ length coded
  pub fit : (i : ℕ) (k : Coded) → slice_get coded i ≡ Some k → IsPlacedCode coded cs i k

-- the journal's codes are those that are declared, in order, and each activation's own events, with their units, are a run of
-- the rows of its code; what such runs handle where an exception is thrown in becomes its context
pub record RunsCodesOf (decls : List Decl) (j : Journal) : Type 0 where
  pub compiled : AreCompiled (codes_in decls) j.codes
  pub globals : Obj
  pub are_globals : AreGlobals decls j.objects globals
  pub tells : EachTells (RowsOf j.codes globals j.objects) j.events
  pub links : HasLinks (λ throws. RowsUnder throws j.codes globals j.objects) j

-- those of a script
abbrev pub RunsItsCodes : Script → Journal → Type 0
RunsItsCodes s j = RunsCodesOf (decls_of s) j
