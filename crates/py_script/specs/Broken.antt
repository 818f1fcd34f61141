-- Which raw code of a script is the first that breaks a rule.
use Rattle.std.specs.Prelude.{◌≡◌, ◌<◌, ℕ, Some, List, slice_get}
use Rattle.py_check.specs.declared.fault.CheckFault.{CheckFault}
use Rattle.py_check.specs.declared.fault.CheckFault.TheVariants as check
use Rattle.py_grammar.specs.declared.raw_block.RawBlock.{RawBlock}
use Rattle.py_grammar.specs.declared.script.Script.{Script}
use Rattle.py_grammar.specs.Grammar.{Decl, ClassDecl, ManagerDecl, FunctionDecl, RawDecl, Coded, OfBody, OfRaw, codes_in}
use Rattle.py_grammar.specs.Script.{decls_of, IsScript}
use Rattle.py_raw.specs.declared.earlier.Earlier.{Earlier}
use Rattle.py_raw.specs.RawSheet.{BreaksRule, KeepsRules}
use Rattle.py_script.specs.declared.fault.LoadFault.{LoadFault}
use Rattle.py_script.specs.declared.fault.LoadFault.TheVariants as load
use Rattle.py_script.specs.Earlier.{earlier_before}

-- a code keeps the rules after these; what a body is compiled to does in any case
abbrev pub CodeKeepsRules : Earlier → Coded → Type 0
CodeKeepsRules earlier (OfBody t) = Unit {0}
CodeKeepsRules earlier (OfRaw b) = KeepsRules earlier b

-- each of the first codes keeps the rules
abbrev pub FirstKeepRules : List Coded → ℕ → Type 0
FirstKeepRules coded n = (i : ℕ) (k : Coded) → i < n → slice_get coded i ≡ Some k → CodeKeepsRules (earlier_before coded i) k

-- each raw code of these declarations does
abbrev pub AllKeepRules : List Decl → Type 0
AllKeepRules decls = (i : ℕ) (k : Coded) → slice_get (codes_in decls) i ≡ Some k → CodeKeepsRules (earlier_before (codes_in decls) i) k

-- the code of this number, from 0, is the first that breaks a rule, and this is its first unit that does
pub record IsFirstBroken (decls : List Decl) (code at : ℕ) : Type 0 where
  pub block : RawBlock
  pub is_there : slice_get (codes_in decls) code ≡ Some (OfRaw block)
  pub breaks : BreaksRule (earlier_before (codes_in decls) code) block at
  pub before : FirstKeepRules (codes_in decls) code

-- so it is in the script that bytes are
abbrev pub IsBrokenFrom : List ℕ → ℕ → ℕ → Type 0
IsBrokenFrom bytes code at = (s : Script) × IsScript bytes s × IsFirstBroken (decls_of s) code at

-- why there is no code: a rule is broken at this unit, or memory ran out
abbrev pub IsCodeFault : Earlier → Coded → CheckFault → Type 0
IsCodeFault earlier (OfBody t) (check.Breaks at) = ⊥
IsCodeFault earlier (OfRaw b) (check.Breaks at) = BreaksRule earlier b at
IsCodeFault earlier k check.NoMemory = Unit {0}

-- why there is none of a declaration
abbrev pub IsDeclFault : Earlier → Decl → CheckFault → Type 0
IsDeclFault earlier (ClassDecl c b) fault = ⊥
IsDeclFault earlier (ManagerDecl m e x) fault = ⊥
IsDeclFault earlier (FunctionDecl t) fault = IsCodeFault earlier (OfBody t) fault
IsDeclFault earlier (RawDecl b) fault = IsCodeFault earlier (OfRaw b) fault

-- why declarations aren't loaded: this code is the first that breaks a rule, or memory ran out
abbrev pub IsLoadFault : List Decl → LoadFault → Type 0
IsLoadFault decls (load.Refused code at) = IsFirstBroken decls code at
IsLoadFault decls load.NoMemory = Unit {0}
