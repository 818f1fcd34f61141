-- What holds of all scripts: their raw codes keep the rules, or exactly one is the first that breaks one.
use Rattle.std.specs.Prelude.{◌≡◌, ◌≤◌, ◌^◌, ◌⊎◌, ℕ, List, length}
use Rattle.py_grammar.specs.declared.script.Script.{Script}
use Rattle.py_grammar.specs.Grammar.{Decl}
use Rattle.py_grammar.specs.Script.{decls_of, IsScript}
use Rattle.py_meaning.specs.Entries.{AreWellDeclared}
use Rattle.py_script.specs.Broken.{AllKeepRules, IsFirstBroken}

-- in declarations that are well formed, all raw codes keep the rules, or one is the first that breaks one
abbrev pub SomeIsBroken : Type 0
SomeIsBroken = (decls : List Decl) → AreWellDeclared decls → AllKeepRules decls ⊎ ((code : ℕ) × (at : ℕ) × IsFirstBroken decls code at)

-- so it is in each script of at most 2^20 bytes
abbrev pub ScriptsKeepOrBreak : Type 0
ScriptsKeepOrBreak =
    (bytes : List ℕ) (s : Script) → length bytes ≤ 2 ^ 20 → IsScript bytes s
    → AllKeepRules (decls_of s) ⊎ ((code : ℕ) × (at : ℕ) × IsFirstBroken (decls_of s) code at)

-- never both
abbrev pub NeverBoth : Type 0
NeverBoth = (decls : List Decl) (code at : ℕ) → AllKeepRules decls → IsFirstBroken decls code at → ⊥

-- and never two
abbrev pub OneIsBroken : Type 0
OneIsBroken = (decls : List Decl) (m n a b : ℕ) → IsFirstBroken decls m a → IsFirstBroken decls n b → (m ≡ n) × (a ≡ b)
