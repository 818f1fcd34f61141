-- What the rules ask, said of stacks and units as the checker has them.
use Rattle.std.specs.Prelude.{◌≡◌, ℕ, ◌+◌, ◌-◌, List, ◌∷◌, ◌++◌, Bool, false, ◌&&◌, Option, Some, length, drop, nat_le, nat_lt, replicate, slice_get}
use Rattle.std.specs.List.{list_all}
use Rattle.std.specs.Borrow.{Bor}
use Rattle.std.specs.Option.{option_map_or}
use Rattle.py_code.specs.declared.unit.CodeUnit.{CodeUnit}
use Rattle.py_code.specs.declared.instruction.Instruction.{Instruction}
use Rattle.py_check.specs.declared.note.Kind.{Kind}
use Rattle.py_check.specs.declared.note.Kind.TheVariants as kind
use Rattle.py_check.specs.declared.note.BlockNote.{BlockNote}
use Rattle.py_check.specs.declared.note.Pending.{Pending}
use Rattle.py_check.specs.declared.kinds.KindRun.{KindRun}
use Rattle.py_check.specs.declared.opened.Opened.{Opened}
use Rattle.py_check.specs.declared.opened.Opened.TheVariants as opened
use Rattle.py_check.specs.declared.landing.Stack.{Stack}
use Rattle.py_check.specs.declared.site.Site.{Site}
use Rattle.py_check.specs.Sheet.{Sheet, sheet_of}
use Rattle.py_check.specs.Notes.{kinds_fit}
use Rattle.py_check.specs.Operands.{operand}
use Rattle.py_check.specs.Opened.{inside}
use Rattle.py_check.specs.Taking.{moved_kinds, reads, takes, takes_named}
use Rattle.py_code.specs.declared.flags.MakeFunctionFlags.{MakeFunctionFlags}
use Rattle.py_check.specs.Making.{part_if}
use Rattle.py_check.specs.Landing.{goes_on, lands, top_level}
use Rattle.py_check.specs.Leaving.{walks}
use Rattle.py_check.specs.Typing.{delegates, keeps_own, keeps_op}

-- the kinds of the entries that a unit leaves, the top first
abbrev pub kinds_on : Stack → List Kind
kinds_on stack = stack.front.now ++ stack.rest.now

-- the blocks that are open there, with the one that the unit opens inside of the others
abbrev pub blocks_on : Stack → List BlockNote
blocks_on stack = inside stack.opened stack.blocks.now

-- what is left where entries are taken, and nothing where they aren't there
abbrev pub IsBelow : ((List Kind → Bool) → Bool) → Option (Bor (List Kind)) → Type 0
IsBelow takes result = (rest : List Kind → Bool) → takes rest ≡ option_map_or (λ ks. rest ks.now) result false

-- what is left of kinds after those that a run stands for, and nothing where these don't fit it
abbrev pub IsBehindRun : List Kind → KindRun → Option (Bor (List Kind) × Bor (List Kind)) → Type 0
IsBehindRun kinds run result =
    (more : List Kind) → kinds_fit kinds (replicate run.count run.kind ++ more) ≡ option_map_or (λ p. kinds_fit (p.0.now ++ p.1.now) more) result false

-- what is left below one part of a new function, where the flags say that it is there
abbrev pub IsBelowPart : ℕ → MakeFunctionFlags → Kind → List Kind → Option (Bor (List Kind)) → Type 0
IsBelowPart flags flag wanted kinds result =
    (more : List Kind) (blocks : List BlockNote) (rest : List Kind → Bool)
    → takes (part_if flags flag wanted more) kinds blocks rest ≡ option_map_or (λ ks. takes more ks.now blocks rest) result false

-- what the rules read of the code of a unit
abbrev pub sheet_at : Site → Sheet
sheet_at site = sheet_of site.code.now

-- a rule on leaving blocks is kept at a unit, with the place after it and what is on the stack before it
abbrev pub at_site : (Sheet → ℕ → List Kind → List BlockNote → Bool) → Site → Bool
at_site rule site = rule (sheet_at site) (site.at + 1) site.kinds.now site.blocks.now

-- a break or a continue there finds its loop, or a finally whose handler lets it wait
abbrev pub walks_at : Site → Pending → Bool
walks_at site p = walks (sheet_at site) p site.kinds.now site.blocks.now

-- a value for a delegate lies there, and control may come back and go on
abbrev pub delegates_at : Site → Bool
delegates_at site = delegates (sheet_at site) site.at site.kinds.now site.blocks.now

-- control may go on after a unit with these kinds
abbrev pub goes : Site → List Kind → Bool
goes site ks = goes_on (sheet_at site) (site.at + 1) ks site.blocks.now

-- the same of one that opens a block
abbrev pub opens : Site → Opened → List Kind → Bool
opens site opened ks = goes_on (sheet_at site) (site.at + 1) ks (inside opened site.blocks.now)

-- control may come from it to a place with these kinds
abbrev pub comes : Site → ℕ → List Kind → Bool
comes site to ks = lands (sheet_at site) to ks site.blocks.now

-- operands of these kinds lie before it
abbrev pub takes_at : Site → List Kind → (List Kind → Bool) → Bool
takes_at site wanted rest = takes wanted site.kinds.now site.blocks.now rest

-- so many operands of any kind lie before it
abbrev pub takes_some : Site → ℕ → (List Kind → Bool) → Bool
takes_some site n rest = takes_at site (replicate n kind.Any) rest

-- so many entries of a kind go, and these come in their place
abbrev pub gives : Site → ℕ → Kind → List Kind → Bool
gives site n of pushed = takes_at site (replicate n of) (λ rest. goes site (pushed ++ rest))

-- so many entries are put into a container, which is of this kind and lies so far below them
abbrev pub puts_in : Site → (n place : ℕ) → Kind → Bool
puts_in site n place of = takes_some site n (λ rest. reads place of rest && goes site rest)

-- names of at most n arguments are taken, and so many entries below them, and the answer is pushed
abbrev pub calls_named : Site → (n below : ℕ) → Bool
calls_named site n below = takes_named n below site.kinds.now site.blocks.now (λ rest. goes site (kind.Any ∷ rest))

-- a manager is taken, and a finally with this handler begins, with so many of these entries under its level
abbrev pub enters : Site → (handler : ℕ) → List Kind → (under : ℕ) → Bool
enters site handler pushed under = takes_some site 1 (λ rest. opens site (opened.Finally (under + length rest) handler) (pushed ++ rest))

-- what its instruction asks, with this operand, if it isn't in the table of effects
abbrev pub keeps_own_at : Site → List ℕ → Instruction → ℕ → Bool
keeps_own_at site shapes op i = keeps_own shapes (sheet_at site) site.at op i site.kinds.now site.blocks.now

-- what its instruction asks, with this operand, whether or not it is in the table
abbrev pub keeps_op_at : Site → List ℕ → Instruction → ℕ → Bool
keeps_op_at site shapes op i = keeps_op shapes (sheet_at site) site.at op i site.kinds.now site.blocks.now

-- so many entries go, and these come in their place
abbrev pub exchanges : Site → ℕ → List Kind → Bool
exchanges site n pushed = takes_some site n (λ rest. goes site (pushed ++ rest))

-- entries that are moved, where so many are there, leave what control goes on with
abbrev pub moves : Site → ℕ → List ℕ → Bool
moves site n places =
    (nat_le (top_level site.blocks.now) (length site.kinds.now - n) && list_all (λ p. nat_lt p (length site.kinds.now)) places)
    && goes site (moved_kinds n places site.kinds.now ++ drop n site.kinds.now)

-- the operand of the unit at a place
abbrev pub IsOperand : List CodeUnit → ℕ → ℕ → Type 0
IsOperand units at arg = (u : CodeUnit) → slice_get units at ≡ Some u → arg ≡ operand units at u
