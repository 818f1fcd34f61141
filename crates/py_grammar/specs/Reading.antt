-- The program's reader and answers as the definitions see them.
use Rattle.std.specs.Prelude.{◌≡◌, ◌⊎◌, ℕ, Bool, List, [], ◌∷◌, ◌++◌, Option, Some, None, option_map, IsOk}
use Rattle.std.specs.declared.result.Result.{Result}
use Rattle.std.specs.declared.result.Result.TheVariants.{Ok, Err}
use Rattle.py_tree.specs.declared.stmt.ClauseList.{ClauseList}
use Rattle.py_tree.specs.declared.stmt.StmtList.{StmtList}
use Rattle.py_tree.specs.declared.stmt.StmtForm.{StmtForm}
use Rattle.py_tree.specs.Tree.{Name}
use Rattle.py_tree.specs.Suites.{with_clause}
use Rattle.py_tree.specs.ExprViews.{expr_of}
use Rattle.py_tree.specs.Views.{clauses_of, form_of, suite_of}
use Rattle.py_lines.specs.declared.head.Turn.{Turn}
use Rattle.py_lines.specs.declared.header.Header.{Header}
use Rattle.py_lines.specs.declared.header.Header.TheVariants.{Def}
use Rattle.py_lines.specs.declared.raw.RawLine.{RawLine}
use Rattle.py_lines.specs.Line.{Line, LineRead}
use Rattle.py_lines.specs.Reading.{IsReadAs}
use Rattle.py_grammar.specs.declared.fault.ParseFault.{ParseFault}
use Rattle.py_grammar.specs.declared.fault.ParseFault.TheVariants.{Malformed, NoMemory}
use Rattle.py_grammar.specs.declared.open_body.BlockHead.{BlockHead}
use Rattle.py_grammar.specs.declared.open_body.BlockHead.TheVariants as block
use Rattle.py_grammar.specs.declared.open_body.ClauseHead.{ClauseHead}
use Rattle.py_grammar.specs.declared.open_body.FunctionHeader.{FunctionHeader}
use Rattle.py_grammar.specs.declared.open_body.OpenBlock.{OpenBlock}
use Rattle.py_grammar.specs.declared.open_body.OpenBody.{OpenBody}
use Rattle.py_grammar.specs.declared.open_body.Ended.{Ended}
use Rattle.py_grammar.specs.declared.open_body.Ended.TheVariants as ended
use Rattle.py_grammar.specs.declared.raw_block.RawUnit.{RawUnit}
use Rattle.py_grammar.specs.declared.open_item.OpenItem.{OpenItem}
use Rattle.py_grammar.specs.declared.open_item.OpenItem.TheVariants as item
use Rattle.py_grammar.specs.declared.reader.Reader.{Reader}
use Rattle.py_grammar.specs.declared.script.Script.{Script}
use Rattle.py_grammar.specs.Grammar.{Decl, FunctionDecl, RawDecl}
use Rattle.py_grammar.specs.RawText.{RawText, raw_of}
use Rattle.py_grammar.specs.Script.{decls_of, IsBadLine, IsScript, Text}
use Rattle.py_grammar.specs.Reader.{Began, in_if, in_else, in_while, in_try, in_except, in_finally, in_with, Block, Open, Closing, whole_body, one_block, closed, ended as ended_as, except_behind, turned_by, function_of, with_said, with_unit, code_line, Unclosed, open_body, open_code, State, state, accept, goes_on, headed, only_if, takes_line, Good, Bad, WalksTo, start}

-- how an open block began
abbrev pub began_of : BlockHead → Began
began_of (block.If e) = in_if (expr_of e)
began_of (block.Else e s) = in_else (expr_of e) (suite_of s)
began_of (block.While e) = in_while (expr_of e)
began_of block.Try = in_try
began_of (block.Except s cs h) = in_except (suite_of s) (clauses_of cs) h.line h.class h.target
began_of (block.Finally s) = in_finally (suite_of s)
began_of (block.With e x) = in_with (expr_of e) x

-- an open block, and the body that is open
abbrev pub block_of : OpenBlock → Block
block_of b = record { before = suite_of b.before; line = b.line; began = began_of b.head }

-- blocks from the outermost in, turned around in front of others
abbrev pub onto : List Block → List OpenBlock → List Block
onto around [] = around
onto around (b ∷ bs) = onto (block_of b ∷ around) bs

-- the same from the innermost out
abbrev pub stack_of : List OpenBlock → List Block
stack_of bs = onto [] bs

abbrev pub open_of : OpenBody → Open
open_of o = record { line = o.line; kind = o.kind; name = o.name; params = o.params; blocks = stack_of o.blocks.items; done = suite_of o.done }

-- what an end closed, behind which the body is this
abbrev pub closing_of : Ended → OpenBody → Option Closing
closing_of ended.Body o = Some (whole_body (function_of (open_of o)))
closing_of ended.Block o = Some (one_block (open_of o))
closing_of ended.Nothing o = None

-- what is open
abbrev pub unclosed_of : OpenItem → Unclosed
unclosed_of (item.Body o) = open_body (open_of o)
unclosed_of (item.Raw t) = open_code t

-- what was read so far
abbrev pub state_of : Reader → State
state_of r = state (decls_of r.whole) r.whole.drives (option_map unclosed_of r.inside)

-- all clauses: those before, and one that began so and has this suite
abbrev pub AddsClause : ClauseList → ClauseHead → StmtList → ClauseList → Type 0
AddsClause clauses last suite all = clauses_of all ≡ with_clause (clauses_of clauses) last.line last.class last.target (suite_of suite)

-- how a block goes on after its last suite by an `except` that begins so, and by any turn, if it may
abbrev pub TurnsToExcept : BlockHead → ClauseHead → StmtList → Option BlockHead → Type 0
TurnsToExcept head next suite turned = option_map began_of turned ≡ except_behind next.line next.class next.target (began_of head) (suite_of suite)

abbrev pub TurnsAs : BlockHead → ℕ → Turn → StmtList → Option BlockHead → Type 0
TurnsAs head n turn suite turned = option_map began_of turned ≡ turned_by n turn (began_of head) (suite_of suite)

-- the statement that a block is at its end with its last suite, if it may end
abbrev pub EndsAs : BlockHead → StmtList → Option StmtForm → Type 0
EndsAs head suite form = option_map form_of form ≡ ended_as (began_of head) (suite_of suite)

-- what an end closes in an open body
abbrev pub Closes : (old new : OpenBody) → Ended → Type 0
Closes old new end = closing_of end new ≡ closed (open_of old) (open_of old).blocks

-- the header of a function as a line says it
abbrev pub header_of : FunctionHeader → Header
header_of f = Def f.kind f.name f.params

-- an open body goes on with this line, or it may not stand there
abbrev pub GoesOn : (old new : OpenBody) → ℕ → Line → (taken : Bool) → Type 0
GoesOn old new n l taken = only_if taken (open_of new) ≡ goes_on (open_of old) n l

-- an open raw code behind functions of these names took this header line, this unit, or any line, or refused it
abbrev pub AddsHead : List Name → (old new : RawText) → RawLine → (taken : Bool) → Type 0
AddsHead fs old new l taken = only_if taken new ≡ with_said fs old l

abbrev pub AddsUnit : (old new : RawText) → RawUnit → (taken : Bool) → Type 0
AddsUnit old new u taken = only_if taken new ≡ with_unit old u

abbrev pub CodeGoesOn : List Name → (old new : RawText) → ℕ → RawLine → (taken : Bool) → Type 0
CodeGoesOn fs old new n l taken = only_if taken new ≡ code_line fs old n l

-- a reader with nothing open took this header, or refused it
abbrev pub IsHeaded : (old new : Reader) → ℕ → Header → (taken : Bool) → Type 0
IsHeaded old new n h taken = only_if taken (state_of new) ≡ headed (decls_of old.whole) old.whole.drives n h

-- what an open item declares at its end
abbrev pub declared_by : OpenItem → Decl
declared_by (item.Body o) = FunctionDecl (function_of (open_of o))
declared_by (item.Raw t) = RawDecl (raw_of t)

-- the item that is open declares itself, where one is
abbrev pub IsDeclared : (old new : Reader) → (taken : Bool) → Type 0
IsDeclared old new taken =
    only_if taken (state_of new)
    ≡ option_map (λ i. state (decls_of old.whole ++ declared_by i ∷ []) old.whole.drives None) old.inside

-- a reader took this line, or refused it
abbrev pub IsTaken : (old new : Reader) → ℕ → Line → (taken : Bool) → Type 0
IsTaken old new n l taken = only_if taken (state_of new) ≡ accept (state_of old) n l

-- a reader took this line of bytes, as it reads, or refused it
abbrev pub TakesBytes : (old new : Reader) → ℕ → List ℕ → (taken : Bool) → Type 0
TakesBytes old new n bytes taken = (read : LineRead) × IsReadAs bytes read × (only_if taken (state_of new) ≡ takes_line (state_of old) n read)

-- from a state on, lines come to this answer, unless memory ran out
abbrev pub ComesToFault : State → ℕ → Text → ParseFault → Type 0
ComesToFault st n text (Malformed k) = WalksTo st n text (Bad k)
ComesToFault st n text NoMemory = Unit {0}

abbrev pub ComesTo : State → ℕ → Text → Result Script ParseFault → Type 0
ComesTo st n text (Ok s) = WalksTo st n text (Good (decls_of s) s.drives)
ComesTo st n text (Err e) = ComesToFault st n text e

-- so does a whole text
abbrev pub IsAnswerTo : Text → Result Script ParseFault → Type 0
IsAnswerTo text r = ComesTo start 1 text r

-- this is so, or memory ran out
abbrev pub OnlyMemoryHides : Result Script ParseFault → Type 0 → Type 0
OnlyMemoryHides result claim = (result ≡ Err NoMemory) ⊎ claim

-- memory is the only reason for which bytes that are a script are refused, or their bad line isn't named
abbrev pub TakesEachScript : List ℕ → Result Script ParseFault → Type 0
TakesEachScript bytes result = (script : Script) → IsScript bytes script → OnlyMemoryHides result (IsOk result)

abbrev pub NamesEachBadLine : List ℕ → Result Script ParseFault → Type 0
NamesEachBadLine bytes result = (k : ℕ) → IsBadLine bytes k → OnlyMemoryHides result (result ≡ Err (Malformed k))
