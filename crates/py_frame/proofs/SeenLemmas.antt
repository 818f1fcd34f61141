-- What a row looks at, as a manager or as a callee, is on the frame's stack.
use Rattle.std.proofs.Common.{◌<◌, ℕ, zero, suc, List, [], ◌∷◌, Bool, Some, reverse, take, drop}
use Rattle.std.specs.Prelude.{Option, None, slice_get}
use Rattle.py_code.specs.declared.literal.Literal.{Literal}
use Rattle.py_code.specs.declared.instruction.Instruction.{Instruction}
use Rattle.py_code.specs.declared.instruction.Instruction.TheVariants.{LoadConst, CallFunctionPositional, ReturnConst, SetupWith}
use Rattle.py_code.specs.declared.unit.CodeUnit.{CodeUnit}
use Rattle.py_code.specs.Literals.{literals_of}
use Rattle.py_code.specs.Units.{with_byte}
use Rattle.py_objects.specs.declared.request.Request.{Request}
use Rattle.py_objects.specs.declared.event.GotAnswer.TheVariants as got
use Rattle.py_objects.specs.Objects.{Obj, AllBelow, numbers}
use Rattle.py_check.specs.Effects.{Effect, Moves, AsksOnce, Takes, Other}
use Rattle.py_rows.specs.Table.{row_effect}
use Rattle.py_rows.specs.declared.expect.Expect.{Expect}
use Rattle.py_rows.specs.declared.expect.Expect.TheVariants as expect
use Rattle.py_rows.specs.States.{Setting, State, Step, Move, Manages, Resolves, begun, waiting, with_stack}
use Rattle.py_rows.specs.Asked.{asked}
use Rattle.py_rows.specs.Rows.{loads, reaches, calls, acts_by, act_own, unit_move}
use Rattle.py_rows.proofs.BelowLemmas.{reverse_below, take_below}
use Rattle.py_rows.specs.Receiving.{answered_by, answered_own, enters, enters_top, unit_answered, moves}

module _ (n : ℕ) where
  -- an object that a move looks at is among the first n
  abbrev pub SeenBelow : Move → Type 0
  SeenBelow (Manages m f) = m.number < n
  SeenBelow (Resolves v f) = v.number < n
  SeenBelow _ = Unit {0}

  loads_none : (l : Option Literal) (f : Obj → Step) → SeenBelow (loads l f)
  loads_none None f = tt
  loads_none (Some l) f = tt

  calls_there : (vs : List Obj) (there : Bool) (s : State) → AllBelow n (numbers vs) → SeenBelow (calls vs there s)
  calls_there [] there s low = tt
  calls_there (f ∷ args) there s low = low.0

  own_there : (setting : Setting) (op : Instruction) (i : ℕ) (s : State) → AllBelow n (numbers s.stack) → SeenBelow (act_own setting op i s)
  own_there setting LoadConst i s low = loads_none (slice_get (literals_of setting.code.code.constants) i) _
  own_there setting CallFunctionPositional k s low =
      calls_there (reverse (take (suc k) s.stack)) (reaches (suc k) s.stack) (with_stack (drop (suc k) s.stack) s) (reverse_below n (take (suc k) s.stack) (take_below n (suc k) s.stack low))
  own_there setting ReturnConst i s low = loads_none (slice_get (literals_of setting.code.code.constants) i) _
  own_there setting _ i s low = tt

  table_there : (e : Effect) (f : List Obj → Option Request) (own : Move) (s : State) → SeenBelow own → SeenBelow (acts_by e f own s)
  table_there (Moves k places) f own s there = tt
  table_there (AsksOnce wanted pushes) f own s there = tt
  table_there (Takes k pushes) f own s there = there
  table_there Other f own s there = there

  unit_there : (setting : Setting) (u : Option CodeUnit) (s : State) → AllBelow n (numbers s.stack) → SeenBelow (unit_move setting u s)
  unit_there setting None s low = tt
  unit_there setting (Some u) s low = table_there (row_effect u.op (with_byte s.prefix u.arg)) (asked setting u.op (with_byte s.prefix u.arg)) _ (begun s) (own_there setting u.op (with_byte s.prefix u.arg) (begun s) low)

  top_there : (stack : List Obj) (to : ℕ) (v : Obj) (s : State) → AllBelow n (numbers stack) → SeenBelow (enters_top stack to v s)
  top_there [] to v s low = tt
  top_there (m ∷ rest) to v s low = low.0

  enters_there : (phase to : ℕ) (v : Obj) (s : State) → AllBelow n (numbers s.stack) → SeenBelow (enters phase to v s)
  enters_there zero to v s low = top_there s.stack to v s low
  enters_there (suc phase) to v s low = tt

  answer_there : (op : Instruction) (i : ℕ) (v : Obj) (s : State) → AllBelow n (numbers s.stack) → SeenBelow (answered_own op i v s)
  answer_there SetupWith to v s low = enters_there s.phase to v s low
  answer_there _ to v s low = tt

  by_table : (e : Effect) (own : Move) (v : Obj) (s : State) → SeenBelow own → SeenBelow (answered_by e own v s)
  by_table (Moves k places) own v s there = tt
  by_table (AsksOnce wanted pushes) own v s there = tt
  by_table (Takes k pushes) own v s there = there
  by_table Other own v s there = there

  answered_there : (u : Option CodeUnit) (v : Obj) (s : State) → AllBelow n (numbers s.stack) → SeenBelow (unit_answered u v s)
  answered_there None v s low = tt
  answered_there (Some u) v s low = by_table (row_effect u.op (with_byte s.prefix u.arg)) _ v s (answer_there u.op (with_byte s.prefix u.arg) v s low)

  pub seen_there : (setting : Setting) (x : Expect) (s : State) → AllBelow n (numbers s.stack) → SeenBelow (moves setting x s)
  seen_there setting expect.Go s low = unit_there setting (slice_get setting.code.code.instructions.items s.at) s low
  seen_there setting (expect.Heard (got.Value v)) s low = answered_there (slice_get setting.code.code.instructions.items s.at) v (waiting expect.Go s) low
  seen_there setting _ s low = tt
