-- What is handled in blocks, and what is asked, is among the first n objects where the blocks and the operands are.
use Rattle.std.proofs.Common.{◌≡◌, ◌<◌, ℕ, zero, suc, List, [], ◌∷◌, Option, None, Some, subst}
use Rattle.std.specs.Prelude.{slice_get, slice_set, option_map}
use Rattle.py_code.specs.declared.instruction.Instruction.{Instruction}
use Rattle.py_objects.specs.declared.refs.PyBaseExceptionRef.{PyBaseExceptionRef}
use Rattle.py_objects.specs.declared.request.Request.{Request}
use Rattle.py_objects.specs.declared.request.Request.TheVariants as request
use Rattle.py_objects.specs.Objects.{Obj, Name, AllBelow, numbers, number_if, request_numbers}
use Rattle.py_check.specs.declared.note.Kind.{Kind}
use Rattle.py_check.specs.Effects.{Effect, Moves, AsksOnce, Takes, Other}
use Rattle.py_rows.specs.Table.{row_effect}
use Rattle.py_check.specs.Sheet.{Sheet, sheet_of}
use Rattle.py_rows.specs.declared.block.Block.{Block}
use Rattle.py_rows.specs.declared.block.BlockType.{BlockType}
use Rattle.py_rows.specs.declared.block.BlockType.TheVariants.{Loop, TryExcept, Finally, FinallyHandler, ExceptHandler}
use Rattle.py_rows.specs.declared.block.UnwindReason.{UnwindReason}
use Rattle.py_rows.specs.declared.block.UnwindReason.TheVariants as reason
use Rattle.py_rows.specs.States.{Setting}
use Rattle.py_rows.specs.Handled.{entered_by, entered_if, handled_by, handled_in}
use Rattle.py_rows.specs.Asked.{asked}
use Rattle.py_rows.specs.Rows.{raised_by, raised_of, raised_in}
use Rattle.py_rows.specs.RunOfRows.{filled}
use Rattle.py_rows.specs.Below.{ReasonBelow, IfBelow, TypeBelow, BlocksBelow}
use Rattle.py_rows.proofs.AskingLemmas.{Asks, AsksAny, asked_as, is_ready}

-- a place of a list after one was set
pub set_there : (n : ℕ) (xs : List (Option Obj)) (i j : ℕ) (x : Option Obj) (w : Obj) → ((v : Obj) → x ≡ Some v → v.number < n) → ((k : ℕ) (u : Obj) → slice_get xs k ≡ Some (Some u) → u.number < n)
    → slice_get (slice_set xs i x) j ≡ Some (Some w) → w.number < n
set_there n [] i j x w new old here = old j w here
set_there n (y ∷ ys) zero zero x w new old here = let same : x ≡ Some w = cc in new w same
set_there n (y ∷ ys) zero (suc j) x w new old here = old (suc j) w here
set_there n (y ∷ ys) (suc i) zero x w new old here = old zero w here
set_there n (y ∷ ys) (suc i) (suc j) x w new old here = set_there n ys i j x w new (λ k u. old (suc k) u) here

-- what is handled in blocks
reason_handled : (n : ℕ) (r : Option UnwindReason) (outer : Option PyBaseExceptionRef) → IfBelow n r → AllBelow n (number_if outer) → AllBelow n (number_if (entered_if r outer))
reason_handled n None outer low below = below
reason_handled n (Some (reason.Raising e)) outer low below = (low, tt)
reason_handled n (Some (reason.Returning v)) outer low below = below
reason_handled n (Some (reason.Break to)) outer low below = below
reason_handled n (Some (reason.Continue to)) outer low below = below

type_handled : (n : ℕ) (typ : BlockType) (outer : Option PyBaseExceptionRef) → TypeBelow n typ → AllBelow n (number_if outer) → AllBelow n (number_if (handled_by typ outer))
type_handled n Loop outer low below = below
type_handled n (TryExcept handler) outer low below = below
type_handled n (Finally handler) outer low below = below
type_handled n (FinallyHandler r kept) outer low below = reason_handled n r outer low.0 below
type_handled n (ExceptHandler e kept) outer low below = (low.0, tt)

pub handled_below : (n : ℕ) (bs : List Block) → BlocksBelow n bs → AllBelow n (number_if (handled_in None bs))
handled_below n [] below = tt
handled_below n (b ∷ bs) below = type_handled n b.typ (handled_in None bs) below.0 (handled_below n bs below.1)

-- what is handled in a finally that is entered
pub entered_below : (n : ℕ) (r : UnwindReason) (slot : Option PyBaseExceptionRef) → ReasonBelow n r → AllBelow n (number_if slot) → AllBelow n (number_if (entered_by r slot))
entered_below n r slot low below = reason_handled n (Some r) slot low below

-- what an instruction asks of operands, if anything
abbrev pub RequestBelow : ℕ → Option Request → Type 0
RequestBelow n None = Unit {0}
RequestBelow n (Some r) = AllBelow n (request_numbers r)

pub mapped_unbound : (n : ℕ) (name : Option Name) → RequestBelow n (option_map (λ x. request.Unbound x) name)
mapped_unbound n None = tt
mapped_unbound n (Some x) = tt

-- the same of what the table of effects asks
abbrev pub AsksBelow : ℕ → Effect → (List Obj → Option Request) → Type 0
AsksBelow n (Moves k places) f = Unit {0}
AsksBelow n (AsksOnce wanted pushes) f = (vs : List Obj) → AllBelow n (numbers vs) → RequestBelow n (f vs)
AsksBelow n (Takes k pushes) f = Unit {0}
AsksBelow n Other f = Unit {0}

pub asked_below : (n : ℕ) (setting : Setting) (op : Instruction) (i : ℕ) → setting.globals.number < n → AsksBelow n (row_effect op i) (asked setting op i)
asked_below n setting op i there = by_effect (row_effect op i) (asked setting op i) (asked_as (Unit {0}) setting sheet (λ j none gap. tt) op i)
  where
    sheet : Sheet
    sheet = sheet_of (record { code = setting.code; notes = [] })

    below : (pushes : Option Kind) (vs : List Obj) (r : Option Request) → AllBelow n (numbers vs) → Asks (Unit {0}) setting sheet (λ j none gap. tt) op pushes vs r → RequestBelow n r
    below pushes vs None low asks = tt
    below pushes vs (Some r) low asks = asks.1 n there low

    by_effect : (e : Effect) (f : List Obj → Option Request) → AsksAny (Unit {0}) setting sheet (λ j none gap. tt) op (is_ready sheet op i) e f → AsksBelow n e f
    by_effect (Moves k places) f asks = tt
    by_effect (AsksOnce wanted pushes) f asks = λ vs low. below pushes vs (f vs) low (asks vs (λ m. tt))
    by_effect (Takes k pushes) f asks = tt
    by_effect Other f asks = tt

-- what a finally was entered by
raised_by_below : (n : ℕ) (r : Option UnwindReason) → IfBelow n r → AllBelow n (number_if (raised_by r))
raised_by_below n None low = tt
raised_by_below n (Some (reason.Raising e)) low = (low, tt)
raised_by_below n (Some (reason.Returning v)) low = tt
raised_by_below n (Some (reason.Break to)) low = tt
raised_by_below n (Some (reason.Continue to)) low = tt

raised_of_below : (n : ℕ) (typ : BlockType) → TypeBelow n typ → AllBelow n (number_if (raised_of typ))
raised_of_below n (FinallyHandler r kept) low = raised_by_below n r low.0
raised_of_below n _ low = tt

pub raised_below : (n : ℕ) (ds : List Block) → BlocksBelow n ds → AllBelow n (number_if (raised_in ds))
raised_below n [] below = tt
raised_below n (d ∷ ds) below = raised_of_below n d.typ below.0

-- the arguments as locals
pub filled_below : (n m : ℕ) (vs : List Obj) → AllBelow n (numbers vs) → (i : ℕ) (v : Obj) → slice_get (filled m vs) i ≡ Some (Some v) → v.number < n
filled_below n zero vs below i v here = cc
filled_below n (suc m) [] below zero v here = cc
filled_below n (suc m) [] below (suc i) v here = filled_below n m [] below i v here
filled_below n (suc m) (w ∷ vs) below zero v here = let same : w ≡ v = cc in subst (λ (u : Obj). u.number < n) same below.0
filled_below n (suc m) (w ∷ vs) below (suc i) v here = filled_below n m vs below.1 i v here
