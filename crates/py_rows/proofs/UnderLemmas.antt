-- Runs under another test of what is handled where exceptions are thrown in.
use Rattle.std.proofs.Common.{◌≡◌, ◌∙◌, ℕ, List, [], ◌∷◌, ◌++◌, Option, None, Some, refl, ap, subst}
use Rattle.std.specs.Prelude.{slice_get}
use Rattle.py_code.specs.declared.instruction.Instruction.{Instruction}
use Rattle.py_code.specs.declared.instruction.Instruction.TheVariants.{LoadConst, LoadFast, StoreFast, DeleteFast, LoadGlobal, BinaryOperation, CompareOperation, TestOperation, PrintExpr, CallFunctionPositional, Jump, JumpIfTrue, JumpIfFalse, SetupLoop, SetupExcept, SetupFinally, EnterFinally, EndFinally, SetupWith, WithCleanupStart, WithCleanupFinish, PopBlock, PopException, Raise, Break, Continue, ReturnValue, ReturnConst, YieldValue, ExtendedArg}
use Rattle.py_code.specs.declared.unit.CodeUnit.{CodeUnit}
use Rattle.py_objects.specs.declared.refs.PyBaseExceptionRef.{PyBaseExceptionRef}
use Rattle.py_objects.specs.declared.payload.Payload.{Payload}
use Rattle.py_objects.specs.declared.request.Request.{Request}
use Rattle.py_objects.specs.declared.event.GotAnswer.TheVariants as got
use Rattle.py_objects.specs.declared.event.ResumeHow.TheVariants as how
use Rattle.py_objects.specs.Objects.{Obj}
use Rattle.py_objects.specs.Own.{Own, Makes, Resumes, Asks, Gets, Rounds, Yields, Ends}
use Rattle.py_objects.specs.Telling.{ThrowTest, under_any}
use Rattle.py_rows.specs.declared.expect.Expect.{Expect}
use Rattle.py_rows.specs.declared.expect.Expect.TheVariants as expect
use Rattle.py_rows.specs.States.{Setting, State, Goes, Tells, Move}
use Rattle.py_rows.specs.Handled.{handled_in}
use Rattle.py_rows.specs.Table.{row_effect}
use Rattle.py_rows.specs.Asked.{asked}
use Rattle.py_rows.specs.Rows.{acts_by, act_own, act, unit_move}
use Rattle.py_rows.specs.Receiving.{moves}
use Rattle.py_rows.specs.RunOfRows.{MayLead, Hears, IsUnder, Steps, silent, telling, hearing, Runs, none, on}
use Rattle.py_rows.specs.Laws.{LetsThrough}

-- the test that lets everything through does
pub any_is_under : (h : Option PyBaseExceptionRef) (x : Own) → IsUnder under_any h x
any_is_under h Makes = tt
any_is_under h (Resumes k how.Start) = tt
any_is_under h (Resumes k (how.Send v)) = tt
any_is_under h (Resumes k (how.Throw e)) = refl
any_is_under h (Asks at r own) = tt
any_is_under h (Gets k w) = tt
any_is_under h (Rounds at) = tt
any_is_under h (Yields at v) = tt
any_is_under h (Ends at e) = tt

-- what is let through in a whole is let through in its parts
lets_parts : (throws : ThrowTest) (xs ys : List Own) → LetsThrough throws (xs ++ ys) → LetsThrough throws xs × LetsThrough throws ys
lets_parts throws [] ys lets = (tt, lets)
lets_parts throws (x ∷ xs) ys lets = let more = lets_parts throws xs ys lets.1 in ((lets.0, more.0), more.1)

module _ (setting : Setting) (throws : ThrowTest) where
  -- the same under the other test
  abbrev other : Setting
  other = record setting { throws_under = throws }

  -- ---- what units do, which no test changes

  same_asked : (op : Instruction) (i : ℕ) → asked setting op i ≡ asked other op i
  same_asked LoadGlobal i = refl
  same_asked BinaryOperation i = refl
  same_asked CompareOperation i = refl
  same_asked TestOperation i = refl
  same_asked PrintExpr i = refl
  same_asked _ i = refl

  same_own : (op : Instruction) (i : ℕ) (s : State) → act_own setting op i s ≡ act_own other op i s
  same_own LoadConst i s = refl
  same_own LoadFast i s = refl
  same_own StoreFast i s = refl
  same_own DeleteFast i s = refl
  same_own CallFunctionPositional i s = refl
  same_own Jump i s = refl
  same_own JumpIfTrue i s = refl
  same_own JumpIfFalse i s = refl
  same_own SetupLoop i s = refl
  same_own SetupExcept i s = refl
  same_own SetupFinally i s = refl
  same_own EnterFinally i s = refl
  same_own EndFinally i s = refl
  same_own SetupWith i s = refl
  same_own WithCleanupStart i s = refl
  same_own WithCleanupFinish i s = refl
  same_own PopBlock i s = refl
  same_own PopException i s = refl
  same_own Raise i s = refl
  same_own Break i s = refl
  same_own Continue i s = refl
  same_own ReturnValue i s = refl
  same_own ReturnConst i s = refl
  same_own YieldValue i s = refl
  same_own ExtendedArg i s = refl
  same_own _ i s = refl

  same_act : (op : Instruction) (i : ℕ) (s : State) → act setting op i s ≡ act other op i s
  same_act op i s =
      ap (λ (f : List Obj → Option Request). acts_by (row_effect op i) f (act_own setting op i s) s) (same_asked op i)
      ∙ ap (λ (m : Move). acts_by (row_effect op i) (asked other op i) m s) (same_own op i s)

  same_unit : (u : Option CodeUnit) (s : State) → unit_move setting u s ≡ unit_move other u s
  same_unit None s = refl
  same_unit (Some u) s = same_act u.op _ _

  same_moves : (x : Expect) (s : State) → moves setting x s ≡ moves other x s
  same_moves expect.Start s = refl
  same_moves expect.Go s = same_unit (slice_get setting.code.code.instructions.items s.at) s
  same_moves (expect.Answer w) s = refl
  same_moves expect.Resume s = refl
  same_moves (expect.Heard (got.Value v)) s = refl
  same_moves (expect.Heard (got.Raise e)) s = refl
  same_moves (expect.Heard (got.Stop v)) s = refl
  same_moves expect.Ended s = refl

  -- ---- steps and runs

  module _ (objects : List Payload) where
    same_hears : (y : Expect) (x : Own) (w : Expect) → Hears objects setting y x w → Hears objects other y x w
    same_hears expect.Start (Resumes k how.Start) w hears = hears
    same_hears expect.Start (Resumes k (how.Throw e)) w hears = hears
    same_hears (expect.Answer wanted) (Gets k g) w hears = hears
    same_hears expect.Resume (Resumes k (how.Send v)) w hears = hears
    same_hears expect.Resume (Resumes k (how.Throw e)) w hears = hears
    same_hears _ _ w hears = absurd hears

    step_under : (s t : State) (xs : List Own) → LetsThrough throws xs → Steps objects setting s xs t → Steps objects other s xs t
    step_under s _ _ lets (silent t may) = silent t (subst (λ (m : Move). MayLead objects m (Goes t)) (same_moves s.wants s) may)
    step_under s _ _ lets (telling x t may) = telling x t (subst (λ (m : Move). MayLead objects m (Tells x t)) (same_moves s.wants s) may)
    step_under s _ _ lets (hearing x w hears under) = hearing x w (same_hears s.wants x w hears) (lets.0 (handled_in None s.blocks))

    pub run_under : (s t : State) (xs : List Own) → LetsThrough throws xs → Runs objects setting s xs t → Runs objects other s xs t
    run_under s _ _ lets none = none
    run_under s _ _ lets (on {us = us} {vs = vs} {t = t} u run step) =
        let parts = lets_parts throws us vs lets in
        on u (run_under s t us parts.0 run) (step_under t u vs parts.1 step)
