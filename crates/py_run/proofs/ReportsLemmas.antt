-- Reports of a run: where there are none, and what adds one.
use Rattle.std.proofs.Common.{◌≡◌, ◌≤◌, ◌++◌, ◌∙◌, ℕ, suc, List, [], ◌∷◌, Some, sym, ap, arith}
use Rattle.std.specs.Prelude.{None, slice_get}
use Rattle.py_objects.specs.declared.payload.Payload.{Payload}
use Rattle.py_objects.specs.declared.edit.Change.{Change}
use Rattle.py_objects.specs.declared.event.DriveAnswer.TheVariants as answer
use Rattle.py_objects.specs.declared.event.Event.{Event}
use Rattle.py_objects.specs.declared.event.Event.TheVariants as event
use Rattle.py_run.specs.Run.{Plan, State, start, after, state_after, reporting, to_report_by}
use Rattle.py_run.specs.Reports.{Origins, AreReported}
use Rattle.py_run.proofs.OwnLemmas.{state_lists}

-- no event takes a result away
done_once : (s : State) (e : Event) → s.done ≤ (after s e).done
done_once s (event.Result d w) = omega arith
done_once s _ = omega arith

pub done_on : (s : State) (es : List Event) → s.done ≤ (state_after s es).done
done_on s [] = omega arith
done_on s (e ∷ es) = let one = done_once s e in let rest = done_on (after s e) es in omega (arith, one, rest)

-- where a drive has nothing reported, and none behind it has its result, there is no report
pub nothing_reported : (plan : Plan) (origins : Origins) (made : List Payload) (changes : List Change) (before events : List Event)
    → reporting plan (state_after start before) ≡ None → (state_after start (before ++ events)).done ≤ suc (state_after start before).done
    → AreReported plan origins made changes before events
nothing_reported plan origins made changes before events none few front back d text e is some =
    let s : State = state_after start before in
    let t : State = state_after start (before ++ front) in
    let r : Event = event.Result d (answer.Reported text) in
    let here : t ≡ state_after s front = state_lists start before front in
    let low : s.done ≤ (state_after s front).done = done_on s front in
    let whole : state_after start (before ++ events) ≡ state_after (after (state_after s front) r) back =
    state_lists start before events ∙ ap (state_after s) is ∙ state_lists s front (r ∷ back) in
    let count : (state_after start (before ++ events)).done ≡ (state_after (after (state_after s front) r) back).done = ap (λ (x : State). x.done) whole in
    let high : suc (state_after s front).done ≤ (state_after (after (state_after s front) r) back).done = done_on (after (state_after s front) r) back in
    let same : (state_after s front).done ≡ s.done = omega (arith, low, count, high, few) in
    let now : t.done ≡ s.done = ap (λ (x : State). x.done) here ∙ same in
    let clash : None ≡ Some e = sym none ∙ (ap (λ n. to_report_by (slice_get plan.asked n)) (sym now) ∙ some) in
    absurd (cc clash)

-- where no drive has anything reported there is none either
pub plainly_reported : (plan : Plan) (origins : Origins) (made : List Payload) (changes : List Change) (before events : List Event)
    → ((n : ℕ) → to_report_by (slice_get plan.asked n) ≡ None) → AreReported plan origins made changes before events
plainly_reported plan origins made changes before events none front back d text e is some =
    let clash : None ≡ Some e = sym (none (state_after start (before ++ front)).done) ∙ some in absurd (cc clash)
