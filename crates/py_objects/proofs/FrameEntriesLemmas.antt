-- The frames among objects that grow.
use Rattle.std.proofs.Common.{◌≡◌, ◌∙◌, ◌+◌, ◌++◌, ℕ, suc, List, [], ◌∷◌, Some, Bool, true, false, refl, sym, ap, subst, length, length-append, append-nil, arith}
use Rattle.std.specs.Prelude.{slice_get, if◌then◌else◌}
use Rattle.py_objects.specs.declared.payload.Payload.{Payload}
use Rattle.py_objects.specs.declared.payload.Payload.TheVariants as payload
use Rattle.py_objects.specs.Growth.{Grows}
use Rattle.py_objects.specs.FrameEntries.{is_frame, frames_from, frames_in}
use Rattle.py_objects.proofs.GrowthLemmas.{one_entry, slice_get_behind, slice_get_grown}

-- the frames of more objects come after those that were there
frames_behind : (i : ℕ) (objects more : List Payload) → frames_from i (objects ++ more) ≡ frames_from i objects ++ frames_from (i + length objects) more
frames_behind i [] more = ap (λ n. frames_from n more) (let same : i ≡ i + 0 = omega arith in same)
frames_behind i (p ∷ ps) more =
    let count : suc i + length ps ≡ i + suc (length ps) = omega arith in
    let later : frames_from (suc i) (ps ++ more) ≡ frames_from (suc i) ps ++ frames_from (i + suc (length ps)) more =
    frames_behind (suc i) ps more ∙ ap (λ n. frames_from (suc i) ps ++ frames_from n more) count in
    both (is_frame p) later
  where
    both : (b : Bool) → frames_from (suc i) (ps ++ more) ≡ frames_from (suc i) ps ++ frames_from (i + suc (length ps)) more
        → (if b then i ∷ frames_from (suc i) (ps ++ more) else frames_from (suc i) (ps ++ more))
        ≡ (if b then i ∷ frames_from (suc i) ps else frames_from (suc i) ps) ++ frames_from (i + suc (length ps)) more
    both true later = ap (λ l. i ∷ l) later
    both false later = later

-- where none of them is a frame, none is there
none_from : (i : ℕ) (more : List Payload) → ((j : ℕ) (p : Payload) → slice_get more j ≡ Some p → is_frame p ≡ false) → frames_from i more ≡ []
none_from i [] none = refl
none_from i (p ∷ ps) none =
    ap (λ b. if b then i ∷ frames_from (suc i) ps else frames_from (suc i) ps) (none 0 p refl) ∙ none_from (suc i) ps (λ j q here. none (suc j) q here)

-- each frame keeps its place as objects grow
pub frame_stays : (old new : List Payload) (at n : ℕ) → Grows old new → slice_get (frames_in old) at ≡ Some n → slice_get (frames_in new) at ≡ Some n
frame_stays old new at n (more, is) here =
    subst (λ (os : List Payload). slice_get (frames_in os) at ≡ Some n) (sym is)
    (subst (λ (ns : List ℕ). slice_get ns at ≡ Some n) (sym (frames_behind 0 old more)) (slice_get_grown (frames_in old) (frames_from (0 + length old) more) at n here))

-- the frames are the same where none came
pub frames_same : (old more : List Payload) → ((i : ℕ) (p : Payload) → slice_get more i ≡ Some p → is_frame p ≡ false) → frames_in (old ++ more) ≡ frames_in old
frames_same old more none =
    frames_behind 0 old more ∙ ap (λ l. frames_in old ++ l) (none_from (0 + length old) more none) ∙ append-nil (frames_in old)

pub frames_same_by_one : (old : List Payload) (p : Payload) → is_frame p ≡ false → frames_in (old ++ p ∷ []) ≡ frames_in old
frames_same_by_one old p none = frames_same old (p ∷ []) (λ i q here. subst (λ (r : Payload). is_frame r ≡ false) (one_entry p q i here) none)

-- a frame that comes is the last one
pub frames_one_more : (old : List Payload) (code : ℕ) → frames_in (old ++ payload.Frame code ∷ []) ≡ frames_in old ++ length old ∷ []
frames_one_more old code = frames_behind 0 old (payload.Frame code ∷ []) ∙ ap (λ n. frames_in old ++ n ∷ []) (let same : 0 + length old ≡ length old = omega arith in same)

-- it is the one at this place, where so many were there, and there is one more
pub frame_placed : (old : List Payload) (code n : ℕ) → length (frames_in old) ≡ n → slice_get (frames_in (old ++ payload.Frame code ∷ [])) n ≡ Some (length old)
frame_placed old code n count =
    let place : n ≡ length (frames_in old) + 0 = omega (arith, count) in
    ap (slice_get (frames_in (old ++ payload.Frame code ∷ []))) place ∙ ap (λ (ns : List ℕ). slice_get ns (length (frames_in old) + 0)) (frames_one_more old code)
    ∙ slice_get_behind (frames_in old) (length old ∷ []) 0

pub frame_counted : (old : List Payload) (code n : ℕ) → length (frames_in old) ≡ n → length (frames_in (old ++ payload.Frame code ∷ [])) ≡ n + 1
frame_counted old code n count = ap length (frames_one_more old code) ∙ length-append (frames_in old) (length old ∷ []) ∙ ap (λ k. k + 1) count
