-- Where frames stand among objects, behind others that are none.
use Rattle.std.proofs.Common.{◌≡◌, ◌+◌, ◌<◌, ◌++◌, ◌∙◌, ◌&&◌, ℕ, zero, suc, List, [], ◌∷◌, Bool, true, false, not, Some, length, refl, ap, arith}
use Rattle.std.specs.Prelude.{slice_get}
use Rattle.std.proofs.lemmas.Bool.{and_parts}
use Rattle.py_objects.specs.declared.payload.Payload.{Payload}
use Rattle.py_objects.specs.FrameEntries.{is_frame, frames_from}
use Rattle.py_make.specs.Made.{drawn, next_state}
use Rattle.made_runs.proofs.Groups.{Sort, Raises, Returns, Counts, acts_of, first_of, frames_of, second_of}
use Rattle.made_runs.proofs.Lists.{Each, each_both}
use Rattle.made_runs.proofs.Objects.{IsMore, numbers_from}
use Rattle.made_runs.proofs.Reaching.{frames_made, objects_from, sort_of}

-- none of these is a frame
abbrev pub frameless : List Payload → Bool
frameless [] = true
frameless (p ∷ ps) = not (is_frame p) && frameless ps

-- each of these is one
abbrev pub all_frames : List Payload → Bool
all_frames [] = true
all_frames (p ∷ ps) = is_frame p && all_frames ps

not_true : (b : Bool) → not b ≡ true → b ≡ false
not_true false is = refl
not_true true is = absurd (cc is)

-- frames behind others that are none
pub behind_frameless : (i : ℕ) (ps qs : List Payload) → frameless ps ≡ true → frames_from i (ps ++ qs) ≡ frames_from (i + length ps) qs
behind_frameless i [] qs none = ap (λ (k : ℕ). frames_from k qs) (let same : i ≡ i + 0 = omega arith in same)
behind_frameless i (p ∷ ps) qs none =
    let (here, rest) = and_parts (not (is_frame p)) (frameless ps) none in
    (rw (not_true (is_frame p) here) (behind_frameless (suc i) ps qs rest))
    ∙ ap (λ (k : ℕ). frames_from k qs) (let same : suc i + length ps ≡ i + suc (length ps) = omega arith in same)

-- the frame at a place among frames alone
pub frame_at : (i : ℕ) (ps : List Payload) → all_frames ps ≡ true → (j : ℕ) → j < length ps → slice_get (frames_from i ps) j ≡ Some (i + j)
frame_at i [] all j low = absurd (omega (arith, low))
frame_at i (p ∷ ps) all zero low =
    let (here, rest) = and_parts (is_frame p) (all_frames ps) all in rw here (ap Some (let same : i ≡ i + 0 = omega arith in same))
frame_at i (p ∷ ps) all (suc j) low =
    let (here, rest) = and_parts (is_frame p) (all_frames ps) all in
    rw here (frame_at (suc i) ps rest j (omega (arith, low)) ∙ ap Some (let same : suc i + j ≡ i + suc j = omega arith in same))

-- ---- of made runs

pub numbers_frameless : (k n : ℕ) → frameless (numbers_from k n) ≡ true
unfolding numbers_from
numbers_frameless zero n = refl
numbers_frameless (suc k) n = numbers_frameless k (suc n)

group_frameless : (sort : Sort) (m frame : ℕ) (rest : List Payload) → frameless rest ≡ true → frameless (first_of sort m ∷ second_of sort frame ∷ rest) ≡ true
group_frameless Raises m frame rest none = none
group_frameless Returns m frame rest none = none
group_frameless Counts m frame rest none = none

pub objects_frameless : (count s m frame : ℕ) → frameless (objects_from count s m frame) ≡ true
objects_frameless zero s m frame = refl
objects_frameless (suc k) s m frame =
    let sort : Sort = sort_of (drawn (next_state s)) in
    group_frameless sort m (frame + m) (objects_from k (next_state s) (m + acts_of sort) frame) (objects_frameless k (next_state s) (m + acts_of sort) frame)

group_frames : (sort : Sort) (rest : List Payload) → all_frames rest ≡ true → all_frames (frames_of sort ++ rest) ≡ true
group_frames Raises rest all = all
group_frames Returns rest all = all
group_frames Counts rest all = all

pub made_frames : (count s : ℕ) → all_frames (frames_made count s) ≡ true
made_frames zero s = refl
made_frames (suc k) s = group_frames (sort_of (drawn (next_state s))) (frames_made k (next_state s)) (made_frames k (next_state s))

-- frames may come behind what all runs share
group_more : (objects : List Payload) (sort : Sort) → Each (IsMore objects) (frames_of sort)
group_more objects Raises = ((refl, (tt, tt)), ((refl, (tt, tt)), ((refl, (tt, tt)), tt)))
group_more objects Returns = ((refl, (tt, tt)), ((refl, (tt, tt)), ((refl, (tt, tt)), tt)))
group_more objects Counts = ((refl, (tt, tt)), tt)

pub frames_more : (objects : List Payload) (count s : ℕ) → Each (IsMore objects) (frames_made count s)
frames_more objects zero s = tt
frames_more objects (suc k) s =
    let sort : Sort = sort_of (drawn (next_state s)) in
    each_both (IsMore objects) (frames_of sort) (frames_made k (next_state s)) (group_more objects sort) (frames_more objects k (next_state s))
