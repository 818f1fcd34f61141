-- Stores that grew.
use Rattle.std.proofs.Common.{◌≡◌, ◌<◌, ◌+◌, ◌++◌, ℕ, List, [], ◌∷◌, refl, sym, ap, subst, ◌∙◌, length, length-append, arith}
use Rattle.std.specs.Prelude.{None, false}
use Rattle.py_objects.specs.declared.payload.Payload.{Payload}
use Rattle.py_objects.specs.declared.payload.Payload.TheVariants as payload
use Rattle.py_objects.specs.Objects.{Name, declares, payload_numbers, AllBelow, IsMade, AllFit}
use Rattle.py_objects.specs.FrameEntries.{is_frame}
use Rattle.py_objects.specs.Growth.{Grows, GrowsPlainly, with_object, IsGrown, IsLonger}
use Rattle.py_objects.specs.Edits.{Kept}
use Rattle.py_objects.proofs.GrowthLemmas.{below_more, plainly_grows, grows_plainly_refl, grows_plainly_trans, grows_plainly_by}
use Rattle.py_objects.proofs.FrameEntriesLemmas.{frames_same_by_one}

-- what is below stays below one more
pub below_more_by_one : (n : ℕ) (ks : List ℕ) → AllBelow n ks → AllBelow (n + 1) ks
below_more_by_one n ks below = below_more n (n + 1) ks (omega arith) below

-- growth of a store is growth of its objects
pub objects_grow : (old new : Kept) → IsGrown old new → Grows old.made new.made
objects_grow old new grown = plainly_grows old.made new.made grown.objects

-- nothing more is growth
pub grown_refl : (s : Kept) → IsGrown s s
grown_refl s = record { objects = grows_plainly_refl s.made; frames = refl; others = refl }

pub still_grown : (old new : Kept) → new ≡ old → IsGrown old new
still_grown old new same = subst (IsGrown old) (sym same) (grown_refl old)

-- growth and growth are growth
pub grown_trans : (old mid new : Kept) → IsGrown old mid → IsGrown mid new → IsGrown old new
grown_trans old mid new first second = record {
  objects = grows_plainly_trans old.made mid.made new.made first.objects second.objects;
  frames = second.frames ∙ first.frames;
  others = second.others ∙ ap (λ (s : Kept). let t : Kept = record s { made = new.made } in t) first.others;
}

-- a store that grew is longer
pub grown_longer : (old new : Kept) → IsGrown old new → IsLonger old new
grown_longer old new grown = record { objects = grown.objects; others = grown.others }

-- and so is the store itself
pub longer_refl : (s : Kept) → IsLonger s s
longer_refl s = grown_longer s s (grown_refl s)

-- longer and longer is longer
pub longer_trans : (old mid new : Kept) → IsLonger old mid → IsLonger mid new → IsLonger old new
longer_trans old mid new first second = record {
  objects = grows_plainly_trans old.made mid.made new.made first.objects second.objects;
  others = second.others ∙ ap (λ (s : Kept). let t : Kept = record s { made = new.made } in t) first.others;
}

-- a store that grew has the changes that it had
pub grown_changes : (old new : Kept) → IsGrown old new → new.changes ≡ old.changes
grown_changes old new grown = ap (λ (s : Kept). s.changes) grown.others

-- one more object that declares nothing, and is no frame
pub added_grown : (old new : Kept) (p : Payload) → new ≡ with_object old p → declares p ≡ None → is_frame p ≡ false
    → (AllFit old.made → AllBelow (length old.made) (payload_numbers p)) → (AllFit old.made → IsMade old.made p) → IsGrown old new
added_grown old new p added plain none below made =
    subst (IsGrown old) (sym added) (record { objects = grows_plainly_by old.made p plain below made; frames = frames_same_by_one old.made p none; others = refl })

-- one more frame
pub frame_longer : (old : Kept) (code : ℕ) → IsLonger old (with_object old (payload.Frame code))
frame_longer old code = record { objects = grows_plainly_by old.made (payload.Frame code) refl (λ fit. tt) (λ fit. tt); others = refl }

-- the objects are the old ones and that one
pub added_made : (old new : Kept) (p : Payload) → new ≡ with_object old p → new.made ≡ old.made ++ p ∷ []
added_made old new p added = ap (λ (s : Kept). s.made) added

-- its number is below the new length
pub added_below : (old new : Kept) (p : Payload) (n : ℕ) → new ≡ with_object old p → n ≡ length old.made → n < length new.made
added_below old new p n added last = let one : length new.made ≡ length old.made + 1 = ap length (added_made old new p added) ∙ length-append old.made (p ∷ []) in omega (arith, one, last)

-- the same objects, or a text more behind a mark, are plain growth
pub same_grows : (old new : List Payload) → new ≡ old → GrowsPlainly old new
same_grows old new same = subst (GrowsPlainly old) (sym same) (grows_plainly_refl old)

pub text_behind_mark : (old marked added new : Kept) (after : ℕ) (x : Name) → marked ≡ record old { mark = after } → added ≡ with_object marked (payload.Str x) → new.made ≡ added.made → GrowsPlainly old.made new.made
text_behind_mark old marked added new after x is more same =
    let objects : new.made ≡ old.made ++ payload.Str x ∷ [] = same ∙ added_made marked added (payload.Str x) more ∙ ap (λ (s : Kept). s.made ++ payload.Str x ∷ []) is in
    subst (GrowsPlainly old.made) (sym objects) (grows_plainly_by old.made (payload.Str x) refl (λ fit. tt) (λ fit. tt))
