-- Texts in a table, and what interning makes of it.
use Rattle.std.proofs.Common.{◌≡◌, ◌≢◌, ◌<◌, ◌≤◌, ◌+◌, ℕ, zero, suc, List, [], ◌∷◌, ◌++◌, Bool, true, false, cond, not, ◌||◌, Some, None, refl, sym, ap, subst, append-nil, ◌∙◌, map, length, get_or, slice_get, arith, ◌⊎◌, inl, inr}
use Rattle.std.specs.Prelude.{Option, IfSome, bytes_eq, position}
use Rattle.std.specs.List.{list_any, position_or_len}
use Rattle.std.proofs.lemmas.Bool.{cases_lt}
use Rattle.std.proofs.lemmas.Bool.Decides.{nat_tests}
use Rattle.std.proofs.lemmas.Grind.{common_steps}
use Rattle.std.proofs.lemmas.List.{length-map, map-append}
use Rattle.std.proofs.lemmas.List.Folds.{position_or_len_push}
use Rattle.std.proofs.lemmas.List.Sums.{passes_at_first}
use Rattle.std.proofs.lemmas.Map.Keys.{any_passes_from_place}
use Rattle.std.proofs.lemmas.Option.{slice_get-get_or, slice_get_within}
use Rattle.std.proofs.lemmas.Slice.Eq.{bytes_eq-Decides}
use Rattle.indexmap.specs.IndexSet.{insert_key}
use Rattle.py_code.specs.Names.{interned, place_of, TextsDiffer}
use Rattle.py_code.specs.Texts.{IsGrown}

-- ---- a test on a list, and on the texts of a list of strings

position_or_len-map : {X Y : Type 0} (f : X → Y) (p : Y → Bool) (xs : List X) → position_or_len p (map f xs) ≡ position_or_len (λ x. p (f x)) xs
position_or_len-map f p [] = refl
position_or_len-map f p (x ∷ xs) = rw (position_or_len-map f p xs)

position-map : {X Y : Type 0} (f : X → Y) (p : Y → Bool) (xs : List X) → position p (map f xs) ≡ position (λ x. p (f x)) xs
position-map f p xs = rw (position_or_len-map f p xs, length-map xs f)

list_any-map : {X Y : Type 0} (f : X → Y) (p : Y → Bool) (xs : List X) → list_any p (map f xs) ≡ list_any (λ x. p (f x)) xs
list_any-map f p [] = refl
list_any-map f p (x ∷ xs) = rw (list_any-map f p xs)

-- where an element passes, the first one that does is in the list
below_length : {X : Type 0} (p : X → Bool) (xs : List X) → list_any p xs ≡ true → position_or_len p xs < length xs
below_length p [] some = grind arith
below_length p (x ∷ xs) some = by (p x) (below_length p xs) some
  where
    by : (b : Bool) → (list_any p xs ≡ true → position_or_len p xs < length xs) → (b || list_any p xs) ≡ true
        → cond (not b) (1 + position_or_len p xs) 0 < suc (length xs)
    by true later _ = omega arith
    by false later rest = omega (arith, later rest)

-- where none passes, it is the end of the list
is_length : {X : Type 0} (p : X → Bool) (xs : List X) → list_any p xs ≡ false → position_or_len p xs ≡ length xs
is_length p [] none = refl
is_length p (x ∷ xs) none = by (p x) (is_length p xs) none
  where
    by : (b : Bool) → (list_any p xs ≡ false → position_or_len p xs ≡ length xs) → (b || list_any p xs) ≡ false
        → cond (not b) (1 + position_or_len p xs) 0 ≡ suc (length xs)
    by true later never = cc
    by false later rest = omega (arith, later rest)

-- ---- one more element

pub slice_get-append_before : {X : Type 0} (xs : List X) (y : X) (i : ℕ) → i < length xs → slice_get (xs ++ y ∷ []) i ≡ slice_get xs i
slice_get-append_before [] y i below = absurd (omega arith)
slice_get-append_before (x ∷ xs) y zero below = refl
slice_get-append_before (x ∷ xs) y (suc i) below = slice_get-append_before xs y i (omega arith)

pub slice_get-append_last : {X : Type 0} (xs : List X) (y : X) → slice_get (xs ++ y ∷ []) (length xs) ≡ Some y
slice_get-append_last [] y = refl
slice_get-append_last (x ∷ xs) y = slice_get-append_last xs y

-- ---- where a text stands

bytes_eq-refl : (text : List ℕ) → bytes_eq text text ≡ true
bytes_eq-refl text = (bytes_eq-Decides text text).1 refl

place_of_within : (texts : List (List ℕ)) (text : List ℕ) (at : ℕ) → place_of texts text ≡ Some at
    → (at ≡ position_or_len (bytes_eq text) texts) × (at < length texts)
place_of_within texts text at found = grind (arith, nat_tests)

-- the text stands at its place
pub found_text : (texts : List (List ℕ)) (text : List ℕ) (at : ℕ) → place_of texts text ≡ Some at → slice_get texts at ≡ Some text
found_text texts text at found =
    let (is, below) = place_of_within texts text at found in
    let passes = passes_at_first (bytes_eq text) texts [] (omega arith) in
    let same = (bytes_eq-Decides text (get_or texts (position_or_len (bytes_eq text) texts) [])).0 passes in
    let stored = slice_get-get_or texts at [] below in
    cc

pub found_if : (texts : List (List ℕ)) (text : List ℕ) (found : Option ℕ) → found ≡ place_of texts text → IfSome found (λ at. slice_get texts at ≡ Some text)
found_if texts text None is = tt
found_if texts text (Some at) is = found_text texts text at (sym is)

-- a text without a place stands nowhere
pub absent_text : (texts : List (List ℕ)) (text : List ℕ) → place_of texts text ≡ None → (at : ℕ) → slice_get texts at ≢ Some text
absent_text texts text none at there =
    let some = any_passes_from_place (bytes_eq text) texts at text there (bytes_eq-refl text) in
    let below = below_length (bytes_eq text) texts some in
    absurd (grind (arith, nat_tests))

-- ---- interning

-- a text that no entry has stands behind the others alone
only_last : (texts : List (List ℕ)) (text : List ℕ) → list_any (bytes_eq text) texts ≡ false
    → (at : ℕ) → slice_get (texts ++ text ∷ []) at ≡ Some text → at ≡ length texts
only_last texts text none at there = by (cases_lt at (length texts))
  where
    by : (at < length texts) ⊎ (length texts ≤ at) → at ≡ length texts
    by (inl below) =
        let stood = any_passes_from_place (bytes_eq text) texts at text (sym (slice_get-append_before texts text at below) ∙ there) (bytes_eq-refl text) in
        absurd (cc)
    by (inr past) =
        let within = slice_get_within (texts ++ text ∷ []) at text there in
        let more : length (texts ++ text ∷ []) ≡ length texts + 1 = grind (arith, common_steps) in
        omega arith

TextsDiffer-append : (texts : List (List ℕ)) (text : List ℕ) → list_any (bytes_eq text) texts ≡ false → TextsDiffer texts → TextsDiffer (texts ++ text ∷ [])
TextsDiffer-append texts text none differ left right within same = by (cases_lt left (length texts)) (cases_lt right (length texts))
  where
    last : slice_get (texts ++ text ∷ []) (length texts) ≡ Some text
    last = slice_get-append_last texts text

    more : length (texts ++ text ∷ []) ≡ length texts + 1
    more = grind (arith, common_steps)

    at_end : length texts ≤ left → left ≡ length texts
    at_end past = omega (arith, more)

    by : (left < length texts) ⊎ (length texts ≤ left) → (right < length texts) ⊎ (length texts ≤ right) → left ≡ right
    by (inl l) (inl r) = differ left right l (sym (slice_get-append_before texts text left l) ∙ same ∙ slice_get-append_before texts text right r)
    by (inl l) (inr r) =
        let stored = slice_get-get_or (texts ++ text ∷ []) left [] within in
        let right_within = slice_get_within (texts ++ text ∷ []) right _ (sym same ∙ stored) in
        let end : right ≡ length texts = omega (arith, more) in
        let there = same ∙ ap (slice_get (texts ++ text ∷ [])) end ∙ last in
        only_last texts text none left there ∙ sym end
    by (inr l) _ =
        let end = at_end l in
        let there = sym same ∙ ap (slice_get (texts ++ text ∷ [])) end ∙ last in
        end ∙ sym (only_last texts text none right there)

-- a text that has a place is known
pub interned-known : (texts : List (List ℕ)) (text : List ℕ) (at : ℕ) → place_of texts text ≡ Some at → interned texts text ≡ texts
interned-known texts text at found =
    let (is, below) = place_of_within texts text at found in
    by (list_any (bytes_eq text) texts) refl (omega arith)
  where
    by : (b : Bool) → list_any (bytes_eq text) texts ≡ b → position_or_len (bytes_eq text) texts < length texts
        → cond b texts (texts ++ text ∷ []) ≡ texts
    by true some below = refl
    by false none below = absurd (omega (arith, is_length (bytes_eq text) texts none))

-- what is interned stands at the place where it stood, or at the end
pub place_of-interned : (texts : List (List ℕ)) (text : List ℕ) → place_of (interned texts text) text ≡ Some (position_or_len (bytes_eq text) texts)
place_of-interned texts text = by (list_any (bytes_eq text) texts) refl
  where
    by : (b : Bool) → list_any (bytes_eq text) texts ≡ b
        → place_of (cond b texts (texts ++ text ∷ [])) text ≡ Some (position_or_len (bytes_eq text) texts)
    by true some = let below = below_length (bytes_eq text) texts some in grind (arith, nat_tests)
    by false none =
        let end = is_length (bytes_eq text) texts none in
        let last : position_or_len (bytes_eq text) (texts ++ text ∷ []) ≡ length texts =
        rw (position_or_len_push, bytes_eq-refl text, end) (grind (arith, nat_tests)) in
        let more : length (texts ++ text ∷ []) ≡ length texts + 1 = grind (arith, common_steps) in
        grind (arith, nat_tests)

-- the others stay where they are
pub grown-interned : (old new : List (List ℕ)) (text : List ℕ) → new ≡ interned old text → IsGrown old new
grown-interned old new text made = subst (IsGrown old) (sym made) (by (list_any (bytes_eq text) old))
  where
    by : (b : Bool) → IsGrown old (cond b old (old ++ text ∷ []))
    by true = ([], sym (append-nil old))
    by false = (text ∷ [], refl)

-- interning keeps the texts distinct
pub TextsDiffer-interned : (texts : List (List ℕ)) (text : List ℕ) → TextsDiffer texts → TextsDiffer (interned texts text)
TextsDiffer-interned texts text differ = by (list_any (bytes_eq text) texts) refl
  where
    by : (b : Bool) → list_any (bytes_eq text) texts ≡ b → TextsDiffer (cond b texts (texts ++ text ∷ []))
    by true _ = differ
    by false none = TextsDiffer-append texts text none differ

-- ---- a table that is a set of keys, each of which has a text

module _ {K : Type 0} (text_in : K → List ℕ) (keys : List K) (texts : List (List ℕ)) (view : map text_in keys ≡ texts) where
  -- what a look-up finds
  pub place_of-view : (text : List ℕ) (found : Option ℕ) → found ≡ position (λ key. bytes_eq text (text_in key)) keys → found ≡ place_of texts text
  place_of-view text found at = at ∙ sym (position-map text_in (bytes_eq text) keys) ∙ ap (λ ts. place_of ts text) view

  -- and whether there is one
  pub list_any-view : (text : List ℕ) (found : Bool) → found ≡ list_any (λ key. bytes_eq text (text_in key)) keys → found ≡ list_any (bytes_eq text) texts
  list_any-view text found at = at ∙ sym (list_any-map text_in (bytes_eq text) keys) ∙ ap (list_any (bytes_eq text)) view

  module _ (new : List K) (key : K) (text : List ℕ) (is : text_in key ≡ text) (made : new ≡ insert_key (λ k j. bytes_eq (text_in k) (text_in j)) keys key) where
    -- what an insertion leaves
    pub interned-view : map text_in new ≡ interned texts text
    interned-view =
        ap (map text_in) made ∙ by (list_any (λ j. bytes_eq (text_in key) (text_in j)) keys) (list_any-map text_in (bytes_eq (text_in key)) keys)
        ∙ ap (λ ts. interned ts (text_in key)) view ∙ ap (interned texts) is
      where
        by : (b : Bool) → list_any (bytes_eq (text_in key)) (map text_in keys) ≡ b
            → map text_in (cond b keys (keys ++ key ∷ [])) ≡ interned (map text_in keys) (text_in key)
        by true some = sym (ap (λ b. cond b (map text_in keys) (map text_in keys ++ text_in key ∷ [])) some)
        by false none =
            map-append text_in keys (key ∷ [])
            ∙ sym (ap (λ b. cond b (map text_in keys) (map text_in keys ++ text_in key ∷ [])) none)

    -- and where the key then stands
    pub place_of-inserted : (at : ℕ) → at ≡ position_or_len (λ j. bytes_eq (text_in key) (text_in j)) keys → place_of (map text_in new) text ≡ Some at
    place_of-inserted at place =
        ap (λ ts. place_of ts text) interned-view ∙ place_of-interned texts text
        ∙ ap Some (ap (position_or_len (bytes_eq text)) (sym view) ∙ position_or_len-map text_in (bytes_eq text) keys
        ∙ ap (λ t. position_or_len (λ k. bytes_eq t (text_in k)) keys) (sym is) ∙ sym place)
