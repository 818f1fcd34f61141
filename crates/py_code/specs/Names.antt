-- A table of names, as the list of its texts, each by its bytes.
use Rattle.std.specs.Prelude.{◌≡◌, ◌<◌, ℕ, List, [], ◌∷◌, ◌++◌, Option, if◌then◌else◌, length, slice_get, position, bytes_eq}
use Rattle.std.specs.List.{list_any}

-- the texts after one is interned: a known one keeps its place, a new one goes last
abbrev pub interned : List (List ℕ) → List ℕ → List (List ℕ)
interned texts text = if list_any (bytes_eq text) texts then texts else texts ++ text ∷ []

-- the same of texts, one after another
abbrev pub all_interned : List (List ℕ) → List (List ℕ) → List (List ℕ)
all_interned texts [] = texts
all_interned texts (text ∷ more) = all_interned (interned texts text) more

-- some of these texts were interned, from the first on: all of them, where nothing failed
abbrev pub AreInterned : List (List ℕ) → (old new : List (List ℕ)) → Type 0
AreInterned texts old new = (done : List (List ℕ)) × (left : List (List ℕ)) × (texts ≡ done ++ left) × (new ≡ all_interned old done)

-- where a text stands
abbrev pub place_of : List (List ℕ) → List ℕ → Option ℕ
place_of texts text = position (bytes_eq text) texts

-- no text stands at two places
abbrev pub TextsDiffer : List (List ℕ) → Type 0
TextsDiffer texts =
    (left right : ℕ) → left < length texts → slice_get texts left ≡ slice_get texts right → left ≡ right
