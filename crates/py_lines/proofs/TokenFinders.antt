-- What single tokens print, and what stands behind a word or a keyword.
use Rattle.std.proofs.Common.{◌≡◌, ℕ, List, ◌∷◌, Bool, Some, true, false, refl, sym, ap, ◌∙◌, bytes_eq}
use Rattle.std.proofs.lemmas.Slice.Eq.{bytes_eq-Decides}
use Rattle.py_lines.specs.declared.keyword.Keyword.{Keyword}
use Rattle.py_lines.specs.declared.keyword.Keyword.TheVariants as keyword
use Rattle.py_lines.specs.Keywords.{keyword_of, keyword_text}
use Rattle.py_lines.specs.Meaning.{Meaning, Key, Word}
use Rattle.py_lines.proofs.Finders.{Finds, Found, Missing}

-- a name
pub find_name : (t : Meaning) → Finds Word t
find_name (Word x) = Found x refl
find_name t = Missing λ x e. cc

-- the tokens behind a word
pub same_word : (v w : List ℕ) → Dec (v ≡ w)
same_word v w = go (bytes_eq v w) refl
  where
    go : (p : Bool) → bytes_eq v w ≡ p → Dec (v ≡ w)
    go true e = yes ((bytes_eq-Decides v w).0 e)
    go false e = no λ same. let h : false ≡ true = sym e ∙ (bytes_eq-Decides v w).1 same in cc h

pub behind_word : (w : List ℕ) (ts : List Meaning) → Finds (λ us. Word w ∷ us) ts
behind_word w (Word v ∷ ts) = elim (same_word v w) [ yes e ↦ Found ts (ap (λ x. Word x ∷ ts) e) | no other ↦ Missing λ us e. other (cc) ]
behind_word w ts = Missing λ us e. cc

-- each keyword is the one that its text is read as
pub read_back : (k : Keyword) → keyword_of (keyword_text k) ≡ Some k
read_back keyword.None = refl
read_back k = refl

same_keyword : (j k : Keyword) → keyword_text j ≡ keyword_text k → j ≡ k
same_keyword j k e = let h : Some j ≡ Some k = sym (read_back j) ∙ ap keyword_of e ∙ read_back k in cc h

-- the tokens behind a keyword
pub behind_key : (k : Keyword) (ts : List Meaning) → Finds (λ us. Key k ∷ us) ts
behind_key k (Key j ∷ ts) =
    elim (same_word (keyword_text j) (keyword_text k)) [
      | yes e ↦ Found ts (ap (λ i. Key i ∷ ts) (same_keyword j k e))
      | no other ↦ Missing λ us e. other (ap keyword_text (cc))
    ]
behind_key k ts = Missing λ us e. cc

-- one word, and one keyword
pub find_word : (w : List ℕ) (t : Meaning) → Finds (λ (x : Unit {0}). Word w) t
find_word w (Word v) = elim (same_word v w) [ yes e ↦ Found tt (ap Word e) | no other ↦ Missing λ x e. other (cc) ]
find_word w t = Missing λ x e. cc

pub find_key : (k : Keyword) (t : Meaning) → Finds (λ (x : Unit {0}). Key k) t
find_key k (Key j) =
    elim (same_word (keyword_text j) (keyword_text k)) [
      | yes e ↦ Found tt (ap Key (same_keyword j k e))
      | no other ↦ Missing λ x e. other (ap keyword_text (cc))
    ]
find_key k t = Missing λ x e. cc
