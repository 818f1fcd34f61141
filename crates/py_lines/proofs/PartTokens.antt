-- Comma lists as tokens.
use Rattle.std.proofs.Common.{◌≡◌, ◌≢◌, ℕ, List, [], ◌∷◌, true, false, Bool, bytes_eq, Some, None, refl, sym, ap, ◌∙◌, map}
use Rattle.std.specs.Prelude.{Option, if◌then◌else◌}
use Rattle.std.proofs.lemmas.Slice.Eq.{bytes_eq-Decides}
use Rattle.py_lines.specs.Finding.{Prints}
use Rattle.py_lines.specs.Meaning.{Meaning, Dash, Word, Parts}
use Rattle.py_lines.specs.Parts.{Piece, Letters, Count, Jump, is_joined, lists_of, parts_of}
use Rattle.py_lines.specs.RawLines.{parts_token}
use Rattle.py_lines.specs.Words.{passing}
use Rattle.py_lines.proofs.Finders.{Finds, Found, Missing}
use Rattle.py_lines.proofs.TokenFinders.{same_word}

-- the comma list that prints a token
abbrev pub token_parts : Meaning → Option (List (List Piece))
token_parts Dash = Some []
token_parts (Word w) = Some ((Letters w ∷ []) ∷ [])
token_parts (Parts o) = o
token_parts t = None

pub parts_back : (ps : List (List Piece)) → token_parts (parts_token ps) ≡ Some ps
parts_back [] = refl
parts_back ((Letters w ∷ []) ∷ []) = refl
parts_back ps = refl

pub same_parts : (ps qs : List (List Piece)) → parts_token ps ≡ parts_token qs → ps ≡ qs
same_parts ps qs e = let h : Some ps ≡ Some qs = sym (parts_back ps) ∙ ap token_parts e ∙ parts_back qs in cc h

pub no_parts : (t : Meaning) → token_parts t ≡ None → (ps : List (List Piece)) → t ≢ parts_token ps
no_parts t none ps e = let h : None ≡ Some ps = sym none ∙ ap token_parts e ∙ parts_back ps in cc h

-- a token that another comma list would be, which is printed otherwise
other_parts : (t : Meaning) (ps : List (List Piece)) → token_parts t ≡ Some ps → t ≢ parts_token ps → (qs : List (List Piece)) → t ≢ parts_token qs
other_parts t ps is other qs e =
    let h : Some ps ≡ Some qs = sym is ∙ ap token_parts e ∙ parts_back qs in
    let same : qs ≡ ps = cc h in
    other (e ∙ ap parts_token same)

pub find_parts : (t : Meaning) → Finds parts_token t
find_parts Dash = Found [] refl
find_parts (Word w) = Found ((Letters w ∷ []) ∷ []) refl
find_parts (Parts (Some [])) = Missing (other_parts (Parts (Some [])) [] refl (λ e. cc))
find_parts (Parts (Some ((Letters w ∷ []) ∷ []))) = Missing (other_parts (Parts (Some ((Letters w ∷ []) ∷ []))) ((Letters w ∷ []) ∷ []) refl (λ e. cc))
find_parts (Parts (Some ps)) = Found ps refl
find_parts t = Missing (no_parts t refl)

-- pieces that a comma or a dot joins
joined_parts : (ps : List (List Piece)) → is_joined ps ≡ true → parts_token ps ≡ Parts (Some ps)
joined_parts [] h = absurd (cc h)
joined_parts ((Letters w ∷ []) ∷ []) h = absurd (cc h)
joined_parts ps h = refl

passed_joined : (o : Option (List (List Piece))) (ps : List (List Piece)) → passing is_joined o ≡ Some ps → is_joined ps ≡ true
passed_joined None ps h = absurd (cc h)
passed_joined (Some qs) ps h = go (is_joined qs) refl h
  where
    go : (b : Bool) → is_joined qs ≡ b → (if b then Some qs else None) ≡ Some ps → is_joined ps ≡ true
    go true e h = let same : qs ≡ ps = cc h in ap is_joined (sym same) ∙ e
    go false e h = absurd (cc h)

-- lists of what prints pieces
module _ {X : Type 0} (printing : X → List Piece) where
  abbrev pub list_token : List X → Meaning
  list_token xs = parts_token (map printing xs)

  parts_are : (t : Meaning) (ps : List (List Piece)) → token_parts t ≡ Some ps → (xs : List X) → t ≡ list_token xs → ps ≡ map printing xs
  parts_are t ps is xs e = let h : Some ps ≡ Some (map printing xs) = sym is ∙ ap token_parts e ∙ parts_back (map printing xs) in cc h

  pub joined_found : (w : List ℕ) (ps : List (List Piece)) (r : Option (List X)) → Some ps ≡ parts_of w → Prints (map printing) ps r → Prints list_token (Parts (parts_of w)) r
  joined_found w ps None is none = λ xs e. none xs (parts_are (Parts (parts_of w)) ps (sym is) xs e)
  joined_found w ps (Some xs) is found = ap Parts (sym is) ∙ sym (joined_parts ps (passed_joined (lists_of w) ps (sym is))) ∙ ap parts_token found

  pub joined_none : (w : List ℕ) → None ≡ parts_of w → (xs : List X) → Parts (parts_of w) ≢ list_token xs
  joined_none w none xs e = no_parts (Parts (parts_of w)) (sym none) (map printing xs) e

  pub no_list : (t : Meaning) → token_parts t ≡ None → (xs : List X) → t ≢ list_token xs
  no_list t none xs e = no_parts t none (map printing xs) e

  -- one word alone
  pub no_lone_word : (w : List ℕ) → ((x : X) → Letters w ∷ [] ≢ printing x) → (xs : List X) → Word w ≢ list_token xs
  no_lone_word w none xs e = go xs (parts_are (Word w) ((Letters w ∷ []) ∷ []) refl xs e)
    where
      go : (xs : List X) → (Letters w ∷ []) ∷ [] ≢ map printing xs
      go [] h = cc
      go (x ∷ []) h = none x (cc)
      go (x ∷ y ∷ xs) h = cc

-- ---- pieces

-- letters that differ
pub other_letters : (v w : List ℕ) → bytes_eq v w ≡ false → (ps qs : List Piece) → Letters v ∷ ps ≢ Letters w ∷ qs
other_letters v w other ps qs e = let same : v ≡ w = cc in let h : false ≡ true = sym other ∙ (bytes_eq-Decides v w).1 same in cc h

-- the pieces behind letters, a number and a jump
pub behind_letters : (w : List ℕ) (ps : List Piece) → Finds (λ qs. Letters w ∷ qs) ps
behind_letters w (Letters v ∷ ps) = elim (same_word v w) [ yes e ↦ Found ps (ap (λ x. Letters x ∷ ps) e) | no other ↦ Missing λ qs e. other (cc) ]
behind_letters w ps = Missing λ qs e. cc

pub find_piece_count : (p : Piece) → Finds Count p
find_piece_count (Count n) = Found n refl
find_piece_count p = Missing λ n e. cc

pub find_piece_jump : (p : Piece) → Finds Jump p
find_piece_jump (Jump j) = Found j refl
find_piece_jump p = Missing λ j e. cc
