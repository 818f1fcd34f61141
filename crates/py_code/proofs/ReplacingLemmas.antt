-- Names of texts in a table that grows.
use Rattle.std.proofs.Common.{◌≡◌, ℕ, zero, suc, List, [], ◌∷◌, ◌++◌, Some, None, refl, sym, ap, ◌∙◌, map, append_assoc, append-nil, take, drop, length, get_or, ◌+◌, ◌<◌}
use Rattle.std.specs.Prelude.{Option, slice_get, encode_utf8_all}
use Rattle.std.proofs.lemmas.List.{map_more, map-append, take-append-drop}
use Rattle.py_code.specs.declared.literal.Literal.{Literal, Str as StrLiteral}
use Rattle.py_code.specs.declared.literal.LiteralList.{LiteralList}
use Rattle.py_code.specs.declared.names.NameId.{NameId}
use Rattle.py_code.specs.Literals.{literals_of}
use Rattle.py_code.specs.Names.{interned, all_interned, AreInterned}
use Rattle.py_code.specs.Replacing.{text_bytes, texts_of, AreNames, AreNamesOr, IsNameOr}
use Rattle.py_code.specs.Texts.{IsGrown}
use Rattle.py_code.proofs.NamesLemmas.{grown-interned}

pub grown-trans : {A : Type 0} (a b c : List A) → IsGrown a b → IsGrown b c → IsGrown a c
grown-trans {A} a b c (m, e) (n, f) = (m ++ n, f ∙ ap (λ (l : List A). l ++ n) e ∙ append_assoc a m n)

-- what stands at the front stays where it is
slice_get-front : {A : Type 0} (xs ys : List A) (i : ℕ) (x : A) → slice_get xs i ≡ Some x → slice_get (xs ++ ys) i ≡ Some x
slice_get-front [] ys i x there = cc
slice_get-front (y ∷ xs) ys zero x there = there
slice_get-front (y ∷ xs) ys (suc i) x there = slice_get-front xs ys i x there

slice_get-grown : {A : Type 0} (old new : List A) (i : ℕ) (x : A) → IsGrown old new → slice_get old i ≡ Some x → slice_get new i ≡ Some x
slice_get-grown old new i x (more, is) there = rw is (slice_get-front old more i x there)

-- texts are interned in two parts
pub all_interned-append : (table xs ys : List (List ℕ)) → all_interned table (xs ++ ys) ≡ all_interned (all_interned table xs) ys
all_interned-append table [] ys = refl
all_interned-append table (x ∷ xs) ys = all_interned-append (interned table x) xs ys

pub all_interned-grown : (table texts : List (List ℕ)) → IsGrown table (all_interned table texts)
all_interned-grown table [] = ([], sym (append-nil table))
all_interned-grown table (x ∷ xs) = grown-trans table (interned table x) (all_interned (interned table x) xs) (grown-interned table (interned table x) x refl) (all_interned-grown (interned table x) xs)

-- a table of which this is so has grown
pub interned_grown : (texts old new : List (List ℕ)) → new ≡ all_interned old texts → IsGrown old new
interned_grown texts old new is = rw is (all_interned-grown old texts)

-- all are some
pub all_are : (texts old new : List (List ℕ)) → new ≡ all_interned old texts → AreInterned texts old new
all_are texts old new is = (texts, [], sym (append-nil texts), is)

-- none are some
pub none_are : (texts old new : List (List ℕ)) → new ≡ old → AreInterned texts old new
none_are texts old new is = ([], texts, refl, is)

-- some of the first texts are some of all
pub more_left : (texts more old new : List (List ℕ)) → AreInterned texts old new → AreInterned (texts ++ more) old new
more_left texts more old new (done, left, are, is) = (done, left ++ more, ap (λ (t : List (List ℕ)). t ++ more) are ∙ append_assoc done left more, is)

-- all of the first texts, and some of the next
pub more_done : (first texts old middle new : List (List ℕ)) → middle ≡ all_interned old first → AreInterned texts middle new → AreInterned (first ++ texts) old new
more_done first texts old middle new all (done, left, are, is) = (
  first ++ done,
  left,
  ap (λ (t : List (List ℕ)). first ++ t) are ∙ sym (append_assoc first done left),
  is ∙ ap (λ (t : List (List ℕ)). all_interned t done) all ∙ sym (all_interned-append old first done),
)

module _ (old a b c d : List (List ℕ)) where
  -- the first of four lists failed
  pub first_failed : (t : List (List ℕ)) → AreInterned a old t → AreInterned (a ++ b ++ c ++ d) old t
  first_failed t some = more_left (a ++ b ++ c) d old t (more_left (a ++ b) c old t (more_left a b old t some))

  module _ (first : List (List ℕ)) (one : first ≡ all_interned old a) where
    -- the second did
    pub second_failed : (t : List (List ℕ)) → AreInterned b first t → AreInterned (a ++ b ++ c ++ d) old t
    second_failed t some = more_left (a ++ b ++ c) d old t (more_left (a ++ b) c old t (more_done a b old first t one some))

    module _ (second : List (List ℕ)) (two : second ≡ all_interned first b) where
      until_second : second ≡ all_interned old (a ++ b)
      until_second = two ∙ ap (λ (t : List (List ℕ)). all_interned t b) one ∙ sym (all_interned-append old a b)

      -- the third did
      pub third_failed : (t : List (List ℕ)) → AreInterned c second t → AreInterned (a ++ b ++ c ++ d) old t
      third_failed t some = more_left (a ++ b ++ c) d old t (more_done (a ++ b) c old second t until_second some)

      module _ (third : List (List ℕ)) (three : third ≡ all_interned second c) where
        until_third : third ≡ all_interned old (a ++ b ++ c)
        until_third = three ∙ ap (λ (t : List (List ℕ)). all_interned t c) until_second ∙ sym (all_interned-append old (a ++ b) c)

        -- the fourth did
        pub fourth_failed : (t : List (List ℕ)) → AreInterned d third t → AreInterned (a ++ b ++ c ++ d) old t
        fourth_failed t some = more_done (a ++ b ++ c) d old third t until_third some

        -- none did
        pub all_done : (t : List (List ℕ)) → t ≡ all_interned third d → t ≡ all_interned old (a ++ b ++ c ++ d)
        all_done t four = four ∙ ap (λ (u : List (List ℕ)). all_interned u d) until_third ∙ sym (all_interned-append old (a ++ b ++ c) d)

-- names stay those of their texts
pub AreNames-grown : (old new : List (List ℕ)) (ids : List NameId) (texts : List (List ℕ)) → IsGrown old new → AreNames old ids texts → AreNames new ids texts
AreNames-grown old new [] [] grows named = refl
AreNames-grown old new [] (t ∷ ts) grows named = cc
AreNames-grown old new (id ∷ ids) [] grows named = cc
AreNames-grown old new (id ∷ ids) (t ∷ ts) grows named =
    let here : slice_get old id.index ≡ Some t = cc in
    let others : AreNames old ids ts = cc in
    let one : slice_get new id.index ≡ Some t = slice_get-grown old new id.index t grows here in
    let rest : AreNames new ids ts = AreNames-grown old new ids ts grows others in
    λ k. one k ∷ rest k

pub AreNamesOr-grown : (old new : List (List ℕ)) (given : Option LiteralList) (own ids : List NameId) → IsGrown old new → AreNamesOr old given own ids → AreNamesOr new given own ids
AreNamesOr-grown old new None own ids grows named = named
AreNamesOr-grown old new (Some list) own ids grows named = AreNames-grown old new ids (map text_bytes (literals_of list)) grows named

pub IsNameOr-grown : (old new : List (List ℕ)) (given : Option (List ℕ)) (own id : NameId) → IsGrown old new → IsNameOr old given own id → IsNameOr new given own id
IsNameOr-grown old new None own id grows named = named
IsNameOr-grown old new (Some text) own id grows named = slice_get-grown old new id.index (encode_utf8_all text) grows named

-- one more name
pub AreNames-more : (old new : List (List ℕ)) (ids more : List NameId) (texts : List (List ℕ)) (id : NameId) (text : List ℕ) → IsGrown old new
    → slice_get new id.index ≡ Some text → more ≡ ids ++ id ∷ [] → AreNames old ids texts → AreNames new more (texts ++ text ∷ [])
AreNames-more old new ids more texts id text grows found made named =
    let before : AreNames new ids texts = AreNames-grown old new ids texts grows named in
    ap (map (λ (n : NameId). slice_get new n.index)) made
    ∙ map-append (λ (n : NameId). slice_get new n.index) ids (id ∷ [])
    ∙ (λ k. before k ++ found k ∷ [])
    ∙ sym (map-append Some texts (text ∷ []))

-- a text more, in UTF-8
pub texts_more : (literals : List Literal) (i : ℕ) (l : Literal) (text : List ℕ) → i < length literals → l ≡ get_or literals i l → l ≡ StrLiteral text
    → map text_bytes (take (i + 1) literals) ≡ map text_bytes (take i literals) ++ encode_utf8_all text ∷ []
texts_more literals i l text low here is =
    map_more text_bytes literals i l low ∙ ap (λ (t : List ℕ). map text_bytes (take i literals) ++ t ∷ []) (ap text_bytes (sym here ∙ is))

-- and the table with it
pub table_more : (old before after : List (List ℕ)) (literals : List Literal) (i : ℕ) (l : Literal) (text spelled : List ℕ) → i < length literals → l ≡ get_or literals i l
    → l ≡ StrLiteral text → spelled ≡ encode_utf8_all text → before ≡ all_interned old (map text_bytes (take i literals)) → after ≡ interned before spelled
    → after ≡ all_interned old (map text_bytes (take (i + 1) literals))
table_more old before after literals i l text spelled low here is bytes all one =
    one ∙ ap (interned before) bytes ∙ ap (λ (t : List (List ℕ)). interned t (encode_utf8_all text)) all
    ∙ sym (all_interned-append old (map text_bytes (take i literals)) (encode_utf8_all text ∷ [])) ∙ ap (all_interned old) (sym (texts_more literals i l text low here is))

-- the first of the constants are some
pub first_are : (list : LiteralList) (i : ℕ) (old new : List (List ℕ)) → new ≡ all_interned old (map text_bytes (take i (literals_of list))) → AreInterned (texts_of list) old new
first_are list i old new is = (
  map text_bytes (take i (literals_of list)),
  map text_bytes (drop i (literals_of list)),
  ap (map text_bytes) (sym (take-append-drop i (literals_of list))) ∙ map-append text_bytes (take i (literals_of list)) (drop i (literals_of list)),
  is,
)
