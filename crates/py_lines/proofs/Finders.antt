-- Finders: what prints some tokens, or that nothing does, from finders of its parts.
use Rattle.std.proofs.Common.{◌≡◌, ◌≢◌, List, [], ◌∷◌, refl, sym, ap, ◌∙◌, map}

-- what prints these, or that nothing does
pub data Finds {X T : Type 0} (printing : X → T) (ts : T) : Type 0 where
  Found : (x : X) → ts ≡ printing x → Finds printing ts
  Missing : ((x : X) → ts ≢ printing x) → Finds printing ts

-- what is found, or else what is found besides
pub or_else : {X T C : Type 0} {p : X → T} {t : T} → Finds p t → ((x : X) → t ≡ p x → C) → (((x : X) → t ≢ p x) → C) → C
or_else (Found x e) found other = found x e
or_else (Missing none) found other = other none

-- what is found within what is found around it
pub find_within : {X S T : Type 0} {p : X → S} {q : S → T} {t : T} → ((a b : S) → q a ≡ q b → a ≡ b) → Finds q t → ((s : S) → Finds p s) → Finds (λ x. q (p x)) t
find_within {p = p} {q = q} same around find =
    or_else around
    (λ s e. or_else (find s) (λ x f. Found x (e ∙ ap q f)) λ none. Missing λ x f. none x (same s (p x) (sym e ∙ f)))
    (λ none. Missing λ x. none (p x))

-- what is found behind a token
pub find_behind : {X T : Type 0} {p : X → List T} {t : T} {ts : List T} → Finds (λ us. t ∷ us) ts → ((us : List T) → Finds p us) → Finds (λ x. t ∷ p x) ts
find_behind = find_within (λ us vs e. cc)

pub find_nothing : {T : Type 0} (ts : List T) → Finds (λ (x : Unit {0}). []) ts
find_nothing [] = Found tt refl
find_nothing (t ∷ ts) = Missing λ x e. cc

-- one thing in a token, and another in those behind it
both : {X Y T : Type 0} {p : X → T} {q : Y → List T} {t : T} {ts : List T} → Finds p t → Finds q ts → Finds (λ (z : X × Y). p z.0 ∷ q z.1) (t ∷ ts)
both (Found x e) (Found y f) = Found (x, y) (cc)
both (Missing none) rest = Missing λ z e. none z.0 (cc)
both first (Missing none) = Missing λ z e. none z.1 (cc)

pub find_both : {X Y T : Type 0} {p : X → T} {q : Y → List T} → ((t : T) → Finds p t) → ((ts : List T) → Finds q ts) → (ts : List T) → Finds (λ (z : X × Y). p z.0 ∷ q z.1) ts
find_both first behind [] = Missing λ z e. cc
find_both first behind (t ∷ ts) = both (first t) (behind ts)

pub find_lone : {X T : Type 0} {p : X → T} → ((t : T) → Finds p t) → (ts : List T) → Finds (λ x. p x ∷ []) ts
find_lone find ts = or_else (find_both find find_nothing ts) (λ z. Found z.0) λ none. Missing λ x. none (x, tt)

pub find_all : {X T : Type 0} {p : X → T} → ((t : T) → Finds p t) → (ts : List T) → Finds (map p) ts
find_all find [] = Found [] refl
find_all find (t ∷ ts) = or_else (both (find t) (find_all find ts)) (λ z. Found (z.0 ∷ z.1)) λ none. Missing (elim [ [] ↦ λ e. cc | x ∷ xs ↦ none (x, xs) ])
