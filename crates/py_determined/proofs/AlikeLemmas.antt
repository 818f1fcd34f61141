-- What is seen of alike payloads is the same: values, names of types, and which classes derive from which.
use Rattle.std.proofs.Common.{◌≡◌, ◌+◌, ◌||◌, ℕ, suc, Bool, true, false, cond, Option, Some, None, List, [], ◌∷◌, ℤ, int_le, bytes_eq, ◌&&◌, refl, sym, ap, ap₂, subst, ◌∙◌, slice_get, eqb, arith}
use Rattle.std.specs.List.{list_any, position_from}
use Rattle.std.proofs.lemmas.Bool.{eqb-true}
use Rattle.std.proofs.lemmas.Bool.Decides.{nat_tests}
use Rattle.std.proofs.lemmas.Int.{ints}
use Rattle.std.proofs.lemmas.Slice.Eq.{bytes_eq-Decides}
use Rattle.py_objects.specs.declared.payload.Payload.{Payload}
use Rattle.py_objects.specs.declared.payload.Payload.TheVariants as payload
use Rattle.py_objects.specs.declared.payload.ClassBody.{ClassBody}
use Rattle.py_objects.specs.Objects.{Obj, Name, HasPayload, class_object}
use Rattle.py_objects.specs.Values.{number_of, text_of, is_none, both, same_number, same_value, same_key}
use Rattle.py_objects.specs.Callees.{is_manager}
use Rattle.py_objects.specs.Ancestry.{class_in, has_name, first_class, derives, derives_by, IsDerived}
use Rattle.py_exceptions.specs.TypeNames.{IsTypeName}
use Rattle.py_exceptions.specs.Deriving.{IsInstanceOf}
use Rattle.py_answers.specs.Answers.{is_true}
use Rattle.py_answers.specs.Replying.{is_generator}
use Rattle.py_agreement.specs.Agreement.{Relation, SameMaybe, SameAll, has_literal}
use Rattle.py_determined.specs.Alike.{Alike, AreAlike, numbered}

-- ---- numbers, and places in lists

-- a test of two numbers is the same both ways
pub eqb_turned : (m n : ℕ) → eqb m n ≡ eqb n m
eqb_turned m n = grind (arith, nat_tests)

-- a search finds an entry that passes its test
pub found_from : (test : Payload → Bool) (ps : List Payload) (i k : ℕ) → position_from test i ps ≡ Some k
    → (j : ℕ) × (p : Payload) × (k ≡ i + j) × (slice_get ps j ≡ Some p) × (test p ≡ true)
found_from test [] i k found = absurd (cc found)
found_from test (p ∷ ps) i k found =
    by (test p) refl found (found_from test ps (i + 1) k)
  where
    by : (b : Bool) → test p ≡ b → cond b (Some i) (position_from test (i + 1) ps) ≡ Some k
        → (position_from test (i + 1) ps ≡ Some k → (j : ℕ) × (q : Payload) × (k ≡ i + 1 + j) × (slice_get ps j ≡ Some q) × (test q ≡ true))
        → (j : ℕ) × (q : Payload) × (k ≡ i + j) × (slice_get (p ∷ ps) j ≡ Some q) × (test q ≡ true)
    by true is here later = let same : i ≡ k = cc in (0, p, omega arith, refl, is)
    by false is there later = let (j, q, e, at, passes) = later there in (suc j, q, omega arith, at, passes)

-- what has the name of a class is one
class_named : (n : Name) (p : Payload) → has_name n (class_in (Some p)) ≡ true → (c : ClassBody) × (p ≡ payload.Class c)
class_named n (payload.Class c) e = (c, refl)
class_named n _ e = absurd (cc e)

-- the first class of a name is a class
first_is_class : (n : Name) (objects : List Payload) (i : ℕ) → first_class n objects ≡ Some i → (c : ClassBody) × HasPayload objects (numbered i) (payload.Class c)
first_is_class n objects i found =
    let (j, p, e, at, passes) = found_from (λ p. has_name n (class_in (Some p))) objects 0 i found in
    let (c, is) = class_named n p passes in
    let here : i ≡ j = omega arith in
    (c, ap (slice_get objects) here ∙ at ∙ ap Some is)

-- ---- values

-- a value is that of itself
same_itself : (p : Payload) → has_literal p ≡ true → same_value p p ≡ true
same_itself payload.None e = refl
same_itself (payload.Bool true) e = refl
same_itself (payload.Bool false) e = refl
same_itself (payload.Int n) e = let whole : int_le n n ≡ true = grind (arith, ints) in rw whole refl
same_itself (payload.Str s) e = (bytes_eq-Decides s s).1 refl
same_itself _ e = absurd (cc e)

-- what no literal stands for has the value of nothing
no_value : (p q : Payload) → has_literal p ≡ false → same_value p q ≡ false
no_value payload.None q e = absurd (cc e)
no_value (payload.Bool b) q e = absurd (cc e)
no_value (payload.Int n) q e = absurd (cc e)
no_value (payload.Str s) q e = absurd (cc e)
no_value _ q e = refl

-- two objects are one key by their values, where a literal stands for the first one
literal_key : (objects : List Payload) (a b : Obj) (p q : Payload) → HasPayload objects a p → HasPayload objects b q → has_literal p ≡ true
    → same_key objects a b ≡ same_value p q
literal_key objects a b p q has has' literal =
    ap₂ (λ x y. eqb a.number b.number || both same_value x y) has has' ∙ by (eqb a.number b.number) refl
  where
    by : (c : Bool) → eqb a.number b.number ≡ c → (c || same_value p q) ≡ same_value p q
    by true is =
        let same : p ≡ q = let e : a.number ≡ b.number = eqb-true a.number b.number is in cc in
        sym (subst (λ r. same_value p r ≡ true) same (same_itself p literal))
    by false is = refl

-- and by being the same, where none does
other_key : (objects : List Payload) (a b : Obj) (p q : Payload) → HasPayload objects a p → HasPayload objects b q → has_literal p ≡ false
    → same_key objects a b ≡ eqb a.number b.number
other_key objects a b p q has has' other =
    ap₂ (λ x y. eqb a.number b.number || both same_value x y) has has' ∙ ap (λ c. eqb a.number b.number || c) (no_value p q other) ∙ by (eqb a.number b.number)
  where
    by : (c : Bool) → (c || false) ≡ c
    by true = refl
    by false = refl

-- whether a payload is a function's
abbrev is_function : Payload → Bool
is_function (payload.Function f) = true
is_function _ = false

-- what is seen of a payload: whether it is None, its number and its text, whether it counts as true, whether it is a function, a generator or a
-- manager, and whether a literal stands for it
pub record Seen : Type 0 where
  pub none : Bool
  pub number : Option ℤ
  pub text : Option Name
  pub truth : Bool
  pub function : Bool
  pub generator : Bool
  pub manager : Bool
  pub literal : Bool

abbrev pub seen : Payload → Seen
seen p = record {
  none = is_none p;
  number = number_of p;
  text = text_of p;
  truth = is_true p;
  function = is_function p;
  generator = is_generator p;
  manager = is_manager p;
  literal = has_literal p;
}

-- whether values are one, by what is seen of them
abbrev same_seen : Seen → Seen → Bool
same_seen x y = (x.none && y.none) || both same_number x.number y.number || both bytes_eq x.text y.text

module _ (S : Relation) (objects objects' : List Payload) (alike : AreAlike S objects objects') where
  -- of alike payloads the same is seen
  pub seen_same : (p q : Payload) → Alike S objects objects' p q → seen p ≡ seen q
  seen_same payload.None payload.None s = refl
  seen_same (payload.Bool b) (payload.Bool c) s = ap (λ x. seen (payload.Bool x)) s
  seen_same (payload.Int m) (payload.Int n) s = ap (λ x. seen (payload.Int x)) s
  seen_same (payload.Str s) (payload.Str t) e = ap (λ x. seen (payload.Str x)) e
  seen_same (payload.Class c) (payload.Class d) s = refl
  seen_same (payload.Function f) (payload.Function g) s = refl
  seen_same (payload.Builtin f) (payload.Builtin g) s = refl
  seen_same (payload.Manager m) (payload.Manager n) s = refl
  seen_same (payload.Generator g) (payload.Generator h) s = refl
  seen_same (payload.Exception e) (payload.Exception f) s = refl
  seen_same (payload.Traceback t) (payload.Traceback u) s = refl
  seen_same _ _ s = absurd s

  -- two objects are one key on both sides, or on none
  pub keys_agree : (a b a' b' : Obj) (p q p' q' : Payload) → S a a' → S b b'
      → HasPayload objects a p → HasPayload objects b q → HasPayload objects' a' p' → HasPayload objects' b' q' → same_key objects a b ≡ same_key objects' a' b'
  keys_agree a b a' b' p q p' q' same_a same_b has_p has_q has_p' has_q' =
      by (has_literal p) refl
    where
      first : seen p ≡ seen p'
      first = seen_same p p' (alike.payloads a a' p p' same_a has_p has_p')

      second : seen q ≡ seen q'
      second = seen_same q q' (alike.payloads b b' q q' same_b has_q has_q')

      by : (c : Bool) → has_literal p ≡ c → same_key objects a b ≡ same_key objects' a' b'
      by true is =
          literal_key objects a b p q has_p has_q is
          ∙ ap₂ same_seen first second
          ∙ sym (literal_key objects' a' b' p' q' has_p' has_q' (sym (ap (λ x. x.literal) first) ∙ is))
      by false is =
          other_key objects a b p q has_p has_q is
          ∙ alike.one a b a' b' p same_a same_b has_p is
          ∙ sym (other_key objects' a' b' p' q' has_p' has_q' (sym (ap (λ x. x.literal) first) ∙ is))

  -- alike payloads are of types of one name
  pub type_names_agree : (p q : Payload) (n m : Name) → Alike S objects objects' p q → IsTypeName objects p n → IsTypeName objects' q m → n ≡ m
  type_names_agree payload.None payload.None n m s a b = a ∙ sym b
  type_names_agree (payload.Bool c) (payload.Bool d) n m s a b = a ∙ sym b
  type_names_agree (payload.Int i) (payload.Int j) n m s a b = a ∙ sym b
  type_names_agree (payload.Str t) (payload.Str u) n m s a b = a ∙ sym b
  type_names_agree (payload.Class c) (payload.Class d) n m s a b = a ∙ sym b
  type_names_agree (payload.Function f) (payload.Function g) n m s a b = a ∙ sym b
  type_names_agree (payload.Builtin f) (payload.Builtin g) n m s a b = a ∙ sym b
  type_names_agree (payload.Manager f) (payload.Manager g) n m s a b = a ∙ sym b
  type_names_agree (payload.Generator g) (payload.Generator h) n m s a b = cc
  type_names_agree (payload.Exception e) (payload.Exception f) n m s (c, has, is) (d, has', is') =
      is ∙ (alike.payloads (class_object e.class) (class_object f.class) (payload.Class c) (payload.Class d) s.class has has').0 ∙ sym is'
  type_names_agree (payload.Traceback t) (payload.Traceback u) n m s a b = a ∙ sym b
  type_names_agree _ _ n m s a b = absurd s

  -- ---- classes

  -- whether one of them is a class
  among_agree : (c d : Obj) (e : ClassBody) (vs ws : List Obj) → S c d → HasPayload objects c (payload.Class e) → SameAll S vs ws
      → list_any (λ v. eqb v.number c.number) vs ≡ list_any (λ w. eqb w.number d.number) ws
  among_agree c d e [] [] s has same = refl
  among_agree c d e (v ∷ vs) (w ∷ ws) s has same =
      ap₂ (λ x y. x || y) (eqb_turned v.number c.number ∙ alike.one c v d w (payload.Class e) s same.0 has refl ∙ eqb_turned d.number w.number) (among_agree c d e vs ws s has same.1)
  among_agree c d e _ _ s has same = absurd same

  -- a class derives from a class on both sides, or on none
  derives_agree : (v w c d : Obj) (x y e : ClassBody) → S v w → HasPayload objects v (payload.Class x) → HasPayload objects' w (payload.Class y)
      → S c d → HasPayload objects c (payload.Class e) → derives (record { number = v.number }) x c ≡ derives (record { number = w.number }) y d
  derives_agree v w c d x y e same has has' s is =
      ap₂ (λ a b. a || b) (alike.one v c w d (payload.Class x) same s has refl)
      (among_agree c d e x.mro y.mro s is (alike.payloads v w (payload.Class x) (payload.Class y) same has has').1)

  -- and so from the built-in class of a name
  pub derived_agree : (v w : Obj) (n : Name) (b b' : Bool) → S v w → IsDerived objects v n b → IsDerived objects' w n b' → b ≡ b'
  derived_agree v w n b b' s (c, has, is) (d, has', is') =
      is ∙ ap (λ x. derives_by v (class_in x) (first_class n objects)) has ∙ by (first_class n objects) (first_class n objects') refl (alike.first n)
      ∙ ap (λ x. derives_by w (class_in x) (first_class n objects')) (sym has') ∙ sym is'
    where
      by : (i j : Option ℕ) → first_class n objects ≡ i → SameMaybe (λ k l. S (numbered k) (numbered l)) i j → derives_by v (Some c) i ≡ derives_by w (Some d) j
      by None None e same = refl
      by (Some i) (Some j) e same =
          let (body, there) = first_is_class n objects i e in
          derives_agree v w (numbered i) (numbered j) c d body s has has' same there
      by _ _ e same = absurd same

  -- an exception is of a class on both sides, or on none
  pub instances_agree : (p q : Payload) (c d : Obj) (x : ClassBody) (b b' : Bool) → Alike S objects objects' p q → S c d → HasPayload objects c (payload.Class x)
      → IsInstanceOf objects p c b → IsInstanceOf objects' q d b' → b ≡ b'
  instances_agree (payload.Exception e) (payload.Exception f) c d x b b' s same has (y, is, e1) (z, is', e2) =
      e1 ∙ derives_agree (class_object e.class) (class_object f.class) c d y z x s.class is is' same has ∙ sym e2
  instances_agree (payload.Exception e) _ c d x b b' s same has a a' = absurd s
  instances_agree _ (payload.Exception f) c d x b b' s same has a a' = absurd s
  instances_agree _ _ c d x b b' s same has a a' = a ∙ sym a'
