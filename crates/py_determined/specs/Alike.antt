-- When the objects of two runs are alike: what is seen of related objects is the same, but for their numbers.
use Rattle.std.specs.Prelude.{ℕ, false, true, List, [], ◌∷◌, ◌≡◌, eqb}
use Rattle.py_objects.specs.declared.payload.Payload.{Payload}
use Rattle.py_objects.specs.declared.payload.Payload.TheVariants as payload
use Rattle.py_objects.specs.declared.payload.ExceptionBody.{ExceptionBody}
use Rattle.py_objects.specs.Objects.{Obj, Name, HasPayload, class_object, declared}
use Rattle.py_objects.specs.Attrs.{Attrs}
use Rattle.py_objects.specs.Ancestry.{first_class}
use Rattle.py_agreement.specs.Agreement.{Relation, SameMaybe, SameAll, has_literal}

-- attributes of the same names in one order, with related values
abbrev pub SameAttrs : Relation → Attrs → Attrs → Type 0
SameAttrs S [] [] = Unit {0}
SameAttrs S (a ∷ attrs) (b ∷ attrs') = (a.0 ≡ b.0) × S a.1 b.1 × SameAttrs S attrs attrs'
SameAttrs S _ _ = ⊥

-- two exceptions of related classes, with related arguments, attributes and links, and both with the context left out of what is printed or neither
pub record AlikeExceptions (S : Relation) (objects objects' : List Payload) (e f : ExceptionBody) : Type 0 where
  pub class : S (class_object e.class) (class_object f.class)
  pub arguments : (vs ws : List Obj) → HasPayload objects e.args (payload.Tuple vs) → HasPayload objects' f.args (payload.Tuple ws) → SameAll S vs ws
  pub attrs : SameAttrs S e.attrs f.attrs
  pub cause : SameMaybe S e.cause f.cause
  pub context : SameMaybe S e.context f.context
  pub suppress : e.suppress ≡ f.suppress
  pub traceback : SameMaybe S e.traceback f.traceback

-- two payloads of one kind: equal values, and entries that name related objects. Tuples, dicts, codes and frames are no values of
-- scripts without raw codes
abbrev pub Alike : Relation → List Payload → List Payload → Payload → Payload → Type 0
Alike S objects objects' payload.None payload.None = Unit {0}
Alike S objects objects' (payload.Bool b) (payload.Bool c) = b ≡ c
Alike S objects objects' (payload.Int m) (payload.Int n) = m ≡ n
Alike S objects objects' (payload.Str s) (payload.Str t) = s ≡ t
Alike S objects objects' (payload.Class c) (payload.Class d) = (c.name ≡ d.name) × SameAll S c.mro d.mro
Alike S objects objects' (payload.Function f) (payload.Function g) = f ≡ g
Alike S objects objects' (payload.Builtin f) (payload.Builtin g) = f ≡ g
Alike S objects objects' (payload.Manager m) (payload.Manager n) = (m.name ≡ n.name) × S m.enter n.enter × S m.exit n.exit
Alike S objects objects' (payload.Generator g) (payload.Generator h) = g ≡ h
Alike S objects objects' (payload.Exception e) (payload.Exception f) = AlikeExceptions S objects objects' e f
Alike S objects objects' (payload.Traceback t) (payload.Traceback u) = Unit {0}
Alike S objects objects' _ _ = ⊥

-- the object with this number
abbrev pub numbered : ℕ → Obj
numbered i = record { number = i }

-- the objects of two runs are alike: two that one literal may stand for are related, related ones have payloads that are alike, of an object that no
-- literal stands for there is one on the other side, and what is declared under a name, and the first class of a name, are related
pub record AreAlike (S : Relation) (objects objects' : List Payload) : Type 0 where
  pub literals : (p : Payload) (v w : Obj) → has_literal p ≡ true → HasPayload objects v p → HasPayload objects' w p → S v w
  pub payloads : (v w : Obj) (p q : Payload) → S v w → HasPayload objects v p → HasPayload objects' w q → Alike S objects objects' p q
  pub one : (v v2 w w2 : Obj) (p : Payload) → S v w → S v2 w2 → HasPayload objects v p → has_literal p ≡ false → eqb v.number v2.number ≡ eqb w.number w2.number
  pub declares : (x : Name) → SameMaybe S (declared objects x) (declared objects' x)
  pub first : (x : Name) → SameMaybe (λ i j. S (numbered i) (numbered j)) (first_class x objects) (first_class x objects')
