-- What one list of objects has once: the payload of an object, the name of a type, and whether a class derives from another.
use Rattle.std.proofs.Common.{◌≡◌, false, List, Option, Some, None, sym, subst, ◌∙◌}
use Rattle.std.specs.Prelude.{slice_get}
use Rattle.std.proofs.lemmas.Option.{same_Some}
use Rattle.py_objects.specs.declared.payload.Payload.{Payload}
use Rattle.py_objects.specs.declared.payload.Payload.TheVariants as payload
use Rattle.py_objects.specs.declared.payload.ExceptionBody.{ExceptionBody}
use Rattle.py_objects.specs.declared.refs.PyTypeRef.{PyTypeRef}
use Rattle.py_objects.specs.Objects.{Obj, Name, HasPayload, class_object}
use Rattle.py_objects.specs.Ancestry.{IsDerived, derives, derives_from}
use Rattle.py_objects.specs.Values.{exception_of}
use Rattle.py_exceptions.specs.TypeNames.{IsNameOf, IsTypeName}
use Rattle.py_exceptions.specs.Deriving.{IsOfClass, IsInstanceOf}
use Rattle.py_once.specs.Laws.{AtMostOne}

-- ---- at most one

-- what is said by an equation is one
pub said_once : {A : Type 0} (a : A) → AtMostOne (λ x. x ≡ a)
said_once a x y is is' = is ∙ sym is'

pub some_once : {A : Type 0} (o : Option A) → AtMostOne (λ x. o ≡ Some x)
some_once o x y is is' = same_Some x y (sym is ∙ is')

-- so is what is said by something of which there is one
pub by_one : {B A : Type 0} (P : B → Type 0) (R : B → A → Type 0) → AtMostOne P → ((b : B) → AtMostOne (R b)) → AtMostOne (λ x. (b : B) × P b × R b x)
by_one P R one once x y (b, p, r) (c, q, s) = once b x y r (subst (λ z. R z y) (one c b q p) s)

module _ (objects : List Payload) where
  -- ---- payloads

  -- an object has one payload
  pub one_payload : (v : Obj) → AtMostOne (HasPayload objects v)
  one_payload v = some_once (slice_get objects v.number)

  -- what is said by the payload of an object
  pub by_payload : {A : Type 0} (v : Obj) (R : Payload → A → Type 0) → ((p : Payload) → AtMostOne (R p))
      → AtMostOne (λ x. (p : Payload) × HasPayload objects v p × R p x)
  by_payload v R once = by_one (HasPayload objects v) R (one_payload v) once

  -- an object is one thing of a kind
  one_of : {B : Type 0} (v : Obj) (kind : B → Payload) → ((b c : B) → kind b ≡ kind c → b ≡ c) → AtMostOne (λ b. HasPayload objects v (kind b))
  one_of v kind parts b c has has' = parts b c (one_payload v (kind b) (kind c) has has')

  pub one_class : (v : Obj) → AtMostOne (λ c. HasPayload objects v (payload.Class c))
  one_class v = one_of v payload.Class (λ b c same. cc)

  pub one_exception : (v : Obj) → AtMostOne (λ e. HasPayload objects v (payload.Exception e))
  one_exception v = one_of v payload.Exception (λ b c same. cc)

  pub one_tuple : (v : Obj) → AtMostOne (λ vs. HasPayload objects v (payload.Tuple vs))
  one_tuple v = one_of v payload.Tuple (λ b c same. cc)

  pub one_function : (v : Obj) → AtMostOne (λ f. HasPayload objects v (payload.Function f))
  one_function v = one_of v payload.Function (λ b c same. cc)

  pub one_manager : (v : Obj) → AtMostOne (λ m. HasPayload objects v (payload.Manager m))
  one_manager v = one_of v payload.Manager (λ b c same. cc)

  pub one_generator : (v : Obj) → AtMostOne (λ g. HasPayload objects v (payload.Generator g))
  one_generator v = one_of v payload.Generator (λ b c same. cc)

  -- ---- types and classes

  name_once : (class : PyTypeRef) → AtMostOne (IsNameOf objects class)
  name_once class =
      by_one (λ c. HasPayload objects (class_object class) (payload.Class c)) (λ c n. n ≡ c.name)
      (one_class (class_object class)) (λ c. said_once c.name)

  -- a type has one name
  pub type_name_once : (p : Payload) → AtMostOne (IsTypeName objects p)
  type_name_once (payload.Exception e) m n is is' = name_once e.class m n is is'
  type_name_once _ m n is is' = is ∙ sym is'

  -- whether a class derives from another is one thing
  pub derived_once : (v : Obj) (x : Name) → AtMostOne (IsDerived objects v x)
  derived_once v x =
      by_one (λ c. HasPayload objects v (payload.Class c)) (λ c b. b ≡ derives_from objects v x)
      (one_class v) (λ c. said_once (derives_from objects v x))

  of_class_once : (e : Option ExceptionBody) (c : Obj) → AtMostOne (IsOfClass objects e c)
  of_class_once None c = said_once false
  of_class_once (Some e) c =
      by_one (λ body. HasPayload objects (class_object e.class) (payload.Class body)) (λ body b. b ≡ derives e.class body c)
      (one_class (class_object e.class)) (λ body. said_once (derives e.class body c))

  -- so is whether an exception is of a class
  pub instance_once : (p : Payload) (c : Obj) → AtMostOne (IsInstanceOf objects p c)
  instance_once p c = of_class_once (exception_of p) c
