-- New exceptions: the objects that they add.
use Rattle.std.proofs.Common.{◌≡◌, ◌≤◌, ◌+◌, ◌++◌, ℕ, Bool, true, false, List, [], ◌∷◌, refl, ap, subst, ◌∙◌, length, length-append, arith}
use Rattle.std.specs.Prelude.{Option, Some, None}
use Rattle.std.proofs.lemmas.Option.{slice_get_within}
use Rattle.py_objects.specs.declared.refs.PyTypeRef.{PyTypeRef}
use Rattle.py_objects.specs.declared.refs.PyBaseExceptionRef.{PyBaseExceptionRef}
use Rattle.py_objects.specs.declared.payload.Payload.{Payload}
use Rattle.py_objects.specs.declared.payload.Payload.TheVariants as payload
use Rattle.py_objects.specs.declared.error_kind.ErrorKind.{ErrorKind}
use Rattle.py_objects.specs.ErrorKinds.{name_of}
use Rattle.py_objects.specs.Objects.{Obj, Name, HasPayload, as_object, class_object, payload_numbers, numbers, numbers_if, attr_numbers, AllBelow, IfThere, IsClassObject, IsException}
use Rattle.py_objects.specs.Attrs.{Attrs}
use Rattle.py_objects.specs.Growth.{IsGrown, with_object}
use Rattle.py_objects.specs.Edits.{Kept}
use Rattle.py_objects.proofs.GrowthLemmas.{payload_grown, below_more, length_grown}
use Rattle.py_exceptions.specs.declared.zoo.ExceptionZoo.{ExceptionZoo}
use Rattle.py_exceptions.specs.Classes.{class_of, HaveClasses}
use Rattle.py_exceptions.specs.Keeping.{kept_args, kept_attrs}
use Rattle.py_exceptions.specs.Making.{exception_from, IsNewInstanceFrom, IsNewText}
use Rattle.py_objects.proofs.GrownLemmas.{objects_grow, grown_trans, added_grown, added_made, added_below}
use Rattle.py_objects.proofs.NewLemmas.{added_has}

-- the objects of a new instance: the tuple of its arguments, and itself
pub record AreInstance (s0 s1 s2 : Kept) (class : PyTypeRef) (arguments : List Obj) (cause : Option Obj) (attrs : Attrs) (args e : Obj) : Type 0 where
  pub args_added : s1 ≡ with_object s0 (payload.Tuple arguments)
  pub args_last : args.number ≡ length s0.made
  pub entry_added : s2 ≡ with_object s1 (payload.Exception (exception_from class args cause attrs))
  pub last : e.number ≡ length s1.made

pub text_grows : (s0 s1 : Kept) (text : Name) → s1 ≡ with_object s0 (payload.Str text) → IsGrown s0 s1
text_grows s0 s1 text added = added_grown s0 s1 (payload.Str text) added refl refl (λ fit. tt) (λ fit. tt)

pub tuple_grows : (s0 s1 : Kept) (arguments : List Obj) → AllBelow (length s0.made) (numbers arguments) → s1 ≡ with_object s0 (payload.Tuple arguments) → IsGrown s0 s1
tuple_grows s0 s1 arguments below added = added_grown s0 s1 (payload.Tuple arguments) added refl refl (λ fit. below) (λ fit. tt)

-- a class stays one
pub class_stays : (s0 s1 : Kept) (class : PyTypeRef) → IsGrown s0 s1 → IsClassObject s0.made (class_object class) → IsClassObject s1.made (class_object class)
class_stays s0 s1 class grown (c, has) = (c, payload_grown s0.made s1.made _ _ (objects_grow s0 s1 grown) has)

-- so does a cause an exception
pub cause_stays : (s0 s1 : Kept) (cause : Option Obj) → IsGrown s0 s1 → IfThere (IsException s0.made) cause → IfThere (IsException s1.made) cause
cause_stays s0 s1 None grown caused = tt
cause_stays s0 s1 (Some v) grown (e, has) = (e, payload_grown s0.made s1.made v _ (objects_grow s0 s1 grown) has)

-- and it is among the objects
cause_below : (objects : List Payload) (cause : Option Obj) (ns : List ℕ) → IfThere (IsException objects) cause → AllBelow (length objects) ns → AllBelow (length objects) (numbers_if cause ++ ns)
cause_below objects None ns caused below = below
cause_below objects (Some v) ns (e, has) below = (slice_get_within objects v.number _ has, below)

-- what a new instance names is below, also where it isn't among the objects yet
pub instance_below : (s0 s1 : Kept) (class : PyTypeRef) (arguments : List Obj) (cause : Option Obj) (attrs : Attrs) (args : Obj)
    → IsClassObject s0.made (class_object class) → AllBelow (length s0.made) (numbers arguments) → IfThere (IsException s0.made) cause → AllBelow (length s0.made) (attr_numbers attrs)
    → s1 ≡ with_object s0 (payload.Tuple arguments) → args.number ≡ length s0.made
    → AllBelow (length s1.made) (payload_numbers (payload.Exception (exception_from class args cause attrs)))
instance_below s0 s1 class arguments cause attrs args is below caused attrs_below added last =
    let front : IsGrown s0 s1 = tuple_grows s0 s1 arguments below added in
    let (c, has) = class_stays s0 s1 class front is in (
      slice_get_within s1.made class.number _ has,
      (
        added_below s0 s1 (payload.Tuple arguments) args.number added last,
        cause_below s1.made cause (attr_numbers attrs) (cause_stays s0 s1 cause front caused)
            (below_more (length s0.made) (length s1.made) (attr_numbers attrs) (length_grown s0.made s1.made (objects_grow s0 s1 front)) attrs_below),
      ),
    )

pub instance_grows : (s0 s1 s2 : Kept) (class : PyTypeRef) (arguments : List Obj) (cause : Option Obj) (attrs : Attrs) (args e : Obj)
    → IsClassObject s0.made (class_object class) → AllBelow (length s0.made) (numbers arguments) → IfThere (IsException s0.made) cause → AllBelow (length s0.made) (attr_numbers attrs)
    → AreInstance s0 s1 s2 class arguments cause attrs args e → IsGrown s0 s2
instance_grows s0 s1 s2 class arguments cause attrs args e is below caused attrs_below x =
    let front : IsGrown s0 s1 = tuple_grows s0 s1 arguments below x.args_added in
    let (c, has) = class_stays s0 s1 class front is in
    grown_trans s0 s1 s2 front
    (added_grown s1 s2 (payload.Exception (exception_from class args cause attrs)) x.entry_added refl refl
    (λ fit. instance_below s0 s1 class arguments cause attrs args is below caused attrs_below x.args_added x.args_last)
    (λ fit. record {
      class = c;
      is_class = has;
      arguments = arguments;
      are_arguments = added_has s0 s1 (payload.Tuple arguments) args x.args_added x.args_last;
      cause = cause_stays s0 s1 cause front caused;
      context = tt;
      traceback = tt;
    }))

pub instance_new : (s0 s1 s2 : Kept) (class : PyTypeRef) (arguments : List Obj) (cause : Option Obj) (attrs : Attrs) (args e : Obj)
    → AreInstance s0 s1 s2 class arguments cause attrs args e → IsNewInstanceFrom s0.made s2.made class arguments cause attrs (record { number = e.number })
instance_new s0 s1 s2 class arguments cause attrs args e x =
    let entry : Payload = payload.Exception (exception_from class args cause attrs) in
    let n1 : length s1.made ≡ length s0.made + 1 = ap length (added_made s0 s1 (payload.Tuple arguments) x.args_added) ∙ length-append s0.made (payload.Tuple arguments ∷ []) in
    let last : e.number ≡ length s1.made = x.last in
    record {
      later = omega (arith, n1, last);
      below = added_below s1 s2 entry e.number x.entry_added x.last;
      args = args;
      entry = added_has s1 s2 entry e x.entry_added x.last;
      are = payload_grown s1.made s2.made args (payload.Tuple arguments) (entry ∷ [], added_made s1 s2 entry x.entry_added) (added_has s0 s1 (payload.Tuple arguments) args x.args_added x.args_last);
    }

-- a new instance whose one argument is a text that was added is an exception with that text
pub exception_new : (s0 s1 s2 : Kept) (class : PyTypeRef) (text : Name) (argument : Obj) (items : List Obj) (cause : Option Obj) (attrs : Attrs) (e : PyBaseExceptionRef)
    → s1 ≡ with_object s0 (payload.Str text) → argument.number ≡ length s0.made → items ≡ argument ∷ [] → attrs ≡ [] → IsGrown s1 s2
    → IsNewInstanceFrom s1.made s2.made class items cause attrs e → IsNewText s0.made s2.made class text cause e
exception_new s0 s1 s2 class text argument items cause attrs e added last are none grown x =
    let n1 : length s1.made ≡ length s0.made + 1 = ap length (added_made s0 s1 (payload.Str text) added) ∙ length-append s0.made (payload.Str text ∷ []) in
    let later : length s1.made ≤ e.number = x.later in
    record {
      argument = argument;
      message = payload_grown s1.made s2.made argument (payload.Str text) (objects_grow s1 s2 grown) (added_has s0 s1 (payload.Str text) argument added last);
      made = record {
        later = omega (arith, n1, later);
        below = x.below;
        args = x.args;
        entry = subst (λ (a : Attrs). HasPayload s2.made (as_object e) (payload.Exception (exception_from class x.args cause a))) none x.entry;
        are = subst (λ vs. HasPayload s2.made x.args (payload.Tuple vs)) are x.are;
      };
    }

-- what an exception keeps of the arguments that its class is called with names no other objects
pub kept_below : (n : ℕ) (os : Bool) (vs : List Obj) → AllBelow n (numbers vs) → AllBelow n (numbers (kept_args os vs))
kept_below n false vs below = below
kept_below n true [] below = below
kept_below n true (v ∷ []) below = below
kept_below n true (v ∷ w ∷ []) below = below
kept_below n true (v ∷ w ∷ x ∷ []) below = (below.0, (below.1.0, tt))
kept_below n true (v ∷ w ∷ x ∷ y ∷ []) below = (below.0, (below.1.0, tt))
kept_below n true (v ∷ w ∷ x ∷ y ∷ z ∷ []) below = (below.0, (below.1.0, tt))
kept_below n true (v ∷ w ∷ x ∷ y ∷ z ∷ u ∷ us) below = below

pub attrs_below : (n : ℕ) (os : Bool) (vs : List Obj) → AllBelow n (numbers vs) → AllBelow n (attr_numbers (kept_attrs os vs))
attrs_below n false vs below = tt
attrs_below n true [] below = tt
attrs_below n true (v ∷ []) below = tt
attrs_below n true (v ∷ w ∷ []) below = tt
attrs_below n true (v ∷ w ∷ x ∷ []) below = (below.1.1.0, tt)
attrs_below n true (v ∷ w ∷ x ∷ y ∷ []) below = (below.1.1.0, tt)
attrs_below n true (v ∷ w ∷ x ∷ y ∷ z ∷ []) below = (below.1.1.0, (below.1.1.1.1.0, tt))
attrs_below n true (v ∷ w ∷ x ∷ y ∷ z ∷ u ∷ us) below = tt

-- each built-in class is a class
pub built_in_class : (zoo : ExceptionZoo) (objects : List Payload) (kind : ErrorKind) → HaveClasses zoo objects → IsClassObject objects (class_object (class_of zoo kind))
built_in_class zoo objects kind classes = (record { name = name_of kind; mro = (classes kind).mro }, (classes kind).entry)
