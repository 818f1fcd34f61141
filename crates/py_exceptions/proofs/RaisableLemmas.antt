-- What a class is taken for.
use Rattle.std.proofs.Common.{◌≡◌, List, Bool, true, false, Some, refl, sym, ap, subst, ◌∙◌}
use Rattle.std.specs.Prelude.{Ok, Err}
use Rattle.py_objects.specs.declared.payload.Payload.{Payload}
use Rattle.py_objects.specs.declared.payload.Payload.TheVariants as payload
use Rattle.py_objects.specs.declared.payload.ClassBody.{ClassBody}
use Rattle.py_objects.specs.declared.error_kind.ErrorKind.TheVariants.{BaseException}
use Rattle.py_objects.specs.ErrorKinds.{name_of}
use Rattle.py_objects.specs.Objects.{Obj, HasPayload}
use Rattle.py_objects.specs.Edits.{Kept, objects_of}
use Rattle.py_objects.specs.Ancestry.{derives_from, IsDerived}
use Rattle.py_objects.proofs.AncestryLemmas.{changed_derives}
use Rattle.py_exceptions.specs.declared.ctor.CtorFault.{CtorFault}
use Rattle.py_exceptions.specs.declared.ctor.CtorFault.TheVariants as fault
use Rattle.py_exceptions.specs.declared.ctor.ExceptionCtor.TheVariants as ctor
use Rattle.py_exceptions.specs.Raisable.{as_class, IsNotException, IsTaken}

-- a class is refused alike among all objects
refused_alike : (objects objects' : List Payload) (c : ClassBody) (f : CtorFault) → IsNotException objects (payload.Class c) f → IsNotException objects' (payload.Class c) f
refused_alike objects objects' c (fault.NotException g) refused = refused
refused_alike objects objects' c fault.NoMemory refused = refused

module _ (s : Kept) (v : Obj) (p : Payload) (c : ClassBody) (has : HasPayload (objects_of s) v p) (is : p ≡ payload.Class c)
    (b : Bool) (derived : b ≡ derives_from s.made v (name_of BaseException)) where
  class_has : HasPayload (objects_of s) v (payload.Class c)
  class_has = has ∙ ap Some is

  is_derived : IsDerived (objects_of s) v (name_of BaseException) b
  is_derived = (c, class_has, derived ∙ sym (changed_derives s.made s.changes v (name_of BaseException)))

  -- one of exceptions is taken for itself
  pub class_taken : b ≡ true → IsTaken (objects_of s) v (Ok (ctor.Class (as_class v)))
  class_taken one = (payload.Class c, class_has, (true, subst (IsDerived (objects_of s) v (name_of BaseException)) one is_derived, refl))

  -- any other one is refused
  pub class_refused : b ≡ false → (f : CtorFault) → IsNotException s.made p f → IsTaken (objects_of s) v (Err f)
  class_refused other f refused = (
    payload.Class c,
    class_has,
    (
      false,
      subst (IsDerived (objects_of s) v (name_of BaseException)) other is_derived,
      refused_alike s.made (objects_of s) c f (subst (λ (q : Payload). IsNotException s.made q f) is refused),
    ),
  )
