-- Objects that give replies, and exceptions that raise them.
use Rattle.std.proofs.Common.{◌≡◌, ◌<◌, List, [], ◌∷◌, Some, refl, ◌∙◌, length}
use Rattle.std.proofs.lemmas.Option.{slice_get_within}
use Rattle.py_objects.specs.declared.refs.PyTypeRef.{PyTypeRef}
use Rattle.py_objects.specs.declared.refs.PyBaseExceptionRef.{PyBaseExceptionRef}
use Rattle.py_objects.specs.declared.payload.Payload.{Payload}
use Rattle.py_objects.specs.declared.error_kind.ErrorKind.{ErrorKind}
use Rattle.py_objects.specs.declared.error_kind.ErrorKind.TheVariants.{OSError}
use Rattle.py_objects.specs.declared.event.Event.{Event}
use Rattle.py_objects.specs.ErrorKinds.{name_of}
use Rattle.py_objects.specs.Objects.{Obj, Name, HasPayload, as_object, class_object, declared, AreNamed, IsClassObject}
use Rattle.py_objects.specs.Attrs.{Attrs}
use Rattle.py_objects.specs.Growth.{GrowsPlainly, with_object}
use Rattle.py_objects.specs.Edits.{Kept}
use Rattle.py_objects.proofs.AncestryLemmas.{derived_grows}
use Rattle.py_objects.proofs.GrowthLemmas.{declared_stays}
use Rattle.py_objects.proofs.GrownLemmas.{added_below}
use Rattle.py_objects.proofs.NewLemmas.{added_has, past_is_new}
use Rattle.py_exceptions.specs.declared.zoo.ExceptionZoo.{ExceptionZoo}
use Rattle.py_exceptions.specs.Classes.{class_of, HaveClasses}
use Rattle.py_exceptions.specs.Making.{is_os, IsNewCalled, IsNewException, IsNewExceptionFrom, IsNewInstance}
use Rattle.py_exceptions.proofs.MakingLemmas.{built_in_class}
use Rattle.py_answers.specs.Answers.{Called, BuiltIn, Has, Is, Makes, Fails, FailsFrom, Passes, IsCalled, IsInstance, GivesRaise}
use Rattle.py_answers.specs.Replying.{IsValueOf}

-- an object that is there gives the reply of its payload
pub there_given : (objects : List Payload) (p : Payload) (v : Obj) → HasPayload objects v p → IsValueOf objects objects (Has p) v
there_given objects p v has = record { gives = λ before named. has; below = slice_get_within objects v.number p has }

-- and itself
pub itself_given : (objects : List Payload) (v : Obj) → v.number < length objects → IsValueOf objects objects (Is v) v
itself_given objects v low = record { gives = λ before named. refl; below = low }

-- an object that was added gives the reply of its payload
pub added_given : (old new : Kept) (p : Payload) (v : Obj) → new ≡ with_object old p → v.number ≡ length old.made → IsValueOf old.made new.made (Has p) v
added_given old new p v added last = record { gives = λ before named. added_has old new p v added last; below = added_below old new p v.number added last }

-- what was made is an instance that is new
made_instance : (old new : List Payload) (before : List Event) (class : PyTypeRef) (arguments : List Obj) (attrs : Attrs) (e : PyBaseExceptionRef)
    → GrowsPlainly old new → AreNamed old before → IsNewInstance old new class arguments attrs e → IsInstance new before class arguments attrs (as_object e)
made_instance old new before class arguments attrs e grows named x =
    record { new = past_is_new old new before e.number grows named x.later; args = x.args; entry = x.entry; are = x.are }

-- so is what was made as the exception of a call
called_instance : (old new : List Payload) (before : List Event) (class : PyTypeRef) (arguments : List Obj) (e : PyBaseExceptionRef)
    → GrowsPlainly old new → AreNamed old before → IsClassObject old (class_object class) → IsNewCalled old new class arguments e → IsCalled new before class arguments (as_object e)
called_instance old new before class arguments e grows named (c, has) x = (
  is_os old class,
  derived_grows old new (class_object class) (name_of OSError) (is_os old class) grows (c, has, refl),
  made_instance old new before class _ _ e grows named x,
)

-- what a call of a class makes gives its reply
pub instance_given : (old new : List Payload) (class : PyTypeRef) (arguments : List Obj) (e : PyBaseExceptionRef)
    → IsClassObject old (class_object class) → GrowsPlainly old new → IsNewCalled old new class arguments e → IsValueOf old new (Makes class arguments) (as_object e)
instance_given old new class arguments e is grows x = record { gives = λ before named. called_instance old new before class arguments e grows named is x; below = x.below }

-- ---- what raises a reply

module _ (old new : List Payload) (before : List Event) (e : PyBaseExceptionRef) (grows : GrowsPlainly old new) (named : AreNamed old before) where
  -- a new exception of a call of a class
  pub called_given : (class : PyTypeRef) (arguments : List Obj) → IsClassObject old (class_object class) → IsNewCalled old new class arguments e
      → GivesRaise new before (Passes (Called class arguments)) e
  called_given class arguments is x = called_instance old new before class arguments e grows named is x

  module _ (zoo : ExceptionZoo) (kind : ErrorKind) (classes : HaveClasses zoo old) where
    -- the class of its kind is declared
    is_declared : declared new (name_of kind) ≡ Some (class_object (class_of zoo kind))
    is_declared = declared_stays old new (name_of kind) grows ∙ (classes kind).is_declared

    -- one of a call of a built-in class
    pub built_in_given : (arguments : List Obj) → IsNewCalled old new (class_of zoo kind) arguments e → GivesRaise new before (Passes (BuiltIn kind arguments)) e
    built_in_given arguments x = (class_of zoo kind, is_declared, called_given (class_of zoo kind) arguments (built_in_class zoo old kind classes) x)

    -- one of a built-in class with a text
    pub fails_given : (text : Name) → IsNewException old new (class_of zoo kind) text e → GivesRaise new before (Fails kind text) e
    fails_given text x = record {
      class = class_of zoo kind;
      is_class = is_declared;
      argument = x.argument;
      message = x.message;
      made = made_instance old new before (class_of zoo kind) (x.argument ∷ []) [] e grows named x.made;
    }

    -- and one with a cause
    pub fails_from_given : (text : Name) (cause : PyBaseExceptionRef) → IsNewExceptionFrom old new (class_of zoo kind) text cause e → GivesRaise new before (FailsFrom kind text cause) e
    fails_from_given text cause x = record {
      class = class_of zoo kind;
      is_class = is_declared;
      argument = x.argument;
      message = x.message;
      new = past_is_new old new before e.number grows named x.made.later;
      args = x.made.args;
      entry = x.made.entry;
      are = x.made.are;
    }
