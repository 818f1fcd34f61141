-- Drives by which exceptions are made: what their makings come to, and what such a drive leaves of a machine.
use Rattle.std.proofs.Common.{◌≡◌, ◌<◌, ℕ, List, Some, refl, sym, ap, subst, ◌∙◌, length}
use Rattle.std.specs.Prelude.{Option, None}
use Rattle.std.proofs.lemmas.Option.{slice_get_within}
use Rattle.py_objects.specs.declared.refs.PyBaseExceptionRef.{PyBaseExceptionRef}
use Rattle.py_objects.specs.declared.refs.PyTracebackRef.{PyTracebackRef}
use Rattle.py_objects.specs.declared.refs.PyTypeRef.{PyTypeRef}
use Rattle.py_objects.specs.declared.payload.Payload.{Payload}
use Rattle.py_objects.specs.declared.payload.Payload.TheVariants as payload
use Rattle.py_objects.specs.declared.payload.Fault.{Fault}
use Rattle.py_objects.specs.declared.error_kind.ErrorKind.TheVariants.{TypeError}
use Rattle.py_objects.specs.Objects.{Obj, Name, HasPayload, as_object, AllFit, IfThere, IsException, IsTraceback}
use Rattle.py_objects.specs.Edits.{Kept, objects_of, IsAsBefore}
use Rattle.py_objects.specs.Growth.{GrowsPlainly, IsGrown}
use Rattle.py_objects.proofs.ChangesLemmas.{exception_now}
use Rattle.py_objects.proofs.GrowthLemmas.{payload_grown, plainly_grows, grows_plainly_refl}
use Rattle.py_objects.proofs.Slots.{there}
use Rattle.py_exceptions.specs.declared.ctor.Instantiate.{Instantiate}
use Rattle.py_exceptions.specs.declared.ctor.Instantiate.TheVariants as comes
use Rattle.py_exceptions.specs.declared.zoo.ExceptionZoo.{ExceptionZoo}
use Rattle.py_exceptions.specs.Classes.{class_of, HaveClasses}
use Rattle.py_exceptions.specs.Making.{IsNewCalled, IsNewException}
use Rattle.py_exceptions.specs.Memory.{UnlessNoMemory}
use Rattle.py_exceptions.specs.Normalizing.{Normalizes}
use Rattle.py_exceptions.specs.Tracebacks.{traceback_object}
use Rattle.py_exceptions.proofs.TypeNamesLemmas.{has_type_name}
use Rattle.py_answers.specs.Answers.{Reply, Is, Makes, Fails}
use Rattle.py_answers.specs.Readable.{ChangeUnread, IsReadable}
use Rattle.py_answers.proofs.GivingLemmas.{called_given}
use Rattle.py_answers.proofs.ReadingLemmas.{one_payload}
use Rattle.py_answers.proofs.ThrownLemmas.{normalized_as_made}
use Rattle.py_run.specs.declared.drive.Makings.{Makings}
use Rattle.py_run.specs.Normalized.{NormalizesTo, formed, not_traceback, traceback_as}
use Rattle.py_vm.specs.declared.normalizing.Formed.{Formed}
use Rattle.py_vm.specs.declared.normalizing.Formed.TheVariants as form
use Rattle.py_vm.specs.Normalizing.{IsFormOf, IsRefusal, IsTracebackOf}
use Rattle.py_vm.proofs.CallsLemmas.{itself_given, raise_given}
use Rattle.py_vm.proofs.ThrowingLemmas.{class_called, thrown_there}

-- ---- what an object is as a traceback

-- a traceback that was read is one
traceback_there : (objects : List Payload) (o : Obj) (p : Payload) (t : Option PyTracebackRef) → HasPayload objects o p → traceback_as p o ≡ Some (traceback_object t) → IfThere (IsTraceback objects) (traceback_object t)
traceback_there objects o p None has is = tt
traceback_there objects o (payload.Traceback b) (Some t) has is =
    let v : Obj = record { number = t.number } in
    let same : o ≡ v = cc is in (b, subst (λ w. HasPayload objects w (payload.Traceback b)) same has)
traceback_there objects o _ (Some t) has is = absurd (cc is)

-- it is one among more objects
traceback_grown : (objects objects' : List Payload) (t : Option PyTracebackRef) → GrowsPlainly objects objects' → IfThere (IsTraceback objects) (traceback_object t) → IfThere (IsTraceback objects') (traceback_object t)
traceback_grown objects objects' None grows is = tt
traceback_grown objects objects' (Some t) grows (b, has) = (b, payload_grown objects objects' _ (payload.Traceback b) (plainly_grows objects objects' grows) has)

-- an exception is one as it is now
pub exception_is_now : (s : Kept) (o : Obj) → IsException s.made o → IsException (objects_of s) o
exception_is_now s o (e, has) = let (f, now, same) = exception_now s o e has in (f, now)

-- ---- a store that was marked, and took memory for changes

module _ (s marked new : Kept) (n : ℕ) (is : marked ≡ record s { mark = n }) (kept : IsAsBefore marked new) where
  same_made : new.made ≡ s.made
  same_made = kept.made ∙ ap (λ (k : Kept). k.made) is

  pub same_changes : new.changes ≡ s.changes
  same_changes = kept.changes ∙ ap (λ (k : Kept). k.changes) is

  pub grows_marked : GrowsPlainly s.made new.made
  grows_marked = subst (GrowsPlainly s.made) (sym same_made) (grows_plainly_refl s.made)

  pub readable_marked : IsReadable s → IsReadable new
  readable_marked readable =
      record { unread = subst (λ l. ChangeUnread l new.changes) (sym same_made) (subst (ChangeUnread s.made) (sym same_changes) readable.unread); fit = subst AllFit (sym same_made) readable.fit }

-- ---- what an exception is made of

module _ (s : Kept) (x : Makings) (readable : IsReadable s) where
  -- what is thrown came to this as it was made
  as_made : (outcome : Instantiate) → UnlessNoMemory (Normalizes (objects_of s) x.thrown (Some x.value)) outcome → UnlessNoMemory (Normalizes s.made x.thrown (Some x.value)) outcome
  as_made outcome said = normalized_as_made s x.thrown (Some x.value) outcome readable said

  -- a reply that stays with its traceback
  kept_reply : (outcome : Instantiate) (reply : Reply) (t : Option PyTracebackRef) → Normalizes s.made x.thrown (Some x.value) outcome → ((n : Name) → formed (Some (traceback_object t)) n outcome ≡ Some reply)
      → IsTracebackOf s.made x.traceback (Some t) → NormalizesTo s.made x reply
  kept_reply outcome reply t said stays (p, has, is) =
      let (n, typed) = has_type_name s.made p (readable.fit x.traceback.number p has).1 in
      record { outcome = outcome; normalizes = said; entry = p; has = has; name = n; typed = typed; is = ap (λ k. formed k n outcome) is ∙ stays n }

  -- an exception that was there
  pub done_form : (e : PyBaseExceptionRef) (t : Option PyTracebackRef) → Normalizes (objects_of s) x.thrown (Some x.value) (comes.Done e) → IsTracebackOf s.made x.traceback (Some t)
      → IsFormOf s.made s.made x (form.Made e t)
  done_form e t said (p, has, is) =
      let made : Normalizes s.made x.thrown (Some x.value) (comes.Done e) = as_made (comes.Done e) said in
      let exception : IsException s.made (as_object e) = thrown_there s.made x.thrown (Some x.value) e made in (
        Is (as_object e),
        kept_reply (comes.Done e) (Is (as_object e)) t made (λ n. refl) (p, has, is),
        itself_given s.made (as_object e) (slice_get_within s.made e.number _ exception.1),
        (p, has, is),
        exception,
        traceback_there s.made x.traceback p t has is,
      )

  -- one that was made
  pub made_form : (new : Kept) (class : PyTypeRef) (args : List Obj) (e : PyBaseExceptionRef) (t : Option PyTracebackRef) → Normalizes (objects_of s) x.thrown (Some x.value) (comes.Make class args)
      → IsTracebackOf s.made x.traceback (Some t) → IsGrown s new → IsNewCalled s.made new.made class args e → IsFormOf s.made new.made x (form.Made e t)
  made_form new class args e t said (p, has, is) grown called = (
    Makes class args,
    kept_reply (comes.Make class args) (Makes class args) t (as_made (comes.Make class args) said) (λ n. refl) (p, has, is),
    record {
      plain = refl;
      gives = λ before named. called_given s.made new.made before e grown.objects named class args (class_called s x.thrown (Some x.value) class args readable said) called;
      below = called.below;
    },
    (p, has, is),
    (_, called.entry),
    traceback_there s.made x.traceback p t has is,
  )

  -- a fault of what is thrown
  pub fault_form : (new : Kept) (zoo : ExceptionZoo) (f : Fault) (e : PyBaseExceptionRef) → Normalizes (objects_of s) x.thrown (Some x.value) (comes.Fault f) → x.traceback.number < length s.made
      → HaveClasses zoo s.made → IsGrown s new → IsNewException s.made new.made (class_of zoo f.kind) f.text e → IsFormOf s.made new.made x (form.Raised e)
  fault_form new zoo f e said low classes grown raised =
      let (p, has) = there s.made x.traceback.number low in
      let (n, typed) = has_type_name s.made p (readable.fit x.traceback.number p has).1 in (
        Fails f.kind f.text,
        record { outcome = comes.Fault f; normalizes = as_made (comes.Fault f) said; entry = p; has = has; name = n; typed = typed; is = refl },
        raise_given s.made new.made zoo f.kind f.text e classes grown.objects raised,
      )

  -- what is no traceback is refused, where what is thrown comes to no fault
  refused_form : (new : List Payload) (outcome : Instantiate) (f : Formed) → Normalizes s.made x.thrown (Some x.value) outcome → ((n : Name) → formed None n outcome ≡ Some (Fails TypeError (not_traceback n)))
      → IsTracebackOf s.made x.traceback None → IsRefusal s.made new x.traceback f → IsFormOf s.made new x f
  refused_form new outcome (form.Made e t) said refuses none refused = absurd refused
  refused_form new outcome (form.Raised e) said refuses (p, has, is) (text, (q, has', n, typed, text_is), raise) =
      let same : p ≡ q = one_payload s.made x.traceback.number p q has has' in
      let found : traceback_as q x.traceback ≡ None = ap (λ k. traceback_as k x.traceback) (sym same) ∙ is in (
        Fails TypeError text,
        record {
          outcome = outcome;
          normalizes = said;
          entry = q;
          has = has';
          name = n;
          typed = typed;
          is = ap (λ k. formed k n outcome) found ∙ refuses n ∙ ap (λ w. Some (Fails TypeError w)) (sym text_is);
        },
        raise,
      )

  pub refused_done : (new : List Payload) (e : PyBaseExceptionRef) (f : Formed) → Normalizes (objects_of s) x.thrown (Some x.value) (comes.Done e) → IsTracebackOf s.made x.traceback None
      → IsRefusal s.made new x.traceback f → IsFormOf s.made new x f
  refused_done new e f said none refused = refused_form new (comes.Done e) f (as_made (comes.Done e) said) (λ n. refl) none refused

  pub refused_made : (new : List Payload) (class : PyTypeRef) (args : List Obj) (f : Formed) → Normalizes (objects_of s) x.thrown (Some x.value) (comes.Make class args) → IsTracebackOf s.made x.traceback None
      → IsRefusal s.made new x.traceback f → IsFormOf s.made new x f
  refused_made new class args f said none refused = refused_form new (comes.Make class args) f (as_made (comes.Make class args) said) (λ n. refl) none refused

-- ---- what is given a traceback

module _ (old : List Payload) (s told : Kept) (x : Makings) (f : Formed) (e : PyBaseExceptionRef) (t : Option PyTracebackRef) (same : told ≡ s) (made : f ≡ form.Made e t) (is : IsFormOf old s.made x f) where
  -- it is an exception
  pub given_exception : IsException (objects_of told) (as_object e)
  given_exception =
      let (reply, normalizes, value, read, exception, traceback) = subst (IsFormOf old s.made x) made is in
      subst (λ (k : Kept). IsException (objects_of k) (as_object e)) (sym same) (exception_is_now s (as_object e) exception)

  -- and that is one, if there is one
  pub given_traceback : GrowsPlainly old s.made → IfThere (IsTraceback told.made) (traceback_object t)
  given_traceback grows =
      let (reply, normalizes, value, read, exception, traceback) = subst (IsFormOf old s.made x) made is in
      subst (λ (k : Kept). IfThere (IsTraceback k.made) (traceback_object t)) (sym same) (traceback_grown old s.made t grows traceback)
