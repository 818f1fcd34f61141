-- What comes of what is thrown: among more objects, and as the objects were made.
use Rattle.std.proofs.Common.{◌≡◌, ◌<◌, List, Bool, true, false, Some, Ok, Err, inl, inr, sym, ap, ◌∙◌, length}
use Rattle.std.specs.Prelude.{Option, None}
use Rattle.std.proofs.lemmas.Option.{same_Some}
use Rattle.py_objects.specs.declared.refs.PyTypeRef.{PyTypeRef}
use Rattle.py_objects.specs.declared.payload.Payload.{Payload}
use Rattle.py_objects.specs.declared.payload.Payload.TheVariants as payload
use Rattle.py_objects.specs.declared.payload.ExceptionBody.{ExceptionBody}
use Rattle.py_objects.specs.Objects.{Obj, class_object, IsMade}
use Rattle.py_objects.specs.Pairs.{Pairs}
use Rattle.py_objects.specs.Growth.{Grows, GrowsPlainly}
use Rattle.py_objects.specs.Edits.{Kept, objects_of}
use Rattle.py_objects.proofs.Slots.{there}
use Rattle.py_objects.proofs.ChangesLemmas.{changes_keep}
use Rattle.py_objects.proofs.GrowthLemmas.{payload_grown, plainly_grows}
use Rattle.py_exceptions.specs.declared.ctor.ExceptionCtor.{ExceptionCtor}
use Rattle.py_exceptions.specs.declared.ctor.ExceptionCtor.TheVariants as ctor
use Rattle.py_exceptions.specs.declared.ctor.CtorFault.TheVariants as ctor_fault
use Rattle.py_exceptions.specs.declared.ctor.Instantiate.{Instantiate}
use Rattle.py_exceptions.specs.declared.ctor.Instantiate.TheVariants as comes
use Rattle.py_exceptions.specs.Instantiating.{ClassWith, Instantiates, InstantiatesAs, StandsFor}
use Rattle.py_exceptions.specs.Memory.{UnlessNoMemory}
use Rattle.py_exceptions.specs.Normalizing.{Normalizes, NormalizesWith}
use Rattle.py_exceptions.specs.Parts.{HasParts}
use Rattle.py_answers.specs.Readable.{Links, IsReadable, with_links}
use Rattle.py_answers.specs.Replying.{IsRead}
use Rattle.py_answers.proofs.ReadingLemmas.{instance_as_made, is_read, parts_now, read_made, said_of_made, taken_as_made, tuple_now}
use Rattle.py_answers.proofs.RepliesLemmas.{instance_of_grows, taken_grows}

-- ---- among more objects

-- what a value stands for stays
stands_for_grows : (objects objects' : List Payload) (v : Obj) (p : Payload) (args : List Obj) → Grows objects objects' → StandsFor objects v p args → StandsFor objects' v p args
stands_for_grows objects objects' v (payload.Exception e) args grows has = payload_grown objects objects' e.args (payload.Tuple args) grows has
stands_for_grows objects objects' v _ args grows is = is

-- so does what comes of a class with it
class_with_grows : (objects objects' : List Payload) (class : PyTypeRef) (v : Obj) (p : Payload) (b : Bool) (outcome : Instantiate)
    → Grows objects objects' → ClassWith objects class v p b outcome → ClassWith objects' class v p b outcome
class_with_grows objects objects' class v p true outcome grows is = is
class_with_grows objects objects' class v p false outcome grows (args, stands, is) = (args, stands_for_grows objects objects' v p args grows stands, is)

-- and of a class or an exception with a value of a payload
instantiates_as_grow : (objects objects' : List Payload) (c : ExceptionCtor) (v : Obj) (p : Payload) (outcome : Instantiate)
    → Grows objects objects' → InstantiatesAs objects c v p outcome → InstantiatesAs objects' c v p outcome
instantiates_as_grow objects objects' (ctor.Class class) v p outcome grows (b, one, comes_to) =
    (b, instance_of_grows objects objects' p (class_object class) b grows one, class_with_grows objects objects' class v p b outcome grows comes_to)
instantiates_as_grow objects objects' (ctor.Instance e) v _ outcome grows is = is

-- and with a value, or without one
normalizes_with_grow : (objects objects' : List Payload) (c : ExceptionCtor) (v : Option Obj) (outcome : Instantiate)
    → Grows objects objects' → NormalizesWith objects c v outcome → NormalizesWith objects' c v outcome
normalizes_with_grow objects objects' c None outcome grows is = is
normalizes_with_grow objects objects' c (Some w) outcome grows (p, has, comes_to) =
    (p, payload_grown objects objects' w p grows has, instantiates_as_grow objects objects' c w p outcome grows comes_to)

-- so does what comes of what is thrown, as more objects come that declare nothing
pub normalizes_grow : (objects objects' : List Payload) (c : Obj) (v : Option Obj) (outcome : Instantiate)
    → GrowsPlainly objects objects' → Normalizes objects c v outcome → Normalizes objects' c v outcome
normalizes_grow objects objects' c v outcome grows (inl (k, taken, comes_to)) =
    inl (k, taken_grows objects objects' c (Ok k) grows taken, normalizes_with_grow objects objects' k v outcome (plainly_grows objects objects' grows) comes_to)
normalizes_grow objects objects' c v outcome grows (inr (f, taken, is)) = inr (f, taken_grows objects objects' c (Err (ctor_fault.NotException f)) grows taken, is)

-- ---- as the objects were made

-- what a value stands for now, it stood for as it was made
stands_for_as_made : (s : Kept) (v : Obj) (p : Payload) (args : List Obj) → IsMade s.made p → StandsFor (objects_of s) v p args → StandsFor s.made v p args
stands_for_as_made s v (payload.Exception e) args made has =
    let same : payload.Tuple made.arguments ≡ payload.Tuple args = same_Some _ _ (sym (tuple_now s e.args made.arguments made.are_arguments) ∙ has) in
    made.are_arguments ∙ ap Some same
stands_for_as_made s v _ args made is = is

class_with_as_made : (s : Kept) (class : PyTypeRef) (v : Obj) (p : Payload) (b : Bool) (outcome : Instantiate)
    → IsMade s.made p → ClassWith (objects_of s) class v p b outcome → ClassWith s.made class v p b outcome
class_with_as_made s class v p true outcome made is = is
class_with_as_made s class v p false outcome made (args, stands, is) = (args, stands_for_as_made s v p args made stands, is)

-- a class or an exception comes to the same with a value of a payload
instantiates_as_made : (s : Kept) (c : ExceptionCtor) (v : Obj) (p : Payload) (outcome : Instantiate)
    → IsMade s.made p → InstantiatesAs (objects_of s) c v p outcome → InstantiatesAs s.made c v p outcome
instantiates_as_made s (ctor.Class class) v p outcome made (b, one, comes_to) =
    (b, instance_as_made s p (class_object class) b made one, class_with_as_made s class v p b outcome made comes_to)
instantiates_as_made s (ctor.Instance e) v _ outcome made is = is

-- and with a dict, whatever its pairs
dict_instantiates : (objects : List Payload) (c : ExceptionCtor) (v : Obj) (outcome : Instantiate) (ps qs : Pairs)
    → InstantiatesAs objects c v (payload.Dict qs) outcome → InstantiatesAs objects c v (payload.Dict ps) outcome
dict_instantiates objects (ctor.Class class) v outcome ps qs (false, one, comes_to) = (false, one, comes_to)
dict_instantiates objects (ctor.Class class) v outcome ps qs (true, one, comes_to) = (true, one, comes_to)
dict_instantiates objects (ctor.Instance e) v outcome ps qs is = is

-- and with an exception, whatever its links
linked_instantiates : (objects : List Payload) (c : ExceptionCtor) (v : Obj) (outcome : Instantiate) (x : ExceptionBody) (l : Links)
    → InstantiatesAs objects c v (payload.Exception (with_links l x)) outcome → InstantiatesAs objects c v (payload.Exception x) outcome
linked_instantiates objects (ctor.Class class) v outcome x l (false, one, comes_to) = (false, one, comes_to)
linked_instantiates objects (ctor.Class class) v outcome x l (true, one, comes_to) = (true, one, comes_to)
linked_instantiates objects (ctor.Instance e) v outcome x l is = is

-- with an object
instantiates_made : (s : Kept) (c : ExceptionCtor) (v : Obj) (outcome : Instantiate) → IsReadable s → Instantiates (objects_of s) c v outcome → Instantiates s.made c v outcome
instantiates_made s c v outcome readable (q, has, comes_to) =
    let read : IsRead s.made v q = is_read s v q readable.unread has in (
      read.0,
      read.1,
      said_of_made s.made (λ k. InstantiatesAs s.made c v k outcome) read.0 q read.2 (dict_instantiates s.made c v outcome) (linked_instantiates s.made c v outcome)
          (instantiates_as_made s c v q outcome (read_made s.made v q readable.fit read) comes_to),
    )

-- with a value, or without one
normalizes_with_made : (s : Kept) (c : ExceptionCtor) (v : Option Obj) (outcome : Instantiate) → IsReadable s → NormalizesWith (objects_of s) c v outcome → NormalizesWith s.made c v outcome
normalizes_with_made s c None outcome readable is = is
normalizes_with_made s c (Some w) outcome readable comes_to = instantiates_made s c w outcome readable comes_to

-- so what comes now of what is thrown came of it as it was made
normalizes_as_made : (s : Kept) (c : Obj) (v : Option Obj) (outcome : Instantiate) → IsReadable s → Normalizes (objects_of s) c v outcome → Normalizes s.made c v outcome
normalizes_as_made s c v outcome readable (inl (k, taken, comes_to)) = inl (k, taken_as_made s c (Ok k) readable.unread taken, normalizes_with_made s k v outcome readable comes_to)
normalizes_as_made s c v outcome readable (inr (f, taken, is)) = inr (f, taken_as_made s c (Err (ctor_fault.NotException f)) readable.unread taken, is)

-- unless memory ran out
pub normalized_as_made : (s : Kept) (c : Obj) (v : Option Obj) (outcome : Instantiate) → IsReadable s
    → UnlessNoMemory (Normalizes (objects_of s) c v) outcome → UnlessNoMemory (Normalizes s.made c v) outcome
normalized_as_made s c v (comes.Done e) readable said = normalizes_as_made s c v (comes.Done e) readable said
normalized_as_made s c v (comes.Make class args) readable said = normalizes_as_made s c v (comes.Make class args) readable said
normalized_as_made s c v (comes.Fault f) readable said = normalizes_as_made s c v (comes.Fault f) readable said
normalized_as_made s c v comes.NoMemory readable said = tt

-- an object that can be read has its parts, as `normalized` needs of a value
pub parts_there : (s : Kept) (v : Obj) → IsReadable s → v.number < length s.made → HasParts (objects_of s) v
parts_there s v readable low =
    let (p, has) = there s.made v.number low in
    let (q, now, whatever) = changes_keep (λ (p : Payload). Unit {0}) (λ objects x p u. tt) s.made s.changes v.number (p, has, tt) in
    (q, now, parts_now s q (read_made s.made v q readable.fit (is_read s v q readable.unread now)))
