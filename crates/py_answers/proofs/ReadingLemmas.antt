-- What is read of objects: what was made, except the pairs of dicts and the links of exceptions.
use Rattle.std.proofs.Common.{◌≡◌, ℕ, zero, suc, List, [], ◌∷◌, Bool, true, false, Some, Ok, Err, inl, inr, refl, sym, ap, subst, ◌∙◌, set, slice_get}
use Rattle.std.specs.Prelude.{Option, None, Result, ◌⊎◌}
use Rattle.py_objects.specs.declared.payload.Payload.{Payload}
use Rattle.py_objects.specs.declared.payload.Payload.TheVariants as payload
use Rattle.py_objects.specs.declared.payload.ClassBody.{ClassBody}
use Rattle.py_objects.specs.declared.payload.ExceptionBody.{ExceptionBody}
use Rattle.py_objects.specs.declared.error_kind.ErrorKind.TheVariants.{BaseException}
use Rattle.py_objects.specs.ErrorKinds.{name_of}
use Rattle.py_objects.specs.declared.edit.Edit.{Edit}
use Rattle.py_objects.specs.declared.edit.Edit.TheVariants as edit
use Rattle.py_objects.specs.declared.edit.LinkField.{LinkField}
use Rattle.py_objects.specs.declared.edit.LinkField.TheVariants as link
use Rattle.py_objects.specs.declared.edit.Change.{Change}
use Rattle.py_objects.specs.declared.request.Request.TheVariants as request
use Rattle.py_code.specs.declared.operator.BinaryOperator.{BinaryOperator}
use Rattle.py_code.specs.declared.operator.BinaryOperator.TheVariants as binary
use Rattle.py_objects.specs.Objects.{Obj, Name, HasPayload, class_object, IfThere, IsException, IsExceptionMade, IsMade, IsTraceback, AllFit}
use Rattle.py_objects.specs.Pairs.{Pairs}
use Rattle.py_objects.specs.Edits.{Kept, edited, edited_pairs, edited_entry, linked, with_edit, changed_by, objects_of}
use Rattle.py_objects.specs.Ancestry.{IsDerived}
use Rattle.py_objects.proofs.AncestryLemmas.{changed_derives}
use Rattle.py_objects.proofs.ChangesLemmas.{changes_keep, class_object_now, class_made}
use Rattle.py_exceptions.specs.declared.ctor.ExceptionCtor.{ExceptionCtor}
use Rattle.py_exceptions.specs.declared.ctor.CtorFault.{CtorFault}
use Rattle.py_exceptions.specs.declared.ctor.CtorFault.TheVariants as ctor_fault
use Rattle.py_exceptions.specs.Raisable.{ClassTaken, IsTaken, IsTakenFor}
use Rattle.py_exceptions.specs.Deriving.{IsInstanceOf}
use Rattle.py_exceptions.specs.Parts.{AreParts}
use Rattle.py_answers.specs.Readable.{Links, AreLinks, ChangeUnread, IsUnread, SetsField, SetsLink, links_of, with_links}
use Rattle.py_answers.specs.Replying.{IsLike, IsRead, IsOperated, IsLess}
use Rattle.py_code.specs.declared.operator.ComparisonOperator.TheVariants as comparison
use Rattle.py_answers.specs.Answers.{Reply, Compares, Matches, Replies, operated, truth}

-- an entry of a list with one entry set is that one, or was there
set_gives : {X : Type 0} (xs : List X) (i : ℕ) (x : X) (j : ℕ) (y : X) → slice_get (set xs i x) j ≡ Some y → ((y ≡ x) × (j ≡ i)) ⊎ (slice_get xs j ≡ Some y)
set_gives [] i x j y is = inr is
set_gives (z ∷ xs) zero x zero y is = let same : y ≡ x = cc in inl (same, refl)
set_gives (z ∷ xs) zero x (suc j) y is = inr is
set_gives (z ∷ xs) (suc i) x zero y is = inr is
set_gives (z ∷ xs) (suc i) x (suc j) y is = by (set_gives xs i x j y is)
  where
    by : ((y ≡ x) × (j ≡ i)) ⊎ (slice_get xs j ≡ Some y) → ((y ≡ x) × (suc j ≡ suc i)) ⊎ (slice_get xs j ≡ Some y)
    by (inl (same, at)) = inl (same, ap suc at)
    by (inr there) = inr there

-- each entry is like that of the objects as they were made
abbrev AreLike : List Payload → List Payload → Type 0
AreLike made now = (n : ℕ) (q : Payload) → slice_get now n ≡ Some q → (p : Payload) × (slice_get made n ≡ Some p) × IsLike made p q

-- what is like a dict is a dict
dict_like : (objects : List Payload) (ps : Pairs) (q : Payload) → IsLike objects (payload.Dict ps) q → (qs : Pairs) × (q ≡ payload.Dict qs)
dict_like objects ps q (inl same) = (ps, same)
dict_like objects ps q (inr (inl (rs, qs, first, second))) = (qs, second)
dict_like objects ps q (inr (inr (e, l, first, second, are))) = let both : payload.Dict ps ≡ payload.Exception e = first in absurd (cc both)

one_exception : (d e : ExceptionBody) → payload.Exception d ≡ payload.Exception e → d ≡ e
one_exception d e same = cc same

-- what is like an exception is that one with other links
abbrev IsLinked : List Payload → ExceptionBody → Payload → Type 0
IsLinked objects e q = (l : Links) × (q ≡ payload.Exception (with_links l e)) × AreLinks objects e l

exception_like : (objects : List Payload) (e : ExceptionBody) (q : Payload) → IsLike objects (payload.Exception e) q → IsLinked objects e q
exception_like objects e q (inl same) = (links_of e, same, record { cause = inl refl; context = inl refl; traceback = inl refl })
exception_like objects e q (inr (inl (rs, qs, first, second))) = let both : payload.Exception e ≡ payload.Dict rs = first in absurd (cc both)
exception_like objects e q (inr (inr (d, l, first, second, are))) =
    let same : d ≡ e = one_exception d e (sym first) in
    (l, second ∙ ap (λ (k : ExceptionBody). payload.Exception (with_links l k)) same, subst (λ (k : ExceptionBody). AreLinks objects k l) same are)

-- two payloads of one object are one
pub one_payload : (objects : List Payload) (n : ℕ) (p q : Payload) → slice_get objects n ≡ Some p → slice_get objects n ≡ Some q → p ≡ q
one_payload objects n p q first second = let both : Some p ≡ Some q = sym first ∙ second in cc

-- what an object that was made as this is now
like_now : (made now : List Payload) (n : ℕ) (p r : Payload) → AreLike made now → slice_get made n ≡ Some p → slice_get now n ≡ Some r → IsLike made p r
like_now made now n p r like was is =
    let entry = like n r is in
    subst (λ k. IsLike made k r) (one_payload made n entry.0 p entry.1 was) entry.2

-- an edited dict is a dict
edited_dict : (now : List Payload) (c : Change) (q : Payload) (qs : Pairs) → q ≡ payload.Dict qs → edited now c.edit q ≡ payload.Dict (edited_pairs now c.edit qs)
edited_dict now c q qs is = ap (edited now c.edit) is

-- so an edit of a dict leaves it one
dict_edited : (made now : List Payload) (c : Change) (ps : Pairs) (r : Payload) → IsLike made (payload.Dict ps) r → IsLike made (payload.Dict ps) (edited now c.edit r)
dict_edited made now c ps r like =
    let was = dict_like made ps r like in
    inr (inl (ps, edited_pairs now c.edit was.0, refl, edited_dict now c r was.0 was.1))

-- with one link set to an object of its kind
abbrev with_field : LinkField → Option Obj → Links → Links
with_field link.Cause v l = record l { cause = v }
with_field link.Context v l = record l { context = v }
with_field link.Traceback v l = record l { traceback = v }
with_field link.Next v l = l

field_set : (field : LinkField) (v : Option Obj) (l : Links) (e : ExceptionBody) → linked field v (with_links l e) ≡ with_links (with_field field v l) e
field_set link.Cause v l e = refl
field_set link.Context v l e = refl
field_set link.Traceback v l e = refl
field_set link.Next v l e = refl

are_with_field : (objects : List Payload) (field : LinkField) (v : Option Obj) (l : Links) (e : ExceptionBody) → SetsField objects field v → AreLinks objects e l
    → AreLinks objects e (with_field field v l)
are_with_field objects link.Cause v l e sets are = record { cause = inr sets; context = are.context; traceback = are.traceback }
are_with_field objects link.Context v l e sets are = record { cause = are.cause; context = inr sets; traceback = are.traceback }
are_with_field objects link.Traceback v l e sets are = record { cause = are.cause; context = are.context; traceback = inr sets }
are_with_field objects link.Next v l e sets are = absurd sets

-- an edit of an exception's links leaves it that one with other links
link_edited : (made now : List Payload) (c : Change) (e : ExceptionBody) (r : Payload) → SetsLink made c.edit → IsLike made (payload.Exception e) r
    → IsLike made (payload.Exception e) (edited now c.edit r)
link_edited made now c e r (inl (field, v, sets, is_made)) like =
    let (l, is, are) = exception_like made e r like in
    let set : edited now c.edit r ≡ payload.Exception (linked field v (with_links l e)) = ap (λ (x : Edit). edited now x r) sets ∙ ap (edited now (edit.Link field v)) is in
    inr (inr (e, with_field field v l, refl, set ∙ ap payload.Exception (field_set field v l e), are_with_field made field v l e is_made are))
link_edited made now c e r (inr (b, sets)) like =
    let (l, is, are) = exception_like made e r like in
    let set : edited now c.edit r ≡ payload.Exception (with_links (record l { suppress = b }) e) = ap (λ (x : Edit). edited now x r) sets ∙ ap (edited now (edit.Flag b)) is in
    inr (inr (e, record l { suppress = b }, refl, set, record { cause = are.cause; context = are.context; traceback = are.traceback }))

-- a change of what no answer reads, of what was made as this
unread_edited : (made now : List Payload) (c : Change) (r : Payload) → IsUnread made c → AreLike made now → slice_get now c.object.number ≡ Some r
    → (p : Payload) × (slice_get made c.object.number ≡ Some p) × IsLike made p (edited now c.edit r)
unread_edited made now c r (inl (ps, dict)) like is =
    (payload.Dict ps, dict, dict_edited made now c ps r (like_now made now c.object.number (payload.Dict ps) r like dict is))
unread_edited made now c r (inr ((e, exception), sets)) like is =
    (payload.Exception e, exception, link_edited made now c e r sets (like_now made now c.object.number (payload.Exception e) r like exception is))

-- a change of what no answer reads
edited_like : (made now : List Payload) (c : Change) (r : Option Payload) → slice_get now c.object.number ≡ r → IsUnread made c → AreLike made now
    → AreLike made (edited_entry now c.edit c.object.number r)
edited_like made now c None is unread like = like
edited_like made now c (Some r) is unread like = λ n q here. by n q (set_gives now c.object.number (edited now c.edit r) n q here)
  where
    by : (n : ℕ) (q : Payload) → ((q ≡ edited now c.edit r) × (n ≡ c.object.number)) ⊎ (slice_get now n ≡ Some q) → (p : Payload) × (slice_get made n ≡ Some p) × IsLike made p q
    by n q (inl (same, at)) =
        let (p, has, is_like) = unread_edited made now c r unread like is in
        (p, subst (λ k. slice_get made k ≡ Some p) (sym at) has, subst (IsLike made p) (sym same) is_like)
    by n q (inr there) = like n q there

-- changes of what no answer reads alone, one behind the other
changed_like : (made now : List Payload) (cs : List Change) → ChangeUnread made cs → AreLike made now → AreLike made (changed_by now cs)
changed_like made now [] unread like = like
changed_like made now (c ∷ cs) unread like =
    changed_like made (with_edit now c.object c.edit) cs (λ i d here. unread (suc i) d here)
    (edited_like made now c (slice_get now c.object.number) refl (unread zero c refl) like)

-- what an object is now is what it is read as
pub is_read : (store : Kept) (o : Obj) (q : Payload) → ChangeUnread store.made store.changes → slice_get (objects_of store) o.number ≡ Some q → IsRead store.made o q
is_read store o q unread is = changed_like store.made store.made store.changes unread (λ n p here. (p, here, inl refl)) o.number q is

-- what is said of a payload, whatever the pairs of a dict and the links of an exception are, is said of what it was made as
pub said_of_made : (objects : List Payload) (P : Payload → Type 0) (p q : Payload) → IsLike objects p q → ((ps qs : Pairs) → P (payload.Dict qs) → P (payload.Dict ps))
    → ((e : ExceptionBody) (l : Links) → P (payload.Exception (with_links l e)) → P (payload.Exception e)) → P q → P p
said_of_made objects P p q (inl same) dicts links said = subst P same said
said_of_made objects P p q (inr (inl (ps, qs, first, second))) dicts links said = subst P (sym first) (dicts ps qs (subst P second said))
said_of_made objects P p q (inr (inr (e, l, first, second, are))) dicts links said = subst P (sym first) (links e l (subst P second said))

-- and the other way round
pub said_of_read : (objects : List Payload) (P : Payload → Type 0) (p q : Payload) → IsLike objects p q → ((ps qs : Pairs) → P (payload.Dict ps) → P (payload.Dict qs))
    → ((e : ExceptionBody) (l : Links) → AreLinks objects e l → P (payload.Exception e) → P (payload.Exception (with_links l e))) → P p → P q
said_of_read objects P p q (inl same) dicts links said = subst P (sym same) said
said_of_read objects P p q (inr (inl (ps, qs, first, second))) dicts links said = subst P (sym second) (dicts ps qs (subst P first said))
said_of_read objects P p q (inr (inr (e, l, first, second, are))) dicts links said = subst P (sym second) (links e l are (subst P first said))

-- a link that was made with the exception, or that leads to an object of its kind, leads to one
link_made : (A : Option Obj → Type 0) (v w : Option Obj) → (v ≡ w) ⊎ A v → A w → A v
link_made A v w (inl same) is = subst A (sym same) is
link_made A v w (inr made) is = made

-- an exception with other links is made of what it needs
linked_made : (objects : List Payload) (e : ExceptionBody) (l : Links) → AreLinks objects e l → IsExceptionMade objects e → IsExceptionMade objects (with_links l e)
linked_made objects e l are made = record {
  class = made.class;
  is_class = made.is_class;
  arguments = made.arguments;
  are_arguments = made.are_arguments;
  cause = link_made (IfThere (IsException objects)) l.cause e.cause are.cause made.cause;
  context = link_made (IfThere (IsException objects)) l.context e.context are.context made.context;
  traceback = link_made (IfThere (IsTraceback objects)) l.traceback e.traceback are.traceback made.traceback;
}

-- what is read is made of what it needs
pub read_made : (objects : List Payload) (o : Obj) (q : Payload) → AllFit objects → IsRead objects o q → IsMade objects q
read_made objects o q fit (p, has, like) = said_of_read objects (IsMade objects) p q like (λ ps qs made. tt) (λ e l are made. linked_made objects e l are made) (fit o.number p has).1

-- an operator comes to the same of any two dicts on its left
same_operated : (op : BinaryOperator) (ps qs : Pairs) (q : Payload) (left right : Name) → operated op (payload.Dict ps) q left right ≡ operated op (payload.Dict qs) q left right
same_operated binary.Add ps qs q left right = refl
same_operated binary.Subtract ps qs q left right = refl
same_operated _ ps qs q left right = refl

-- and on its right
operated_same : (op : BinaryOperator) (ps qs : Pairs) (p : Payload) (left right : Name) → operated op p (payload.Dict ps) left right ≡ operated op p (payload.Dict qs) left right
operated_same binary.Add ps qs p left right = refl
operated_same binary.Subtract ps qs p left right = refl
operated_same _ ps qs p left right = refl

-- so it does of an exception with any links, on its left
linked_operated : (op : BinaryOperator) (e : ExceptionBody) (l : Links) (q : Payload) (left right : Name)
    → operated op (payload.Exception e) q left right ≡ operated op (payload.Exception (with_links l e)) q left right
linked_operated binary.Add e l q left right = refl
linked_operated binary.Subtract e l q left right = refl
linked_operated _ e l q left right = refl

-- and on its right
operated_linked : (op : BinaryOperator) (e : ExceptionBody) (l : Links) (p : Payload) (left right : Name)
    → operated op p (payload.Exception e) left right ≡ operated op p (payload.Exception (with_links l e)) left right
operated_linked binary.Add e l p left right = refl
operated_linked binary.Subtract e l p left right = refl
operated_linked _ e l p left right = refl

-- the reply of an operator
pub operated_as_made : (objects : List Payload) (op : BinaryOperator) (a b : Obj) (p q : Payload) (reply : Reply)
    → IsRead objects a p → IsRead objects b q → IsOperated objects op p q reply → Replies objects (request.Binary op a b) reply
operated_as_made objects op a b p q reply (p', has_p, like_p) (q', has_q, like_q) operated_pq =
    let (left, right, is_left, is_right, is) =
    said_of_made objects (λ k. IsOperated objects op p' k reply) q' q like_q second second_linked
    (said_of_made objects (λ k. IsOperated objects op k q reply) p' p like_p first first_linked operated_pq) in
    (p', q', left, right, has_p, has_q, is_left, is_right, is)
  where
    first : (ps qs : Pairs) → IsOperated objects op (payload.Dict qs) q reply → IsOperated objects op (payload.Dict ps) q reply
    first ps qs (left, right, is_left, is_right, is) = (left, right, is_left, is_right, same_operated op ps qs q left right ∙ is)

    second : (ps qs : Pairs) → IsOperated objects op p' (payload.Dict qs) reply → IsOperated objects op p' (payload.Dict ps) reply
    second ps qs (left, right, is_left, is_right, is) = (left, right, is_left, is_right, operated_same op ps qs p' left right ∙ is)

    first_linked : (e : ExceptionBody) (l : Links) → IsOperated objects op (payload.Exception (with_links l e)) q reply → IsOperated objects op (payload.Exception e) q reply
    first_linked e l (left, right, is_left, is_right, is) = (left, right, is_left, is_right, linked_operated op e l q left right ∙ is)

    second_linked : (e : ExceptionBody) (l : Links) → IsOperated objects op p' (payload.Exception (with_links l e)) reply → IsOperated objects op p' (payload.Exception e) reply
    second_linked e l (left, right, is_left, is_right, is) = (left, right, is_left, is_right, operated_linked op e l p' left right ∙ is)

-- that of a comparison
pub less_as_made : (objects : List Payload) (a b : Obj) (p q : Payload) (reply : Reply) → IsRead objects a p → IsRead objects b q → IsLess objects p q reply → Compares objects comparison.Less a b reply
less_as_made objects a b p q reply (p', has_p, like_p) (q', has_q, like_q) less_pq =
    let (left, right, is_left, is_right, is) =
    said_of_made objects (λ k. IsLess objects p' k reply) q' q like_q (λ ps qs less. less) (λ e l less. less)
    (said_of_made objects (λ k. IsLess objects k q reply) p' p like_p (λ ps qs less. less) (λ e l less. less) less_pq) in
    (p', q', left, right, has_p, has_q, is_left, is_right, is)

-- what is read as a class was made as that
pub read_class : (objects : List Payload) (o : Obj) (q : Payload) (c : ClassBody) → IsRead objects o q → q ≡ payload.Class c → HasPayload objects o (payload.Class c)
read_class objects o q c (p, has, inl same) is = subst (HasPayload objects o) (sym same ∙ is) has
read_class objects o q c (p, has, inr (inl (ps, qs, first, second))) is = let both : payload.Dict qs ≡ payload.Class c = sym second ∙ is in absurd (cc both)
read_class objects o q c (p, has, inr (inr (e, l, first, second, are))) is =
    let both : payload.Exception (with_links l e) ≡ payload.Class c = sym second ∙ is in
    absurd (cc both)

-- ---- objects as they are now, and as they were made

-- a tuple stays what it was made as
pub tuple_now : (s : Kept) (o : Obj) (vs : List Obj) → HasPayload s.made o (payload.Tuple vs) → HasPayload (objects_of s) o (payload.Tuple vs)
tuple_now s o vs has =
    let (p, now, is) = changes_keep (λ (p : Payload). p ≡ payload.Tuple vs) (λ objects x p is. ap (edited objects x) is) s.made s.changes o.number (payload.Tuple vs, has, refl) in
    now ∙ ap Some is

-- what an exception was made of is there now
pub parts_now : (s : Kept) (p : Payload) → IsMade s.made p → AreParts (objects_of s) p
parts_now s (payload.Exception e) made =
    (class_object_now s (class_object e.class) (made.class, made.is_class), (made.arguments, tuple_now s e.args made.arguments made.are_arguments))
parts_now s _ made = tt

-- an instance now was made as one
pub instance_as_made : (s : Kept) (p : Payload) (c : Obj) (b : Bool) → IsMade s.made p → IsInstanceOf (objects_of s) p c b → IsInstanceOf s.made p c b
instance_as_made s (payload.Exception e) c b made (body, has, is) = (body, class_made s (class_object e.class) body (made.class, made.is_class) has, is)
instance_as_made s _ c b made is = is

-- what a class of exceptions catches, by what is read of both
pub class_matches : (objects : List Payload) (e c : Obj) (p q : Payload) (d : ClassBody) (b : Bool)
    → IsRead objects e p → IsRead objects c q → q ≡ payload.Class d → IsDerived objects c (name_of BaseException) true → IsInstanceOf objects p c b → Matches objects e c (truth b)
class_matches objects e c p q d b (p', has, like) read is one caught =
    (p', payload.Class d, has, read_class objects c q d read is, (true, one, (b, said_of_made objects (λ k. IsInstanceOf objects k c b) p' p like (λ ps qs same. same) (λ e l same. same) caught, refl)))

-- a class derives now from what it derived from as it was made
derived_as_made : (s : Kept) (v : Obj) (c : ClassBody) (n : Name) (b : Bool) → HasPayload s.made v (payload.Class c) → IsDerived (objects_of s) v n b → IsDerived s.made v n b
derived_as_made s v c n b has (d, now, is) = (c, has, is ∙ changed_derives s.made s.changes v n)

-- what a class is taken for now, it is taken for as it was made
class_taken_as_made : (s : Kept) (v : Obj) (c : ClassBody) (b : Bool) (taken : Result ExceptionCtor CtorFault) → ClassTaken (objects_of s) v c b taken → ClassTaken s.made v c b taken
class_taken_as_made s v c true taken is = is
class_taken_as_made s v c false (Ok k) is = is
class_taken_as_made s v c false (Err (ctor_fault.NotException f)) is = is
class_taken_as_made s v c false (Err ctor_fault.NoMemory) is = is

-- what an object is taken for now, it is taken for as it was made
taken_for_as_made : (s : Kept) (v : Obj) (p : Payload) (taken : Result ExceptionCtor CtorFault) → IsRead s.made v p → IsTakenFor (objects_of s) v p taken → IsTakenFor s.made v p taken
taken_for_as_made s v (payload.Class c) taken read (b, derived, is) =
    (b, derived_as_made s v c (name_of BaseException) b (read_class s.made v (payload.Class c) c read refl) derived, class_taken_as_made s v c b taken is)
taken_for_as_made s v (payload.Exception e) taken read is = is
taken_for_as_made s v _ (Ok c) read is = is
taken_for_as_made s v _ (Err (ctor_fault.NotException f)) read is = is
taken_for_as_made s v _ (Err ctor_fault.NoMemory) read is = is

-- a dict is taken for the same, whatever its pairs
dict_taken : (objects : List Payload) (v : Obj) (taken : Result ExceptionCtor CtorFault) (ps qs : Pairs) → IsTakenFor objects v (payload.Dict qs) taken → IsTakenFor objects v (payload.Dict ps) taken
dict_taken objects v (Ok c) ps qs is = is
dict_taken objects v (Err (ctor_fault.NotException f)) ps qs is = is
dict_taken objects v (Err ctor_fault.NoMemory) ps qs is = is

-- so what is taken for something now is taken for that as it was made
pub taken_as_made : (s : Kept) (v : Obj) (taken : Result ExceptionCtor CtorFault) → ChangeUnread s.made s.changes → IsTaken (objects_of s) v taken → IsTaken s.made v taken
taken_as_made s v taken unread (q, has, is) =
    let read : IsRead s.made v q = is_read s v q unread has in
    (read.0, read.1, said_of_made s.made (λ k. IsTakenFor s.made v k taken) read.0 q read.2 (dict_taken s.made v taken) (λ e l same. same) (taken_for_as_made s v q taken read is))
