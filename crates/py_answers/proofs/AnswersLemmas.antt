-- Replies by cases on the operands.
use Rattle.std.proofs.Common.{◌≡◌, ◌++◌, ℕ, List, [], ◌∷◌, length, Some, Ok, inl, inr, refl, sym, ap, subst, ◌∙◌, ℤ, Bool, true, false, cond}
use Rattle.std.specs.Prelude.{Option, None, ◌+ℤ◌, ◌-ℤ◌, int_lt, codes}
use Rattle.std.proofs.lemmas.Option.{slice_get_within}
use Rattle.py_objects.specs.declared.payload.Payload.{Payload}
use Rattle.py_objects.specs.declared.payload.Payload.TheVariants as payload
use Rattle.py_objects.specs.declared.payload.ClassBody.{ClassBody}
use Rattle.py_objects.specs.declared.error_kind.ErrorKind.TheVariants.{OverflowError}
use Rattle.py_objects.specs.declared.request.Request.{Request}
use Rattle.py_objects.specs.declared.request.Request.TheVariants as request
use Rattle.py_code.specs.Range.{in_range}
use Rattle.py_code.specs.declared.operator.BinaryOperator.{BinaryOperator}
use Rattle.py_code.specs.declared.operator.BinaryOperator.TheVariants as binary
use Rattle.py_code.specs.declared.operator.ComparisonOperator.{ComparisonOperator}
use Rattle.py_code.specs.declared.operator.ComparisonOperator.TheVariants as comparison
use Rattle.py_objects.specs.Objects.{Obj, Name, HasPayload, as_exception, declared, numbers, keyword_numbers, request_numbers, AllBelow, IsMade}
use Rattle.py_objects.specs.Values.{number_of, text_of}
use Rattle.py_answers.specs.Answers.{Reply, Has, Fails, whole, sum, difference, truth, text_less, not_supported, operated, on_both, found, Compares, MatchesAs, MatchesClass, raised_as, Raises, CallsAs, CallsClass, Lacks, LacksAs, no_protocol, no_exit, IsRefusedBy, RefusesEntry, RefusesExit, CallsExit, Replies}
use Rattle.py_answers.specs.Replying.{joined, IsThere, IsSum, IsDifference, IsLess}
use Rattle.py_exceptions.specs.declared.ctor.ExceptionCtor.{ExceptionCtor}
use Rattle.py_exceptions.specs.declared.ctor.ExceptionCtor.TheVariants as ctor
use Rattle.py_exceptions.specs.Raisable.{as_class, IsTakenFor}
use Rattle.py_objects.proofs.NewLemmas.{declared_within}
use Rattle.py_exceptions.proofs.TypeNamesLemmas.{has_type_name}

-- a text is no number
text_no_number : (p : Payload) (s : Name) → text_of p ≡ Some s → number_of p ≡ None
text_no_number (payload.Str t) s is = refl
text_no_number _ s is = absurd (cc is)

-- where both values are there
on_both_there : {A : Type 0} (a b : Option A) (x y : A) (f : A → A → Reply) (other : Reply) → a ≡ Some x → b ≡ Some y → on_both a b f other ≡ f x y
on_both_there a b x y f other first second = ap (λ k. on_both k b f other) first ∙ ap (λ k. on_both (Some x) k f other) second

-- where the first isn't
on_both_none : {A : Type 0} (a b : Option A) (f : A → A → Reply) (other : Reply) → a ≡ None → on_both a b f other ≡ other
on_both_none a b f other none = ap (λ k. on_both k b f other) none

-- two texts as one, where both are there
on_both_joined : (a b : Option Name) (t : Name) (other : Reply) → joined a b ≡ Some t → on_both a b (λ s u. Has (payload.Str (s ++ u))) other ≡ Has (payload.Str t)
on_both_joined None b t other is = absurd (cc is)
on_both_joined (Some s) None t other is = absurd (cc is)
on_both_joined (Some s) (Some u) t other is = let same : s ++ u ≡ t = cc in ap (λ v. Has (payload.Str v)) same

-- else the other reply
on_both_other : (a b : Option Name) (other : Reply) → joined a b ≡ None → on_both a b (λ s u. Has (payload.Str (s ++ u))) other ≡ other
on_both_other None b other is = refl
on_both_other (Some s) None other is = refl
on_both_other (Some s) (Some u) other is = absurd (cc is)

-- two texts are joined
pub texts_joined : (objects : List Payload) (p q : Payload) (t : Name)
    → IsMade objects p → IsMade objects q → joined (text_of p) (text_of q) ≡ Some t → IsSum objects p q (Has (payload.Str t))
texts_joined objects p q t made_p made_q is =
    let left = has_type_name objects p made_p in
    let right = has_type_name objects q made_q in
    (left.0, right.0, left.1, right.1, sym (on_both_joined (text_of p) (text_of q) t _ is))

-- two numbers are added
pub numbers_added : (objects : List Payload) (p q : Payload) (m n : ℤ) (reply : Reply)
    → IsMade objects p → IsMade objects q → joined (text_of p) (text_of q) ≡ None → number_of p ≡ Some m → number_of q ≡ Some n → reply ≡ whole (m +ℤ n) → IsSum objects p q reply
numbers_added objects p q m n reply made_p made_q none first second is =
    let left = has_type_name objects p made_p in
    let right = has_type_name objects q made_q in
    let refusal : Reply = not_supported (codes "+") left.0 right.0 in
    let numbers = on_both_there (number_of p) (number_of q) m n (λ m n. whole (m +ℤ n)) refusal first second in
    (left.0, right.0, left.1, right.1, is ∙ sym (on_both_other (text_of p) (text_of q) (on_both (number_of p) (number_of q) (λ m n. whole (m +ℤ n)) refusal) none ∙ numbers))

-- and subtracted
pub numbers_subtracted : (objects : List Payload) (p q : Payload) (m n : ℤ) (reply : Reply)
    → IsMade objects p → IsMade objects q → number_of p ≡ Some m → number_of q ≡ Some n → reply ≡ whole (m -ℤ n) → IsDifference objects p q reply
numbers_subtracted objects p q m n reply made_p made_q first second is =
    let left = has_type_name objects p made_p in
    let right = has_type_name objects q made_q in
    (left.0, right.0, left.1, right.1, is ∙ sym (on_both_there (number_of p) (number_of q) m n (λ m n. whole (m -ℤ n)) _ first second))

-- and compared
pub numbers_compared : (objects : List Payload) (p q : Payload) (m n : ℤ) (b : Bool)
    → IsMade objects p → IsMade objects q → number_of p ≡ Some m → number_of q ≡ Some n → b ≡ int_lt m n → IsLess objects p q (truth b)
numbers_compared objects p q m n b made_p made_q first second is =
    let left = has_type_name objects p made_p in
    let right = has_type_name objects q made_q in
    (left.0, right.0, left.1, right.1, ap truth is ∙ sym (on_both_there (number_of p) (number_of q) m n (λ m n. truth (int_lt m n)) _ first second))

-- so are two texts
pub texts_compared : (objects : List Payload) (p q : Payload) (s t : Name) (b : Bool)
    → IsMade objects p → IsMade objects q → text_of p ≡ Some s → text_of q ≡ Some t → b ≡ text_less s t → IsLess objects p q (truth b)
texts_compared objects p q s t b made_p made_q first second is =
    let left = has_type_name objects p made_p in
    let right = has_type_name objects q made_q in
    let refusal : Reply = not_supported (codes "<") left.0 right.0 in
    let texts : Reply = on_both (text_of p) (text_of q) (λ s t. truth (text_less s t)) refusal in (
      left.0,
      right.0,
      left.1,
      right.1,
      ap truth is
          ∙ sym (on_both_none (number_of p) (number_of q) (λ m n. truth (int_lt m n)) texts (text_no_number p s first) ∙ on_both_there (text_of p) (text_of q) s t (λ s t. truth (text_less s t)) refusal first second),
    )

-- the objects among replies are there: among a function's reply, where both values are there, and the other one
on_both_gives : {A : Type 0} (objects : List Payload) (a b : Option A) (f : A → A → Reply) (other : Reply) → ((x y : A) → IsThere objects (f x y)) → IsThere objects other → IsThere objects (on_both a b f other)
on_both_gives objects None b f other here there = there
on_both_gives objects (Some x) None f other here there = there
on_both_gives objects (Some x) (Some y) f other here there = here x y

-- among the reply of a whole number
whole_gives : (objects : List Payload) (n : ℤ) → IsThere objects (whole n)
whole_gives objects n =
    let P : Bool → Type 0 = λ b. IsThere objects (cond b (Has (payload.Int n)) (Fails OverflowError (codes "integer out of range"))) in
    let cases : (b : Bool) → P b = λ b. elim b as P [ true ↦ tt | false ↦ tt ] in
    cases (in_range n)

-- of an operator
operated_gives : (objects : List Payload) (op : BinaryOperator) (p q : Payload) (left right : Name) (reply : Reply) → operated op p q left right ≡ Some reply → IsThere objects reply
operated_gives objects binary.Add p q left right reply is =
    let same : sum p q left right ≡ reply = cc in
    subst (IsThere objects) same (on_both_gives objects (text_of p) (text_of q) _ _ (λ s t. tt) (on_both_gives objects (number_of p) (number_of q) _ _ (λ m n. whole_gives objects (m +ℤ n)) tt))
operated_gives objects binary.Subtract p q left right reply is =
    let same : difference p q left right ≡ reply = cc in
    subst (IsThere objects) same (on_both_gives objects (number_of p) (number_of q) _ _ (λ m n. whole_gives objects (m -ℤ n)) tt)
operated_gives objects _ p q left right reply is = absurd (cc is)

-- of a comparison
compares_gives : (objects : List Payload) (op : ComparisonOperator) (a b : Obj) (reply : Reply) → Compares objects op a b reply → IsThere objects reply
compares_gives objects comparison.Less a b reply (p, q, left, right, has_p, has_q, is_left, is_right, is) =
    subst (IsThere objects) (sym is) (on_both_gives objects (number_of p) (number_of q) _ _ (λ m n. tt) (on_both_gives objects (text_of p) (text_of q) _ _ (λ s t. tt) tt))
compares_gives objects comparison.Equal a b reply (p, q, has_p, has_q, is) = subst (IsThere objects) (sym is) tt
compares_gives objects _ a b reply is = absurd is

-- of a look-up among what is declared
found_gives : (objects : List Payload) (x : Name) (v : Option Obj) → declared objects x ≡ v → IsThere objects (found x v)
found_gives objects x None is = tt
found_gives objects x (Some v) is = declared_within objects x v is

-- of the question whether an exception is caught, by whether the class is one of exceptions
class_matches_gives : (objects : List Payload) (p : Payload) (c : Obj) (b : Bool) (reply : Reply) → MatchesClass objects p c b reply → IsThere objects reply
class_matches_gives objects p c true reply (b, caught, is) = subst (IsThere objects) (sym is) tt
class_matches_gives objects p c false reply is = subst (IsThere objects) (sym is) tt

-- and by what stands behind the `except`
matches_gives : (objects : List Payload) (p : Payload) (c : Obj) (q : Payload) (reply : Reply) → MatchesAs objects p c q reply → IsThere objects reply
matches_gives objects p c (payload.Class d) reply (b, derived, matches) = class_matches_gives objects p c b reply matches
matches_gives objects p c _ reply is = subst (IsThere objects) (sym is) tt

-- of what raises what an object is taken for
taken_gives : (objects : List Payload) (v : Obj) (p : Payload) (c : ExceptionCtor) → HasPayload objects v p → IsTakenFor objects v p (Ok c) → IsThere objects (raised_as c)
taken_gives objects v (payload.Class d) c has (false, derived, is) = absurd is
taken_gives objects v (payload.Class d) c has (true, derived, is) = let same : ctor.Class (as_class v) ≡ c = cc in subst (λ k. IsThere objects (raised_as k)) same ((d, has), tt)
taken_gives objects v (payload.Exception e) c has is =
    let same : ctor.Instance (as_exception v) ≡ c = cc in
    subst (λ k. IsThere objects (raised_as k)) same (slice_get_within objects v.number (payload.Exception e) has)
taken_gives objects v _ c has is = absurd is

-- so of the question what may be raised
raises_give : (objects : List Payload) (v : Obj) (reply : Reply) → Raises objects v reply → IsThere objects reply
raises_give objects v reply (inl (c, (p, has, taken), is)) = subst (IsThere objects) (sym is) (taken_gives objects v p c has taken)
raises_give objects v reply (inr (f, taken, is)) = subst (IsThere objects) (sym is) tt

-- of the call of a class, which makes an exception or is refused
class_call_gives : (objects : List Payload) (f : Obj) (c : ClassBody) (vs : List Obj) (b : Bool) (reply : Reply)
    → HasPayload objects f (payload.Class c) → AllBelow (length objects) (numbers vs) → CallsClass objects f c vs b reply → IsThere objects reply
class_call_gives objects f c vs true reply has below is = subst (IsThere objects) (sym is) ((c, has), below)
class_call_gives objects f c vs false reply has below (n, named, is) = subst (IsThere objects) (sym is) tt

-- of the call of an object with this payload
calls_as_give : (objects : List Payload) (f : Obj) (p : Payload) (vs : List Obj) (reply : Reply)
    → HasPayload objects f p → AllBelow (length objects) (numbers vs) → CallsAs objects f p vs reply → IsThere objects reply
calls_as_give objects f (payload.Class c) vs reply has below (b, derived, calls) = class_call_gives objects f c vs b reply has below calls
calls_as_give objects f (payload.Function b) vs reply has below calls = absurd calls
calls_as_give objects f (payload.Builtin b) vs reply has below is = subst (IsThere objects) (sym is) tt
calls_as_give objects f _ vs reply has below (n, named, is) = subst (IsThere objects) (sym is) tt

-- of `send`, `throw` or `close` on what is no generator
lacks_as_give : (objects : List Payload) (name : Name) (p : Payload) (reply : Reply) → LacksAs objects name p reply → IsThere objects reply
lacks_as_give objects name (payload.Generator g) reply lacks = absurd lacks
lacks_as_give objects name _ reply (n, named, is) = subst (IsThere objects) (sym is) tt

lacks_give : (objects : List Payload) (name : Name) (g : Obj) (reply : Reply) → Lacks objects name g reply → IsThere objects reply
lacks_give objects name g reply (p, has, lacks) = lacks_as_give objects name p reply lacks

-- of the refusal by a text
refused_by_gives : (objects : List Payload) (text : Name → Name) (p : Payload) (reply : Reply) → IsRefusedBy objects text p reply → IsThere objects reply
refused_by_gives objects text p reply (n, named, is) = subst (IsThere objects) (sym is) tt

-- so of that of an entry, and of a missing exit
refused_entry_gives : (objects : List Payload) (m : Obj) (reply : Reply) → RefusesEntry objects m reply → IsThere objects reply
refused_entry_gives objects m reply (p, has, none, refused) = refused_by_gives objects no_protocol p reply refused

refused_exit_gives : (objects : List Payload) (m : Obj) (reply : Reply) → RefusesExit objects m reply → IsThere objects reply
refused_exit_gives objects m reply (p, has, refused) = refused_by_gives objects no_exit p reply refused

-- and of an exit that is no manager
exit_gives : (objects : List Payload) (x : Obj) (told : List Obj) (reply : Reply) → AllBelow (length objects) (numbers told) → CallsExit objects x told reply → IsThere objects reply
exit_gives objects x told reply below (p, has, none, calls) = calls_as_give objects x p told reply has below calls

-- the front of numbers that are below
front_below : (n : ℕ) (xs ys : List ℕ) → AllBelow n (xs ++ ys) → AllBelow n xs
front_below n [] ys below = tt
front_below n (x ∷ xs) ys (low, below) = (low, front_below n xs ys below)

-- an object that is replied is there
pub replied_there : (objects : List Payload) (r : Request) (reply : Reply) → AllBelow (length objects) (request_numbers r) → Replies objects r reply → IsThere objects reply
replied_there objects (request.Binary op a b) reply below (p, q, left, right, has_p, has_q, is_left, is_right, is) = operated_gives objects op p q left right reply is
replied_there objects (request.Compare op a b) reply below compares = compares_gives objects op a b reply compares
replied_there objects (request.Truth v) reply below (p, has, is) = subst (IsThere objects) (sym is) tt
replied_there objects (request.Match e c) reply below (p, q, has_p, has_q, matches) = matches_gives objects p c q reply matches
replied_there objects (request.Global globals x) reply below is = subst (IsThere objects) (sym is) (found_gives objects x (declared objects x) refl)
replied_there objects (request.Show v) reply below is = subst (IsThere objects) (sym is) tt
replied_there objects (request.Unbound x) reply below is = subst (IsThere objects) (sym is) tt
replied_there objects (request.Raisable v) reply below raises = raises_give objects v reply raises
replied_there objects (request.Call f vs named) reply below (none, (p, has, calls)) =
    calls_as_give objects f p vs reply has (front_below (length objects) (numbers vs) (keyword_numbers named) below.1) calls
replied_there objects (request.Send g v) reply below lacks = lacks_give objects (codes "send") g reply lacks
replied_there objects (request.Throw g c v t) reply below lacks = lacks_give objects (codes "throw") g reply lacks
replied_there objects (request.Close g) reply below lacks = lacks_give objects (codes "close") g reply lacks
replied_there objects (request.Enter m) reply below refused = refused_entry_gives objects m reply refused
replied_there objects (request.NoExit m) reply below refused = refused_exit_gives objects m reply refused
replied_there objects (request.Exit x c e t) reply below calls = exit_gives objects x (c ∷ e ∷ t ∷ []) reply below.1 calls
replied_there objects _ reply below is = absurd is
