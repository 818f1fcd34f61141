-- A question that needs no activation has one reply.
use Rattle.std.proofs.Common.{◌≡◌, Bool, true, false, List, [], ◌∷◌, Option, Some, None, sym, subst, ◌∙◌}
use Rattle.std.specs.Prelude.{codes}
use Rattle.py_code.specs.declared.operator.ComparisonOperator.{ComparisonOperator}
use Rattle.py_code.specs.declared.operator.ComparisonOperator.TheVariants as comparison
use Rattle.py_objects.specs.declared.payload.Payload.{Payload}
use Rattle.py_objects.specs.declared.payload.Payload.TheVariants as payload
use Rattle.py_objects.specs.declared.payload.ClassBody.{ClassBody}
use Rattle.py_objects.specs.declared.payload.CoroBody.{CoroBody}
use Rattle.py_objects.specs.declared.error_kind.ErrorKind.TheVariants.{BaseException, TypeError}
use Rattle.py_objects.specs.declared.request.Request.{Request}
use Rattle.py_objects.specs.declared.request.Request.TheVariants as request
use Rattle.py_objects.specs.ErrorKinds.{name_of}
use Rattle.py_objects.specs.Objects.{Obj, Name, HasPayload, declared}
use Rattle.py_objects.specs.Ancestry.{IsDerived}
use Rattle.py_objects.specs.Callees.{is_manager}
use Rattle.py_objects.specs.Values.{class_body_of, generator_of}
use Rattle.py_exceptions.specs.Deriving.{IsInstanceOf}
use Rattle.py_answers.specs.Answers.{Reply, Has, Makes, Fails, IsTypeName, operated, truth, less, Compares, is_true, cannot_catch, MatchesClass, MatchesBy, MatchesAs, Matches, found, unset, raised_as, not_callable, refused_arguments, CallsClass, CallsAs, lacks_attribute, LacksBy, LacksAs, Lacks, no_protocol, no_exit, IsRefusedBy, Replies}
use Rattle.py_once.specs.Laws.{AtMostOne}
use Rattle.py_once.proofs.PayloadsOnce.{said_once, some_once, by_one, one_payload, by_payload, type_name_once, derived_once, instance_once}
use Rattle.py_once.proofs.ThrownOnce.{by_taken}

module _ (objects : List Payload) where
  -- ---- replies that name types

  by_type : (p : Payload) (reply_of : Name → Reply) → AtMostOne (λ reply. (n : Name) × IsTypeName objects p n × (reply ≡ reply_of n))
  by_type p reply_of =
      by_one (IsTypeName objects p) (λ n reply. reply ≡ reply_of n) (type_name_once objects p) (λ n. said_once (reply_of n))

  -- those of two operands
  by_types : (a b : Obj) (R : Payload → Payload → Name → Name → Reply → Type 0) → ((p q : Payload) (n m : Name) → AtMostOne (R p q n m))
      → AtMostOne
      (λ reply. (p : Payload) × (q : Payload) × (n : Name) × (m : Name) × HasPayload objects a p × HasPayload objects b q
      × IsTypeName objects p n × IsTypeName objects q m × R p q n m reply)
  by_types a b R once x y (p, q, n, m, has_p, has_q, is_n, is_m, is) (p', q', n', m', has_p', has_q', is_n', is_m', is') =
      let first : p' ≡ p = one_payload objects a p' p has_p' has_p in
      let second : q' ≡ q = one_payload objects b q' q has_q' has_q in
      let left : n' ≡ n = type_name_once objects p n' n (subst (λ z. IsTypeName objects z n') first is_n') is_n in
      let right : m' ≡ m = type_name_once objects q m' m (subst (λ z. IsTypeName objects z m') second is_m') is_m in
      once p q n m x y is
      (subst (λ z. R p q n z y) right (subst (λ z. R p q z m' y) left (subst (λ z. R p z n' m' y) second (subst (λ z. R z q' n' m' y) first is'))))

  -- ---- comparisons and matches

  compares_once : (op : ComparisonOperator) (a b : Obj) → AtMostOne (Compares objects op a b)
  compares_once comparison.Less a b = by_types a b (λ p q n m reply. reply ≡ less p q n m) (λ p q n m. said_once (less p q n m))
  compares_once comparison.Equal a b = λ x y (p, q, has_p, has_q, is) (p', q', has_p', has_q', is'). is ∙ sym is'
  compares_once _ a b = λ x y is is'. absurd is

  matches_class_once : (p : Payload) (c : Obj) (b : Bool) → AtMostOne (MatchesClass objects p c b)
  matches_class_once p c true = by_one (IsInstanceOf objects p c) (λ b reply. reply ≡ truth b) (instance_once objects p c) (λ b. said_once (truth b))
  matches_class_once p c false = said_once cannot_catch

  matches_by_once : (p : Payload) (c : Obj) (d : Option ClassBody) → AtMostOne (MatchesBy objects p c d)
  matches_by_once p c None = said_once cannot_catch
  matches_by_once p c (Some d) =
      by_one (IsDerived objects c (name_of BaseException)) (MatchesClass objects p c)
      (derived_once objects c (name_of BaseException)) (matches_class_once p c)

  matches_once : (e c : Obj) → AtMostOne (Matches objects e c)
  matches_once e c x y (p, q, has_p, has_q, is) (p', q', has_p', has_q', is') =
      let raised : p' ≡ p = one_payload objects e p' p has_p' has_p in
      let class : q' ≡ q = one_payload objects c q' q has_q' has_q in
      matches_by_once p c (class_body_of q) x y is (subst (λ z. MatchesAs objects p c z y) class (subst (λ z. MatchesAs objects z c q' y) raised is'))

  -- ---- calls, and refusals

  calls_class_once : (f : Obj) (c : ClassBody) (vs : List Obj) (b : Bool) → AtMostOne (CallsClass objects f c vs b)
  calls_class_once f c vs true = said_once (Makes (record { number = f.number }) vs)
  calls_class_once f c vs false = by_type (payload.Class c) (λ n. Fails TypeError (not_callable n))

  calls_as_once : (f : Obj) (vs : List Obj) (p : Payload) → AtMostOne (λ reply. CallsAs objects f p vs reply)
  calls_as_once f vs (payload.Class c) =
      by_one (IsDerived objects f (name_of BaseException)) (CallsClass objects f c vs)
      (derived_once objects f (name_of BaseException)) (calls_class_once f c vs)
  calls_as_once f vs (payload.Function b) = λ x y is is'. absurd is
  calls_as_once f vs (payload.Builtin b) = said_once (refused_arguments b)
  calls_as_once f vs p = by_type p (λ n. Fails TypeError (not_callable n))

  lacks_by_once : (x : Name) (p : Payload) (g : Option CoroBody) → AtMostOne (LacksBy objects x p g)
  lacks_by_once x p None = by_type p (λ n. lacks_attribute n x)
  lacks_by_once x p (Some g) = λ r s is is'. absurd is

  lacks_once : (x : Name) (g : Obj) → AtMostOne (Lacks objects x g)
  lacks_once x g = by_payload objects g (LacksAs objects x) (λ p. lacks_by_once x p (generator_of p))

  -- what is said of anything but a manager
  unmanaged_once : (m : Obj) (R : Payload → Reply → Type 0) → ((p : Payload) → AtMostOne (R p))
      → AtMostOne (λ reply. (p : Payload) × HasPayload objects m p × (is_manager p ≡ false) × R p reply)
  unmanaged_once m R once x y (p, has, other, is) (p', has', other', is') = by_payload objects m R once x y (p, has, is) (p', has', is')

  refused_by_once : (text : Name → Name) (p : Payload) → AtMostOne (IsRefusedBy objects text p)
  refused_by_once text p = by_type p (λ n. Fails TypeError (text n))

  -- ---- questions

  -- a question has one reply
  pub replies_once : (r : Request) → AtMostOne (Replies objects r)
  replies_once (request.Binary op a b) = by_types a b (λ p q n m reply. operated op p q n m ≡ Some reply) (λ p q n m. some_once (operated op p q n m))
  replies_once (request.Compare op a b) = compares_once op a b
  replies_once (request.Truth v) = by_payload objects v (λ p reply. reply ≡ truth (is_true p)) (λ p. said_once (truth (is_true p)))
  replies_once (request.Match e c) = matches_once e c
  replies_once (request.Global globals x) = said_once (found x (declared objects x))
  replies_once (request.Show v) = said_once (Has payload.None)
  replies_once (request.Unbound x) = said_once (unset x)
  replies_once (request.Raisable v) =
      by_taken objects v (λ c reply. reply ≡ raised_as c) (λ f reply. reply ≡ Fails f.kind f.text)
      (λ c. said_once (raised_as c)) (λ f. said_once (Fails f.kind f.text))
  replies_once (request.Call f vs named) = λ x y is is'.
      by_payload objects f (λ p reply. CallsAs objects f p vs reply) (calls_as_once f vs) x y is.1 is'.1
  replies_once (request.Send g v) = lacks_once (codes "send") g
  replies_once (request.Throw g c v t) = lacks_once (codes "throw") g
  replies_once (request.Close g) = lacks_once (codes "close") g
  replies_once (request.Enter m) = unmanaged_once m (IsRefusedBy objects no_protocol) (refused_by_once no_protocol)
  replies_once (request.NoExit m) = by_payload objects m (IsRefusedBy objects no_exit) (refused_by_once no_exit)
  replies_once (request.Exit x c e t) = unmanaged_once x (λ p reply. CallsAs objects x p (c ∷ e ∷ t ∷ []) reply) (calls_as_once x (c ∷ e ∷ t ∷ []))
  replies_once _ = λ x y is is'. absurd is
