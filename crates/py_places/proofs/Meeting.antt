-- An event asks what a place asks: the requests, questions and exits that are met, and that those are which a choice tells.
use Rattle.std.proofs.Common.{◌≡◌, true, List, Option, Some, None, refl, sym, subst, ap, ◌∙◌, eqb, eq-eqb, eqb-true, bytes_eq, slice_get}
use Rattle.std.proofs.lemmas.Slice.Eq.{bytes_eq-Decides}
use Rattle.py_code.specs.declared.operator.BinaryOperator.TheVariants as binary
use Rattle.py_code.specs.declared.operator.ComparisonOperator.TheVariants as comparison
use Rattle.py_objects.specs.declared.refs.PyBaseExceptionRef.{PyBaseExceptionRef}
use Rattle.py_objects.specs.declared.payload.Payload.{Payload}
use Rattle.py_objects.specs.declared.payload.Payload.TheVariants as payload
use Rattle.py_objects.specs.declared.payload.ExceptionBody.{ExceptionBody}
use Rattle.py_objects.specs.declared.request.Keywords.TheVariants as keywords
use Rattle.py_objects.specs.declared.request.Request.{Request}
use Rattle.py_objects.specs.declared.request.Request.TheVariants as request
use Rattle.py_objects.specs.Objects.{Obj, HasPayload, as_object, class_object}
use Rattle.py_places.specs.Cells.{Cells, is_literal}
use Rattle.py_places.specs.Place.{Question, Looks_up, Requests}
use Rattle.py_places.specs.Stepping.{meet_in, meet_all, meet_if, given, meet_request, meet_question, is_none, meet_exit, is_class, meet_exit_by}
use Rattle.py_places.specs.Standing.{Standing, first_unused, for_exception, for_option, for_all, for_request, for_question}
use Rattle.py_places.specs.Telling.{request_of}
use Rattle.py_places.proofs.Fits.{Scoped, ObjScoped, IsAskable, IsAskableQuestion}
use Rattle.py_places.proofs.Literals.{same_of, scoped_below}
use Rattle.py_places.proofs.Choices.{object_of, exception_below, MeetsIf, IsMet, meets_as, meet_more, met_more, given_more, met_given, all_more, all_met, if_more, if_met_too}

-- a throw without a traceback
abbrev throw_of : Obj → Obj → Option Obj → Request
throw_of g c v = request.Throw g c v None

module _ (objects : List Payload) where
  abbrev RequestScoped : Cells → Request → Type 0
  RequestScoped cells r = Scoped (first_unused objects cells) (λ σ. for_request σ r)

  -- a request of one object, and of two
  one_more : (f : Obj → Request) (v w : Obj) (cells : Cells) (m : Option Cells) (P : Standing → Type 0) → ObjScoped (first_unused objects cells) v
      → MeetsIf objects cells m P
      → MeetsIf objects cells (meet_in objects v w m) (λ σ. P σ × (f (σ v) ≡ f w))
  one_more f v w cells m P s g =
      meets_as objects cells (meet_in objects v w m) (λ σ. P σ × (σ v ≡ w)) (λ σ. P σ × (f (σ v) ≡ f w)) (λ σ k. (k.0, ap f k.1))
      (meet_more objects v w cells m P (scoped_below _ v s) g)

  two_more : (f : Obj → Obj → Request) (v v1 w w1 : Obj) (cells : Cells) (m : Option Cells) (P : Standing → Type 0) → ObjScoped (first_unused objects cells) v
      → ObjScoped (first_unused objects cells) w → MeetsIf objects cells m P
      → MeetsIf objects cells (meet_in objects w w1 (meet_in objects v v1 m)) (λ σ. P σ × (f (σ v) (σ w) ≡ f v1 w1))
  two_more f v v1 w w1 cells m P sv sw g =
      meets_as objects cells (meet_in objects w w1 (meet_in objects v v1 m)) (λ σ. (P σ × (σ v ≡ v1)) × (σ w ≡ w1)) (λ σ. P σ × (f (σ v) (σ w) ≡ f v1 w1))
      (λ σ k. (k.0.0, ap (λ x. f x (σ w)) k.0.1 ∙ ap (f v1) k.1))
      (meet_more objects w w1 cells (meet_in objects v v1 m) (λ σ. P σ × (σ v ≡ v1)) (scoped_below _ w sw)
      (meet_more objects v v1 cells m P (scoped_below _ v sv) g))

  two_met : (v w : Obj) (cells : Cells) (σ : Standing) (m : Option Cells) → ObjScoped (first_unused objects cells) v
      → ObjScoped (first_unused objects cells) w → IsMet objects cells σ m
      → IsMet objects cells σ (meet_in objects w (σ w) (meet_in objects v (σ v) m))
  two_met v w cells σ m sv sw i =
      met_more objects w (σ w) cells σ (meet_in objects v (σ v) m) (scoped_below _ w sw) refl
      (met_more objects v (σ v) cells σ m (scoped_below _ v sv) refl i)

  -- a request that is met is what the place's stands for
  pub request_more : (r r1 : Request) (cells : Cells) (m : Option Cells) (P : Standing → Type 0) → RequestScoped cells r → MeetsIf objects cells m P
      → MeetsIf objects cells (meet_request objects r r1 m) (λ σ. P σ × (for_request σ r ≡ r1))
  request_more (request.Unbound x) (request.Unbound y) cells m P s g =
      meets_as objects cells (given objects (bytes_eq x y) m) (λ σ. P σ × (bytes_eq x y ≡ true)) (λ σ. P σ × (request.Unbound x ≡ request.Unbound y))
      (λ σ k. (k.0, ap request.Unbound ((bytes_eq-Decides x y).0 k.1))) (given_more objects (bytes_eq x y) cells m P g)
  request_more (request.Binary binary.Add a b) (request.Binary binary.Add c d) cells m P s g =
      two_more (request.Binary binary.Add) a c b d cells m P (λ σ σ' same. cc (s σ σ' same)) (λ σ σ' same. cc (s σ σ' same)) g
  request_more (request.Binary binary.Subtract a b) (request.Binary binary.Subtract c d) cells m P s g =
      two_more (request.Binary binary.Subtract) a c b d cells m P (λ σ σ' same. cc (s σ σ' same)) (λ σ σ' same. cc (s σ σ' same)) g
  request_more (request.Compare comparison.Less a b) (request.Compare comparison.Less c d) cells m P s g =
      two_more (request.Compare comparison.Less) a c b d cells m P (λ σ σ' same. cc (s σ σ' same)) (λ σ σ' same. cc (s σ σ' same)) g
  request_more (request.Compare comparison.Equal a b) (request.Compare comparison.Equal c d) cells m P s g =
      two_more (request.Compare comparison.Equal) a c b d cells m P (λ σ σ' same. cc (s σ σ' same)) (λ σ σ' same. cc (s σ σ' same)) g
  request_more (request.Truth v) (request.Truth w) cells m P s g = one_more request.Truth v w cells m P (λ σ σ' same. cc (s σ σ' same)) g
  request_more (request.Match e c) (request.Match f d) cells m P s g =
      two_more request.Match e f c d cells m P (λ σ σ' same. cc (s σ σ' same)) (λ σ σ' same. cc (s σ σ' same)) g
  request_more request.Handled request.Handled cells m P s g = meets_as objects cells m P (λ σ. P σ × (request.Handled ≡ request.Handled)) (λ σ k. (k, refl)) g
  request_more (request.Raisable v) (request.Raisable w) cells m P s g = one_more request.Raisable v w cells m P (λ σ σ' same. cc (s σ σ' same)) g
  request_more (request.Show v) (request.Show w) cells m P s g = one_more request.Show v w cells m P (λ σ σ' same. cc (s σ σ' same)) g
  request_more (request.Call f vs keywords.None) (request.Call g ws keywords.None) cells m P s k =
      meets_as objects cells (meet_all objects vs ws (meet_in objects f g m)) (λ σ. (P σ × (σ f ≡ g)) × (for_all σ vs ≡ ws))
      (λ σ. P σ × (request.Call (σ f) (for_all σ vs) keywords.None ≡ request.Call g ws keywords.None))
      (λ σ t. (t.0.0, ap (λ x. request.Call x (for_all σ vs) keywords.None) t.0.1 ∙ ap (λ l. request.Call g l keywords.None) t.1))
      (all_more objects vs ws cells (meet_in objects f g m) (λ σ. P σ × (σ f ≡ g)) (λ σ σ' same. cc (s σ σ' same))
      (meet_more objects f g cells m P (scoped_below _ f (λ σ σ' same. cc (s σ σ' same))) k))
  request_more (request.Send g v) (request.Send k w) cells m P s i =
      two_more request.Send g k v w cells m P (λ σ σ' same. cc (s σ σ' same)) (λ σ σ' same. cc (s σ σ' same)) i
  request_more (request.Throw g c v None) (request.Throw k d w None) cells m P s i =
      meets_as objects cells (meet_if objects v w (meet_in objects c d (meet_in objects g k m)))
      (λ σ. (P σ × (throw_of (σ g) (σ c) None ≡ throw_of k d None)) × (for_option σ v ≡ w))
      (λ σ. P σ × (throw_of (σ g) (σ c) (for_option σ v) ≡ throw_of k d w))
      (λ σ t. (
        t.0.0,
        let one : σ g ≡ k = cc t.0.1 in let two : σ c ≡ d = cc t.0.1 in
            ap (λ x. throw_of x (σ c) (for_option σ v)) one ∙ (ap (λ x. throw_of k x (for_option σ v)) two ∙ ap (throw_of k d) t.1),
      ))
      (if_more objects v w cells (meet_in objects c d (meet_in objects g k m)) (λ σ. P σ × (throw_of (σ g) (σ c) None ≡ throw_of k d None))
      (λ σ σ' same. cc (s σ σ' same))
      (two_more (λ x y. throw_of x y None) g k c d cells m P (λ σ σ' same. cc (s σ σ' same)) (λ σ σ' same. cc (s σ σ' same)) i))
  request_more (request.Close v) (request.Close w) cells m P s g = one_more request.Close v w cells m P (λ σ σ' same. cc (s σ σ' same)) g
  request_more (request.Enter v) (request.Enter w) cells m P s g = one_more request.Enter v w cells m P (λ σ σ' same. cc (s σ σ' same)) g
  request_more (request.NoExit v) (request.NoExit w) cells m P s g = one_more request.NoExit v w cells m P (λ σ σ' same. cc (s σ σ' same)) g
  request_more _ _ cells m P s g = tt

  -- what a place's request stands for is met
  pub request_met : (r : Request) (cells : Cells) (σ : Standing) (m : Option Cells) → IsAskable r → RequestScoped cells r → IsMet objects cells σ m
      → IsMet objects cells σ (meet_request objects r (for_request σ r) m)
  request_met (request.Unbound x) cells σ m a s i = met_given objects (bytes_eq x x) cells σ m ((bytes_eq-Decides x x).1 refl) i
  request_met (request.Binary binary.Add v w) cells σ m a s i = two_met v w cells σ m (λ σ1 σ2 same. cc (s σ1 σ2 same)) (λ σ1 σ2 same. cc (s σ1 σ2 same)) i
  request_met (request.Binary binary.Subtract v w) cells σ m a s i = two_met v w cells σ m (λ σ1 σ2 same. cc (s σ1 σ2 same)) (λ σ1 σ2 same. cc (s σ1 σ2 same)) i
  request_met (request.Compare comparison.Less v w) cells σ m a s i =
      two_met v w cells σ m (λ σ1 σ2 same. cc (s σ1 σ2 same)) (λ σ1 σ2 same. cc (s σ1 σ2 same)) i
  request_met (request.Compare comparison.Equal v w) cells σ m a s i =
      two_met v w cells σ m (λ σ1 σ2 same. cc (s σ1 σ2 same)) (λ σ1 σ2 same. cc (s σ1 σ2 same)) i
  request_met (request.Truth v) cells σ m a s i = met_more objects v (σ v) cells σ m (scoped_below _ v (λ σ1 σ2 same. cc (s σ1 σ2 same))) refl i
  request_met (request.Match v w) cells σ m a s i = two_met v w cells σ m (λ σ1 σ2 same. cc (s σ1 σ2 same)) (λ σ1 σ2 same. cc (s σ1 σ2 same)) i
  request_met request.Handled cells σ m a s i = i
  request_met (request.Raisable v) cells σ m a s i = met_more objects v (σ v) cells σ m (scoped_below _ v (λ σ1 σ2 same. cc (s σ1 σ2 same))) refl i
  request_met (request.Show v) cells σ m a s i = met_more objects v (σ v) cells σ m (scoped_below _ v (λ σ1 σ2 same. cc (s σ1 σ2 same))) refl i
  request_met (request.Call f vs keywords.None) cells σ m a s i =
      all_met objects vs cells σ (meet_in objects f (σ f) m) (λ σ1 σ2 same. cc (s σ1 σ2 same))
      (met_more objects f (σ f) cells σ m (scoped_below _ f (λ σ1 σ2 same. cc (s σ1 σ2 same))) refl i)
  request_met (request.Send v w) cells σ m a s i = two_met v w cells σ m (λ σ1 σ2 same. cc (s σ1 σ2 same)) (λ σ1 σ2 same. cc (s σ1 σ2 same)) i
  request_met (request.Throw v w o None) cells σ m a s i =
      if_met_too objects o cells σ (meet_in objects w (σ w) (meet_in objects v (σ v) m)) (λ σ1 σ2 same. cc (s σ1 σ2 same))
      (two_met v w cells σ m (λ σ1 σ2 same. cc (s σ1 σ2 same)) (λ σ1 σ2 same. cc (s σ1 σ2 same)) i)
  request_met (request.Close v) cells σ m a s i = met_more objects v (σ v) cells σ m (scoped_below _ v (λ σ1 σ2 same. cc (s σ1 σ2 same))) refl i
  request_met (request.Enter v) cells σ m a s i = met_more objects v (σ v) cells σ m (scoped_below _ v (λ σ1 σ2 same. cc (s σ1 σ2 same))) refl i
  request_met (request.NoExit v) cells σ m a s i = met_more objects v (σ v) cells σ m (scoped_below _ v (λ σ1 σ2 same. cc (s σ1 σ2 same))) refl i
  request_met _ cells σ m a s i = absurd a

  -- ---- questions

  pub question_more : (globals : Obj) (q : Question) (r : Request) (cells : Cells) (m : Option Cells) (P : Standing → Type 0)
      → Scoped (first_unused objects cells) (λ σ. for_question σ q) → MeetsIf objects cells m P
      → MeetsIf objects cells (meet_question objects globals q r m) (λ σ. P σ × (request_of globals (for_question σ q) ≡ r))
  question_more globals (Looks_up x) (request.Global d y) cells m P s g =
      meets_as objects cells (given objects (eqb d.number globals.number) (given objects (bytes_eq x y) m))
      (λ σ. (P σ × (bytes_eq x y ≡ true)) × (eqb d.number globals.number ≡ true))
      (λ σ. P σ × (request.Global globals x ≡ request.Global d y))
      (λ σ k. (
        k.0.0,
        let name : x ≡ y = (bytes_eq-Decides x y).0 k.0.1 in let dict : globals ≡ d = sym (object_of d globals (eqb-true d.number globals.number k.1)) in
            ap (λ e. request.Global e x) dict ∙ ap (request.Global d) name,
      ))
      (given_more objects (eqb d.number globals.number) cells (given objects (bytes_eq x y) m) (λ σ. P σ × (bytes_eq x y ≡ true))
      (given_more objects (bytes_eq x y) cells m P g))
  question_more globals (Looks_up x) _ cells m P s g = tt
  question_more globals (Requests q) r cells m P s g = request_more q r cells m P (λ σ σ' same. cc (s σ σ' same)) g

  pub question_met : (globals : Obj) (q : Question) (cells : Cells) (σ : Standing) (m : Option Cells) → IsAskableQuestion q
      → Scoped (first_unused objects cells) (λ σ. for_question σ q) → IsMet objects cells σ m
      → IsMet objects cells σ (meet_question objects globals q (request_of globals (for_question σ q)) m)
  question_met globals (Looks_up x) cells σ m a s i =
      met_given objects (eqb globals.number globals.number) cells σ (given objects (bytes_eq x x) m) (eq-eqb globals.number globals.number refl)
      (met_given objects (bytes_eq x x) cells σ m ((bytes_eq-Decides x x).1 refl) i)
  question_met globals (Requests q) cells σ m a s i = request_met q cells σ m a (λ σ1 σ2 same. cc (s σ1 σ2 same)) i

  -- ---- exits

  -- the request of the exit of a manager that is left without a raise
  pub record IsExit (m : Obj) (r : Request) : Type 0 where
    pub class : Obj
    pub value : Obj
    pub traceback : Obj
    pub no_class : HasPayload objects class payload.None
    pub no_value : HasPayload objects value payload.None
    pub no_traceback : HasPayload objects traceback payload.None
    pub is : r ≡ request.Exit m class value traceback

  pub none_has : (v : Obj) → is_none objects v ≡ true → HasPayload objects v payload.None
  none_has v e = by (slice_get objects v.number) e
    where
      by : (p : Option Payload) → is_literal payload.None p ≡ true → p ≡ Some payload.None
      by None e1 = absurd (cc e1)
      by (Some q) e1 = ap Some (same_of q payload.None e1)

  pub has_none : (v : Obj) → HasPayload objects v payload.None → is_none objects v ≡ true
  has_none v has = ap (is_literal payload.None) has

  pub exit_more : (m : Obj) (r : Request) (cells : Cells) (n : Option Cells) (P : Standing → Type 0) → ObjScoped (first_unused objects cells) m
      → MeetsIf objects cells n P
      → MeetsIf objects cells (meet_exit objects m r n) (λ σ. P σ × IsExit (σ m) r)
  exit_more m (request.Exit x c e t) cells n P s g =
      meets_as objects cells (meet_exit objects m (request.Exit x c e t) n)
      (λ σ. (((P σ × (σ m ≡ x)) × (is_none objects t ≡ true)) × (is_none objects e ≡ true)) × (is_none objects c ≡ true))
      (λ σ. P σ × IsExit (σ m) (request.Exit x c e t))
      (λ σ k. (
        k.0.0.0.0,
        record {
          class = c;
          value = e;
          traceback = t;
          no_class = none_has c k.1;
          no_value = none_has e k.0.1;
          no_traceback = none_has t k.0.0.1;
          is = ap (λ y. request.Exit y c e t) (sym k.0.0.0.1);
        },
      ))
      (given_more objects (is_none objects c) cells _ (λ σ. ((P σ × (σ m ≡ x)) × (is_none objects t ≡ true)) × (is_none objects e ≡ true))
      (given_more objects (is_none objects e) cells _ (λ σ. (P σ × (σ m ≡ x)) × (is_none objects t ≡ true))
      (given_more objects (is_none objects t) cells (meet_in objects m x n) (λ σ. P σ × (σ m ≡ x)) (meet_more objects m x cells n P (scoped_below _ m s) g))))
  exit_more m _ cells n P s g = tt

  pub exit_met : (m : Obj) (r : Request) (cells : Cells) (σ : Standing) (n : Option Cells) → ObjScoped (first_unused objects cells) m
      → IsExit (σ m) r → IsMet objects cells σ n
      → IsMet objects cells σ (meet_exit objects m r n)
  exit_met m r cells σ n s k i =
      subst (λ q. IsMet objects cells σ (meet_exit objects m q n)) (sym k.is)
      (met_given objects (is_none objects k.class) cells σ _ (has_none k.class k.no_class)
      (met_given objects (is_none objects k.value) cells σ _ (has_none k.value k.no_value)
      (met_given objects (is_none objects k.traceback) cells σ _ (has_none k.traceback k.no_traceback)
      (met_more objects m (σ m) cells σ n (scoped_below _ m s) refl i))))

  -- that of one that is left by a raise
  pub record IsExitBy (m : Obj) (e : PyBaseExceptionRef) (r : Request) : Type 0 where
    pub body : ExceptionBody
    pub traceback : Obj
    pub has : HasPayload objects (as_object e) (payload.Exception body)
    pub is : r ≡ request.Exit m (class_object body.class) (as_object e) traceback

  class_by : (p : Option Payload) (c : Obj) → is_class objects p c ≡ true
      → (body : ExceptionBody) × (p ≡ Some (payload.Exception body)) × (c ≡ class_object body.class)
  class_by (Some (payload.Exception body)) c e = (body, refl, sym (object_of (class_object body.class) c (eqb-true body.class.number c.number e)))
  class_by _ c e = absurd (cc e)

  pub exit_by_more : (m : Obj) (e : PyBaseExceptionRef) (r : Request) (cells : Cells) (n : Option Cells) (P : Standing → Type 0)
      → ObjScoped (first_unused objects cells) m
      → Scoped (first_unused objects cells) (λ σ. for_exception σ e) → MeetsIf objects cells n P
      → MeetsIf objects cells (meet_exit_by objects m e r n) (λ σ. P σ × IsExitBy (σ m) (for_exception σ e) r)
  exit_by_more m e (request.Exit x c f t) cells n P sm se g =
      meets_as objects cells (meet_exit_by objects m e (request.Exit x c f t) n)
      (λ σ. ((P σ × (σ m ≡ x)) × (σ (as_object e) ≡ f)) × (is_class objects (slice_get objects f.number) c ≡ true))
      (λ σ. P σ × IsExitBy (σ m) (for_exception σ e) (request.Exit x c f t))
      (λ σ k. (k.0.0.0, exit_of σ k.0.0.1 k.0.1 k.1))
      (given_more objects (is_class objects (slice_get objects f.number) c) cells _ (λ σ. (P σ × (σ m ≡ x)) × (σ (as_object e) ≡ f))
      (meet_more objects (as_object e) f cells (meet_in objects m x n) (λ σ. P σ × (σ m ≡ x)) (exception_below objects _ e se)
      (meet_more objects m x cells n P (scoped_below _ m sm) g)))
    where
      exit_of : (σ : Standing) → σ m ≡ x → σ (as_object e) ≡ f → is_class objects (slice_get objects f.number) c ≡ true
          → IsExitBy (σ m) (for_exception σ e) (request.Exit x c f t)
      exit_of σ manager exception class =
          let (body, has, is) = class_by (slice_get objects f.number) c class in
          record {
            body = body;
            traceback = t;
            has = subst (λ (w : Obj). slice_get objects w.number ≡ Some (payload.Exception body)) (sym exception) has;
            is =
                ap (λ y. request.Exit y c f t) (sym manager)
                ∙ (ap (λ y. request.Exit (σ m) y f t) is ∙ ap (λ y. request.Exit (σ m) (class_object body.class) y t) (sym exception));
          }
  exit_by_more m e _ cells n P sm se g = tt

  pub exit_by_met : (m : Obj) (e : PyBaseExceptionRef) (r : Request) (cells : Cells) (σ : Standing) (n : Option Cells)
      → ObjScoped (first_unused objects cells) m
      → Scoped (first_unused objects cells) (λ σ. for_exception σ e) → IsExitBy (σ m) (for_exception σ e) r → IsMet objects cells σ n
      → IsMet objects cells σ (meet_exit_by objects m e r n)
  exit_by_met m e r cells σ n sm se k i =
      subst (λ q. IsMet objects cells σ (meet_exit_by objects m e q n)) (sym k.is)
      (met_given objects (is_class objects (slice_get objects (σ (as_object e)).number) (class_object k.body.class)) cells σ _
      (ap (λ p. is_class objects p (class_object k.body.class)) k.has ∙ eq-eqb k.body.class.number k.body.class.number refl)
      (met_more objects (as_object e) (σ (as_object e)) cells σ (meet_in objects m (σ m) n) (exception_below objects _ e se) refl
      (met_more objects m (σ m) cells σ n (scoped_below _ m sm) refl i)))
