-- At one past the open question comes to one thing, and has one reply.
use Rattle.std.proofs.Common.{◌≡◌, ℕ, List, Some, sym, subst, ◌∙◌, length}
use Rattle.py_objects.specs.declared.payload.Payload.{Payload}
use Rattle.py_objects.specs.declared.request.Request.{Request}
use Rattle.py_objects.specs.Objects.{Obj}
use Rattle.py_answers.specs.Answers.{IsTypeName}
use Rattle.py_run.specs.Run.{Plan, Phase, Asking, Made, Due, question, forming}
use Rattle.py_run.specs.Normalized.{formed, traceback_as, NormalizesTo}
use Rattle.py_run.specs.declared.drive.Makings.{Makings}
use Rattle.py_run.specs.Calls.{Says, Begins, ComesTo}
use Rattle.py_run.specs.Coming.{Past, setting, Opens, Starts, MakesGenerator, IsReply, IsAnswered, IsFormed}
use Rattle.py_once.specs.Laws.{AtMostOne}
use Rattle.py_once.proofs.PayloadsOnce.{some_once, by_one, one_payload, one_function, type_name_once}
use Rattle.py_once.proofs.ThrownOnce.{normalizes_once}
use Rattle.py_once.proofs.OneCourse.{one_signature, due_once, comes_once}

module _ (objects : List Payload) where
  -- an exception is made of one thing
  normalizes_to_once : (x : Makings) → AtMostOne (NormalizesTo objects x)
  normalizes_to_once x reply reply' to to' =
      let outcome : to.outcome ≡ to'.outcome = normalizes_once objects x.thrown (Some x.value) _ _ to.normalizes to'.normalizes in
      let entry : to.entry ≡ to'.entry = one_payload objects x.traceback to.entry to'.entry to.has to'.has in
      let typed : IsTypeName objects to.entry to'.name = subst (λ p. IsTypeName objects p to'.name) (sym entry) to'.typed in
      let name : to.name ≡ to'.name = type_name_once objects to.entry to.name to'.name to.typed typed in
      some_once (formed (traceback_as to.entry x.traceback) to.name to.outcome) reply reply' to.is (rw (outcome, entry, name) to'.is)

  module _ (plan : Plan) (p : Past) where
    -- one course
    pub opens_once : AtMostOne (Opens plan objects p)
    opens_once c d (asks, opens) (asks', opens') =
        by_one (λ r. question plan p.state ≡ Some r) (ComesTo (setting plan p) objects)
        (some_once (question plan p.state)) (comes_once objects (setting plan p)) c d opens opens'

    -- one activation
    pub starts_once : (phase : Phase) → AtMostOne (Starts plan objects p phase)
    starts_once Asking = λ a b is is'. let same : Begins a ≡ Begins b = opens_once (Begins a) (Begins b) is is' in cc
    starts_once (Made f) = λ a b is is'. is.0 ∙ sym is'.0
    starts_once _ = λ a b is is'. absurd is

    -- one generator is made
    generator_once : (f : Obj) (a : ℕ) → AtMostOne (MakesGenerator plan objects f a)
    generator_once f a reply reply' (kind, made, is) (kind', made', is') =
        let body : made.body ≡ made'.body = one_function objects f made.body made'.body made.entry made'.entry in
        let signature : made.signature ≡ made'.signature = one_signature plan.signatures made.body made'.body _ _ body made.signed made'.signed in
        cc (made.kind_is, made'.kind_is)

    -- one reply
    pub replied_once : (phase : Phase) (r : Request) → AtMostOne (IsReply plan objects p phase r)
    replied_once Asking r = λ x y is is'. let same : Says x ≡ Says y = comes_once objects (setting plan p) r (Says x) (Says y) is is' in cc
    replied_once (Made f) r = generator_once f (length p.state.made)
    replied_once (Due left) r = due_once objects r left
    replied_once _ r = λ x y is is'. absurd is

    pub answered_once : AtMostOne (IsAnswered plan objects p)
    answered_once =
        by_one (λ r. question plan p.state ≡ Some r) (IsReply plan objects p p.state.phase)
        (some_once (question plan p.state)) (replied_once p.state.phase)

    pub formed_once : AtMostOne (IsFormed plan objects p)
    formed_once x y (asks, is) (asks', is') =
        by_one (λ m. forming plan p.state ≡ Some m) (NormalizesTo objects) (some_once (forming plan p.state)) normalizes_to_once x y is is'
