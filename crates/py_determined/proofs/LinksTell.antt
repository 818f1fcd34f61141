-- Where exits are told what exceptions have as their tracebacks, they are told the tracebacks of raises.
use Rattle.std.proofs.Common.{◌≡◌, ◌++◌, ◌∙◌, ◌⊎◌, ℕ, inl, inr, List, [], ◌∷◌, true, false, Some, None, ne_eqb, refl, sym, ap, subst, length, append_assoc}
use Rattle.std.specs.Prelude.{Option, slice_get}
use Rattle.py_objects.specs.declared.payload.Payload.{Payload}
use Rattle.py_objects.specs.declared.payload.Payload.TheVariants as payload
use Rattle.py_objects.specs.declared.payload.ExceptionBody.{ExceptionBody}
use Rattle.py_objects.specs.declared.edit.Change.{Change}
use Rattle.py_objects.specs.declared.request.Request.{Request}
use Rattle.py_objects.specs.declared.request.Request.TheVariants as request
use Rattle.py_objects.specs.declared.event.Event.{Event}
use Rattle.py_objects.specs.declared.event.Event.TheVariants as event
use Rattle.py_objects.specs.Objects.{Obj, HasPayload, IsNew, IsTraceback, is_among}
use Rattle.py_objects.specs.Changes.{store_at}
use Rattle.py_answers.proofs.ReadingLemmas.{one_payload}
use Rattle.py_run.specs.Run.{Plan, start, state_after}
use Rattle.py_run.specs.Coming.{May, Past, nothing, past_after, MayCome, Comes, EachTells}
use Rattle.py_run.specs.Links.{AreLinks, AsksNow, IsToldNow, Lines, LinksCome, MayUnder, TellsNow, named_by}
use Rattle.py_run.proofs.PastLemmas.{past_state}
use Rattle.py_agreement.specs.Agreement.{SameRequest}
use Rattle.py_determined.specs.Related.{Paired}
use Rattle.py_determined.specs.Raises.{Raise, IsToldOf, IsTracebackOf, Tells, TellsRaise, TellRaises, raise_of, raises_of}
use Rattle.py_determined.proofs.EntriesTold.{AreOfRaises, IsEventTold, IsExitTold, IsOfRaise, IsOfTold, IsPlain, effect, first_of_raises, has_behind}
use Rattle.py_determined.proofs.NamedBefore.{NameBare, declared_bare, names_known, none_names, related_sort}
use Rattle.py_determined.proofs.Pairing.{IsBare, is_bare}
use Rattle.py_determined.proofs.RaisesTold.{no_bare_traceback, no_value, still_of_raises}
use Rattle.py_determined.proofs.RunsAgree.{OfOneScript, AreSame, first_same, next, telling, then_same}

module _ (objects : List Payload) (changes : List Change) (before : List Event) (of : AreOfRaises objects changes before) where
  -- a traceback that no event names is new
  traceback_new : (t : Obj) → IsTraceback objects t → is_among t.number (named_by before) ≡ false → IsNew objects before t.number
  traceback_new t traceback unnamed = record {
    unnamed = none_names t.number before unnamed;
    undeclared = λ x v is. ne_eqb t.number v.number (λ same. no_bare_traceback objects v (declared_bare objects x v is) (let (b, has) = traceback in (b, subst (λ n. slice_get objects n ≡ Some (payload.Traceback b)) same has)));
  }

  -- what is told now is told of the last raise
  told_raise : (u t : Obj) (r : Option Raise) → IsOfRaise objects changes before u r → IsToldNow objects (has_behind objects changes before u) t → IsToldOf objects before r t
  told_raise u t None none told = subst (λ o. IsToldNow objects o t) none told
  told_raise u t (Some x) of_raise told = by x.traceback of_raise
    where
      by : (known : Option Obj) → IsOfTold objects changes before u known → IsTracebackOf objects before known t
      by None (s, is, traceback, unnamed) =
          let same : t ≡ s = subst (λ o. IsToldNow objects o t) is told in
          let there : IsTraceback objects t = subst (λ (z : Obj). IsTraceback objects z) (sym same) traceback in
          (traceback_new t there (subst (λ (z : Obj). is_among z.number (named_by before) ≡ false) (sym same) unnamed), there)
      by (Some s) (is, traceback) = subst (λ o. IsToldNow objects o t) is told

  -- an exception of which an exit is told was made without a traceback
  told_plain : (u : Obj) (b : ExceptionBody) → HasPayload objects u (payload.Exception b) → (is_among u.number (named_by before) ≡ true) ⊎ IsBare objects u → IsPlain objects changes u
  told_plain u b has (inl named) = (b, has, of.plain u b has named)
  told_plain u b has (inr (p, is, bare)) = (b, has, no_value b.traceback (sym (ap is_bare (one_payload objects u.number p (payload.Exception b) is has)) ∙ bare))

  -- a question that tells what it may now tells what it may by raises, where what it names is known
  abbrev ExitKnown : Request → Type 0
  ExitKnown (request.Exit m c u t) = (is_among u.number (named_by before) ≡ true) ⊎ IsBare objects u
  ExitKnown _ = Unit {0}

  abbrev now : List Payload
  now = store_at objects changes (length before)

  exit_told : (r : Request) → ExitKnown r → AsksNow objects now r → IsExitTold objects changes before r
  exit_told (request.Exit m c u t) known (inl none) = inl none
  exit_told (request.Exit m c u t) known (inr (b, has, class, told)) = inr (told_plain u b has known, told)
  exit_told _ known told = tt

  exit_raise : (r : Request) → ExitKnown r → AsksNow objects now r → Tells objects before (raises_of before) r
  exit_raise (request.Exit m c u t) known (inl none) = inl none
  exit_raise (request.Exit m c u t) known (inr (b, has, class, told)) =
      inr (b, has, class, told_raise u t (raise_of u (raises_of before)) (of.each u (told_plain u b has known)) told)
  exit_raise _ known told = tt

module _ (plan : Plan) (objects : List Payload) (may : May) (events : List Event) (script : OfOneScript plan plan objects objects may may events events) (comes : Comes plan objects nothing events)
    (tells : EachTells may events) (under : MayUnder) (lines : Lines) (changes : List Change) (k : ℕ) (alone : AreLinks 1 k changes) where
  -- a past of the run is like itself
  abbrev IsSame : Past → Type 0
  IsSame p = AreSame plan plan objects objects may may events events script comes comes tells tells p p

  -- what an exit tells of is known
  known_of : (p : Past) (of : AreOfRaises objects changes p.events) (r : Request) → SameRequest (Paired objects objects p.events p.events) r r → ExitKnown objects changes p.events of r
  known_of p of (request.Exit m c u t) (same_m, same_c, same_u) = related_sort objects p.events u same_u
  known_of p of _ same = tt

  -- an event tells what it may, by what exceptions have and by raises
  told_both : (p : Past) (e : Event) (es : List Event) → events ≡ p.events ++ e ∷ es → MayCome plan objects p e → IsSame p → AreOfRaises objects changes p.events
      → TellsNow objects (store_at objects changes (length p.events)) e → IsEventTold objects changes p.events e × TellsRaise objects p.events e
  told_both p (event.Ask a r own at) es is (going, top) same of tells_now =
      let alike = telling plan plan objects objects may may events events script comes comes tells tells p p (event.Ask a r own at) (event.Ask a r own at) es es is is (going, top) (going, top) same top top in
      let known : ExitKnown objects changes p.events of r = known_of p of r alike.0 in
      (exit_told objects changes p.events of r known tells_now, exit_raise objects changes p.events of r known tells_now)
  told_both p _ es is coming same of tells_now = (tt, tt)

  told_from : (p : Past) (es : List Event) → events ≡ p.events ++ es → Comes plan objects p es → LinksCome under lines objects changes p.events p.state es → NameBare objects es → IsSame p
      → AreOfRaises objects changes p.events → TellRaises objects p.events es
  told_from p [] is rest come bare same of = tt
  told_from p (e ∷ es) is (coming, rest) (tells_now, links, come) (bare, bares) same of =
      let (exit, told) = told_both p e es is coming same of tells_now in
      let state : p.state ≡ state_after start p.events = ap (λ (r : Past). r.state) same.behind ∙ past_state plan p.events in
      let goes = next plan plan objects objects may may events events script comes comes tells tells p p e e es es is is coming coming same told told in
      let later : AreOfRaises objects changes (p.events ++ e ∷ []) =
      still_of_raises objects changes p.events e of (names_known objects p e goes bare) (effect objects changes k alone under lines p.events p.state state e links exit) in (
        told,
        told_from (past_after plan p e) es (is ∙ sym (append_assoc p.events (e ∷ []) es)) rest come bares
            (then_same plan plan objects objects may may events events script comes comes tells tells p p e e es es is is coming coming same told told) later,
      )

  -- each event of a run tells what it may by raises
  pub links_tell : LinksCome under lines objects changes [] start events → NameBare objects events → TellRaises objects [] events
  links_tell come bare =
      told_from nothing events refl comes come bare (first_same plan plan objects objects may may events events script comes comes tells tells) (first_of_raises objects changes k alone)
