-- What an exception has as its traceback is what belongs to its last raise: it gets an entry of its own by each raise, and no event names that before an
-- exit is told it.
use Rattle.std.proofs.Common.{◌≡◌, ◌+◌, ◌++◌, ◌∙◌, ◌⊎◌, ℕ, suc, inl, inr, List, [], ◌∷◌, Bool, true, false, Some, None, refl, sym, ap, subst, length, length-append, arith}
use Rattle.std.specs.Prelude.{Option}
use Rattle.std.proofs.lemmas.Option.{same_Some}
use Rattle.py_objects.specs.declared.payload.Payload.{Payload}
use Rattle.py_objects.specs.declared.payload.Payload.TheVariants as payload
use Rattle.py_objects.specs.declared.payload.ExceptionBody.{ExceptionBody}
use Rattle.py_objects.specs.declared.edit.Change.{Change}
use Rattle.py_objects.specs.declared.edit.Edit.TheVariants as edit
use Rattle.py_objects.specs.declared.edit.LinkField.TheVariants as link
use Rattle.py_objects.specs.declared.request.Request.{Request}
use Rattle.py_objects.specs.declared.request.Request.TheVariants as request
use Rattle.py_objects.specs.declared.refs.PyBaseExceptionRef.{PyBaseExceptionRef}
use Rattle.py_objects.specs.declared.event.GotAnswer.{GotAnswer}
use Rattle.py_objects.specs.declared.event.GotAnswer.TheVariants as got
use Rattle.py_objects.specs.declared.event.ResumeHow.TheVariants as how
use Rattle.py_objects.specs.declared.event.Event.{Event}
use Rattle.py_objects.specs.declared.event.Event.TheVariants as event
use Rattle.py_objects.specs.Objects.{Obj, AllBelow, HasPayload, IsTraceback, as_exception, as_object, event_numbers, is_among}
use Rattle.py_objects.specs.Changes.{changed_by, store_at}
use Rattle.py_run.specs.Run.{Act, State, start, state_after, open_in, handled_among}
use Rattle.py_run.specs.Raises.{is_raising, raised_by}
use Rattle.py_run.specs.Links.{AreLinks, ComeOfTop, GetsContext, HasLinksOf, IsToldNone, IsToldNow, Lines, MayUnder, ObjectEdit, Raises, RaisesIf, Scene, links_at, named_by, named_in, noted, scene_at}
use Rattle.py_run.proofs.LinksLemmas.{IsBelow, seen_of}
use Rattle.py_run.proofs.TracebackLemmas.{IsSeen, OnlyContexts, contexts_leave, due_by, entry_elsewhere, entry_put, gives_contexts, none_due, seen_stays, store_next, traceback_at, tracebacks_named}
use Rattle.py_determined.specs.Raises.{Raise, raise_of, raises_after, raises_of, with_raise, with_traceback}
use Rattle.py_determined.proofs.RaisesLemmas.{raises_on}
use Rattle.py_determined.proofs.NamedBefore.{TellsIt}

module _ (objects : List Payload) (changes : List Change) where
  -- an exception that was made without a traceback
  abbrev pub IsPlain : Obj → Type 0
  IsPlain v = (b : ExceptionBody) × HasPayload objects v (payload.Exception b) × (b.traceback ≡ None)

  -- the traceback that an object has behind these events
  abbrev pub has_behind : List Event → Obj → Option Obj
  has_behind before v = traceback_at (store_at objects changes (length before)) v

  -- it is that of a raise: the one that an exit was told, else one that no event has named
  abbrev pub IsOfTold : List Event → Obj → Option Obj → Type 0
  IsOfTold before v None = (t : Obj) × (has_behind before v ≡ Some t) × IsTraceback objects t × (is_among t.number (named_by before) ≡ false)
  IsOfTold before v (Some t) = (has_behind before v ≡ Some t) × IsTraceback objects t

  -- it is that of the last raise, and none where there was no raise
  abbrev pub IsOfRaise : List Event → Obj → Option Raise → Type 0
  IsOfRaise before v None = has_behind before v ≡ None
  IsOfRaise before v (Some x) = IsOfTold before v x.traceback

  -- so it is of each exception that was made without a traceback; no two have one and the same; and of no other exception do events speak
  pub record AreOfRaises (before : List Event) : Type 0 where
    pub each : (v : Obj) → IsPlain v → IsOfRaise before v (raise_of v (raises_of before))
    pub apart : (v w t : Obj) → IsPlain v → IsPlain w → has_behind before v ≡ Some t → has_behind before w ≡ Some t → v.number ≡ w.number
    pub plain : (v : Obj) (b : ExceptionBody) → HasPayload objects v (payload.Exception b) → is_among v.number (named_by before) ≡ true → b.traceback ≡ None

  -- an exception is one at each event
  plain_seen : (n : ℕ) (v : Obj) → IsPlain v → IsSeen (store_at objects changes n) v
  plain_seen n v (b, has, bare) = seen_stays objects (due_by n changes) v ((b.context, b.traceback), ap seen_of has)

  -- it has no traceback first
  plain_none : (v : Obj) → IsPlain v → traceback_at objects v ≡ None
  plain_none v (b, has, bare) = rw has bare

  -- so each is named that it has later
  pub plain_named : (m n : ℕ) → AllBelow m (named_in (due_by n changes)) → (v : Obj) → IsPlain v → IsBelow m (traceback_at (store_at objects changes n) v)
  plain_named m n named v plain = tracebacks_named m objects (due_by n changes) named v (subst (IsBelow m) (sym (plain_none v plain)) tt)

  -- before the first event there is no raise
  pub first_of_raises : (k : ℕ) → AreLinks 1 k changes → AreOfRaises []
  first_of_raises k alone =
      let none : (v : Obj) → IsPlain v → has_behind [] v ≡ None = λ v plain. ap (λ cs. traceback_at (changed_by objects cs) v) (none_due 1 0 k changes (omega arith) alone) ∙ plain_none v plain in
      record {
        each = none;
        apart = λ v w t plain plain' is is'. absurd (let clash : None ≡ Some t = sym (none v plain) ∙ is in cc clash);
        plain = λ v b has among. absurd (cc among);
      }

  -- a traceback that an exception has is one
  pub has_traceback : (before : List Event) (v t : Obj) (r : Option Raise) → IsOfRaise before v r → has_behind before v ≡ Some t → IsTraceback objects t
  has_traceback before v t None none is = absurd (let clash : None ≡ Some t = sym none ∙ is in cc clash)
  has_traceback before v t (Some x) of_raise is = by x.traceback of_raise
    where
      by : (told : Option Obj) → IsOfTold before v told → IsTraceback objects t
      by None (u, has, traceback, unnamed) = subst (λ (z : Obj). IsTraceback objects z) (same_Some u t (sym has ∙ is)) traceback
      by (Some u) (has, traceback) = subst (λ (z : Obj). IsTraceback objects z) (same_Some u t (sym has ∙ is)) traceback

  -- ---- what an event does to tracebacks and raises

  -- an exit is told of no exception, or of one, by what this has as its traceback
  abbrev pub IsExitTold : List Event → Request → Type 0
  IsExitTold before (request.Exit m c u t) = IsToldNone objects c u t ⊎ (IsPlain u × IsToldNow objects (has_behind before u) t)
  IsExitTold before _ = Unit {0}

  abbrev pub IsEventTold : List Event → Event → Type 0
  IsEventTold before (event.Ask a r own at) = IsExitTold before r
  IsEventTold before _ = Unit {0}

  module _ (before : List Event) (e : Event) where
    -- the events behind it
    abbrev pub behind : List Event
    behind = before ++ e ∷ []

    -- nothing
    pub record LeavesAll : Type 0 where
      pub raises : raises_of behind ≡ raises_of before
      pub same : (w : Obj) → has_behind behind w ≡ has_behind before w
      pub tells_none : (x : Obj) → TellsIt e x → ⊥

    -- an exception is raised, and gets a new entry
    pub record RaisesOne : Type 0 where
      pub v : Obj
      pub entry : Obj
      pub raises : raises_of behind ≡ record { exception = v; traceback = None } ∷ raises_of before
      pub here : (w : Obj) → v.number ≡ w.number → IsPlain w → has_behind behind w ≡ Some entry
      pub elsewhere : (w : Obj) → (v.number ≡ w.number → ⊥) → has_behind behind w ≡ has_behind before w
      pub is_traceback : IsTraceback objects entry
      pub newer : AllBelow entry.number (named_by before ++ named_in (due_by (length before) changes))
      pub names : event_numbers e ≡ v.number ∷ []
      pub tells_none : (x : Obj) → TellsIt e x → ⊥

    -- an exit is told
    pub record TellsExit : Type 0 where
      pub c : Obj
      pub u : Obj
      pub t : Obj
      pub raises : raises_of behind ≡ with_traceback u t (raises_of before)
      pub same : (w : Obj) → has_behind behind w ≡ has_behind before w
      pub told : IsToldNone objects c u t ⊎ (IsPlain u × IsToldNow objects (has_behind before u) t)
      pub tells : (x : Obj) → TellsIt e x → x ≡ t

    -- one of these
    abbrev pub Effect : Type 0
    Effect = LeavesAll ⊎ (RaisesOne ⊎ TellsExit)

  module _ (k : ℕ) (alone : AreLinks 1 k changes) (may : MayUnder) (lines : Lines) (before : List Event) (s : State) (state : s ≡ state_after start before) where
    now : List Payload
    now = store_at objects changes (length before)

    -- where the event comes
    abbrev here : Scene
    here = scene_at may lines objects changes before s

    module _ (e : Event) (edits : List ObjectEdit) (set : (links_at (suc (length before)) changes ≡ noted (suc (length before)) edits)) where
      raised_next : raises_of (before ++ e ∷ []) ≡ raises_after s (raises_of before) e
      raised_next = raises_on before e ∙ ap (λ z. raises_after z (raises_of before) e) (sym state)

      has_next : (w : Obj) → has_behind (before ++ e ∷ []) w ≡ traceback_at (changed_by now (noted (suc (length before)) edits)) w
      unfolding now
      has_next w =
          let count : length (before ++ e ∷ []) ≡ suc (length before) = (let longer : length (before ++ e ∷ []) ≡ length before + 1 = length-append before (e ∷ []) in omega (arith, longer)) in
          ap (λ n. traceback_at (store_at objects changes n) w) count ∙ ap (λ l. traceback_at l w) (store_next objects 1 (length before) k changes edits alone set)

      -- contexts alone leave all
      only_leaves : OnlyContexts edits → (w : Obj) → has_behind (before ++ e ∷ []) w ≡ has_behind before w
      unfolding now
      only_leaves only w = has_next w ∙ contexts_leave now (suc (length before)) edits only w

      leaves_all : OnlyContexts edits → raises_after s (raises_of before) e ≡ raises_of before → ((x : Obj) → TellsIt e x → ⊥) → Effect before e
      leaves_all only same none = inl (record { raises = raised_next ∙ same; same = only_leaves only; tells_none = none })

      gets_contexts : (b : Bool) (x : PyBaseExceptionRef) (contexts : List ObjectEdit) → GetsContext b here x contexts → OnlyContexts contexts
      gets_contexts true x contexts gives = gives_contexts here.now (handled_among s.stack) x contexts gives
      gets_contexts false x contexts is = subst OnlyContexts (sym is) tt

      raises_one : (b : Bool) (act at : ℕ) (x : PyBaseExceptionRef) → Raises lines objects b here act at x edits → raises_after s (raises_of before) e ≡ record { exception = as_object x; traceback = None } ∷ raises_of before
          → event_numbers e ≡ x.number ∷ [] → ((y : Obj) → TellsIt e y → ⊥) → Effect before e
      unfolding now
      raises_one b act at x raise raised names none =
          let only : OnlyContexts raise.contexts = gets_contexts b x raise.contexts raise.gets in
          let are : edits ≡ raise.contexts ++ (as_object x, edit.Link link.Traceback (Some raise.puts.entry)) ∷ [] = raise.both ∙ ap (λ l. raise.contexts ++ l) raise.puts.puts in
          let next : (w : Obj) → has_behind (before ++ e ∷ []) w ≡ traceback_at (changed_by now (noted (suc (length before)) (raise.contexts ++ (as_object x, edit.Link link.Traceback (Some raise.puts.entry)) ∷ []))) w =
          λ w. has_next w ∙ ap (λ l. traceback_at (changed_by now (noted (suc (length before)) l)) w) are in
          inr (inl (record {
            v = as_object x;
            entry = raise.puts.entry;
            raises = raised_next ∙ raised;
            here = λ w same plain. next w ∙ entry_put now (suc (length before)) raise.contexts only (as_object x) raise.puts.entry w same (plain_seen (length before) w plain);
            elsewhere = λ w apart. next w ∙ entry_elsewhere now (suc (length before)) raise.contexts only (as_object x) raise.puts.entry w apart;
            is_traceback = (_, raise.puts.has);
            newer = raise.puts.newer;
            names = names;
            tells_none = none;
          }))

      tells_exit : (c u t : Obj) → edits ≡ [] → raises_after s (raises_of before) e ≡ with_traceback u t (raises_of before) → IsToldNone objects c u t ⊎ (IsPlain u × IsToldNow objects (has_behind before u) t)
          → ((x : Obj) → TellsIt e x → x ≡ t) → Effect before e
      tells_exit c u t none same told tells =
          inr (inr (record { c = c; u = u; t = t; raises = raised_next ∙ same; same = only_leaves (subst OnlyContexts (sym none) tt); told = told; tells = tells }))

    -- of a question
    asks_effect : (a at : ℕ) (r : Request) (own : Option PyBaseExceptionRef) (edits : List ObjectEdit) → (links_at (suc (length before)) changes ≡ noted (suc (length before)) edits) → edits ≡ []
        → IsExitTold before r → Effect before (event.Ask a r own at)
    asks_effect a at (request.Exit m c u t) own edits set none told = tells_exit (event.Ask a (request.Exit m c u t) own at) edits set c u t none refl told (λ x is. is)
    asks_effect a at _ own edits set none told = leaves_all _ edits set (subst OnlyContexts (sym none) tt) refl (λ x never. never)

    -- of an answer
    got_effect : (a : ℕ) (w : GotAnswer) (stack : List Act) → s.stack ≡ stack → (edits : List ObjectEdit) → (links_at (suc (length before)) changes ≡ noted (suc (length before)) edits)
        → ComeOfTop lines objects stack here a w edits → Effect before (event.Got a w)
    got_effect a w [] is edits set come = absurd come
    got_effect a (got.Value v) (top ∷ rest) is edits set come = by (is_raising top.asks) refl come
      where
        by : (b : Bool) → is_raising top.asks ≡ b → RaisesIf lines objects b here a top.at v edits → Effect before (event.Got a (got.Value v))
        by true raising raise =
            raises_one (event.Got a (got.Value v)) edits set true a top.at (as_exception v) raise
            (ap (λ (l : List Act). with_raise (raised_by (open_in None l) (got.Value v)) (raises_of before)) is ∙ (rw raising refl)) refl (λ x never. never)
        by false raising none =
            leaves_all (event.Got a (got.Value v)) edits set (subst OnlyContexts (sym none) tt)
            (ap (λ (l : List Act). with_raise (raised_by (open_in None l) (got.Value v)) (raises_of before)) is ∙ (rw raising refl)) (λ x never. never)
    got_effect a (got.Stop v) (top ∷ rest) is edits set none = leaves_all (event.Got a (got.Stop v)) edits set (subst OnlyContexts (sym none) tt) refl (λ x never. never)
    got_effect a (got.Raise x) (top ∷ rest) is edits set raise = raises_one (event.Got a (got.Raise x)) edits set _ a top.at x raise refl refl (λ y never. never)

    -- of any event
    pub effect : (e : Event) → HasLinksOf may lines objects changes before s e → IsEventTold before e → Effect before e
    effect (event.Ask a r own at) (edits, none, set) told = asks_effect a at r own edits set none told
    effect (event.Got a w) (edits, come, set) told = got_effect a w s.stack refl edits set come
    effect (event.Resume a (how.Throw x)) (edits, (h, handles, gives), set) told =
        leaves_all (event.Resume a (how.Throw x)) edits set (gives_contexts _ _ x edits gives) refl (λ y never. never)
    effect (event.Resume a how.Start) (edits, none, set) told = leaves_all (event.Resume a how.Start) edits set (subst OnlyContexts (sym none) tt) refl (λ x never. never)
    effect (event.Resume a (how.Send v)) (edits, none, set) told = leaves_all (event.Resume a (how.Send v)) edits set (subst OnlyContexts (sym none) tt) refl (λ x never. never)
    effect (event.Drive d) (edits, none, set) told = leaves_all (event.Drive d) edits set (subst OnlyContexts (sym none) tt) refl (λ x never. never)
    effect (event.Result d w) (edits, none, set) told = leaves_all (event.Result d w) edits set (subst OnlyContexts (sym none) tt) refl (λ x never. never)
    effect (event.Make a f vs) (edits, none, set) told = leaves_all (event.Make a f vs) edits set (subst OnlyContexts (sym none) tt) refl (λ x never. never)
    effect (event.Round a at) (edits, none, set) told = leaves_all (event.Round a at) edits set (subst OnlyContexts (sym none) tt) refl (λ x never. never)
    effect (event.Yield a v at) (edits, none, set) told = leaves_all (event.Yield a v at) edits set (subst OnlyContexts (sym none) tt) refl (λ x never. never)
    effect (event.End a x at) (edits, none, set) told = leaves_all (event.End a x at) edits set (subst OnlyContexts (sym none) tt) refl (λ y never. never)
