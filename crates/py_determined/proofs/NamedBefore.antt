-- What an event of a run names was named before, or is no traceback and has none, or is the traceback that an exit is told.
use Rattle.std.proofs.Common.{◌≡◌, ◌+◌, ◌++◌, ◌||◌, ◌∙◌, ◌⊎◌, ℕ, suc, inl, inr, List, [], ◌∷◌, Bool, true, false, Some, eqb, refl, sym, ap, subst, arith}
use Rattle.std.specs.Prelude.{slice_get, if◌then◌else◌}
use Rattle.std.proofs.lemmas.Bool.{eqb-true, eq-eqb}
use Rattle.std.proofs.lemmas.Option.{same_Some}
use Rattle.py_objects.specs.declared.payload.Payload.{Payload}
use Rattle.py_objects.specs.declared.payload.Payload.TheVariants as payload
use Rattle.py_objects.specs.declared.request.Request.{Request}
use Rattle.py_objects.specs.declared.request.Request.TheVariants as request
use Rattle.py_objects.specs.declared.event.Event.{Event}
use Rattle.py_objects.specs.declared.event.Event.TheVariants as event
use Rattle.py_objects.specs.Objects.{Obj, Name, declared, declared_from, declares, is_name, event_numbers, is_among, number_if, request_numbers}
use Rattle.py_objects.specs.Own.{Own, Asks}
use Rattle.py_run.specs.Coming.{Past}
use Rattle.py_run.specs.Links.{named_by}
use Rattle.py_run.proofs.NamedLemmas.{among_first, among_joined, named_at}
use Rattle.py_agreement.specs.Agreement.{Relation, has_literal}
use Rattle.py_determined.specs.Alike.{numbered}
use Rattle.py_determined.specs.Events.{SameEvent}
use Rattle.py_determined.specs.Related.{asked_numbers, value_numbers, paired, pairs_of, IsPair, Paired}
use Rattle.py_determined.proofs.Pairing.{AreBorn, IsBare, SameNumbers, event_same, is_bare, no_left, unnamed_left}
use Rattle.py_determined.proofs.Steps.{AreNext, Brings, IsToldAs, OrBoth}

-- one of two tests passes
pub either : (b c : Bool) → (b || c) ≡ true → (b ≡ true) ⊎ (c ≡ true)
either true c is = inl refl
either false c is = inr is

-- ---- what pairs name

-- what the events don't name, none of them does
pub none_names : (n : ℕ) (es : List Event) → is_among n (named_by es) ≡ false → (i : ℕ) (e : Event) → slice_get es i ≡ Some e → is_among n (event_numbers e) ≡ false
none_names n es none i e here = by (is_among n (event_numbers e)) refl
  where
    by : (b : Bool) → is_among n (event_numbers e) ≡ b → is_among n (event_numbers e) ≡ false
    by false is = is
    by true is = absurd (cc (sym (named_at n es i e here is) ∙ none))

-- both numbers of a pair of a run with itself are named
pub pair_named : (es : List Event) (v w : Obj) → IsPair (pairs_of es es) v w → is_among v.number (named_by es) ≡ true
pair_named es v w pair = by (is_among v.number (named_by es)) refl
  where
    by : (b : Bool) → is_among v.number (named_by es) ≡ b → is_among v.number (named_by es) ≡ true
    by true is = is
    by false is =
        let other : eqb v.number v.number ≡ false = no_left v.number (pairs_of es es) v w (unnamed_left v.number es es (none_names v.number es is)) pair in
        absurd (cc (sym (eq-eqb v.number v.number refl) ∙ other))

-- a number among such is related to itself
each_related : (N : Relation) (n : ℕ) (ns : List ℕ) → SameNumbers N ns ns → is_among n ns ≡ true → N (numbered n) (numbered n)
each_related N n [] s among = absurd (cc among)
each_related N n (m ∷ ms) s among = elim (either (eqb n m) (is_among n ms) among) [
  | inl here ↦ subst (λ k. N (numbered k) (numbered k)) (sym (eqb-true n m here)) s.0
  | inr there ↦ each_related N n ms s.1 there
]

-- ---- what is no traceback

literal_bare : (p : Payload) → has_literal p ≡ true → is_bare p ≡ true
literal_bare (payload.Exception e) is = absurd (cc is)
literal_bare (payload.Traceback t) is = absurd (cc is)
literal_bare _ is = refl

declaring_bare : (x : Name) (p : Payload) → is_name x (declares p) ≡ true → is_bare p ≡ true
declaring_bare x (payload.Exception e) is = absurd (cc is)
declaring_bare x (payload.Traceback t) is = absurd (cc is)
declaring_bare x _ is = refl

declared_bare_from : (i : ℕ) (store : List Payload) (x : Name) (v : Obj) → declared_from i store x ≡ Some v → (j : ℕ) × (p : Payload) × (v.number ≡ i + j) × (slice_get store j ≡ Some p) × (is_bare p ≡ true)
declared_bare_from i [] x v is = absurd (cc is)
declared_bare_from i (p ∷ ps) x v is = by (is_name x (declares p)) refl is (declared_bare_from (suc i) ps x v)
  where
    by : (b : Bool) → is_name x (declares p) ≡ b → (if b then Some (numbered i) else declared_from (suc i) ps x) ≡ Some v
        → (declared_from (suc i) ps x ≡ Some v → (j : ℕ) × (q : Payload) × (v.number ≡ suc i + j) × (slice_get ps j ≡ Some q) × (is_bare q ≡ true))
        → (j : ℕ) × (q : Payload) × (v.number ≡ i + j) × (slice_get (p ∷ ps) j ≡ Some q) × (is_bare q ≡ true)
    by true named is rest =
        let number : i ≡ v.number = ap (λ (o : Obj). o.number) (same_Some (numbered i) v is) in
        (0, p, omega (arith, number), refl, declaring_bare x p named)
    by false named is rest = let (j, q, number, here, bare) = rest is in (suc j, q, omega (arith, number), here, bare)

-- nor is what is declared
pub declared_bare : (objects : List Payload) (x : Name) (v : Obj) → declared objects x ≡ Some v → IsBare objects v
declared_bare objects x v is =
    let (j, p, number, here, bare) = declared_bare_from 0 objects x v is in
    (p, subst (λ n. slice_get objects n ≡ Some p) (let same : j ≡ v.number = omega (arith, number) in same) here, bare)

-- ---- what an event names

-- an exit is told this as a traceback by an event
abbrev pub TellsIt : Event → Obj → Type 0
TellsIt (event.Ask a r own at) x = IsToldAs r x
TellsIt _ x = ⊥

module _ (P : Obj → Type 0) where
  -- the dict in which a name is looked up is one of which P holds
  abbrev pub AsksIn : Request → Type 0
  AsksIn (request.Global d x) = P d
  AsksIn _ = Unit {0}

  -- so it is in each question that an activation asks
  abbrev pub EachAsks : List Own → Type 0
  EachAsks [] = Unit {0}
  EachAsks (Asks at r h ∷ ts) = AsksIn r × EachAsks ts
  EachAsks (_ ∷ ts) = EachAsks ts

  -- and in an event, where it is a question
  abbrev pub NamesIn : Event → Type 0
  NamesIn (event.Ask a r own at) = AsksIn r
  NamesIn _ = Unit {0}

  -- and in each of these
  abbrev pub NameIn : List Event → Type 0
  NameIn [] = Unit {0}
  NameIn (e ∷ es) = NamesIn e × NameIn es

module _ (objects : List Payload) where
  -- the dict in which an event looks a name up is no traceback
  abbrev pub NamesBare : Event → Type 0
  NamesBare e = NamesIn (IsBare objects) e

  -- so it is in each of these
  abbrev pub NameBare : List Event → Type 0
  NameBare es = NameIn (IsBare objects) es

  -- where these events were before and that one comes, an object is known, or no traceback, or told as one
  abbrev pub IsKnown : List Event → Event → Obj → Type 0
  IsKnown before e v = (is_among v.number (named_by before) ≡ true) ⊎ (IsBare objects v ⊎ TellsIt e v)

  -- what is related to itself is known or no traceback
  pub related_sort : (before : List Event) (v : Obj) → Paired objects objects before before v v → (is_among v.number (named_by before) ≡ true) ⊎ IsBare objects v
  related_sort before v (inl (p, literal, has, has')) = inr (p, has, literal_bare p literal)
  related_sort before v (inr (inl (x, is, is'))) = inr (declared_bare objects x v is)
  related_sort before v (inr (inr pair)) = inl (pair_named before v v pair)

  related_known : (before : List Event) (e : Event) (v : Obj) → Paired objects objects before before v v → IsKnown before e v
  related_known before e v related = elim (related_sort before v related) [ inl named ↦ inl named | inr bare ↦ inr (inl bare) ]

  brings_known : (before : List Event) (e : Event) (v : Obj) → Brings objects e v → IsKnown before e v
  brings_known before (event.Ask a r own at) v told = inr (inr told)
  brings_known before _ v bare = inr (inl bare)

  -- the numbers of a question are those of its values, but for the dict
  asked_known : (n : ℕ) (own : List ℕ) (r : Request) → AsksIn (IsBare objects) r → is_among n (own ++ request_numbers r) ≡ true → (is_among n (own ++ asked_numbers r) ≡ true) ⊎ IsBare objects (numbered n)
  asked_known n own (request.Global d x) bare among = elim (either (is_among n own) (is_among n (d.number ∷ [])) (sym (among_joined n own (d.number ∷ [])) ∙ among)) [
    | inl front ↦ inl (among_first n own [] front)
    | inr back ↦ inr (elim (either (eqb n d.number) false back) [ inl here ↦ subst (λ k. IsBare objects (numbered k)) (sym (eqb-true n d.number here)) bare | inr never ↦ absurd (cc never) ])
  ]
  asked_known n own _ bare among = inl among

  named_known : (n : ℕ) (e : Event) → NamesBare e → is_among n (event_numbers e) ≡ true → (is_among n (value_numbers e) ≡ true) ⊎ IsBare objects (numbered n)
  named_known n (event.Ask a r own at) bare among = asked_known n (number_if own) r bare among
  named_known n _ bare among = inl among

  module _ (p : Past) (e : Event) where
    -- which objects the run relates to themselves
    abbrev S : Relation
    S = Paired objects objects p.events p.events

    values_known : (n : ℕ)
        → SameEvent S e e ⊎ ((x : Obj) × (y : Obj) × AreBorn S objects objects p.events p.events x y × Brings objects e x × SameEvent (OrBoth S x y) e e × IsPair (paired (value_numbers e) (value_numbers e)) x y)
        → is_among n (value_numbers e) ≡ true → IsKnown p.events e (numbered n)
    values_known n (inl old) valued = related_known p.events e (numbered n) (each_related S n (value_numbers e) (event_same S e e old) valued)
    values_known n (inr (x, y, born, brings, new, pair)) valued = elim (each_related (OrBoth S x y) n (value_numbers e) (event_same (OrBoth S x y) e e new) valued) [
      | inl old ↦ related_known p.events e (numbered n) old
      | inr (here, there) ↦ subst (IsKnown p.events e) (sym here) (brings_known p.events e x brings)
    ]

    -- so each is known that an event names by which a run goes on as itself
    pub names_known : AreNext S objects objects p p e e → NamesBare e → (n : ℕ) → is_among n (event_numbers e) ≡ true → IsKnown p.events e (numbered n)
    names_known next bare n among = elim (named_known n e bare among) [
      | inl valued ↦ values_known n next.same valued
      | inr is ↦ inr (inl is)
    ]
