-- Objects of constants that come behind others: what is there stays, and what else there is was there before.
use Rattle.std.proofs.Common.{◌≡◌, ◌∙◌, ◌++◌, ◌+◌, ◌<◌, ℕ, zero, suc, List, [], ◌∷◌, Some, ◌⊎◌, inl, inr, refl, sym, ap, subst, length, length-append, append-nil, append_assoc, arith}
use Rattle.std.proofs.lemmas.Option.{slice_get_within}
use Rattle.std.specs.Prelude.{None, false, slice_get}
use Rattle.py_objects.specs.declared.payload.Payload.{Payload}
use Rattle.py_objects.specs.declared.payload.Payload.TheVariants as payload
use Rattle.py_objects.specs.declared.payload.ExceptionBody.{ExceptionBody}
use Rattle.py_objects.specs.declared.payload.TracebackBody.{TracebackBody}
use Rattle.py_objects.specs.Objects.{Obj, HasPayload, IsTraceback, AllBelow, AllFit, IsMade, declares, payload_numbers}
use Rattle.py_objects.specs.FrameEntries.{frames_in, is_frame}
use Rattle.py_objects.specs.Growth.{Grows, GrowsPlainly, IsGrown}
use Rattle.py_objects.specs.Edits.{Kept}
use Rattle.py_objects.proofs.FrameEntriesLemmas.{frames_same}
use Rattle.py_objects.proofs.GrowthLemmas.{below_more, length_grown, made_grown}
use Rattle.py_frame.specs.Added.{AddsConstants, ClassesAreThere, IsOfConstant}

-- what is no exception, no traceback and no frame, declares nothing, and names only what was there before an entry of this number
pub record IsBare (n : ℕ) (p : Payload) : Type 1 where
  pub declares_none : declares p ≡ None
  pub names_below : AllBelow n (payload_numbers p)
  pub no_frame : is_frame p ≡ false
  pub made : (objects : List Payload) → IsMade objects p
  pub no_exception : (e : ExceptionBody) → p ≡ payload.Exception e → ⊥
  pub no_traceback : (t : TracebackBody) → p ≡ payload.Traceback t → ⊥

-- an entry that may be a constant's is bare
pub constant_bare : (n : ℕ) (p : Payload) → IsOfConstant n p → IsBare n p
constant_bare n payload.None is = record { declares_none = refl; names_below = tt; no_frame = refl; made = λ objects. tt; no_exception = λ e same. cc; no_traceback = λ t same. cc }
constant_bare n (payload.Bool b) is = record { declares_none = refl; names_below = tt; no_frame = refl; made = λ objects. tt; no_exception = λ e same. cc; no_traceback = λ t same. cc }
constant_bare n (payload.Int i) is = record { declares_none = refl; names_below = tt; no_frame = refl; made = λ objects. tt; no_exception = λ e same. cc; no_traceback = λ t same. cc }
constant_bare n (payload.Str s) is = record { declares_none = refl; names_below = tt; no_frame = refl; made = λ objects. tt; no_exception = λ e same. cc; no_traceback = λ t same. cc }
constant_bare n (payload.Tuple vs) is = record { declares_none = refl; names_below = is; no_frame = refl; made = λ objects. tt; no_exception = λ e same. cc; no_traceback = λ t same. cc }
constant_bare n (payload.Builtin f) is = record { declares_none = refl; names_below = tt; no_frame = refl; made = λ objects. tt; no_exception = λ e same. cc; no_traceback = λ t same. cc }
constant_bare n (payload.Code c) is = record { declares_none = refl; names_below = tt; no_frame = refl; made = λ objects. tt; no_exception = λ e same. cc; no_traceback = λ t same. cc }
constant_bare n _ is = absurd is

pub constant_below : (n : ℕ) (p : Payload) → IsOfConstant n p → AllBelow (n + 1) (payload_numbers p)
constant_below n p is = below_more n (n + 1) (payload_numbers p) (omega arith) (constant_bare n p is).names_below

pub adds_none : (objects : List Payload) → AddsConstants objects objects
adds_none objects = record { more = []; is = sym (append-nil objects); constants = λ i p here. cc }

pub adds_one : (objects : List Payload) (p : Payload) → IsOfConstant (length objects) p → AddsConstants objects (objects ++ p ∷ [])
adds_one objects p is = record { more = p ∷ []; is = refl; constants = one }
  where
    one : (i : ℕ) (q : Payload) → slice_get (p ∷ []) i ≡ Some q → IsOfConstant (length objects + i) q
    one zero q here =
        let same : p ≡ q = cc in
        let place : length objects ≡ length objects + 0 = omega arith in
        subst (λ (n : ℕ). IsOfConstant n q) place (subst (IsOfConstant (length objects)) same is)
    one (suc i) q here = absurd (cc here)

-- an entry of a longer list is one of its front, or one behind it, at a place there
split_at : {A : Type 0} (xs ys : List A) (i : ℕ) (x : A) → slice_get (xs ++ ys) i ≡ Some x → (slice_get xs i ≡ Some x) ⊎ ((j : ℕ) × (i ≡ length xs + j) × (slice_get ys j ≡ Some x))
split_at [] ys i x here = inr (i, omega arith, here)
split_at (z ∷ zs) ys zero x here = inl here
split_at (z ∷ zs) ys (suc i) x here = elim (split_at zs ys i x here) [ inl front ↦ inl front | inr (j, is, back) ↦ inr (j, omega (arith, is), back) ]

pub adds_on : (a b c : List Payload) → AddsConstants a b → AddsConstants b c → AddsConstants a c
adds_on a b c first second = record {
  more = first.more ++ second.more;
  is = second.is ∙ ap (λ (os : List Payload). os ++ second.more) first.is ∙ append_assoc a first.more second.more;
  constants = λ i p here. elim (split_at first.more second.more i p here) [
    | inl front ↦ first.constants i p front
    | inr (j, is, back) ↦
        let place : length b + j ≡ length a + i = omega (arith, is, ap length first.is, length-append a first.more) in
        subst (λ (n : ℕ). IsOfConstant n p) place (second.constants j p back)
  ];
}

pub adds_grow : (old new : List Payload) → AddsConstants old new → Grows old new
adds_grow old new adds = (adds.more, adds.is)

module _ (old new : List Payload) (adds : AddsConstants old new) where
  -- an entry was there, or is what a constant is
  old_or_bare : (i : ℕ) (p : Payload) → slice_get new i ≡ Some p → (slice_get old i ≡ Some p) ⊎ IsBare i p
  old_or_bare i p here = elim (split_at old adds.more i p (subst (λ (os : List Payload). slice_get os i ≡ Some p) adds.is here)) [
    | inl front ↦ inl front
    | inr (j, is, back) ↦ inr (subst (λ (n : ℕ). IsBare n p) (sym is) (constant_bare (length old + j) p (adds.constants j p back)))
  ]

  pub adds_plainly : GrowsPlainly old new
  adds_plainly = record {
    more = adds.more;
    is = adds.is;
    plain = λ i p here. (constant_bare (length old + i) p (adds.constants i p here)).declares_none;
    fit = λ fit i p here. fits fit i p here (old_or_bare i p here);
  }
    where
      fits : AllFit old → (i : ℕ) (p : Payload) → slice_get new i ≡ Some p → (slice_get old i ≡ Some p) ⊎ IsBare i p → AllBelow (length new) (payload_numbers p) × IsMade new p
      fits fit i p here (inl front) = let (below, made) = fit i p front in (below_more _ _ _ (length_grown old new (adds_grow old new adds)) below, made_grown old new p (adds_grow old new adds) made)
      fits fit i p here (inr bare) = (below_more i (length new) (payload_numbers p) (omega (arith, slice_get_within new i p here)) bare.names_below, bare.made new)

  -- no frame came
  adds_no_frame : frames_in new ≡ frames_in old
  adds_no_frame = ap frames_in adds.is ∙ frames_same old adds.more (λ i p here. (constant_bare (length old + i) p (adds.constants i p here)).no_frame)

  -- exceptions and tracebacks were there
  pub exception_before : (v : Obj) (e : ExceptionBody) → HasPayload new v (payload.Exception e) → HasPayload old v (payload.Exception e)
  exception_before v e has = by (old_or_bare v.number (payload.Exception e) has)
    where
      by : (slice_get old v.number ≡ Some (payload.Exception e)) ⊎ IsBare v.number (payload.Exception e) → HasPayload old v (payload.Exception e)
      by (inl front) = front
      by (inr bare) = absurd (bare.no_exception e refl)

  pub traceback_before : (v : Obj) → IsTraceback new v → IsTraceback old v
  traceback_before v (t, has) = by (old_or_bare v.number (payload.Traceback t) has)
    where
      by : (slice_get old v.number ≡ Some (payload.Traceback t)) ⊎ IsBare v.number (payload.Traceback t) → IsTraceback old v
      by (inl front) = (t, front)
      by (inr bare) = absurd (bare.no_traceback t refl)

  -- so classes of exceptions stay there
  pub classes_stay : ClassesAreThere old → ClassesAreThere new
  classes_stay there v e has = let below : e.class.number < length old = there v e (exception_before v e has) in omega (arith, below, length_grown old new (adds_grow old new adds))

-- a store to which objects of constants came grew
pub constants_grown : (old new : Kept) → AddsConstants old.made new.made → new ≡ record old { made = new.made } → IsGrown old new
constants_grown old new adds others = record { objects = adds_plainly old.made new.made adds; frames = adds_no_frame old.made new.made adds; others = others }

-- where each entry fits, they are there
pub fit_classes : (objects : List Payload) → AllFit objects → ClassesAreThere objects
fit_classes objects fit v e has = (fit v.number (payload.Exception e) has).0.0
