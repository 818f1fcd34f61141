-- What was raised, behind one event more, and the last raise of an exception.
use Rattle.std.proofs.Common.{◌≡◌, ◌∙◌, List, [], ◌∷◌, ◌++◌, Bool, true, false, Some, eqb, refl, sym, ap}
use Rattle.std.specs.Prelude.{Option, option_map, if◌then◌else◌}
use Rattle.std.proofs.lemmas.Bool.{eqb-true, ne_eqb}
use Rattle.py_objects.specs.declared.event.Event.{Event}
use Rattle.py_objects.specs.Objects.{Obj}
use Rattle.py_run.specs.Run.{State, start, after, state_after}
use Rattle.py_determined.specs.Raises.{Raise, raise_of, raises_after, raises_from, raises_of, with_traceback}

-- the raises behind one event more
raises_further : (s : State) (xs : List Raise) (es : List Event) (e : Event) → raises_from s xs (es ++ e ∷ []) ≡ raises_after (state_after s es) (raises_from s xs es) e
raises_further s xs [] e = refl
raises_further s xs (x ∷ es) e = raises_further (after s x) (raises_after s xs x) es e

pub raises_on : (events : List Event) (e : Event) → raises_of (events ++ e ∷ []) ≡ raises_after (state_after start events) (raises_of events) e
raises_on events e = raises_further start [] events e

-- ---- the last raise

-- a raise whose traceback was told
abbrev pub with_told : Obj → Raise → Raise
with_told t x = record x { traceback = Some t }

-- of an exception that isn't this one
passed_by : (c : Bool) (x y : Raise) (o : Option Raise) → c ≡ false → (if c then Some x else o) ≡ (if c then Some y else o)
passed_by false x y o is = refl
passed_by true x y o is = absurd (cc is)

-- where an exit was told of another exception, it is the same
pub told_other : (v u t : Obj) (xs : List Raise) → (u.number ≡ v.number → ⊥) → raise_of v (with_traceback u t xs) ≡ raise_of v xs
told_other v u t [] apart = refl
told_other v u t (x ∷ xs) apart = by (eqb x.exception.number u.number) refl (told_other v u t xs apart)
  where
    by : (b : Bool) → eqb x.exception.number u.number ≡ b → raise_of v (with_traceback u t xs) ≡ raise_of v xs
        → raise_of v (if b then with_told t x ∷ xs else x ∷ with_traceback u t xs) ≡ raise_of v (x ∷ xs)
    by false is rest = ap (λ o. if eqb x.exception.number v.number then Some x else o) rest
    by true is rest =
        let same : x.exception.number ≡ u.number = eqb-true x.exception.number u.number is in
        passed_by (eqb x.exception.number v.number) (with_told t x) x (raise_of v xs) (ne_eqb x.exception.number v.number (λ here. apart (sym same ∙ here)))

-- where it was told of this one, it has the traceback
pub told_same : (v u t : Obj) (xs : List Raise) → u.number ≡ v.number → raise_of v (with_traceback u t xs) ≡ option_map (with_told t) (raise_of v xs)
told_same v u t [] same = refl
told_same v u t (x ∷ xs) same = by (eqb x.exception.number u.number) (eqb x.exception.number v.number) refl (ap (eqb x.exception.number) same) (told_same v u t xs same)
  where
    by : (b c : Bool) → eqb x.exception.number v.number ≡ c → b ≡ c → raise_of v (with_traceback u t xs) ≡ option_map (with_told t) (raise_of v xs)
        → raise_of v (if b then with_told t x ∷ xs else x ∷ with_traceback u t xs) ≡ option_map (with_told t) (if c then Some x else raise_of v xs)
    by true true here is rest = rw here refl
    by false false here is rest = rw here rest
    by true false here is rest = absurd (cc is)
    by false true here is rest = absurd (cc is)
