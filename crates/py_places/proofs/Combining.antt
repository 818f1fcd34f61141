-- Places that tell what is said of them: as they are, in other words, and where they may be cut in front.
use Rattle.std.proofs.Common.{◌≡◌, ◌⊎◌, ℕ, List, [], ◌∷◌, Option, Some, None, refl, sym, subst, inl, inr, arith}
use Rattle.py_objects.specs.declared.payload.Payload.{Payload}
use Rattle.py_objects.specs.Objects.{Obj}
use Rattle.py_objects.specs.Own.{Own}
use Rattle.py_objects.specs.Telling.{AfterValue}
use Rattle.py_tree.specs.Binding.{Env}
use Rattle.py_tree.specs.Outcome.{Cut, Handled, Use}
use Rattle.py_places.specs.Cells.{Cells}
use Rattle.py_places.specs.Place.{Then, Frames, Behind, Turn, Final, Passing, Catch, Forget, Exit, Rest, Stuck, Place, place}
use Rattle.py_places.specs.Silent.{or_stuck}
use Rattle.py_places.specs.Standing.{Standing, first_unused, IsChoice, for_handled, for_env, for_then, for_frames, for_rest}
use Rattle.py_places.specs.Telling.{follows, next, Tells}
use Rattle.py_places.proofs.Fits.{RestScoped, AsksKnown, TellsBy, Fits, FitsIf}

module _ (objects : List Payload) (globals : Obj) where
  -- whatever stands around, one may be cut
  pub all_cut : (fs : Frames) (env : Env) (k : ℕ) → follows objects globals fs env Cut k []
  all_cut [] env k = refl
  all_cut (Behind h more ∷ fs) env k = all_cut fs env k
  all_cut (Turn h line e s ∷ fs) env k = all_cut fs env k
  all_cut (Final h t ∷ fs) env k = all_cut fs env k
  all_cut (Passing o ∷ fs) env k = all_cut fs env k
  all_cut (Catch line cs ∷ fs) env k = all_cut fs env k
  all_cut (Forget h x ∷ fs) env k = all_cut fs env k
  all_cut (Exit h line m ∷ fs) env k = all_cut fs env k

  -- what follows a value among frames, and the same by a choice
  abbrev pub UseOf : Then → Env → Handled → Frames → AfterValue
  UseOf th env h fs = Use env (follows objects globals fs) (next objects globals th env h fs)

  abbrev pub UseNext : Then → Env → Handled → Frames → Standing → AfterValue
  UseNext th env h fs σ = UseOf (for_then σ th) (for_env σ env) (for_handled σ h) (for_frames σ fs)

  -- a rest tells what it tells
  pub here : (cells : Cells) (r : Rest) → RestScoped (first_unused objects cells) r → AsksKnown r
      → Fits objects globals cells (place cells r) (λ σ. Tells objects globals (for_rest σ r))
  here cells r scoped asks = record {
    earlier = λ σ choice. choice;
    sound = λ σ choice k ts told. told;
    forth = λ σ choice k e ts told. (σ, choice, λ v below. refl, told);
    scoped = scoped;
    asks = asks;
    grows = omega arith;
    chance = λ some. some;
  }

  -- the same in other words, which mean the same by each choice
  pub told_by : (cells : Cells) (m : Place) (P Q : TellsBy)
      → ((σ : Standing) → IsChoice objects cells σ → (k : ℕ) (ts : List Own) → P σ k ts → Q σ k ts)
      → ((σ : Standing) → IsChoice objects cells σ → (k : ℕ) (e : Own) (ts : List Own) → Q σ k (e ∷ ts) → P σ k (e ∷ ts))
      → Fits objects globals cells m P → Fits objects globals cells m Q
  told_by cells m P Q to from f = record {
    earlier = f.earlier;
    sound = λ σ choice k ts told. to σ (f.earlier σ choice) k ts (f.sound σ choice k ts told);
    forth = λ σ choice k e ts told. f.forth σ choice k e ts (from σ choice k e ts told);
    scoped = f.scoped;
    asks = f.asks;
    grows = f.grows;
    chance = f.chance;
  }

  pub told_as : (cells : Cells) (m : Place) (P Q : TellsBy)
      → ((σ : Standing) (k : ℕ) (ts : List Own) → P σ k ts → Q σ k ts) → ((σ : Standing) (k : ℕ) (ts : List Own) → Q σ k ts → P σ k ts)
      → Fits objects globals cells m P → Fits objects globals cells m Q
  told_as cells m P Q to from f = told_by cells m P Q (λ σ choice. to σ) (λ σ choice k e ts. from σ k (e ∷ ts)) f

  pub told_if : (cells : Cells) (m : Option Place) (P Q : TellsBy)
      → ((σ : Standing) (k : ℕ) (ts : List Own) → P σ k ts → Q σ k ts) → ((σ : Standing) (k : ℕ) (ts : List Own) → Q σ k ts → P σ k ts)
      → FitsIf objects globals cells m P → FitsIf objects globals cells m Q
  told_if cells None P Q to from f = λ σ choice k ts told. f σ choice k ts (from σ k ts told)
  told_if cells (Some m) P Q to from f = told_as cells m P Q to from f

  -- the same by words that are equal
  pub told_same : (cells : Cells) (m : Option Place) (P Q : TellsBy) → ((σ : Standing) → P σ ≡ Q σ)
      → FitsIf objects globals cells m P → FitsIf objects globals cells m Q
  told_same cells m P Q same f =
      told_if cells m P Q (λ σ k ts told. subst (λ (T : ℕ → List Own → Type 0). T k ts) (same σ) told)
      (λ σ k ts told. subst (λ (T : ℕ → List Own → Type 0). T k ts) (sym (same σ)) told) f

  -- a place that there is
  pub fits_of : (cells : Cells) (found : Option Place) (m : Place) (P : TellsBy) → FitsIf objects globals cells found P → found ≡ Some m
      → Fits objects globals cells m P
  fits_of cells None m P f is = absurd (cc is)
  fits_of cells (Some n) m P f is = subst (λ x. Fits objects globals cells x P) (cc is) f

  -- where something is told, there is a place
  pub is_some : (cells : Cells) (found : Option Place) (P : TellsBy) (σ : Standing) (k : ℕ) (ts : List Own) → FitsIf objects globals cells found P
      → IsChoice objects cells σ → P σ k ts → (m : Place) × (found ≡ Some m)
  is_some cells None P σ k ts f choice told = absurd (f σ choice k ts told)
  is_some cells (Some m) P σ k ts f choice told = (m, refl)

  -- where no event may be told, nothing more is
  pub stuck : (cells : Cells) (P : TellsBy) → ((σ : Standing) → IsChoice objects cells σ → (k : ℕ) → P σ k [])
      → ((σ : Standing) → IsChoice objects cells σ → (k : ℕ) (e : Own) (ts : List Own) → P σ k (e ∷ ts) → ⊥)
      → Fits objects globals cells (place cells Stuck) P
  stuck cells P cut never =
      told_by cells (place cells Stuck) (λ σ k ts. ts ≡ []) P (λ σ choice k ts none. subst (λ us. P σ k us) (sym none) (cut σ choice k))
      (λ σ choice k e ts told. absurd (never σ choice k e ts told)) (here cells Stuck (λ σ σ' same. refl) tt)

  -- where one may be cut in front
  pub or_cut : (cells : Cells) (m : Option Place) (P : TellsBy) (Q : Standing → ℕ → Type 0) → ((σ : Standing) (k : ℕ) → Q σ k)
      → FitsIf objects globals cells m P → Fits objects globals cells (or_stuck cells m) (λ σ k ts. ((ts ≡ []) × Q σ k) ⊎ P σ k ts)
  or_cut cells None P Q cut f = stuck cells (λ σ k ts. ((ts ≡ []) × Q σ k) ⊎ P σ k ts) (λ σ choice k. inl (refl, cut σ k)) never
    where
      never : (σ : Standing) → IsChoice objects cells σ → (k : ℕ) (e : Own) (ts : List Own) → ((e ∷ ts ≡ []) × Q σ k) ⊎ P σ k (e ∷ ts) → ⊥
      never σ choice k e ts (inl (none, x)) = absurd (cc none)
      never σ choice k e ts (inr told) = f σ choice k (e ∷ ts) told
  or_cut cells (Some m) P Q cut f = told_by cells m P (λ σ k ts. ((ts ≡ []) × Q σ k) ⊎ P σ k ts) (λ σ choice k ts told. inr told) back f
    where
      back : (σ : Standing) → IsChoice objects cells σ → (k : ℕ) (e : Own) (ts : List Own) → ((e ∷ ts ≡ []) × Q σ k) ⊎ P σ k (e ∷ ts) → P σ k (e ∷ ts)
      back σ choice k e ts (inl (none, x)) = absurd (cc none)
      back σ choice k e ts (inr told) = told
