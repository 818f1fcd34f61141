-- What an event leaves of a place, by what is met and by what fits.
use Rattle.std.proofs.Common.{◌≡◌, ℕ, List, ◌∷◌, Option, Some, None, refl, subst, ap, arith}
use Rattle.py_objects.specs.declared.payload.Payload.{Payload}
use Rattle.py_objects.specs.Objects.{Obj}
use Rattle.py_objects.specs.Own.{Own}
use Rattle.py_places.specs.Cells.{Cells}
use Rattle.py_places.specs.Place.{Rest, Place, place}
use Rattle.py_places.specs.Stepping.{if_met, step_rest}
use Rattle.py_places.specs.Standing.{Standing, Same, first_unused, IsChoice, for_rest}
use Rattle.py_places.specs.Telling.{Tells}
use Rattle.py_places.proofs.Fits.{RestScoped, AsksKnown, TellsBy, heard_last, Fits, FitsIf, Leaves}
use Rattle.py_places.proofs.Scopes.{longer}
use Rattle.py_places.proofs.Combining.{fits_of, is_some}
use Rattle.py_places.proofs.Choices.{MeetsIf, IsMet}

module _ (objects : List Payload) (globals : Obj) where
  -- what is told at a rest by a choice
  abbrev pub TellsAt : Rest → TellsBy
  TellsAt r σ = Tells objects globals (for_rest σ r)

  -- what is found is what the event leaves of the rest, and there is something wherever a choice tells the event
  pub record Steps (cells : Cells) (before : Rest) (e : Own) (found : Option Place) : Type 0 where
    pub leaves : (p : Place) → found ≡ Some p → Leaves objects globals (place cells before) e p
    pub some : (σ : Standing) → IsChoice objects cells σ → (k : ℕ) (ts : List Own) → TellsAt before σ k (e ∷ ts) → (p : Place) × (found ≡ Some p)

  -- the same of what a step finds
  abbrev pub StepsAt : Rest → Own → Cells → Type 0
  StepsAt before e cells = Steps cells before e (step_rest objects globals before e cells)

  -- nothing, where no choice tells the event
  pub never_steps : (cells : Cells) (before : Rest) (e : Own)
      → ((σ : Standing) → IsChoice objects cells σ → (k : ℕ) (ts : List Own) → TellsAt before σ k (e ∷ ts) → ⊥) → Steps cells before e None
  never_steps cells before e never = record { leaves = λ p is. absurd (cc is); some = λ σ choice k ts told. absurd (never σ choice k ts told) }

  -- a place that fits what is told behind the event
  pub fit_steps : (cells : Cells) (before : Rest) (e : Own) (found : Option Place) (P : TellsBy) → FitsIf objects globals cells found P
      → ((σ : Standing) (k : ℕ) (ts : List Own) → P σ (heard_last k e) ts → TellsAt before σ k (e ∷ ts))
      → ((σ : Standing) (k : ℕ) (ts : List Own) → TellsAt before σ k (e ∷ ts) → P σ (heard_last k e) ts) → Steps cells before e found
  fit_steps cells before e found P fit into out =
      record {
        leaves = λ p is. left p (fits_of objects globals cells found p P fit is);
        some = λ σ choice k ts told. is_some objects globals cells found P σ (heard_last k e) ts fit choice (out σ k ts told);
      }
    where
      left : (p : Place) → Fits objects globals cells p P → Leaves objects globals (place cells before) e p
      left p f =
          record {
            earlier = f.earlier;
            sound = λ σ choice k ts told. into σ k ts (f.sound σ choice (heard_last k e) ts told);
            forth = λ σ choice k d ts told. f.forth σ choice (heard_last k e) d ts (out σ k (d ∷ ts) told);
            scoped = f.scoped;
            asks = f.asks;
            grows = f.grows;
            chance = f.chance;
          }

  -- the rest behind what is met, where Q holds just by the choices that meet it
  pub met_steps : (cells : Cells) (before after : Rest) (e : Own) (m : Option Cells) (Q : Standing → Type 0)
      → RestScoped (first_unused objects cells) after → AsksKnown after → MeetsIf objects cells m Q
      → ((σ : Standing) → IsChoice objects cells σ → Q σ → IsMet objects cells σ m)
      → ((σ : Standing) (k : ℕ) (ts : List Own) → Q σ → TellsAt after σ (heard_last k e) ts → TellsAt before σ k (e ∷ ts))
      → ((σ : Standing) (k : ℕ) (ts : List Own) → TellsAt before σ k (e ∷ ts) → Q σ × TellsAt after σ (heard_last k e) ts)
      → Steps cells before e (if_met objects after m)
  met_steps cells before after e m Q scoped asks gives meets into out = record { leaves = λ p is. left m gives refl p is; some = there }
    where
      there : (σ : Standing) → IsChoice objects cells σ → (k : ℕ) (ts : List Own) → TellsAt before σ k (e ∷ ts)
          → (p : Place) × (if_met objects after m ≡ Some p)
      there σ choice k ts told =
          let (cells1, is, choice1, long) = meets σ choice (out σ k ts told).0 in (place cells1 after, ap (if_met objects after) is)

      left : (n : Option Cells) → MeetsIf objects cells n Q → m ≡ n → (p : Place) → if_met objects after n ≡ Some p
          → Leaves objects globals (place cells before) e p
      left None g is_n p is = absurd (cc is)
      left (Some cells1) g is_n p is = subst (λ q. Leaves objects globals (place cells before) e q) (cc is) (record {
        earlier = g.earlier;
        sound = λ σ choice k ts told. into σ k ts (g.met σ choice) told;
        forth = λ σ choice k d ts told. on σ choice (out σ k (d ∷ ts) told);
        scoped = let long = g.as_long in longer objects cells cells1 (omega (arith, long)) scoped;
        asks = asks;
        grows = let long = g.as_long in omega (arith, long);
        chance = g.chance;
      })
        where
          on : {T : Standing → Type 0} (σ : Standing) → IsChoice objects cells σ → Q σ × T σ
              → (σ' : Standing) × IsChoice objects cells1 σ' × Same (first_unused objects cells) σ σ' × T σ'
          on σ choice (q, told) =
              let (cells2, is2, choice2, long) = meets σ choice q in
              let same : cells2 ≡ cells1 = cc (is2, is_n) in
              (σ, subst (λ c. IsChoice objects c σ) same choice2, λ v below. refl, told)
