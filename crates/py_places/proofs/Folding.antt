-- The own events of an activation are accepted one after another just where they are a trace of its body.
use Rattle.std.proofs.Common.{◌≡◌, ℕ, Bool, true, false, cond, List, [], ◌∷◌, Option, Some, None, length, refl, sym, subst, ap, ◌∙◌, nat_lt, ◌==◌, arith, eq-eqb, eqb-true}
use Rattle.py_objects.specs.declared.payload.Payload.{Payload}
use Rattle.py_objects.specs.Objects.{Obj, AllBelow, numbers}
use Rattle.py_objects.specs.Own.{Own, Makes}
use Rattle.py_tree.specs.Tree.{Tree}
use Rattle.py_tree.specs.Scene.{anywhere}
use Rattle.py_tree.specs.Trace.{IsBegun, IsTrace}
use Rattle.py_places.specs.Place.{Starting, Place, place}
use Rattle.py_places.specs.Stepping.{step}
use Rattle.py_places.specs.Standing.{Standing, MayBe, first_unused, IsChoice, for_all, for_rest}
use Rattle.py_places.specs.Telling.{Tells}
use Rattle.py_places.specs.Checking.{made, run_on, is_there, HearsBelow, AllHear, Decided}
use Rattle.py_places.proofs.Fits.{RestScoped, AsksKnown, heard_last, HasChoice}
use Rattle.py_places.proofs.Scopes.{AllScoped}
use Rattle.py_places.proofs.Choices.{stays}
use Rattle.py_places.proofs.Stepping.{step_leaves, steps, rest_cut}

module _ (objects : List Payload) (globals : Obj) where
  -- what a place tells, it accepts
  all_accepted : (es : List Own) (p : Place) (σ : Standing) (k : ℕ) → RestScoped (first_unused objects p.cells) p.rest → AsksKnown p.rest
      → AllHear (length objects) es
      → IsChoice objects p.cells σ → Tells objects globals (for_rest σ p.rest) k es → is_there objects globals (run_on objects globals (Some p) es) ≡ true
  all_accepted [] p σ k s a low choice told = refl
  all_accepted (e ∷ []) p σ k s a low choice told =
      let (p1, is) = steps objects globals p e [] σ k s a low.0 choice told in ap (λ m. is_there objects globals (run_on objects globals m [])) is
  all_accepted (e ∷ d ∷ es) p σ k s a low choice told =
      let (p1, is) = steps objects globals p e (d ∷ es) σ k s a low.0 choice told in
      let l = step_leaves objects globals p e p1 s a low.0 is in
      let (σ1, choice1, same, told1) = l.forth σ choice k d es told in
      ap (λ m. is_there objects globals (run_on objects globals m (d ∷ es))) is
      ∙ all_accepted (d ∷ es) p1 σ1 (heard_last k e) l.scoped l.asks low.1 choice1 told1

  -- some choice tells this
  abbrev Chosen_by : Place → ℕ → List Own → Type 0
  Chosen_by p k es = (σ : Standing) × IsChoice objects p.cells σ × Tells objects globals (for_rest σ p.rest) k es

  behind_step : (found : Option Place) (p : Place) (e : Own) (es : List Own) (k : ℕ) → step objects globals p e ≡ found
      → RestScoped (first_unused objects p.cells) p.rest
      → AsksKnown p.rest → HasChoice objects globals p.cells → HearsBelow (length objects) e → is_there objects globals (run_on objects globals found es) ≡ true
      → ((p1 : Place) → RestScoped (first_unused objects p1.cells) p1.rest → AsksKnown p1.rest → HasChoice objects globals p1.cells
      → is_there objects globals (run_on objects globals (Some p1) es) ≡ true → Chosen_by p1 (heard_last k e) es) → Chosen_by p k (e ∷ es)
  behind_step None p e es k is s a chance low accepted on = absurd (cc accepted)
  behind_step (Some p1) p e es k is s a chance low accepted on =
      let l = step_leaves objects globals p e p1 s a low is in
      let (σ, choice, told) = on p1 l.scoped l.asks (l.chance chance) accepted in
      (σ, l.earlier σ choice, l.sound σ choice k es told)

  -- and what it accepts, it tells
  all_told : (es : List Own) (p : Place) (k : ℕ) → RestScoped (first_unused objects p.cells) p.rest → AsksKnown p.rest → HasChoice objects globals p.cells
      → AllHear (length objects) es → is_there objects globals (run_on objects globals (Some p) es) ≡ true → Chosen_by p k es
  all_told [] p k s a chance low accepted = (chance.0, chance.1, rest_cut objects globals (for_rest chance.0 p.rest) k)
  all_told (e ∷ es) p k s a chance low accepted =
      behind_step (step objects globals p e) p e es k refl s a chance low.0 accepted
      (λ p1 s1 a1 chance1 accepted1. all_told es p1 (heard_last k e) s1 a1 chance1 low.1 accepted1)

  -- ---- an activation that was made

  abbrev itself : Standing
  itself v = v

  itself_chosen : IsChoice objects [] itself
  itself_chosen v below = by (nat_lt v.number (length objects))
    where
      by : (b : Bool) → MayBe objects (cond b None None) v v
      by true = refl
      by false = refl

  arguments_stay : (args : List Obj) → AllBelow (length objects) (numbers args) → (σ : Standing) → IsChoice objects [] σ → for_all σ args ≡ args
  arguments_stay [] low σ choice = refl
  arguments_stay (v ∷ vs) low σ choice = ap (λ w. w ∷ for_all σ vs) (stays objects [] v low.0 σ choice) ∙ ap (λ ws. v ∷ ws) (arguments_stay vs low.1 σ choice)

  arguments_scoped : (args : List Obj) → AllBelow (length objects) (numbers args) → AllScoped (first_unused objects []) args
  arguments_scoped [] low σ σ' same = refl
  arguments_scoped (v ∷ vs) low σ σ' same =
      ap (λ w. w ∷ for_all σ vs) (same v (let below = low.0 in omega (arith, below))) ∙ ap (λ ws. σ' v ∷ ws) (arguments_scoped vs low.1 σ σ' same)

  module _ (t : Tree) (args : List Obj) (low : AllBelow (length objects) (numbers args)) where
    abbrev first : Place
    first = place [] (Starting t args)

    first_scoped : RestScoped (first_unused objects []) (Starting t args)
    first_scoped σ σ' same = ap (Starting t) (arguments_scoped args low σ σ' same)

    begun_sound : (es : List Own) → AllHear (length objects) es → is_there objects globals (run_on objects globals (Some first) es) ≡ true
        → IsBegun (anywhere objects globals) t args es
    begun_sound es heard accepted =
        let (σ, choice, told) = all_told es first 0 first_scoped tt (itself, itself_chosen) heard accepted in
        subst (λ vs. IsBegun (anywhere objects globals) t vs es) (arguments_stay args low σ choice) told

    begun_complete : (es : List Own) → AllHear (length objects) es → IsBegun (anywhere objects globals) t args es
        → is_there objects globals (run_on objects globals (Some first) es) ≡ true
    begun_complete es heard told =
        all_accepted es first itself 0 first_scoped tt heard itself_chosen
        (subst (λ vs. IsBegun (anywhere objects globals) t vs es) (sym (arguments_stay args low itself itself_chosen)) told)

    -- where there are as many arguments as parameters
    made_sound : (b : Bool) → length args == length t.params ≡ b → (es : List Own) → AllHear (length objects) es
        → is_there objects globals (run_on objects globals (cond b (Some first) None) es) ≡ true → IsTrace (anywhere objects globals) t args (Makes ∷ es)
    made_sound true is es heard accepted = (eqb-true (length args) (length t.params) is, (es, refl, begun_sound es heard accepted))
    made_sound false is es heard accepted = absurd (cc accepted)

    made_complete : (es : List Own) → AllHear (length objects) es → IsTrace (anywhere objects globals) t args (Makes ∷ es)
        → is_there objects globals (run_on objects globals (made t args) es) ≡ true
    made_complete es heard (long, (us, same, told)) =
        let left : us ≡ es = cc same in
        ap (λ b. is_there objects globals (run_on objects globals (cond b (Some first) None) es)) (eq-eqb (length args) (length t.params) long)
        ∙ begun_complete es heard (subst (λ l. IsBegun (anywhere objects globals) t args l) left told)

pub decided : Decided
decided objects globals t args [] low heard = ((λ accepted. absurd (cc accepted)), (λ told. absurd (cc told.1.1)))
decided objects globals t args (Makes ∷ es) low heard =
    (made_sound objects globals t args low (length args == length t.params) refl es heard.1, made_complete objects globals t args low es heard.1)
decided objects globals t args (_ ∷ es) low heard = ((λ accepted. absurd (cc accepted)), (λ told. absurd (cc told.1.1)))
