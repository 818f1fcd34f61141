-- An atom is loaded: a literal gets a cell, a name is found or asked for.
use Rattle.std.proofs.Common.{◌≡◌, ◌+◌, ℕ, List, [], ◌∷◌, ◌++◌, Option, Some, None, refl, sym, subst, inl, inr, ap, ◌∙◌, length, length-append, arith}
use Rattle.py_objects.specs.declared.payload.Payload.{Payload}
use Rattle.py_objects.specs.declared.payload.Payload.TheVariants as payload
use Rattle.py_objects.specs.declared.request.Request.TheVariants as request
use Rattle.py_objects.specs.Objects.{Obj, HasPayload}
use Rattle.py_objects.specs.Own.{Own}
use Rattle.py_objects.specs.Telling.{Given, AfterValue, IsLiteral}
use Rattle.py_tree.specs.declared.expr.Atom.{Atom}
use Rattle.py_tree.specs.declared.expr.Atom.TheVariants as atom
use Rattle.py_tree.specs.Tree.{Name}
use Rattle.py_tree.specs.Binding.{Env, find_local}
use Rattle.py_tree.specs.Outcome.{Handled, Named, Loads}
use Rattle.py_places.specs.Cells.{Like, Cells, first_of, next_number}
use Rattle.py_places.specs.Place.{Then, Frames, Question, Looks_up, Requests, Asking, Place, place}
use Rattle.py_places.specs.Silent.{Goes, or_stuck, by_first, by_local, load}
use Rattle.py_places.specs.Standing.{Standing, Same, first_unused, IsChoice, for_handled, for_env, for_then, for_frames, for_rest}
use Rattle.py_places.specs.Telling.{scene, Tells}
use Rattle.py_places.proofs.Fits.{EnvScoped, HandledScoped, ThenScoped, FramesScoped, IsAskableQuestion, TellsBy, Forth, Fits, FitsIf, GoesTo}
use Rattle.py_places.proofs.Scopes.{QuestionScoped, looks_up_scoped, asking_scoped}
use Rattle.py_places.proofs.Locals.{for_found, find_for, found_scoped}
use Rattle.py_places.proofs.Literals.{IsLiteralPayload, none_literal, bool_literal, int_literal, str_literal, first_has, none_has, update, same_update, update_at, first_more, choose_more, choose_less, choice_last}
use Rattle.py_places.proofs.Combining.{all_cut, UseOf, UseNext, here, told_same, stuck}

module _ (objects : List Payload) (globals : Obj) where
  -- a question is asked
  pub asking_fits : (q : Question) (env : Env) (h : Handled) (th : Then) (fs : Frames) (cells : Cells) → IsAskableQuestion q
      → EnvScoped (first_unused objects cells) env → HandledScoped (first_unused objects cells) h → QuestionScoped (first_unused objects cells) q
      → ThenScoped (first_unused objects cells) th → FramesScoped (first_unused objects cells) fs
      → Fits objects globals cells (place cells (Asking env h q th fs)) (λ σ. Tells objects globals (for_rest σ (Asking env h q th fs)))
  asking_fits q env h th fs cells asks se sh sq st sf =
      here objects globals cells (Asking env h q th fs) (asking_scoped _ env h th fs se sh st sf q sq) asks

  module _ (env : Env) (h : Handled) (th : Then) (fs : Frames) (cells : Cells)
      (se : EnvScoped (first_unused objects cells) env) (sh : HandledScoped (first_unused objects cells) h)
      (st : ThenScoped (first_unused objects cells) th) (sf : FramesScoped (first_unused objects cells) fs) where
    -- what is told behind a literal
    abbrev TellsLiteral : Payload → TellsBy
    TellsLiteral p σ k ts = IsLiteral objects p k ts (UseNext objects globals th env h fs σ)

    -- what follows is the same by choices that agree so far
    same_use : (σ σ' : Standing) → Same (first_unused objects cells) σ σ'
        → UseNext objects globals th env h fs σ ≡ UseNext objects globals th env h fs σ'
    same_use σ σ' same =
        ap (λ x. UseOf objects globals (for_then σ th) x (for_handled σ h) (for_frames σ fs)) (se σ σ' same)
        ∙ (ap (λ x. UseOf objects globals (for_then σ th) (for_env σ' env) x (for_frames σ fs)) (sh σ σ' same)
        ∙ (ap (λ x. UseOf objects globals x (for_env σ' env) (for_handled σ' h) (for_frames σ fs)) (st σ σ' same)
        ∙ ap (λ x. UseOf objects globals (for_then σ' th) (for_env σ' env) (for_handled σ' h) x) (sf σ σ' same)))

    -- the choice by which the next number stands for an object, and what is told behind that
    abbrev by_next : Standing → Obj → Standing
    by_next σ v = update σ (first_unused objects cells) v

    told_next : (σ : Standing) (v : Obj) (k : ℕ) (ts : List Own) → UseNext objects globals th env h fs σ (Given v) k ts
        → UseNext objects globals th env h fs (by_next σ v) (Given (by_next σ v (next_number objects cells))) k ts
    told_next σ v k ts told =
        let at : v ≡ by_next σ v (next_number objects cells) = sym (update_at σ (next_number objects cells) v) in
        subst (λ u. UseNext objects globals th env h fs (by_next σ v) (Given u) k ts) at
        (subst (λ (K : AfterValue). K (Given v) k ts) (same_use σ (by_next σ v) (same_update σ (first_unused objects cells) v)) told)

    cut_literal : (p : Payload) (σ : Standing) (k : ℕ) → TellsLiteral p σ k []
    cut_literal p σ k = inl (refl, all_cut objects globals (for_frames σ fs) (for_env σ env) k)

    -- behind a literal, of which this is the first object
    literal_behind : (p : Payload) (w : Obj) (m : Option Place) → IsLiteralPayload p → HasPayload objects w p
        → FitsIf objects globals (cells ++ Like w ∷ []) m (λ σ. UseNext objects globals th env h fs σ (Given (σ (next_number objects cells))))
        → Fits objects globals cells (or_stuck cells m) (TellsLiteral p)
    literal_behind p w None one has f = stuck objects globals cells (TellsLiteral p) (λ σ choice. cut_literal p σ) never
      where
        never : (σ : Standing) → IsChoice objects cells σ → (k : ℕ) (e : Own) (ts : List Own) → TellsLiteral p σ k (e ∷ ts) → ⊥
        never σ choice k e ts (inl (none, told)) = absurd (cc none)
        never σ choice k e ts (inr (v, has_v, told)) =
            f (by_next σ v) (choose_more objects cells σ p w v one has has_v choice) k (e ∷ ts) (told_next σ v k (e ∷ ts) told)
    literal_behind p w (Some m) one has f = record {
      earlier = λ σ choice. choose_less objects cells (Like w) σ (f.earlier σ choice);
      sound = λ σ choice k ts told.
          inr (σ (next_number objects cells), choice_last objects cells p w σ has (f.earlier σ choice), f.sound σ choice k ts told);
      forth = on;
      scoped = f.scoped;
      asks = f.asks;
      grows = let more = length-append cells (Like w ∷ []) in let longer = f.grows in omega (arith, more, longer);
      chance = λ (σ, choice). f.chance (by_next σ w, choose_more objects cells σ p w w one has has choice);
    }
      where
        on : (σ : Standing) → IsChoice objects cells σ → (k : ℕ) (e : Own) (ts : List Own) → TellsLiteral p σ k (e ∷ ts)
            → Forth objects globals (first_unused objects cells) m σ k (e ∷ ts)
        on σ choice k e ts (inl (none, told)) = absurd (cc none)
        on σ choice k e ts (inr (v, has_v, told)) =
            let choice1 = choose_more objects cells σ p w v one has has_v choice in
            let (σ2, choice2, same2, told2) = f.forth (by_next σ v) choice1 k e ts (told_next σ v k (e ∷ ts) told) in
            let more = first_more objects cells (Like w) in
            (σ2, choice2, λ u below. same_update σ (first_unused objects cells) v u below ∙ same2 u (omega (arith, below, more)), told2)

    -- a literal, where this is its first object if there is one
    literal_fits : (p : Payload) (go : Goes) → IsLiteralPayload p → GoesTo objects globals th env h fs go cells
        → (found : Option Obj) → first_of objects p ≡ found → FitsIf objects globals cells (by_first objects found cells go) (TellsLiteral p)
    literal_fits p go one goes None is = stuck objects globals cells (TellsLiteral p) (λ σ choice. cut_literal p σ) never
      where
        never : (σ : Standing) → IsChoice objects cells σ → (k : ℕ) (e : Own) (ts : List Own) → TellsLiteral p σ k (e ∷ ts) → ⊥
        never σ choice k e ts (inl (none, told)) = absurd (cc none)
        never σ choice k e ts (inr (v, has_v, told)) = none_has objects p v one is has_v
    literal_fits p go one goes (Some w) is =
        let number : Obj = next_number objects cells in
        let cells1 : Cells = cells ++ Like w ∷ [] in
        let longer : length cells1 ≡ length cells + 1 = length-append cells (Like w ∷ []) in
        let more = first_more objects cells (Like w) in
        literal_behind p w (go number cells1) one (first_has objects p w is)
        (goes number cells1 (omega (arith, longer)) (λ σ σ' same. same number (omega (arith, more))))

    -- a name that is such a local, if it is one
    local_fits : (line : ℕ) (x : Name) (go : Goes) → GoesTo objects globals th env h fs go cells
        → (found : Option (Option Obj)) → find_local x env ≡ found
        → FitsIf objects globals cells (by_local x found env h th fs cells go)
        (λ σ k ts. Named (scene objects globals) line (for_found σ found) x (for_handled σ h) k ts (UseNext objects globals th env h fs σ))
    local_fits line x go goes None is = asking_fits (Looks_up x) env h th fs cells tt se sh (looks_up_scoped _ x) st sf
    local_fits line x go goes (Some None) is = asking_fits (Requests (request.Unbound x)) env h th fs cells tt se sh (λ σ σ' same. refl) st sf
    local_fits line x go goes (Some (Some v)) is = goes v cells (omega arith) (found_scoped _ x v env is se)

  pub load_fits : (a : Atom) (line : ℕ) (env : Env) (h : Handled) (th : Then) (fs : Frames) (cells : Cells) (go : Goes)
      → EnvScoped (first_unused objects cells) env → HandledScoped (first_unused objects cells) h
      → ThenScoped (first_unused objects cells) th → FramesScoped (first_unused objects cells) fs → GoesTo objects globals th env h fs go cells
      → FitsIf objects globals cells (load objects a env h th fs cells go)
      (λ σ k ts. Loads (scene objects globals) line (for_env σ env) (for_handled σ h) a k ts (UseNext objects globals th env h fs σ))
  load_fits atom.None line env h th fs cells go se sh st sf goes =
      literal_fits env h th fs cells se sh st sf payload.None go none_literal goes (first_of objects payload.None) refl
  load_fits (atom.Bool b) line env h th fs cells go se sh st sf goes =
      literal_fits env h th fs cells se sh st sf (payload.Bool b) go (bool_literal b) goes (first_of objects (payload.Bool b)) refl
  load_fits (atom.Int n) line env h th fs cells go se sh st sf goes =
      literal_fits env h th fs cells se sh st sf (payload.Int n) go (int_literal n) goes (first_of objects (payload.Int n)) refl
  load_fits (atom.Str s) line env h th fs cells go se sh st sf goes =
      literal_fits env h th fs cells se sh st sf (payload.Str s) go (str_literal s) goes (first_of objects (payload.Str s)) refl
  load_fits (atom.Name x) line env h th fs cells go se sh st sf goes =
      told_same objects globals cells (by_local x (find_local x env) env h th fs cells go) (λ σ. NamedBy σ (for_found σ (find_local x env)))
      (λ σ. NamedBy σ (find_local x (for_env σ env))) (λ σ. ap (NamedBy σ) (sym (find_for σ x env)))
      (local_fits env h th fs cells se sh st sf line x go goes (find_local x env) refl)
    where
      NamedBy : Standing → Option (Option Obj) → ℕ → List Own → Type 0
      NamedBy σ found k ts = Named (scene objects globals) line found x (for_handled σ h) k ts (UseNext objects globals th env h fs σ)
