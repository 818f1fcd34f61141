-- An event names numbers of a place: which choices that leaves, and that there is one of each.
use Rattle.std.proofs.Common.{◌≡◌, ◌<◌, ◌≤◌, ◌-◌, ℕ, Bool, true, false, cond, List, [], ◌∷◌, Option, Some, None, refl, sym, subst, ap, ◌∙◌, eqb, nat_lt, slice_get, length, length-set, arith, eq-eqb, eqb-true, ltb-true, ltb-false, le-ltb, lt-ltb}
use Rattle.std.proofs.lemmas.Bool.{eqb-false}
use Rattle.std.proofs.lemmas.Option.{slice_get_within}
use Rattle.py_objects.specs.declared.refs.PyBaseExceptionRef.{PyBaseExceptionRef}
use Rattle.py_objects.specs.declared.payload.Payload.{Payload}
use Rattle.py_objects.specs.Objects.{Obj, HasPayload, as_exception, as_object}
use Rattle.py_objects.proofs.Slots.{slice_get-set_same, slice_get-set_other}
use Rattle.py_tree.specs.Outcome.{Handled}
use Rattle.py_places.specs.Cells.{Cell, Like, Is, Cells, same_literal, cell_at, with_cell}
use Rattle.py_places.specs.Stepping.{alike, meet_cell, meet, meet_in, meet_all, meet_if, meet_handled, given}
use Rattle.py_places.specs.Standing.{Standing, MayBe, first_unused, IsChoice, for_exception, for_handled, for_option, for_all}
use Rattle.py_places.proofs.Fits.{Scoped, HandledScoped}
use Rattle.py_places.proofs.Literals.{same_of, scoped_below}

-- objects of one number are one
pub object_of : (v w : Obj) → v.number ≡ w.number → v ≡ w
object_of v w e = ap (λ n. record { number = n }) e

module _ (objects : List Payload) where
  -- an object has no cell, and what isn't one has the cell at its place
  below_none : (cells : Cells) (v : Obj) → v.number < length objects → cell_at objects cells v ≡ None
  below_none cells v low = ap (λ b. cond b None (slice_get cells (v.number - length objects))) (lt-ltb v.number (length objects) low)

  past_at : (cells : Cells) (v : Obj) → length objects ≤ v.number → cell_at objects cells v ≡ slice_get cells (v.number - length objects)
  past_at cells v high = ap (λ b. cond b None (slice_get cells (v.number - length objects))) (le-ltb v.number (length objects) high)

  -- what has a cell is no object
  has_cell : (cells : Cells) (v : Obj) (x : Cell) → cell_at objects cells v ≡ Some x → length objects ≤ v.number
  has_cell cells v x is = by (nat_lt v.number (length objects)) refl
    where
      by : (b : Bool) → nat_lt v.number (length objects) ≡ b → length objects ≤ v.number
      by true low = absurd (cc (sym (below_none cells v (ltb-true v.number (length objects) low)) ∙ is))
      by false high = ltb-false v.number (length objects) high

  -- an object stands for itself
  pub stays : (cells : Cells) (v : Obj) → v.number < length objects → (σ : Standing) → IsChoice objects cells σ → σ v ≡ v
  stays cells v low σ choice = subst (λ x. MayBe objects x v (σ v)) (below_none cells v low) (choice v (omega (arith, low)))

  -- ---- a cell is fixed

  with_at : (cells : Cells) (v : Obj) (x y : Cell) → cell_at objects cells v ≡ Some y → cell_at objects (with_cell objects v x cells) v ≡ Some x
  with_at cells v x y is =
      let high : length objects ≤ v.number = has_cell cells v y is in
      let at : slice_get cells (v.number - length objects) ≡ Some y = sym (past_at cells v high) ∙ is in
      past_at (with_cell objects v x cells) v high
      ∙ slice_get-set_same cells (v.number - length objects) x (slice_get_within cells (v.number - length objects) y at)

  with_other : (cells : Cells) (v u : Obj) (x y : Cell) → cell_at objects cells v ≡ Some y → eqb u.number v.number ≡ false
      → cell_at objects (with_cell objects v x cells) u ≡ cell_at objects cells u
  with_other cells v u x y is apart = by (nat_lt u.number (length objects)) refl
    where
      by : (b : Bool) → nat_lt u.number (length objects) ≡ b → cell_at objects (with_cell objects v x cells) u ≡ cell_at objects cells u
      by true low =
          below_none (with_cell objects v x cells) u (ltb-true u.number (length objects) low)
          ∙ sym (below_none cells u (ltb-true u.number (length objects) low))
      by false far =
          let high : length objects ≤ u.number = ltb-false u.number (length objects) far in
          let here : length objects ≤ v.number = has_cell cells v y is in
          let other : v.number ≡ u.number → ⊥ = λ e. eqb-false u.number v.number apart (sym e) in
          past_at (with_cell objects v x cells) u high
          ∙ (slice_get-set_other cells (v.number - length objects) (u.number - length objects) x (λ e. other (omega (arith, e, high, here)))
          ∙ sym (past_at cells u high))

  with_length : (cells : Cells) (v : Obj) (x : Cell) → length (with_cell objects v x cells) ≡ length cells
  with_length cells v x = length-set cells (v.number - length objects) x

  with_below : (cells : Cells) (v u : Obj) (x : Cell) → u.number < first_unused objects (with_cell objects v x cells) → u.number < first_unused objects cells
  with_below cells v u x below = let same = with_length cells v x in omega (arith, below, same)

  fixed_at : (cells : Cells) (v w : Obj) (y : Cell) (σ : Standing) → cell_at objects cells v ≡ Some y → v.number < first_unused objects cells
      → IsChoice objects (with_cell objects v (Is w) cells) σ → σ v ≡ w
  fixed_at cells v w y σ is below choice =
      let same = with_length cells v (Is w) in
      subst (λ x. MayBe objects x v (σ v)) (with_at cells v (Is w) y is) (choice v (omega (arith, below, same)))

  -- where a literal is this object, any choice is one of those before
  fixed_earlier : (cells : Cells) (v w u : Obj) (p : Payload) (σ : Standing) → cell_at objects cells v ≡ Some (Like u) → v.number < first_unused objects cells
      → HasPayload objects u p → HasPayload objects w p → same_literal p p ≡ true → IsChoice objects (with_cell objects v (Is w) cells) σ
      → IsChoice objects cells σ
  fixed_earlier cells v w u p σ is below has_u has_w known choice y in_n = by (eqb y.number v.number) refl
    where
      by : (b : Bool) → eqb y.number v.number ≡ b → MayBe objects (cell_at objects cells y) y (σ y)
      by true same =
          let e : v ≡ y = sym (object_of y v (eqb-true y.number v.number same)) in
          let at : σ v ≡ w = fixed_at cells v w (Like u) σ is below choice in
          subst (λ z. MayBe objects (cell_at objects cells z) z (σ z)) e
          (subst (λ x. MayBe objects x v (σ v)) (sym is) (p, has_u, subst (λ z. HasPayload objects z p) (sym at) has_w, known))
      by false apart =
          let long = with_length cells v (Is w) in
          subst (λ x. MayBe objects x y (σ y)) (with_other cells v y (Is w) (Like u) is apart) (choice y (omega (arith, in_n, long)))

  -- and any that gives it this object is one behind
  fixed_forth : (cells : Cells) (v w : Obj) (x : Cell) (σ σ' : Standing) → cell_at objects cells v ≡ Some x → IsChoice objects cells σ → σ' v ≡ w
      → ((y : Obj) → eqb y.number v.number ≡ false → σ' y ≡ σ y) → IsChoice objects (with_cell objects v (Is w) cells) σ'
  fixed_forth cells v w x σ σ' is choice at others y in_n = by (eqb y.number v.number) refl
    where
      by : (b : Bool) → eqb y.number v.number ≡ b → MayBe objects (cell_at objects (with_cell objects v (Is w) cells) y) y (σ' y)
      by true same =
          let e : v ≡ y = sym (object_of y v (eqb-true y.number v.number same)) in
          subst (λ z. MayBe objects (cell_at objects (with_cell objects v (Is w) cells) z) z (σ' z)) e
          (subst (λ z. MayBe objects z v (σ' v)) (sym (with_at cells v (Is w) x is)) at)
      by false apart =
          subst (λ z. MayBe objects z y (σ' y)) (sym (with_other cells v y (Is w) x is apart))
          (subst (λ z. MayBe objects (cell_at objects cells y) y z) (sym (others y apart)) (choice y (with_below cells v y (Is w) in_n)))

  -- ---- what is met

  -- there is a choice
  abbrev pub Chance : Cells → Type 0
  Chance cells = (σ : Standing) × IsChoice objects cells σ

  -- what is met leaves cells by whose choices P holds, which are choices of those in front; where there is one in front there is one behind
  pub record Meets (cells : Cells) (cells1 : Cells) (P : Standing → Type 0) : Type 0 where
    pub earlier : (σ : Standing) → IsChoice objects cells1 σ → IsChoice objects cells σ
    pub met : (σ : Standing) → IsChoice objects cells1 σ → P σ
    pub chance : Chance cells → Chance cells1
    pub as_long : length cells1 ≡ length cells

  -- the same where it may be refused
  abbrev pub MeetsIf : Cells → Option Cells → (Standing → Type 0) → Type 0
  MeetsIf cells None P = Unit {0}
  MeetsIf cells (Some cells1) P = Meets cells cells1 P

  -- it is met, and a choice stays one
  abbrev pub IsMet : Cells → Standing → Option Cells → Type 0
  IsMet cells σ m = (cells1 : Cells) × (m ≡ Some cells1) × IsChoice objects cells1 σ × (length cells1 ≡ length cells)

  pub meets_none : (cells : Cells) (P : Standing → Type 0) → ((σ : Standing) → IsChoice objects cells σ → P σ) → Meets cells cells P
  meets_none cells P holds = record { earlier = λ σ c. c; met = holds; chance = λ c. c; as_long = refl }

  pub meets_as : (cells : Cells) (m : Option Cells) (P Q : Standing → Type 0) → ((σ : Standing) → P σ → Q σ) → MeetsIf cells m P → MeetsIf cells m Q
  meets_as cells None P Q to g = tt
  meets_as cells (Some cells1) P Q to g = record { earlier = g.earlier; met = λ σ c. to σ (g.met σ c); chance = g.chance; as_long = g.as_long }

  fixed_meets : (cells : Cells) (v w u : Obj) (p : Payload) → cell_at objects cells v ≡ Some (Like u) → v.number < first_unused objects cells
      → HasPayload objects u p → HasPayload objects w p → same_literal p p ≡ true → Meets cells (with_cell objects v (Is w) cells) (λ σ. σ v ≡ w)
  fixed_meets cells v w u p is below has_u has_w known =
      record {
        earlier = λ σ c. fixed_earlier cells v w u p σ is below has_u has_w known c;
        met = λ σ c. fixed_at cells v w (Like u) σ is below c;
        chance = λ c. (now c.0, fixed_forth cells v w (Like u) c.0 (now c.0) is c.1 (now_at c.0) (λ y apart. ap (λ b. cond b w (c.0 y)) apart));
        as_long = with_length cells v (Is w);
      }
    where
      now : Standing → Standing
      now σ y = cond (eqb y.number v.number) w (σ y)

      now_at : (σ : Standing) → now σ v ≡ w
      now_at σ = ap (λ b. cond b w (σ v)) (eq-eqb v.number v.number refl)

  -- payloads that are alike are one, a literal's
  alike_by : (o q : Option Payload) → alike objects o q ≡ true → (p : Payload) × (o ≡ Some p) × (q ≡ Some p) × (same_literal p p ≡ true)
  alike_by None q e = absurd (cc e)
  alike_by (Some p) None e = absurd (cc e)
  alike_by (Some p) (Some q) e =
      let same : q ≡ p = same_of q p e in (p, refl, ap Some same, subst (λ r. same_literal r p ≡ true) same e)

  cell_meets : (x : Option Cell) (cells : Cells) (v w : Obj) → cell_at objects cells v ≡ x → v.number < first_unused objects cells
      → MeetsIf cells (meet_cell objects x v w cells) (λ σ. σ v ≡ w)
  cell_meets None cells v w is below = by (eqb v.number w.number) refl
    where
      by : (b : Bool) → eqb v.number w.number ≡ b → MeetsIf cells (cond b (Some cells) None) (λ σ. σ v ≡ w)
      by true same =
          meets_none cells (λ σ. σ v ≡ w) (λ σ c. subst (λ x. MayBe objects x v (σ v)) is (c v below) ∙ object_of v w (eqb-true v.number w.number same))
      by false same = tt
  cell_meets (Some (Is u)) cells v w is below = by (eqb u.number w.number) refl
    where
      by : (b : Bool) → eqb u.number w.number ≡ b → MeetsIf cells (cond b (Some cells) None) (λ σ. σ v ≡ w)
      by true same =
          meets_none cells (λ σ. σ v ≡ w) (λ σ c. subst (λ x. MayBe objects x v (σ v)) is (c v below) ∙ object_of u w (eqb-true u.number w.number same))
      by false same = tt
  cell_meets (Some (Like u)) cells v w is below = by (alike objects (slice_get objects u.number) (slice_get objects w.number)) refl
    where
      by : (b : Bool) → alike objects (slice_get objects u.number) (slice_get objects w.number) ≡ b
          → MeetsIf cells (cond b (Some (with_cell objects v (Is w) cells)) None) (λ σ. σ v ≡ w)
      by true same =
          let (p, has_u, has_w, known) = alike_by (slice_get objects u.number) (slice_get objects w.number) same in
          fixed_meets cells v w u p is below has_u has_w known
      by false same = tt

  cell_met : (x : Option Cell) (cells : Cells) (v w : Obj) (σ : Standing) → cell_at objects cells v ≡ x → v.number < first_unused objects cells
      → IsChoice objects cells σ → σ v ≡ w → IsMet cells σ (meet_cell objects x v w cells)
  cell_met None cells v w σ is below choice at =
      let self : σ v ≡ v = subst (λ z. MayBe objects z v (σ v)) is (choice v below) in
      (cells, ap (λ b. cond b (Some cells) None) (eq-eqb v.number w.number (ap (λ (z : Obj). z.number) (sym self ∙ at))), choice, refl)
  cell_met (Some (Is u)) cells v w σ is below choice at =
      let self : σ v ≡ u = subst (λ z. MayBe objects z v (σ v)) is (choice v below) in
      (cells, ap (λ b. cond b (Some cells) None) (eq-eqb u.number w.number (ap (λ (z : Obj). z.number) (sym self ∙ at))), choice, refl)
  cell_met (Some (Like u)) cells v w σ is below choice at =
      let told : MayBe objects (Some (Like u)) v (σ v) = subst (λ z. MayBe objects z v (σ v)) is (choice v below) in
      let has_w : slice_get objects w.number ≡ Some told.0 = subst (λ (z : Obj). slice_get objects z.number ≡ Some told.0) at told.2 in
      let yes : alike objects (slice_get objects u.number) (slice_get objects w.number) ≡ true =
      ap (λ o. alike objects o (slice_get objects w.number)) told.1 ∙ (ap (alike objects (Some told.0)) has_w ∙ told.3) in (
        with_cell objects v (Is w) cells,
        ap (λ b. cond b (Some (with_cell objects v (Is w) cells)) None) yes,
        fixed_forth cells v w (Like u) σ σ is choice at (λ y apart. refl),
        with_length cells v (Is w),
      )

  -- a number is met just by what a choice lets it stand for
  pub meets : (cells : Cells) (v w : Obj) → v.number < first_unused objects cells → MeetsIf cells (meet objects v w cells) (λ σ. σ v ≡ w)
  meets cells v w below = cell_meets (cell_at objects cells v) cells v w refl below

  pub is_met : (cells : Cells) (v w : Obj) (σ : Standing) → v.number < first_unused objects cells → IsChoice objects cells σ → σ v ≡ w
      → IsMet cells σ (meet objects v w cells)
  is_met cells v w σ below choice at = cell_met (cell_at objects cells v) cells v w σ refl below choice at

  -- ---- several numbers

  -- one more number is met
  pub meet_more : (v w : Obj) (cells : Cells) (m : Option Cells) (P : Standing → Type 0) → v.number < first_unused objects cells → MeetsIf cells m P
      → MeetsIf cells (meet_in objects v w m) (λ σ. P σ × (σ v ≡ w))
  meet_more v w cells None P below g = tt
  meet_more v w cells (Some cells1) P below g =
      let long = g.as_long in
      by (meet objects v w cells1) (meets cells1 v w (omega (arith, below, long)))
    where
      by : (m : Option Cells) → MeetsIf cells1 m (λ σ. σ v ≡ w) → MeetsIf cells m (λ σ. P σ × (σ v ≡ w))
      by None k = tt
      by (Some cells2) k =
          record {
            earlier = λ σ c. g.earlier σ (k.earlier σ c);
            met = λ σ c. (g.met σ (k.earlier σ c), k.met σ c);
            chance = λ c. k.chance (g.chance c);
            as_long = k.as_long ∙ g.as_long;
          }

  pub met_more : (v w : Obj) (cells : Cells) (σ : Standing) (m : Option Cells) → v.number < first_unused objects cells → σ v ≡ w → IsMet cells σ m
      → IsMet cells σ (meet_in objects v w m)
  met_more v w cells σ m below at (cells1, is, choice, long) =
      let (cells2, then, choice2, long2) = is_met cells1 v w σ (omega (arith, below, long)) choice at in
      (cells2, ap (meet_in objects v w) is ∙ then, choice2, long2 ∙ long)

  pub given_more : (b : Bool) (cells : Cells) (m : Option Cells) (P : Standing → Type 0) → MeetsIf cells m P
      → MeetsIf cells (given objects b m) (λ σ. P σ × (b ≡ true))
  given_more true cells m P g = meets_as cells m P (λ σ. P σ × (true ≡ true)) (λ σ k. (k, refl)) g
  given_more false cells m P g = tt

  pub met_given : (b : Bool) (cells : Cells) (σ : Standing) (m : Option Cells) → b ≡ true → IsMet cells σ m → IsMet cells σ (given objects b m)
  met_given b cells σ m is i = subst (λ c. IsMet cells σ (given objects c m)) (sym is) i

  pub all_more : (vs ws : List Obj) (cells : Cells) (m : Option Cells) (P : Standing → Type 0)
      → Scoped (first_unused objects cells) (λ σ. for_all σ vs) → MeetsIf cells m P
      → MeetsIf cells (meet_all objects vs ws m) (λ σ. P σ × (for_all σ vs ≡ ws))
  all_more [] [] cells m P s g = meets_as cells m P (λ σ. P σ × ([] ≡ [])) (λ σ k. (k, refl)) g
  all_more (v ∷ vs) (w ∷ ws) cells m P s g =
      meets_as cells (meet_all objects vs ws (meet_in objects v w m)) (λ σ. (P σ × (σ v ≡ w)) × (for_all σ vs ≡ ws)) (λ σ. P σ × (σ v ∷ for_all σ vs ≡ w ∷ ws))
      (λ σ k. (k.0.0, ap (λ x. x ∷ for_all σ vs) k.0.1 ∙ ap (λ l. w ∷ l) k.1))
      (all_more vs ws cells (meet_in objects v w m) (λ σ. P σ × (σ v ≡ w)) (λ σ σ' same. cc (s σ σ' same))
      (meet_more v w cells m P (scoped_below _ v (λ σ σ' same. cc (s σ σ' same))) g))
  all_more [] (w ∷ ws) cells m P s g = tt
  all_more (v ∷ vs) [] cells m P s g = tt

  pub all_met : (vs : List Obj) (cells : Cells) (σ : Standing) (m : Option Cells) → Scoped (first_unused objects cells) (λ σ. for_all σ vs) → IsMet cells σ m
      → IsMet cells σ (meet_all objects vs (for_all σ vs) m)
  all_met [] cells σ m s i = i
  all_met (v ∷ vs) cells σ m s i =
      all_met vs cells σ (meet_in objects v (σ v) m) (λ σ σ' same. cc (s σ σ' same))
      (met_more v (σ v) cells σ m (scoped_below _ v (λ σ σ' same. cc (s σ σ' same))) refl i)

  pub if_more : (o q : Option Obj) (cells : Cells) (m : Option Cells) (P : Standing → Type 0)
      → Scoped (first_unused objects cells) (λ σ. for_option σ o) → MeetsIf cells m P
      → MeetsIf cells (meet_if objects o q m) (λ σ. P σ × (for_option σ o ≡ q))
  if_more None None cells m P s g = meets_as cells m P (λ σ. P σ × (None ≡ None)) (λ σ k. (k, refl)) g
  if_more (Some v) (Some w) cells m P s g =
      meets_as cells (meet_in objects v w m) (λ σ. P σ × (σ v ≡ w)) (λ σ. P σ × (Some (σ v) ≡ Some w)) (λ σ k. (k.0, ap Some k.1))
      (meet_more v w cells m P (scoped_below _ v (λ σ σ' same. cc (s σ σ' same))) g)
  if_more None (Some w) cells m P s g = tt
  if_more (Some v) None cells m P s g = tt

  pub if_met_too : (o : Option Obj) (cells : Cells) (σ : Standing) (m : Option Cells) → Scoped (first_unused objects cells) (λ σ. for_option σ o)
      → IsMet cells σ m
      → IsMet cells σ (meet_if objects o (for_option σ o) m)
  if_met_too None cells σ m s i = i
  if_met_too (Some v) cells σ m s i = met_more v (σ v) cells σ m (scoped_below _ v (λ σ σ' same. cc (s σ σ' same))) refl i

  -- an exception's number is below where what it stands for is the same by choices that agree there
  pub exception_below : (n : ℕ) (e : PyBaseExceptionRef) → Scoped n (λ σ. for_exception σ e) → (as_object e).number < n
  exception_below n e s = scoped_below n (as_object e) (λ σ σ' same. ap as_object (s σ σ' same))

  pub handled_more : (h own : Handled) (cells : Cells) (m : Option Cells) (P : Standing → Type 0) → HandledScoped (first_unused objects cells) h
      → MeetsIf cells m P
      → MeetsIf cells (meet_handled objects h own m) (λ σ. P σ × (for_handled σ h ≡ own))
  handled_more None None cells m P s g = meets_as cells m P (λ σ. P σ × (None ≡ None)) (λ σ k. (k, refl)) g
  handled_more (Some e) (Some f) cells m P s g =
      meets_as cells (meet_in objects (as_object e) (as_object f) m) (λ σ. P σ × (σ (as_object e) ≡ as_object f))
      (λ σ. P σ × (Some (for_exception σ e) ≡ Some f))
      (λ σ k. (k.0, ap (λ w. Some (as_exception w)) k.1))
      (meet_more (as_object e) (as_object f) cells m P (exception_below _ e (λ σ σ' same. cc (s σ σ' same))) g)
  handled_more None (Some f) cells m P s g = tt
  handled_more (Some e) None cells m P s g = tt

  pub handled_met : (h : Handled) (cells : Cells) (σ : Standing) (m : Option Cells) → HandledScoped (first_unused objects cells) h → IsMet cells σ m
      → IsMet cells σ (meet_handled objects h (for_handled σ h) m)
  handled_met None cells σ m s i = i
  handled_met (Some e) cells σ m s i =
      met_more (as_object e) (as_object (for_exception σ e)) cells σ m (exception_below _ e (λ σ σ' same. cc (s σ σ' same))) refl i
