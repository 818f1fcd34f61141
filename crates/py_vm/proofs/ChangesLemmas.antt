-- What becomes of generators as they are closed, entered, left and made: those that run stay, and each is as it is kept.
use Rattle.std.proofs.Common.{◌≡◌, ◌++◌, ℕ, List, [], ◌∷◌, Bool, true, false, eqb, eqb-true, Some, inl, inr, refl, sym, ap, subst, ◌∙◌}
use Rattle.std.specs.Prelude.{Option, None, slice_get, if◌then◌else◌}
use Rattle.std.proofs.lemmas.Bool.Decides.{eqb_tells}
use Rattle.py_objects.specs.declared.payload.CoroBody.{CoroBody}
use Rattle.py_objects.specs.declared.payload.Payload.{Payload}
use Rattle.py_objects.specs.declared.payload.Payload.TheVariants as payload
use Rattle.py_objects.specs.declared.event.Event.{Event}
use Rattle.py_objects.specs.Objects.{HasPayload, Obj}
use Rattle.py_coro.specs.declared.coro.CoroEnd.{CoroEnd}
use Rattle.py_coro.specs.declared.coro.CoroEnd.TheVariants.{Yield, Return, Raise}
use Rattle.py_coro.specs.Modes.{Mode, Fresh, Suspended as Left, Running as Entered, Closed}
use Rattle.py_coro.specs.Leaving.{mode_behind}
use Rattle.py_vm.specs.declared.generators.KeptGenerator.{KeptGenerator}
use Rattle.py_vm.specs.declared.stage.Suspended.{Suspended}
use Rattle.py_vm.specs.declared.machinery.Core.{Core}
use Rattle.py_vm.specs.Codes.{Checked}
use Rattle.py_vm.specs.Generators.{changed_at, entered_at, kept_at, kept_in, settled, shut, without_activation}
use Rattle.py_vm.specs.Stands.{AreEach, AreSingle, IsKept, IsLeft, IsNoOnes, IsNot, IsOutside, KeepsIn}
use Rattle.py_objects.specs.Edits.{Kept}
use Rattle.py_vm.proofs.KeptLemmas.{kept_elsewhere, kept_object, other_way, outside_changed, single_changed}
use Rattle.py_vm.proofs.ChainLemmas.{Anyone, IsCarried, carried_same}

-- the one that is found is as each is kept
pub each_at : (codes : Checked) (globals : Obj) (objects : List Payload) (events : List Event) (made : ℕ) (list : List KeptGenerator) (g : Obj) (x : KeptGenerator) → kept_at list g ≡ Some x
    → AreEach codes globals objects events made list → IsKept codes globals objects events made x
each_at codes globals objects events made [] g x here each = absurd (cc here)
each_at codes globals objects events made (y ∷ ys) g x here each = found (eqb y.object.number g.number) here (λ next. each_at codes globals objects events made ys g x next each.1)
  where
    found : (b : Bool) → (if b then Some y else kept_at ys g) ≡ Some x → (kept_at ys g ≡ Some x → IsKept codes globals objects events made x) → IsKept codes globals objects events made x
    found true here later = let same : y ≡ x = cc here in subst (IsKept codes globals objects events made) same each.0
    found false here later = later here

-- and is of the kind of its object
pub kind_at : (codes : Checked) (globals : Obj) (objects : List Payload) (events : List Event) (made : ℕ) (list : List KeptGenerator) (g : Obj) (x : KeptGenerator) (body : CoroBody)
    → kept_at list g ≡ Some x → AreEach codes globals objects events made list → HasPayload objects g (payload.Generator body) → x.generator.kind ≡ body.kind
kind_at codes globals objects events made list g x body here each has =
    let k : IsKept codes globals objects events made x = each_at codes globals objects events made list g x here each in
    let both : Some (payload.Generator k.body) ≡ Some (payload.Generator body) = sym k.entry ∙ (ap (slice_get objects) (eqb-true x.object.number g.number (kept_object list g x here)) ∙ has) in
    let bodies : k.body ≡ body = cc both in
    k.kind_is ∙ ap (λ (b : CoroBody). b.kind) bodies

-- each is where one changes that is kept by then
pub each_changed : (codes : Checked) (globals : Obj) (objects : List Payload) (events : List Event) (made : ℕ) (g : Obj) (f : KeptGenerator → KeptGenerator) (list : List KeptGenerator)
    → ((x : KeptGenerator) → kept_at list g ≡ Some x → IsKept codes globals objects events made x → IsKept codes globals objects events made (f x))
    → AreEach codes globals objects events made list → AreEach codes globals objects events made (changed_at g f list)
each_changed codes globals objects events made g f [] keeps each = tt
each_changed codes globals objects events made g f (y ∷ ys) keeps each = found (eqb y.object.number g.number) keeps (λ next. each_changed codes globals objects events made g f ys next each.1)
  where
    found : (b : Bool) → ((x : KeptGenerator) → (if b then Some y else kept_at ys g) ≡ Some x → IsKept codes globals objects events made x → IsKept codes globals objects events made (f x))
        → (((x : KeptGenerator) → kept_at ys g ≡ Some x → IsKept codes globals objects events made x → IsKept codes globals objects events made (f x)) → AreEach codes globals objects events made (changed_at g f ys))
        → AreEach codes globals objects events made (if b then f y ∷ ys else y ∷ changed_at g f ys)
    found true keeps later = (keeps y refl each.0, each.1)
    found false keeps later = (each.0, later keeps)

-- objects of one number are one
kept_number : (list : List KeptGenerator) (g h : Obj) → h.number ≡ g.number → kept_at list h ≡ kept_at list g
kept_number [] g h same = refl
kept_number (y ∷ ys) g h same = ap (λ n. if eqb y.object.number n then Some y else kept_at ys h) same ∙ ap (λ o. if eqb y.object.number g.number then Some y else o) (kept_number ys g h same)

-- what runs stays found where another one changes
runs_changed : (g : Obj) (f : KeptGenerator → KeptGenerator) → ((x : KeptGenerator) → (f x).object ≡ x.object) → (list : List KeptGenerator) (h : Obj) (y : KeptGenerator) → kept_at list h ≡ Some y
    → (kept_at list g ≡ Some y → ⊥) → kept_at (changed_at g f list) h ≡ Some y
runs_changed g f keeps list h y here other = elim (eqb_tells h.number g.number) [
  | inl equal ↦ absurd (other (sym (kept_number list g h equal.1) ∙ here))
  | inr differs ↦ kept_elsewhere g f keeps list h differs.0 ∙ here
]

-- what becomes of the generators of a machine behind an event, where activations of such numbers wait
pub record IsChange (m : Core) (Other : ℕ → Type 0) (store : Kept) (e : Event) (list : List KeptGenerator) : Type 0 where
  pub carried : IsCarried Other m.world.generators list
  pub each : AreEach m.world.codes m.globals store.made (m.events ++ e ∷ []) m.made m.world.generators → AreEach m.world.codes m.globals store.made (m.events ++ e ∷ []) m.made list
  pub single : AreSingle m.world.generators → AreSingle list

-- nothing
pub no_change : (m : Core) (store : Kept) (e : Event) → IsChange m Anyone store e m.world.generators
no_change m store e = record { carried = carried_same m.world.generators; each = λ each. each; single = λ single. single }

-- what doesn't run can be closed
abbrev pub IsStill : Mode → Type 0
IsStill Fresh = Unit {0}
IsStill Left = Unit {0}
IsStill Entered = ⊥
IsStill Closed = Unit {0}

still_not_runs : (mode : Mode) → IsStill mode → mode ≡ Entered → ⊥
still_not_runs Fresh still runs = absurd (cc runs)
still_not_runs Left still runs = absurd (cc runs)
still_not_runs Entered still runs = still
still_not_runs Closed still runs = absurd (cc runs)

-- what runs isn't what doesn't
other_one : (list : List KeptGenerator) (g : Obj) (x y : KeptGenerator) → kept_at list g ≡ Some x → IsStill x.generator.mode → y.generator.mode ≡ Entered → kept_at list g ≡ Some y → ⊥
other_one list g x y here still runs there =
    let both : Some x ≡ Some y = sym here ∙ there in
    let same : x ≡ y = cc both in
    still_not_runs x.generator.mode still (ap (λ (z : KeptGenerator). z.generator.mode) same ∙ runs)

pub shut_change : (m : Core) (store : Kept) (e : Event) (g : Obj) (x : KeptGenerator) → kept_at m.world.generators g ≡ Some x → IsStill x.generator.mode → IsChange m Anyone store e (changed_at g shut m.world.generators)
shut_change m store e g x here still = record {
  carried = record {
    runs = λ h y there runs other. runs_changed g shut (λ z. refl) m.world.generators h y there (other_one m.world.generators g x y here still runs);
    outside = λ a other out. outside_changed g shut (λ z. refl) a m.world.generators (λ z is. tt) out;
  };
  each = λ each. each_changed m.world.codes m.globals store.made (m.events ++ e ∷ []) m.made g shut m.world.generators (λ z is k. record { body = k.body; entry = k.entry; kind_is = k.kind_is; activation = refl; low = k.low }) each;
  single = λ single. single_changed g shut (λ z. refl) (λ z. refl) m.world.generators single;
}

-- numbers but this one
abbrev pub But : ℕ → ℕ → Type 0
But n a = eqb a n ≡ false

-- a generator that runs is left
module _ (m : Core) (store : Kept) (e : Event) (g : Obj) (s : Suspended) (how : CoroEnd) (x : KeptGenerator) (here : kept_at m.world.generators g ≡ Some x) (act : x.act ≡ s.running.act) where
  -- what is kept then waits for what isn't this one
  kept_other : (a : ℕ) (mode : Mode) → But x.act a → IsNot a x.act (kept_in mode s)
  kept_other a Fresh other = tt
  kept_other a Left other = other_way a x.act other
  kept_other a Entered other = tt
  kept_other a Closed other = tt

  kept_by : (codes : Checked) (globals : Obj) (objects : List Payload) (events : List Event) (mode : Mode) → (mode ≡ Entered → ⊥) → (mode ≡ Fresh → ⊥) → (mode ≡ Left → IsLeft codes globals objects events s)
      → KeepsIn codes globals objects events mode (record x { generator = record x.generator { mode = mode; closing = false }; suspended = kept_in mode s })
  kept_by codes globals objects events Fresh running fresh left = absurd (fresh refl)
  kept_by codes globals objects events Left running fresh left = (s, refl, sym act, left refl)
  kept_by codes globals objects events Entered running fresh left = absurd (running refl)
  kept_by codes globals objects events Closed running fresh left = refl

  not_entered : (closing : Bool) (how : CoroEnd) → (mode_behind closing how ≡ Entered → ⊥) × (mode_behind closing how ≡ Fresh → ⊥)
  not_entered true how = (λ is. absurd (cc is), λ is. absurd (cc is))
  not_entered false (Yield v) = (λ is. absurd (cc is), λ is. absurd (cc is))
  not_entered false (Return v) = (λ is. absurd (cc is), λ is. absurd (cc is))
  not_entered false (Raise v) = (λ is. absurd (cc is), λ is. absurd (cc is))

  pub settled_change : (mode_behind x.generator.closing how ≡ Left → IsLeft m.world.codes m.globals store.made (m.events ++ e ∷ []) s) → IsChange m (But x.act) store e (changed_at g (settled s how) m.world.generators)
  settled_change left = record {
    carried = record {
      runs = λ h y there runs other. runs_changed g (settled s how) (λ z. refl) m.world.generators h y there (λ mine. is_other y other mine);
      outside = λ a other out. outside_changed g (settled s how) (λ z. refl) a m.world.generators (λ z is. subst (λ (w : KeptGenerator). IsNot a w.act (kept_in (mode_behind w.generator.closing how) s)) (one z is) (kept_other a (mode_behind x.generator.closing how) other)) out;
    };
    each = λ each. each_changed m.world.codes m.globals store.made (m.events ++ e ∷ []) m.made g (settled s how) m.world.generators
        (λ z is k. subst (λ (w : KeptGenerator). IsKept m.world.codes m.globals store.made (m.events ++ e ∷ []) m.made (settled s how w)) (one z is) (kept_so (subst (IsKept m.world.codes m.globals store.made (m.events ++ e ∷ []) m.made) (sym (one z is)) k))) each;
    single = λ single. single_changed g (settled s how) (λ z. refl) (λ z. refl) m.world.generators single;
  }
    where
      one : (z : KeptGenerator) → kept_at m.world.generators g ≡ Some z → x ≡ z
      one z is = let both : Some x ≡ Some z = sym here ∙ is in cc both

      is_other : (y : KeptGenerator) → But x.act y.act → kept_at m.world.generators g ≡ Some y → ⊥
      is_other y other mine = elim (eqb_tells y.act x.act) [
        | inl equal ↦ absurd (let clash : true ≡ false = sym equal.0 ∙ other in cc clash)
        | inr differs ↦ differs.1 (ap (λ (w : KeptGenerator). w.act) (sym (one y mine)))
      ]

      kept_so : IsKept m.world.codes m.globals store.made (m.events ++ e ∷ []) m.made x → IsKept m.world.codes m.globals store.made (m.events ++ e ∷ []) m.made (settled s how x)
      kept_so k = record {
        body = k.body;
        entry = k.entry;
        kind_is = k.kind_is;
        activation = kept_by m.world.codes m.globals store.made (m.events ++ e ∷ []) (mode_behind x.generator.closing how) (not_entered x.generator.closing how).0 (not_entered x.generator.closing how).1 left;
        low = k.low;
      }

-- one more generator
kept_more : (list : List KeptGenerator) (x : KeptGenerator) (g : Obj) (y : KeptGenerator) → kept_at list g ≡ Some y → kept_at (list ++ x ∷ []) g ≡ Some y
kept_more [] x g y here = absurd (cc here)
kept_more (z ∷ zs) x g y here = found (eqb z.object.number g.number) here (kept_more zs x g y)
  where
    found : (b : Bool) → (if b then Some z else kept_at zs g) ≡ Some y → (kept_at zs g ≡ Some y → kept_at (zs ++ x ∷ []) g ≡ Some y) → (if b then Some z else kept_at (zs ++ x ∷ []) g) ≡ Some y
    found true here later = here
    found false here later = later here

outside_more : (a : ℕ) (list : List KeptGenerator) (x : KeptGenerator) → IsNot a x.act x.suspended → IsOutside a list → IsOutside a (list ++ x ∷ [])
outside_more a [] x other out = (other, tt)
outside_more a (z ∷ zs) x other out = (out.0, outside_more a zs x other out.1)

no_ones_more : (a : ℕ) (list : List KeptGenerator) (x : KeptGenerator) → eqb x.act a ≡ false → IsNoOnes a list → IsNoOnes a (list ++ x ∷ [])
no_ones_more a [] x other none = (other, tt)
no_ones_more a (z ∷ zs) x other none = (none.0, no_ones_more a zs x other none.1)

single_more : (list : List KeptGenerator) (x : KeptGenerator) → IsNoOnes x.act list → AreSingle list → AreSingle (list ++ x ∷ [])
single_more [] x none single = (tt, tt)
single_more (z ∷ zs) x none single = (no_ones_more z.act zs x (other_way z.act x.act none.0) single.0, single_more zs x none.1 single.1)

each_more : (codes : Checked) (globals : Obj) (objects : List Payload) (events : List Event) (made : ℕ) (list : List KeptGenerator) (x : KeptGenerator) → IsKept codes globals objects events made x
    → AreEach codes globals objects events made list → AreEach codes globals objects events made (list ++ x ∷ [])
each_more codes globals objects events made [] x k each = (k, tt)
each_more codes globals objects events made (z ∷ zs) x k each = (each.0, each_more codes globals objects events made zs x k each.1)

pub created_change : (m : Core) (store : Kept) (e : Event) (x : KeptGenerator) → IsNoOnes x.act m.world.generators → IsKept m.world.codes m.globals store.made (m.events ++ e ∷ []) m.made x
    → IsChange m (But x.act) store e (m.world.generators ++ x ∷ [])
created_change m store e x none kept = record {
  carried = record {
    runs = λ h y there runs other. kept_more m.world.generators x h y there;
    outside = λ a other out. outside_more a m.world.generators x (waits a other x.suspended) out;
  };
  each = λ each. each_more m.world.codes m.globals store.made (m.events ++ e ∷ []) m.made m.world.generators x kept each;
  single = λ single. single_more m.world.generators x none single;
}
  where
    waits : (a : ℕ) → But x.act a → (s : Option Suspended) → IsNot a x.act s
    waits a other None = tt
    waits a other (Some s) = other_way a x.act other

-- a generator that doesn't run is entered, and its activation taken
pub entered_carried : (closing : Bool) (list : List KeptGenerator) (g : Obj) (x : KeptGenerator) → kept_at list g ≡ Some x → IsStill x.generator.mode
    → IsCarried Anyone list (changed_at g (λ z. without_activation (entered_at closing z)) list)
entered_carried closing list g x here still = record {
  runs = λ h y there runs other. runs_changed g (λ z. without_activation (entered_at closing z)) (λ z. refl) list h y there (other_one list g x y here still runs);
  outside = λ a other out. outside_changed g (λ z. without_activation (entered_at closing z)) (λ z. refl) a list (λ z is. tt) out;
}

pub entered_each : (closing : Bool) (codes : Checked) (globals : Obj) (objects : List Payload) (events : List Event) (made : ℕ) (g : Obj) (list : List KeptGenerator) → AreEach codes globals objects events made list
    → AreEach codes globals objects events made (changed_at g (λ z. without_activation (entered_at closing z)) list)
entered_each closing codes globals objects events made g list each =
    each_changed codes globals objects events made g (λ z. without_activation (entered_at closing z)) list (λ z is k. record { body = k.body; entry = k.entry; kind_is = k.kind_is; activation = refl; low = k.low }) each
