-- The activations that wait one inside of another, and the generators, as an event comes: they stay, and what they handle is in the slots.
use Rattle.std.proofs.Common.{◌≡◌, ◌≤◌, ◌<◌, ◌++◌, ℕ, suc, false, eqb, List, [], ◌∷◌, Some, refl, sym, ap, subst, ◌∙◌, length, ne_eqb, arith}
use Rattle.std.specs.Prelude.{Option, None, drop, slice_get}
use Rattle.std.specs.Option.{option_or}
use Rattle.std.proofs.lemmas.Option.{slice_get_within}
use Rattle.py_objects.specs.declared.refs.PyBaseExceptionRef.{PyBaseExceptionRef}
use Rattle.py_objects.specs.declared.payload.Payload.{Payload}
use Rattle.py_objects.specs.declared.payload.CoroKind.{CoroKind}
use Rattle.py_objects.specs.declared.event.Event.{Event}
use Rattle.py_objects.specs.declared.request.Request.{Request}
use Rattle.py_objects.specs.Objects.{AllBelow, Obj, as_object, number_if}
use Rattle.py_objects.specs.Growth.{Grows}
use Rattle.py_objects.specs.Own.{whose}
use Rattle.py_objects.proofs.GrowthLemmas.{payload_grown, slice_get_grown, below_more, length_grown}
use Rattle.py_check.specs.declared.note.Kind.TheVariants as kind
use Rattle.py_coro.specs.Modes.{Mode, Fresh, Suspended as Left, Running as Entered, Closed}
use Rattle.py_stack.specs.Slots.{Slots, topmost, top_of}
use Rattle.py_rows.specs.declared.expect.Expect.{Expect}
use Rattle.py_rows.specs.Answers.{wanted}
use Rattle.py_rows.specs.Fitting.{FitsAt, FitsBut}
use Rattle.py_rows.specs.Slot.{KeepsSlot}
use Rattle.py_rows.specs.Laws.{RaisedThere}
use Rattle.py_rows.proofs.GrowingLemmas.{kind_grown}
use Rattle.py_rows.proofs.HandledLemmas.{handled_outside, handled_there}
use Rattle.py_rows.proofs.RunLemmas.{runs_keep_slot}
use Rattle.py_run.specs.declared.drive.Question.{Question}
use Rattle.py_run.specs.Drives.{request_of}
use Rattle.py_run.specs.Run.{Act, start, state_after, handled_among}
use Rattle.py_vm.specs.declared.stage.Running.{Running}
use Rattle.py_vm.specs.declared.stage.Halted.{Halted}
use Rattle.py_vm.specs.declared.stage.Suspended.{Suspended}
use Rattle.py_vm.specs.declared.generators.KeptGenerator.{KeptGenerator}
use Rattle.py_vm.specs.declared.machinery.Core.{Core}
use Rattle.py_vm.specs.Generators.{kept_at}
use Rattle.py_vm.specs.Stands.{AreEach, HasEntered, IsApart, IsFresh, IsHalted, IsInside, IsKept, IsLeft, IsNoOnes, IsNot, IsOutside, IsQuestion, IsUnentered, KeepsIn, asking, caller_acts, first_slot, slots_in, stacked}
use Rattle.py_vm.proofs.PlaysLemmas.{begins_still, plays_still, setting_in, unheard_still}

-- ---- what changes of the generators while activations wait

-- each of these has a number of this kind
abbrev pub AreOthers : (ℕ → Type 0) → List Halted → Type 0
AreOthers Other [] = Unit {0}
AreOthers Other (h ∷ hs) = Other h.running.act × AreOthers Other hs

-- generators became these: those of such numbers that run stay, and what such a number doesn't wait for it still doesn't
pub record IsCarried (Other : ℕ → Type 0) (list list' : List KeptGenerator) : Type 0 where
  pub runs : (g : Obj) (x : KeptGenerator) → kept_at list g ≡ Some x → x.generator.mode ≡ Entered → Other x.act → kept_at list' g ≡ Some x
  pub outside : (a : ℕ) → Other a → IsOutside a list → IsOutside a list'

-- any number
abbrev pub Anyone : ℕ → Type 0
Anyone a = Unit {0}

-- none changed
pub carried_same : (list : List KeptGenerator) → IsCarried Anyone list list
carried_same list = record { runs = λ g x here runs other. here; outside = λ a other out. out }

pub all_others : (hs : List Halted) → AreOthers Anyone hs
all_others [] = tt
all_others (h ∷ hs) = (tt, all_others hs)

-- a question has entered an activation among generators that became others
pub entered_on : (Other : ℕ → Type 0) (list list' : List KeptGenerator) (r : Request) (k : Option CoroKind) (a : ℕ) → IsCarried Other list list' → Other a → HasEntered list r k a → HasEntered list' r k a
entered_on Other list list' r None a carried other entered = entered
entered_on Other list list' r (Some k) a carried other entered = record {
  object = entered.object;
  asks = entered.asks;
  kept = entered.kept;
  is_kept = carried.runs entered.object entered.kept entered.is_kept entered.runs (subst Other (sym entered.act) other);
  act = entered.act;
  runs = entered.runs;
  closing = entered.closing;
}

module _ (m : Core) where
  -- an activation waits in it, with this in the slot at first
  abbrev pub Waits : Halted → Option PyBaseExceptionRef → Type 0
  Waits h slot = IsHalted m.world.codes m.globals m.world.store.made m.events h slot

  -- each of these waits inside of the next
  abbrev pub AreHalted : List Halted → Type 0
  AreHalted [] = Unit {0}
  AreHalted (h ∷ hs) = Waits h (first_slot h.running.kind hs) × AreHalted hs

  -- they do where one was entered inside of them
  pub inside_halted : (list : List KeptGenerator) (d : Question) (k : Option CoroKind) (a : ℕ) (hs : List Halted) → IsInside m.world.codes m.globals m.world.store.made m.events list d k a hs → AreHalted hs
  inside_halted list d k a [] inside = tt
  inside_halted list d k a (h ∷ hs) inside = (inside.0, inside_halted list d h.running.kind h.running.act hs inside.3)

  module _ (objects : List Payload) (e : Event) (grows : Grows m.world.store.made objects) where
    -- what was asked is still there behind one more event, among more objects
    abbrev question_still : (place : ℕ) → IsQuestion m.world.store.made m.events place → IsQuestion objects (m.events ++ e ∷ []) place
    question_still place q = record {
      act = q.act;
      request = q.request;
      own = q.own;
      at = q.at;
      entry = slice_get_grown m.events (e ∷ []) place _ q.entry;
      known = q.known;
      below = below_more _ _ _ (length_grown m.world.store.made objects grows) q.below;
    }

    -- an activation that waits still does, as an event of another one comes
    abbrev pub halted_still : (h : Halted) (slot : Option PyBaseExceptionRef) → eqb h.running.act (whose e) ≡ false → Waits h slot → IsHalted m.world.codes m.globals objects (m.events ++ e ∷ []) h slot
    halted_still h slot other x =
        record { plays = plays_still m.world.codes m.globals m.world.store.made objects m.events e grows h.running slot other x.plays; question = question_still h.place x.question; waits = x.waits; handles = x.handles; told_at = x.told_at }

    module _ (Other : ℕ → Type 0) (list list' : List KeptGenerator) (carried : IsCarried Other list list') (d : Question) where
      -- so does one that was entered inside of those, as an event of none of them comes
      pub inside_on : (k : Option CoroKind) (a : ℕ) (hs : List Halted) → IsApart (whose e) hs → AreOthers Other hs → Other a → IsInside m.world.codes m.globals m.world.store.made m.events list d k a hs
          → IsInside m.world.codes m.globals objects (m.events ++ e ∷ []) list' d k a hs
      inside_on k a [] apart others other inside = entered_on Other list list' (request_of d) k a carried other inside
      inside_on k a (h ∷ hs) apart others other inside = (
        halted_still h (first_slot h.running.kind hs) apart.0 inside.0,
        entered_on Other list list' inside.0.question.request k a carried other inside.1,
        carried.outside h.running.act others.0 inside.2,
        inside_on h.running.kind h.running.act hs apart.1 others.1 others.0 inside.3,
      )

    -- ---- generators, as an event of none that waits comes

    -- one that hasn't begun
    pub fresh_still : (r : Running) → eqb r.act (whose e) ≡ false → IsFresh m.world.codes m.globals m.world.store.made m.events r → IsFresh m.world.codes m.globals objects (m.events ++ e ∷ []) r
    fresh_still r other x = record {
      plays = plays_still m.world.codes m.globals m.world.store.made objects m.events e grows r None other x.plays;
      begins = begins_still m.world.codes m.globals m.world.store.made objects m.events e grows r None other x.plays x.begins;
      unheard = unheard_still m.world.codes m.globals m.world.store.made objects m.events e grows r None other x.plays x.unheard;
    }

    -- one that was left by a yield
    pub left_still : (s : Suspended) → eqb s.running.act (whose e) ≡ false → IsLeft m.world.codes m.globals m.world.store.made m.events s → IsLeft m.world.codes m.globals objects (m.events ++ e ∷ []) s
    left_still s other x = record {
      plays = plays_still m.world.codes m.globals m.world.store.made objects m.events e grows s.running None other x.plays;
      waits = x.waits;
      slot = x.slot;
      kind = x.kind;
      kind_is = x.kind_is;
    }

    pub unentered_still : (s : Suspended) → eqb s.running.act (whose e) ≡ false → IsUnentered m.world.codes m.globals m.world.store.made m.events s → IsUnentered m.world.codes m.globals objects (m.events ++ e ∷ []) s
    unentered_still s other x = record { fresh = fresh_still s.running other x.fresh; slot = x.slot; kind = x.kind; kind_is = x.kind_is }

    -- what a generator keeps in its mode
    keeps_still : (mode : Mode) (x : KeptGenerator) → IsNot (whose e) x.act x.suspended → KeepsIn m.world.codes m.globals m.world.store.made m.events mode x → KeepsIn m.world.codes m.globals objects (m.events ++ e ∷ []) mode x
    keeps_still Fresh x out (s, is, act, unentered) =
        let other : eqb x.act (whose e) ≡ false = subst (IsNot (whose e) x.act) is out in
        (s, is, act, unentered_still s (subst (λ n. eqb n (whose e) ≡ false) (sym act) other) unentered)
    keeps_still Left x out (s, is, act, left) =
        let other : eqb x.act (whose e) ≡ false = subst (IsNot (whose e) x.act) is out in
        (s, is, act, left_still s (subst (λ n. eqb n (whose e) ≡ false) (sym act) other) left)
    keeps_still Entered x out none = none
    keeps_still Closed x out none = none

    -- each of them, where no fewer activations were made
    pub each_still : (made made' : ℕ) (list : List KeptGenerator) → made ≤ made' → IsOutside (whose e) list → AreEach m.world.codes m.globals m.world.store.made m.events made list
        → AreEach m.world.codes m.globals objects (m.events ++ e ∷ []) made' list
    each_still made made' [] more out each = tt
    each_still made made' (x ∷ xs) more out each =
        let k : IsKept m.world.codes m.globals m.world.store.made m.events made x = each.0 in (
          record {
            body = k.body;
            entry = payload_grown m.world.store.made objects _ _ grows k.entry;
            kind_is = k.kind_is;
            activation = keeps_still x.generator.mode x out.0 k.activation;
            low = omega (arith, more, k.low);
          },
          each_still made made' xs more out.1 each.1,
        )

  -- each asks what it asked
  pub acts_still : (e : Event) (hs : List Halted) → AreHalted hs → caller_acts m.events hs ≡ caller_acts (m.events ++ e ∷ []) hs
  acts_still e [] halted = refl
  acts_still e (h ∷ hs) halted =
      let entry = halted.0.question.entry in
      let same : slice_get m.events h.place ≡ slice_get (m.events ++ e ∷ []) h.place = entry ∙ sym (slice_get_grown m.events (e ∷ []) h.place _ entry) in
      ap (λ x. asking h.running.act x ∷ caller_acts m.events hs) same ∙ ap (λ l. asking h.running.act (slice_get (m.events ++ e ∷ []) h.place) ∷ l) (acts_still e hs halted.1)

  -- a number of which no activation was made is none of the callers'
  pub unmade_apart : (n : ℕ) (hs : List Halted) → ((i : ℕ) → i < length (state_after start m.events).made → n ≡ suc i → ⊥) → AreHalted hs → IsApart n hs
  unmade_apart n [] unmade halted = tt
  unmade_apart n (h ∷ hs) unmade halted =
      let p = halted.0.plays in
      (ne_eqb h.running.act n (λ is. unmade p.at (slice_get_within _ p.at _ p.is_made) (sym is ∙ p.numbered)), unmade_apart n hs unmade halted.1)

  -- nor is it any generator's
  pub unmade_no_ones : (n made : ℕ) (list : List KeptGenerator) → made < n → AreEach m.world.codes m.globals m.world.store.made m.events made list → IsNoOnes n list
  unmade_no_ones n made [] past each = tt
  unmade_no_ones n made (x ∷ xs) past each = (ne_eqb x.act n (λ is. omega (arith, is, past, each.0.low)), unmade_no_ones n made xs past each.1)

  -- the number 0 is none's that waits to be entered
  zero_waits : (mode : Mode) (x : KeptGenerator) (s : Option Suspended) → x.suspended ≡ s → KeepsIn m.world.codes m.globals m.world.store.made m.events mode x → IsNot 0 x.act s
  zero_waits mode x None is keeps = tt
  zero_waits Fresh x (Some s) is (t, has, act, unentered) = ne_eqb x.act 0 (λ none. let number = unentered.fresh.plays.numbered in absurd (omega (arith, none, act, number)))
  zero_waits Left x (Some s) is (t, has, act, left) = ne_eqb x.act 0 (λ none. let number = left.plays.numbered in absurd (omega (arith, none, act, number)))
  zero_waits Entered x (Some s) is none = absurd (let both : Some s ≡ None = sym is ∙ none in cc both)
  zero_waits Closed x (Some s) is none = absurd (let both : Some s ≡ None = sym is ∙ none in cc both)

  pub zero_outside : (made : ℕ) (list : List KeptGenerator) → AreEach m.world.codes m.globals m.world.store.made m.events made list → IsOutside 0 list
  zero_outside made [] each = tt
  zero_outside made (x ∷ xs) each = (zero_waits x.generator.mode x x.suspended refl each.0.activation, zero_outside made xs each.1)

  -- ---- slots

  -- all of these hold what is allowed
  abbrev pub AllHold : (Option PyBaseExceptionRef → Type 0) → Slots → Type 0
  AllHold P [] = Unit {0}
  AllHold P (x ∷ xs) = P x × AllHold P xs

  all_but_first : (P : Option PyBaseExceptionRef → Type 0) (xs : Slots) → AllHold P xs → AllHold P (drop 1 xs)
  all_but_first P [] all = tt
  all_but_first P (x ∷ xs) all = all.1

  the_first : (P : Option PyBaseExceptionRef → Type 0) (xs : Slots) → P None → AllHold P xs → P (top_of xs)
  the_first P [] none all = none
  the_first P (x ∷ xs) none all = all.0

  pub topmost_holds : (P : Option PyBaseExceptionRef → Type 0) (xs : Slots) → P None → AllHold P xs → P (topmost xs)
  topmost_holds P [] none all = none
  topmost_holds P (None ∷ xs) none all = topmost_holds P xs none all.1
  topmost_holds P (Some x ∷ xs) none all = all.0

  stacked_hold : (P : Option PyBaseExceptionRef → Type 0) (k : Option CoroKind) (slot : Option PyBaseExceptionRef) (outer : Slots) → P slot → AllHold P outer → AllHold P (stacked k slot outer)
  stacked_hold P None slot outer first all = (first, all_but_first P outer all)
  stacked_hold P (Some k) slot outer first all = (first, all)

  pub first_holds : (P : Option PyBaseExceptionRef → Type 0) (k : Option CoroKind) (hs : List Halted) → P None → AllHold P (slots_in hs) → P (first_slot k hs)
  first_holds P None hs none all = the_first P (slots_in hs) none all
  first_holds P (Some k) hs none all = none

  -- where it holds of what each has in its slot, if it does of what that was at first
  pub slots_hold : (P : Option PyBaseExceptionRef → Type 0) → P None → ((h : Halted) (slot : Option PyBaseExceptionRef) → Waits h slot → P slot → P h.running.frame.state.slot) → (hs : List Halted) → AreHalted hs → AllHold P (slots_in hs)
  slots_hold P none each [] halted = (none, tt)
  slots_hold P none each (h ∷ hs) halted =
      let outer = slots_hold P none each hs halted.1 in
      stacked_hold P h.running.kind h.running.frame.state.slot (slots_in hs) (each h (first_slot h.running.kind hs) halted.0 (first_holds P h.running.kind hs none outer)) outer

  -- the frame of one that waits keeps what was in its slot at first
  halted_keeps : (h : Halted) (slot : Option PyBaseExceptionRef) → Waits h slot → KeepsSlot slot h.running.frame.state
  halted_keeps h slot x =
      let p = x.plays in
      runs_keep_slot m.world.store.made (setting_in m.world.codes m.globals p.code h.running.frame.closure) slot p.activation.args h.running.frame.state p.told p.run

  -- what is in the slot is an object, and an exception
  pub slots_low : (hs : List Halted) → AreHalted hs → AllHold (λ x. AllBelow (length m.world.store.made) (number_if x)) (slots_in hs)
  slots_low hs halted = slots_hold (λ x. AllBelow (length m.world.store.made) (number_if x)) tt (λ h slot x low. x.plays.running.below.in_slot) hs halted

  halted_there : (h : Halted) (slot : Option PyBaseExceptionRef) → Waits h slot → RaisedThere m.world.store.made slot → RaisedThere m.world.store.made h.running.frame.state.slot
  halted_there h slot x there =
      let state = h.running.frame.state in
      let keeps = halted_keeps h slot x in
      let fits : FitsBut m.world.store.made x.plays.code (wanted x.question.request) state = subst (λ (w : Expect). FitsAt m.world.store.made x.plays.code w state) x.waits x.plays.running.fits in
      subst (RaisedThere m.world.store.made) (sym keeps.slot) (handled_there m.world.store.made slot state.blocks fits.left.blocks fits.has.blocks there)

  pub slots_there : (hs : List Halted) → AreHalted hs → AllHold (RaisedThere m.world.store.made) (slots_in hs)
  slots_there hs halted = slots_hold (RaisedThere m.world.store.made) tt halted_there hs halted

  -- what is in the slots of one that waits is what it handles, or else what those around it do
  or_none : (own : Option PyBaseExceptionRef) → option_or own None ≡ own
  or_none None = refl
  or_none (Some e) = refl

  or_assoc : (a b c : Option PyBaseExceptionRef) → option_or (option_or a b) c ≡ option_or a (option_or b c)
  or_assoc None b c = refl
  or_assoc (Some e) b c = refl

  pub slots_shape : (hs : List Halted) → slots_in hs ≡ top_of (slots_in hs) ∷ drop 1 (slots_in hs)
  slots_shape [] = refl
  slots_shape (h ∷ hs) = shape h.running.kind
    where
      shape : (k : Option CoroKind) → stacked k h.running.frame.state.slot (slots_in hs) ≡ top_of (stacked k h.running.frame.state.slot (slots_in hs)) ∷ drop 1 (stacked k h.running.frame.state.slot (slots_in hs))
      shape None = refl
      shape (Some kind) = refl

  stacked_handles : (k : Option CoroKind) (hs : List Halted) (own slot : Option PyBaseExceptionRef) → slot ≡ option_or own (first_slot k hs) → topmost (stacked k slot (slots_in hs)) ≡ option_or own (topmost (slots_in hs))
  stacked_handles None hs own slot is =
      ap (λ x. option_or x (topmost (drop 1 (slots_in hs)))) is ∙ or_assoc own (top_of (slots_in hs)) (topmost (drop 1 (slots_in hs))) ∙ ap (λ l. option_or own (topmost l)) (sym (slots_shape hs))
  stacked_handles (Some kind) hs own slot is = ap (λ x. option_or x (topmost (slots_in hs))) (is ∙ or_none own)

  pub halted_handles : (h : Halted) (hs : List Halted) (acts : List Act) → Waits h (first_slot h.running.kind hs) → handled_among acts ≡ topmost (slots_in hs)
      → handled_among (asking h.running.act (slice_get m.events h.place) ∷ acts) ≡ topmost (slots_in (h ∷ hs))
  halted_handles h hs acts x around =
      let slot : Option PyBaseExceptionRef = first_slot h.running.kind hs in
      let keeps = halted_keeps h slot x in
      let held : h.running.frame.state.slot ≡ option_or x.question.own slot =
      keeps.slot ∙ handled_outside slot h.running.frame.state.blocks ∙ ap (λ o. option_or o slot) (sym x.handles) in
      ap (λ e. option_or (asking h.running.act e).own (handled_among acts)) x.question.entry ∙ ap (option_or x.question.own) around ∙ sym (stacked_handles h.running.kind hs x.question.own h.running.frame.state.slot held)

  pub callers_handle : (hs : List Halted) → AreHalted hs → handled_among (caller_acts m.events hs) ≡ topmost (slots_in hs)
  callers_handle [] halted = refl
  callers_handle (h ∷ hs) halted = halted_handles h hs (caller_acts m.events hs) halted.0 (callers_handle hs halted.1)

-- a raise is there still among more objects
pub raised_grown : (objects objects' : List Payload) (slot : Option PyBaseExceptionRef) → Grows objects objects' → RaisedThere objects slot → RaisedThere objects' slot
raised_grown objects objects' None grows there = tt
raised_grown objects objects' (Some e) grows there = kind_grown objects objects' (as_object e) kind.Exc grows there
