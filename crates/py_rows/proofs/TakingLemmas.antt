-- Operands that are taken off the stack.
use Rattle.std.proofs.Common.{◌≡◌, ◌∙◌, ◌-◌, ◌<◌, ◌≤◌, ℕ, zero, suc, List, [], ◌∷◌, Bool, Option, None, Some, true, false, ◌&&◌, refl, sym, ap, subst, length, drop, length-drop, arith}
use Rattle.std.specs.Prelude.{nat_le, nat_lt, slice_get, replicate, ◌==◌}
use Rattle.std.proofs.Math.ListN.{length-replicate}
use Rattle.std.specs.List.{list_all}
use Rattle.std.proofs.lemmas.Bool.{and_parts, and_from, eqb-true, leb-true, ltb-true}
use Rattle.py_objects.specs.declared.payload.Payload.{Payload}
use Rattle.py_objects.specs.Objects.{Obj}
use Rattle.py_check.specs.declared.note.Kind.{Kind}
use Rattle.py_check.specs.declared.note.Kind.TheVariants as kind
use Rattle.py_check.specs.declared.note.BlockNote.{BlockNote}
use Rattle.py_check.specs.declared.annotated.Annotated.{Annotated}
use Rattle.py_check.specs.Notes.{level_of, pending_of}
use Rattle.py_check.specs.Leaving.{is_finally_handler, ends_with, ends_cleanup, walks}
use Rattle.py_rows.specs.Rows.{is_there, takes_off, reaches}
use Rattle.py_check.specs.Sheet.{Sheet, sheet_of}
use Rattle.py_check.specs.Landing.{goes_on, handler_lands, handlers_land, top_level}
use Rattle.py_code.specs.Bottom.{bottom}
use Rattle.py_code.specs.declared.operator.RaiseKind.{RaiseKind}
use Rattle.py_code.specs.declared.operator.RaiseKind.TheVariants as raise
use Rattle.py_code.specs.Operators.{raise_kinds}
use Rattle.py_check.specs.Taking.{takes, takes_top}
use Rattle.py_rows.specs.States.{State, Step, with_stack}
use Rattle.py_rows.specs.Fitting.{HaveKinds, Has}
use Rattle.py_rows.proofs.AskingLemmas.{got_there}
use Rattle.py_rows.proofs.KindLemmas.{kinds_counted, kinds_dropped}

pub bottom-cons : (l : ℕ) (k : Kind) (ks : List Kind) → l ≤ length ks → bottom l (k ∷ ks) ≡ bottom l ks
bottom-cons l k ks below = let same : suc (length ks) - l ≡ suc (length ks - l) = omega (arith, below) in ap (λ (n : ℕ). drop n (k ∷ ks)) same

pub bottom-drop : (n l : ℕ) (ks : List Kind) → l ≤ length (drop n ks) → bottom l (drop n ks) ≡ bottom l ks
bottom-drop zero l ks below = refl
bottom-drop (suc n) l [] below = refl
bottom-drop (suc n) l (k ∷ ks) below = bottom-drop n l ks below ∙ sym (bottom-cons l k ks (omega (arith, below, length-drop n ks)))

-- handlers speak of what lies under the top block alone
pub handlers_same : (sheet : Sheet) (ks ls : List Kind) (bs : List BlockNote) → bottom (top_level bs) ks ≡ bottom (top_level bs) ls → handlers_land sheet ks bs ≡ true → handlers_land sheet ls bs ≡ true
handlers_same sheet ks ls [] same lands = refl
handlers_same sheet ks ls (b ∷ bs) same lands = subst (λ (under : List Kind). (handler_lands sheet b under bs && handlers_land sheet under bs) ≡ true) same lands

pub reached : {A : Type 0} (n : ℕ) (xs : List A) → n ≤ length xs → reaches n xs ≡ true
reached zero xs below = refl
reached (suc n) [] below = absurd (omega (arith, below))
reached (suc n) (x ∷ xs) below = reached n xs (omega (arith, below))

-- what the rest of a rule says
pub takes_rest : (wanted kinds : List Kind) (blocks : List BlockNote) (rest : List Kind → Bool) → takes wanted kinds blocks rest ≡ true → (rest (drop (length wanted) kinds) ≡ true) × (top_level blocks ≤ length (drop (length wanted) kinds)) × (length wanted ≤ length kinds)
takes_rest [] kinds blocks rest may =
    let parts = and_parts (nat_le (top_level blocks) (length kinds)) (rest kinds) may in (parts.1, leb-true (top_level blocks) (length kinds) parts.0, omega arith)
takes_rest (w ∷ wanted) [] blocks rest may = cc
takes_rest (w ∷ wanted) (k ∷ kinds) blocks rest may =
    let more = takes_rest wanted kinds blocks rest (and_parts _ (takes wanted kinds blocks rest) may).1 in (more.0, more.1, omega (arith, more.2))

-- the same of so many operands of any kind
pub takes_any : (n : ℕ) (kinds : List Kind) (blocks : List BlockNote) (rest : List Kind → Bool) → takes (replicate n kind.Any) kinds blocks rest ≡ true → (rest (drop n kinds) ≡ true) × (top_level blocks ≤ length (drop n kinds)) × (n ≤ length kinds)
takes_any n kinds blocks rest may =
    subst (λ (m : ℕ). (rest (drop m kinds) ≡ true) × (top_level blocks ≤ length (drop m kinds)) × (m ≤ length kinds)) (length-replicate n kind.Any) (takes_rest (replicate n kind.Any) kinds blocks rest may)

-- a frame whose operands are taken
pub has_under : (objects : List Payload) (code : Annotated) (n : ℕ) (kinds : List Kind) (blocks : List BlockNote) (s : State) → top_level blocks ≤ length (drop n kinds)
    → Has objects code kinds blocks s → Has objects code (drop n kinds) blocks (with_stack (drop n s.stack) s)
has_under objects code n kinds blocks s level has = record {
  holds = kinds_dropped objects n s.stack kinds has.holds;
  blocks = has.blocks;
  handlers = handlers_same (sheet_of code) kinds (drop n kinds) blocks (sym (bottom-drop n (top_level blocks) kinds level)) has.handlers;
  room = omega (arith, has.room, length-drop n kinds);
  block_room = has.block_room;
  locals = has.locals;
}

-- the topmost value is taken off
pub off : (objects : List Payload) (code : Annotated) (kinds : List Kind) (blocks : List BlockNote) (rest : List Kind → Bool) (s : State) (P : Step → Type 0) (f : Obj → List Obj → Step)
    → takes (kind.Any ∷ []) kinds blocks rest ≡ true → Has objects code kinds blocks s
    → ((v : Obj) (vs : List Obj) → Has objects code (drop 1 kinds) blocks (with_stack vs s) → rest (drop 1 kinds) ≡ true → length kinds ≡ suc (length (drop 1 kinds)) → HaveKinds objects (v ∷ vs) kinds → P (f v vs))
    → P (takes_off s.stack f)
off objects code kinds blocks rest s P f may has then =
    let below = takes_rest (kind.Any ∷ []) kinds blocks rest may in
    by_stack s.stack kinds has.holds (omega (arith, kinds_counted objects s.stack kinds has.holds, below.2)) (has_under objects code 1 kinds blocks s below.1 has) below.0 then
  where
    by_stack : (stack : List Obj) (ks : List Kind) → HaveKinds objects stack ks → 1 ≤ length stack → Has objects code (drop 1 ks) blocks (with_stack (drop 1 stack) s) → rest (drop 1 ks) ≡ true
        → ((v : Obj) (vs : List Obj) → Has objects code (drop 1 ks) blocks (with_stack vs s) → rest (drop 1 ks) ≡ true → length ks ≡ suc (length (drop 1 ks)) → HaveKinds objects (v ∷ vs) ks → P (f v vs))
        → P (takes_off stack f)
    by_stack [] ks holds enough has keeps then = absurd (omega (arith, enough))
    by_stack (v ∷ vs) [] holds enough has keeps then = absurd holds
    by_stack (v ∷ vs) (k ∷ ks) holds enough has keeps then = then v vs has keeps refl holds

-- what the rules say of the end of an exit: its answer alone lies above the block, and the exit right under it
pub record EndsExit (code : Annotated) (to : ℕ) (kinds : List Kind) (c : BlockNote) (cs : List BlockNote) : Type 0 where
  pub depth : length kinds ≡ suc (level_of c)
  pub nested : top_level cs < level_of c
  pub top : top_level cs ≤ length (drop 2 kinds)
  pub handler : is_finally_handler c ≡ true
  pub goes : goes_on (sheet_of code) to (drop 2 kinds) cs ≡ true
  pub walk : list_all (λ p. walks (sheet_of code) p (drop 2 kinds) cs) (pending_of c) ≡ true

pub ends_exit : (code : Annotated) (to : ℕ) (kinds : List Kind) (c : BlockNote) (cs : List BlockNote) → ends_cleanup (sheet_of code) to kinds (c ∷ cs) ≡ true → EndsExit code to kinds c cs
ends_exit code to kinds c cs may =
    let ends = and_parts ((length kinds == suc (level_of c)) && nat_lt (top_level cs) (level_of c)) (ends_with (sheet_of code) to c (drop 2 kinds) cs) may in
    let deep = and_parts (length kinds == suc (level_of c)) (nat_lt (top_level cs) (level_of c)) ends.0 in
    let depth : length kinds ≡ suc (level_of c) = eqb-true (length kinds) (suc (level_of c)) deep.0 in
    let nested : top_level cs < level_of c = ltb-true (top_level cs) (level_of c) deep.1 in
    let parts = and_parts (is_finally_handler c && goes_on (sheet_of code) to (drop 2 kinds) cs) (list_all (λ p. walks (sheet_of code) p (drop 2 kinds) cs) (pending_of c)) ends.1 in
    let two = and_parts (is_finally_handler c) (goes_on (sheet_of code) to (drop 2 kinds) cs) parts.0 in
    record { depth = depth; nested = nested; top = omega (arith, depth, nested, length-drop 2 kinds); handler = two.0; goes = two.1; walk = parts.1 }

-- entries at these places
pub places_there : (objects : List Payload) (ps : List ℕ) (stack : List Obj) → list_all (λ p. nat_lt p (length stack)) ps ≡ true → list_all (λ p. is_there (slice_get stack p)) ps ≡ true
places_there objects [] stack below = refl
places_there objects (p ∷ ps) stack below =
    let parts = and_parts (nat_lt p (length stack)) (list_all (λ p. nat_lt p (length stack)) ps) below in
    and_from (is_there (slice_get stack p)) (list_all (λ p. is_there (slice_get stack p)) ps) (ap is_there (got_there stack p (ltb-true p (length stack) parts.0)).1) (places_there objects ps stack parts.1)

-- what a raise of a kind takes: the exception on top, under its cause if it has one, or nothing where what is handled is raised again
abbrev pub raises_by : Option RaiseKind → List Kind → List BlockNote → Bool
raises_by None kinds blocks = false
raises_by (Some raise.Reraise) kinds blocks = true
raises_by (Some raise.Raise) kinds blocks = takes_top kinds blocks (λ rest. true)
raises_by (Some raise.RaiseCause) kinds blocks = takes (kind.Any ∷ kind.Any ∷ []) kinds blocks (λ rest. true)

-- which is as many entries as its number
pub raised_as : (i : ℕ) (kinds : List Kind) (blocks : List BlockNote) → nat_lt i 3 ≡ true → takes (replicate i kind.Any) kinds blocks (λ rest. true) ≡ true → raises_by (slice_get raise_kinds i) kinds blocks ≡ true
raised_as zero kinds blocks few there = refl
raised_as (suc zero) kinds blocks few there = there
raised_as (suc (suc zero)) kinds blocks few there = there
raised_as (suc (suc (suc n))) kinds blocks few there = absurd (omega (arith, ltb-true (suc (suc (suc n))) 3 few))
