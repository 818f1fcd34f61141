-- What is emitted piece by piece.
use Rattle.std.proofs.Common.{◌≡◌, ◌<◌, ◌≤◌, ◌+◌, ◌%◌, ◌^◌, ℕ, suc, List, ◌++◌, true, false, Some, refl, sym, ap, ◌∙◌, length, drop, replicate, max, arith, length-append, append_assoc, ⊎_elim}
use Rattle.std.specs.Prelude.{slice_get}
use Rattle.std.specs.List.{list_all}
use Rattle.std.proofs.Math.ListN.{length-replicate}
use Rattle.std.proofs.Math.Nat.{mod-eq_of_lt}
use Rattle.py_code.specs.declared.instruction.Instruction.{Instruction}
use Rattle.py_code.specs.declared.literal.Literal.{Literal}
use Rattle.py_code.specs.Units.{decoded_from, is_prefix}
use Rattle.py_check.specs.declared.note.Kind.{Kind}
use Rattle.py_check.specs.declared.note.Kind.TheVariants.{Any}
use Rattle.py_check.specs.declared.note.BlockNote.{BlockNote}
use Rattle.py_check.specs.declared.note.Note.{Note}
use Rattle.py_check.specs.declared.note.Note.TheVariants.{Dead, Live}
use Rattle.py_check.specs.Constants.{is_earlier}
use Rattle.py_tree.specs.Tree.{Name}
use Rattle.py_laid.specs.Fits.{Continues}
use Rattle.py_laid.specs.Code.{Parts, Scope, Stands, note_of}
use Rattle.py_laid.proofs.BindingLemmas.{Continues-refl, Continues-trans}
use Rattle.py_body.specs.declared.sizes.Weights.{Weights}
use Rattle.py_body.specs.Sizes.{counted, weights}
use Rattle.py_body.specs.Emitting.{Draft, weights_of, end_of, put, spelled, IsMatched, HasRoom, Extends, Emits}
use Rattle.py_body.proofs.ListLemmas.{drop-front, either_of, equal_ones, longer}
use Rattle.py_body.proofs.Spelled.{length-spelled, spelled_whatever}
use Rattle.py_body.proofs.Spelling.{spelled_more}

-- ---- parts that go on

pub extends_refl : (p : Parts) → Extends p p
extends_refl p = record {
  units = Continues-refl p.units;
  locations = Continues-refl p.locations;
  notes = Continues-refl p.notes;
  constants = Continues-refl p.constants;
  names = Continues-refl p.names;
  vars = refl;
}

pub extends_trans : {a b c : Parts} → Extends a b → Extends b c → Extends a c
extends_trans {a} {b} {c} f g = record {
  units = Continues-trans a.units b.units c.units f.units g.units;
  locations = Continues-trans a.locations b.locations c.locations f.locations g.locations;
  notes = Continues-trans a.notes b.notes c.notes f.notes g.notes;
  constants = Continues-trans a.constants b.constants c.constants f.constants g.constants;
  names = Continues-trans a.names b.names c.names f.names g.names;
  vars = g.vars ∙ f.vars;
}

-- there is room for less
pub room_before : {a b : Draft} → Extends a.parts b.parts → b.labels ≡ a.labels → b.others ≡ a.others → HasRoom b → HasRoom a
room_before {a} {b} grows labels others room =
    let jump : 256 ^ suc b.labels ≡ 256 ^ suc a.labels = ap (λ (n : ℕ). 256 ^ suc n) labels in
    let index : 256 ^ suc b.others ≡ 256 ^ suc a.others = ap (λ (n : ℕ). 256 ^ suc n) others in
    record {
      low = omega (arith, room.low, labels);
      units = omega (arith, room.units, jump, longer a.parts.units b.parts.units grows.units);
      constants = omega (arith, room.constants, index, longer a.parts.constants b.parts.constants grows.constants);
      names = omega (arith, room.names, index, longer a.parts.names b.parts.names grows.names);
      vars = omega (arith, room.vars, index, ap (λ (names : List Name). length names) grows.vars);
    }

-- ---- one instruction

-- how many values a note speaks of
abbrev count_of : Note → ℕ
count_of Dead = 0
count_of (Live kinds blocks) = length kinds

-- the draft with these constants and names
abbrev pub grown : List Literal → List Name → Draft → Draft
grown constants names d = record d { parts = record d.parts { constants = constants; names = names } }

-- no constant is a code or holds one
abbrev pub HaveNoCode : List Literal → Type 0
HaveNoCode literals = list_all (is_earlier 0) literals ≡ true

-- what holds of an instruction that was put behind such constants and names
abbrev pub StandsBehind : List Literal → List Name → Draft → ℕ → Instruction → ℕ → Scope → ℕ → Parts → ℕ → ℕ → Type 0
StandsBehind constants names d width op arg scope line whole at next =
    Continues constants whole.constants × Continues names whole.names × (whole.vars ≡ d.parts.vars) × (arg < 256 ^ suc width → Stands whole scope line at op arg next)

-- an instruction with so many prefixes, behind the same units with more constants and names
pub put_emits : (d : Draft) (constants : List Literal) (names : List Name) (size : Weights → ℕ) (width : ℕ) (op : Instruction) (arg : ℕ) (scope : Scope) (line : ℕ)
    → width ≤ 3 → is_prefix op ≡ false → scope.depth ≤ 65535 → suc width ≡ size (weights_of d)
    → Continues d.parts.constants constants → length constants ≤ length d.parts.constants + size counted → (HaveNoCode d.parts.constants → HaveNoCode constants)
    → Continues d.parts.names names → length names ≤ length d.parts.names + size counted
    → Emits d (put width op arg scope line (grown constants names d)) size (StandsBehind constants names d width op arg scope line)
put_emits d constants names size width op arg scope line low plain shallow sized more_constants few_constants no_code more_names few_names = record {
  grows = record {
    units = (spelled width op arg, refl);
    locations = (replicate (suc width) line, refl);
    notes = (replicate (suc width) (note_of scope), refl);
    constants = more_constants;
    names = more_names;
    vars = refl;
  };
  long = omega (arith, long, sized);
  few_constants = few_constants;
  few_names = few_names;
  labels = refl;
  others = refl;
  matched = matched;
  laid = λ old room whole extends. (extends.constants, extends.names, extends.vars, laid old whole extends);
}
  where
    new : Draft
    new = put width op arg scope line (grown constants names d)

    long : end_of (put width op arg scope line (grown constants names d)) ≡ end_of d + suc width
    long = omega (arith, length-append d.parts.units (spelled width op arg), length-spelled width op arg)

    deep : (kinds : List Kind) (blocks : List BlockNote) → note_of scope ≡ Live kinds blocks → length kinds ≤ max d.deepest scope.depth
    deep kinds blocks is = let count : length (replicate scope.depth Any) ≡ length kinds = ap count_of is in omega (arith, count, length-replicate scope.depth Any)

    matched : IsMatched d → IsMatched (put width op arg scope line (grown constants names d))
    matched old = record {
      located = omega (arith, length-append d.parts.locations (replicate (suc width) line), length-replicate (suc width) line, long, old.located);
      noted = omega (arith, length-append d.parts.notes (replicate (suc width) (note_of scope)), length-replicate (suc width) (note_of scope), long, old.noted);
      spelled = spelled_more d.parts.units (spelled width op arg) op (arg % 256 ^ suc width) old.spelled (omega (arith, length-spelled width op arg, low))
          (λ at behind. spelled_whatever width op arg at behind low plain ∙ ap (λ (n : ℕ). Some (record { op = op; arg = record { 0 = arg % 256 ^ suc width }; next = at + n }))
          (sym (length-spelled width op arg)));
      no_code = no_code old.no_code;
      room = λ at kinds blocks here. ⊎_elim (λ before. let few = old.room at kinds blocks before in omega (arith, few)) (deep kinds blocks)
          (either_of d.parts.notes (suc width) (note_of scope) (Live kinds blocks) at here);
      low = omega (arith, old.low, shallow);
    }

    laid : IsMatched d → (whole : Parts) → Extends (put width op arg scope line (grown constants names d)).parts whole → arg < 256 ^ suc width
        → Stands whole scope line (end_of d) op arg (end_of (put width op arg scope line (grown constants names d)))
    laid old whole extends fits =
        let (more, is) = extends.units in
        let (lines, are) = extends.locations in
        let (notes, so) = extends.notes in
        let left : drop (end_of d) whole.units ≡ spelled width op arg ++ more =
        ap (drop (end_of d)) (is ∙ append_assoc d.parts.units (spelled width op arg) more) ∙ drop-front d.parts.units (spelled width op arg ++ more) in
        let same : arg % 256 ^ suc width ≡ arg = mod-eq_of_lt fits in
        record {
          decoded = ap (decoded_from 0 (end_of d)) left ∙ spelled_whatever width op arg (end_of d) more low plain
              ∙ (λ k. Some (record { op = op; arg = record { 0 = same k }; next = sym long k }));
          lined = λ k low high. ap (λ (l : List ℕ). slice_get l k) are ∙ equal_ones d.parts.locations (suc width) line lines k (omega (arith, low, old.located))
              (omega (arith, high, long, old.located));
          noted = λ k low high. ap (λ (l : List Note). slice_get l k) so ∙ equal_ones d.parts.notes (suc width) (note_of scope) notes k (omega (arith, low, old.noted))
              (omega (arith, high, long, old.noted));
        }

-- ---- one piece behind another

-- one piece of so many units, and the other of so many
abbrev pub Then : ℕ → ℕ → (A B : Parts → ℕ → ℕ → Type 0) → Parts → ℕ → ℕ → Type 0
Then m n A B whole at next = (mid : ℕ) × (mid ≡ at + m) × (next ≡ mid + n) × A whole at mid × B whole mid next

-- both together
pub emits_then : {a b c : Draft} {m n : Weights → ℕ} {A B : Parts → ℕ → ℕ → Type 0} → Emits a b m A → Emits b c n B → Emits a c (λ w. m w + n w) (Then (m (weights_of a)) (n (weights_of a)) A B)
emits_then {a} {b} {c} {m} {n} {A} {B} one two = record {
  grows = extends_trans one.grows two.grows;
  long = omega (arith, one.long, second);
  few_constants = omega (arith, one.few_constants, two.few_constants);
  few_names = omega (arith, one.few_names, two.few_names);
  labels = two.labels ∙ one.labels;
  others = two.others ∙ one.others;
  matched = λ old. two.matched (one.matched old);
  laid = λ old room whole extends. (
    end_of b,
    one.long,
    second,
    one.laid old (room_before two.grows two.labels two.others room) whole (extends_trans two.grows extends),
    two.laid (one.matched old) room whole extends,
  );
}
  where
    second : end_of c ≡ end_of b + n (weights_of a)
    second = two.long ∙ (λ k. end_of b + n (weights (one.labels k) (one.others k)))

-- the same said in other words
pub emits_as : {a b : Draft} {m n : Weights → ℕ} {A B : Parts → ℕ → ℕ → Type 0} → Emits a b m A → ((w : Weights) → m w ≡ n w)
    → (HasRoom b → (whole : Parts) → whole.vars ≡ a.parts.vars → A whole (end_of a) (end_of b) → B whole (end_of a) (end_of b)) → Emits a b n B
emits_as {a} {b} {m} {n} {A} {B} emits same by = record {
  grows = emits.grows;
  long = omega (arith, emits.long, same (weights_of a));
  few_constants = omega (arith, emits.few_constants, same counted);
  few_names = omega (arith, emits.few_names, same counted);
  labels = emits.labels;
  others = emits.others;
  matched = emits.matched;
  laid = λ old room whole extends. by room whole (extends.vars ∙ emits.grows.vars) (emits.laid old room whole extends);
}

-- nothing is emitted
pub emits_none : {d : Draft} {A : Parts → ℕ → ℕ → Type 0} → ((whole : Parts) → A whole (end_of d) (end_of d)) → Emits d d (λ w. 0) A
emits_none {d} {A} by = record {
  grows = extends_refl d.parts;
  long = omega arith;
  few_constants = omega arith;
  few_names = omega arith;
  labels = refl;
  others = refl;
  matched = λ old. old;
  laid = λ old room whole extends. by whole;
}
