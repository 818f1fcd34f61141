-- Each open raw code can be completed: by a depth where it is missing, a unit and an end.
use Rattle.std.proofs.Common.{◌≡◌, ◌⊎◌, inl, inr, ℕ, List, [], ◌∷◌, ◌++◌, length, Some, None, Bool, true, false, refl, sym, ap, ◌∙◌, subst}
use Rattle.std.specs.Prelude.{◌==◌, bytes_eq, not, codes}
use Rattle.std.proofs.lemmas.Bool.{and_from, or_right}
use Rattle.py_code.specs.declared.instruction.Instruction.TheVariants as op
use Rattle.py_lines.specs.declared.drive.DriveLine.{DriveLine}
use Rattle.py_lines.specs.declared.raw.RawLine.{RawLine}
use Rattle.py_lines.specs.declared.raw.RawLine.TheVariants as raw
use Rattle.py_lines.specs.declared.unit.RawNote.TheVariants as note
use Rattle.py_lines.specs.Line.{Said}
use Rattle.py_lines.specs.Line as line
use Rattle.py_grammar.specs.declared.raw_block.RawUnit.{RawUnit}
use Rattle.py_grammar.specs.Grammar.{Decl, RawDecl}
use Rattle.py_grammar.specs.RawRules.{have_depth, word_of}
use Rattle.py_grammar.specs.RawText.{RawText, raw_of}
use Rattle.py_grammar.specs.Script.{Text, Begins}
use Rattle.py_grammar.specs.Reader.{open_code, State, state, only_if, still_coded}
use Rattle.py_grammar.proofs.LineReads.{after}
use Rattle.py_grammar.proofs.RawLines.{some_behind}
use Rattle.py_grammar.proofs.Been.{Been, BeenTo, one_line, begins_whole, begins_before, end_line, begins_end}

abbrev depth_line : List ℕ
depth_line = codes "depth 0"

abbrev unit_line : List ℕ
unit_line = codes "u Pop 0 - -"

-- the unit that it says, where its number is this one
abbrev popping : ℕ → RawUnit
popping n = record { line = n; op = op.Pop; arg = 0; note = note.Live [] [] }

-- a depth that is said last is there
deep_behind : (head : List RawLine) → have_depth (head ++ raw.Depth 0 ∷ []) ≡ true
deep_behind [] = refl
deep_behind (l ∷ ls) = or_right (bytes_eq (word_of l) (codes "depth")) (have_depth (ls ++ raw.Depth 0 ∷ [])) (deep_behind ls)

module _ (ts : List Decl) (ds : List DriveLine) where
  abbrev code_at : RawText → State
  code_at t = state ts ds (Some (open_code t))

  -- behind a unit, an end completes it
  begins_ended : (front : Text) (t : RawText) → (length t.units == 0) ≡ false → Been front (code_at t) → Begins front
  begins_ended front t some b =
      let whole : State = state (ts ++ RawDecl (raw_of t) ∷ []) ds None in
      let ended : Been (front ++ end_line ∷ []) whole =
      subst (λ x. BeenTo (front ++ end_line ∷ []) (only_if (not x) whole)) some (one_line front (code_at t) end_line (Said line.End) (refl, tt) b) in
      begins_end front (begins_whole (front ++ end_line ∷ []) (ts ++ RawDecl (raw_of t) ∷ []) ds ended)

  -- behind the depth, a unit goes before it
  begins_unit : (front : Text) (t : RawText) → have_depth t.head ≡ true → Been front (code_at t) → Begins front
  begins_unit front t deep b =
      let next : RawText = record t { units = t.units ++ popping (after 1 front) ∷ [] } in
      let taken : Been (front ++ unit_line ∷ []) (code_at next) =
      subst (λ x. BeenTo (front ++ unit_line ∷ []) (still_coded ts ds (only_if x next))) (and_from _ _ deep refl)
      (one_line front (code_at t) unit_line (Said (line.Raw (raw.Unit op.Pop 0 (note.Live [] [])))) (refl, tt) b) in
      begins_before unit_line (λ more. refl) front (begins_ended (front ++ unit_line ∷ []) next (some_behind t.units (popping (after 1 front))) taken)

  -- and where no unit is there, the depth
  begins_depth : (front : Text) (t : RawText) → t.units ≡ [] → have_depth t.head ≡ false → Been front (code_at t) → Begins front
  begins_depth front t none shallow b =
      let next : RawText = record t { head = t.head ++ raw.Depth 0 ∷ [] } in
      let early : (length t.units == 0) ≡ true = ap (λ (us : List RawUnit). length us == 0) none in
      let taken : Been (front ++ depth_line ∷ []) (code_at next) =
      subst (λ x. BeenTo (front ++ depth_line ∷ []) (still_coded ts ds (only_if x next))) (and_from _ _ early (ap not shallow))
      (one_line front (code_at t) depth_line (Said (line.Raw (raw.Depth 0))) (refl, tt) b) in
      begins_before depth_line (λ more. refl) front (begins_unit (front ++ depth_line ∷ []) next (deep_behind t.head) taken)

pub begins_code : (front : Text) (ts : List Decl) (ds : List DriveLine) (t : RawText) → Been front (state ts ds (Some (open_code t))) → Begins front
begins_code front ts ds t b = go (have_depth t.head) refl b.came.well_open.deep
  where
    go : (x : Bool) → have_depth t.head ≡ x → (t.units ≡ []) ⊎ (have_depth t.head ≡ true) → Begins front
    go true e deep = begins_unit ts ds front t e b
    go false e (inl none) = begins_depth ts ds front t none e b
    go false e (inr there) = let clash : true ≡ false = sym there ∙ e in cc clash
