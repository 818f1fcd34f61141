-- No unit of a sum's code but the one that adds asks for it.
use Rattle.std.proofs.Common.{◌≡◌, ◌∙◌, ℕ, zero, suc, List, [], ◌∷◌, Some, refl, sym, ap, subst, map, arith}
use Rattle.std.specs.Prelude.{All, true, false, None, slice_get, codes}
use Rattle.std.proofs.lemmas.Bool.{false≢true}
use Rattle.py_code.specs.declared.code.PyCode.{PyCode}
use Rattle.py_code.specs.declared.unit.CodeUnit.{CodeUnit}
use Rattle.py_code.specs.declared.instruction.Instruction.{Instruction}
use Rattle.py_code.specs.declared.instruction.Instruction.TheVariants.{ReturnConst}
use Rattle.py_check.specs.declared.annotated.Annotated.{Annotated}
use Rattle.py_check.specs.Sheet.{Sheet, sheet_of}
use Rattle.py_check.specs.Typing.{IsTyped}
use Rattle.py_objects.specs.declared.payload.Payload.TheVariants as payload
use Rattle.py_objects.specs.declared.payload.FunctionBody.{FunctionBody}
use Rattle.py_objects.specs.declared.request.Request.{Request}
use Rattle.py_objects.specs.declared.event.ResumeHow.TheVariants.{Start}
use Rattle.py_objects.specs.declared.event.GotAnswer.TheVariants as got
use Rattle.py_objects.specs.declared.event.Ending.TheVariants as ending
use Rattle.py_objects.specs.Objects.{Obj}
use Rattle.py_objects.specs.Own.{Own, Makes, Resumes, Asks, Gets, Ends, own_events, own_from, told_by}
use Rattle.py_rows.specs.Questions.{UnitAsks, may_ask}
use Rattle.py_rows.specs.Sound.{IsSound}
use Rattle.py_rows.specs.Laws.{AllMayTell}
use Rattle.py_rows.proofs.RunLemmas.{runs_tell}
use Rattle.py_grammar.specs.Grammar.{OfBody, OfRaw}
use Rattle.py_grammar.specs.WellFormed.{IsLoadable, IsWellCoded}
use Rattle.py_raw.specs.Assembled.{IsAssembled}
use Rattle.py_raw.proofs.AssembledLemmas.{assembled_named, assembled_runs}
use Rattle.py_meaning.specs.Worked.{function, object, objects}
use Rattle.py_meaning.specs.WorkedRaw.{block}
use Rattle.py_script.specs.WorkedUnits.{sum, events_at, operations, NoOtherUnit, NoRawSum}

-- one value is another
same_value : {A : Type 0} {x y : A} → Some x ≡ Some y → x ≡ y
same_value e = cc

-- lists that are the same begin and go on alike
same_head : {A : Type 0} {x y : A} {xs ys : List A} → x ∷ xs ≡ y ∷ ys → x ≡ y
same_head e = cc

same_tail : {A : Type 0} {x y : A} {xs ys : List A} → x ∷ xs ≡ y ∷ ys → xs ≡ ys
same_tail e = cc

-- a unit that asks something does what stands at its place
abbrev MayAskAt : List Instruction → ℕ → Request → Type 0
MayAskAt ops at r = (i : Instruction) × (arg : ℕ) × (slice_get ops at ≡ Some i) × (may_ask i arg r ≡ true)

asks_at : (us : List CodeUnit) (ops : List Instruction) (at : ℕ) (r : Request) → map (λ u. u.op) us ≡ ops → UnitAsks (slice_get us at) r → MayAskAt ops at r
asks_at [] ops zero r is asks = absurd asks
asks_at [] ops (suc at) r is asks = absurd asks
asks_at (u ∷ us) [] at r is asks = absurd cc
asks_at (u ∷ us) (i ∷ ops) zero r is asks = (i, u.arg, refl, subst (λ (o : Instruction). may_ask o u.arg r ≡ true) (same_head is) asks)
asks_at (u ∷ us) (i ∷ ops) (suc at) r is asks = asks_at us ops at r (same_tail is) asks

-- of the sum's units only the third asks for it
may_not : (i j : Instruction) (arg : ℕ) → Some j ≡ Some i → may_ask j arg sum ≡ false → may_ask i arg sum ≡ true → ⊥
may_not i j arg is never asks = false≢true (sym never ∙ subst (λ (o : Instruction). may_ask o arg sum ≡ true) (sym (same_value is)) asks)

only_third : (at : ℕ) → (at ≡ 2 → ⊥) → MayAskAt operations at sum → ⊥
only_third zero other (i, arg, is, asks) = may_not i _ arg is refl asks
only_third (suc zero) other (i, arg, is, asks) = may_not i _ arg is refl asks
only_third (suc (suc zero)) other (i, arg, is, asks) = other refl
only_third (suc (suc (suc zero))) other (i, arg, is, asks) = may_not i _ arg is refl asks
only_third (suc (suc (suc (suc zero)))) other (i, arg, is, asks) = may_not i _ arg is refl asks
only_third (suc (suc (suc (suc (suc zero))))) other (i, arg, is, asks) = may_not i _ arg is refl asks
only_third (suc (suc (suc (suc (suc (suc zero)))))) other (i, arg, is, asks) = may_not i _ arg is refl asks
only_third (suc (suc (suc (suc (suc (suc (suc at))))))) other (i, arg, is, asks) = absurd (cc is)

-- what the activation's own events ask is asked by a unit of its code
asked_by : (c : PyCode) (at : ℕ) (us : List Own) → own_events 1 (events_at at) ≡ Makes ∷ us → AllMayTell objects c us → UnitAsks (slice_get c.code.instructions.items at) sum
unfolding own_from told_by
asked_by c at us is all =
    let told : List Own = Resumes 2 Start ∷ Asks at sum None ∷ Gets 4 (got.Value (object 6)) ∷ Ends 5 (ending.Return (object 6)) ∷ [] in
    let whole : Makes ∷ told ≡ Makes ∷ us = is in
    (subst (AllMayTell objects c) (sym (same_tail whole)) all).1.0

pub no_other_unit : NoOtherUnit
no_other_unit cs at (c, first, adds) other runs =
    let args : List Obj = object 3 ∷ object 4 ∷ [] in
    let (b, has, d, is_d, closure, closed, (slot, us, s, front, run)) = runs.tells 0 (record { function = object 0; args = args }) refl in
    let entry : FunctionBody = record { name = codes "f"; code = 0 } in
    let same_entry : payload.Function entry ≡ payload.Function b = same_value has in
    let number : b.code ≡ 0 = cc same_entry in
    let is_first : slice_get cs.codes 0 ≡ Some d = subst (λ (k : ℕ). slice_get cs.codes k ≡ Some d) number is_d in
    let same : c ≡ d = same_value (sym first ∙ is_first) in
    let (e, is_e, notes_fit) = runs.compiled.fit 0 (OfBody function) refl in
    let (notes, fits) = notes_fit in
    let same_code : e ≡ d = same_value (sym is_e ∙ is_first) in
    let sound : IsSound cs.names (record { code = d; notes = notes }) = subst (λ (x : PyCode). IsSound cs.names (record { code = x; notes = notes })) same_code fits.sound in
    let all = runs_tell objects cs.names runs.globals closure (record { code = d; notes = notes }) slot args s us sound run in
    let does : map (λ u. u.op) d.code.instructions.items ≡ operations = subst (λ (x : PyCode). map (λ u. u.op) x.code.instructions.items ≡ operations) same adds in
    only_third at other (asks_at d.code.instructions.items operations at sum does (asked_by d at us front all))

-- ---- a raw code that returns its constant

-- it has what frames heed, load and run
block_coded : IsWellCoded [] block
block_coded = record {
  distinct = λ i j d low lower same. absurd (omega (arith, low, lower));
  few = omega arith;
  flags = λ i f low. absurd (omega (arith, low));
  counts = refl;
  cells = refl;
  frees = refl;
  consts = one_constant;
  some = λ none. absurd (cc none);
  run = refl;
}
  where
    one_constant : All (IsLoadable []) block.consts
    one_constant zero c low = tt
    one_constant (suc i) c low = absurd (omega (arith, low))

-- its only unit asks nothing
asks_nothing : (at : ℕ) → UnitAsks (slice_get (record { op = ReturnConst; arg = 0 } ∷ []) at) sum → ⊥
asks_nothing zero asks = absurd (cc asks)
asks_nothing (suc at) asks = asks

pub no_raw_sum : NoRawSum
no_raw_sum cs at runs =
    let args : List Obj = object 3 ∷ object 4 ∷ [] in
    let (b, has, d, is_d, closure, closed, (slot, us, s, front, run)) = runs.tells 0 (record { function = object 0; args = args }) refl in
    let entry : FunctionBody = record { name = codes "f"; code = 0 } in
    let same_entry : payload.Function entry ≡ payload.Function b = same_value has in
    let number : b.code ≡ 0 = cc same_entry in
    let is_first : slice_get cs.codes 0 ≡ Some d = subst (λ (k : ℕ). slice_get cs.codes k ≡ Some d) number is_d in
    let (e, is_e, (notes, (assembled, typed))) = runs.compiled.fit 0 (OfRaw block) refl in
    let same_code : e ≡ d = same_value (sym is_e ∙ is_first) in
    let code : Annotated = record { code = d; notes = notes } in
    let is : IsAssembled cs.names [] code block = subst (λ (x : PyCode). IsAssembled cs.names [] (record { code = x; notes = notes }) block) same_code assembled in
    let keeps : IsTyped [] (sheet_of code) = subst (λ (x : PyCode). IsTyped [] (sheet_of (record { code = x; notes = notes }))) same_code typed in
    let sound : IsSound cs.names code = record { shapes = []; typed = keeps; runs = assembled_runs cs.names [] [] code block is block_coded keeps; named = assembled_named cs.names [] code block is } in
    let all = runs_tell objects cs.names runs.globals closure code slot args s us sound run in
    let units : d.code.instructions.items ≡ record { op = ReturnConst; arg = 0 } ∷ [] = ap (λ (s : Sheet). s.units) is.sheet in
    asks_nothing at (subst (λ (us : List CodeUnit). UnitAsks (slice_get us at) sum) units (asked_by d at us front all))
