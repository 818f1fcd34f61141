-- The topmost exception of slots that are kept with the top last.
use Rattle.std.proofs.Common.{◌≡◌, ◌≤◌, ◌-◌, ℕ, suc, [], ◌∷◌, ◌++◌, Some, refl, sym, ap, subst, ◌∙◌, length, get_or, take, reverse, arith}
use Rattle.std.proofs.Math.Seq.{take-length, take-suc}
use Rattle.std.specs.Option.{option_or}
use Rattle.std.specs.Prelude.{Option, None}
use Rattle.std.proofs.lemmas.List.{reverse-append}
use Rattle.py_objects.specs.declared.refs.PyBaseExceptionRef.{PyBaseExceptionRef}
use Rattle.py_stack.specs.Slots.{Slots, AreEmpty, IsTopmost, topmost}

-- a slot that is last stands on top
last_on_top : (slots lower : Slots) (slot : Option PyBaseExceptionRef) → slots ≡ lower ++ slot ∷ [] → reverse slots ≡ slot ∷ reverse lower
last_on_top slots lower slot is = ap reverse is ∙ reverse-append lower (slot ∷ [])

-- an exception in the top slot is the topmost
pub topmost_on_top : (slots : Slots) (e : PyBaseExceptionRef) → IsTopmost (Some e ∷ slots) (Some e)
topmost_on_top slots e = ([], slots, tt, refl)

-- under an empty slot it stays the same
pub topmost_under : (slots : Slots) (found : Option PyBaseExceptionRef) → IsTopmost slots found → IsTopmost (None ∷ slots) found
topmost_under slots None empty = (refl, empty)
topmost_under slots (Some e) (above, below, empty, is) = (None ∷ above, below, (refl, empty), ap (λ l. None ∷ l) is)

-- the last slot has the topmost
pub topmost_last : (slots lower : Slots) (e : PyBaseExceptionRef) → slots ≡ lower ++ Some e ∷ [] → IsTopmost (reverse slots) (Some e)
topmost_last slots lower e is = subst (λ l. IsTopmost l (Some e)) (sym (last_on_top slots lower (Some e) is)) (topmost_on_top (reverse lower) e)

-- the last slot is empty
pub topmost_lower : (slots lower : Slots) (found : Option PyBaseExceptionRef) → slots ≡ lower ++ None ∷ [] → IsTopmost (reverse lower) found → IsTopmost (reverse slots) found
topmost_lower slots lower found is top = subst (λ l. IsTopmost l found) (sym (last_on_top slots lower None is)) (topmost_under (reverse lower) found top)

-- the top slot, or what is below it
pub topmost_or : (lower : Slots) (current found : Option PyBaseExceptionRef) → IsTopmost lower found → IsTopmost (current ∷ lower) (option_or current found)
topmost_or lower None found top = topmost_under lower found top
topmost_or lower (Some e) found top = topmost_on_top lower e

-- slots that end in one
pub ends_in : (slots : Slots) (slot : Option PyBaseExceptionRef) → 1 ≤ length slots → get_or slots (length slots - 1) None ≡ slot
    → slots ≡ take (length slots - 1) slots ++ slot ∷ []
ends_in slots slot some is =
    let n = length slots - 1 in
    let all : suc n ≡ length slots = omega arith in
    sym (take-length slots) ∙ ap (λ (k : ℕ). take k slots) (sym all) ∙ take-suc slots n None (omega (arith, all)) ∙ ap (λ s. take n slots ++ s ∷ []) is

-- slots that are all empty have no topmost
topmost_empty : (slots : Slots) → AreEmpty slots → None ≡ topmost slots
topmost_empty [] empty = refl
topmost_empty (slot ∷ slots) empty = rw empty.0 (topmost_empty slots empty.1)

-- the exception of a slot above which all are empty
topmost_there : (above below : Slots) (e : PyBaseExceptionRef) → AreEmpty above → Some e ≡ topmost (above ++ Some e ∷ below)
topmost_there [] below e empty = refl
topmost_there (slot ∷ above) below e empty = rw empty.0 (topmost_there above below e empty.1)

-- there is but one topmost
pub topmost_is : (slots : Slots) (found : Option PyBaseExceptionRef) → IsTopmost slots found → found ≡ topmost slots
topmost_is slots None empty = topmost_empty slots empty
topmost_is slots (Some e) (above, below, empty, is) = rw is (topmost_there above below e empty)
