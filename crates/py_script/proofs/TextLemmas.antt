-- The objects at an event by the changes that are left, and the text with one event more.
use Rattle.std.proofs.Common.{◌≡◌, ◌<◌, ◌+◌, ◌∷◌, ◌++◌, ℕ, List, ap, sym, subst, drop, length, get_or, ◌∙◌, arith}
use Rattle.std.proofs.lemmas.List.{append_assoc, drop_more}
use Rattle.py_objects.specs.declared.edit.Change.{Change}
use Rattle.py_objects.specs.declared.event.Event.{Event}
use Rattle.py_objects.specs.declared.payload.Payload.{Payload}
use Rattle.py_objects.specs.Edits.{store_at}
use Rattle.py_objects.specs.Due.{later}
use Rattle.py_objects.proofs.DueLemmas.{order_later, store_on}
use Rattle.py_meaning.specs.Text.{event_text, text_from}
use Rattle.py_script.specs.Writing.{AreLeft}

module _ (made now : List Payload) (cs left : List Change) (k : ℕ) (before : AreLeft made now cs left k) where
  -- at the event the changes that are due have been made
  pub due_made : store_at made cs k ≡ store_at now left k
  due_made = before.at k (search arith)

  -- and those that are left are of later events
  pub left_on : AreLeft made (store_at now left k) cs (later k left) (k + 1)
  left_on = record {
    order = order_later k left before.order;
    at = λ j le. before.at j (omega (arith, le)) ∙ store_on now k j left before.order (omega (arith, le));
  }

-- the text with that of one event more
pub text_more : (made now : List Payload) (cs : List Change) (k : ℕ) (events items : List Event) (e : Event) (out longer whole : List ℕ)
    → items ≡ events → k < length items → e ≡ get_or items k e → now ≡ store_at made cs k → longer ≡ out ++ event_text now e
    → out ++ text_from made cs k (drop k events) ≡ whole → longer ++ text_from made cs (k + 1) (drop (k + 1) events) ≡ whole
text_more made now cs k events items e out longer whole same low is told more text =
    let next : e ∷ drop (k + 1) events ≡ drop k events =
    subst (λ (es : List Event). e ∷ drop (k + 1) es ≡ drop k es) same (ap (λ d. d ∷ drop (k + 1) items) is ∙ sym (drop_more items k e low)) in
    rw (more, told, append_assoc out (event_text (store_at made cs k) e) (text_from made cs (k + 1) (drop (k + 1) events)))
    (ap (λ es. out ++ text_from made cs k es) next ∙ text)
