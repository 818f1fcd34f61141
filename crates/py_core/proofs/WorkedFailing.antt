-- The journals worked by hand that fail.
use Rattle.std.proofs.Common.{◌≡◌, ◌<◌, ◌-◌, ◌∙◌, ℕ, zero, suc, List, [], ◌∷◌, refl, ap, subst, inl, inr, length, lit<, arith}
use Rattle.std.specs.Prelude.{map, take}
use Rattle.std.proofs.lemmas.List.Elements.{All-head}
use Rattle.py_objects.specs.declared.payload.Payload.{Payload}
use Rattle.py_objects.specs.declared.payload.Payload.TheVariants as payload
use Rattle.py_objects.specs.declared.edit.Edit.TheVariants as edit
use Rattle.py_objects.specs.declared.event.GotAnswer.TheVariants as got
use Rattle.py_objects.specs.Objects.{Obj, HasPayload}
use Rattle.py_grammar.specs.Grammar.{codes_in}
use Rattle.py_run.specs.Coming.{nothing}
use Rattle.py_run.specs.Past.{past_behind}
use Rattle.py_meaning.specs.Whole.{plan_of}
use Rattle.py_meaning.specs.Worked.{object}
use Rattle.py_meaning.proofs.WorkedShowLemmas.{gives_none}
use Rattle.py_core.specs.Runs.{IsLinkChange, IsRunAmong, by_name}
use Rattle.py_core.specs.Worked.{Fails, decls, drives, events, events_by, objects, own_pairs, past_the_end, raised, rewritten, unfinished}
use Rattle.py_core.proofs.OfScripts.{before_by, by_script, none_before}
use Rattle.py_core.proofs.WorkedLemmas.{MayStand, front_of, named_are, named_by}

-- ---- another answer

-- up to the question nothing differs
same_front : (a : Obj) (i : ℕ) → i < 4 → take (suc i) events ≡ take (suc i) (events_by a)
same_front a zero low = refl
same_front a (suc zero) low = refl
same_front a (suc (suc zero)) low = refl
same_front a (suc (suc (suc zero))) low = refl
same_front a (suc (suc (suc (suc i)))) low = absurd (omega (arith, low))

-- None answers what is shown
none_answers : (objects : List Payload) (a : Obj) (m : ℕ) → IsRunAmong decls drives objects (take (suc (suc (suc (suc (suc m))))) (events_by a)) → HasPayload objects a payload.None
none_answers objects a m run =
    let plan = plan_of (codes_in decls) run.asked in
    gives_none plan objects (past_behind plan nothing (take 4 events)) (object 3) (got.Value a) run.run.comes.1.1.1.1.0.1

pub wrong_answer : (may : MayStand 0 own_pairs raised) (a : Obj) → (HasPayload (named_by own_pairs (map (by_name decls) raised)) a payload.None → ⊥) → Fails 4 objects [] (events_by a)
wrong_answer may a other s k is = inl (record {
  there = lit< tt;
  breaks = λ n less within run.
      let long : n ≡ suc (suc (suc (suc (suc (n - 5))))) = omega (arith, less) in
      let of = by_script decls drives s is objects (take n (events_by a)) run.run in
      let named = subst (λ os. IsRunAmong decls drives os (take n (events_by a))) (named_are 0 own_pairs raised) of.run in
      other (none_answers (named_by own_pairs (map (by_name decls) raised)) a (n - 5) (subst (λ m. IsRunAmong decls drives (named_by own_pairs (map (by_name decls) raised)) (take m (events_by a))) long named));
  before = before_by decls drives s is objects k events (events_by a) 4 (λ m low. front_of 0 own_pairs raised may m (omega (arith, low))) (same_front a);
})

-- ---- an event too few

same_unfinished : (i : ℕ) → i < 6 → take (suc i) events ≡ take (suc i) unfinished
same_unfinished zero low = refl
same_unfinished (suc zero) low = refl
same_unfinished (suc (suc zero)) low = refl
same_unfinished (suc (suc (suc zero))) low = refl
same_unfinished (suc (suc (suc (suc zero)))) low = refl
same_unfinished (suc (suc (suc (suc (suc zero))))) low = refl
same_unfinished (suc (suc (suc (suc (suc (suc i)))))) low = absurd (omega (arith, low))

pub event_missing : MayStand 0 own_pairs raised → Fails 6 objects [] unfinished
event_missing may s k is = inr (record {
  all = refl;
  unfinished = λ whole. let clash : 0 ≡ 1 = whole.done.done ∙ ap length is.driven in cc clash;
  before = before_by decls drives s is objects k events unfinished 6 (λ m low. front_of 0 own_pairs raised may m (omega (arith, low))) same_unfinished;
})

-- ---- what fails at once

pub arguments_changed : Fails 0 objects rewritten events
arguments_changed s k is = inl (record {
  there = lit< tt;
  breaks = λ n less within run. All-head IsLinkChange (record { after = 5; object = object 6; edit = edit.Args (object 5) }) [] run.changes;
  before = none_before s objects rewritten events k;
})

pub entry_past_the_end : Fails 0 past_the_end [] events
entry_past_the_end s k is = inl (record {
  there = lit< tt;
  breaks = λ n less within run.
      let of = by_script decls drives s is past_the_end (take n events) run.run in
      let pairs : List (Obj × Obj) = (object 1, object 9) ∷ [] in
      let named = subst (λ os. IsRunAmong decls drives os (take n events)) (named_are 0 pairs []) of.run in
      let low : (object 9).number < length (named_by pairs []) = (named.run.named.in_payloads (object 2).number (payload.Dict pairs) refl).1.0 in
      absurd (omega (arith, low));
  before = none_before s past_the_end [] events k;
})
