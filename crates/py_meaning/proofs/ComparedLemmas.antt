-- What can't differ in two runs of one script.
use Rattle.std.proofs.Common.{◌≡◌, ℕ, zero, suc, Some, List, [], ◌∷◌, pos, eqb, refl, sym, ap, subst, ◌∙◌, slice_get}
use Rattle.std.proofs.lemmas.Bool.{eqb-true, eq-eqb}
use Rattle.py_objects.specs.declared.payload.Payload.TheVariants as payload
use Rattle.py_objects.specs.declared.event.Event.{Event}
use Rattle.py_objects.specs.Objects.{Obj}
use Rattle.py_agreement.specs.Agreement.{Relation}
use Rattle.py_run.specs.declared.journal.Journal.{Journal}
use Rattle.py_determined.specs.Alike.{AreAlike}
use Rattle.py_determined.specs.Events.{SameEvent, SameEvents}
use Rattle.py_determined.specs.Related.{Paired}
use Rattle.py_meaning.specs.Compared.{AreRuns, Gets, NoOtherAnswer, NoOtherOrder, NoOtherIdentity}
use Rattle.py_meaning.proofs.ScriptsAgree.{scripts_agree}

-- events at one place are the same
same_at : (S : Relation) (es fs : List Event) (i : ℕ) (e f : Event) → SameEvents S es fs → slice_get es i ≡ Some e → slice_get fs i ≡ Some f → SameEvent S e f
same_at S [] fs i e f same at at' = absurd (cc at)
same_at S (x ∷ es) [] i e f same at at' = absurd (cc at')
same_at S (x ∷ es) (y ∷ fs) zero e f same at at' =
    let here : x ≡ e = cc at in
    let there : y ≡ f = cc at' in
    subst (λ (z : Event). SameEvent S z f) here (subst (λ (z : Event). SameEvent S x z) there same.0)
same_at S (x ∷ es) (y ∷ fs) (suc i) e f same at at' = same_at S es fs i e f same.1 at at'

module _ (j j' : Journal) (are : AreRuns j j') where
  -- which objects the two runs relate
  abbrev S : Relation
  S = Paired j.objects j'.objects j.events j'.events

  same : SameEvents S j.events j'.events
  same = (scripts_agree are.decls are.drives are.core are.earlier are.sources are.sources' j j' are.is are.is').0

  alike : AreAlike S j.objects j'.objects
  alike = (scripts_agree are.decls are.drives are.core are.earlier are.sources are.sources' j j' are.is are.is').1

  -- values that are got at one place are related
  gets_related : (i : ℕ) (v w : Obj) → Gets j.events i v → Gets j'.events i w → S v w
  gets_related i v w (a, at) (b, at') = (same_at S j.events j'.events i _ _ same at at').1

pub no_other_answer : NoOtherAnswer
no_other_answer j j' i v w are gets gets' has has' =
    let one : pos 1 ≡ pos 2 = (alike j j' are).payloads v w (payload.Int (pos 1)) (payload.Int (pos 2)) (gets_related j j' are i v w gets gets') has has' in
    cc one

pub no_other_order : NoOtherOrder
no_other_order j j' i x y are (a, d, own, n, at) (b, d', own', n', at') other = other (same_at (S j j' are) j.events j'.events i _ _ (same j j' are) at at').1.0

pub no_other_identity : NoOtherIdentity
no_other_identity j j' i k v w w2 g are gets gets2 has gets' gets2' other =
    let first = gets_related j j' are i v w gets gets' in
    let second = gets_related j j' are k v w2 gets2 gets2' in
    let one : eqb v.number v.number ≡ eqb w.number w2.number = (alike j j' are).one v v w w2 (payload.Generator g) first second has refl in
    let number : w.number ≡ w2.number = eqb-true w.number w2.number (sym one ∙ eq-eqb v.number v.number refl) in
    other (ap (λ (n : ℕ). let z : Obj = record { number = n } in z) number)
