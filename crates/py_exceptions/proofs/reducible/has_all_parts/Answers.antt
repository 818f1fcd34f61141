use Rattle.std.proofs.Common.{Bool, subst, sym}
use Rattle.std.specs.Prelude.{Decides}
use Rattle.std.proofs.lemmas.Result.{IfOk-weaker}
use Rattle.py_objects.specs.Edits.{objects_of}
use Rattle.py_exceptions.specs.Reducing.{HasAllParts}
use Rattle.py_exceptions.proofs.ReducibleLemmas.{items_fail, parts_decided, tuple_there}
use Rattle.py_exceptions.proofs.reducible.has_all_parts.Goals as goal

pub returns-then-not-are_there : goal.returns-then-not-are_there
returns-then-not-are_there c =
    let are = tuple_there (objects_of c.args.store.now) c.args.body.now.args _ _ (rw c.objects-objects.ensures at c.in-Some.ensures) c.in-Some-tuple.ensures in
    let fails = rw (c.as_slice.ensures, c.len.ensures, c.if-not-are_there.true) at c.are_there.ensures in
    (λ yes. cc, λ parts. absurd (items_fail c.args.store.now c.args.body.now _ are (sym fails) parts))

pub returns : goal.returns
returns c =
    let are = tuple_there (objects_of c.args.store.now) c.args.body.now.args _ _ (rw c.objects-objects.ensures at c.in-Some.ensures) c.in-Some-tuple.ensures in
    let holds = rw (c.as_slice.ensures, c.len.ensures, c.if-not-are_there.false) at c.are_there.ensures in
    let class = rw (c.objects-objects.ensures, c.from.ensures) at c.is_class.ensures.0 c.if-not-is_class.false in
    IfOk-weaker c.are_values_there.result _ _
    (λ yes is. subst (λ (b : Bool). Decides b (HasAllParts c.args.store.now c.args.body.now)) (sym is)
    (rw c.len-2.ensures (parts_decided c.args.store.now c.args.body.now _ are class (sym holds)))) c.are_values_there.ensures
