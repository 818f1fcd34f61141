use Rattle.std.proofs.Common.{◌≡◌, ◌≤◌, subst, ℕ, length, List}
use Rattle.std.specs.Prelude.{Result, Ok, Err, OnErr}
use Rattle.py_objects.specs.declared.error_kind.ErrorKind.{ErrorKind}
use Rattle.py_objects.specs.ErrorKinds.{error_kinds}
use Rattle.py_exceptions.specs.declared.zoo.ExceptionZoo.{ExceptionZoo}
use Rattle.py_exceptions.proofs.ClassesLemmas.{begun_next, place_next, classes_next, names_next, classes_last, classes_added}
use Rattle.py_exceptions.proofs.zoo.ExceptionZoo.extend.Goals as goal

-- the loop went through all of them
past : {kinds : List ErrorKind} {i : ℕ} → kinds ≡ error_kinds → length kinds ≤ i → length error_kinds ≤ i
past {kinds} {i} are low = subst (λ (ks : List ErrorKind). length ks ≤ i) are low

-- what holds anyway holds where there is an error
on_err : {T E P : Type 0} (r : Result T E) → P → OnErr r P
on_err (Ok v) holds = tt
on_err (Err e) holds = holds

pub add_class-requires : goal.add_class-requires
add_class-requires c =
    let zoo : ExceptionZoo = record { first = c.len.result } in
    record {
      place = place_next zoo c.args.store.now c.loop-kind.store c.all-kind-items.result.now c.all-kind-items.ensures c.loop-kind.kind-index _ c.loop-kind-test.true c.loop-kind.invariant.added c.len.ensures;
    }

pub loop-kind-preserved : goal.loop-kind-preserved
loop-kind-preserved c =
    let zoo : ExceptionZoo = record { first = c.len.result } in
    let kinds : List ErrorKind = c.all-kind-items.result.now in
    record {
      added = classes_next zoo c.args.store.now c.loop-kind.store kinds c.all-kind-items.ensures c.loop-kind.kind-index _ c.loop-kind-test.true c.loop-kind.invariant.added
          c.add_class.new.store c.in_ok-add_class.ensures.added;
      declared = names_next zoo c.args.store.now c.loop-kind.store kinds c.all-kind-items.ensures c.loop-kind.kind-index _ c.loop-kind-test.true c.loop-kind.invariant.added
          c.loop-kind.declarations c.add_class.new.declarations c.loop-kind.invariant.declared c.in_ok-add_class.ensures.declared;
    }

pub returns-clause-added : goal.returns-clause-added
returns-clause-added c = classes_last (record { first = c.len.result }) c.args.store.now c.loop-kind.store c.loop-kind.kind-index (past c.all-kind-items.ensures c.loop-kind-test.false) c.loop-kind.invariant.added

pub returns-clause-classes : goal.returns-clause-classes
returns-clause-classes c = classes_added (record { first = c.len.result }) c.args.store.now c.loop-kind.store c.len.ensures c.requires.store (returns-clause-added c)

pub returns-in_err-add_class-clause-err : goal.returns-in_err-add_class-clause-err
returns-in_err-add_class-clause-err c =
    on_err c.from_residual.result
    (begun_next (record { first = c.len.result }) c.args.store.now c.loop-kind.store c.add_class.new.store c.all-kind-items.result.now c.all-kind-items.ensures
    c.loop-kind.kind-index _ c.loop-kind-test.true c.loop-kind.invariant.added c.len.ensures c.in_err-add_class.ensures.err
    c.loop-kind.declarations c.add_class.new.declarations c.loop-kind.invariant.declared c.in_err-add_class.ensures.undeclared)
