use Rattle.std.proofs.Common.{rules, ◌≡◌, ◌∙◌, sym, subst}
use Rattle.py_objects.specs.declared.refs.PyBaseExceptionRef.{PyBaseExceptionRef}
use Rattle.py_objects.specs.Edits.{IsAsBefore, objects_of}
use Rattle.py_objects.specs.Objects.{IsException, as_object}
use Rattle.frame_tests.specs.FirstObjects.{first_objects}
use Rattle.frame_tests.proofs.DriveLemmas.{first_exception, first_traceback}
use Rattle.frame_tests.proofs.objects.add_first.Goals as goal

pub set_traceback-requires-clause-exception : goal.set_traceback-requires-clause-exception
set_traceback-requires-clause-exception c =
    let all : c.loop-first.store.made ≡ first_objects = search rules in
    let kept : IsAsBefore c.loop-first.store c.reserve_changes.new.self = c.in_ok-reserve_changes.ensures.kept in
    subst (λ (e : PyBaseExceptionRef). IsException (objects_of c.reserve_changes.new.self) (as_object e)) (sym c.exception.ensures)
    (first_exception c.reserve_changes.new.self (kept.made ∙ all) (kept.changes ∙ c.loop-first.invariant.changes))

pub set_traceback-requires-clause-traceback : goal.set_traceback-requires-clause-traceback
set_traceback-requires-clause-traceback c =
    let all : c.loop-first.store.made ≡ first_objects = search rules in
    let kept : IsAsBefore c.loop-first.store c.reserve_changes.new.self = c.in_ok-reserve_changes.ensures.kept in
    first_traceback c.reserve_changes.new.self.made (kept.made ∙ all)
