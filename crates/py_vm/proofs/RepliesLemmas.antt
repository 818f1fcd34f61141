-- What bodies get by replies.
use Rattle.std.proofs.Common.{◌≡◌, ◌≤◌, List, length, refl, sym, subst, arith}
use Rattle.std.specs.Prelude.{Option}
use Rattle.std.proofs.lemmas.Option.{slice_get_within}
use Rattle.py_objects.specs.declared.refs.PyBaseExceptionRef.{PyBaseExceptionRef}
use Rattle.py_objects.specs.declared.payload.Payload.{Payload}
use Rattle.py_objects.specs.declared.payload.Payload.TheVariants as payload
use Rattle.py_objects.specs.declared.error_kind.ErrorKind.TheVariants.{StopIteration}
use Rattle.py_objects.specs.Objects.{Obj, HasPayload, AllFit}
use Rattle.py_objects.specs.Growth.{Grows, GrowsPlainly}
use Rattle.py_objects.proofs.GrowthLemmas.{length_grown}
use Rattle.py_exceptions.specs.declared.zoo.ExceptionZoo.{ExceptionZoo}
use Rattle.py_exceptions.specs.Classes.{class_of, HaveClasses}
use Rattle.py_exceptions.specs.Making.{IsNewCalled}
use Rattle.py_answers.specs.Answers.{Reply, for_body, stop_args, GivesRaise, GivesValue}
use Rattle.py_answers.proofs.GivingLemmas.{built_in_given}
use Rattle.py_frame.specs.declared.input.Answer.TheVariants as given
use Rattle.py_vm.specs.declared.reply.Reply.{Reply as MadeReply}
use Rattle.py_vm.specs.declared.reply.Reply.TheVariants as made
use Rattle.py_vm.specs.Courses.{GivesReply, IsReplied}
use Rattle.py_vm.proofs.JournalLemmas.{named_still}

module _ (before new : List Payload) (reply : Reply) (w : MadeReply) (replied : IsReplied before new reply w) where
  -- a value
  pub value_given : (v : Obj) → w ≡ made.Value v → GivesReply before new reply (given.Value v)
  value_given v is =
      let x : IsReplied before new reply (made.Value v) = subst (IsReplied before new reply) is replied in
      record { gives = λ events named. subst (λ r. GivesValue new events r v) (sym x.plain) (x.gives events named); below = (x.below, tt); heard = tt; raises = tt; later = tt }

  -- the raise of an exception that the answer made, or that came from elsewhere
  pub fresh_given : (e : PyBaseExceptionRef) → w ≡ made.Fresh e → GivesReply before new reply (given.Fresh e)
  fresh_given e is =
      let (x, later) : IsReplied before new reply (made.Fresh e) = subst (IsReplied before new reply) is replied in
      record { gives = λ events named. subst (λ r. GivesRaise new events r e) (sym x.plain) (x.gives events named); below = (x.below, tt); heard = tt; raises = x.raises; later = later }

  pub passed_given : (e : PyBaseExceptionRef) → w ≡ made.Passed e → GivesReply before new reply (given.Passed e)
  passed_given e is =
      let (x, is_this) : IsReplied before new reply (made.Passed e) = subst (IsReplied before new reply) is replied in
      record { gives = λ events named. subst (λ r. GivesRaise new events r e) (sym x.plain) (x.gives events named); below = (x.below, tt); heard = tt; raises = x.raises; later = tt }

  -- what a generator yielded
  pub yielded_given : (v : Obj) → w ≡ made.Yields v → GivesReply before new reply (given.Value v)
  yielded_given v is =
      let x : IsReplied before new reply (made.Yields v) = subst (IsReplied before new reply) is replied in
      record { gives = λ events named. subst (λ r. GivesValue new events (for_body r) v) (sym x.0) refl; below = (x.1, tt); heard = tt; raises = tt; later = tt }

  -- None of what is closed
  pub closed_given : (v : Obj) → w ≡ made.Closes → HasPayload new v payload.None → GivesReply before new reply (given.Value v)
  closed_given v is has =
      let x : IsReplied before new reply made.Closes = subst (IsReplied before new reply) is replied in
      record { gives = λ events named. subst (λ r. GivesValue new events (for_body r) v) (sym x) has; below = (slice_get_within new v.number payload.None has, tt); heard = tt; raises = tt; later = tt }

-- a new StopIteration where one stopped
pub stopped_given : (before old new : List Payload) (reply : Reply) (w : MadeReply) (v : Option Obj) (zoo : ExceptionZoo) (e : PyBaseExceptionRef) → IsReplied before old reply w → w ≡ made.Stops v
    → Grows before old → AllFit old → HaveClasses zoo old → GrowsPlainly old new → IsNewCalled old new (class_of zoo StopIteration) (stop_args v) e → GivesReply before new reply (given.Fresh e)
stopped_given before old new reply w v zoo e replied is comes fit classes grows one =
    let x : IsReplied before old reply (made.Stops v) = subst (IsReplied before old reply) is replied in
    let longer : length before ≤ length old = length_grown before old comes in
    let after : length old ≤ e.number = one.later in
    record {
      gives = λ events named. subst (λ r. GivesRaise new events (for_body r) e) (sym x.0) (built_in_given old new events e grows (named_still before old events comes fit named) zoo StopIteration classes (stop_args v) one);
      below = (one.below, tt);
      heard = tt;
      raises = (_, one.entry);
      later = omega (arith, longer, after);
    }
