use Rattle.std.proofs.Common.{◌≡◌, ◌∙◌, List, ◌∷◌, sym, ap, subst, length, drop, length-drop, arith}
use Rattle.py_objects.specs.declared.request.Request.{Request}
use Rattle.py_objects.specs.Objects.{Obj}
use Rattle.py_objects.specs.Callees.{call_request}
use Rattle.py_rows.specs.States.{State, Move, with_stack}
use Rattle.py_rows.specs.Rows.{asks}
use Rattle.py_rows.specs.RunOfRows.{MayLead}
use Rattle.py_frame.specs.Frames.{over}
use Rattle.py_frame.specs.UnitSteps.{HasNeeds}
use Rattle.py_frame.proofs.SafeLemmas.{call_there, call_row}
use Rattle.py_frame.proofs.frame_core.FrameCore.call_request.Goals as goal

pub pop_many-requires : goal.pop_many-requires
pop_many-requires g c =
    omega (arith, call_there c.args.store.now.made (over c.args.self.now (g.S.ValueStack.seen c.args.stack.now)) c.args.count (with_stack (g.S.ValueStack.seen c.args.stack.now).list c.args.self.now.state) c.requires.safe)

pub pop-callee-requires : goal.pop-callee-requires
pop-callee-requires g c =
    let stack : List Obj = (g.S.ValueStack.seen c.args.stack.now).list in
    let count : length (g.S.ValueStack.seen c.pop_many.new.stack).list ≡ length (drop c.args.count stack) = ap length c.in_ok-arguments.ensures.list in
    omega (arith, count, length-drop c.args.count stack, call_there c.args.store.now.made (over c.args.self.now (g.S.ValueStack.seen c.args.stack.now)) c.args.count (with_stack stack c.args.self.now.state) c.requires.safe)

pub request_of-requires : goal.request_of-requires
request_of-requires g c =
    let stack : List Obj = (g.S.ValueStack.seen c.args.stack.now).list in
    let under : List Obj = (g.S.ValueStack.seen c.pop-callee.new.self).list in
    let lies : drop c.args.count stack ≡ c.pop-callee.result ∷ under = sym c.in_ok-arguments.ensures.list ∙ c.pop-callee.ensures.list in
    (subst (HasNeeds c.args.store.now.made (over c.args.self.now (g.S.ValueStack.seen c.args.stack.now))) (call_row c.args.count (with_stack stack c.args.self.now.state) c.pop-callee.result under lies) c.requires.safe).0

pub returns-clause-request : goal.returns-clause-request
returns-clause-request g c =
    let stack : List Obj = (g.S.ValueStack.seen c.args.stack.now).list in
    let under : List Obj = (g.S.ValueStack.seen c.pop-callee.new.self).list in
    let s : State = with_stack stack c.args.self.now.state in
    let lies : drop c.args.count stack ≡ c.pop-callee.result ∷ under = sym c.in_ok-arguments.ensures.list ∙ c.pop-callee.ensures.list in
    let (p, has, is) = c.request_of.ensures in
    let request_is = ap (λ (vs : List Obj). call_request p c.pop-callee.result vs) (sym c.in_ok-arguments.ensures.values) ∙ sym is in
    subst (λ (m : Move). MayLead c.args.store.now.made m (asks c.request_of.result (with_stack under s))) (sym (call_row c.args.count s c.pop-callee.result under lies))
    (p, has, ap (λ (r : Request). asks r (with_stack under s)) request_is)
