use Rattle.std.proofs.Common.{subst, ◌∙◌}
use Rattle.py_rows.specs.States.{with_stack}
use Rattle.py_rows.specs.Rows.{call_function}
use Rattle.py_rows.specs.RunOfRows.{MayLead}
use Rattle.py_frame.proofs.executing.ExecutingFrame.call_function.Goals as goal

pub returns-clause-row : goal.returns-clause-row
returns-clause-row g c =
    let same = c.asks.ensures.same in record {
      row = subst (MayLead c.args.store.now.made (call_function c.args.count (with_stack (g.S.ValueStack.seen c.args.self.now.stack).list c.args.self.now.core.state))) c.asks.ensures.row c.in_ok-request.ensures.request;
      same = record { code = same.code; entry = same.entry; scope = same.scope; closure = same.closure; room = same.room ∙ c.in_ok-request.ensures.places; block_room = same.block_room };
    }
