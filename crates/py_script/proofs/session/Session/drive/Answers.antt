use Rattle.std.proofs.Common.{◌++◌, ◌∷◌, [], true, ap}
use Rattle.py_script.specs.Held.{Held}
use Rattle.py_script.proofs.Sessions.{given_up_alike, went_on_alike}
use Rattle.py_script.proofs.session.Session.drive.Goals as goal

pub returns-in-Err-clause-runs : goal.returns-in-Err-clause-runs
returns-in-Err-clause-runs c sound decls drives session =
    let s : Held = record { vm = c.self-2.inside.vm; values = c.self-2.inside.values; raised = c.self-2.inside.raised; sources = c.self-2.inside.sources; failed = true } in
    given_up_alike decls (drives ++ c.args.line.now ∷ []) c.args.turns c.args.self.now c.make.new.self s c.in-Err.fault (ap (λ (h : Held). h.vm) c.self-2.view_is) (ap (λ (h : Held). h.sources) c.self-2.view_is) (c.in-Err.ensures.runs decls drives session)

pub returns-in-Err-clause-adds : goal.returns-in-Err-clause-adds
returns-in-Err-clause-adds c =
    let s : Held = record { vm = c.self-2.inside.vm; values = c.self-2.inside.values; raised = c.self-2.inside.raised; sources = c.self-2.inside.sources; failed = true } in
    went_on_alike c.args.self.now c.make.new.self s (ap (λ (h : Held). h.vm) c.self-2.view_is) (ap (λ (h : Held). h.sources) c.self-2.view_is) c.make.ensures.adds
