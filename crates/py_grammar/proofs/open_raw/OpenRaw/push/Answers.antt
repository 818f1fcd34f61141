use Rattle.std.proofs.Common.{◌≡◌, Option, sym, subst}
use Rattle.std.specs.Prelude.{IfOk}
use Rattle.py_grammar.specs.RawText.{RawText}
use Rattle.py_grammar.specs.Reader.{code_line, only_if, with_said}
use Rattle.py_grammar.proofs.RawLines.{no_unit_is_said}
use Rattle.py_grammar.proofs.open_raw.OpenRaw.push.Goals as goal

pub returns-in_default : goal.returns-in_default
returns-in_default c =
    let is : code_line c.args.functions.now c.args.self.now c.args.number c.args.line ≡ with_said c.args.functions.now c.args.self.now c.args.line =
    no_unit_is_said c.args.functions.now c.args.self.now c.args.number c.args.line c.in_default.not-Unit in
    record {
      taken = subst (λ (next : Option RawText). IfOk c.push_head.result (λ taken. only_if taken c.push_head.new.self ≡ next)) (sym is) c.push_head.ensures.taken;
      name = c.push_head.ensures.name;
    }
