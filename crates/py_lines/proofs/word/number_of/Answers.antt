use Rattle.std.proofs.Common.{sym, ◌∙◌, subst}
use Rattle.std.specs.Prelude.{ℕ, List}
use Rattle.std.specs.Int.{w128}
use Rattle.std.specs.Str.Parse.{ParsesSigned}
use Rattle.py_lines.proofs.Numbers.{number_read, not_text}
use Rattle.py_lines.proofs.word.number_of.Goals as goal

pub returns-in_default : goal.returns-in_default
returns-in_default c = not_text c.args.word.now c.in_default.ensures.cases.0

pub returns : goal.returns
returns c =
    let read = subst (λ (w : List ℕ). ParsesSigned w128 10 w c.parse.result) c.in-Ok.ensures.cases.0 c.parse.ensures.value.0 in
    c.ok.ensures.value ∙ number_read c.args.word.now c.parse.result (sym c.starts_with.ensures.value ∙ c.if-starts_with.false) read
