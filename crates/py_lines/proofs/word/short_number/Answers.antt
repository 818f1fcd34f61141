use Rattle.std.proofs.Common.{sym, ◌∙◌, subst}
use Rattle.std.specs.Prelude.{ℕ, List}
use Rattle.std.specs.Str.Parse.{ParsesUnsigned}
use Rattle.py_lines.proofs.Numbers.{short_read, short_not_text}
use Rattle.py_lines.proofs.word.short_number.Goals as goal

pub returns-in_default : goal.returns-in_default
returns-in_default c = short_not_text c.args.digits.now c.in_default.ensures.cases.0

pub returns : goal.returns
returns c =
    let read = subst (λ (w : List ℕ). ParsesUnsigned 64 10 w c.parse.result) c.in-Ok.ensures.cases.0 c.parse.ensures.value.0 in
    c.ok.ensures.value ∙ short_read c.args.digits.now c.parse.result (sym c.starts_with.ensures.value ∙ c.if-starts_with.false) read
