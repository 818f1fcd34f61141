use Rattle.std.proofs.Common.{◌≡◌, ◌∙◌, ◌⊎◌, inl, inr, ℕ, sym, ap}
use Rattle.std.specs.Prelude.{Result, Ok, Err}
use Rattle.std.specs.Result.{IsErrAnd}
use Rattle.py_grammar.specs.declared.fault.ParseFault.{ParseFault}
use Rattle.py_grammar.specs.declared.fault.ParseFault.TheVariants.{Malformed, NoMemory}
use Rattle.py_grammar.specs.declared.script.Script.{Script}
use Rattle.py_grammar.proofs.Keeps.{script_keeps}
use Rattle.py_grammar.proofs.Texts.{script_is_utf8}
use Rattle.py_grammar.proofs.parse.parse_script.Goals as goal

-- a fault that is handed on
handed_on : (r given : Result Script ParseFault) (f : ParseFault) → r ≡ Err f → IsErrAnd given (λ g. g ≡ f) → given ≡ r
handed_on r (Ok s) f is same = absurd same
handed_on r (Err g) f is same = ap Err same ∙ sym is

-- a script is no fault
none_bad : (r : Result Script ParseFault) (s : Script) (k : ℕ) → r ≡ Ok s → (r ≡ Err NoMemory) ⊎ (r ≡ Err (Malformed k)) → ⊥
none_bad r s k is (inl e) = let clash : Ok s ≡ Err NoMemory = sym is ∙ e in cc clash
none_bad r s k is (inr e) = let clash : Ok s ≡ Err (Malformed k) = sym is ∙ e in cc clash

pub returns-in_err-script-clause-bad : goal.returns-in_err-script-clause-bad
returns-in_err-script-clause-bad c k bad =
    let same = handed_on c.parse_lines.result c.from_residual.result c.in_err-script.field-0.0 c.in_err-script.was c.from_residual.ensures.1 in
    elim (c.parse_lines.ensures.bad k bad) [ inl e ↦ inl (same ∙ e) | inr e ↦ inr (same ∙ e) ]

pub characters-requires : goal.characters-requires
characters-requires c = script_is_utf8 c.laws_of_lines.ensures.text c.args.bytes.now c.in_ok-script.script c.in_ok-script.ensures.ok

pub returns-clause-well_formed : goal.returns-clause-well_formed
returns-clause-well_formed c = script_keeps c.args.bytes.now c.in_ok-script.script c.requires c.in_ok-script.ensures.ok

pub returns-clause-bad : goal.returns-clause-bad
returns-clause-bad c k bad = absurd (none_bad c.parse_lines.result c.in_ok-script.script k c.in_ok-script.was (c.parse_lines.ensures.bad k bad))
