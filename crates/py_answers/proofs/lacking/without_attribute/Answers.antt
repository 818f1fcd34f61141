use Rattle.std.proofs.Common.{◌≡◌, ◌∙◌, ◌++◌, ℕ, List, ap, append_assoc}
use Rattle.std.specs.Prelude.{codes}
use Rattle.py_objects.specs.declared.error_kind.ErrorKind.TheVariants.{AttributeError}
use Rattle.py_answers.specs.Answers.{Fails}
use Rattle.py_answers.proofs.lacking.without_attribute.Goals as goal

in_order : (a b c d e : List ℕ) → (((a ++ b) ++ c) ++ d) ++ e ≡ a ++ (b ++ (c ++ (d ++ e)))
in_order a b c d e = append_assoc ((a ++ b) ++ c) d e ∙ append_assoc (a ++ b) c (d ++ e) ∙ append_assoc a b (c ++ (d ++ e))

pub returns-clause-reply : goal.returns-clause-reply
returns-clause-reply c =
    let opened = c.in_ok-push_text.ensures.added ∙ ap (λ (t : List ℕ). t ++ c.args.kind.now) c.in_ok-text.ensures in
    let typed = c.in_ok-push_bytes.ensures.added ∙ ap (λ (t : List ℕ). t ++ codes "' object has no attribute '") opened in
    let named = c.in_ok-push_bytes-2.ensures.added ∙ ap (λ (t : List ℕ). t ++ c.args.name.now) typed in
    let closed = c.in_ok-push_bytes-3.ensures.added ∙ ap (λ (t : List ℕ). t ++ codes "'") named in
    ap (Fails AttributeError) (closed ∙ in_order (codes "'") c.args.kind.now (codes "' object has no attribute '") c.args.name.now (codes "'"))
