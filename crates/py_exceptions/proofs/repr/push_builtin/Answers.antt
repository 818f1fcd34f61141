use Rattle.std.proofs.Common.{◌≡◌, ◌++◌, ◌∙◌, ℕ, List, subst}
use Rattle.std.specs.Prelude.{OnOk, codes, encode_utf8_all, string_bytes}
use Rattle.py_exceptions.proofs.repr.push_builtin.Goals as goal

pub returns : goal.returns
returns c =
    subst (λ (x : List ℕ). OnOk c.push_named.result (string_bytes c.push_named.new.out ≡ string_bytes c.args.out.now ++ (codes "<built-in function " ++ (encode_utf8_all x ++ codes ">"))))
    (c.in_ok-name.ensures ∙ c.name.ensures) c.push_named.ensures
