use Rattle.std.proofs.Common.{◌++◌, List, ℕ, ap, sym, ◌∙◌, append_assoc}
use Rattle.std.specs.Prelude.{string_bytes}
use Rattle.std.proofs.lemmas.Result.{IfOk-weaker}
use Rattle.py_reports.specs.Entries.{entries_text}
use Rattle.py_reports.proofs.EntriesLemmas.{some_entries}
use Rattle.py_reports.proofs.traceback.push_traceback.Goals as goal

pub returns : goal.returns
returns c =
    let some = sym c.is_empty.ensures ∙ c.if-is_empty.false in
    IfOk-weaker c.push_entries.result _ _
    (λ done added. added ∙ ap (λ (bytes : List ℕ). bytes ++ entries_text c.args.scene.now c.args.entries.now) c.in_ok-push_str.ensures.bytes
    ∙ append_assoc (string_bytes c.args.out.now) _ (entries_text c.args.scene.now c.args.entries.now)
    ∙ ap (λ (text : List ℕ). string_bytes c.args.out.now ++ text) (sym (some_entries c.args.scene.now c.args.entries.now some))) c.push_entries.ensures
