use Rattle.std.proofs.Common.{◌≡◌, length, sym, ◌∙◌, rules}
use Rattle.py_objects.proofs.StoreLemmas.{length-made}
use Rattle.py_objects.proofs.store.Store.len.Goals as goal

pub returns : goal.returns
returns c =
    let long : c.len.result ≡ length c.self.inside.payloads.items = search rules in
    long ∙ sym (length-made _ _ _ _ _ c.self.invariant.0 c.args.self.now c.self.view_is)
