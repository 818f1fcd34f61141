use Rattle.std.proofs.Common.{◌-◌, ◌∙◌, ℕ, ap}
use Rattle.py_frame.proofs.LocationLemmas.{location_there}
use Rattle.py_frame.proofs.frame.Frame.current_location.Goals as goal

pub returns : goal.returns
returns g c =
    location_there _ _ c.args.self.now.state.last _ _ c.code.ensures.typed c.code.ensures.value c.requires
    (c.saturating_sub.ensures ∙ ap (λ (n : ℕ). n - 1) c.lasti.ensures) c.index.ensures
