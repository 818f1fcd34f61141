-- Texts and tables that grow at their end.
use Rattle.std.specs.Prelude.{List, ◌++◌, ◌≡◌}

-- more may have come behind what was there
abbrev pub IsGrown : {A : Type 0} → List A → List A → Type 0
IsGrown {A} old new = (more : List A) × (new ≡ old ++ more)
