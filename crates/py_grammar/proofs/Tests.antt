-- What tests on lists tell.
use Rattle.std.proofs.Common.{◌≡◌, List, [], ◌∷◌, Bool, true}
use Rattle.std.proofs.lemmas.List.Elements.{All-nil, All-cons}
use Rattle.std.proofs.lemmas.Bool.{and_parts}
use Rattle.std.specs.Prelude.{All}
use Rattle.std.specs.List.{list_all}

-- each element has what the test says
pub all_by_test : {X : Type 0} (p : X → Bool) (P : X → Type 0) → ((x : X) → p x ≡ true → P x) → (xs : List X) → list_all p xs ≡ true → All P xs
all_by_test p P f [] h = All-nil P
all_by_test p P f (x ∷ xs) h = let parts = and_parts (p x) (list_all p xs) h in All-cons P x xs (f x parts.0) (all_by_test p P f xs parts.1)
