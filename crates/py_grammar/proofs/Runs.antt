-- What the reader has behind rows.
use Rattle.std.proofs.Common.{◌≡◌, List, [], ◌∷◌, ◌++◌, Option, Some, None, refl}
use Rattle.py_grammar.specs.Grammar.{Row}
use Rattle.py_grammar.specs.Reader.{State, accept}

abbrev pub and_then : Option State → (State → Option State) → Option State
and_then None f = None
and_then (Some s) f = f s

-- what a reader has behind some rows
abbrev pub run : State → List Row → Option State
run st [] = Some st
run st (r ∷ rows) = and_then (accept st r.number r.line) (λ s. run s rows)

-- rows behind rows
pub run-append : (st : State) (rows more : List Row) → run st (rows ++ more) ≡ and_then (run st rows) (λ s. run s more)
run-append st [] more = refl
run-append st (r ∷ rows) more = go (accept st r.number r.line) (λ s. run-append s rows more)
  where
    go : (o : Option State) → ((s : State) → run s (rows ++ more) ≡ and_then (run s rows) (λ q. run q more))
        → and_then o (λ s. run s (rows ++ more)) ≡ and_then (and_then o (λ s. run s rows)) (λ q. run q more)
    go None f = refl
    go (Some s) f = f s
