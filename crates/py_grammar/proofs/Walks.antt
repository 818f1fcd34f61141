-- What lines come to, from what they come to behind the first.
use Rattle.std.proofs.Common.{◌≡◌, ℕ, suc, List, [], ◌∷◌, Option, Some, None, refl, subst}
use Rattle.std.specs.declared.result.Result.{Result}
use Rattle.std.specs.declared.result.Result.TheVariants.{Ok, Err}
use Rattle.py_lines.specs.Line.{LineRead}
use Rattle.py_lines.specs.Laws.{ReadsSomeWay}
use Rattle.py_lines.specs.Reading.{IsReadAs}
use Rattle.py_grammar.specs.declared.fault.ParseFault.{ParseFault}
use Rattle.py_grammar.specs.declared.fault.ParseFault.TheVariants.{Malformed, NoMemory}
use Rattle.py_grammar.specs.declared.script.Script.{Script}
use Rattle.py_grammar.specs.Script.{Text, decls_of}
use Rattle.py_grammar.specs.Reader.{State, takes_line, at_end, Verdict, Good, Bad, Goes, WalksTo}
use Rattle.py_grammar.specs.Reading.{ComesTo}

-- the first line is taken
walks_on : (st next : State) (n m : ℕ) (l : List ℕ) (ls : Text) (r : LineRead) (v : Verdict) → IsReadAs l r → Some next ≡ takes_line st n r → m ≡ suc n
    → WalksTo next m ls v → WalksTo st n (l ∷ ls) v
walks_on st next n m l ls r v read taken e w = (r, read, subst (λ o. Goes o n (λ s u. WalksTo s (suc n) ls u) v) taken (subst (λ k. WalksTo next k ls v) e w))

pub comes_on : (st next : State) (n m : ℕ) (l : List ℕ) (ls : Text) (r : LineRead) → IsReadAs l r → Some next ≡ takes_line st n r → m ≡ suc n
    → (answer : Result Script ParseFault) → ComesTo next m ls answer → ComesTo st n (l ∷ ls) answer
comes_on st next n m l ls r read taken e (Ok s) c = walks_on st next n m l ls r (Good (decls_of s) s.drives) read taken e c
comes_on st next n m l ls r read taken e (Err (Malformed k)) c = walks_on st next n m l ls r (Bad k) read taken e c
comes_on st next n m l ls r read taken e (Err NoMemory) c = tt

-- all lines come to something, where all bytes read some way
pub walked : ReadsSomeWay → (text : Text) (n : ℕ) (st : State) → (v : Verdict) × WalksTo st n text v
walked some [] n st = (at_end st.decls st.drives st.inside n, refl)
walked some (l ∷ ls) n st = let r = some l in let w = go (takes_line st n r.0) (λ s. walked some ls (suc n) s) in (w.0, (r.0, r.1, w.1))
  where
    go : (o : Option State) → ((s : State) → (v : Verdict) × WalksTo s (suc n) ls v) → (v : Verdict) × Goes o n (λ s u. WalksTo s (suc n) ls u) v
    go None f = (Bad n, refl)
    go (Some s) f = f s
