-- Which raw code of a script breaks a rule first, and that none does where codes are compiled.
use Rattle.std.proofs.Common.{◌≡◌, ◌<◌, ◌≤◌, ◌⊎◌, ℕ, zero, suc, true, List, [], ◌∷◌, ◌++◌, length, Some, refl, sym, ap, ◌∙◌, subst, arith, inl, inr}
use Rattle.std.specs.Prelude.{Option, None, map, slice_get, take}
use Rattle.std.proofs.lemmas.Option.{slice_get_within}
use Rattle.std.proofs.lemmas.Bool.{cases_lt, false≢true}
use Rattle.std.proofs.lemmas.List.{take-append-le, take_all}
use Rattle.std.specs.List.{list_all}
use Rattle.py_code.specs.Codes.{Codes}
use Rattle.py_check.specs.declared.annotated.Annotated.{Annotated}
use Rattle.py_grammar.specs.declared.raw_block.RawBlock.{RawBlock}
use Rattle.py_grammar.specs.declared.script.Script.{Script}
use Rattle.py_grammar.specs.Grammar.{Decl, ClassDecl, ManagerDecl, FunctionDecl, RawDecl, Coded, OfBody, OfRaw, coded_name, codes_in}
use Rattle.py_grammar.specs.Script.{decls_of, IsScript}
use Rattle.py_grammar.specs.WellFormed.{IsWellCoded}
use Rattle.py_grammar.proofs.Keeps.{script_keeps}
use Rattle.py_grammar.proofs.Verdicts.{one_tree}
use Rattle.py_raw.specs.declared.earlier.Earlier.{Earlier}
use Rattle.py_raw.specs.RawSheet.{BreaksRule, KeepsRules}
use Rattle.py_raw.proofs.RuleLemmas.{keeps_assembled, keeps_not_breaks, keeps_or_breaks, one_rule_breaks}
use Rattle.py_meaning.specs.Entries.{AreWellDeclared}
use Rattle.py_script.specs.Broken.{AllKeepRules, CodeKeepsRules, FirstKeepRules, IsBrokenFrom, IsFirstBroken, IsLoadFault}
use Rattle.py_script.specs.Laws.{ScriptsKeepOrBreak, SomeIsBroken}
use Rattle.py_script.specs.declared.fault.LoadFault.{LoadFault}
use Rattle.py_script.specs.declared.fault.LoadFault.TheVariants as load
use Rattle.py_meaning.specs.Core.{is_core, IsCoreFrom}
use Rattle.py_script.specs.Compiled.{AreCompiled, IsCodeOf}
use Rattle.py_script.specs.Loaded.{AreReady}
use Rattle.py_script.specs.Earlier.{earlier_before, earlier_of}

-- what is compiled of something keeps the rules
code_keeps : (names : List (List ℕ)) (earlier : Earlier) (c : Annotated) (k : Coded) → IsCodeOf names earlier c k → CodeKeepsRules earlier k
code_keeps names earlier c (OfBody t) is = tt
code_keeps names earlier c (OfRaw b) is = keeps_assembled names earlier c b is.0 is.1

-- so all do where they are compiled
pub compiled_keeps : (decls : List Decl) (cs : Codes) → AreCompiled (codes_in decls) cs → AllKeepRules decls
compiled_keeps decls cs compiled i k at =
    let (c, here, (notes, is)) = compiled.fit i k at in
    code_keeps cs.names (earlier_before (codes_in decls) i) (record { code = c; notes = notes }) k is

-- then none is the first that breaks one
pub none_broken : (decls : List Decl) (code at : ℕ) → AllKeepRules decls → IsFirstBroken decls code at → ⊥
none_broken decls code at keep broken =
    keeps_not_breaks (earlier_before (codes_in decls) code) broken.block at (keep code (OfRaw broken.block) broken.is_there) broken.breaks

-- one that keeps them isn't the first that breaks one
kept_before : (decls : List Decl) (m n a : ℕ) → m < n → FirstKeepRules (codes_in decls) n → IsFirstBroken decls m a → ⊥
kept_before decls m n a low keep broken =
    keeps_not_breaks (earlier_before (codes_in decls) m) broken.block a (keep m (OfRaw broken.block) low broken.is_there) broken.breaks

one_code : (k k' : Coded) → Some k ≡ Some k' → k ≡ k'
one_code k k' is = cc is

same_block : (b b' : RawBlock) → Some (OfRaw b) ≡ Some (OfRaw b') → b ≡ b'
same_block b b' is = cc is

-- at most one is, with one unit
pub one_broken : (decls : List Decl) (m n a b : ℕ) → IsFirstBroken decls m a → IsFirstBroken decls n b → (m ≡ n) × (a ≡ b)
one_broken decls m n a b first other = by (cases_lt m n) (cases_lt n m)
  where
    by : (m < n) ⊎ (n ≤ m) → (n < m) ⊎ (m ≤ n) → (m ≡ n) × (a ≡ b)
    by (inl low) _ = absurd (kept_before decls m n a low other.before first)
    by (inr high) (inl low) = absurd (kept_before decls n m b low first.before other)
    by (inr high) (inr low) =
        let same : m ≡ n = omega (arith, high, low) in
        let earlier = λ (k : ℕ). earlier_before (codes_in decls) k in
        let there : slice_get (codes_in decls) n ≡ Some (OfRaw first.block) = subst (λ (k : ℕ). slice_get (codes_in decls) k ≡ Some (OfRaw first.block)) same first.is_there in
        let breaks = subst (λ (k : ℕ). BreaksRule (earlier k) first.block a) same first.breaks in
        let block : first.block ≡ other.block = same_block first.block other.block (sym there ∙ other.is_there) in
        (same, one_rule_breaks (earlier n) other.block a b (subst (λ (x : RawBlock). BreaksRule (earlier n) x a) block breaks) other.breaks)

-- a raw code is declared as one, after the declarations of the codes before it
raw_declared : (decls : List Decl) (i : ℕ) (b : RawBlock) → slice_get (codes_in decls) i ≡ Some (OfRaw b)
    → (j : ℕ) × (slice_get decls j ≡ Some (RawDecl b)) × (codes_in (take j decls) ≡ take i (codes_in decls))
raw_declared [] i b is = absurd (cc is)
raw_declared (ClassDecl c base ∷ ds) i b is = let (j, at, before) = raw_declared ds i b is in (suc j, at, before)
raw_declared (ManagerDecl m e x ∷ ds) i b is = let (j, at, before) = raw_declared ds i b is in (suc j, at, before)
raw_declared (FunctionDecl t ∷ ds) zero b is = absurd (cc is)
raw_declared (FunctionDecl t ∷ ds) (suc i) b is = let (j, at, before) = raw_declared ds i b is in (suc j, at, ap (λ (ks : List Coded). OfBody t ∷ ks) before)
raw_declared (RawDecl r ∷ ds) zero b is = (zero, ap (λ (x : RawBlock). Some (RawDecl x)) (same_block r b is), refl)
raw_declared (RawDecl r ∷ ds) (suc i) b is = let (j, at, before) = raw_declared ds i b is in (suc j, at, ap (λ (ks : List Coded). OfRaw r ∷ ks) before)

module _ (decls : List Decl) (well : AreWellDeclared decls) where
  -- the first codes keep the rules, or one of them is the first that doesn't
  keep_or_broken : (n : ℕ) → FirstKeepRules (codes_in decls) n ⊎ ((code : ℕ) × (at : ℕ) × IsFirstBroken decls code at)
  keep_or_broken zero = inl (λ i k low is. absurd (omega (arith, low)))
  keep_or_broken (suc n) = by (keep_or_broken n) (slice_get (codes_in decls) n) refl
    where
      -- with the next one, which keeps the rules
      one_more : FirstKeepRules (codes_in decls) n → ((k : Coded) → slice_get (codes_in decls) n ≡ Some k → CodeKeepsRules (earlier_before (codes_in decls) n) k)
          → FirstKeepRules (codes_in decls) (suc n)
      one_more before next i k low is = at (cases_lt i n)
        where
          at : (i < n) ⊎ (n ≤ i) → CodeKeepsRules (earlier_before (codes_in decls) i) k
          at (inl less) = before i k less is
          at (inr more) =
              let same : n ≡ i = omega (arith, low, more) in
              subst (λ (j : ℕ). CodeKeepsRules (earlier_before (codes_in decls) j) k) same (next k (ap (slice_get (codes_in decls)) same ∙ is))

      raw : (b : RawBlock) → slice_get (codes_in decls) n ≡ Some (OfRaw b) → FirstKeepRules (codes_in decls) n
          → KeepsRules (earlier_before (codes_in decls) n) b ⊎ ((at : ℕ) × BreaksRule (earlier_before (codes_in decls) n) b at)
          → FirstKeepRules (codes_in decls) (suc n) ⊎ ((code : ℕ) × (at : ℕ) × IsFirstBroken decls code at)
      raw b is before (inl keeps) = inl (one_more before (λ k here. subst (CodeKeepsRules (earlier_before (codes_in decls) n)) (one_code (OfRaw b) k (sym is ∙ here)) keeps))
      raw b is before (inr (at, breaks)) = inr (n, at, record { block = b; is_there = is; breaks = breaks; before = before })

      by : FirstKeepRules (codes_in decls) n ⊎ ((code : ℕ) × (at : ℕ) × IsFirstBroken decls code at) → (o : Option Coded) → slice_get (codes_in decls) n ≡ o
          → FirstKeepRules (codes_in decls) (suc n) ⊎ ((code : ℕ) × (at : ℕ) × IsFirstBroken decls code at)
      by (inr broken) o is = inr broken
      by (inl before) None is = inl (one_more before (λ k here. absurd (cc (sym is ∙ here))))
      by (inl before) (Some (OfBody t)) is = inl (one_more before (λ k here. subst (CodeKeepsRules (earlier_before (codes_in decls) n)) (one_code (OfBody t) k (sym is ∙ here)) tt))
      by (inl before) (Some (OfRaw b)) is =
          let (j, at, others) = raw_declared decls n b is in
          let coded = subst (λ (ks : List Coded). IsWellCoded (map coded_name ks) b) others (well.each j (RawDecl b) at).founded in
          raw b is before (keeps_or_breaks (earlier_before (codes_in decls) n) b coded)

pub some_is_broken : SomeIsBroken
some_is_broken decls well = by (keep_or_broken decls well (length (codes_in decls)))
  where
    by : FirstKeepRules (codes_in decls) (length (codes_in decls)) ⊎ ((code : ℕ) × (at : ℕ) × IsFirstBroken decls code at) → AllKeepRules decls ⊎ ((code : ℕ) × (at : ℕ) × IsFirstBroken decls code at)
    by (inl keep) = inl (λ i k is. keep i k (slice_get_within (codes_in decls) i k is) is)
    by (inr broken) = inr broken

pub scripts_keep_or_break : ScriptsKeepOrBreak
scripts_keep_or_break bytes s short is =
    let well = script_keeps bytes s short is in
    some_is_broken (decls_of s) (record { each = well.declared; distinct = well.distinct })

-- of bytes that are a script, it is a code of that script
pub broken_in : (bytes : List ℕ) (s : Script) (code at : ℕ) → IsScript bytes s → IsBrokenFrom bytes code at → IsFirstBroken (decls_of s) code at
broken_in bytes s code at is (t, is', broken) = subst (λ (ds : List Decl). IsFirstBroken ds code at) (one_tree bytes t s is' is).0 broken

-- a raw code breaks a rule after codes that were made
pub first_broken : (decls : List Decl) (coded rest : List Coded) (names : List (List ℕ)) (codes : List Annotated) (b : RawBlock) (at : ℕ)
    → codes_in decls ≡ coded ++ OfRaw b ∷ rest → AreReady coded (record { names = names; codes = codes }) → BreaksRule (earlier_of coded) b at
    → IsFirstBroken decls (length codes) at
first_broken decls coded rest names codes b at whole ready breaks = record {
  block = b;
  is_there = ap (slice_get (codes_in decls)) ready.count ∙ (ap (λ (ks : List Coded). slice_get ks (length coded)) whole ∙ slice_get_at coded (OfRaw b) rest);
  breaks = subst (λ (e : Earlier). BreaksRule e b at) (sym (ap (earlier_before (codes_in decls)) ready.count ∙ (earlier_in (length coded) (omega arith) ∙ ap earlier_of (take_all (length coded) coded (omega arith))))) breaks;
  before = λ i k low is. keeps i k (let count = ready.count in let e : i < length coded = omega (arith, low, count) in e) is;
}
  where
    slice_get_at : (xs : List Coded) (x : Coded) (ys : List Coded) → slice_get (xs ++ x ∷ ys) (length xs) ≡ Some x
    slice_get_at [] x ys = refl
    slice_get_at (w ∷ ws) x ys = slice_get_at ws x ys

    slice_get_front : (xs ys : List Coded) (i : ℕ) → i < length xs → slice_get (xs ++ ys) i ≡ slice_get xs i
    slice_get_front [] ys i low = absurd (omega (arith, low))
    slice_get_front (w ∷ ws) ys zero low = refl
    slice_get_front (w ∷ ws) ys (suc i) low = slice_get_front ws ys i (omega (arith, low))

    earlier_in : (i : ℕ) → i ≤ length coded → earlier_before (codes_in decls) i ≡ earlier_before coded i
    earlier_in i low = ap (λ (ks : List Coded). earlier_before ks i) whole ∙ ap earlier_of (take-append-le i coded (OfRaw b ∷ rest) low)

    keeps : (i : ℕ) (k : Coded) → i < length coded → slice_get (codes_in decls) i ≡ Some k → CodeKeepsRules (earlier_before (codes_in decls) i) k
    keeps i k low is =
        let here : slice_get coded i ≡ Some k = sym (slice_get_front coded (OfRaw b ∷ rest) i low) ∙ (ap (λ (ks : List Coded). slice_get ks i) (sym whole) ∙ is) in
        let (c, there, own) = ready.fit i k here in
        subst (λ (e : Earlier). CodeKeepsRules e k) (sym (earlier_in i (omega (arith, low)))) (code_keeps names (earlier_before coded i) c k own.is)

-- a script without raw codes isn't refused
core_coded : (decls : List Decl) (i : ℕ) (b : RawBlock) → list_all is_core decls ≡ true → slice_get (codes_in decls) i ≡ Some (OfRaw b) → ⊥
core_coded [] i b core is = cc is
core_coded (ClassDecl c base ∷ ds) i b core is = core_coded ds i b core is
core_coded (ManagerDecl m e x ∷ ds) i b core is = core_coded ds i b core is
core_coded (FunctionDecl t ∷ ds) zero b core is = cc is
core_coded (FunctionDecl t ∷ ds) (suc i) b core is = core_coded ds i b core is
core_coded (RawDecl r ∷ ds) i b core is = false≢true core

pub core_not_broken : (bytes : List ℕ) (s : Script) (fault : LoadFault) (code at : ℕ) → IsCoreFrom bytes → IsScript bytes s → fault ≡ load.Refused code at → IsLoadFault (decls_of s) fault → ⊥
core_not_broken bytes s fault code at (t, is', core) is refused broken =
    let first : IsFirstBroken (decls_of s) code at = subst (IsLoadFault (decls_of s)) refused broken in
    core_coded (decls_of s) code first.block (subst (λ (l : List Decl). list_all is_core l ≡ true) (one_tree bytes t s is' is).0 core.declares) first.is_there
