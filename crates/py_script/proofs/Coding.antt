-- The codes of declarations that are gone through in order, with one declaration more.
use Rattle.std.proofs.Common.{◌≡◌, ◌≢◌, ◌<◌, ◌+◌, ℕ, suc, Bool, true, false, List, [], ◌∷◌, ◌++◌, length, take, drop, get_or, Some, refl, sym, ap, ◌∙◌, subst, append-nil}
use Rattle.std.specs.Prelude.{None, bytes_eq, map, slice_get}
use Rattle.std.proofs.lemmas.Slice.Eq.{bytes_eq-Decides}
use Rattle.py_check.specs.declared.annotated.Annotated.{Annotated}
use Rattle.py_check.specs.declared.fault.CheckFault.{CheckFault}
use Rattle.py_check.specs.declared.fault.CheckFault.TheVariants as check
use Rattle.py_laid.specs.Fits.{Continues}
use Rattle.py_tree.specs.Tree.{Name}
use Rattle.py_grammar.specs.declared.raw_block.RawBlock.{RawBlock}
use Rattle.py_grammar.specs.declared.script.Declaration.{Declaration}
use Rattle.py_grammar.specs.Grammar.{Decl, ClassDecl, ManagerDecl, FunctionDecl, RawDecl, Coded, OfBody, OfRaw, coded_name, codes_in, decl_name}
use Rattle.py_grammar.specs.Rules.{is_among}
use Rattle.py_grammar.specs.Script.{decl_of}
use Rattle.py_grammar.specs.WellFormed.{IsFounded}
use Rattle.py_meaning.specs.Entries.{AreWellDeclared}
use Rattle.py_meaning.proofs.Entries.{other_name}
use Rattle.py_raw.specs.declared.earlier.Earlier.{Earlier}
use Rattle.py_raw.specs.Earlier.{with_code}
use Rattle.py_raw.specs.RawSheet.{BreaksRule}
use Rattle.py_script.specs.Broken.{IsDeclFault, IsFirstBroken}
use Rattle.py_script.specs.Loaded.{AreReady, IsCodable, IsCodeFor, IsReadyCode}
use Rattle.py_script.specs.Earlier.{earlier_of}
use Rattle.py_script.proofs.Adding.{codes_more, codes_whole, front_is, there, well_next}
use Rattle.py_script.proofs.Broken.{first_broken}
use Rattle.py_script.proofs.Declarations.{earlier_more, ready_more, ready_stays}

-- the code of a declaration that is founded can be made
codable : (before : List Decl) (d : Decl) → IsFounded before d → IsCodable (map coded_name (codes_in before)) d
codable before (ClassDecl c b) founded = tt
codable before (ManagerDecl m e x) founded = tt
codable before (FunctionDecl t) founded = founded
codable before (RawDecl b) founded = founded

-- that of one of which a rule is broken is a raw code
broken_decl : (earlier : Earlier) (d : Decl) (at : ℕ) → IsDeclFault earlier d (check.Breaks at) → (b : RawBlock) × (d ≡ RawDecl b) × BreaksRule earlier b at
broken_decl earlier (ClassDecl c b) at broken = absurd broken
broken_decl earlier (ManagerDecl m e x) at broken = absurd broken
broken_decl earlier (FunctionDecl t) at broken = absurd broken
broken_decl earlier (RawDecl b) at broken = (b, refl, broken)

-- two names that aren't the same
apart : (x y : Name) → y ≢ x → bytes_eq x y ≡ false
apart x y other = by (bytes_eq x y) refl
  where
    by : (b : Bool) → bytes_eq x y ≡ b → bytes_eq x y ≡ false
    by true same = absurd (other (sym ((bytes_eq-Decides x y).0 same)))
    by false differ = differ

-- a name that no declaration has is that of no code
new_code : (x : Name) (ds : List Decl) → ((k : ℕ) (e : Decl) → slice_get ds k ≡ Some e → decl_name e ≢ x) → is_among x (map coded_name (codes_in ds)) ≡ false
new_code x [] other = refl
new_code x (ClassDecl c b ∷ ds) other = new_code x ds (λ k e at. other (suc k) e at)
new_code x (ManagerDecl m f y ∷ ds) other = new_code x ds (λ k e at. other (suc k) e at)
new_code x (FunctionDecl t ∷ ds) other = rw (apart x t.name (other 0 (FunctionDecl t) refl)) (new_code x ds (λ k e at. other (suc k) e at))
new_code x (RawDecl b ∷ ds) other = rw (apart x b.name (other 0 (RawDecl b) refl)) (new_code x ds (λ k e at. other (suc k) e at))

-- the one code of a declaration has its name
own_name : (d : Decl) (k : Coded) → codes_in (d ∷ []) ≡ k ∷ [] → decl_name d ≡ coded_name k
own_name (ClassDecl c b) k is = absurd (cc is)
own_name (ManagerDecl m e x) k is = absurd (cc is)
own_name (FunctionDecl t) k is = let same : OfBody t ≡ k = cc is in ap coded_name same
own_name (RawDecl b) k is = let same : OfRaw b ≡ k = cc is in ap coded_name same

module _ (ds : List Declaration) (i : ℕ) (d : Declaration) (low : i < length ds) (is : d ≡ get_or ds i d) where
  abbrev coded : List Coded
  coded = codes_in (map decl_of (take i ds))

  abbrev with_next : List Coded
  with_next = codes_in (map decl_of (take (i + 1) ds))

  module _ (well : AreWellDeclared (map decl_of ds)) (earlier : Earlier) (counted : earlier ≡ earlier_of coded) where
    pub codable_next : IsCodable earlier.names (decl_of d)
    codable_next =
        subst (λ (e : Earlier). IsCodable e.names (decl_of d)) (sym counted) (codable (map decl_of (take i ds)) (decl_of d) (well_next ds i d low is well).founded)

    -- its name is new
    pub new_next : (x : Name) → x ≡ decl_name (decl_of d) → is_among x earlier.names ≡ false
    new_next x same =
        rw (same, counted)
        (new_code (decl_name (decl_of d)) (map decl_of (take i ds))
        (λ k e at. other_name (map decl_of ds) i (decl_of d) well (there ds i d low is) k e (ap (λ (xs : List Decl). slice_get xs k) (front_is ds i d low is well) ∙ at)))

  module _ (names : List (List ℕ)) (codes : List Annotated) (earlier : Earlier) (ready : AreReady coded (record { names = names; codes = codes })) (counted : earlier ≡ earlier_of coded) where
    -- the next one breaks a rule
    pub broken_next : (fault : CheckFault) (at : ℕ) → fault ≡ check.Breaks at → IsDeclFault earlier (decl_of d) fault → IsFirstBroken (map decl_of ds) (length codes) at
    broken_next fault at same broken =
        let (b, raw, breaks) = broken_decl earlier (decl_of d) at (subst (IsDeclFault earlier (decl_of d)) same broken) in
        let rest : List Coded = codes_in (map decl_of (drop (i + 1) ds)) in
        let whole : codes_in (map decl_of ds) ≡ coded ++ OfRaw b ∷ rest = codes_whole ds i d low is ∙ ap (λ (x : Decl). coded ++ (codes_in (x ∷ []) ++ rest)) raw in
        first_broken (map decl_of ds) coded rest names codes b at whole ready (subst (λ (e : Earlier). BreaksRule e b at) counted breaks)

    module _ (names' : List (List ℕ)) (grows : Continues names names') where
      -- it has no code
      module _ (none : IsCodeFor names' earlier (decl_of d) None) where
        same : with_next ≡ coded
        same = codes_more ds i d low is ∙ (ap (λ (ks : List Coded). coded ++ ks) none ∙ append-nil coded)

        pub ready_none : AreReady with_next (record { names = names'; codes = codes })
        ready_none = subst (λ (ks : List Coded). AreReady ks (record { names = names'; codes = codes })) (sym same) (ready_stays coded names names' codes ready grows)

        pub earlier_none : earlier ≡ earlier_of with_next
        earlier_none = counted ∙ ap earlier_of (sym same)

      -- it has this one
      module _ (code : Annotated) (some : IsCodeFor names' earlier (decl_of d) (Some code)) where
        more : with_next ≡ coded ++ some.0 ∷ []
        more = codes_more ds i d low is ∙ ap (λ (ks : List Coded). coded ++ ks) some.1

        pub ready_some : AreReady with_next (record { names = names'; codes = codes ++ code ∷ [] })
        ready_some =
            subst (λ (ks : List Coded). AreReady ks (record { names = names'; codes = codes ++ code ∷ [] })) (sym more)
            (ready_more coded names names' codes some.0 code ready grows (subst (λ (e : Earlier). IsReadyCode names' e code some.0) counted some.2))

        pub earlier_some : (x : Name) → x ≡ decl_name (decl_of d) → with_code earlier x (length code.code.code.freevars.items) ≡ earlier_of with_next
        earlier_some x named =
            ap (λ (f : Name). with_code earlier f (length code.code.code.freevars.items)) (named ∙ own_name (decl_of d) some.0 some.1)
            ∙ (earlier_more coded earlier names' some.0 code counted some.2 ∙ ap earlier_of (sym more))
