-- The codes that a script declares, one behind the other.
use Rattle.std.proofs.Common.{◌≡◌, ◌<◌, ◌≤◌, ◌+◌, ℕ, zero, suc, List, [], ◌∷◌, ◌++◌, length, Some, refl, sym, ap, ap₂, ◌∙◌, subst, arith, length-append, append-nil, append_assoc, ◌⊎◌, inl, inr, get_or, take}
use Rattle.std.specs.Prelude.{Option, option_map, chars, slice_get, map}
use Rattle.std.specs.List.{list_all}
use Rattle.std.proofs.lemmas.List.{map-append, length-map, length-take-le, take-append-le, take_all}
use Rattle.std.proofs.lemmas.Grind.{take_at_read}
use Rattle.std.proofs.lemmas.Option.{slice_get-map, slice_get-get_or, slice_get_within}
use Rattle.py_code.specs.declared.flags.CodeFlags.{CodeFlags}
use Rattle.py_code.specs.declared.flags.TheConstants.CodeFlags.{HAS_VARARGS, HAS_VARKEYWORDS}
use Rattle.py_code.specs.declared.code.PyCode.{PyCode}
use Rattle.py_code.specs.declared.names.NameId.{NameId}
use Rattle.py_check.specs.declared.annotated.Annotated.{Annotated}
use Rattle.py_check.specs.WholeCode.{counts_if}
use Rattle.py_objects.specs.declared.payload.CoroKind.{CoroKind}
use Rattle.py_objects.specs.Objects.{Obj, Name, numbers, AllBelow}
use Rattle.py_rows.specs.Asked.{name_in}
use Rattle.py_rows.specs.Signature.{characters, kind_of, params_of}
use Rattle.py_rows.specs.Sound.{AreNames, ArePlaces, IsSound}
use Rattle.py_objects.proofs.GrowthLemmas.{slice_get_grown}
use Rattle.py_tree.specs.declared.body.BodyKind.{BodyKind}
use Rattle.py_tree.specs.declared.body.BodyKind.TheVariants as kind
use Rattle.py_tree.specs.Tree.{Tree, seen_as}
use Rattle.py_laid.specs.Code.{IsPlain, flags_of}
use Rattle.py_laid.proofs.NamingLemmas.{IsNameOf-grown}
use Rattle.py_laid.specs.Fits.{Fits, Continues}
use Rattle.py_grammar.specs.declared.script.Declaration.{Declaration}
use Rattle.py_grammar.specs.Grammar.{Decl, Coded, OfBody, OfRaw, coded_name}
use Rattle.py_grammar.specs.Script.{decl_of}
use Rattle.py_run.specs.Run.{Signature}
use Rattle.py_vm.specs.Codes.{Checked, CodeIsAnswered, IsDriven, TakesPositional, plain_codes, shapes_of, signature_in, signatures_of, takes_none}
use Rattle.py_run.proofs.BoundLemmas.{AreSigned}
use Rattle.py_objects.proofs.NewLemmas.{newest}
use Rattle.py_meaning.specs.Whole.{signature_of}
use Rattle.py_script.specs.Compiled.{AreCompiled, IsCodeOf}
use Rattle.py_script.specs.Loaded.{AreChecked, AreLoadable, AreReady, IsLoadable, IsReadyCode}
use Rattle.py_script.specs.Earlier.{earlier_before, earlier_of, free_names}
use Rattle.py_raw.specs.declared.earlier.Earlier.{Earlier}
use Rattle.py_raw.specs.Earlier.{with_code}
use Rattle.py_raw.proofs.AssembledLemmas.{assembled_continues}
use Rattle.py_meaning.proofs.Entries.{one_more}

-- the entry of a list that is mapped
pub entry_mapped : {A B : Type 0} (f : A → B) (xs : List A) (i : ℕ) (x : A) → slice_get xs i ≡ Some x → slice_get (map f xs) i ≡ Some (f x)
entry_mapped f xs i x is = slice_get-map f xs i ∙ ap (option_map f) is

-- the next entry of a list, as a loop has it
pub entry_read : {A : Type 0} (xs : List A) (i : ℕ) (x : A) → i < length xs → x ≡ get_or xs i x → slice_get xs i ≡ Some x
entry_read xs i x low is = slice_get-get_or xs i x low ∙ ap Some (sym is)

-- the front of a list up to it
pub front_more : {A B : Type 0} (f : A → B) (xs : List A) (i : ℕ) (x : A) → i < length xs → x ≡ get_or xs i x → map f (take (i + 1) xs) ≡ map f (take i xs) ++ f x ∷ []
front_more f xs i x low is = ap (map f) (take_at_read xs i x low).1 ∙ (map-append f (take i xs) (get_or xs i x ∷ []) ∙ ap (λ y. map f (take i xs) ++ f y ∷ []) (sym is))

pub front_length : {A B : Type 0} (f : A → B) (xs : List A) (i : ℕ) → i < length xs → length (map f (take i xs)) ≡ i
front_length f xs i low = length-map (take i xs) f ∙ length-take-le i xs (omega (arith, low))

pub front_whole : {A B : Type 0} (f : A → B) (xs : List A) (i : ℕ) → length xs ≤ i → map f (take i xs) ≡ map f xs
front_whole f xs i high = ap (map f) (take_all i xs high)

-- what was said of the declarations of a slice holds of those of its list
pub of_decls : (P : List Decl → Type 0) (some all : List Declaration) → some ≡ all → P (map decl_of some) → P (map decl_of all)
of_decls P some all same is = subst (λ (l : List Declaration). P (map decl_of l)) same is

-- names that are places in a table are so in one that goes on
names_continue : (names names' : List (List ℕ)) (c : PyCode) → Continues names names' → AreNames names c → AreNames names' c
names_continue names names' c (more, is) named =
    let size : length names' ≡ length names + length more = ap length is ∙ length-append names more in
    record {
      locals = λ i id at. let low = named.locals i id at in omega (arith, low, size);
      globals = λ i id at. let low = named.globals i id at in omega (arith, low, size);
    }

-- a code that is sound for a table is so for one that goes on
sound_continues : (names names' : List (List ℕ)) (c : Annotated) → Continues names names' → IsSound names c → IsSound names' c
sound_continues names names' c grows sound = record {
  shapes = sound.shapes;
  typed = sound.typed;
  runs = sound.runs;
  named = names_continue names names' c.code grows sound.named;
}

-- a list that goes on goes on also where that goes on
continues_on : (a b c : List (List ℕ)) → Continues a b → Continues b c → Continues a c
continues_on a b c (more, is) (rest, goes) = (more ++ rest, goes ∙ ap (λ l. l ++ rest) is ∙ append_assoc a more rest)

-- the names of the first places stay, where the table goes on
params_stay : (names more : List (List ℕ)) (n : ℕ) (ids : List NameId) → ArePlaces names ids
    → map (λ id. characters (name_in (names ++ more) (Some id))) (take n ids) ≡ map (λ id. characters (name_in names (Some id))) (take n ids)
params_stay names more zero ids there = refl
params_stay names more (suc n) [] there = refl
params_stay names more (suc n) (id ∷ ids) there =
    let name : List ℕ = get_or names id.index [] in
    let here : slice_get names id.index ≡ Some name = slice_get-get_or names id.index [] (there zero id refl) in
    let same : slice_get (names ++ more) id.index ≡ slice_get names id.index = slice_get_grown names more id.index name here ∙ sym here in
    let one : characters (name_in (names ++ more) (Some id)) ≡ characters (name_in names (Some id)) = ap (λ (o : Option (List ℕ)). characters (option_map chars o)) same in
    let others = params_stay names more n ids (λ i k at. there (suc i) k at) in
    λ k. one k ∷ others k

-- so do the parameters of a code
params_continue : (names names' : List (List ℕ)) (c : PyCode) → Continues names names' → AreNames names c → params_of names' c ≡ params_of names c
params_continue names names' c (more, is) named =
    ap (λ (table : List (List ℕ)). params_of table c) is ∙ params_stay names more c.code.arg_count c.code.varnames.items named.locals

-- so it fits its tree
fits_continues : (names names' : List (List ℕ)) (c : Annotated) (t : Tree) → Continues names names' → Fits names c t → Fits names' c t
fits_continues names names' c t grows fits = record {
  kind = fits.kind;
  arity = fits.arity;
  params = params_continue names names' c.code grows fits.sound.named ∙ fits.params;
  source_path = IsNameOf-grown names names' c.code.code.source_path _ grows fits.source_path;
  obj_name = IsNameOf-grown names names' c.code.code.obj_name _ grows fits.obj_name;
  sound = sound_continues names names' c grows fits.sound;
  typed = fits.typed;
  traces = λ table globals closure objects throws slot args ts s on. fits.traces table globals closure objects throws slot args ts s (continues_on names names' table grows on);
}

-- activations of bodies run through, or are those of a generator
kind_driven : (k : BodyKind) → IsDriven (seen_as k)
kind_driven kind.Function = tt
kind_driven kind.Generator = tt

-- so are those of codes that fit bodies
pub fits_driven : (names : List (List ℕ)) (c : Annotated) (t : Tree) → Fits names c t → IsDriven (kind_of c.code.code.flags)
fits_driven names c t fits = subst IsDriven (sym fits.kind) (kind_driven t.kind)

-- the code of a body takes positional arguments alone
pub plain_positional : (c : Annotated) (t : Tree) → IsPlain c t → TakesPositional c.code.code
plain_positional c t plain = record {
  varargs = ap (λ (flags : CodeFlags). counts_if flags HAS_VARARGS) plain.flags ∙ no_varargs t.kind;
  varkeywords = ap (λ (flags : CodeFlags). counts_if flags HAS_VARKEYWORDS) plain.flags ∙ no_varkeywords t.kind;
  keyword_only = plain.kwonlyarg_count;
  cells = ap (list_all takes_none) plain.cells.1;
}
  where
    no_varargs : (k : BodyKind) → counts_if (flags_of k) HAS_VARARGS ≡ 0
    no_varargs kind.Function = refl
    no_varargs kind.Generator = refl

    no_varkeywords : (k : BodyKind) → counts_if (flags_of k) HAS_VARKEYWORDS ≡ 0
    no_varkeywords kind.Function = refl
    no_varkeywords kind.Generator = refl

-- a code of something is so also with names that go on
code_continues : (names names' : List (List ℕ)) (earlier : Earlier) (c : Annotated) (k : Coded) → Continues names names' → IsCodeOf names earlier c k → IsCodeOf names' earlier c k
code_continues names names' earlier c (OfBody t) grows is = fits_continues names names' c t grows is
code_continues names names' earlier c (OfRaw b) grows is = (assembled_continues names names' earlier.names c b grows is.0, is.1)

-- and it is ready
ready_continues : (names names' : List (List ℕ)) (earlier : Earlier) (c : Annotated) (k : Coded) → Continues names names' → IsReadyCode names earlier c k → IsReadyCode names' earlier c k
ready_continues names names' earlier c k grows ready =
    let named = ready.loadable.named in
    record {
      is = code_continues names names' earlier c k grows ready.is;
      signed = ready.signed ∙ ap (λ (xs : List Name). let s : Signature = record { params = xs; kind = kind_of c.code.code.flags } in s) (sym (params_continue names names' c.code grows named));
      free = ready.free;
      loadable = record { typed = ready.loadable.typed; runs = ready.loadable.runs; named = names_continue names names' c.code grows named; answered = ready.loadable.answered };
    }

-- there is no code yet
pub none_ready : (names : List (List ℕ)) → AreReady [] (record { names = names; codes = [] })
none_ready names = record { count = refl; fit = λ i k none. absurd (cc none) }

-- codes stay ready as the table goes on
pub ready_stays : (coded : List Coded) (names names' : List (List ℕ)) (cs : List Annotated) → AreReady coded (record { names = names; codes = cs }) → Continues names names'
    → AreReady coded (record { names = names'; codes = cs })
ready_stays coded names names' cs all grows = record {
  count = all.count;
  fit = λ i k is. let (c, at, ready) = all.fit i k is in (c, at, ready_continues names names' (earlier_before coded i) c k grows ready);
}

-- the codes before one of a list stay those before it as the list goes on
earlier_stay : (coded : List Coded) (k : Coded) (i : ℕ) → i ≤ length coded → earlier_before (coded ++ k ∷ []) i ≡ earlier_before coded i
earlier_stay coded k i low = ap earlier_of (take-append-le i coded (k ∷ []) low)

-- and those before the last are all others
earlier_whole : (coded : List Coded) (k : Coded) → earlier_before (coded ++ k ∷ []) (length coded) ≡ earlier_of coded
earlier_whole coded k = earlier_stay coded k (length coded) (omega arith) ∙ ap earlier_of (take_all (length coded) coded (omega arith))

-- there is one code more, as the table goes on
pub ready_more : (coded : List Coded) (names names' : List (List ℕ)) (cs : List Annotated) (k : Coded) (c : Annotated) → AreReady coded (record { names = names; codes = cs })
    → Continues names names' → IsReadyCode names' (earlier_of coded) c k → AreReady (coded ++ k ∷ []) (record { names = names'; codes = cs ++ c ∷ [] })
ready_more coded names names' cs k c all grows own = record {
  count = length-append cs (c ∷ []) ∙ ap (λ n. n + 1) all.count ∙ sym (length-append coded (k ∷ []));
  fit = λ i u is. go i u (one_more coded k u i is);
}
  where
    go : (i : ℕ) (u : Coded) → (slice_get coded i ≡ Some u) ⊎ ((i ≡ length coded) × (k ≡ u))
        → (d : Annotated) × (slice_get (cs ++ c ∷ []) i ≡ Some d) × IsReadyCode names' (earlier_before (coded ++ k ∷ []) i) d u
    go i u (inl old) =
        let (d, at, ready) = all.fit i u old in
        let low : i < length coded = slice_get_within coded i u old in (
          d,
          slice_get_grown cs (c ∷ []) i d at,
          subst (λ (e : Earlier). IsReadyCode names' e d u) (sym (earlier_stay coded k i (omega (arith, low)))) (ready_continues names names' (earlier_before coded i) d u grows ready),
        )
    go i u (inr (at, new)) =
        let here : IsReadyCode names' (earlier_before (coded ++ k ∷ []) i) c k =
        subst (λ (e : Earlier). IsReadyCode names' e c k) (sym (ap (earlier_before (coded ++ k ∷ [])) at ∙ earlier_whole coded k)) own in
        (c, ap (slice_get (cs ++ c ∷ [])) (at ∙ sym all.count) ∙ newest cs c, subst (IsReadyCode names' (earlier_before (coded ++ k ∷ []) i) c) new here)

-- earlier codes by both parts
-- earlier codes by both parts
abbrev codes_with : List Name → List ℕ → Earlier
codes_with names shapes = record { names = names; shapes = shapes }

-- with one code more, what later codes read is that of the longer list
pub earlier_more : (coded : List Coded) (earlier : Earlier) (names : List (List ℕ)) (k : Coded) (c : Annotated) → earlier ≡ earlier_of coded
    → IsReadyCode names earlier c k → with_code earlier (coded_name k) (length c.code.code.freevars.items) ≡ earlier_of (coded ++ k ∷ [])
earlier_more coded earlier names k c is ready =
    ap (with_code earlier (coded_name k)) ready.free
    ∙ (ap (λ (e : Earlier). with_code e (coded_name k) (free_names k)) is
    ∙ sym (ap₂ codes_with (map-append coded_name coded (k ∷ [])) (map-append free_names coded (k ∷ []))))

-- the front of two lists maps alike where each two entries do
same_front : {A B C : Type 0} (f : A → C) (g : B → C) (n : ℕ) (xs : List A) (ys : List B) → length xs ≡ length ys
    → ((i : ℕ) (x : A) (y : B) → slice_get xs i ≡ Some x → slice_get ys i ≡ Some y → f x ≡ g y) → map f (take n xs) ≡ map g (take n ys)
same_front f g zero xs ys same each = refl
same_front f g (suc n) [] [] same each = refl
same_front f g (suc n) [] (y ∷ ys) same each = absurd (cc same)
same_front f g (suc n) (x ∷ xs) [] same each = absurd (cc same)
same_front f g (suc n) (x ∷ xs) (y ∷ ys) same each =
    let others = same_front f g n xs ys (let less : length xs ≡ length ys = cc same in less) (λ i a b at here. each (suc i) a b at here) in
    ap (λ c. c ∷ map f (take n xs)) (each zero x y refl refl) ∙ ap (λ cs. g y ∷ cs) others

-- of codes that a machine takes one after another it takes the first, and then the others
pub first_loadable : (cs : Checked) (c : Annotated) (more : List Annotated) → AreLoadable cs (c ∷ more) → IsLoadable cs.names (shapes_of cs.codes) c
first_loadable cs c more all = subst (λ (codes : List Annotated). IsLoadable cs.names (shapes_of codes) c) (append-nil cs.codes) (all zero c refl)

pub others_loadable : (cs : Checked) (c : Annotated) (more : List Annotated) → AreLoadable cs (c ∷ more) → AreLoadable (record cs { codes = cs.codes ++ c ∷ [] }) more
others_loadable cs c more all i d at =
    subst (λ (codes : List Annotated). IsLoadable cs.names (shapes_of codes) d) (sym (append_assoc cs.codes (c ∷ []) (take i more))) (all (suc i) d at)

-- what is at a place of a list is at that of one as long
at_place : {A B : Type 0} (xs : List A) (ys : List B) (i : ℕ) (x : A) → length xs ≡ length ys → slice_get xs i ≡ Some x → (y : B) × (slice_get ys i ≡ Some y)
at_place [] ys i x same is = absurd (cc is)
at_place (x ∷ xs) [] i z same is = absurd (cc same)
at_place (x ∷ xs) (y ∷ ys) zero z same is = (y, refl)
at_place (x ∷ xs) (y ∷ ys) (suc i) z same is = at_place xs ys i z (let less : length xs ≡ length ys = cc same in less) is

-- an entry of a list that is mapped
mapped_entry : {A B : Type 0} (f : A → B) (xs : List A) (i : ℕ) (y : B) → slice_get (map f xs) i ≡ Some y → (x : A) × (slice_get xs i ≡ Some x) × (f x ≡ y)
mapped_entry f [] i y is = absurd (cc is)
mapped_entry f (x ∷ xs) zero y is = (x, refl, cc is)
mapped_entry f (x ∷ xs) (suc i) y is = mapped_entry f xs i y is

one_entry : {X : Type 0} (x y : X) → Some x ≡ Some y → x ≡ y
one_entry x y is = cc is

-- each code is one of what has its place
ready_is : (coded : List Coded) (cs : Checked) (i : ℕ) (c : Annotated) → AreReady coded cs → slice_get cs.codes i ≡ Some c
    → (k : Coded) × (slice_get coded i ≡ Some k) × IsReadyCode cs.names (earlier_before coded i) c k
ready_is coded cs i c all is =
    let (k, at) = at_place cs.codes coded i c all.count is in
    let (d, here, own) = all.fit i k at in
    (k, at, subst (λ (x : Annotated). IsReadyCode cs.names (earlier_before coded i) x k) (one_entry d c (sym here ∙ is)) own)

-- codes that are ready are checked
pub ready_checked : (coded : List Coded) (cs : Checked) → AreReady coded cs → AreChecked coded cs
ready_checked coded cs all = record {
  count = all.count;
  fit = λ i k at. let (c, here, ready) = all.fit i k at in (c, here, ready.is, ready.signed);
}

-- a machine without codes takes them one after another
pub ready_loadable : (coded : List Coded) (cs : Checked) → AreReady coded cs → AreLoadable (record { names = cs.names; codes = [] }) cs.codes
ready_loadable coded cs all i c is =
    let (k, at, ready) = ready_is coded cs i c all is in
    subst (λ (s : List ℕ). IsLoadable cs.names s c) shapes ready.loadable
  where
    free : (j : ℕ) (u : Coded) (d : Annotated) → slice_get coded j ≡ Some u → slice_get cs.codes j ≡ Some d → free_names u ≡ length d.code.code.freevars.items
    free j u d at here = let (e, there, ready) = all.fit j u at in sym (ap (λ (a : Annotated). length a.code.code.freevars.items) (one_entry d e (sym here ∙ there)) ∙ ready.free)

    shapes : (earlier_before coded i).shapes ≡ shapes_of (take i cs.codes)
    shapes = same_front free_names (λ (a : Annotated). length a.code.code.freevars.items) i coded cs.codes (sym all.count) free

-- codes that were checked are compiled, with their notes
pub checked_compiled : (coded : List Coded) (cs : Checked) → AreChecked coded cs → AreCompiled coded (plain_codes cs)
checked_compiled coded cs all = record {
  count = length-map cs.codes (λ (a : Annotated). a.code) ∙ all.count;
  fit = λ i k at.
      let (d, here, is, signed) = all.fit i k at in
      (d.code, entry_mapped (λ (a : Annotated). a.code) cs.codes i d here, (d.notes, is));
}

-- the code of a body is ready where it fits
pub fits_ready : (names : List (List ℕ)) (earlier : Earlier) (c : Annotated) (t : Tree) → Fits names c t → IsPlain c t → CodeIsAnswered c.code → IsReadyCode names earlier c (OfBody t)
fits_ready names earlier c t fits plain answered = record {
  is = fits;
  signed = ap (λ (xs : List Name). let s : Signature = record { params = xs; kind = seen_as t.kind } in s) (sym fits.params)
      ∙ ap (λ (o : Option CoroKind). let s : Signature = record { params = params_of names c.code; kind = o } in s) (sym fits.kind);
  free = ap length plain.cells.2;
  loadable = record { typed = fits.typed earlier.shapes; runs = fits.sound.runs; named = fits.sound.named; answered = answered };
}

-- all codes have the signatures of what they are of
pub codes_signed : (coded : List Coded) (cs : Checked) → AreChecked coded cs → AreSigned (signatures_of cs) (map signature_of coded)
codes_signed coded cs all i s is =
    let (c, at, signs) = mapped_entry (signature_in cs.names) cs.codes i s is in
    let (k, here) = at_place cs.codes coded i c all.count at in
    let (d, there, own, signed) = all.fit i k here in
    entry_mapped signature_of coded i k here ∙ ap Some (signed ∙ (ap (signature_in cs.names) (one_entry d c (sym there ∙ at)) ∙ signs))

-- what a signature is of
pub signed_by : (coded : List Coded) (i : ℕ) (s : Signature) → slice_get (map signature_of coded) i ≡ Some s → (k : Coded) × (slice_get coded i ≡ Some k) × (s.params ≡ (signature_of k).params)
signed_by coded i s is =
    let (k, at, signs) = mapped_entry signature_of coded i s is in
    (k, at, ap (λ (x : Signature). x.params) (sym signs))

pub numbers_more : (n : ℕ) (vs : List Obj) (v : Obj) → AllBelow n (numbers vs) → v.number < n → AllBelow n (numbers (vs ++ v ∷ []))
numbers_more n [] v below low = (low, tt)
numbers_more n (w ∷ vs) v below low = (below.0, numbers_more n vs v below.1 low)
