-- Where the codes of a machine were written is what reports of the script tell.
use Rattle.std.proofs.Common.{◌≡◌, ◌≤◌, ◌<◌, ◌+◌, ◌∙◌, ℕ, zero, suc, List, [], ◌∷◌, Some, None, refl, sym, ap, length, arith}
use Rattle.std.specs.Prelude.{Option, slice_get, map, codes, encode_utf8_all, option_map}
use Rattle.std.proofs.lemmas.Option.{slice_get_past, slice_get-map}
use Rattle.py_code.specs.declared.names.NameId.{NameId}
use Rattle.py_check.specs.declared.annotated.Annotated.{Annotated}
use Rattle.py_laid.specs.Naming.{IsNameOf}
use Rattle.py_grammar.specs.Grammar.{Coded, OfBody, OfRaw, coded_name}
use Rattle.py_raw.specs.declared.earlier.Earlier.{Earlier}
use Rattle.py_reports.specs.declared.place.Place.{Place}
use Rattle.py_reports.specs.Scenes.{bytes_or_none, name_at, name_in, path_in}
use Rattle.py_run.proofs.GrownReports.{SamePlaces}
use Rattle.py_vm.specs.Codes.{Checked, place_in, places_in}
use Rattle.py_meaning.proofs.Journals.{ascii_bytes}
use Rattle.py_meaning.specs.Reported.{names_of, places_from, script_path}
use Rattle.py_script.specs.Compiled.{IsCodeOf}
use Rattle.py_script.specs.Loaded.{AreChecked}
use Rattle.py_script.specs.Earlier.{earlier_before}

-- the names of a code in a table
record IsWritten (names : List (List ℕ)) (a : Annotated) (c : Coded) : Type 0 where
  source_path : IsNameOf names a.code.code.source_path (codes "<script>")
  obj_name : IsNameOf names a.code.code.obj_name (encode_utf8_all (coded_name c))

written : (names : List (List ℕ)) (earlier : Earlier) (a : Annotated) (c : Coded) → IsCodeOf names earlier a c → IsWritten names a c
written names earlier a (OfBody t) is = record { source_path = is.source_path; obj_name = is.obj_name }
written names earlier a (OfRaw b) is = record { source_path = is.0.source_path; obj_name = is.0.obj_name.0 }

-- a name is its text
named_as : (names : List (List ℕ)) (id : NameId) (text : List ℕ) → IsNameOf names id text → name_at names id ≡ text
named_as names id text is = ap bytes_or_none is.1

-- the path of scripts has characters of one byte alone
path_is : encode_utf8_all script_path ≡ codes "<script>"
path_is = ascii_bytes script_path refl

-- the place of a code of a script
place_there : (n k : ℕ) (coded : List Coded) (c : Coded) → slice_get coded k ≡ Some c → slice_get (places_from n coded) k ≡ Some (record { source_path = record { index = 0 }; obj_name = record { index = n + k } })
place_there n k [] c at = absurd (cc at)
place_there n zero (d ∷ coded) c at = ap (λ (i : ℕ). let p : Place = record { source_path = record { index = 0 }; obj_name = record { index = i } } in Some p) (let e : n ≡ n + 0 = omega arith in e)
place_there n (suc k) (d ∷ coded) c at =
    place_there (suc n) k coded c at ∙ ap (λ (i : ℕ). let p : Place = record { source_path = record { index = 0 }; obj_name = record { index = i } } in Some p) (let e : suc n + k ≡ n + suc k = omega arith in e)

no_place : (n k : ℕ) (coded : List Coded) → slice_get coded k ≡ None → slice_get (places_from n coded) k ≡ None
no_place n k [] at = refl
no_place n zero (d ∷ coded) at = absurd (cc at)
no_place n (suc k) (d ∷ coded) at = no_place (suc n) k coded at

name_there : (coded : List Coded) (k : ℕ) (c : Coded) → slice_get coded k ≡ Some c → slice_get (map (λ (x : Coded). encode_utf8_all (coded_name x)) coded) k ≡ Some (encode_utf8_all (coded_name c))
name_there [] k c at = absurd (cc at)
name_there (d ∷ coded) zero c at = let same : d ≡ c = cc at in ap (λ (x : Coded). Some (encode_utf8_all (coded_name x))) same
name_there (d ∷ coded) (suc k) c at = name_there coded k c at

code_place : (list : List Annotated) (k : ℕ) (a : Annotated) → slice_get list k ≡ Some a → slice_get (map place_in list) k ≡ Some (place_in a)
code_place [] k a at = absurd (cc at)
code_place (b ∷ list) zero a at = let same : b ≡ a = cc at in ap (λ (x : Annotated). Some (place_in x)) same
code_place (b ∷ list) (suc k) a at = code_place list k a at

no_code_place : (list : List Annotated) (k : ℕ) → slice_get list k ≡ None → slice_get (map place_in list) k ≡ None
no_code_place [] k at = refl
no_code_place (b ∷ list) zero at = absurd (cc at)
no_code_place (b ∷ list) (suc k) at = no_code_place list k at

-- the codes of a machine have the places of those of its script
pub checked_places : (coded : List Coded) (cs : Checked) → AreChecked coded cs → SamePlaces cs.names (places_in cs) (names_of coded) (places_from 1 coded)
checked_places coded cs checked k = by (slice_get coded k) refl
  where
    by : (o : Option Coded) → slice_get coded k ≡ o
        → (path_in cs.names (slice_get (places_in cs) k) ≡ path_in (names_of coded) (slice_get (places_from 1 coded) k))
        × (name_in cs.names (slice_get (places_in cs) k) ≡ name_in (names_of coded) (slice_get (places_from 1 coded) k))
    by (Some c) at =
        let (a, here, code, signed) = checked.fit k c at in
        let w = written cs.names (earlier_before coded k) a c code in
        let place = code_place cs.codes k a here in
        let there = place_there 1 k coded c at in (
          ap (path_in cs.names) place ∙ named_as cs.names a.code.code.source_path (codes "<script>") w.source_path ∙ sym (ap (path_in (names_of coded)) there ∙ path_is),
          ap (name_in cs.names) place ∙ named_as cs.names a.code.code.obj_name (encode_utf8_all (coded_name c)) w.obj_name
              ∙ sym (ap bytes_or_none (ap (slice_get (names_of coded)) (let e : 1 + k ≡ suc k = omega arith in e) ∙ name_there coded k c at)) ∙ sym (ap (name_in (names_of coded)) there),
        )
    by None at =
        let past : length coded ≤ k = none_past coded k at in
        let count = checked.count in
        let none : slice_get cs.codes k ≡ None = slice_get_past cs.codes k (omega (arith, past, count)) in
        let place = no_code_place cs.codes k none in
        let there = no_place 1 k coded at in
        (ap (path_in cs.names) place ∙ sym (ap (path_in (names_of coded)) there), ap (name_in cs.names) place ∙ sym (ap (name_in (names_of coded)) there))
      where
        none_past : (list : List Coded) (i : ℕ) → slice_get list i ≡ None → length list ≤ i
        none_past [] i at = omega arith
        none_past (d ∷ list) zero at = absurd (cc at)
        none_past (d ∷ list) (suc i) at = let rest = none_past list i at in omega (arith, rest)
