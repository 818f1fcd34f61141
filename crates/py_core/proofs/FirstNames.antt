-- What each run begins with, by its names, and the objects of a script with one function.
use Rattle.std.proofs.Common.{◌≡◌, ◌++◌, ◌∙◌, ℕ, zero, suc, List, [], ◌∷◌, Some, refl, ap, subst, inl, inr}
use Rattle.std.specs.Prelude.{map, slice_get}
use Rattle.std.proofs.lemmas.List.{map-append}
use Rattle.py_objects.specs.declared.payload.Payload.{Payload}
use Rattle.py_objects.specs.declared.payload.Payload.TheVariants as payload
use Rattle.py_objects.specs.declared.payload.ExceptionBody.{ExceptionBody}
use Rattle.py_objects.specs.declared.error_kind.ErrorKind.{ErrorKind}
use Rattle.py_objects.specs.ErrorKinds.{name_of}
use Rattle.py_objects.specs.Objects.{Name}
use Rattle.py_objects.proofs.GrowthLemmas.{slice_get_split}
use Rattle.py_exceptions.specs.Classes.{class_of, class_payload, first_classes, mro_of}
use Rattle.py_tree.specs.Tree.{Tree}
use Rattle.py_grammar.specs.Grammar.{Decl, ClassDecl, ManagerDecl, FunctionDecl, Coded, OfBody, coded_name}
use Rattle.py_run.specs.First.{first_objects}
use Rattle.py_run.proofs.FirstLemmas.{each_first, each_single}
use Rattle.py_meaning.proofs.Behind.{have_classes}
use Rattle.py_meaning.proofs.WorkedObjects.{Each, each_at, some_is}
use Rattle.py_core.specs.Runs.{AreCoreObjects, HasNamedFunction, IsOfDeclared, by_name, named_objects}
use Rattle.py_core.proofs.Names.{kind_known, map_stays, name_stays}

-- by its name an entry is what it is
abbrev Stays : List Decl → ℕ → Payload → Type 0
Stays decls i p = by_name decls p ≡ p

-- so are the first objects
first_stay : (decls : List Decl) (i : ℕ) (p : Payload) → slice_get first_objects i ≡ Some p → by_name decls p ≡ p
first_stay decls i p at = each_first (Stays decls) (λ j q here. each_single (Stays decls) refl refl refl j q here) of_kind (λ j. refl) i p at
  where
    of_kind : (kind : ErrorKind) → by_name decls (class_payload first_classes kind) ≡ class_payload first_classes kind
    of_kind kind = ap (λ (x : Name). payload.Class (record { name = x; mro = mro_of first_classes kind })) (name_stays decls (name_of kind) (kind_known decls kind))

pub named_with : (decls : List Decl) (own : List Payload) → named_objects decls (first_objects ++ own) ≡ first_objects ++ map (by_name decls) own
named_with decls own =
    map-append (by_name decls) first_objects own ∙ ap (λ (os : List Payload). os ++ map (by_name decls) own) (map_stays (by_name decls) first_objects (first_stay decls))

-- an entry is no exception
abbrev IsOther : ℕ → Payload → Type 0
IsOther i p = (e : ExceptionBody) → p ≡ payload.Exception e → ⊥

-- nor is any of them
no_exception : (i : ℕ) (p : Payload) → slice_get first_objects i ≡ Some p → (e : ExceptionBody) → p ≡ payload.Exception e → ⊥
no_exception i p at =
    each_first IsOther (λ j q here. each_single IsOther (λ e is. cc is) (λ e is. cc is) (λ e is. cc is) j q here) (λ kind e is. cc is) (λ j e is. cc is) i p at

-- each exception among some entries is of a declared class
abbrev pub AreRaised : List Decl → List Payload → List Payload → Type 0
AreRaised decls objects entries = Each (λ p. (e : ExceptionBody) → p ≡ payload.Exception e → IsOfDeclared decls objects e) entries

-- the objects of a script with one function
pub one_function : (t : Tree) (own : List Payload) → HasNamedFunction (first_objects ++ own) t.name → AreRaised (FunctionDecl t ∷ []) (first_objects ++ own) own
    → AreCoreObjects (FunctionDecl t ∷ []) (first_objects ++ own)
one_function t own has are = record {
  functions = λ i c at. named i c at;
  classes = λ i c b at. absurd (no_class i c b at);
  managers = λ i m e x at. absurd (no_manager i m e x at);
  builtins = λ kind. (class_of first_classes kind, have_classes own kind);
  raised = raised;
}
  where
    named : (i : ℕ) (c : Coded) → slice_get (OfBody t ∷ []) i ≡ Some c → HasNamedFunction (first_objects ++ own) (coded_name c)
    named zero c at = subst (λ d. HasNamedFunction (first_objects ++ own) (coded_name d)) (some_is (OfBody t) c at) has
    named (suc i) c at = absurd (cc at)

    no_class : (i : ℕ) (c b : Name) → slice_get (FunctionDecl t ∷ []) i ≡ Some (ClassDecl c b) → ⊥
    no_class zero c b at = cc at
    no_class (suc i) c b at = cc at

    no_manager : (i : ℕ) (m e x : Name) → slice_get (FunctionDecl t ∷ []) i ≡ Some (ManagerDecl m e x) → ⊥
    no_manager zero m e x at = cc at
    no_manager (suc i) m e x at = cc at

    raised : (i : ℕ) (e : ExceptionBody) → slice_get (first_objects ++ own) i ≡ Some (payload.Exception e) → IsOfDeclared (FunctionDecl t ∷ []) (first_objects ++ own) e
    raised i e at = elim (slice_get_split first_objects own i (payload.Exception e) at) [
      | inl front ↦ absurd (no_exception i (payload.Exception e) front e refl)
      | inr behind ↦ each_at (λ p. (e : ExceptionBody) → p ≡ payload.Exception e → IsOfDeclared (FunctionDecl t ∷ []) (first_objects ++ own) e) own are _ (payload.Exception e) behind e refl
    ]
