-- Runs of scripts that have the same declarations and drives, and the fronts that a journal has of a run.
use Rattle.std.proofs.Common.{◌≡◌, ◌<◌, ◌≤◌, ℕ, suc, List, [], sym, subst, arith}
use Rattle.std.specs.Prelude.{take}
use Rattle.std.proofs.lemmas.List.Elements.{All-nil}
use Rattle.py_code.specs.Codes.{Codes}
use Rattle.py_objects.specs.declared.payload.Payload.{Payload}
use Rattle.py_objects.specs.declared.edit.Change.{Change}
use Rattle.py_objects.specs.declared.event.Event.{Event}
use Rattle.py_grammar.specs.declared.script.Script.{Script}
use Rattle.py_grammar.specs.Grammar.{Decl}
use Rattle.py_grammar.specs.Script.{decls_of}
use Rattle.py_lines.specs.declared.drive.DriveLine.{DriveLine}
use Rattle.py_core.specs.Runs.{AllBefore, IsCoreRunOf, IsLinkChange}
use Rattle.py_core.specs.Claims.{IsScriptOf, journal}

module _ (decls : List Decl) (drives : List DriveLine) (s : Script) (is : IsScriptOf decls drives s) where
  pub of_script : (objects : List Payload) (es : List Event) → IsCoreRunOf decls drives objects es → IsCoreRunOf (decls_of s) s.drives objects es
  of_script objects es run =
      subst (λ (ds : List Decl). IsCoreRunOf ds s.drives objects es) (sym is.declares) (subst (λ (ds : List DriveLine). IsCoreRunOf decls ds objects es) (sym is.driven) run)

  pub by_script : (objects : List Payload) (es : List Event) → IsCoreRunOf (decls_of s) s.drives objects es → IsCoreRunOf decls drives objects es
  by_script objects es run =
      subst (λ (ds : List DriveLine). IsCoreRunOf decls ds objects es) is.driven (subst (λ (ds : List Decl). IsCoreRunOf ds s.drives objects es) is.declares run)

  -- fronts of a journal that are fronts of a run are runs
  pub before_by : (objects : List Payload) (k : Codes) (events es : List Event) (n : ℕ) → ((m : ℕ) → m ≤ n → IsCoreRunOf decls drives objects (take m events))
      → ((i : ℕ) → i < n → take (suc i) events ≡ take (suc i) es) → AllBefore s (journal objects [] es k) n
  before_by objects k events es n runs same i less = record {
    run =
        subst (λ (fs : List Event). IsCoreRunOf (decls_of s) s.drives objects fs) (same i less)
        (of_script objects (take (suc i) events) (runs (suc i) (omega (arith, less))));
    changes = All-nil IsLinkChange;
  }

-- nothing comes in front of the first event
pub none_before : (s : Script) (objects : List Payload) (changes : List Change) (es : List Event) (k : Codes) → AllBefore s (journal objects changes es k) 0
none_before s objects changes es k i low = absurd (omega (arith, low))
