-- Scripts without raw codes and reports have bodies alone, and plain drives.
use Rattle.std.proofs.Common.{◌≡◌, Option, None, ℕ, zero, suc, Some, List, [], ◌∷◌, true, refl, subst, slice_get}
use Rattle.std.specs.List.{list_all}
use Rattle.py_lines.specs.declared.drive.DriveLine.{DriveLine}
use Rattle.py_lines.specs.declared.drive.DriveLine.TheVariants as drive
use Rattle.py_grammar.specs.declared.raw_block.RawBlock.{RawBlock}
use Rattle.py_grammar.specs.declared.script.Script.{Script}
use Rattle.py_grammar.specs.Grammar.{Decl, ClassDecl, ManagerDecl, FunctionDecl, RawDecl, Coded, OfRaw, codes_in}
use Rattle.py_grammar.specs.Script.{decls_of, IsScript}
use Rattle.py_grammar.proofs.Verdicts.{one_tree}
use Rattle.py_objects.specs.declared.refs.PyBaseExceptionRef.{PyBaseExceptionRef}
use Rattle.py_objects.specs.declared.payload.Payload.{Payload}
use Rattle.py_objects.specs.declared.event.Event.{Event}
use Rattle.py_run.specs.declared.drive.Told.TheVariants as told
use Rattle.py_run.specs.Run.{Pose, Requests, Forms, Reports, Posed, to_report, to_report_by}
use Rattle.py_meaning.specs.Whole.{ReportsThis, Poses, AreAsked}
use Rattle.py_meaning.specs.Core.{is_core, is_plain, IsCore, IsCoreFrom}

-- none of these was written unit by unit
abbrev pub HaveNoRaw : List Coded → Type 0
HaveNoRaw coded = (i : ℕ) (b : RawBlock) → slice_get coded i ≡ Some (OfRaw b) → ⊥

-- the codes of core declarations
pub core_codes : (decls : List Decl) → list_all is_core decls ≡ true → HaveNoRaw (codes_in decls)
core_codes [] core i b at = absurd (cc at)
core_codes (ClassDecl c base ∷ ds) core i b at = core_codes ds core i b at
core_codes (ManagerDecl m e x ∷ ds) core i b at = core_codes ds core i b at
core_codes (FunctionDecl t ∷ ds) core zero b at = absurd (cc at)
core_codes (FunctionDecl t ∷ ds) core (suc i) b at = core_codes ds core i b at
core_codes (RawDecl r ∷ ds) core i b at = absurd (cc core)

-- each script that the bytes are is core, where one is
pub core_script : (bytes : List ℕ) (s : Script) → IsCoreFrom bytes → IsScript bytes s → IsCore (decls_of s) s.drives
core_script bytes s (t, is', core) is =
    let (decls, drives) = one_tree bytes t s is' is in
    subst (λ (l : List Decl). IsCore l s.drives) decls (subst (IsCore (decls_of t)) drives core)

-- each of these drives is a plain one
abbrev pub ArePlain : List DriveLine → Type 0
ArePlain drives = (i : ℕ) (d : DriveLine) → slice_get drives i ≡ Some d → is_plain d ≡ true

-- the drives behind one
plain_behind : (d : DriveLine) (ds : List DriveLine) → list_all is_plain (d ∷ ds) ≡ true → list_all is_plain ds ≡ true
plain_behind (drive.Call f args) ds all = all
plain_behind (drive.Next n) ds all = all
plain_behind (drive.Send n a) ds all = all
plain_behind (drive.Throw n c v) ds all = all
plain_behind (drive.Close n) ds all = all
plain_behind (drive.Report n) ds all = absurd (cc all)

-- those of a core script
pub core_drives : (drives : List DriveLine) → list_all is_plain drives ≡ true → ArePlain drives
core_drives [] core i d at = absurd (cc at)
core_drives (d ∷ ds) core zero e at = by d core (cc at)
  where
    by : (x : DriveLine) → list_all is_plain (x ∷ ds) ≡ true → x ≡ e → is_plain e ≡ true
    by (drive.Call f args) all is = subst (λ y. is_plain y ≡ true) is refl
    by (drive.Next n) all is = subst (λ y. is_plain y ≡ true) is refl
    by (drive.Send n a) all is = subst (λ y. is_plain y ≡ true) is refl
    by (drive.Throw n c v) all is = subst (λ y. is_plain y ≡ true) is refl
    by (drive.Close n) all is = subst (λ y. is_plain y ≡ true) is refl
    by (drive.Report n) all is = absurd (cc all)
core_drives (d ∷ ds) core (suc i) e at = core_drives ds (plain_behind d ds core) i e at

-- a plain line has nothing reported
pub none_reported : (d : DriveLine) (es : List Event) (e : Option PyBaseExceptionRef) → is_plain d ≡ true → ReportsThis es d e → ⊥
none_reported (drive.Report n) es e plain reports = cc plain
none_reported (drive.Call x args) es e plain reports = reports
none_reported (drive.Next n) es e plain reports = reports
none_reported (drive.Send n a) es e plain reports = reports
none_reported (drive.Throw n x a) es e plain reports = reports
none_reported (drive.Close n) es e plain reports = reports

-- so it poses no report
plain_pose : (store : List Payload) (events : List Event) (d : DriveLine) (x : Pose) → is_plain d ≡ true → Poses store events d x → to_report x ≡ None
plain_pose store events d (Requests r) plain asks = refl
plain_pose store events d (Forms x) plain asks = absurd asks
plain_pose store events d (Reports (told.Report e)) plain asks = absurd (none_reported d events e plain asks)
plain_pose store events d (Reports (told.Part e)) plain asks = absurd asks
plain_pose store events d (Reports (told.Exit e)) plain asks = absurd asks

-- and neither do others
pub plain_asked : (store : List Payload) (events : List Event) (drives : List DriveLine) (asked : List Posed) → list_all is_plain drives ≡ true → AreAsked store events drives asked
    → (n : ℕ) → to_report_by (slice_get asked n) ≡ None
plain_asked store events drives [] plain are n = refl
plain_asked store events [] (q ∷ asked) plain are n = absurd are
plain_asked store events (d ∷ drives) (q ∷ asked) plain are zero = plain_pose store events d q.pose (core_drives (d ∷ drives) plain 0 d refl) are.0.0
plain_asked store events (d ∷ drives) (q ∷ asked) plain are (suc n) = plain_asked store events drives asked (plain_behind d drives plain) are.1 n
