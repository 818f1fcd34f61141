-- A journal of a machine is a run to somebody who has the script alone.
use Rattle.std.proofs.Common.{◌≡◌, ℕ, zero, suc, true, List, [], ◌∷◌, Some, refl, sym, subst, arith, length}
use Rattle.std.specs.Prelude.{All, slice_get}
use Rattle.std.specs.List.{list_all}
use Rattle.std.proofs.lemmas.Bool.{and_parts}
use Rattle.std.proofs.lemmas.List.{take_all}
use Rattle.std.proofs.lemmas.List.Elements.{All-nil, All-cons}
use Rattle.py_objects.specs.declared.payload.Payload.{Payload}
use Rattle.py_objects.specs.declared.edit.Change.{Change}
use Rattle.py_objects.specs.declared.edit.Edit.{Edit}
use Rattle.py_objects.specs.declared.edit.Edit.TheVariants as edit
use Rattle.py_objects.specs.declared.request.Request.TheVariants as request
use Rattle.py_objects.specs.declared.event.Event.{Event}
use Rattle.py_objects.specs.declared.event.Event.TheVariants as event
use Rattle.py_objects.specs.Objects.{Obj}
use Rattle.py_objects.specs.Own.{Own}
use Rattle.py_objects.specs.Telling.{under_any}
use Rattle.py_lines.specs.declared.drive.DriveLine.{DriveLine}
use Rattle.py_grammar.specs.declared.script.Script.{Script}
use Rattle.py_grammar.specs.Grammar.{Decl, ClassDecl, ManagerDecl, FunctionDecl, RawDecl, OfBody, OfRaw, codes_in}
use Rattle.py_grammar.specs.Script.{decls_of}
use Rattle.py_grammar.specs.WellFormed.{IsWellFormed}
use Rattle.py_run.specs.declared.journal.Journal.{Journal}
use Rattle.py_run.specs.Links.{AreLinks, is_link}
use Rattle.py_determined.proofs.AsksEach.{name_in}
use Rattle.py_determined.proofs.NamedBefore.{EachAsks, NameIn, NamesIn}
use Rattle.py_meaning.specs.Core.{is_core, IsCore}
use Rattle.py_meaning.specs.Whole.{IsRunOf, IsRun, Traces, plan_of, thrown_in}
use Rattle.py_meaning.proofs.CoreLemmas.{core_codes}
use Rattle.py_meaning.proofs.EarlierLemmas.{driven_earlier}
use Rattle.py_meaning.proofs.ExitsTold.{exits_told}
use Rattle.py_meaning.proofs.GlobalsAsked.{trace_good}
use Rattle.py_meaning.proofs.WorkedObjects.{some_is}
use Rattle.py_meaning.specs.Reported.{sources_of}
use Rattle.py_core.specs.Forms.{decl_is_core, suite_is_core, IsCoreScript}
use Rattle.py_core.specs.Runs.{IsCoreRun, IsCoreRunOf, IsLinkChange, IsLinkEdit, IsLookedUpIn, IsRunAmong}
use Rattle.py_core.proofs.Names.{are_core, objects_stay}

-- ---- a core script has neither raw codes nor reports

no_raw : (decls : List Decl) → list_all decl_is_core decls ≡ true → list_all is_core decls ≡ true
no_raw [] core = refl
no_raw (ClassDecl c b ∷ ds) core = no_raw ds core
no_raw (ManagerDecl m e x ∷ ds) core = no_raw ds core
no_raw (FunctionDecl t ∷ ds) core = no_raw ds (and_parts (suite_is_core t.suite) (list_all decl_is_core ds) core).1
no_raw (RawDecl b ∷ ds) core = absurd (cc core)

script_core : (s : Script) → IsCoreScript s → IsCore (decls_of s) s.drives
script_core s core = record { declares = no_raw (decls_of s) core.declares; drives_plainly = core.drives }

-- ---- names are looked up in the dict of the globals

module _ (decls : List Decl) (objects : List Payload) (globals : Obj) (bodies : list_all is_core decls ≡ true) where
  each_asks : (f : Obj) (vs : List Obj) (ts : List Own) → Traces (codes_in decls) globals objects f vs ts → EachAsks (λ d. d ≡ globals) ts
  each_asks f vs ts (b, has, (OfBody t, here, told)) = trace_good (λ d. d ≡ globals) (thrown_in under_any objects globals) refl t vs ts told
  each_asks f vs ts (b, has, (OfRaw r, here, told)) = absurd (core_codes decls bodies b.code r here)

-- what is said of each event
name_at : (P : Obj → Type 0) (es : List Event) (i : ℕ) (e : Event) → NameIn P es → slice_get es i ≡ Some e → NamesIn P e
name_at P [] i e in_all at = absurd (cc at)
name_at P (x ∷ es) zero e in_all at = subst (NamesIn P) (some_is x e at) in_all.0
name_at P (x ∷ es) (suc i) e in_all at = name_at P es i e in_all.1 at

looked_up_in : (decls : List Decl) (drives : List DriveLine) (objects : List Payload) (events : List Event) → list_all is_core decls ≡ true → (run : IsRunOf decls drives objects events)
    → IsLookedUpIn objects events run.globals
looked_up_in decls drives objects events bodies run i act x d own at here =
    let all = name_in (λ d. d ≡ run.globals) objects (plan_of (codes_in decls) run.asked) (Traces (codes_in decls) run.globals objects) events run.run.comes run.run.tells
    (each_asks decls objects run.globals bodies) in
    (name_at (λ d. d ≡ run.globals) events i (event.Ask act (request.Global d x) own at) all here, (run.are_globals.pairs, run.are_globals.dict))

-- ---- changes of links

link_kept : (x : Edit) → is_link x ≡ true → IsLinkEdit x
link_kept (edit.Link field v) is = tt
link_kept (edit.Flag b) is = tt
link_kept _ is = absurd (cc is)

links_kept : (m n : ℕ) (changes : List Change) → AreLinks m n changes → All IsLinkChange changes
links_kept m n [] are = All-nil IsLinkChange
links_kept m n (c ∷ cs) are = All-cons IsLinkChange c cs (link_kept c.edit are.0) (links_kept c.after n cs are.3)

-- ---- the run

pub machine_runs : (s : Script) (j : Journal) → IsWellFormed s → IsCoreScript s → IsRun s j → IsCoreRun s j (length j.events)
machine_runs s j well core is =
    let scripted = script_core s core in
    let earlier = driven_earlier (decls_of s) s.drives well.driven in
    let among : IsRunAmong (decls_of s) s.drives j.objects j.events =
    record {
      asked = is.run.asked;
      are_asked = is.run.are_asked;
      globals = is.run.globals;
      looked_up = looked_up_in (decls_of s) s.drives j.objects j.events scripted.declares is.run;
      run = is.run.run;
      tells = exits_told (decls_of s) s.drives scripted earlier (sources_of s.text) j is;
    } in
    let named = sym (objects_stay (decls_of s) j.objects is.run.are_objects) in
    let all : IsCoreRunOf (decls_of s) s.drives j.objects j.events =
    record { are_objects = are_core (decls_of s) j.objects is.run.are_objects; run = subst (λ os. IsRunAmong (decls_of s) s.drives os j.events) named among } in
    record {
      run = subst (λ es. IsCoreRunOf (decls_of s) s.drives j.objects es) (sym (take_all (length j.events) j.events (omega arith))) all;
      changes = links_kept 1 (length j.events) j.changes is.links.alone;
    }
