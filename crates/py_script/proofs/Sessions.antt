-- How a session goes on: what it needs for a drive, and what each drive comes to.
use Rattle.std.proofs.Common.{◌≡◌, ◌≤◌, ◌<◌, ◌+◌, ◌++◌, false, ℕ, suc, List, [], ◌∷◌, get_or, length, take, Some, None, refl, sym, ap, ◌∙◌, subst, arith, length-append, append-nil}
use Rattle.std.specs.Prelude.{Option, Result, Ok, Err, slice_get}
use Rattle.std.specs.Result.{IsErrAnd}
use Rattle.std.proofs.lemmas.List.{length-take-le}
use Rattle.std.proofs.lemmas.Grind.{take_at_read}
use Rattle.py_objects.specs.declared.payload.Payload.{Payload}
use Rattle.py_objects.specs.declared.refs.PyBaseExceptionRef.{PyBaseExceptionRef}
use Rattle.py_objects.specs.declared.event.Event.{Event}
use Rattle.py_objects.specs.Growth.{GrowsPlainly}
use Rattle.py_objects.proofs.GrowthLemmas.{grows_plainly_trans}
use Rattle.py_objects.proofs.NewLemmas.{newest}
use Rattle.py_lines.specs.declared.drive.DriveAtom.{DriveAtom}
use Rattle.py_lines.specs.declared.drive.DriveAtom.TheVariants as atom
use Rattle.py_lines.specs.declared.drive.DriveLine.{DriveLine}
use Rattle.py_lines.specs.declared.drive.DriveLine.TheVariants as drive
use Rattle.py_grammar.specs.Grammar.{Decl, codes_in}
use Rattle.py_grammar.specs.WellFormed.{IsDrivable, IsThrowable, IsWellDriven, NumbersDrive}
use Rattle.py_run.specs.declared.drive.Drive.{Drive as Question}
use Rattle.py_run.specs.Run.{Posed}
use Rattle.py_run.specs.Coming.{IsDone}
use Rattle.py_run.specs.Drives.{pose_of}
use Rattle.py_run.specs.Links.{lines_in}
use Rattle.py_vm.specs.declared.fault.VmFault.{VmFault}
use Rattle.py_vm.specs.declared.fault.VmFault.TheVariants as fault
use Rattle.py_run.specs.declared.journal.Journal.{Journal}
use Rattle.py_reports.specs.Scenes.{SourceLines}
use Rattle.py_run.proofs.GrownReports.{reports_alike}
use Rattle.py_vm.specs.Codes.{origins_of as machine_origins, plain_codes}
use Rattle.py_vm.specs.Machine.{Machine, done_of, plan_of, Adds, EndsBy}
use Rattle.py_meaning.specs.Reported.{origins_of}
use Rattle.py_meaning.specs.Whole.{AreAsked, Poses, plan_of as plan_by}
use Rattle.py_script.specs.Held.{Held, journal_of}
use Rattle.py_script.specs.Session.{InRun, IsInRun, IsLineThere, IsLoaded, IsOpen, IsReady, IsSessionOf, IsThere, IsThereIf, OnlyGrew}
use Rattle.py_script.specs.Driving.{GoesOn, HasRunOf, IsDriven, MayBeDriven, NamesKnown}
use Rattle.py_script.proofs.Declarations.{checked_compiled, entry_read}
use Rattle.py_meaning.proofs.Entries.{class_known, function_known, known_declared}
use Rattle.py_script.proofs.Placed.{checked_places}
use Rattle.py_script.proofs.Traced.{links_traced}
use Rattle.py_script.proofs.Driven.{IsFinished, IsUnderWay, driven_ready, driven_run, is_run_of, loaded_ready, run_grows, same_codes, same_done, same_events_of}

-- a result whose error is this one
pub err_is : {A E : Type 0} (r : Result A E) (f : E) → IsErrAnd r (λ given. given ≡ f) → r ≡ Err f
err_is (Ok v) f given = absurd given
err_is (Err g) f given = ap Err given

-- ---- more drives than were begun

pub asked_of_more : (objects : List Payload) (events : List Event) (ds es : List DriveLine) (qs : List Posed) → AreAsked objects events ds qs → AreAsked objects events (ds ++ es) qs
asked_of_more objects events ds es [] are = tt
asked_of_more objects events [] es (q ∷ qs) are = absurd are
asked_of_more objects events (d ∷ ds) es (q ∷ qs) are = (are.0, asked_of_more objects events ds es qs are.1)

run_of_more : (decls : List Decl) (ds es : List DriveLine) (sources : List SourceLines) (vm : Machine) (asked : List Posed) → InRun decls ds sources vm asked → InRun decls (ds ++ es) sources vm asked
run_of_more decls ds es sources vm asked r = record {
  are_asked = asked_of_more vm.objects vm.events ds es asked r.are_asked;
  comes = r.comes;
  tells = r.tells;
  named = r.named;
  are_objects = r.are_objects;
  are_globals = r.are_globals;
  checked = r.checked;
  links = r.links;
  reports = r.reports;
  below = r.below;
}

ready_of_more : (decls : List Decl) (ds es : List DriveLine) (s : Held) → IsReady decls ds s → IsReady decls (ds ++ es) s
ready_of_more decls ds es s r = record {
  works = r.works;
  idle = r.idle;
  entered = r.entered;
  none = r.none;
  are_left = r.are_left;
  are_raised = r.are_raised;
  asked = r.asked;
  count = r.count;
  run = run_of_more decls ds es s.sources s.vm r.asked r.run;
  past = r.past;
}

-- a run of fewer drives is one of more
pub journal_of_more : (decls : List Decl) (ds es : List DriveLine) (sources : List SourceLines) (j : Journal) → HasRunOf decls ds sources j → HasRunOf decls (ds ++ es) sources j
journal_of_more decls ds es sources j has = record {
  run = record {
    run = record {
      asked = has.run.run.asked;
      are_asked = asked_of_more j.objects j.events ds es has.run.run.asked has.run.run.are_asked;
      globals = has.run.run.globals;
      are_globals = has.run.run.are_globals;
      run = has.run.run.run;
      are_objects = has.run.run.are_objects;
    };
    links = has.run.links;
    reports = has.run.reports;
  };
  codes = has.codes;
}

-- ---- what a session has

-- what the machine of a session has is a run, and so are the rows of its codes
pub has_run_of : (decls : List Decl) (drives : List DriveLine) (s : Held) → IsInRun decls drives s.sources s.vm → HasRunOf decls drives s.sources (journal_of s)
unfolding is_run_of
has_run_of decls drives s (asked, r) =
    let run = is_run_of decls drives s.sources s.vm (asked, r) in
    let compiled = checked_compiled (codes_in decls) s.vm.checked r.checked in
    let come = links_traced (codes_in decls) asked s.vm.globals s.vm.objects (plain_codes s.vm.checked) (lines_in (plain_codes s.vm.checked)) s.vm.changes s.vm.events compiled run.run.comes r.links.come in
    record {
      run = record {
        run = run;
        links = record { come = come; alone = r.links.alone };
        reports = reports_alike (plan_of s.vm.checked asked) (plan_by (codes_in decls) asked) (machine_origins s.vm.checked s.sources) (origins_of (codes_in decls) s.sources) s.vm.objects s.vm.changes s.vm.events (λ n. refl)
            refl (checked_places (codes_in decls) s.vm.checked r.checked) r.reports;
      };
      codes = record { compiled = compiled; globals = s.vm.globals; are_globals = r.are_globals; tells = r.tells; links = r.links };
    }

pub session_runs : (decls : List Decl) (drives : List DriveLine) (s : Held) → IsSessionOf decls drives s → HasRunOf decls drives s.sources (journal_of s)
session_runs decls drives s of = has_run_of decls drives s (of.ready.asked, of.ready.run)

-- all of its drives are done
pub session_done : (decls : List Decl) (drives : List DriveLine) (s : Held) → IsSessionOf decls drives s → IsDone (length drives) s.vm.events
session_done decls drives s of = record { done = of.made; idle = of.ready.idle }

-- a script that is loaded is a session without drives
pub loaded_session : (decls : List Decl) (s : Held) → IsLoaded decls s → IsSessionOf decls [] s
loaded_session decls s loaded = let ready = loaded_ready decls [] s loaded in record { sound = loaded.sound; made = sym ready.count ∙ ap length (none_asked ready.asked ready.run.are_asked); ready = ready }
  where
    none_asked : (qs : List Posed) → AreAsked s.vm.objects s.vm.events [] qs → qs ≡ []
    none_asked [] are = refl
    none_asked (q ∷ qs) are = absurd are

-- it is open for a drive
pub session_open : (decls : List Decl) (drives : List DriveLine) (s : Held) → IsSessionOf decls drives s → IsOpen s
session_open decls drives s of = record { works = of.ready.works; none = of.ready.none; are_left = of.ready.are_left; are_raised = of.ready.are_raised }

module _ (decls : List Decl) (drives : List DriveLine) (s : Held) (of : IsSessionOf decls drives s) where
  -- the number of a drive is that of one that was made
  made_before : (n : ℕ) → NumbersDrive (length drives) n → NumbersDrive (done_of s.vm) n
  made_before n numbers = subst (λ (k : ℕ). NumbersDrive k n) (sym of.made) numbers

  atom_there : (a : DriveAtom) → IsDrivable decls (length drives) a → IsThere s a
  atom_there atom.None well = tt
  atom_there (atom.Bool b) well = tt
  atom_there (atom.Int n) well = tt
  atom_there (atom.Str x) well = tt
  atom_there (atom.Name x) well = known_declared decls s.vm.objects of.ready.run.are_objects x well
  atom_there (atom.Drive n) well = made_before n well

  atom_there_if : (a : Option DriveAtom) → IsThrowable decls (length drives) a → IsThereIf s a
  atom_there_if None well = tt
  atom_there_if (Some a) well = atom_there a well

  -- what a line names that may be driven is there
  pub line_there : (line : DriveLine) → NamesKnown decls (length drives) line → IsLineThere s line
  line_there (drive.Call f args) (callee, well) = (known_declared decls s.vm.objects of.ready.run.are_objects f callee, λ i a low. atom_there _ (well i a low))
  line_there (drive.Next n) made = made_before n made
  line_there (drive.Send n a) (made, value) = (made_before n made, atom_there a value)
  line_there (drive.Throw n x a) (made, class, value) = (made_before n made, (known_declared decls s.vm.objects of.ready.run.are_objects x class, atom_there_if a value))
  line_there (drive.Close n) made = made_before n made
  line_there (drive.Report n) made = made_before n made

-- ---- the drives of a script, one after another

-- a line that keeps the rules names what is known
names_known : (decls : List Decl) (made : ℕ) (line : DriveLine) → IsWellDriven decls made line → NamesKnown decls made line
names_known decls made (drive.Call f args) well = (function_known decls f well.function, well.args)
names_known decls made (drive.Next n) well = well
names_known decls made (drive.Send n a) well = (well.drive, well.value)
names_known decls made (drive.Throw n x a) well = (well.drive, class_known decls x well.class, well.value)
names_known decls made (drive.Close n) well = well
names_known decls made (drive.Report n) well = well

module _ (some all : List DriveLine) (i : ℕ) (d : DriveLine) (same : some ≡ all) (low : i < length some) (is : d ≡ get_or some i d) where
  -- the drives up to one, and that one
  pub front_and : take (i + 1) all ≡ take i all ++ d ∷ []
  front_and = subst (λ (ls : List DriveLine). take (i + 1) ls ≡ take i ls ++ d ∷ []) same ((take_at_read some i d low).1 ∙ ap (λ (x : DriveLine). take i some ++ x ∷ []) (sym is))

  -- there are as many of them
  pub front_length : length (take i all) ≡ i
  front_length = let few = ap length same in length-take-le i all (omega (arith, low, few))

  -- behind those before it, it may be driven
  pub next_may : (decls : List Decl) (s : Held) → ((k : ℕ) (e : DriveLine) → slice_get all k ≡ Some e → IsWellDriven decls k e) → IsSessionOf decls (take i all) s → MayBeDriven s d
  next_may decls s well of =
      let here = ap (λ (ls : List DriveLine). slice_get ls i) (sym same) ∙ entry_read some i d low is in
      (decls, take i all, of, subst (λ (n : ℕ). NamesKnown decls n d) (sym front_length) (names_known decls i d (well i d here)))

-- ---- what a drive comes to

-- what a question was asked of, as the machine that answers it has gone on
pub record IsPosed (old : Held) (new vm : Machine) (line : DriveLine) (q : Question) : Type 0 where
  pub grew : OnlyGrew old.vm new
  pub asks : Poses new.objects new.events line (pose_of q)
  pub adds : Adds (pose_of q) old.sources new vm

-- a machine that is seen in a session
pub posed_in : {h g : Held} (old : Held) (vm : Machine) (line : DriveLine) (q : Question) → h ≡ g → OnlyGrew old.vm g.vm → Poses g.vm.objects g.vm.events line (pose_of q) → g.vm.failed ≡ false
    → g.sources ≡ old.sources → (h.vm.failed ≡ false → Adds (pose_of q) h.sources h.vm vm) → IsPosed old h.vm vm line q
posed_in {h = h} {g = g} old vm line q same grew asks works told adds = record {
  grew = subst (λ (k : Held). OnlyGrew old.vm k.vm) (sym same) grew;
  asks = subst (λ (k : Held). Poses k.vm.objects k.vm.events line (pose_of q)) (sym same) asks;
  adds = subst (λ (l : List SourceLines). Adds (pose_of q) l h.vm vm) (ap (λ (k : Held). k.sources) same ∙ told) (adds (ap (λ (k : Held). k.vm.failed) same ∙ works));
}

-- more objects for a question, and what its answering adds
pub grew_on : (old s : Held) → OnlyGrew old.vm s.vm → s.sources ≡ old.sources → GoesOn old s
grew_on old s grew told = record { sources = told; part = []; events = same_events_of old.vm s.vm grew ∙ sym (append-nil old.vm.events); grows = grew.grows; codes = same_codes old.vm s.vm grew }

pub posed_on : (old s : Held) (new : Machine) (line : DriveLine) (q : Question) → IsPosed old new s.vm line q → s.sources ≡ old.sources → GoesOn old s
posed_on old s new line q posed told =
    let adds = posed.adds in
    record {
      sources = told;
      part = adds.part;
      events = adds.events ∙ ap (λ (es : List Event). es ++ adds.part) (same_events_of old.vm new posed.grew);
      grows = grows_plainly_trans old.vm.objects new.objects s.vm.objects posed.grew.grows adds.grows;
      codes = ap (λ (m : Machine). m.checked) adds.others ∙ same_codes old.vm new posed.grew;
    }

-- the same machine in another session
pub went_on_alike : (old s t : Held) → t.vm ≡ s.vm → t.sources ≡ s.sources → GoesOn old s → GoesOn old t
went_on_alike old s t same told on = record {
  sources = told ∙ on.sources;
  part = on.part;
  events = ap (λ (m : Machine). m.events) same ∙ on.events;
  grows = subst (λ (m : Machine). GrowsPlainly old.vm.objects m.objects) (sym same) on.grows;
  codes = ap (λ (m : Machine). m.checked) same ∙ on.codes;
}

module _ (decls : List Decl) (drives : List DriveLine) (old : Held) (line : DriveLine) (of : IsSessionOf decls drives old) where
  -- the drives with this one
  abbrev all : List DriveLine
  all = drives ++ line ∷ []

  one_more_drive : length all ≡ suc (length drives)
  one_more_drive = length-append drives (line ∷ []) ∙ (let e : length drives + 1 ≡ suc (length drives) = omega arith in e)

  -- no memory for its objects
  pub not_posed : (turns : ℕ) (s : Held) → OnlyGrew old.vm s.vm → s.sources ≡ old.sources → IsDriven decls all turns old s (Err fault.NoMemory)
  not_posed turns s grew told =
      let same = ap length (same_events_of old.vm s.vm grew) in (
        has_run_of decls all s (
          of.ready.asked,
          subst (λ (l : List SourceLines). InRun decls all l s.vm of.ready.asked) (sym told)
              (run_grows decls all old.sources of.ready.asked old.vm s.vm grew (run_of_more decls drives (line ∷ []) old.sources old.vm of.ready.asked of.ready.run)),
        ),
        omega (arith, same),
      )

  module _ (new : Machine) (s : Held) (q : Question) (posed : IsPosed old new s.vm line q) (told : s.sources ≡ old.sources) where
    under_way : IsUnderWay decls all old new s.vm line q
    under_way = record {
      ready = ready_of_more decls drives (line ∷ []) old of.ready;
      grew = posed.grew;
      next = ap (slice_get all) of.made ∙ newest drives line;
      asks = posed.asks;
      adds = posed.adds;
    }

    goes_on : HasRunOf decls all s.sources (journal_of s)
    goes_on = has_run_of decls all s (subst (λ (l : List SourceLines). IsInRun decls all l s.vm) (sym told) (driven_run decls all old new s.vm line q under_way))

    same_length : length new.events ≡ length old.vm.events
    same_length = ap length (same_events_of old.vm new posed.grew)

    done_before : done_of new ≡ done_of old.vm
    done_before = same_done old.vm new posed.grew

    -- an answer for which there is no room
    pub not_kept : (turns : ℕ) → length s.vm.events ≤ length new.events + turns → IsDriven decls all turns old s (Err fault.NoMemory)
    not_kept turns short = (goes_on, (let same = same_length in let e : length s.vm.events ≤ length old.vm.events + turns = omega (arith, short, same) in e))

    -- no answer
    pub given_up : (turns : ℕ) (f : VmFault) → length s.vm.events ≤ length new.events + turns → (f ≡ fault.OutOfTurns → (length s.vm.events ≡ length new.events + turns) × (done_of s.vm ≡ done_of new))
        → (f ≡ fault.Failed → ⊥) → ((e : PyBaseExceptionRef) → f ≡ fault.Exception e → ⊥) → IsDriven decls all turns old s (Err f)
    given_up turns fault.NoMemory short spent works raised = not_kept turns short
    given_up turns fault.OutOfTurns short spent works raised =
        let (all_used, none_done) = spent refl in
        let count = same_length in
        let done : done_of s.vm ≡ done_of old.vm = none_done ∙ done_before in
        let made = of.made in
        let more = one_more_drive in (
          goes_on,
          (λ whole. let whole_is : done_of s.vm ≡ length all = whole.done in let e : ⊥ = omega (arith, done, made, more, whole_is) in e),
          (let e : length s.vm.events ≡ length old.vm.events + turns = omega (arith, all_used, count) in e),
          done,
        )
    given_up turns fault.Failed short spent works raised = works refl
    given_up turns (fault.Exception e) short spent works raised = raised e refl

    -- an answer, which is kept
    pub answered : (turns : ℕ) (finished : IsFinished q old new s) → s.failed ≡ false → IsDriven decls all turns old s (Ok finished.answer)
    answered turns finished sound =
        let (ready, done) = driven_ready decls all old s new line q under_way finished in
        let number : suc (done_of new) ≡ length all = ap suc (done_before ∙ of.made) ∙ sym one_more_drive in
        let made : done_of s.vm ≡ length all = done ∙ (ap suc of.made ∙ sym one_more_drive) in
        (goes_on, record { done = made; idle = ready.idle }, subst (λ (n : ℕ). EndsBy s.vm.events n finished.answer) number finished.ends, record { sound = sound; made = made; ready = ready })

-- a session with the same machine and source texts was given up like this
pub given_up_alike : (decls : List Decl) (drives : List DriveLine) (turns : ℕ) (old s t : Held) (f : VmFault) → t.vm ≡ s.vm → t.sources ≡ s.sources → IsDriven decls drives turns old s (Err f)
    → IsDriven decls drives turns old t (Err f)
given_up_alike decls drives turns old s t fault.NoMemory same told driven =
    subst (λ (m : Machine). IsDriven decls drives turns old (record t { vm = m }) (Err fault.NoMemory)) (sym same)
    (subst (λ (l : List SourceLines). IsDriven decls drives turns old (record t { vm = s.vm; sources = l }) (Err fault.NoMemory)) (sym told) driven)
given_up_alike decls drives turns old s t fault.OutOfTurns same told driven =
    subst (λ (m : Machine). IsDriven decls drives turns old (record t { vm = m }) (Err fault.OutOfTurns)) (sym same)
    (subst (λ (l : List SourceLines). IsDriven decls drives turns old (record t { vm = s.vm; sources = l }) (Err fault.OutOfTurns)) (sym told) driven)
given_up_alike decls drives turns old s t fault.Failed same told driven = driven
given_up_alike decls drives turns old s t (fault.Exception e) same told driven = driven
