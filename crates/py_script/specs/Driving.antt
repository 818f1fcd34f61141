-- What the drives of a session need, and what they come to.
use Rattle.std.specs.Prelude.{Option, ℕ, ◌+◌, ◌<◌, ◌≤◌, ◌∷◌, [], ◌++◌, List, All, ◌≡◌, length, Result, Ok, Err}
use Rattle.py_objects.specs.declared.event.DriveAnswer.{DriveAnswer}
use Rattle.py_objects.specs.declared.event.Event.{Event}
use Rattle.py_objects.specs.declared.refs.PyBaseExceptionRef.{PyBaseExceptionRef}
use Rattle.py_objects.specs.declared.payload.Payload.{Payload}
use Rattle.py_reports.specs.Scenes.{SourceLines}
use Rattle.py_objects.specs.Objects.{Obj, AllBelow, result_numbers}
use Rattle.py_objects.specs.Growth.{GrowsPlainly}
use Rattle.py_lines.specs.declared.drive.DriveLine.{DriveLine}
use Rattle.py_lines.specs.declared.drive.DriveLine.TheVariants as drive
use Rattle.py_grammar.specs.Grammar.{Decl}
use Rattle.py_grammar.specs.WellFormed.{IsDrivable, IsKnown, IsThrowable, NumbersDrive}
use Rattle.py_run.specs.declared.drive.Drive.{Drive}
use Rattle.py_run.specs.Drives.{pose_of}
use Rattle.py_run.specs.Coming.{IsDone}
use Rattle.py_vm.specs.declared.fault.VmFault.{VmFault}
use Rattle.py_vm.specs.declared.fault.VmFault.TheVariants as fault
use Rattle.py_run.specs.declared.journal.Journal.{Journal}
use Rattle.py_vm.specs.Machine.{done_of, EndsBy}
use Rattle.py_meaning.specs.Whole.{IsJournalOf, IsLeft, Poses, raised_in}
use Rattle.py_script.specs.Compiled.{RunsCodesOf}
use Rattle.py_script.specs.Held.{Held, journal_of}
use Rattle.py_script.specs.Loaded.{HasNone}
use Rattle.py_script.specs.Session.{IsSessionOf}

-- a journal is a prefix of a run of these declarations and drives, with these source texts and the codes that ran
pub record HasRunOf (decls : List Decl) (drives : List DriveLine) (sources : List SourceLines) (j : Journal) : Type 0 where
  pub run : IsJournalOf decls drives sources j
  pub codes : RunsCodesOf decls j

-- behind so many drives, a line names what is declared or built in, and numbers of these drives
abbrev pub NamesKnown : List Decl → ℕ → DriveLine → Type 0
NamesKnown decls made (drive.Call f args) = IsKnown decls f × All (IsDrivable decls made) args
NamesKnown decls made (drive.Next n) = NumbersDrive made n
NamesKnown decls made (drive.Send n a) = NumbersDrive made n × IsDrivable decls made a
NamesKnown decls made (drive.Throw n c v) = NumbersDrive made n × IsKnown decls c × IsThrowable decls made v
NamesKnown decls made (drive.Close n) = NumbersDrive made n
NamesKnown decls made (drive.Report n) = NumbersDrive made n

-- a line may be driven: it does so for some declarations and drives that the session is of
abbrev pub MayBeDriven : Held → DriveLine → Type 0
MayBeDriven s line = (decls : List Decl) × (drives : List DriveLine) × IsSessionOf decls drives s × NamesKnown decls (length drives) line

-- what the last of these drives comes to, in at most so many turns: where it has an answer, the journal is a whole run whose last result that is, and
-- the next drive may be made; where its turns are spent, it is none that is whole, and all of them were used
abbrev pub IsDriven : List Decl → List DriveLine → ℕ → Held → Held → Result DriveAnswer VmFault → Type 0
IsDriven decls drives turns s s' (Ok w) = HasRunOf decls drives s'.sources (journal_of s') × IsDone (length drives) s'.vm.events × EndsBy s'.vm.events (length drives) w × IsSessionOf decls drives s'
IsDriven decls drives turns s s' (Err fault.OutOfTurns) =
    HasRunOf decls drives s'.sources (journal_of s') × (IsDone (length drives) s'.vm.events → ⊥) × (length s'.vm.events ≡ length s.vm.events + turns) × (done_of s'.vm ≡ done_of s.vm)
IsDriven decls drives turns s s' (Err fault.NoMemory) = HasRunOf decls drives s'.sources (journal_of s') × (length s'.vm.events ≤ length s.vm.events + turns)
IsDriven decls drives turns s s' (Err fault.Failed) = ⊥
IsDriven decls drives turns s s' (Err (fault.Exception e)) = ⊥

-- so it is with each of the declarations and the drives so far that the session is of, where this line is driven next
abbrev pub MakesDrive : DriveLine → ℕ → Held → Held → Result DriveAnswer VmFault → Type 0
MakesDrive line turns s s' result =
    (decls : List Decl) → (drives : List DriveLine) → IsSessionOf decls drives s → IsDriven decls (drives ++ line ∷ []) turns s s' result

-- a session that has failed answers so, and stays as it is
abbrev pub IsRefused : Held → Held → Result DriveAnswer VmFault → Type 0
IsRefused s s' result = (result ≡ Err fault.Failed) × (s' ≡ s)

-- what a line asks the machine, by the objects and the events of the session
abbrev pub IsQuestionOf : Held → DriveLine → Drive → Type 0
IsQuestionOf s line question = Poses s.vm.objects s.vm.events line (pose_of question)

-- an answer leaves this object, wherever None is the first
abbrev pub Leaves : DriveAnswer → Obj → Type 0
Leaves answer value = (objects : List Payload) → HasNone objects → IsLeft objects answer value

-- which is there where what the answer names is
abbrev pub LeavesBelow : DriveAnswer → Obj → Type 0
LeavesBelow answer value = (n : ℕ) → 0 < n → AllBelow n (result_numbers answer) → value.number < n

-- lists with what an answer leaves, and the exception that it raises, if it raises one
abbrev pub IsKept : DriveAnswer → (values : List Obj) → (raised : List (Option PyBaseExceptionRef)) → List Obj → List (Option PyBaseExceptionRef) → Type 0
IsKept answer values raised values' raised' =
    (v : Obj) × Leaves answer v × LeavesBelow answer v × (values' ≡ values ++ v ∷ []) × (raised' ≡ raised ++ raised_in answer ∷ [])

-- what was there stays: events come behind those before, objects behind those before, and the codes are the same
pub record GoesOn (old new : Held) : Type 0 where
  pub part : List Event
  pub events : new.vm.events ≡ old.vm.events ++ part
  pub grows : GrowsPlainly old.vm.objects new.vm.objects
  pub codes : new.vm.checked ≡ old.vm.checked
  pub sources : new.sources ≡ old.sources
