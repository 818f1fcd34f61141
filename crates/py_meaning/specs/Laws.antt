-- What any two runs of one script have in common, where it has no raw code and no report: what such a code tells is not said by its
-- meaning alone, and what links a report reads is compared nowhere.
use Rattle.std.specs.Prelude.{List, [], length, ℕ, ◌≡◌, ◌≤◌, ◌<◌}
use Rattle.py_objects.specs.declared.payload.Payload.{Payload}
use Rattle.py_objects.specs.declared.event.Event.{Event}
use Rattle.py_lines.specs.declared.drive.DriveLine.{DriveLine}
use Rattle.py_grammar.specs.Grammar.{Decl}
use Rattle.py_run.specs.declared.journal.Journal.{Journal}
use Rattle.py_determined.specs.Alike.{AreAlike}
use Rattle.py_determined.specs.Events.{SameEvents}
use Rattle.py_determined.specs.Raises.{TellRaises}
use Rattle.py_determined.specs.Related.{Paired}
use Rattle.py_reports.specs.Scenes.{SourceLines}
use Rattle.py_meaning.specs.Core.{IsCore, IsCoreFrom}
use Rattle.py_meaning.specs.Earlier.{NameEarlier}
use Rattle.py_meaning.specs.Whole.{IsJournalOf, IsRunFrom, IsUnfinishedFrom, IsWholeFrom}
use Rattle.py_meaning.specs.Text.{text_of}

-- what is said of the objects and events of each two journals of the same declarations and drives, where no declaration is a
-- raw code, and no drive has anything reported
abbrev pub OfTwoRuns : ((objects objects' : List Payload) (events events' : List Event) → Type 0) → Type 0
OfTwoRuns claim =
    (decls : List Decl) (drives : List DriveLine) (sources sources' : List SourceLines) (j j' : Journal) → IsCore decls drives → NameEarlier drives
    → IsJournalOf decls drives sources j → IsJournalOf decls drives sources' j' → claim j.objects j'.objects j.events j'.events

-- in a journal of such declarations and drives an exit is told the traceback of the last raise of its exception: one and the same for
-- that raise, and new the first time; where there was no raise it is told None
abbrev pub ExitsAreTold : Type 0
ExitsAreTold =
    (decls : List Decl) (drives : List DriveLine) (sources : List SourceLines) (j : Journal) → IsCore decls drives → NameEarlier drives
    → IsJournalOf decls drives sources j → TellRaises j.objects [] j.events

-- the events of both are the same, as far as both go, where two objects are related that the runs pair
abbrev pub HaveSameEvents : (objects objects' : List Payload) (events events' : List Event) → Type 0
HaveSameEvents objects objects' events events' = SameEvents (Paired objects objects' events events') events events'

-- and their objects are alike
abbrev pub HaveAlikeObjects : (objects objects' : List Payload) (events events' : List Event) → Type 0
HaveAlikeObjects objects objects' events events' = AreAlike (Paired objects objects' events events') objects objects'

-- both hold of two journals of the script that bytes are, where it has no raw code and no report; so do the claims below
abbrev pub JournalsAreSame : Type 0
JournalsAreSame =
    (bytes : List ℕ) (j j' : Journal) → IsCoreFrom bytes → IsRunFrom bytes j → IsRunFrom bytes j'
    → HaveSameEvents j.objects j'.objects j.events j'.events × HaveAlikeObjects j.objects j'.objects j.events j'.events

-- a journal that isn't whole is shorter than a whole one
abbrev pub UnfinishedIsShorter : Type 0
UnfinishedIsShorter =
    (bytes : List ℕ) (j j' : Journal) → IsCoreFrom bytes → IsWholeFrom bytes j → IsUnfinishedFrom bytes j'
    → length j'.events < length j.events

-- none is longer than a whole one
abbrev pub NoneIsLonger : Type 0
NoneIsLonger =
    (bytes : List ℕ) (j j' : Journal) → IsCoreFrom bytes → IsWholeFrom bytes j → IsRunFrom bytes j'
    → length j'.events ≤ length j.events

-- two whole ones are as long
abbrev pub WholeAreAsLong : Type 0
WholeAreAsLong =
    (bytes : List ℕ) (j j' : Journal) → IsCoreFrom bytes → IsWholeFrom bytes j → IsWholeFrom bytes j'
    → length j.events ≡ length j'.events

-- two of as many events have one text
abbrev pub AsLongHaveOneText : Type 0
AsLongHaveOneText =
    (bytes : List ℕ) (j j' : Journal) → IsCoreFrom bytes → IsRunFrom bytes j → IsRunFrom bytes j'
    → length j.events ≡ length j'.events → text_of j ≡ text_of j'

-- and so have two whole ones
abbrev pub WholeHaveOneText : Type 0
WholeHaveOneText =
    (bytes : List ℕ) (j j' : Journal) → IsCoreFrom bytes → IsWholeFrom bytes j → IsWholeFrom bytes j'
    → text_of j ≡ text_of j'
