-- A script with a raise in a handler, worked by hand: its journal, in which the exception gets the one that is handled as its context, and each of both gets
-- an entry of a traceback, and journals that look like it and are none.
use Rattle.std.specs.Prelude.{ℕ, Option, Some, None, List, [], ◌∷◌, ◌++◌, ◌≡◌, true, codes}
use Rattle.py_code.specs.Codes.{Codes}
use Rattle.py_objects.specs.declared.payload.Payload.{Payload}
use Rattle.py_objects.specs.declared.payload.Payload.TheVariants as payload
use Rattle.py_objects.specs.declared.edit.Change.{Change}
use Rattle.py_objects.specs.declared.edit.Edit.TheVariants as edit
use Rattle.py_objects.specs.declared.edit.LinkField.{LinkField}
use Rattle.py_objects.specs.declared.edit.LinkField.TheVariants as link
use Rattle.py_objects.specs.declared.error_kind.ErrorKind.TheVariants.{NameError}
use Rattle.py_objects.specs.declared.request.Request.{Request}
use Rattle.py_objects.specs.declared.request.Request.TheVariants.{Global, Match, Truth}
use Rattle.py_objects.specs.declared.event.GotAnswer.TheVariants as got
use Rattle.py_objects.specs.declared.event.Ending.TheVariants as ending
use Rattle.py_objects.specs.declared.event.DriveAnswer.TheVariants as answer
use Rattle.py_objects.specs.declared.event.Event.{Event}
use Rattle.py_objects.specs.declared.event.Event.TheVariants as event
use Rattle.py_objects.specs.Objects.{Obj, class_object}
use Rattle.py_exceptions.specs.Classes.{class_of, first_classes}
use Rattle.py_tree.specs.declared.expr.Atom.TheVariants as atom
use Rattle.py_tree.specs.Tree.{Leaf, Tree, Form, Show, TryExcept, clause, no_more, nothing, first}
use Rattle.py_grammar.specs.Grammar.{Decl, FunctionDecl}
use Rattle.py_run.specs.declared.journal.Journal.{Journal}
use Rattle.py_run.specs.Links.{lines_in}
use Rattle.py_meaning.specs.Whole.{IsJournalOf}
use Rattle.py_meaning.specs.Worked.{object, exception}
use Rattle.py_meaning.specs.WorkedLoop.{drives, entered, function_of, objects_with, raised_objects, unknown_error}

-- the bytes of the script; it drives what those of the loops do
abbrev pub script : List ℕ
script = codes "def f\ntry\nshow z\nexcept NameError\nshow z\nend\nend\ncall f\n"

-- show z
abbrev pub shows_z : Form
shows_z = Show (Leaf (atom.Name (codes "z")))

-- def f / try / show z / except NameError / show z / end / end
abbrev pub function : Tree
function = function_of (first 2 (TryExcept (first 3 shows_z nothing) (clause 4 (codes "NameError") None (first 5 shows_z nothing) no_more)) nothing)

-- what the script declares
abbrev pub decls : List Decl
decls = FunctionDecl function ∷ []

-- an entry of a traceback, in the frame of f: what it leads on to, the place behind the unit that asked, and its line
abbrev pub entry : Option Obj → (lasti line : ℕ) → Payload
entry next lasti line = payload.Traceback (record { next = next; frame = record { number = (object 3).number }; lasti = lasti; lineno = line })

-- the objects that the run adds behind the frame, 3: those of the first raise of NameError, 4 to 6, the exceptions of the second one, 7, and of no raise,
-- 8, the truth value, 9, the entries of both raises, 10 and 11, and one of no raise, 12
abbrev pub run_objects : List Payload
run_objects =
    raised_objects NameError ++ unknown_error NameError ∷ unknown_error NameError ∷ payload.Bool true ∷ entry None 2 3 ∷ entry None 8 5 ∷ entry (Some (object 11)) 8 5 ∷ []

abbrev pub objects : List Payload
objects = objects_with run_objects

-- the class NameError
abbrev pub name_error : Obj
name_error = class_object (class_of first_classes NameError)

-- the handler asks this, while the first exception is handled, and gets a value
abbrev pub asks : Request → (at : ℕ) → Obj → List Event → List Event
asks r at v events = event.Ask 1 r (Some (exception 6)) at ∷ event.Got 1 (got.Value v) ∷ events

-- the name is asked for in the try, and NameError answers
abbrev pub raised : List Event → List Event
raised events = event.Ask 1 (Global (object 2) (codes "z")) None 1 ∷ event.Got 1 (got.Raise (exception 6)) ∷ events

-- the clause is of its class, and asks for the name, too
abbrev pub handled : List Event → List Event
handled events =
    asks (Global (object 2) (codes "NameError")) 3 name_error
    (asks (Match (object 6) name_error) 4 (object 9)
    (asks (Truth (object 9)) 5 (object 9) (event.Ask 1 (Global (object 2) (codes "z")) (Some (exception 6)) 7 ∷ events)))

-- another NameError answers, which ends the body and the drive: the answer is the thirteenth event
abbrev pub events : List Event
events =
    entered (raised (handled (event.Got 1 (got.Raise (exception 7)) ∷ event.End 1 (ending.Raise (exception 7)) 7 ∷ event.Result 1 (answer.Raises (exception 7)) ∷ [])))

-- when there were so many events, a link of the one exception was set to the other
abbrev pub linked : LinkField → ℕ → (from to : Obj) → Change
linked field n from to = record { after = n; object = from; edit = edit.Link field (Some to) }

-- the first exception gets its entry
abbrev pub first_entry : Change
first_entry = linked link.Traceback 5 (object 6) (object 10)

-- the second exception gets the first one as its context as soon as it is there, and then its entry
abbrev pub context : Change
context = linked link.Context 13 (object 7) (object 6)

abbrev pub second_entry : Change
second_entry = linked link.Traceback 13 (object 7) (object 11)

-- the changes of the journal
abbrev pub links : List Change
links = first_entry ∷ context ∷ second_entry ∷ []

-- the code of f has these lines
abbrev pub HasLines : Codes → Type 0
HasLines k = (lines_in k 0 1 ≡ Some 3) × (lines_in k 0 7 ≡ Some 5)

-- the journal with these changes
abbrev pub journal : Codes → List Change → Journal
journal k changes = record { events = events; objects = objects; changes = changes; codes = k }

-- it is one of the script, whatever codes have those lines
abbrev pub AreItsChanges : List Change → Type 0
AreItsChanges changes = (k : Codes) → HasLines k → IsJournalOf decls drives [] (journal k changes)

-- it is none
abbrev pub AreNotItsChanges : List Change → Type 0
AreNotItsChanges changes = (k : Codes) → HasLines k → IsJournalOf decls drives [] (journal k changes) → ⊥

-- nor is it with its own changes, where the code has another line
abbrev pub NeedsTheLine : Type 0
NeedsTheLine = (k : Codes) → lines_in k 0 1 ≡ Some 2 → IsJournalOf decls drives [] (journal k links) → ⊥
