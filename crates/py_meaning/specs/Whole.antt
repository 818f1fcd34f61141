-- What a script means: which journals are runs of it.
use Rattle.std.specs.Prelude.{ℕ, ◌⊎◌, Bool, true, false, if◌then◌else◌, Option, Some, None, List, [], ◌∷◌, ◌++◌, ◌≡◌, slice_get, length, map, take}
use Rattle.std.specs.List.{AllZip, list_any}
use Rattle.std.specs.List.Sorted.{IsPermutation}
use Rattle.py_objects.specs.declared.refs.PyBaseExceptionRef.{PyBaseExceptionRef}
use Rattle.py_objects.specs.declared.refs.PyTypeRef.{PyTypeRef}
use Rattle.py_objects.specs.declared.payload.Payload.{Payload}
use Rattle.py_objects.specs.declared.payload.Payload.TheVariants as payload
use Rattle.py_objects.specs.declared.payload.ClassBody.{ClassBody}
use Rattle.py_objects.specs.declared.payload.FunctionBody.{FunctionBody}
use Rattle.py_objects.specs.declared.payload.ManagerBody.{ManagerBody}
use Rattle.py_objects.specs.declared.error_kind.ErrorKind.{ErrorKind}
use Rattle.py_objects.specs.declared.request.Keywords.TheVariants as keywords
use Rattle.py_objects.specs.declared.request.Request.{Request}
use Rattle.py_objects.specs.declared.request.Request.TheVariants as request
use Rattle.py_objects.specs.declared.event.DriveAnswer.{DriveAnswer}
use Rattle.py_objects.specs.declared.event.DriveAnswer.TheVariants as answer
use Rattle.py_objects.specs.declared.event.Event.{Event}
use Rattle.py_objects.specs.declared.event.Event.TheVariants as event
use Rattle.py_objects.specs.ErrorKinds.{name_of}
use Rattle.py_objects.specs.Objects.{Obj, Name, HasPayload, as_object, declared, AllFit}
use Rattle.py_objects.specs.Own.{Own}
use Rattle.py_objects.specs.Telling.{ThrowTest, under_any}
use Rattle.py_tree.specs.declared.body.BodyKind.{BodyKind}
use Rattle.py_tree.specs.declared.body.BodyKind.TheVariants.{Function, Generator}
use Rattle.py_tree.specs.Tree.{seen_as}
use Rattle.py_tree.specs.Scene.{Scene, anywhere}
use Rattle.py_tree.specs.Trace.{IsTrace}
use Rattle.py_lines.specs.declared.drive.DriveAtom.{DriveAtom}
use Rattle.py_lines.specs.declared.drive.DriveAtom.TheVariants as atom
use Rattle.py_lines.specs.declared.drive.DriveLine.{DriveLine}
use Rattle.py_lines.specs.declared.drive.DriveLine.TheVariants as drive
use Rattle.py_lines.specs.declared.flag.RawFlag.{RawFlag}
use Rattle.py_lines.specs.declared.flag.RawFlag.TheVariants as flag
use Rattle.py_grammar.specs.declared.raw_block.RawBlock.{RawBlock}
use Rattle.py_grammar.specs.declared.raw_block.RawCounts.{RawCounts}
use Rattle.py_grammar.specs.declared.script.Script.{Script}
use Rattle.py_grammar.specs.Grammar.{Decl, ClassDecl, ManagerDecl, decl_name, Coded, OfBody, OfRaw, coded_name, codes_in}
use Rattle.py_grammar.specs.Script.{decls_of, IsReadScript}
use Rattle.py_exceptions.specs.BuiltIn.{IsClassOf}
use Rattle.py_run.specs.declared.drive.Told.{Told}
use Rattle.py_run.specs.declared.drive.Told.TheVariants as told
use Rattle.py_run.specs.declared.journal.Journal.{Journal}
use Rattle.py_run.specs.Run.{Signature, Pose, Requests, Forms, Reports, Posed, Plan}
use Rattle.py_run.specs.Coming.{May, IsRunBy, IsDone}
use Rattle.py_run.specs.Links.{HasLinks}
use Rattle.py_run.specs.Reports.{AreReported}
use Rattle.py_reports.specs.Scenes.{SourceLines}
use Rattle.py_meaning.specs.Reported.{origins_of, sources_of}

-- what the answer of a drive leaves for `$N`: its value or its exception, None where there is none
abbrev pub IsLeft : List Payload → DriveAnswer → Obj → Type 0
IsLeft objects (answer.Returns w) v = v ≡ w
IsLeft objects (answer.Yields w) v = v ≡ w
IsLeft objects (answer.Stops None) v = HasPayload objects v payload.None
IsLeft objects (answer.Stops (Some w)) v = v ≡ w
IsLeft objects answer.Closes v = HasPayload objects v payload.None
IsLeft objects (answer.Raises e) v = v ≡ as_object e
IsLeft objects (answer.Reported text) v = HasPayload objects v payload.None

-- the drive of this number came to an answer that leaves this object
abbrev pub IsLeftBy : List Payload → List Event → ℕ → Obj → Type 0
IsLeftBy objects events n v = (i : ℕ) × (w : DriveAnswer) × (slice_get events i ≡ Some (event.Result n w)) × IsLeft objects w v

-- an object of an argument of a drive: any one of a literal's value, the declared one of a name, what an earlier drive left
abbrev pub IsOf : List Payload → List Event → DriveAtom → Obj → Type 0
IsOf objects events atom.None v = HasPayload objects v payload.None
IsOf objects events (atom.Bool b) v = HasPayload objects v (payload.Bool b)
IsOf objects events (atom.Int n) v = HasPayload objects v (payload.Int n)
IsOf objects events (atom.Str s) v = HasPayload objects v (payload.Str s)
IsOf objects events (atom.Name x) v = declared objects x ≡ Some v
IsOf objects events (atom.Drive n) v = IsLeftBy objects events n v

abbrev pub AreOf : List Payload → List Event → List DriveAtom → List Obj → Type 0
AreOf objects events atoms vs = AllZip (IsOf objects events) atoms vs

-- an object of the value that a drive throws: any None where the line has none
abbrev pub IsThrown : List Payload → List Event → Option DriveAtom → Obj → Type 0
IsThrown objects events None v = HasPayload objects v payload.None
IsThrown objects events (Some a) v = IsOf objects events a v

-- the request that a drive of a script makes: a call, or a send, a throw or a close of what the drive of a number left; `next` sends any None
abbrev pub AsksThis : List Payload → List Event → DriveLine → Request → Type 0
AsksThis objects events (drive.Call f args) r = (g : Obj) × (vs : List Obj) × (r ≡ request.Call g vs keywords.None) × (declared objects f ≡ Some g) × AreOf objects events args vs
AsksThis objects events (drive.Next n) r = (g : Obj) × (v : Obj) × (r ≡ request.Send g v) × IsLeftBy objects events n g × HasPayload objects v payload.None
AsksThis objects events (drive.Send n a) r = (g : Obj) × (v : Obj) × (r ≡ request.Send g v) × IsLeftBy objects events n g × IsOf objects events a v
AsksThis objects events (drive.Throw n x a) r =
    (g : Obj) × (c : Obj) × (v : Obj) × (r ≡ request.Throw g c (Some v) None) × IsLeftBy objects events n g × (declared objects x ≡ Some c) × IsThrown objects events a v
AsksThis objects events (drive.Close n) r = (g : Obj) × (r ≡ request.Close g) × IsLeftBy objects events n g
AsksThis objects events (drive.Report n) r = ⊥

-- the exception that an answer raises, if it raises one
abbrev pub raised_in : DriveAnswer → Option PyBaseExceptionRef
raised_in (answer.Returns v) = None
raised_in (answer.Yields v) = None
raised_in (answer.Stops v) = None
raised_in answer.Closes = None
raised_in (answer.Raises e) = Some e
raised_in (answer.Reported text) = None

-- the drive of this number came to an answer that raises this exception, or none
abbrev pub IsRaisedBy : List Event → ℕ → Option PyBaseExceptionRef → Type 0
IsRaisedBy events n e = (i : ℕ) × (w : DriveAnswer) × (slice_get events i ≡ Some (event.Result n w)) × (e ≡ raised_in w)

-- what a drive of a script has reported: what the drive of a number raised
abbrev pub ReportsThis : List Event → DriveLine → Option PyBaseExceptionRef → Type 0
ReportsThis events (drive.Call f args) e = ⊥
ReportsThis events (drive.Next n) e = ⊥
ReportsThis events (drive.Send n a) e = ⊥
ReportsThis events (drive.Throw n x a) e = ⊥
ReportsThis events (drive.Close n) e = ⊥
ReportsThis events (drive.Report n) e = IsRaisedBy events n e

-- what one has told as a text: that report
abbrev pub TellsThis : List Event → DriveLine → Told → Type 0
TellsThis events d (told.Report e) = ReportsThis events d e
TellsThis events d (told.Part e) = ⊥
TellsThis events d (told.Exit e) = ⊥

-- what a drive of a script poses: that request or that report, since none has an exception made
abbrev pub Poses : List Payload → List Event → DriveLine → Pose → Type 0
Poses objects events d (Requests r) = AsksThis objects events d r
Poses objects events d (Forms x) = ⊥
Poses objects events d (Reports t) = TellsThis events d t

-- the same, made by a host that has entered nothing
abbrev pub Asks : List Payload → List Event → DriveLine → Posed → Type 0
Asks objects events d q = Poses objects events d q.pose × (q.entered ≡ 0)

-- the questions of a script's drives in order, as far as they were begun
abbrev pub AreAsked : List Payload → List Event → List DriveLine → List Posed → Type 0
AreAsked objects events ds [] = Unit {0}
AreAsked objects events [] (q ∷ qs) = ⊥
AreAsked objects events (d ∷ ds) (q ∷ qs) = Asks objects events d q × AreAsked objects events ds qs

-- how many parameters a raw code has: as many as its counts say that take positional arguments, and where it has none, as
-- many as its first line names
abbrev pub arity : RawBlock → Option RawCounts → ℕ
arity b None = length b.params
arity b (Some c) = c.args

-- the first so many of its locals, which are the names of its first line and those of its vars behind them
abbrev pub raw_params : RawBlock → List Name
raw_params b = take (arity b b.counts) (b.params ++ b.vars)

-- a flag by which a call makes a generator
abbrev pub is_gen : RawFlag → Bool
is_gen flag.Gen = true
is_gen _ = false

-- what a raw code is by its flags: no other that frames heed makes what can be suspended
abbrev pub raw_kind : RawBlock → BodyKind
raw_kind b = if list_any is_gen b.flags then Generator else Function

-- the signature of a code: its parameters, and what its activations are seen as where they can be suspended
abbrev pub signature_of : Coded → Signature
signature_of (OfBody t) = record { params = t.params; kind = seen_as t.kind }
signature_of (OfRaw b) = record { params = raw_params b; kind = seen_as (raw_kind b) }

-- what a run of these codes is of, where the drives that were begun ask this
abbrev pub plan_of : List Coded → List Posed → Plan
plan_of coded asked = record { signatures = map signature_of coded; asked = asked }

-- a pair binds the name of a declaration, as a text, to the object that is declared under it
abbrev pub Binds : List Payload → Decl → Obj × Obj → Type 0
Binds objects d p = HasPayload objects p.0 (payload.Str (decl_name d)) × (declared objects (decl_name d) ≡ Some p.1)

-- the globals: a dict that holds the declarations and nothing else, in any order
pub record AreGlobals (decls : List Decl) (objects : List Payload) (globals : Obj) : Type 0 where
  pub pairs : List (Obj × Obj)
  pub dict : HasPayload objects globals (payload.Dict pairs)
  pub bindings : List (Obj × Obj)
  pub bind : AllZip (Binds objects) decls bindings
  pub same : IsPermutation bindings pairs

-- the function of a code has its entry, which is declared under its name and names the code of this number
abbrev pub HasFunction : List Payload → ℕ → Coded → Type 0
HasFunction objects i c = (f : Obj) × (declared objects (coded_name c) ≡ Some f) × HasPayload objects f (payload.Function (record { name = coded_name c; code = i }))

-- a class has its entry, which is declared under its name: it derives from what is declared under its base's name, and then from all that that
-- class derives from
pub record HasClass (objects : List Payload) (name base_name : Name) : Type 0 where
  pub class : Obj
  pub is_declared : declared objects name ≡ Some class
  pub base : Obj
  pub is_base : declared objects base_name ≡ Some base
  pub above : ClassBody
  pub base_entry : HasPayload objects base (payload.Class above)
  pub entry : HasPayload objects class (payload.Class (record { name = name; mro = base ∷ above.mro }))

-- a manager has its entry, which is declared under its name: it is entered and left by what is declared under the names of its two functions
pub record HasManager (objects : List Payload) (name enter_name exit_name : Name) : Type 0 where
  pub manager : Obj
  pub is_declared : declared objects name ≡ Some manager
  pub enter : Obj
  pub is_enter : declared objects enter_name ≡ Some enter
  pub exit : Obj
  pub is_exit : declared objects exit_name ≡ Some exit
  pub entry : HasPayload objects manager (payload.Manager (record { name = name; enter = enter; exit = exit }))

-- an object is the one of a built-in class
abbrev pub IsBuiltinClass : List Payload → Obj → Type 0
IsBuiltinClass objects v = (kind : ErrorKind) × (declared objects (name_of kind) ≡ Some v)

-- one that these declarations declare
abbrev pub IsDeclaredClass : List Decl → List Payload → Obj → Type 0
IsDeclaredClass decls objects v = (i : ℕ) × (c : Name) × (b : Name) × (slice_get decls i ≡ Some (ClassDecl c b)) × (declared objects c ≡ Some v)

-- a manager that they declare
abbrev pub IsDeclaredManager : List Decl → List Payload → Obj → Type 0
IsDeclaredManager decls objects v = (i : ℕ) × (m : Name) × (e : Name) × (x : Name) × (slice_get decls i ≡ Some (ManagerDecl m e x)) × (declared objects m ≡ Some v)

-- a function that they declare, whose code has its place among the codes
abbrev pub IsDeclaredFunction : List Decl → List Payload → Obj → FunctionBody → Type 0
IsDeclaredFunction decls objects v b = (c : Coded) × (slice_get (codes_in decls) b.code ≡ Some c) × (b.name ≡ coded_name c) × (declared objects (coded_name c) ≡ Some v)

-- the objects of a script: each function, class and manager that it declares, and each built-in class, has its entry, where a function's has the
-- place of its code among the codes; no other function, class or manager is there; each entry names objects that are there, of the kinds that it
-- needs
pub record AreObjects (decls : List Decl) (objects : List Payload) : Type 0 where
  pub functions : (i : ℕ) (c : Coded) → slice_get (codes_in decls) i ≡ Some c → HasFunction objects i c
  pub classes : (i : ℕ) (c b : Name) → slice_get decls i ≡ Some (ClassDecl c b) → HasClass objects c b
  pub managers : (i : ℕ) (m e x : Name) → slice_get decls i ≡ Some (ManagerDecl m e x) → HasManager objects m e x
  pub builtins : (kind : ErrorKind) → (c : PyTypeRef) × IsClassOf objects kind c
  pub only_functions : (f : Obj) (b : FunctionBody) → HasPayload objects f (payload.Function b) → IsDeclaredFunction decls objects f b
  pub only_classes : (c : Obj) (b : ClassBody) → HasPayload objects c (payload.Class b) → IsBuiltinClass objects c ⊎ IsDeclaredClass decls objects c
  pub only_managers : (m : Obj) (b : ManagerBody) → HasPayload objects m (payload.Manager b) → IsDeclaredManager decls objects m
  pub fit : AllFit objects

-- an activation of a code may tell these own events where it runs here: that of a body, a trace of it. What one of a raw
-- code tells is said by the claim that a run has the runs of its codes (`RunsItsCodes` in py_script), which stands beside
-- `IsRun` wherever a run is claimed: alone this lets it tell anything, and so two runs are compared of scripts without raw
-- codes only (`IsCore`)
abbrev pub Tells : Scene → Coded → List Obj → List Own → Type 0
Tells scene (OfBody t) vs own = IsTrace scene t vs own
Tells scene (OfRaw b) vs own = Unit {0}

-- where a body runs into which exceptions are thrown under what a test lets through
abbrev pub thrown_in : ThrowTest → List Payload → Obj → Scene
thrown_in throws objects globals = record (anywhere objects globals) { throws_under = throws }

-- an activation's own events are what one of the code of its function may tell, where this is the dict of the globals, and where exceptions are thrown
-- in under what a test lets through
abbrev pub TracesUnder : ThrowTest → List Coded → Obj → List Payload → May
TracesUnder throws coded globals objects f vs own =
    (b : FunctionBody) × HasPayload objects f (payload.Function b) × ((c : Coded) × (slice_get coded b.code ≡ Some c) × Tells (thrown_in throws objects globals) c vs own)

-- the same, where they are thrown in whatever is handled
abbrev pub Traces : List Coded → Obj → List Payload → May
Traces coded globals objects = TracesUnder under_any coded globals objects

-- a prefix of a run of these declarations and drives
pub record IsRunOf (decls : List Decl) (drives : List DriveLine) (objects : List Payload) (events : List Event) : Type 0 where
  pub asked : List Posed
  pub are_asked : AreAsked objects events drives asked
  pub globals : Obj  -- one and the same dict throughout
  pub are_globals : AreGlobals decls objects globals
  pub run : IsRunBy (Traces (codes_in decls) globals objects) (plan_of (codes_in decls) asked) objects events
  pub are_objects : AreObjects decls objects

-- the journal is a prefix of a run of these declarations and drives, with these source texts: nothing changes in it but the links that exceptions get,
-- and each report in it is the one of what its drive has reported
pub record IsJournalOf (decls : List Decl) (drives : List DriveLine) (sources : List SourceLines) (j : Journal) : Type 0 where
  pub run : IsRunOf decls drives j.objects j.events
  pub links : HasLinks (λ throws. TracesUnder throws (codes_in decls) run.globals j.objects) j
  pub reports : AreReported (plan_of (codes_in decls) run.asked) (origins_of (codes_in decls) sources) j.objects j.changes [] j.events

-- it is one of a script
abbrev pub IsRun : Script → Journal → Type 0
IsRun s j = IsJournalOf (decls_of s) s.drives (sources_of s.text) j

-- every drive of the script has its result, and nothing runs
abbrev pub IsWhole : Script → Journal → Type 0
IsWhole s j = IsDone (length s.drives) j.events

-- the journal is a prefix of a run of the script that the bytes are, whatever codes it has
abbrev pub IsRunFrom : List ℕ → Journal → Type 0
IsRunFrom bytes j = (s : Script) × IsReadScript bytes s × IsRun s j

-- a whole one
abbrev pub IsWholeFrom : List ℕ → Journal → Type 0
IsWholeFrom bytes j = (s : Script) × IsReadScript bytes s × IsRun s j × IsWhole s j

-- one that isn't whole
abbrev pub IsUnfinishedFrom : List ℕ → Journal → Type 0
IsUnfinishedFrom bytes j = (s : Script) × IsReadScript bytes s × IsRun s j × (IsWhole s j → ⊥)
