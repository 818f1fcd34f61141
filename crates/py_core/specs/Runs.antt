-- What a run of a core script is to somebody who has the script and the journal alone, from whatever machine that is: names count, and no number of a
-- code does; and of the objects only what the events need is asked.
use Rattle.std.specs.Prelude.{ℕ, suc, Bool, true, ◌||◌, Option, Some, All, List, [], ◌∷◌, ◌≡◌, bytes_eq, ◌⊎◌, ◌<◌, ◌≤◌, if◌then◌else◌, length, map, slice_get, take}
use Rattle.std.specs.List.{list_any}
use Rattle.py_objects.specs.declared.refs.PyBaseExceptionRef.{PyBaseExceptionRef}
use Rattle.py_objects.specs.declared.refs.PyTypeRef.{PyTypeRef}
use Rattle.py_objects.specs.declared.payload.Payload.{Payload}
use Rattle.py_objects.specs.declared.payload.Payload.TheVariants as payload
use Rattle.py_objects.specs.declared.payload.ClassBody.{ClassBody}
use Rattle.py_objects.specs.declared.payload.ExceptionBody.{ExceptionBody}
use Rattle.py_objects.specs.declared.error_kind.ErrorKind.{ErrorKind}
use Rattle.py_objects.specs.declared.edit.Change.{Change}
use Rattle.py_objects.specs.declared.edit.Edit.{Edit}
use Rattle.py_objects.specs.declared.edit.Edit.TheVariants as edit
use Rattle.py_objects.specs.declared.request.Request.TheVariants as request
use Rattle.py_objects.specs.declared.event.Event.{Event}
use Rattle.py_objects.specs.declared.event.Event.TheVariants as event
use Rattle.py_objects.specs.Objects.{Obj, Name, HasPayload, class_object, declared, IsFunction}
use Rattle.py_objects.specs.Pairs.{Pairs}
use Rattle.py_lines.specs.declared.drive.DriveLine.{DriveLine}
use Rattle.py_grammar.specs.declared.script.Script.{Script}
use Rattle.py_grammar.specs.Grammar.{Decl, ClassDecl, ManagerDecl, decl_name, Coded, coded_name, codes_in}
use Rattle.py_grammar.specs.Rules.{is_builtin_class}
use Rattle.py_grammar.specs.Script.{decls_of}
use Rattle.py_exceptions.specs.BuiltIn.{IsClassOf}
use Rattle.py_run.specs.declared.journal.Journal.{Journal}
use Rattle.py_run.specs.Run.{Posed}
use Rattle.py_run.specs.Coming.{IsRunBy, IsDone}
use Rattle.py_determined.specs.Raises.{TellRaises}
use Rattle.py_meaning.specs.Whole.{AreAsked, HasClass, HasManager, Traces, plan_of}

-- ---- objects

-- the number of the function of a name among a script's codes, of which the first one has this number; where there is none, how many there are behind it
abbrev pub code_from : ℕ → List Coded → Name → ℕ
code_from i [] x = i
code_from i (c ∷ cs) x = if bytes_eq x (coded_name c) then i else code_from (suc i) cs x

-- whether a name stands for something in a script: for a declaration, or for a built-in class
abbrev pub is_known : List Decl → Name → Bool
is_known decls x = list_any (λ d. bytes_eq x (decl_name d)) decls || is_builtin_class x

-- a name that does; any other is as good as none, and no name of a script is empty
abbrev pub known_name : List Decl → Name → Name
known_name decls x = if is_known decls x then x else []

-- an entry stands under its name where the script knows that, and the body of a function is the one that the script has for its name, whatever code
-- the entry names
abbrev pub by_name : List Decl → Payload → Payload
by_name decls (payload.Function b) = payload.Function (record { name = known_name decls b.name; code = code_from 0 (codes_in decls) b.name })
by_name decls (payload.Class c) = payload.Class (record c { name = known_name decls c.name })
by_name decls (payload.Manager m) = payload.Manager (record m { name = known_name decls m.name })
by_name decls p = p

-- objects, which go by their names
abbrev pub named_objects : List Decl → List Payload → List Payload
named_objects decls objects = map (by_name decls) objects

-- a function is declared under a name
abbrev pub HasNamedFunction : List Payload → Name → Type 0
HasNamedFunction objects x = (f : Obj) × (declared objects x ≡ Some f) × IsFunction objects f

-- an exception is of a class that is declared under its own name, and the script knows that
abbrev pub IsOfDeclared : List Decl → List Payload → ExceptionBody → Type 0
IsOfDeclared decls objects e =
    (c : ClassBody) × HasPayload objects (class_object e.class) (payload.Class c)
    × (declared objects c.name ≡ Some (class_object e.class)) × (is_known decls c.name ≡ true)

-- each function, class and manager that a script declares, and each built-in class, has its entry: the first one of its name; further ones count for nothing.
-- Every exception is of a declared class, whose name the script knows
pub record AreCoreObjects (decls : List Decl) (objects : List Payload) : Type 0 where
  pub functions : (i : ℕ) (c : Coded) → slice_get (codes_in decls) i ≡ Some c → HasNamedFunction objects (coded_name c)
  pub classes : (i : ℕ) (c b : Name) → slice_get decls i ≡ Some (ClassDecl c b) → HasClass objects c b
  pub managers : (i : ℕ) (m e x : Name) → slice_get decls i ≡ Some (ManagerDecl m e x) → HasManager objects m e x
  pub builtins : (kind : ErrorKind) → (c : PyTypeRef) × IsClassOf objects kind c
  pub raised : (i : ℕ) (e : ExceptionBody) → slice_get objects i ≡ Some (payload.Exception e) → IsOfDeclared decls objects e

-- one and the same dict stands for the globals wherever a name is looked up, whatever it holds
abbrev pub IsLookedUpIn : List Payload → List Event → Obj → Type 0
IsLookedUpIn objects events globals =
    (i act : ℕ) (x : Name) (d : Obj) (own : Option PyBaseExceptionRef) (at : ℕ)
    → slice_get events i ≡ Some (event.Ask act (request.Global d x) own at)
    → (d ≡ globals) × ((pairs : Pairs) × HasPayload objects globals (payload.Dict pairs))

-- ---- runs

-- a front of a run of these declarations and drives, where these are the objects by their names
pub record IsRunAmong (decls : List Decl) (drives : List DriveLine) (objects : List Payload) (events : List Event) : Type 0 where
  pub asked : List Posed
  pub are_asked : AreAsked objects events drives asked
  pub globals : Obj
  pub looked_up : IsLookedUpIn objects events globals
  pub run : IsRunBy (Traces (codes_in decls) globals objects) (plan_of (codes_in decls) asked) objects events
  pub tells : TellRaises objects [] events

-- the same of objects that are those of the declarations
pub record IsCoreRunOf (decls : List Decl) (drives : List DriveLine) (objects : List Payload) (events : List Event) : Type 0 where
  pub are_objects : AreCoreObjects decls objects
  pub run : IsRunAmong decls drives (named_objects decls objects) events

-- an edit of a link, or of whether a context is printed
abbrev pub IsLinkEdit : Edit → Type 0
IsLinkEdit (edit.Link field v) = Unit {0}
IsLinkEdit (edit.Flag b) = Unit {0}
IsLinkEdit _ = ⊥

-- a change by such an edit
abbrev pub IsLinkChange : Change → Type 0
IsLinkChange c = IsLinkEdit c.edit

-- the first n events of a journal are a front of a run of a script, and nothing changes but links
pub record IsCoreRun (s : Script) (j : Journal) (n : ℕ) : Type 0 where
  pub run : IsCoreRunOf (decls_of s) s.drives j.objects (take n j.events)
  pub changes : All IsLinkChange j.changes

-- all of its events are a whole run
pub record IsCoreWhole (s : Script) (j : Journal) : Type 0 where
  pub run : IsCoreRun s j (length j.events)
  pub done : IsDone (length s.drives) j.events

-- ---- answers

-- each front that is no longer is one of a run
abbrev pub AllBefore : Script → Journal → ℕ → Type 0
AllBefore s j k = (i : ℕ) → i < k → IsCoreRun s j (suc i)

-- the event of this number breaks the rules: no front with it is one of a run, and each one that ends before it is
pub record BreaksAt (s : Script) (j : Journal) (k : ℕ) : Type 0 where
  pub there : k < length j.events
  pub breaks : (n : ℕ) → k < n → n ≤ length j.events → IsCoreRun s j n → ⊥
  pub before : AllBefore s j k

-- there are so many events, each of which keeps the rules, and they are no whole run
pub record EndsEarly (s : Script) (j : Journal) (k : ℕ) : Type 0 where
  pub all : k ≡ length j.events
  pub unfinished : IsCoreWhole s j → ⊥
  pub before : AllBefore s j k

-- a journal isn't a whole run, from the event of this number on
abbrev pub FailsAt : Script → Journal → ℕ → Type 0
FailsAt s j k = BreaksAt s j k ⊎ EndsEarly s j k
