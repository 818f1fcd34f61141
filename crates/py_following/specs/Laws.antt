-- What follows for events that are followed.
use Rattle.std.specs.Prelude.{ℕ, List, ◌∷◌, ◌++◌, ◌≡◌, Some, length, slice_get}
use Rattle.py_objects.specs.declared.payload.Payload.{Payload}
use Rattle.py_objects.specs.declared.event.Event.{Event}
use Rattle.py_objects.specs.Objects.{AllBelow, payload_numbers}
use Rattle.py_lines.specs.declared.drive.DriveLine.{DriveLine}
use Rattle.py_grammar.specs.Grammar.{Decl, codes_in}
use Rattle.py_grammar.specs.WellFormed.{AreWellFormed}
use Rattle.py_meaning.specs.Core.{IsCore}
use Rattle.py_core.specs.Runs.{AreCoreObjects, IsRunAmong, named_objects}
use Rattle.py_following.specs.Followed.{Followed, unbegun, Passes, FollowsTo}

-- declarations and drives of the core, with objects that are theirs
pub record CanBeFollowed (decls : List Decl) (drives : List DriveLine) (objects : List Payload) : Type 0 where
  pub well : AreWellFormed decls drives
  pub core : IsCore decls drives
  pub entries : AreCoreObjects decls objects
  pub within : (i : ℕ) (p : Payload) → slice_get objects i ≡ Some p → AllBelow (length objects) (payload_numbers p)

-- events that may come one after another are a front of a run
abbrev pub FollowedAreRuns : Type 0
FollowedAreRuns =
    (decls : List Decl) (drives : List DriveLine) (objects : List Payload) (events : List Event) (f : Followed) → CanBeFollowed decls drives objects
    → FollowsTo (codes_in decls) (named_objects decls objects) drives unbegun events f → IsRunAmong decls drives (named_objects decls objects) events

-- and each event of a run may come behind those before it
abbrev pub RunsAreFollowed : Type 0
RunsAreFollowed =
    (decls : List Decl) (drives : List DriveLine) (objects : List Payload) (front back : List Event) (e : Event) (f : Followed) → CanBeFollowed decls drives objects
    → IsRunAmong decls drives (named_objects decls objects) (front ++ e ∷ back)
    → FollowsTo (codes_in decls) (named_objects decls objects) drives unbegun front f → Passes (codes_in decls) (named_objects decls objects) drives f e
