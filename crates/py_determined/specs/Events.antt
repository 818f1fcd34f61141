-- When the events of two runs are the same, but for the numbers of objects and of units.
use Rattle.std.specs.Prelude.{List, [], ◌∷◌, ◌≡◌}
use Rattle.py_objects.specs.declared.event.DriveAnswer.{DriveAnswer}
use Rattle.py_objects.specs.declared.event.DriveAnswer.TheVariants as answer
use Rattle.py_objects.specs.declared.event.Event.{Event}
use Rattle.py_objects.specs.declared.event.Event.TheVariants as event
use Rattle.py_agreement.specs.Agreement.{Relation, SameException, SameMaybe, SameHandled, SameAll, SameAnswer, SameHow, SameEnding}
use Rattle.py_determined.specs.Sameness.{SameAsked}

-- two results of drives
abbrev pub SameResult : Relation → DriveAnswer → DriveAnswer → Type 0
SameResult S (answer.Returns v) (answer.Returns w) = S v w
SameResult S (answer.Yields v) (answer.Yields w) = S v w
SameResult S (answer.Stops v) (answer.Stops w) = SameMaybe S v w
SameResult S answer.Closes answer.Closes = Unit {0}
SameResult S (answer.Raises e) (answer.Raises f) = SameException S e f
SameResult S (answer.Reported s) (answer.Reported t) = s ≡ t
SameResult S _ _ = ⊥

-- two events of one kind and of one drive or activation, with related objects. The units are free
abbrev pub SameEvent : Relation → Event → Event → Type 0
SameEvent S (event.Drive d) (event.Drive d') = d ≡ d'
SameEvent S (event.Result d w) (event.Result d' w') = (d ≡ d') × SameResult S w w'
SameEvent S (event.Make a f vs) (event.Make b g ws) = (a ≡ b) × S f g × SameAll S vs ws
SameEvent S (event.Resume a h) (event.Resume b h') = (a ≡ b) × SameHow S h h'
SameEvent S (event.Ask a r own at) (event.Ask b r' own' at') = (a ≡ b) × SameAsked S r r' × SameHandled S own own'
SameEvent S (event.Got a w) (event.Got b w') = (a ≡ b) × SameAnswer S w w'
SameEvent S (event.Round a at) (event.Round b at') = a ≡ b
SameEvent S (event.Yield a v at) (event.Yield b w at') = (a ≡ b) × S v w
SameEvent S (event.End a e at) (event.End b f at') = (a ≡ b) × SameEnding S e f
SameEvent S _ _ = ⊥

-- two lists of events are the same as far as both go: where either one ends nothing more is said
abbrev pub SameEvents : Relation → List Event → List Event → Type 0
SameEvents S [] fs = Unit {0}
SameEvents S (e ∷ es) [] = Unit {0}
SameEvents S (e ∷ es) (f ∷ fs) = SameEvent S e f × SameEvents S es fs
