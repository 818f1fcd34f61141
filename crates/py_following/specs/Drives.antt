-- What a drive of a script asks, by what the event behind it shows: an argument that is a literal is the object that the event names in its place, where that is one
-- of the literal, and else the first one.
use Rattle.std.specs.Prelude.{ℕ, zero, suc, Option, Some, None, List, [], ◌∷◌, if◌then◌else◌, option_map, slice_get}
use Rattle.py_objects.specs.declared.refs.PyBaseExceptionRef.{PyBaseExceptionRef}
use Rattle.py_objects.specs.declared.payload.Payload.{Payload}
use Rattle.py_objects.specs.declared.payload.Payload.TheVariants as payload
use Rattle.py_objects.specs.declared.request.Keywords.TheVariants as keywords
use Rattle.py_objects.specs.declared.request.Request.{Request}
use Rattle.py_objects.specs.declared.request.Request.TheVariants as request
use Rattle.py_objects.specs.declared.event.DriveAnswer.{DriveAnswer}
use Rattle.py_objects.specs.declared.event.DriveAnswer.TheVariants as answer
use Rattle.py_objects.specs.declared.event.ResumeHow.TheVariants as how
use Rattle.py_objects.specs.declared.event.Event.{Event}
use Rattle.py_objects.specs.declared.event.Event.TheVariants as event
use Rattle.py_objects.specs.Objects.{Obj, as_object, declared}
use Rattle.py_exceptions.specs.Repr.{items_of, payload_of}
use Rattle.py_lines.specs.declared.drive.DriveAtom.{DriveAtom}
use Rattle.py_lines.specs.declared.drive.DriveAtom.TheVariants as atom
use Rattle.py_lines.specs.declared.drive.DriveLine.{DriveLine}
use Rattle.py_lines.specs.declared.drive.DriveLine.TheVariants as drive
use Rattle.py_run.specs.Run.{Requests, Posed}
use Rattle.py_places.specs.Cells.{is_literal, first_of}

-- what an argument is: this object, or any one of a literal
pub data Sought : Type 0 where
  This : Obj → Sought
  Any_of : Payload → Sought

-- what the answer of a drive leaves for `$N`
abbrev pub left_by : DriveAnswer → Sought
left_by (answer.Returns v) = This v
left_by (answer.Yields v) = This v
left_by (answer.Stops None) = Any_of payload.None
left_by (answer.Stops (Some v)) = This v
left_by answer.Closes = Any_of payload.None
left_by (answer.Raises e) = This (as_object e)
left_by (answer.Reported text) = Any_of payload.None

module _ (objects : List Payload) (answers : List DriveAnswer) where
  -- what the drive of a number left, where these are the answers of the drives in order
  abbrev pub left_at : ℕ → Option Sought
  left_at zero = None
  left_at (suc i) = option_map left_by (slice_get answers i)

  abbrev pub sought : DriveAtom → Option Sought
  sought atom.None = Some (Any_of payload.None)
  sought (atom.Bool b) = Some (Any_of (payload.Bool b))
  sought (atom.Int n) = Some (Any_of (payload.Int n))
  sought (atom.Str s) = Some (Any_of (payload.Str s))
  sought (atom.Name x) = option_map This (declared objects x)
  sought (atom.Drive n) = left_at n

  -- ---- what an event shows

  -- the arguments of an exception
  abbrev pub args_in : Option Payload → List Obj
  args_in (Some (payload.Exception e)) = items_of (payload_of objects e.args)
  args_in _ = []

  abbrev pub args_of : PyBaseExceptionRef → List Obj
  args_of e = args_in (payload_of objects (as_object e))

  -- the objects that an event names in the places of a drive's arguments
  abbrev pub shown_by : Event → List Obj
  shown_by (event.Make a f vs) = vs
  shown_by (event.Resume a (how.Send v)) = v ∷ []
  shown_by (event.Resume a (how.Throw e)) = args_of e
  shown_by (event.Result d (answer.Raises e)) = args_of e
  shown_by _ = []

  -- ---- an argument's object

  -- the object that is shown, where it is one of a literal, and else the first one
  abbrev pub like_shown : Payload → Option Obj → Option Obj
  like_shown p None = first_of objects p
  like_shown p (Some v) = if is_literal p (slice_get objects v.number) then Some v else first_of objects p

  abbrev pub object_of : Option Obj → Sought → Option Obj
  object_of shown (This v) = Some v
  object_of shown (Any_of p) = like_shown p shown

  -- the same of what there may be
  abbrev pub object_if : Option Obj → Option Sought → Option Obj
  object_if shown None = None
  object_if shown (Some s) = object_of shown s

  -- an object in front of others, where all are there
  abbrev pub in_front : Option Obj → Option (List Obj) → Option (List Obj)
  in_front None vs = None
  in_front (Some v) None = None
  in_front (Some v) (Some vs) = Some (v ∷ vs)

  -- objects of arguments in order, where these are shown in order
  abbrev pub objects_of : List DriveAtom → List Obj → Option (List Obj)
  objects_of [] vs = Some []
  objects_of (a ∷ atoms) [] = in_front (object_if None (sought a)) (objects_of atoms [])
  objects_of (a ∷ atoms) (v ∷ vs) = in_front (object_if (Some v) (sought a)) (objects_of atoms vs)

  -- ---- the request of a drive

  -- what is thrown with a class, of which no event shows anything where the line has none
  abbrev pub thrown_with : Option DriveAtom → List Obj → Option Obj
  thrown_with None vs = first_of objects payload.None
  thrown_with (Some a) vs = object_if (slice_get vs 0) (sought a)

  abbrev pub calls : Option Obj → Option (List Obj) → Option Request
  calls None vs = None
  calls (Some f) None = None
  calls (Some f) (Some vs) = Some (request.Call f vs keywords.None)

  abbrev pub sends : Option Obj → Option Obj → Option Request
  sends None v = None
  sends (Some g) None = None
  sends (Some g) (Some v) = Some (request.Send g v)

  abbrev pub throws : Option Obj → Option Obj → Option Obj → Option Request
  throws None c v = None
  throws (Some g) None v = None
  throws (Some g) (Some c) None = None
  throws (Some g) (Some c) (Some v) = Some (request.Throw g c (Some v) None)

  -- what a line of a script asks, where these objects are shown in the places of its arguments; nothing, where there is no such object
  abbrev pub request_by : DriveLine → List Obj → Option Request
  request_by (drive.Call f atoms) vs = calls (declared objects f) (objects_of atoms vs)
  request_by (drive.Next n) vs = sends (object_if None (left_at n)) (like_shown payload.None (slice_get vs 0))
  request_by (drive.Send n a) vs = sends (object_if None (left_at n)) (object_if (slice_get vs 0) (sought a))
  request_by (drive.Throw n c a) vs = throws (object_if None (left_at n)) (declared objects c) (thrown_with a vs)
  request_by (drive.Close n) vs = option_map request.Close (object_if None (left_at n))
  request_by (drive.Report n) vs = None

  -- what a script's drive poses, which has entered nothing
  abbrev pub posing : Request → Posed
  posing r = record { pose = Requests r; entered = 0 }

  abbrev pub posed_by : Option DriveLine → List Obj → Option Posed
  posed_by None vs = None
  posed_by (Some line) vs = option_map posing (request_by line vs)
