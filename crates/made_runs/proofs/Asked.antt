-- What drives ask stays so as more events come, and is put behind what earlier drives ask.
use Rattle.std.proofs.Common.{◌≡◌, ◌++◌, ℕ, List, [], ◌∷◌, Some, None, length, arith}
use Rattle.std.specs.Prelude.{Option}
use Rattle.py_objects.specs.declared.refs.PyBaseExceptionRef.{PyBaseExceptionRef}
use Rattle.py_objects.specs.declared.payload.Payload.{Payload}
use Rattle.py_objects.specs.declared.request.Request.{Request}
use Rattle.py_objects.specs.declared.event.Event.{Event}
use Rattle.py_objects.specs.declared.event.Event.TheVariants as event
use Rattle.py_objects.specs.Objects.{Obj}
use Rattle.py_objects.proofs.GrowthLemmas.{slice_get_grown}
use Rattle.py_lines.specs.declared.drive.DriveAtom.{DriveAtom}
use Rattle.py_lines.specs.declared.drive.DriveAtom.TheVariants as atom
use Rattle.py_lines.specs.declared.drive.DriveLine.{DriveLine}
use Rattle.py_lines.specs.declared.drive.DriveLine.TheVariants as drive
use Rattle.py_run.specs.declared.drive.Told.TheVariants as told
use Rattle.py_run.specs.Run.{Pose, Requests, Forms, Reports, Posed}
use Rattle.py_meaning.specs.Whole.{IsLeftBy, IsOf, IsThrown, AreOf, AsksThis, ReportsThis, Poses, AreAsked}

module _ (objects : List Payload) (es more : List Event) where
  -- what an earlier drive left is left still
  left_by : (n : ℕ) (v : Obj) → IsLeftBy objects es n v → IsLeftBy objects (es ++ more) n v
  left_by n v (i, w, here, is) = (i, w, slice_get_grown es more i (event.Result n w) here, is)

  -- an argument is of the same object
  of : (a : DriveAtom) (v : Obj) → IsOf objects es a v → IsOf objects (es ++ more) a v
  of (atom.Drive n) v is = left_by n v is
  of _ v is = is

  -- and so is each of some arguments
  are_of : (atoms : List DriveAtom) (vs : List Obj) → AreOf objects es atoms vs → AreOf objects (es ++ more) atoms vs
  are_of (a ∷ atoms) (v ∷ vs) are = (of a v are.0, are_of atoms vs are.1)
  are_of _ _ are = are

  -- what a drive throws stays the same
  thrown : (a : Option DriveAtom) (v : Obj) → IsThrown objects es a v → IsThrown objects (es ++ more) a v
  thrown None v is = is
  thrown (Some a) v is = of a v is

  -- a drive makes the same request
  asks_this : (d : DriveLine) (r : Request) → AsksThis objects es d r → AsksThis objects (es ++ more) d r
  asks_this (drive.Call x args) r (f, vs, is, named, are) = (f, vs, is, named, are_of args vs are)
  asks_this (drive.Next n) r (g, v, is, left, none) = (g, v, is, left_by n g left, none)
  asks_this (drive.Send n a) r (g, v, is, left, are) = (g, v, is, left_by n g left, of a v are)
  asks_this (drive.Throw n x a) r (g, c, v, is, left, named, are) =
      (g, c, v, is, left_by n g left, named, thrown a v are)
  asks_this (drive.Close n) r (g, is, left) = (g, is, left_by n g left)
  asks_this (drive.Report n) r asks = asks

  -- what it has reported is the same
  reports_this : (d : DriveLine) (e : Option PyBaseExceptionRef) → ReportsThis es d e → ReportsThis (es ++ more) d e
  reports_this (drive.Report n) e (i, w, here, is) = (i, w, slice_get_grown es more i (event.Result n w) here, is)
  reports_this (drive.Call x args) e reports = reports
  reports_this (drive.Next n) e reports = reports
  reports_this (drive.Send n a) e reports = reports
  reports_this (drive.Throw n x a) e reports = reports
  reports_this (drive.Close n) e reports = reports

  -- and poses the same
  poses : (d : DriveLine) (x : Pose) → Poses objects es d x → Poses objects (es ++ more) d x
  poses d (Requests r) asks = asks_this d r asks
  poses d (Forms x) asks = asks
  poses d (Reports (told.Report e)) reports = reports_this d e reports
  poses d (Reports (told.Part e)) reports = reports
  poses d (Reports (told.Exit e)) reports = reports

  -- the questions of drives stay theirs as more events come
  pub asked_on : (ds : List DriveLine) (qs : List Posed) → AreAsked objects es ds qs
      → AreAsked objects (es ++ more) ds qs
  asked_on ds [] are = tt
  asked_on [] (q ∷ qs) are = are
  asked_on (d ∷ ds) (q ∷ qs) are = ((poses d q.pose are.0.0, are.0.1), asked_on ds qs are.1)

-- questions of drives and of later drives are those of both, where each of the first drives was begun
pub asked_both : (objects : List Payload) (es : List Event) (ds more : List DriveLine) (qs others : List Posed)
    → length ds ≡ length qs → AreAsked objects es ds qs → AreAsked objects es more others
    → AreAsked objects es (ds ++ more) (qs ++ others)
asked_both objects es [] more [] others same are behind = behind
asked_both objects es [] more (q ∷ qs) others same are behind = absurd are
asked_both objects es (d ∷ ds) more [] others same are behind = absurd (omega (arith, same))
asked_both objects es (d ∷ ds) more (q ∷ qs) others same are behind =
    (are.0, asked_both objects es ds more qs others (omega (arith, same)) are.1 behind)
