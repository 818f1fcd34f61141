-- What the drives of a host ask.
use Rattle.std.specs.Prelude.{Option, Some, None}
use Rattle.py_objects.specs.declared.request.Keywords.TheVariants as keywords
use Rattle.py_objects.specs.declared.request.Request.{Request}
use Rattle.py_objects.specs.declared.request.Request.TheVariants as request
use Rattle.py_run.specs.declared.drive.Drive.{Drive}
use Rattle.py_run.specs.declared.drive.Drive.TheVariants as drive
use Rattle.py_run.specs.declared.drive.Told.TheVariants as told
use Rattle.py_run.specs.declared.drive.Question.{Question}
use Rattle.py_run.specs.declared.drive.Question.TheVariants.{Call, Send, Throw, Close}
use Rattle.py_run.specs.Run.{Pose, Requests, Reports}

-- the request of a question
abbrev pub request_of : Question → Request
request_of (Call f vs) = request.Call f vs keywords.None
request_of (Send g v) = request.Send g v
request_of (Throw g c v) = request.Throw g c (Some v) None
request_of (Close g) = request.Close g

-- the question of a drive, unless it has an exception reported
abbrev pub question_of : Drive → Option Question
question_of (drive.Call f vs) = Some (Call f vs)
question_of (drive.Send g v) = Some (Send g v)
question_of (drive.Throw g c v) = Some (Throw g c v)
question_of (drive.Close g) = Some (Close g)
question_of (drive.Report e) = None

-- what a drive poses
abbrev pub pose_of : Drive → Pose
pose_of (drive.Call f vs) = Requests (request_of (Call f vs))
pose_of (drive.Send g v) = Requests (request_of (Send g v))
pose_of (drive.Throw g c v) = Requests (request_of (Throw g c v))
pose_of (drive.Close g) = Requests (request_of (Close g))
pose_of (drive.Report e) = Reports (told.Report e)
