-- What questions come to in one list of objects: one thing each.
use Rattle.std.specs.Prelude.{Bool, List, Option, ◌≡◌}
use Rattle.py_objects.specs.declared.payload.CoroKind.{CoroKind}
use Rattle.py_objects.specs.declared.payload.Payload.{Payload}
use Rattle.py_objects.specs.declared.request.Request.{Request}
use Rattle.py_objects.specs.Objects.{Obj}
use Rattle.py_exceptions.specs.Normalizing.{Normalizes}
use Rattle.py_coro.specs.declared.coro.CoroEnd.{CoroEnd}
use Rattle.py_coro.specs.Leaving.{Finishes}
use Rattle.py_answers.specs.Answers.{Replies}
use Rattle.py_run.specs.Run.{Phase, Plan}
use Rattle.py_run.specs.Calls.{ComesTo, IsDue, Setting}
use Rattle.py_run.specs.Coming.{IsAnswered, IsFormed, IsReply, Opens, Past, Starts}

-- at most one value is such
abbrev pub AtMostOne : {A : Type 0} → (A → Type 0) → Type 0
AtMostOne {A} is_such = (x y : A) → is_such x → is_such y → x ≡ y

-- a question that needs no activation has one reply
abbrev pub RepliesOnce : Type 0
RepliesOnce = (objects : List Payload) (r : Request) → AtMostOne (Replies objects r)

-- one thing comes of what is thrown
abbrev pub NormalizesOnce : Type 0
NormalizesOnce = (objects : List Payload) (thrown : Obj) (v : Option Obj) → AtMostOne (Normalizes objects thrown v)

-- a generator that was left has one answer
abbrev pub FinishesOnce : Type 0
FinishesOnce = (objects : List Payload) (kind : CoroKind) (closing : Bool) (how : CoroEnd) → AtMostOne (Finishes objects kind closing how)

-- a question comes to one thing in one setting
abbrev pub ComesOnce : Type 0
ComesOnce = (at : Setting) (objects : List Payload) (r : Request) → AtMostOne (ComesTo at objects r)

-- where the activation that it entered was left, it has one reply
abbrev pub DueOnce : Type 0
DueOnce = (objects : List Payload) (r : Request) (how : CoroEnd) → AtMostOne (IsDue objects r how)

-- the open question comes to one thing
abbrev pub OpensOnce : Type 0
OpensOnce = (plan : Plan) (objects : List Payload) (p : Past) → AtMostOne (Opens plan objects p)

-- one activation starts
abbrev pub StartsOnce : Type 0
StartsOnce = (plan : Plan) (objects : List Payload) (p : Past) (phase : Phase) → AtMostOne (Starts plan objects p phase)

-- at one past a question has one reply
abbrev pub RepliedOnce : Type 0
RepliedOnce = (plan : Plan) (objects : List Payload) (p : Past) (phase : Phase) (r : Request) → AtMostOne (IsReply plan objects p phase r)

-- so has the open one
abbrev pub AnsweredOnce : Type 0
AnsweredOnce = (plan : Plan) (objects : List Payload) (p : Past) → AtMostOne (IsAnswered plan objects p)

-- and what the drive has an exception made of comes to one
abbrev pub FormedOnce : Type 0
FormedOnce = (plan : Plan) (objects : List Payload) (p : Past) → AtMostOne (IsFormed plan objects p)
