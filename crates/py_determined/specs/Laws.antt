-- What the same questions come to in two runs whose objects are alike.
use Rattle.std.specs.Prelude.{Bool, List, Option, ℕ}
use Rattle.py_objects.specs.declared.payload.CoroKind.{CoroKind}
use Rattle.py_objects.specs.declared.payload.Payload.{Payload}
use Rattle.py_objects.specs.declared.request.Request.{Request}
use Rattle.py_objects.specs.Objects.{Obj}
use Rattle.py_exceptions.specs.declared.ctor.Instantiate.{Instantiate}
use Rattle.py_exceptions.specs.Normalizing.{Normalizes}
use Rattle.py_coro.specs.declared.coro.CoroEnd.{CoroEnd}
use Rattle.py_coro.specs.declared.coro.CoroAnswer.{CoroAnswer}
use Rattle.py_coro.specs.Leaving.{Finishes}
use Rattle.py_answers.specs.Answers.{Replies, Reply}
use Rattle.py_run.specs.Calls.{ComesTo, Course, IsDue, Setting}
use Rattle.py_agreement.specs.Agreement.{Relation, by_test, SameMaybe}
use Rattle.py_determined.specs.Alike.{AreAlike}
use Rattle.py_determined.specs.Sameness.{SameAsked, SameCoroAnswer, SameCourse, SameInstance, SameLeft, SameReply, SameSetting}

-- what is said of each two stores that are alike, by a test of which numbers are related
abbrev pub OfAlikeStores : (Relation → List Payload → List Payload → Type 0) → Type 0
OfAlikeStores claim =
    (same : ℕ → ℕ → Bool) (objects objects' : List Payload) → AreAlike (by_test same) objects objects' → claim (by_test same) objects objects'

-- the same question has the same reply
abbrev pub SameReplies : Relation → List Payload → List Payload → Type 0
SameReplies S objects objects' =
    (r r' : Request) (reply reply' : Reply) → SameAsked S r r'
    → Replies objects r reply → Replies objects' r' reply' → SameReply S reply reply'

-- the same comes of what is thrown
abbrev pub SameInstances : Relation → List Payload → List Payload → Type 0
SameInstances S objects objects' =
    (c c' : Obj) (v v' : Option Obj) (o o' : Instantiate) → S c c' → SameMaybe S v v'
    → Normalizes objects c v o → Normalizes objects' c' v' o' → SameInstance S o o'

-- a generator of the same kind that was left the same way answers the same
abbrev pub SameFinishes : Relation → List Payload → List Payload → Type 0
SameFinishes S objects objects' =
    (kind : CoroKind) (closing : Bool) (how how' : CoroEnd) (a a' : CoroAnswer) → SameLeft S how how'
    → Finishes objects kind closing how a → Finishes objects' kind closing how' a' → SameCoroAnswer S a a'

-- the same question in the same setting comes to the same
abbrev pub SameCourses : Relation → List Payload → List Payload → Type 0
SameCourses S objects objects' =
    (at at' : Setting) (r r' : Request) (c c' : Course) → SameSetting S at at' → SameAsked S r r'
    → ComesTo at objects r c → ComesTo at' objects' r' c' → SameCourse S c c'

-- the same question has the same reply where the activation that it entered was left the same
abbrev pub SameDues : Relation → List Payload → List Payload → Type 0
SameDues S objects objects' =
    (r r' : Request) (how how' : CoroEnd) (reply reply' : Reply) → SameAsked S r r' → SameLeft S how how'
    → IsDue objects r how reply → IsDue objects' r' how' reply' → SameReply S reply reply'
