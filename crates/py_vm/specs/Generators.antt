-- The generators of a machine.
use Rattle.std.specs.Prelude.{ℕ, Option, Some, None, List, [], ◌∷◌, ◌≡◌, Bool, true, false, eqb, map, position, if◌then◌else◌}
use Rattle.py_objects.specs.declared.refs.PyBaseExceptionRef.{PyBaseExceptionRef}
use Rattle.py_objects.specs.declared.request.Request.{Request}
use Rattle.py_objects.specs.declared.request.Request.TheVariants as request
use Rattle.py_objects.specs.Edits.{Kept}
use Rattle.py_objects.specs.Objects.{Obj}
use Rattle.py_coro.specs.declared.coro.CoroEnd.{CoroEnd}
use Rattle.py_coro.specs.declared.coro.CoroAnswer.{CoroAnswer}
use Rattle.py_coro.specs.declared.coro.CoroAnswer.TheVariants as coro_answer
use Rattle.py_coro.specs.declared.coro.Begin.{Begin}
use Rattle.py_coro.specs.Modes.{Mode, Fresh, Suspended as Left, Running, Closed, Row, sent, thrown}
use Rattle.py_coro.specs.Coros.{State, behind, begun, entered, left_by}
use Rattle.py_coro.specs.Leaving.{Finishes, mode_behind}
use Rattle.py_run.specs.Generators.{Generator}
use Rattle.py_vm.specs.declared.generators.KeptGenerator.{KeptGenerator}
use Rattle.py_vm.specs.declared.stage.Suspended.{Suspended}

-- the generator that an object is, if it is one
abbrev pub kept_at : List KeptGenerator → Obj → Option KeptGenerator
kept_at [] g = None
kept_at (x ∷ xs) g = if eqb x.object.number g.number then Some x else kept_at xs g

-- its place
abbrev pub place_of : List KeptGenerator → Obj → Option ℕ
place_of list g = position (λ (x : KeptGenerator). eqb g.number x.object.number) list

-- the generator that an object is becomes what this makes of it
abbrev pub changed_at : Obj → (KeptGenerator → KeptGenerator) → List KeptGenerator → List KeptGenerator
changed_at g f [] = []
changed_at g f (x ∷ xs) = if eqb x.object.number g.number then f x ∷ xs else x ∷ changed_at g f xs

-- a generator as runs have it
abbrev pub seen_as : KeptGenerator → Generator
seen_as x = record { object = x.object; act = x.act; mode = x.generator.mode }

-- all of them
abbrev pub modes_of : List KeptGenerator → List Generator
modes_of list = map seen_as list

-- one in the state that this makes of its own
abbrev pub with_state : (State → State) → KeptGenerator → KeptGenerator
with_state f x = record x { generator = f x.generator }

-- one whose activation was taken or dropped
abbrev pub without_activation : KeptGenerator → KeptGenerator
without_activation x = record x { suspended = None }

-- one that is entered, to be closed or not
abbrev pub entered_at : Bool → KeptGenerator → KeptGenerator
entered_at closing = with_state (entered closing)

-- one that is closed, and whose activation was dropped
abbrev pub shut : KeptGenerator → KeptGenerator
shut x = record x { generator = record x.generator { mode = Closed }; suspended = None }

-- an activation that may be entered again in this mode
abbrev pub kept_in : Mode → Suspended → Option Suspended
kept_in Fresh s = None
kept_in Left s = Some s
kept_in Running s = None
kept_in Closed s = None

-- an activation that was left, if that may be entered again where its generator answers this
abbrev pub kept_by : CoroAnswer → Suspended → Option Suspended
kept_by (coro_answer.Value v) s = Some s
kept_by (coro_answer.Stop v) s = None
kept_by coro_answer.Closed s = None
kept_by (coro_answer.Raise e) s = None
kept_by (coro_answer.Convert e stop) s = None
kept_by coro_answer.Ignored s = None

-- one that was entered, and left like this, by this activation
abbrev pub settled : Suspended → CoroEnd → KeptGenerator → KeptGenerator
settled s how x = record x { generator = left_by how x.generator; suspended = kept_in (mode_behind x.generator.closing how) s }

-- a call of the generator that an object is comes to this row of its table, and leaves the generators so; none is there where nothing comes of it
abbrev pub IsCalledOn : Obj → (State → Row) → (old new : List KeptGenerator) → Option Begin → Type 0
IsCalledOn g row old new None = (kept_at old g ≡ None) × (new ≡ old)
IsCalledOn g row old new (Some b) =
    (x : KeptGenerator) × (kept_at old g ≡ Some x) × ((e : PyBaseExceptionRef) → b ≡ begun e (row x.generator)) × (new ≡ changed_at g (with_state (λ s. behind (row s) s)) old)

-- the same of a throw of an exception
abbrev pub IsThrownInto : Obj → PyBaseExceptionRef → (depth : ℕ) → (old new : List KeptGenerator) → Option Begin → Type 0
IsThrownInto g e depth old new None = (kept_at old g ≡ None) × (new ≡ old)
IsThrownInto g e depth old new (Some b) =
    (x : KeptGenerator) × (kept_at old g ≡ Some x) × (b ≡ begun e (thrown x.generator.mode depth))
    × (new ≡ changed_at g (with_state (λ s. behind (thrown s.mode depth) s)) old)

-- the generator that an object is runs, if it is one
abbrev pub IsRunningNow : List KeptGenerator → Obj → Type 0
IsRunningNow list g = (x : KeptGenerator) × (kept_at list g ≡ Some x) × (x.generator.mode ≡ Running)

-- the generator that an object is answers this, where it was left like this
abbrev pub FinishesAt : List KeptGenerator → Obj → Kept → CoroEnd → CoroAnswer → Type 0
FinishesAt list g store how a =
    (x : KeptGenerator) → kept_at list g ≡ Some x → Finishes store.made x.generator.kind x.generator.closing how a

-- it has this activation
abbrev pub TakesFrom : List KeptGenerator → Obj → Option Suspended → Type 0
TakesFrom list g s = (x : KeptGenerator) → kept_at list g ≡ Some x → s ≡ x.suspended

-- a send of a value that is None or isn't, as a row of a state
abbrev pub sent_in : (none : Bool) → (depth : ℕ) → State → Row
sent_in none depth s = sent s.mode none depth

-- whether a request closes a generator
abbrev pub is_close : Request → Bool
is_close (request.Close g) = true
is_close _ = false

-- the generator that a request is to enter, if it is one that does
abbrev pub generator_asked : Request → Option Obj
generator_asked (request.Send g v) = Some g
generator_asked (request.Throw g k v t) = Some g
generator_asked (request.Close g) = Some g
generator_asked _ = None
