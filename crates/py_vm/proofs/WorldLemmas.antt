-- Worlds that grow, and courses from one to the next.
use Rattle.std.proofs.Common.{◌≡◌, ℕ, List, refl, sym, ap, subst, ◌∙◌}
use Rattle.std.specs.Prelude.{Option, None}
use Rattle.py_objects.specs.declared.payload.ManagerBody.{ManagerBody}
use Rattle.py_objects.specs.declared.payload.Payload.{Payload}
use Rattle.py_objects.specs.declared.payload.Payload.TheVariants as payload
use Rattle.py_objects.specs.declared.request.Request.{Request}
use Rattle.py_objects.specs.declared.request.Request.TheVariants as request
use Rattle.py_objects.specs.Objects.{Obj, HasPayload, IsFunction}
use Rattle.py_objects.specs.Edits.{Kept}
use Rattle.py_objects.specs.Growth.{IsGrown}
use Rattle.py_objects.proofs.GrownLemmas.{grown_trans}
use Rattle.py_vm.specs.declared.calls.Course.{Course as MadeCourse}
use Rattle.py_vm.specs.declared.calls.Standing.{Standing}
use Rattle.py_vm.specs.declared.generators.KeptGenerator.{KeptGenerator}
use Rattle.py_vm.specs.declared.world.World.{World}
use Rattle.py_vm.specs.Courses.{IsCourse, IsCourseAt}
use Rattle.py_vm.specs.Worlds.{setting_in, CallsFrom, GrowsTo, HasGrown, IsCourseFrom, IsExitFunction, LeavesFrom, ThrowsFrom}

-- a world with these objects and generators
abbrev with_parts : World → Kept → List KeptGenerator → World
with_parts w store list = record w { store = store; generators = list }

-- where only objects came, the generators are the same
pub same_generators : (w w' : World) → HasGrown w w' → w'.generators ≡ w.generators
same_generators w w' grown = ap (λ (x : World). x.generators) grown.others

-- after a change of the generators, there may be more objects
pub grows_after : (w w' : World) (list : List KeptGenerator) → HasGrown (record w { generators = list }) w' → GrowsTo w w'
grows_after w w' list grown =
    record { grows = grown.grows; others = grown.others ∙ ap (with_parts w w'.store) (sym (same_generators (record w { generators = list }) w' grown)) }

pub grows_to : (w w' : World) → HasGrown w w' → GrowsTo w w'
grows_to w w' grown = grows_after w w' w.generators grown

-- after more objects came
pub goes_after : (w w' : World) (store : Kept) → IsGrown w.store store → GrowsTo (record w { store = store }) w' → GrowsTo w w'
goes_after w w' store first later = record { grows = grown_trans w.store store w'.store first later.grows; others = later.others }

-- a course that leaves the generators
pub course_leaves : (w w' : World) (at : Standing) (r : Request) (c : MadeCourse) → w'.generators ≡ w.generators
    → IsCourse (setting_in w at) w.store w'.store w.generators w.generators r c → IsCourseFrom w w' at r c
course_leaves w w' at r c same made =
    subst (λ (l : List KeptGenerator). IsCourse (setting_in w at) w.store w'.store w.generators l r c) (sym same) made

-- the function that an exit calls: that of a manager, or itself
pub exits_by_manager : (objects : List Payload) (x : Obj) (b : ManagerBody) → HasPayload objects x (payload.Manager b) → IsFunction objects b.exit
    → IsExitFunction objects x b.exit
exits_by_manager objects x b has function = (payload.Manager b, has, refl, function)

pub exits_itself : (objects : List Payload) (x : Obj) → IsFunction objects x → IsExitFunction objects x x
exits_itself objects x (b, has) = (payload.Function b, has, refl, (b, has))

-- its call leaves by the exit
pub leaves_by : (w w' : World) (at : Standing) (x f : Obj) (told : List Obj) → IsExitFunction w.store.made x f
    → (c : MadeCourse) → CallsFrom w w' at f told c → LeavesFrom w w' at x told c
leaves_by w w' at x f told (p, has, is, function) c calls = (p, has, subst (λ (o : Obj). CallsFrom w w' at o told c) is calls)

-- a throw that leaves the generators
pub throw_leaves : (w w' : World) (depth : ℕ) (g k : Obj) (v : Option Obj) (c : MadeCourse) → w'.generators ≡ w.generators
    → IsCourseAt depth w.store w'.store w.generators w.generators (request.Throw g k v None) c → ThrowsFrom w w' depth g k v c
throw_leaves w w' depth g k v c same made =
    subst (λ (l : List KeptGenerator). IsCourseAt depth w.store w'.store w.generators l (request.Throw g k v None) c) (sym same) made
