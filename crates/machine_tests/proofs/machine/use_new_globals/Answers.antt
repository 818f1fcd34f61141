use Rattle.std.proofs.Common.{◌≡◌, ◌++◌, List, [], ◌∷◌, ap, ◌∙◌, length}
use Rattle.std.specs.Prelude.{slice_get}
use Rattle.py_objects.specs.declared.payload.Payload.{Payload}
use Rattle.py_objects.specs.declared.payload.Payload.TheVariants as payload
use Rattle.py_objects.specs.Objects.{Obj}
use Rattle.py_objects.specs.Pairs.{Pairs}
use Rattle.py_objects.specs.Originals.{IsDict}
use Rattle.py_vm.specs.Machine.{Machine}
use Rattle.py_objects.proofs.NewLemmas.{newest}
use Rattle.machine_tests.proofs.machine.use_new_globals.Goals as goal

-- a dict that was put behind the others
last_dict : (old new : List Payload) (ps : Pairs) (v : Obj) → new ≡ old ++ payload.Dict ps ∷ [] → v.number ≡ length old → IsDict new v
last_dict old new ps v added last = (ps, ap (λ os. slice_get os v.number) added ∙ ap (slice_get (old ++ payload.Dict ps ∷ [])) last ∙ newest old (payload.Dict ps))

pub use_globals-requires-clause-dict : goal.use_globals-requires-clause-dict
use_globals-requires-clause-dict c = last_dict _ _ _ _ (ap (λ (m : Machine). m.objects) c.in_ok-globals.ensures.1.1) c.in_ok-globals.ensures.1.0
