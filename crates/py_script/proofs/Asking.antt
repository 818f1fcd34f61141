-- What the lines of drives ask, where a session has made their objects.
use Rattle.std.proofs.Common.{◌≡◌, ◌<◌, ℕ, List, Some, None, length, refl, sym, ap, subst, ◌∙◌, arith}
use Rattle.std.specs.Prelude.{Option}
use Rattle.py_objects.specs.declared.request.Keywords.TheVariants as keywords
use Rattle.py_objects.specs.declared.request.Request.{Request}
use Rattle.py_objects.specs.declared.request.Request.TheVariants as request
use Rattle.py_objects.specs.Objects.{Obj, Name, declared}
use Rattle.py_objects.proofs.GrowthLemmas.{length_grown, plainly_grows, declared_stays}
use Rattle.py_objects.proofs.NewLemmas.{declared_within}
use Rattle.py_lines.specs.declared.drive.DriveAtom.{DriveAtom}
use Rattle.py_lines.specs.declared.drive.DriveLine.{DriveLine}
use Rattle.py_lines.specs.declared.drive.DriveLine.TheVariants as drive
use Rattle.py_vm.specs.Machine.{Machine}
use Rattle.py_meaning.specs.Whole.{AsksThis, IsLeftBy, IsOf, IsThrown, AreOf}
use Rattle.py_script.specs.Held.{Held}
use Rattle.py_script.specs.Session.{OnlyGrew}
use Rattle.py_script.proofs.Objects.{left_by_grows}
use Rattle.py_script.proofs.Driven.{same_events, same_events_of}

-- what is seen of a session is in its machine
pub named_in : {h g : Held} → h ≡ g → (x : Name) (v : Obj) → declared h.vm.objects x ≡ Some v → declared g.vm.objects x ≡ Some v
named_in same x v is = ap (λ (k : Held). declared k.vm.objects x) (sym same) ∙ is

module _ (old new : Machine) (grew : OnlyGrew old new) where
  -- a name stands for what it stood for
  named_still : (x : Name) (v : Obj) → declared old.objects x ≡ Some v → declared new.objects x ≡ Some v
  named_still x v is = declared_stays old.objects new.objects x grew.grows ∙ is

  -- so does the number of a drive
  left_still : (n : ℕ) (v : Obj) → IsLeftBy old.objects old.events n v → IsLeftBy new.objects new.events n v
  left_still n v is = left_by_grows old.objects new.objects old.events new.events grew.grows (same_events old new (same_events_of old new grew)) n v is

  -- what was there is there
  pub there_still : (v : Obj) → v.number < length old.objects → v.number < length new.objects
  there_still v low = let more = length_grown old.objects new.objects (plainly_grows old.objects new.objects grew.grows) in omega (arith, low, more)

  -- and so is what has a name
  pub named_there : (x : Name) (v : Obj) → declared old.objects x ≡ Some v → v.number < length new.objects
  named_there x v is = declared_within new.objects x v (named_still x v is)

  module _ (line : DriveLine) where
    -- the line asks this
    abbrev pub Asks : Request → Type 0
    Asks r = AsksThis new.objects new.events line r

    pub asks_call : (x : Name) (some all : List DriveAtom) (f : Obj) (vs : List Obj) → line ≡ drive.Call x all → declared old.objects x ≡ Some f → some ≡ all → AreOf new.objects new.events some vs → Asks (request.Call f vs keywords.None)
    asks_call x some all f vs is named same of =
        let args : AreOf new.objects new.events all vs = subst (λ (atoms : List DriveAtom). AreOf new.objects new.events atoms vs) same of in
        subst (λ (l : DriveLine). AsksThis new.objects new.events l (request.Call f vs keywords.None)) (sym is) (f, vs, refl, named_still x f named, args)

    pub asks_send : (n : ℕ) (a : DriveAtom) (g v : Obj) → line ≡ drive.Send n a → IsLeftBy old.objects old.events n g → IsOf new.objects new.events a v → Asks (request.Send g v)
    asks_send n a g v is left of = subst (λ (l : DriveLine). AsksThis new.objects new.events l (request.Send g v)) (sym is) (g, v, refl, left_still n g left, of)

    pub asks_throw : (n : ℕ) (x : Name) (a : Option DriveAtom) (g k v : Obj) → line ≡ drive.Throw n x a → IsLeftBy old.objects old.events n g → declared old.objects x ≡ Some k → IsThrown new.objects new.events a v
        → Asks (request.Throw g k (Some v) None)
    asks_throw n x a g k v is left named of =
        subst (λ (l : DriveLine). AsksThis new.objects new.events l (request.Throw g k (Some v) None)) (sym is) (g, k, v, refl, left_still n g left, named_still x k named, of)
