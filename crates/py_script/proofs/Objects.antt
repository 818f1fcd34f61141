-- The objects of a script, as more come: what is declared and what drives left stay so.
use Rattle.std.proofs.Common.{◌≡◌, ◌-◌, ℕ, List, [], ◌∷◌, ◌++◌, length, Some, None, sym, ap, ◌∙◌, subst, ◌⊎◌, inl, inr}
use Rattle.std.specs.Prelude.{Option, slice_get}
use Rattle.std.proofs.lemmas.Option.{slice_get_within}
use Rattle.py_objects.specs.declared.refs.PyBaseExceptionRef.{PyBaseExceptionRef}
use Rattle.py_objects.specs.declared.payload.Payload.{Payload}
use Rattle.py_objects.specs.declared.payload.Payload.TheVariants as payload
use Rattle.py_objects.specs.declared.request.Request.{Request}
use Rattle.py_objects.specs.declared.event.DriveAnswer.{DriveAnswer}
use Rattle.py_objects.specs.declared.event.DriveAnswer.TheVariants as answer
use Rattle.py_objects.specs.declared.event.Event.{Event}
use Rattle.py_objects.specs.declared.event.Event.TheVariants as event
use Rattle.py_objects.specs.Objects.{Obj, Name, HasPayload, declares, declared, pair_numbers, AllBelow}
use Rattle.py_objects.specs.Growth.{GrowsPlainly}
use Rattle.py_objects.proofs.GrowthLemmas.{slice_get_grown, payload_grown, plainly_grows, slice_get_split, declared_stays}
use Rattle.py_objects.proofs.NewLemmas.{declared_within}
use Rattle.py_laid.specs.Fits.{Continues}
use Rattle.py_lines.specs.declared.drive.DriveAtom.{DriveAtom}
use Rattle.py_lines.specs.declared.drive.DriveAtom.TheVariants as atom
use Rattle.py_lines.specs.declared.drive.DriveLine.{DriveLine}
use Rattle.py_lines.specs.declared.drive.DriveLine.TheVariants as drive
use Rattle.py_grammar.specs.Grammar.{Decl, decl_name}
use Rattle.py_run.specs.declared.drive.Told.TheVariants as told
use Rattle.py_run.specs.Run.{Pose, Requests, Forms, Reports, Posed}
use Rattle.py_meaning.specs.Whole.{IsLeft, IsLeftBy, IsOf, IsThrown, AreOf, AsksThis, IsRaisedBy, ReportsThis, Poses, Asks, AreAsked, AreGlobals, AreObjects}
use Rattle.py_script.specs.Session.{AreBindings}
use Rattle.py_meaning.proofs.Entries.{objects_more}

-- an entry that is a declaration was there before others came plainly
declared_before : (objects objects' : List Payload) (v : Obj) (p : Payload) (n : Name) → GrowsPlainly objects objects' → declares p ≡ Some n → HasPayload objects' v p → HasPayload objects v p
declared_before objects objects' v p n grows says has = go (slice_get_split objects grows.more v.number p (ap (λ os. slice_get os v.number) (sym grows.is) ∙ has))
  where
    go : (slice_get objects v.number ≡ Some p) ⊎ (slice_get grows.more (v.number - length objects) ≡ Some p) → HasPayload objects v p
    go (inl old) = old
    go (inr new) = absurd (let none : declares p ≡ None = grows.plain _ p new in let clash : Some n ≡ None = sym says ∙ none in cc clash)

-- a script's objects stay so as others come plainly
pub objects_grow : (ds : List Decl) (objects objects' : List Payload) → GrowsPlainly objects objects' → AreObjects ds objects → AreObjects ds objects'
objects_grow ds objects objects' grows are =
    objects_more ds objects objects' (plainly_grows objects objects' grows) are (λ v p x says has. declared_before objects objects' v p x grows says has) (grows.fit are.fit)

module _ (objects objects' : List Payload) (events events' : List Event) (grows : GrowsPlainly objects objects') (on : Continues events events') where
  -- an object stays what it is
  stays : (v : Obj) (p : Payload) → HasPayload objects v p → HasPayload objects' v p
  stays v p has = payload_grown objects objects' v p (plainly_grows objects objects' grows) has

  left_grows : (w : DriveAnswer) (v : Obj) → IsLeft objects w v → IsLeft objects' w v
  left_grows (answer.Stops None) v is = stays v payload.None is
  left_grows answer.Closes v is = stays v payload.None is
  left_grows (answer.Reported text) v is = stays v payload.None is
  left_grows w v is = is

  -- so is what a drive left
  pub left_by_grows : (n : ℕ) (v : Obj) → IsLeftBy objects events n v → IsLeftBy objects' events' n v
  left_by_grows n v (i, w, here, is) = (i, w, ap (λ es. slice_get es i) on.1 ∙ slice_get_grown events on.0 i (event.Result n w) here, left_grows w v is)

  of_grows : (a : DriveAtom) (v : Obj) → IsOf objects events a v → IsOf objects' events' a v
  of_grows atom.None v is = stays v payload.None is
  of_grows (atom.Bool b) v is = stays v (payload.Bool b) is
  of_grows (atom.Int n) v is = stays v (payload.Int n) is
  of_grows (atom.Str s) v is = stays v (payload.Str s) is
  of_grows (atom.Name x) v is = declared_stays objects objects' x grows ∙ is
  of_grows (atom.Drive n) v is = left_by_grows n v is

  pub are_of_grow : (atoms : List DriveAtom) (vs : List Obj) → AreOf objects events atoms vs → AreOf objects' events' atoms vs
  are_of_grow (a ∷ atoms) (v ∷ vs) of = (of_grows a v of.0, are_of_grow atoms vs of.1)
  are_of_grow _ _ of = of

  thrown_grows : (a : Option DriveAtom) (v : Obj) → IsThrown objects events a v → IsThrown objects' events' a v
  thrown_grows None v is = stays v payload.None is
  thrown_grows (Some a) v is = of_grows a v is

  asks_this_grows : (d : DriveLine) (r : Request) → AsksThis objects events d r → AsksThis objects' events' d r
  asks_this_grows (drive.Call x args) r (f, vs, is, named, of) = (f, vs, is, declared_stays objects objects' x grows ∙ named, are_of_grow args vs of)
  asks_this_grows (drive.Next n) r (g, v, is, left, none) = (g, v, is, left_by_grows n g left, stays v payload.None none)
  asks_this_grows (drive.Send n a) r (g, v, is, left, of) = (g, v, is, left_by_grows n g left, of_grows a v of)
  asks_this_grows (drive.Throw n x a) r (g, c, v, is, left, named, of) = (g, c, v, is, left_by_grows n g left, declared_stays objects objects' x grows ∙ named, thrown_grows a v of)
  asks_this_grows (drive.Close n) r (g, is, left) = (g, is, left_by_grows n g left)
  asks_this_grows (drive.Report n) r asks = asks

  -- so is what a drive raised
  pub raised_by_grows : (n : ℕ) (e : Option PyBaseExceptionRef) → IsRaisedBy events n e → IsRaisedBy events' n e
  raised_by_grows n e (i, w, here, is) = (i, w, ap (λ es. slice_get es i) on.1 ∙ slice_get_grown events on.0 i (event.Result n w) here, is)

  reports_this_grows : (d : DriveLine) (e : Option PyBaseExceptionRef) → ReportsThis events d e → ReportsThis events' d e
  reports_this_grows (drive.Report n) e raised = raised_by_grows n e raised
  reports_this_grows (drive.Call x args) e reports = reports
  reports_this_grows (drive.Next n) e reports = reports
  reports_this_grows (drive.Send n a) e reports = reports
  reports_this_grows (drive.Throw n x a) e reports = reports
  reports_this_grows (drive.Close n) e reports = reports

  poses_grow : (d : DriveLine) (x : Pose) → Poses objects events d x → Poses objects' events' d x
  poses_grow d (Requests r) asks = asks_this_grows d r asks
  poses_grow d (Forms x) asks = asks
  poses_grow d (Reports (told.Report e)) reports = reports_this_grows d e reports
  poses_grow d (Reports (told.Part e)) reports = reports
  poses_grow d (Reports (told.Exit e)) reports = reports

  -- questions of drives stay so
  pub asked_grow : (ds : List DriveLine) (qs : List Posed) → AreAsked objects events ds qs → AreAsked objects' events' ds qs
  asked_grow ds [] are = tt
  asked_grow [] (q ∷ qs) are = are
  asked_grow (d ∷ ds) (q ∷ qs) are = ((poses_grow d q.pose are.0.0, are.0.1), asked_grow ds qs are.1)

  pub bindings_grow : (ts : List Decl) (ps : List (Obj × Obj)) → AreBindings objects ts ps → AreBindings objects' ts ps
  bindings_grow (t ∷ ts) (p ∷ ps) are = ((stays p.0 (payload.Str (decl_name t)) are.0.0, declared_stays objects objects' (decl_name t) grows ∙ are.0.1), bindings_grow ts ps are.1)
  bindings_grow _ _ are = are

  -- the globals stay so
  pub globals_grow : (ts : List Decl) (globals : Obj) → AreGlobals ts objects globals → AreGlobals ts objects' globals
  globals_grow ts globals are =
      record { pairs = are.pairs; dict = stays globals (payload.Dict are.pairs) are.dict; bindings = are.bindings; bind = bindings_grow ts are.bindings are.bind; same = are.same }

-- one more atom has its object
pub are_of_more : (objects : List Payload) (events : List Event) (atoms : List DriveAtom) (vs : List Obj) (a : DriveAtom) (v : Obj) → AreOf objects events atoms vs → IsOf objects events a v → AreOf objects events (atoms ++ a ∷ []) (vs ++ v ∷ [])
are_of_more objects events [] [] a v of is = (is, tt)
are_of_more objects events (b ∷ atoms) (w ∷ vs) a v of is = (of.0, are_of_more objects events atoms vs a v of.1 is)
are_of_more objects events _ _ a v of is = absurd of

-- one more drive is begun
pub asked_more : (objects : List Payload) (events : List Event) (ds : List DriveLine) (qs : List Posed) (d : DriveLine) (q : Posed) → AreAsked objects events ds qs → slice_get ds (length qs) ≡ Some d → Asks objects events d q → AreAsked objects events ds (qs ++ q ∷ [])
asked_more objects events [] [] d q are is asks = absurd (cc is)
asked_more objects events (e ∷ ds) [] d q are is asks = let same : e ≡ d = cc is in (subst (λ (x : DriveLine). Asks objects events x q) (sym same) asks, tt)
asked_more objects events [] (p ∷ qs) d q are is asks = absurd are
asked_more objects events (e ∷ ds) (p ∷ qs) d q are is asks = (are.0, asked_more objects events ds qs d q are.1 is asks)

-- one more name is bound
pub bindings_more : (objects : List Payload) (ts : List Decl) (ps : List (Obj × Obj)) (t : Decl) (p : Obj × Obj) → AreBindings objects ts ps → HasPayload objects p.0 (payload.Str (decl_name t)) → declared objects (decl_name t) ≡ Some p.1
    → AreBindings objects (ts ++ t ∷ []) (ps ++ p ∷ [])
bindings_more objects [] [] t p are key value = ((key, value), tt)
bindings_more objects (u ∷ ts) (q ∷ ps) t p are key value = (are.0, bindings_more objects ts ps t p are.1 key value)
bindings_more objects _ _ t p are key value = absurd are

-- they name objects
pub bindings_below : (objects : List Payload) (ts : List Decl) (ps : List (Obj × Obj)) → AreBindings objects ts ps → AllBelow (length objects) (pair_numbers ps)
bindings_below objects [] [] are = tt
bindings_below objects (t ∷ ts) (p ∷ ps) are =
    (slice_get_within objects p.0.number (payload.Str (decl_name t)) are.0.0, (declared_within objects (decl_name t) p.1 are.0.1, bindings_below objects ts ps are.1))
bindings_below objects _ _ are = absurd are
