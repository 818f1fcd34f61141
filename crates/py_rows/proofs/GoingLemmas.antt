-- A frame that fits its code can make a step, where the objects that this needs are there.
use Rattle.std.proofs.Common.{◌≡◌, ◌++◌, ℕ, suc, List, [], ◌∷◌, None, Some, inl, refl, sym, append-nil, length, length-append, arith}
use Rattle.std.proofs.Math.ListN.{length-replicate}
use Rattle.std.specs.Prelude.{slice_get, replicate}
use Rattle.std.proofs.lemmas.Option.{slice_get_within}
use Rattle.py_code.proofs.NamesLemmas.{slice_get-append_last}
use Rattle.py_objects.specs.declared.payload.Payload.{Payload}
use Rattle.py_objects.specs.declared.payload.Payload.TheVariants as payload
use Rattle.py_objects.specs.Objects.{Obj, HasPayload, as_object, class_object}
use Rattle.py_objects.specs.Callees.{is_manager}
use Rattle.py_objects.specs.Growth.{Grows}
use Rattle.py_objects.specs.Own.{Own}
use Rattle.py_check.specs.declared.annotated.Annotated.{Annotated}
use Rattle.py_rows.specs.States.{Setting, State, Step, Goes, Tells, Stuck, Move, Plainly, Loads, Decides, Manages, Resolves, Exits}
use Rattle.py_rows.specs.Receiving.{moves}
use Rattle.py_rows.specs.RunOfRows.{MayLead, Steps, silent, telling}
use Rattle.py_rows.specs.Fitting.{FitsAt}
use Rattle.py_rows.specs.Sound.{IsSound}
use Rattle.py_rows.specs.Laws.{LeadsTo, AlwaysLeads, IsMoving, setting_of}
use Rattle.py_rows.proofs.AskingLemmas.{got_there}
use Rattle.py_rows.proofs.ConstantLemmas.{constant_made}
use Rattle.py_rows.proofs.LandingLemmas.{Fits}
use Rattle.py_rows.proofs.StepLemmas.{next_fits}
use Rattle.py_rows.proofs.GrowingLemmas.{fits_grown}
use Rattle.py_objects.proofs.GrowthLemmas.{payload_grown, grows_on}

-- so many more that a number is one's
padded : List Payload → ℕ → List Payload
padded objects i = objects ++ replicate (suc i) payload.None

padded_there : (objects : List Payload) (i : ℕ) → (p : Payload) × (slice_get (padded objects i) i ≡ Some p)
unfolding padded
padded_there objects i = got_there (objects ++ replicate (suc i) payload.None) i (omega (arith, length-append objects (replicate (suc i) payload.None), length-replicate (suc i) payload.None))

padded_grows : (objects : List Payload) (i : ℕ) → Grows objects (padded objects i)
unfolding padded
padded_grows objects i = (replicate (suc i) payload.None, refl)

module _ (objects : List Payload) (P : List Payload → State → Type 0) where
  same : Grows objects objects
  same = ([], sym (append-nil objects))

  -- a step that a move may lead to, among these objects or more
  abbrev Found : Move → Type 0
  Found m = (objects' : List Payload) × Grows objects objects' × ((step : Step) × MayLead objects' m step × LeadsTo (P objects') step)

  found : (m : Move) → ((objects' : List Payload) → Grows objects objects' → AlwaysLeads objects' (P objects') m) → Found m
  found (Plainly step) leads = (objects, same, (step, refl, leads objects same))
  found (Loads c f) leads =
      let (objects', grows, (v, has)) = constant_made objects c in
      (objects', grows, (f v, (v, has, refl), leads objects' grows v has))
  found (Decides v f) leads =
      let ((b, has), all) = leads objects same in
      (objects, same, (f b, (b, has, refl), all b))
  found (Manages m f) leads =
      let (p, has) = padded_there objects m.number in
      (padded objects m.number, padded_grows objects m.number, (f (is_manager p), (is_manager p, (p, has, refl), refl), leads (padded objects m.number) (padded_grows objects m.number) (is_manager p)))
  found (Resolves v f) leads =
      let (p, has) = padded_there objects v.number in
      (padded objects v.number, padded_grows objects v.number, (f p, (p, has, refl), leads (padded objects v.number) (padded_grows objects v.number) p))
  found (Exits None f) leads =
      let v : Obj = record { number = length objects } in
      let grows : Grows objects (objects ++ payload.None ∷ []) = (payload.None ∷ [], refl) in
      let has = slice_get-append_last objects payload.None in
      (objects ++ payload.None ∷ [], grows, (f v v v, (v, v, v, (has, has, has), refl), (leads (objects ++ payload.None ∷ []) grows).1 v v v))
  found (Exits (Some e) f) leads =
      let ((body, has), all) = leads objects same in
      let v : Obj = as_object e in
      let t : Obj = class_object body.class in
      let before : List Payload = padded objects t.number in
      let objects' : List Payload = before ++ payload.None ∷ [] in
      let b : Obj = record { number = length before } in
      let more : Grows before objects' = (payload.None ∷ [], refl) in
      let grows : Grows objects objects' = grows_on objects before objects' (padded_grows objects t.number) more in
      let there : HasPayload objects' v (payload.Exception body) = payload_grown objects objects' v (payload.Exception body) grows has in
      let (p, class) = padded_there objects t.number in
      let class_there : HasPayload objects' t p = payload_grown before objects' t p more class in
      (objects', grows, (f t v b, (t, v, b, (refl, (body, there, refl), slice_get_within objects' t.number p class_there, inl (slice_get-append_last before payload.None)), refl), (leads objects' grows).1 t v b))

pub next_goes : (objects : List Payload) (names : List (List ℕ)) (globals : Obj) (closure : List Obj) (code : Annotated) (s : State) → IsSound names code → FitsAt objects code s.wants s → IsMoving s.wants
    → (objects' : List Payload) × Grows objects objects' × ((xs : List Own) × (t : State) × Steps objects' (setting_of names globals closure code) s xs t)
next_goes objects names globals closure code s sound fits moving =
    let (objects', grows, (step, may, leads)) = found objects (λ os t. Fits os code t) (moves setting s.wants s) (λ os grows. next_fits os names globals closure code sound s s.wants (fits_grown objects os grows code s.wants s fits) moving) in
    (objects', grows, made objects' step may leads)
  where
    setting : Setting
    setting = setting_of names globals closure code

    made : (os : List Payload) (step : Step) → MayLead os (moves setting s.wants s) step → LeadsTo (Fits os code) step → (xs : List Own) × (t : State) × Steps os setting s xs t
    made os (Goes t) may leads = ([], t, silent t may)
    made os (Tells x t) may leads = (x ∷ [], t, telling x t may)
    made os Stuck may leads = absurd leads
