-- What the definitions say of the journals that show a number twice.
use Rattle.std.proofs.Common.{◌≡◌, ◌<◌, ◌≤◌, ◌-◌, ℕ, zero, suc, List, [], ◌∷◌, ◌∙◌, Some, None, refl, sym, ap, subst, inl, inr, length, drop, lit<, arith, ⊎_elim}
use Rattle.std.specs.Prelude.{pos, take, codes}
use Rattle.std.proofs.lemmas.List.Elements.{All-nil}
use Rattle.std.proofs.lemmas.Option.{slice_get_within}
use Rattle.py_objects.specs.declared.payload.Payload.{Payload}
use Rattle.py_objects.specs.declared.payload.Payload.TheVariants as payload
use Rattle.py_objects.specs.declared.request.Request.TheVariants as request
use Rattle.py_objects.specs.declared.event.GotAnswer.TheVariants as got
use Rattle.py_objects.specs.declared.event.Event.{Event}
use Rattle.py_objects.specs.declared.event.Event.TheVariants as event
use Rattle.py_objects.specs.Objects.{Obj, HasPayload, AllBelow, AllFit, AreNamed, event_numbers}
use Rattle.py_objects.specs.Own.{Own, Makes, Resumes, Asks, Gets, own_from, told_by}
use Rattle.py_objects.specs.declared.event.ResumeHow.TheVariants.{Start}
use Rattle.py_objects.specs.Singletons.{none_object}
use Rattle.py_tree.specs.declared.expr.Atom.TheVariants as atom
use Rattle.py_tree.specs.Binding.{Env, set_local, start_env}
use Rattle.py_tree.specs.Outcome.{After, RunsSuite}
use Rattle.py_tree.specs.Scene.{Scene, anywhere}
use Rattle.py_tree.specs.Trace.{EndsBy, IsTrace}
use Rattle.py_tree.specs.Tree.{Leaf, Show, Suite, nothing, first}
use Rattle.py_grammar.specs.Grammar.{Declares, Drives, FunctionDecl, codes_in}
use Rattle.py_grammar.specs.Lines.{lines}
use Rattle.py_grammar.specs.Script.{Spells}
use Rattle.py_lines.specs.declared.drive.DriveLine.TheVariants as drive
use Rattle.py_answers.specs.Answers.{Has, Is}
use Rattle.py_run.specs.Run.{Activation, Plan, start, state_after}
use Rattle.py_run.specs.Coming.{nothing as at_first, Comes}
use Rattle.py_determined.proofs.Telling.{made_stays}
use Rattle.py_meaning.specs.Whole.{plan_of}
use Rattle.py_meaning.specs.Worked.{object}
use Rattle.py_meaning.proofs.Journals.{all_fit, asked_so, begun, differ, is_of_kind, reads_of, runs, traced_by}
use Rattle.py_meaning.proofs.WorkedObjects.{each_at}
use Rattle.py_core.specs.Runs.{IsCoreRunOf, IsLinkChange, IsLookedUpIn, IsRunAmong, named_objects}
use Rattle.py_core.specs.WorkedLiterals.{ShowsFailing, ShowsWhole, decls_with, drives, events_of, function_of, literals_script, objects, one_value, own_objects, two_literals, value_script}
use Rattle.py_core.proofs.FirstNames.{named_with, one_function}
use Rattle.py_core.proofs.Fronts.{front_among}
use Rattle.py_core.proofs.OneCall.{IsTraced, TellIt, asks, call, told}
use Rattle.py_core.proofs.OfScripts.{before_by, by_script, of_script}

pub literals_spelled : Spells (lines literals_script) (decls_with two_literals) drives
literals_spelled =
    let items = Declares (FunctionDecl (function_of two_literals)) ∷ Drives (drive.Call (codes "f") []) ∷ [] in
    record {
      items = items;
      reads = reads_of items;
      read = ((refl, tt), ((refl, omega arith), ((refl, omega arith), ((refl, tt), ((refl, tt), tt)))));
      spelled = refl;
      well = ((refl, (refl, (refl, tt))), (refl, tt));
      declared = refl;
      driven = refl;
    }

pub value_spelled : Spells (lines value_script) (decls_with one_value) drives
value_spelled =
    let items = Declares (FunctionDecl (function_of one_value)) ∷ Drives (drive.Call (codes "f") []) ∷ [] in
    record {
      items = items;
      reads = reads_of items;
      read = ((refl, tt), ((refl, omega arith), ((refl, omega arith), ((refl, omega arith), ((refl, tt), ((refl, tt), tt))))));
      spelled = refl;
      well = ((refl, (refl, (refl, (refl, tt)))), (refl, tt));
      declared = refl;
      driven = refl;
    }

-- an object is a number 1
abbrev IsOne : Obj → Type 0
IsOne v = HasPayload objects v (payload.Int (pos 1))

fits : AllFit objects
fits = all_fit own_objects refl (tt, (tt, (tt, (tt, (tt, (tt, tt))))))

-- the entries behind that of f
abbrev rest : List Payload
rest = payload.Str (codes "f") ∷ payload.Dict ((object 1, object 0) ∷ []) ∷ payload.Frame 0 ∷ payload.Int (pos 1) ∷ payload.Int (pos 1) ∷ []

module _ (suite : Suite) (v w : Obj) (is_v : IsOne v) (is_w : IsOne w) where
  abbrev plan : Plan
  plan = plan_of (codes_in (decls_with suite)) (call ∷ [])

  comes : Comes plan objects at_first (events_of v w)
  comes = (
    (refl, refl, lit< tt),
    (
      (refl, (refl, (_, refl, inr (inl (object 0, [], refl, runs _ _ _ _ _ _ _ refl refl refl))))),
      (
        (refl, is_of_kind _ _ _ _ _ _ refl refl refl),
        (
          (refl, refl),
          (
            (refl, (Has payload.None, (request.Show v, refl, inl (Has payload.None, refl, refl)), refl)),
            (
              (refl, refl),
              (
                (refl, (Has payload.None, (request.Show w, refl, inl (Has payload.None, refl, refl)), refl)),
                ((refl, refl), ((refl, refl, inl (Is none_object, inl (_, refl, (refl, refl)), refl)), tt)),
              ),
            ),
          ),
        ),
      ),
    ),
  )

  named : AreNamed objects (events_of v w)
  named =
      let first : v.number < length objects = slice_get_within objects v.number (payload.Int (pos 1)) is_v in
      let second : w.number < length objects = slice_get_within objects w.number (payload.Int (pos 1)) is_w in
      record {
        in_events =
            each_at (λ (e : Event). AllBelow (length objects) (event_numbers e)) (events_of v w)
            (tt, ((lit< tt, tt), (tt, ((first, tt), ((lit< tt, tt), ((second, tt), ((lit< tt, tt), ((lit< tt, tt), ((lit< tt, tt), tt)))))))));
        in_payloads = λ i p e. (fits i p e).0;
      }

  -- no name is looked up
  looked_up : IsLookedUpIn objects (events_of v w) (object 2)
  looked_up i act x d own at here =
      absurd
      (each_at (λ (e : Event). e ≡ event.Ask act (request.Global d x) own at → ⊥) (events_of v w)
      (λ e. cc e, (λ e. cc e, (λ e. cc e, (λ e. cc e, (λ e. cc e, (λ e. cc e, (λ e. cc e, (λ e. cc e, (λ e. cc e, tt))))))))) i _ here refl)

  whole_among : TellIt suite rest (events_of v w) → IsRunAmong (decls_with suite) drives objects (events_of v w)
  whole_among tells = record {
    asked = call ∷ [];
    are_asked = asks suite rest (events_of v w);
    globals = object 2;
    looked_up = looked_up;
    run = record { comes = comes; tells = tells; named = named };
    tells = (tt, (tt, (tt, (tt, (tt, (tt, (tt, (tt, (tt, tt)))))))));
  }

  among : TellIt suite rest (events_of v w) → (m : ℕ) → TellIt suite rest (take m (events_of v w)) → IsRunAmong (decls_with suite) drives objects (take m (events_of v w))
  unfolding whole_among
  among tells m front = front_among (decls_with suite) drives objects (events_of v w) (whole_among tells) m (asks suite rest (take m (events_of v w))) front

-- by their names the objects are what they are
stay : (suite : Suite) → named_objects (decls_with suite) objects ≡ objects
stay suite = named_with (decls_with suite) own_objects

core_of : (suite : Suite) (es : List Event) → IsRunAmong (decls_with suite) drives objects es → IsCoreRunOf (decls_with suite) drives objects es
core_of suite es run = record {
  are_objects =
      one_function (function_of suite) own_objects (object 0, refl, (_, refl))
      ((λ e is. absurd (cc is)), ((λ e is. absurd (cc is)), ((λ e is. absurd (cc is)), ((λ e is. absurd (cc is)), ((λ e is. absurd (cc is)), ((λ e is. absurd (cc is)), tt))))));
  run = subst (λ os. IsRunAmong (decls_with suite) drives os es) (sym (stay suite)) run;
}

whole_of : (suite : Suite) (v w : Obj) → IsOne v → IsOne w → IsTraced suite rest (events_of v w) → ShowsWhole suite v w
whole_of suite v w is_v is_w trace s k is = record {
  run = record {
    run =
        of_script (decls_with suite) drives s is objects (events_of v w)
        (core_of suite (events_of v w) (whole_among suite v w is_v is_w (told suite rest (events_of v w) refl trace)));
    changes = All-nil IsLinkChange;
  };
  done = record { done = ap length (sym is.driven); idle = refl };
}

-- ---- two literals

literals_traced : (v w : Obj) → IsOne v → IsOne w → IsTraced two_literals rest (events_of v w)
unfolding own_from told_by
literals_traced v w is_v is_w = (
  refl,
  (
    _,
    refl,
    inr
        (inr (v, is_v, inr (0, _, refl, refl, inr (4, got.Value none_object, _, refl, inr (inr (w, is_w, inr (2, _, refl, refl, inr (6, got.Value none_object, _, refl, inr (inr (none_object, refl, inr (4, refl))))))))))),
  ),
)

pub literals_whole : (v w : Obj) → IsOne v → IsOne w → ShowsWhole two_literals v w
literals_whole v w is_v is_w = whole_of two_literals v w is_v is_w (literals_traced v w is_v is_w)

-- ---- one value

value_traced : (v : Obj) → IsOne v → IsTraced one_value rest (events_of v v)
unfolding own_from told_by
value_traced v is_v = (
  refl,
  (
    _,
    refl,
    inr
        (inr (v, is_v, inr (inr (0, _, refl, refl, inr (4, got.Value none_object, _, refl, inr (inr (2, _, refl, refl, inr (6, got.Value none_object, _, refl, inr (inr (none_object, refl, inr (4, refl))))))))))),
  ),
)

pub value_whole : (v : Obj) → IsOne v → ShowsWhole one_value v v
value_whole v is_v = whole_of one_value v v is_v is_v (value_traced v is_v)

-- up to the first answer
value_tells : (m : ℕ) → m ≤ 5 → TellIt one_value rest (take m (events_of (object 4) (object 4)))
unfolding own_from told_by
value_tells zero low = λ i a at. absurd (cc at)
value_tells (suc zero) low = λ i a at. absurd (cc at)
value_tells (suc (suc zero)) low = told one_value rest (take 2 (events_of (object 4) (object 4))) refl (refl, (_, refl, tt))
value_tells (suc (suc (suc zero))) low = told one_value rest (take 3 (events_of (object 4) (object 4))) refl (refl, (_, refl, inl (refl, refl)))
value_tells (suc (suc (suc (suc zero)))) low =
    told one_value rest (take 4 (events_of (object 4) (object 4))) refl (refl, (_, refl, inr (inr (object 4, refl, inr (inr (0, _, refl, refl, inl (refl, refl)))))))
value_tells (suc (suc (suc (suc (suc zero))))) low =
    told one_value rest (take 5 (events_of (object 4) (object 4))) refl
    (refl, (_, refl, inr (inr (object 4, refl, inr (inr (0, _, refl, refl, inr (4, got.Value none_object, _, refl, inl (refl, refl))))))))
value_tells (suc (suc (suc (suc (suc (suc m)))))) low = absurd (omega (arith, low))

value_front : (m : ℕ) → m ≤ 5 → IsCoreRunOf (decls_with one_value) drives objects (take m (events_of (object 4) (object 4)))
value_front m low =
    core_of one_value (take m (events_of (object 4) (object 4)))
    (among one_value (object 4) (object 4) refl refl (told one_value rest (events_of (object 4) (object 4)) refl (value_traced (object 4) refl)) m (value_tells m low))

same_front : (w : Obj) (i : ℕ) → i < 5 → take (suc i) (events_of (object 4) (object 4)) ≡ take (suc i) (events_of (object 4) w)
same_front w zero low = refl
same_front w (suc zero) low = refl
same_front w (suc (suc zero)) low = refl
same_front w (suc (suc (suc zero))) low = refl
same_front w (suc (suc (suc (suc zero)))) low = refl
same_front w (suc (suc (suc (suc (suc i))))) low = absurd (omega (arith, low))

-- the locals where x is this
abbrev locals : Obj → Env
locals u = set_local (codes "x") (Some u) (start_env (function_of one_value) [])

-- show x, and what follows
abbrev shows_x : ℕ → Suite → Suite
shows_x line more = first line (Show (Leaf (atom.Name (codes "x")))) more

-- what is shown is x
x_shown : (scene : Scene) (u v : Obj) (line k at : ℕ) (more : Suite) (ts : List Own) (K : After)
    → RunsSuite scene (shows_x line more) (locals u) None k (Asks at (request.Show v) None ∷ ts) K → v ≡ u
x_shown scene u v line k at more ts K h =
    ⊎_elim (λ cut. absurd (cc cut.0)) (λ runs. ⊎_elim (λ cut. absurd (cc cut.0)) (λ asks. cc asks.3) runs) h

-- and what follows comes behind its answer
behind_x : (scene : Scene) (u v a : Obj) (line k i at : ℕ) (more : Suite) (ts : List Own) (K : After)
    → RunsSuite scene (shows_x line more) (locals u) None k (Asks at (request.Show v) None ∷ Gets i (got.Value a) ∷ ts) K → RunsSuite scene more (locals u) None i ts K
behind_x scene u v a line k i at more ts K h =
    ⊎_elim (λ cut. absurd (cc cut.0)) (λ runs. asked_so _ (request.Show u) (request.Show v) at k i (got.Value a) ts _ runs) h

-- both times one object
shows_one : (scene : Scene) (v w : Obj) (ts : List Own)
    → IsTrace scene (function_of one_value) [] (Makes ∷ Resumes 2 Start ∷ Asks 0 (request.Show v) None ∷ Gets 4 (got.Value none_object) ∷ Asks 2 (request.Show w) None ∷ ts)
    → v ≡ w
shows_one scene v w ts h =
    let b = begun scene (function_of one_value) [] _ h in
    ⊎_elim (λ cut. absurd (cc cut.0)) (λ assigns. ⊎_elim (λ cut. absurd (cc cut.0)) (λ literal.
    let (u, is_u, shows) = literal in
    let first_one : v ≡ u = x_shown scene u v 3 2 0 (shows_x 4 nothing) _ (EndsBy scene) shows in
    let second_one : w ≡ u = x_shown scene u w 4 4 2 nothing ts (EndsBy scene) (behind_x scene u v none_object 3 2 4 0 (shows_x 4 nothing) _ (EndsBy scene) shows) in
    first_one ∙ sym second_one) assigns) b

two_refused : (m : ℕ) → IsRunAmong (decls_with one_value) drives objects (take (suc (suc (suc (suc (suc (suc m)))))) (events_of (object 4) (object 5))) → ⊥
unfolding own_from told_by
two_refused m run =
    let es = events_of (object 4) (object 5) in
    let x : Activation = record { function = object 0; args = [] } in
    let trace = traced_by (function_of one_value) run.globals objects (object 0) [] _ refl (run.run.tells 0 x (made_stays (state_after start (take 6 es)) (take m (drop 6 es)) 0 x refl)) in
    differ 4 5 refl (shows_one (anywhere objects run.globals) (object 4) (object 5) _ trace)

pub value_fails : ShowsFailing one_value 5 (object 4) (object 5)
value_fails s k is = inl (record {
  there = lit< tt;
  breaks = λ n less within run.
      let es = events_of (object 4) (object 5) in
      let long : n ≡ suc (suc (suc (suc (suc (suc (n - 6)))))) = omega (arith, less) in
      let of = by_script (decls_with one_value) drives s is objects (take n es) run.run in
      let among = subst (λ os. IsRunAmong (decls_with one_value) drives os (take n es)) (stay one_value) of.run in
      two_refused (n - 6) (subst (λ m. IsRunAmong (decls_with one_value) drives objects (take m es)) long among);
  before = before_by (decls_with one_value) drives s is objects k (events_of (object 4) (object 4)) (events_of (object 4) (object 5)) 5 value_front (same_front (object 5));
})
