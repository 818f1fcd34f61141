-- The steps that groups have in common: that they may come, and which objects they name.
use Rattle.std.proofs.Common.{◌≡◌, ◌+◌, ◌<◌, ◌≤◌, ◌++◌, ℕ, suc, List, [], ◌∷◌, Bool, true, false, Some, None, length}
use Rattle.std.proofs.Common.{refl, sym, ap, subst, ◌∙◌, append-nil, append_assoc, inl, inr, arith}
use Rattle.std.specs.Prelude.{Option, pos, codes, int_lt, nat_lt, slice_get}
use Rattle.std.proofs.lemmas.Bool.{ltb-true}
use Rattle.py_code.specs.declared.operator.ComparisonOperator.TheVariants as comparison
use Rattle.py_objects.specs.declared.refs.PyBaseExceptionRef.{PyBaseExceptionRef}
use Rattle.py_objects.specs.declared.payload.Payload.{Payload}
use Rattle.py_objects.specs.declared.payload.Payload.TheVariants as payload
use Rattle.py_objects.specs.declared.payload.FunctionBody.{FunctionBody}
use Rattle.py_objects.specs.declared.request.Request.{Request}
use Rattle.py_objects.specs.declared.request.Request.TheVariants as request
use Rattle.py_objects.specs.declared.event.Event.{Event}
use Rattle.py_objects.specs.declared.event.Event.TheVariants as event
use Rattle.py_objects.specs.declared.event.GotAnswer.TheVariants as got
use Rattle.py_objects.specs.Singletons.{none_object}
use Rattle.py_objects.specs.Objects.{Obj, Name, HasPayload, declared, numbers, number_if, request_numbers, AllBelow}
use Rattle.py_coro.specs.declared.coro.CoroEnd.TheVariants as left
use Rattle.py_answers.specs.Answers.{Has, Is, Compares, found, truth}
use Rattle.py_tree.specs.Tree.{Tree, seen_as}
use Rattle.py_grammar.specs.Grammar.{OfBody}
use Rattle.py_run.specs.Run.{Posed, Plan, Phase, Idle, Asking, Going, Due, Act, Activation, State, requested_by}
use Rattle.py_run.specs.Run.{entered_in, handled_among}
use Rattle.py_run.specs.Generators.{Generator, running_at}
use Rattle.py_run.specs.Calls.{Course, Enters, Setting, entry_at, refusal, made_at, bound_by, CallsFunction, ExitsTo}
use Rattle.py_run.specs.Coming.{Past, IsOfKind, Opens, Comes}
use Rattle.py_meaning.specs.Whole.{plan_of, signature_of}
use Rattle.made_runs.proofs.Lists.{length_on}
use Rattle.made_runs.proofs.Blocks.{Names, names_both}
use Rattle.made_runs.proofs.Objects.{shared_count, enter_tree, exit_tree, work_tree, coded, enter_function}
use Rattle.made_runs.proofs.Objects.{exit_function, work_function, store, truth_object, truth_there, enter_object}
use Rattle.made_runs.proofs.Objects.{exit_object, scope_object, work_object, globals_object, open_object}
use Rattle.made_runs.proofs.Objects.{close_object, limit_object, false_object, true_object}
use Rattle.made_runs.proofs.Groups.{posed, calls, activation, worked, entered, left as left_by, asks, begins, shows}
use Rattle.made_runs.proofs.Groups.{enters, leaves, returns}

-- what a run of the script is of, where its drives ask this
abbrev pub plan : List Posed → Plan
plan asked = plan_of coded asked

-- a past by its parts
abbrev pub past : List Event → (d : ℕ) → Phase → List Act → List Activation → List Generator → Past
past es d phase stack ms gs = record {
  events = es;
  state = record { done = d; phase = phase; stack = stack; made = ms };
  generators = gs;
}

-- what holds between drives
abbrev pub idle : ℕ → List Activation → State
idle d ms = record { done = d; phase = Idle; stack = []; made = ms }

-- an activation that runs
abbrev pub going : ℕ → Act
going a = record { number = a; asks = None; own = None; at = 0 }

-- an activation whose question is open, which its unit 0 asked, while this is handled
abbrev pub asking : ℕ → Request → Option PyBaseExceptionRef → Act
asking a r own = record { number = a; asks = Some r; own = own; at = 0 }

-- a past in which one activation runs, which a drive entered
abbrev pub in_body : List Event → (d a : ℕ) → List Activation → List Generator → Past
in_body es d a ms gs = past es d Going (going a ∷ []) ms gs

-- events behind others, one after the other
abbrev pub on : List Event → List Event → List Event
on es [] = es
on es (e ∷ more) = on (es ++ e ∷ []) more

-- these are both lists, one behind the other
pub on_is : (es more : List Event) → on es more ≡ es ++ more
on_is es [] = sym (append-nil es)
on_is es (e ∷ more) = on_is (es ++ e ∷ []) more ∙ append_assoc es (e ∷ []) more

-- ---- they may come

module _ (asked : List Posed) (more : List Payload) where
  -- where a question stands, at this depth, while this is handled
  abbrev pub place : (depth : ℕ) → Option PyBaseExceptionRef → List Generator → Setting
  place depth handled gs = record {
    signatures = (plan asked).signatures;
    depth = depth;
    handled = handled;
    generators = gs;
  }

  -- where one stands that is asked in a drive, within so many activations
  abbrev pub place_in : (d within : ℕ) → Option PyBaseExceptionRef → List Generator → Setting
  place_in d within handled gs = place (entered_in (slice_get asked d) + within) handled gs

  -- these events may come behind a past
  abbrev pub Come : Past → List Event → Type 0
  Come p es = Comes (plan asked) (store more) p es

  -- a drive asks this
  abbrev pub IsAsked : ℕ → Request → Type 0
  IsAsked d r = slice_get asked d ≡ Some (posed r)

  -- a call of the function of this tree enters it
  pub function_called : (at : Setting) (f : Obj) (vs : List Obj) (b : FunctionBody) (t : Tree)
      → HasPayload (store more) f (payload.Function b)
      → slice_get at.signatures b.code ≡ Some (signature_of (OfBody t))
      → Enters f vs ≡ bound_by (refusal b.name t.params (length vs)) (made_at (seen_as t.kind) at.depth (Enters f vs))
      → CallsFunction at (store more) f vs (Enters f vs)
  function_called at f vs b t entry signed is = record {
    body = b;
    entry = entry;
    signature = signature_of (OfBody t);
    signed = signed;
    is = is;
  }

  -- a function whose tree isn't one of generators is none of generators
  function_plain : (f : Obj) (b : FunctionBody) (t : Tree) → HasPayload (store more) f (payload.Function b)
      → slice_get (plan asked).signatures b.code ≡ Some (signature_of (OfBody t)) → seen_as t.kind ≡ None
      → IsOfKind (plan asked) (store more) f None
  function_plain f b t entry signed plain = record {
    body = b;
    entry = entry;
    signature = signature_of (OfBody t);
    signed = signed;
    kind_is = plain;
  }

  -- there is depth left for one activation
  first_entry : (d : ℕ) (r : Request) (c : Course) → IsAsked d r
      → c ≡ entry_at (entered_in (slice_get asked d) + 0) c
  first_entry d r c is = sym (ap (λ (o : Option Posed). entry_at (entered_in o + 0) c) is)

  -- and for another one in it
  second_entry : (d : ℕ) (r : Request) (c : Course) → IsAsked d r
      → c ≡ entry_at (entered_in (slice_get asked d) + 1) c
  second_entry d r c is = sym (ap (λ (o : Option Posed). entry_at (entered_in o + 1) c) is)

  -- a truth value is asked for its truth, and is the answer
  pub truth_comes : (es : List Event) (d : ℕ) (ms : List Activation) (gs : List Generator) (a : ℕ) (b : Bool)
      (own : Option PyBaseExceptionRef) (rest : List Event)
      → Come (in_body (on es (asks a (request.Truth (truth_object b)) own (truth_object b) [])) d a ms gs) rest
      → Come (in_body es d a ms gs) (asks a (request.Truth (truth_object b)) own (truth_object b) rest)
  truth_comes es d ms gs a b own rest k =
      let test : Request = request.Truth (truth_object b) in
      let there : HasPayload (store more) (truth_object b) (payload.Bool b) = truth_there more b in (
        (refl, refl),
        ((refl, (truth b, (test, refl, inl (truth b, refl, (payload.Bool b, there, refl))), there)), k),
      )

  -- a global is asked for, and the answer is what is declared under its name
  pub global_comes : (es : List Event) (d : ℕ) (ms : List Activation) (gs : List Generator) (a : ℕ) (x : Name) (v : Obj)
      (own : Option PyBaseExceptionRef) (rest : List Event) → Is v ≡ found x (declared (store more) x)
      → Come (in_body (on es (asks a (request.Global globals_object x) own v [])) d a ms gs) rest
      → Come (in_body es d a ms gs) (asks a (request.Global globals_object x) own v rest)
  global_comes es d ms gs a x v own rest is k =
      let global : Request = request.Global globals_object x in
      ((refl, refl), ((refl, (Is v, (global, refl, inl (Is v, refl, is)), refl)), k))

  -- an activation of a function that shows a text comes to its return
  shows_comes : (es : List Event) (d : ℕ) (act : Act) (ms : List Activation) (gs : List Generator) (a : ℕ)
      (f text : Obj) (vs : List Obj) (rest : List Event)
      → a ≡ suc (length ms) → Opens (plan asked) (store more) (past es d Asking (act ∷ []) ms gs) (Enters f vs)
      → IsOfKind (plan asked) (store more) f None
      → Come
      (past (on es (shows a f text vs [])) d (Due (left.Return none_object)) (act ∷ [])
      (ms ++ activation f vs ∷ []) (running_at a gs)) rest
      → Come (past es d Asking (act ∷ []) ms gs) (shows a f text vs rest)
  shows_comes es d act ms gs a f text vs rest number opens kind k = (
    (number, opens),
    (
      (number ∙ sym (length_on ms (activation f vs)), kind),
      (
        (refl, refl),
        (
          (refl, (Has payload.None, (request.Show text, refl, inl (Has payload.None, refl, refl)), refl)),
          ((refl, refl), k),
        ),
      ),
    ),
  )

  -- the manager is entered
  pub enters_comes : (es : List Event) (d : ℕ) (r : Request) (ms : List Activation) (gs : List Generator) (a b : ℕ)
      (rest : List Event) → IsAsked d r → b ≡ suc (length ms)
      → Come (in_body (on es (enters a b [])) d a (ms ++ entered ∷ []) (running_at b gs)) rest
      → Come (in_body es d a ms gs) (enters a b rest)
  enters_comes es d r ms gs a b rest is number k =
      let enter : Request = request.Enter scope_object in
      let act : Act = asking a enter None in
      let loaded : List Event = on es (asks a (request.Global globals_object (codes "scope")) None scope_object []) in
      let open_events : List Event = on loaded (event.Ask a enter None 0 ∷ []) in
      let behind : List Event = event.Got a (got.Value none_object) ∷ rest in
      let shown : List Event = shows b enter_object open_object [] behind in
      let called : CallsFunction (place_in d 1 None gs) (store more) enter_object [] (Enters enter_object []) =
      function_called (place_in d 1 None gs) enter_object [] enter_function enter_tree refl refl
      (second_entry d r (Enters enter_object []) is) in
      let opens : Opens (plan asked) (store more) (past open_events d Asking (act ∷ []) ms gs)
      (Enters enter_object []) =
      (refl, (enter, refl, inr (inr (inr (inr (inr (inr (inl (scope_object, refl, (_, refl, called)))))))))) in
      global_comes es d ms gs a (codes "scope") scope_object None (event.Ask a enter None 0 ∷ shown) refl (
        (refl, refl),
        shows_comes open_events d act ms gs b enter_object open_object [] behind number opens
            (function_plain enter_object enter_function enter_tree refl refl refl)
            ((refl, (Is none_object, (enter, refl, refl), refl)), k),
      )

  -- it is left
  pub leaves_comes : (es : List Event) (d : ℕ) (r : Request) (ms : List Activation) (gs : List Generator) (a b : ℕ)
      (own : Option PyBaseExceptionRef) (c e t : Obj) (rest : List Event)
      → IsAsked d r → b ≡ suc (length ms)
      → Come
      (in_body (on es (leaves a b own c e t [])) d a (ms ++ left_by (c ∷ e ∷ t ∷ []) ∷ []) (running_at b gs)) rest
      → Come (in_body es d a ms gs) (leaves a b own c e t rest)
  leaves_comes es d r ms gs a b own c e t rest is number k =
      let exit : Request = request.Exit scope_object c e t in
      let told : List Obj = c ∷ e ∷ t ∷ [] in
      let act : Act = asking a exit own in
      let open_events : List Event = on es (event.Ask a exit own 0 ∷ []) in
      let at : Setting = place_in d 1 (handled_among (act ∷ [])) gs in
      let called : CallsFunction at (store more) exit_object told (Enters exit_object told) =
      function_called at exit_object told exit_function exit_tree refl refl
      (second_entry d r (Enters exit_object told) is) in
      let exits : ExitsTo at (store more) scope_object told (Enters exit_object told) = (_, refl, called) in
      let opens : Opens (plan asked) (store more) (past open_events d Asking (act ∷ []) ms gs)
      (Enters exit_object told) =
      (refl, (exit, refl, inr (inr (inr (inr (inr (inr (inr (scope_object, c, e, t, refl, exits))))))))) in (
        (refl, refl),
        shows_comes open_events d act ms gs b exit_object close_object told
            (event.Got a (got.Value none_object) ∷ rest) number opens
            (function_plain exit_object exit_function exit_tree refl refl refl)
            ((refl, (Is none_object, (exit, refl, refl), refl)), k),
      )

  -- work is called, and asks whether its number is below 500
  pub begins_comes : (es : List Event) (d : ℕ) (ms : List Activation) (gs : List Generator) (a v : ℕ) (x : Obj)
      (b : Bool) (rest : List Event)
      → IsAsked d (calls work_object x) → d < length asked → a ≡ suc (length ms)
      → HasPayload (store more) x (payload.Int (pos v)) → int_lt (pos v) (pos 500) ≡ b
      → Come (in_body (on es (begins (suc d) a x b [])) d a (ms ++ worked x ∷ []) (running_at a gs)) rest
      → Come (past es d Idle [] ms gs) (begins (suc d) a x b rest)
  begins_comes es d ms gs a v x b rest is few number has less k =
      let vs : List Obj = x ∷ [] in
      let at : Setting = place_in d 0 None gs in
      let called : CallsFunction at (store more) work_object vs (Enters work_object vs) =
      function_called at work_object vs work_function work_tree refl refl
      (first_entry d (calls work_object x) (Enters work_object vs) is) in
      let limit : Payload = payload.Int (pos 500) in
      let compare : Request = request.Compare comparison.Less x limit_object in
      let compared : Compares (store more) comparison.Less x limit_object (truth b) =
      (payload.Int (pos v), limit, codes "int", codes "int", has, refl, refl, refl, ap truth (sym less)) in (
        (refl, refl, few),
        (
          (number, (refl, (calls work_object x, ap requested_by is, inr (inl (work_object, vs, refl, called))))),
          (
            (
              number ∙ sym (length_on ms (worked x)),
              function_plain work_object work_function work_tree refl refl refl,
            ),
            (
              (refl, refl),
              ((refl, (truth b, (compare, refl, inl (truth b, refl, compared)), truth_there more b)), k),
            ),
          ),
        ),
      )

  -- the call of work returns
  pub returns_comes : (es : List Event) (d : ℕ) (ms : List Activation) (gs : List Generator) (a : ℕ) (x v : Obj)
      → IsAsked d (calls work_object x)
      → Come (in_body es d a ms gs) (returns (suc d) a v)
  returns_comes es d ms gs a x v is =
      ((refl, refl), ((refl, refl, inl (Is v, inl (calls work_object x, ap requested_by is, (refl, refl)), refl)), tt))

-- ---- they name objects below n

-- events behind others name what both name
pub names_on : (n : ℕ) (es front : List Event) → Names n es → Names n front → Names n (on es front)
names_on n es front before behind = subst (Names n) (sym (on_is es front)) (names_both n es front before behind)

module _ (n : ℕ) (enough : shared_count ≤ n) where
  -- an object that all runs share is below
  pub low : (v : Obj) → nat_lt v.number shared_count ≡ true → v.number < n
  low v is = let small = ltb-true v.number shared_count is in omega (arith, small, enough)

  -- so are the truth values
  truth_low : (b : Bool) → (truth_object b).number < n
  truth_low true = low true_object refl
  truth_low false = low false_object refl

  -- what is handled and what is asked name objects below n where each does
  with_handled : (own : Option PyBaseExceptionRef) (ks : List ℕ) → AllBelow n (number_if own) → AllBelow n ks
      → AllBelow n (number_if own ++ ks)
  with_handled None ks handled below = below
  with_handled (Some e) ks handled below = (handled.0, below)

  -- a question, while this is handled, and its answer
  pub asks_name : (a : ℕ) (r : Request) (own : Option PyBaseExceptionRef) (v : Obj) (rest : List Event)
      → AllBelow n (number_if own) → AllBelow n (request_numbers r) → v.number < n
      → Names n rest → Names n (asks a r own v rest)
  asks_name a r own v rest handled asked value names =
      (with_handled own (request_numbers r) handled asked, ((value, tt), names))

  -- the question for the truth of a truth value
  pub truth_name : (a : ℕ) (b : Bool) (own : Option PyBaseExceptionRef) (rest : List Event)
      → AllBelow n (number_if own)
      → Names n rest → Names n (asks a (request.Truth (truth_object b)) own (truth_object b) rest)
  truth_name a b own rest handled names =
      asks_name a (request.Truth (truth_object b)) own (truth_object b) rest handled
      (truth_low b, tt) (truth_low b) names

  -- the question for a global
  pub global_name : (a : ℕ) (x : Name) (v : Obj) (own : Option PyBaseExceptionRef) (rest : List Event)
      → AllBelow n (number_if own) → v.number < n
      → Names n rest → Names n (asks a (request.Global globals_object x) own v rest)
  global_name a x v own rest handled value names =
      asks_name a (request.Global globals_object x) own v rest handled (low globals_object refl, tt) value names

  -- an activation that shows a text
  shows_name : (a : ℕ) (f text : Obj) (vs : List Obj) (rest : List Event) → f.number < n → text.number < n
      → AllBelow n (numbers vs)
      → Names n rest → Names n (shows a f text vs rest)
  shows_name a f text vs rest function told args names =
      ((function, args), (tt, ((told, tt), ((low none_object refl, tt), ((low none_object refl, tt), names)))))

  -- the beginning of a call of work
  pub begins_name : (d a : ℕ) (x : Obj) (b : Bool) (rest : List Event) → x.number < n → Names n rest
      → Names n (begins d a x b rest)
  begins_name d a x b rest number names =
      let compared : AllBelow n (x.number ∷ limit_object.number ∷ []) = (number, (low limit_object refl, tt)) in
      (tt, ((low work_object refl, (number, tt)), (tt, (compared, ((truth_low b, tt), names)))))

  -- an entry of the manager
  pub enters_name : (a b : ℕ) (rest : List Event) → Names n rest → Names n (enters a b rest)
  enters_name a b rest names =
      let scope_low : scope_object.number < n = low scope_object refl in
      let behind : List Event = event.Got a (got.Value none_object) ∷ rest in
      let shown : Names n (shows b enter_object open_object [] behind) =
      shows_name b enter_object open_object [] behind (low enter_object refl) (low open_object refl) tt
      ((low none_object refl, tt), names) in
      global_name a (codes "scope") scope_object None
      (event.Ask a (request.Enter scope_object) None 0 ∷ shows b enter_object open_object [] behind) tt scope_low
      ((scope_low, tt), shown)

  -- an exit, which is told this
  pub leaves_name : (a b : ℕ) (own : Option PyBaseExceptionRef) (c e t : Obj) (rest : List Event)
      → AllBelow n (number_if own) → AllBelow n (numbers (c ∷ e ∷ t ∷ []))
      → Names n rest → Names n (leaves a b own c e t rest)
  leaves_name a b own c e t rest handled told names =
      let exit : Request = request.Exit scope_object c e t in
      let behind : List Event = event.Got a (got.Value none_object) ∷ rest in
      let left_behind : Names n behind = ((low none_object refl, tt), names) in (
        with_handled own (request_numbers exit) handled (low scope_object refl, told),
        shows_name b exit_object close_object (c ∷ e ∷ t ∷ []) behind
            (low exit_object refl) (low close_object refl) told left_behind,
      )
