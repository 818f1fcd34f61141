-- Laid loads and tests run as those of the tree: a constant and a set local are pushed, another name is asked for, and a test
-- goes where its truth value says.
use Rattle.std.proofs.Common.{◌≡◌, ◌<◌, ◌≤◌, ℕ, zero, suc, List, [], ◌∷◌, ◌++◌, Bool, true, false, not, refl, sym, ap, ◌∙◌, subst, length, arith, inl, inr}
use Rattle.std.specs.Prelude.{Option, Some, None, slice_get, bytes_eq, ◌||◌, cond, chars, option_map}
use Rattle.std.specs.List.{list_any}
use Rattle.std.proofs.lemmas.Slice.Eq.{bytes_eq-Decides}
use Rattle.py_code.specs.declared.instruction.Instruction.{Instruction}
use Rattle.py_code.specs.declared.instruction.Instruction.TheVariants.{LoadConst, LoadFast, LoadGlobal, JumpIfFalse}
use Rattle.py_code.specs.declared.literal.Literal.{Literal, None as NoneLiteral, Bool as BoolLiteral, Int as IntLiteral, Str as StrLiteral}
use Rattle.py_code.specs.declared.names.NameId.{NameId}
use Rattle.py_code.specs.Literals.{constant_of}
use Rattle.py_objects.specs.declared.payload.Payload.{Payload}
use Rattle.py_objects.specs.declared.payload.Payload.TheVariants as payload
use Rattle.py_objects.specs.declared.request.Request.TheVariants.{Global, Truth, Unbound}
use Rattle.py_objects.specs.Objects.{Obj, HasPayload}
use Rattle.py_objects.specs.Own.{Own}
use Rattle.py_objects.specs.Telling.{Given, Stopped, AfterValue, IsLiteral}
use Rattle.py_rows.specs.declared.block.Block.{Block}
use Rattle.py_rows.specs.States.{State, Step, Goes, Move, Loads as Takes, Plainly, Decides, pushed}
use Rattle.py_rows.specs.Handled.{handled_in}
use Rattle.py_rows.specs.Asked.{name_in, name_of_local, name_of_global, on_none}
use Rattle.py_rows.specs.Constants.{HasConstant}
use Rattle.py_rows.specs.Rows.{loads as load_move, load_fast, asks as asks_for, asks_if, act}
use Rattle.py_rows.specs.Receiving.{jumps_if, answered}
use Rattle.py_tree.specs.declared.expr.Atom.{Atom}
use Rattle.py_tree.specs.declared.expr.Atom.TheVariants as atom
use Rattle.py_tree.specs.Tree.{Name}
use Rattle.py_tree.specs.Binding.{Env, find_local}
use Rattle.py_tree.specs.Scene.{Scene}
use Rattle.py_tree.specs.Outcome.{Handled, Named, Loads, Tests}
use Rattle.py_laid.specs.Code.{Around, Scope, place, Stands, StandsConst, StandsLocal, LaidName, LaidAtom}
use Rattle.py_laid.specs.Naming.{NamesAll}
use Rattle.py_laid.proofs.Env.{env_of, find_local-free, find_local-bound}
use Rattle.py_laid.proofs.Decoding.{Now, running, begun, Execution, setting_of, From, Left, Behind, parts_of, scene_of, stands_run, steps_run}
use Rattle.py_laid.proofs.Lands.{Context, PassesOn, use_passes, ahead}
use Rattle.py_laid.proofs.Asking.{asked_run, asked_once_run}

-- a name stands at its place
slice_get-place : (vars : List Name) (x : Name) → list_any (bytes_eq x) vars ≡ true → slice_get vars (place vars x) ≡ Some x
slice_get-place [] x bound = absurd (cc)
slice_get-place (y ∷ ys) x bound = by (bytes_eq x y) refl bound (slice_get-place ys x)
  where
    by : (b : Bool) → bytes_eq x y ≡ b → (b || list_any (bytes_eq x) ys) ≡ true → (list_any (bytes_eq x) ys ≡ true → slice_get ys (place ys x) ≡ Some x)
        → slice_get (y ∷ ys) (cond b 0 (suc (place ys x))) ≡ Some x
    by true same is later = ap Some (sym ((bytes_eq-Decides x y).0 same))
    by false differs is later = later is

-- the characters of a name, where the table has it
named_at : (table : List (List ℕ)) (ids : List NameId) (xs : List Name) (i : ℕ) (x : Name) → NamesAll table ids xs → slice_get xs i ≡ Some x → name_in table (slice_get ids i) ≡ Some x
named_at table [] [] i x named here = absurd (cc)
named_at table [] (y ∷ ys) i x named here = absurd named
named_at table (id ∷ ids) [] i x named here = absurd named
named_at table (id ∷ ids) (y ∷ ys) zero x (((low, is), spelled), rest) here =
    let same : y ≡ x = cc in
    ap (option_map chars) is ∙ ap Some (spelled ∙ same)
named_at table (id ∷ ids) (y ∷ ys) (suc i) x (one, rest) here = named_at table ids ys i x rest here

-- ---- cuts

-- a name that tells nothing is cut, or is a local's
cut_name : (scene : Scene) (line : ℕ) (found : Option (Option Obj)) (x : Name) (h : Handled) (event : ℕ) (V : AfterValue) → V Stopped event []
    → ((v : Obj) → V (Given v) event []) → Named scene line found x h event [] V
cut_name scene line None x h event V stopped stops = inl (refl, stopped)
cut_name scene line (Some None) x h event V stopped stops = inl (refl, stopped)
cut_name scene line (Some (Some v)) x h event V stopped stops = stops v

-- a load that tells nothing is cut, or is a local's
pub cut_load : (scene : Scene) (line : ℕ) (env : Env) (h : Handled) (a : Atom) (event : ℕ) (V : AfterValue) → V Stopped event [] → ((v : Obj) → V (Given v) event [])
    → Loads scene line env h a event [] V
cut_load scene line env h atom.None event V stopped stops = inl (refl, stopped)
cut_load scene line env h (atom.Bool b) event V stopped stops = inl (refl, stopped)
cut_load scene line env h (atom.Int n) event V stopped stops = inl (refl, stopped)
cut_load scene line env h (atom.Str s) event V stopped stops = inl (refl, stopped)
cut_load scene line env h (atom.Name x) event V stopped stops = cut_name scene line (find_local x env) x h event V stopped stops

-- ---- tests

-- a unit that asks for the truth of the value on top, and jumps unless `stays` says of the answer that control goes on behind it
abbrev pub TestsBy : Execution → Instruction → (Bool → Bool) → Type 0
TestsBy ex op stays =
    (to : ℕ) (v : Obj) (s : State) → (act (setting_of ex) op to (pushed v s) ≡ Plainly (asks_for (Truth v) s)) × (answered op to v s ≡ Decides v (λ b. jumps_if (not (stays b)) to s))

pub true_stays : (ex : Execution) → TestsBy ex JumpIfFalse (λ b. b)
true_stays ex to v s = (refl, refl)

module _ (ex : Execution) where
  -- a unit that takes a constant, whose objects are of this payload
  pub const_run : {Q : Type 0} {scope : Scope} {line at to : ℕ} {op : Instruction} {literal : Literal} → StandsConst (parts_of ex) scope line at op literal to
      → (p : Payload) (f : (k p b : ℕ) → Obj → Step) (stack : List Obj) (blocks : List Block) (now : Now) (last n : ℕ) (ts : List Own)
      → ((v : Obj) → HasConstant ex.objects v (constant_of literal) → HasPayload ex.objects v p)
      → ((i k q : ℕ) → act (setting_of ex) op i (begun k q stack blocks now) ≡ load_move (slice_get (parts_of ex).constants i) (f k q (suc k)))
      → From ex n at last stack blocks now ts
      → (ts ≡ [] → Q)
      → ((v : Obj) (k q m : ℕ) → at ≤ k → suc k ≡ to → m < n → HasPayload ex.objects v p → Behind ex m (f k q to v) ts → Q)
      → Q
  const_run {literal = literal} (i, stands, is_constant) p f stack blocks now last n ts is_payload moves run cut go =
      stands_run ex stands (λ k q b. Takes (constant_of literal) (f k q b)) stack blocks now last n ts
      (λ k q. moves i k q ∙ ap (λ (o : Option Literal). load_move o (f k q (suc k))) is_constant) run cut
      (λ k q m from is_next less has_op of_line (done, (v, has, is), step). go v k q m from is_next less (is_payload v has) (subst (λ (s : Step). Behind ex m s ts) (sym is) step))

  module _ {around : Around} (c : Context ex around) (now : Now) (same : length now.locals ≡ length ex.vars) where
    abbrev env : Env
    env = env_of ex.vars now.locals

    abbrev h : Handled
    h = handled_in None c.blocks

    module _ (V : AfterValue) (passes : PassesOn ex c env V) (scope : Scope) (line at to : ℕ) (extra : List Obj) (last n event : ℕ) (ts : List Own)
        (most : n ≤ c.limit) (low : c.low ≤ at) (high : to ≤ c.high)
        (run : From ex n at last (extra ++ c.base) c.blocks now ts)
        (stops : (v : Obj) (i : ℕ) → V (Given v) i [])
        (later : (v : Obj) (m i : ℕ) (us : List Own) → m < n → From ex m to to (v ∷ extra ++ c.base) c.blocks now us → V (Given v) i us) where
      -- a constant is pushed
      literal_run : (literal : Literal) (p : Payload) → ((v : Obj) → HasConstant ex.objects v (constant_of literal) → HasPayload ex.objects v p) → StandsConst (parts_of ex) scope line at LoadConst literal to → IsLiteral ex.objects p event ts V
      literal_run literal p is_payload stands =
          const_run stands p (λ k q b v. Goes (running b b 0 (v ∷ extra ++ c.base) c.blocks now)) (extra ++ c.base) c.blocks now last n ts is_payload (λ i k q. refl) run
          (λ none. inl (none, passes.stopped event))
          (λ v k q m from is_next less has more. inr (v, has, later v m event ts less more))

      -- a local that is set is pushed, and one that isn't is asked for, which no value answers
      local_run : (x : Name) (v : Option Obj) → slice_get now.locals (place ex.vars x) ≡ Some v → name_of_local (setting_of ex) (place ex.vars x) ≡ Some x
          → StandsLocal (parts_of ex) scope line at LoadFast x to
          → Named (scene_of ex) line (Some v) x h event ts V
      local_run x (Some v) here named (stands, below) =
          steps_run ex stands (λ k p b. Goes (running b b 0 (v ∷ extra ++ c.base) c.blocks now)) (extra ++ c.base) c.blocks now last n ts
          (λ k p. ap (λ (o : Option (Option Obj)). Plainly (load_fast (name_of_local (setting_of ex) (place ex.vars x)) o (begun k p (extra ++ c.base) c.blocks now))) here) run
          (λ none. subst (λ (us : List Own). V (Given v) event us) (sym none) (stops v event))
          (λ k p m from is_next less more. later v m event ts less more)
      local_run x None here named (stands, below) =
          asked_run ex c now same V passes stands (Unbound x) (extra ++ c.base) extra last n event ts most low high
          (λ k p. ap (λ (o : Option (Option Obj)). Plainly (load_fast (name_of_local (setting_of ex) (place ex.vars x)) o (begun k p (extra ++ c.base) c.blocks now))) here
          ∙ ap (λ (o : Option Name). Plainly (load_fast o (Some None) (begun k p (extra ++ c.base) c.blocks now))) named) run
          (λ w i never. absurd never)
          (λ w k p m i us from is_next less never left. absurd never)

      -- a global is asked for
      global_run : (x : Name) (i : ℕ) → name_of_global (setting_of ex) i ≡ Some x → Stands (parts_of ex) scope line at LoadGlobal i to → Named (scene_of ex) line None x h event ts V
      global_run x i named stands =
          asked_once_run ex c now same V passes stands (Global ex.dict x) (extra ++ c.base) extra last n event ts most low high
          (λ k p. ap (λ (o : Option Name). Plainly (asks_if (on_none (option_map (λ y. Global ex.dict y) o) []) (begun k p (extra ++ c.base) c.blocks now))) named) run
          (λ v. v ∷ extra ++ c.base) (λ k p v. refl) stops later

      -- a name is loaded as a local or as a global
      name_run : (x : Name) (b : Bool) → list_any (bytes_eq x) ex.vars ≡ b → LaidName (parts_of ex) b scope line x at to → Named (scene_of ex) line (find_local x env) x h event ts V
      name_run x true is laid =
          let (v, found, here) = find_local-bound ex.vars now.locals x same is in
          rw found (local_run x v here (named_at ex.table _ ex.vars (place ex.vars x) x ex.locals_named (slice_get-place ex.vars x is)) laid)
      name_run x false is (i, stands, here) =
          rw (find_local-free ex.vars now.locals x is) (global_run x i (named_at ex.table _ ex.globals i x ex.globals_named here) stands)

      -- the load of an atom pushes a value that the atom may have, or raises
      pub atom_run : (a : Atom) → LaidAtom (parts_of ex) scope line a at to → Loads (scene_of ex) line env h a event ts V
      atom_run atom.None laid = literal_run NoneLiteral payload.None (λ v has. has) laid
      atom_run (atom.Bool b) laid = literal_run (BoolLiteral b) (payload.Bool b) (λ v has. has) laid
      atom_run (atom.Int i) laid = literal_run (IntLiteral i) (payload.Int i) (λ v has. has) laid
      atom_run (atom.Str s) laid = literal_run (StrLiteral s) (payload.Str s) (λ v has. has) laid
      atom_run (atom.Name x) laid = name_run x (list_any (bytes_eq x) ex.vars) refl laid

    -- either truth value goes where the jump says, over what lies on the stack
    module _ (next : Bool → ℕ → List Own → Type 0) (inside label : ℕ) (extra : List Obj) (n : ℕ) (most : n ≤ c.limit) (forward : inside ≤ label)
        (high : inside ≤ c.high) (stops : (b : Bool) (i : ℕ) → next b i [])
        (is_true : (last m i : ℕ) (us : List Own) → m < n → From ex m inside last (extra ++ c.base) c.blocks now us → next true i us)
        (is_false : (last m i : ℕ) (us : List Own) → m < n → From ex m label last (extra ++ c.base) c.blocks now us → next false i us) where
      -- the jump, by its truth value
      decided : (b : Bool) (k p m i : ℕ) (us : List Own) → suc k ≡ inside → m < n → Behind ex m (jumps_if (not b) label (begun k p (extra ++ c.base) c.blocks now)) us → next b i us
      decided true k p m i us is_next less step = is_true (suc k) m i us less (subst (λ (at : ℕ). From ex m at (suc k) (extra ++ c.base) c.blocks now us) is_next step)
      decided false k p m i us is_next less step = is_false (suc k) m i us less (ahead ex label k (suc k) p (extra ++ c.base) c.blocks now m us (omega (arith, is_next, forward)) step)

      -- the truth is asked for
      pub tests_run : {op : Instruction} (stays : Bool → Bool) → TestsBy ex op stays → {scope : Scope} {line asks : ℕ} → Stands (parts_of ex) scope line asks op label inside
          → (v : Obj) (last m event : ℕ) (us : List Own) → m ≤ n → c.low ≤ asks
          → From ex m asks last (v ∷ extra ++ c.base) c.blocks now us → Tests (scene_of ex) line env h v event us c.K (λ b. next (stays b))
      tests_run stays tests stands v last m event us less low run =
          asked_run ex c now same _ (use_passes ex c env _) stands (Truth v) (v ∷ extra ++ c.base) extra last m event us (omega (arith, less, most)) low high
          (λ k p. (tests label v (begun k p (extra ++ c.base) c.blocks now)).0) run
          (λ w i (b, has). (b, has, stops (stays b) i))
          (λ w k p j i rest from is_next fewer value left.
          let (done, (b, has, is), step) = subst (λ (move : Move). Left ex j move rest) (tests label w (begun k p (extra ++ c.base) c.blocks now)).1 left in
          (b, has, decided (stays b) k p j i rest is_next (omega (arith, fewer, less)) (subst (λ (s : Step). Behind ex j s rest) (sym is) step)))
