-- How the objects of a script's declarations come to be, one declaration behind the other.
use Rattle.std.proofs.Common.{◌≡◌, ◌≢◌, ◌<◌, ◌≤◌, ◌+◌, ℕ, zero, suc, List, [], ◌∷◌, ◌++◌, length, take, drop, take-append-drop, Bool, true, false, ◌||◌, Some, None, refl, sym, ap, ◌∙◌, subst, arith, append-nil, ◌⊎◌, inl, inr}
use Rattle.std.specs.Prelude.{Option, option_map, slice_get, map, bytes_eq}
use Rattle.std.specs.List.{list_any}
use Rattle.std.proofs.lemmas.List.{length-take-le}
use Rattle.std.proofs.lemmas.Option.{slice_get_within, slice_get-get_or, slice_get-map, get_or_from_slice_get}
use Rattle.std.proofs.lemmas.Slice.Eq.{bytes_eq-Decides}
use Rattle.py_objects.specs.declared.payload.Payload.{Payload}
use Rattle.py_objects.specs.declared.payload.Payload.TheVariants as payload
use Rattle.py_objects.specs.declared.payload.ClassBody.{ClassBody}
use Rattle.py_objects.specs.declared.payload.FunctionBody.{FunctionBody}
use Rattle.py_objects.specs.declared.payload.ManagerBody.{ManagerBody}
use Rattle.py_objects.specs.declared.error_kind.ErrorKind.{ErrorKind}
use Rattle.py_objects.specs.ErrorKinds.{name_of, error_kinds}
use Rattle.py_objects.specs.Objects.{Obj, Name, HasPayload, class_object, declares, is_name, declared, payload_numbers, AllBelow, IsMade, AllFit, IsFunction as IsFunctionObject}
use Rattle.py_objects.specs.Growth.{Grows}
use Rattle.py_objects.proofs.ErrorKindsLemmas.{each_kind}
use Rattle.py_objects.proofs.GrowthLemmas.{slice_get_grown, slice_get_split, payload_grown, declared_grown, below_more, length_grown, made_grown, one_entry}
use Rattle.py_objects.proofs.NewLemmas.{newest, declared_within}
use Rattle.py_exceptions.proofs.ClassesLemmas.{class_grown}
use Rattle.py_tree.specs.Tree.{Tree}
use Rattle.py_grammar.specs.declared.raw_block.RawBlock.{RawBlock}
use Rattle.py_grammar.specs.Grammar.{Decl, ClassDecl, ManagerDecl, FunctionDecl, RawDecl, decl_name, Coded, OfBody, OfRaw, coded_name, codes_in}
use Rattle.py_grammar.specs.Rules.{is_builtin_class}
use Rattle.py_grammar.specs.WellFormed.{IsFunction, IsFunctionNamed, IsClass, IsClassNamed, IsFounded, IsKnown}
use Rattle.py_grammar.proofs.Tables.{codes_in-append}
use Rattle.py_run.specs.First.{IsAddable}
use Rattle.py_meaning.specs.Whole.{HasFunction, HasClass, HasManager, IsBuiltinClass, IsDeclaredFunction, IsDeclaredClass, IsDeclaredManager, AreObjects}
use Rattle.py_meaning.specs.Entries.{AreWellDeclared, IsNamed, AreDeclared, IsFoundedOn, IsEntryOf}
use Rattle.py_meaning.proofs.Behind.{declares_it, newest_declared}

-- ---- lists of declarations

-- an entry of a list with one more is one of the list, or that one
pub one_more : {X : Type 0} (xs : List X) (y x : X) (i : ℕ) → slice_get (xs ++ y ∷ []) i ≡ Some x → (slice_get xs i ≡ Some x) ⊎ ((i ≡ length xs) × (y ≡ x))
one_more [] y x zero h = inr (refl, cc h)
one_more [] y x (suc i) h = absurd (cc h)
one_more (z ∷ xs) y x zero h = inl h
one_more (z ∷ xs) y x (suc i) h = elim (one_more xs y x i h) [ inl old ↦ inl old | inr new ↦ inr (ap suc new.0, new.1) ]

-- the body of a function that is declared has its place among the codes
function_place : (ds : List Decl) (k : ℕ) (t : Tree) → slice_get ds k ≡ Some (FunctionDecl t) → (i : ℕ) × (slice_get (codes_in ds) i ≡ Some (OfBody t))
function_place [] k t at = absurd (cc at)
function_place (ClassDecl c b ∷ ds) zero t at = absurd (cc at)
function_place (ManagerDecl m e x ∷ ds) zero t at = absurd (cc at)
function_place (FunctionDecl u ∷ ds) zero t at = (0, let same : u ≡ t = cc at in ap (λ (t : Tree). Some (OfBody t)) same)
function_place (ClassDecl c b ∷ ds) (suc k) t at = function_place ds k t at
function_place (ManagerDecl m e x ∷ ds) (suc k) t at = function_place ds k t at
function_place (FunctionDecl u ∷ ds) (suc k) t at = let (i, is) = function_place ds k t at in (suc i, is)
function_place (RawDecl b ∷ ds) zero t at = absurd (cc at)
function_place (RawDecl b ∷ ds) (suc k) t at = let (i, is) = function_place ds k t at in (suc i, is)

-- so has a raw code
raw_place : (ds : List Decl) (k : ℕ) (b : RawBlock) → slice_get ds k ≡ Some (RawDecl b) → (i : ℕ) × (slice_get (codes_in ds) i ≡ Some (OfRaw b))
raw_place [] k b at = absurd (cc at)
raw_place (ClassDecl c base ∷ ds) zero b at = absurd (cc at)
raw_place (ManagerDecl m e x ∷ ds) zero b at = absurd (cc at)
raw_place (FunctionDecl t ∷ ds) zero b at = absurd (cc at)
raw_place (RawDecl r ∷ ds) zero b at = (0, let same : r ≡ b = cc at in ap (λ (b : RawBlock). Some (OfRaw b)) same)
raw_place (ClassDecl c base ∷ ds) (suc k) b at = raw_place ds k b at
raw_place (ManagerDecl m e x ∷ ds) (suc k) b at = raw_place ds k b at
raw_place (FunctionDecl t ∷ ds) (suc k) b at = let (i, is) = raw_place ds k b at in (suc i, is)
raw_place (RawDecl r ∷ ds) (suc k) b at = let (i, is) = raw_place ds k b at in (suc i, is)

-- and what a code is of is declared under its name
pub code_declared : (ds : List Decl) (i : ℕ) (c : Coded) → slice_get (codes_in ds) i ≡ Some c → (k : ℕ) × (d : Decl) × (slice_get ds k ≡ Some d) × (decl_name d ≡ coded_name c)
code_declared [] i c at = absurd (cc at)
code_declared (ClassDecl n b ∷ ds) i c at = let (k, d, is, named) = code_declared ds i c at in (suc k, d, is, named)
code_declared (ManagerDecl m e x ∷ ds) i c at = let (k, d, is, named) = code_declared ds i c at in (suc k, d, is, named)
code_declared (FunctionDecl t ∷ ds) zero c at = (0, FunctionDecl t, refl, let same : OfBody t ≡ c = cc at in ap coded_name same)
code_declared (FunctionDecl t ∷ ds) (suc i) c at = let (k, d, is, named) = code_declared ds i c at in (suc k, d, is, named)
code_declared (RawDecl b ∷ ds) zero c at = (0, RawDecl b, refl, let same : OfRaw b ≡ c = cc at in ap coded_name same)
code_declared (RawDecl b ∷ ds) (suc i) c at = let (k, d, is, named) = code_declared ds i c at in (suc k, d, is, named)

-- ---- names that stand for something

-- a name of a built-in class is that of one of them
pub named_class : (x : Name) (kinds : List ErrorKind) → list_any (bytes_eq x) (map name_of kinds) ≡ true → (kind : ErrorKind) × (x ≡ name_of kind)
named_class x [] h = absurd (cc h)
named_class x (k ∷ kinds) h = go (bytes_eq x (name_of k)) refl h (named_class x kinds)
  where
    go : (b : Bool) → b ≡ bytes_eq x (name_of k) → (b || list_any (bytes_eq x) (map name_of kinds)) ≡ true
        → (list_any (bytes_eq x) (map name_of kinds) ≡ true → (kind : ErrorKind) × (x ≡ name_of kind)) → (kind : ErrorKind) × (x ≡ name_of kind)
    go true same h later = (k, (bytes_eq-Decides x (name_of k)).0 (sym same))
    go false other h later = later h

-- each of them has such a name
pub named_builtin : (kind : ErrorKind) → is_builtin_class (name_of kind) ≡ true
named_builtin kind = each_kind (λ k. is_builtin_class (name_of k)) refl kind

-- the name of a function stands for something, and so does that of a class
pub function_known : (ds : List Decl) (f : Name) → IsFunction ds f → IsKnown ds f
function_known ds f (k, d, low, is, named) = inl (k, d, low, is, named_so d named)
  where
    named_so : (d : Decl) → IsFunctionNamed f d → decl_name d ≡ f
    named_so (ClassDecl c b) named = absurd named
    named_so (ManagerDecl m e x) named = absurd named
    named_so (FunctionDecl t) named = named
    named_so (RawDecl b) named = named

pub class_known : (ds : List Decl) (c : Name) → IsClass ds c → IsKnown ds c
class_known ds c (inl (k, d, low, is, named)) = inl (k, d, low, is, named_so d named)
  where
    named_so : (d : Decl) → IsClassNamed c d → decl_name d ≡ c
    named_so (ClassDecl n b) named = named
    named_so (ManagerDecl m e x) named = absurd named
    named_so (FunctionDecl t) named = absurd named
    named_so (RawDecl b) named = absurd named
class_known ds c (inr builtin) = inr builtin

module _ (ds : List Decl) (objects : List Payload) (are : AreObjects ds objects) where
  -- a declaration that is there has its object
  decl_named : (k : ℕ) (d : Decl) → slice_get ds k ≡ Some d → IsNamed objects (decl_name d)
  decl_named k (ClassDecl c b) at = let has = are.classes k c b at in (has.class, has.is_declared)
  decl_named k (ManagerDecl m e x) at = let has = are.managers k m e x at in (has.manager, has.is_declared)
  decl_named k (FunctionDecl t) at =
      let (i, is) = function_place ds k t at in
      let (f, found, entry) = are.functions i (OfBody t) is in
      (f, found)
  decl_named k (RawDecl b) at =
      let (i, is) = raw_place ds k b at in
      let (f, found, entry) = are.functions i (OfRaw b) is in
      (f, found)

  -- so has a built-in class
  builtin_named : (x : Name) → is_builtin_class x ≡ true → IsNamed objects x
  builtin_named x known =
      let (kind, is) = named_class x error_kinds known in
      let (class, has) = are.builtins kind in
      (class_object class, ap (declared objects) is ∙ has.is_declared)

  -- a name that stands for something has its object
  pub known_declared : (x : Name) → IsKnown ds x → IsNamed objects x
  known_declared x (inl (k, d, low, is, named)) = subst (IsNamed objects) named (decl_named k d (slice_get-get_or ds k d low ∙ ap Some is))
  known_declared x (inr known) = builtin_named x known

  -- each declaration has its object
  pub are_declared : AreDeclared objects ds
  are_declared i d at = decl_named i d at

  -- a name of a declaration stands for something
  known_at : (k : ℕ) (d : Decl) (x : Name) → slice_get ds k ≡ Some d → decl_name d ≡ x → IsKnown ds x
  known_at k d x at named = inl (k, d, slice_get_within ds k d at, get_or_from_slice_get ds k d d at, named)

  -- a class has its own name
  builtin_name : (v : Obj) (b : ClassBody) → HasPayload objects v (payload.Class b) → (kind : ErrorKind) → declared objects (name_of kind) ≡ Some v → name_of kind ≡ b.name
  builtin_name v b has kind found =
      let (class, is) = are.builtins kind in
      let same : Some (class_object class) ≡ Some v = sym is.is_declared ∙ found in
      let one : class_object class ≡ v = cc same in
      let entry : Some (payload.Class (record { name = name_of kind; mro = is.mro })) ≡ Some (payload.Class b) = sym is.entry ∙ (ap (λ (w : Obj). slice_get objects w.number) one ∙ has) in
      let body : record { name = name_of kind; mro = is.mro } ≡ b = cc entry in
      ap (λ (c : ClassBody). c.name) body

  class_name : (v : Obj) (b : ClassBody) → HasPayload objects v (payload.Class b) → (c base : Name) → HasClass objects c base → declared objects c ≡ Some v → c ≡ b.name
  class_name v b has c base own found =
      let same : Some own.class ≡ Some v = sym own.is_declared ∙ found in
      let one : own.class ≡ v = cc same in
      let entry : Some (payload.Class (record { name = c; mro = own.base ∷ own.above.mro })) ≡ Some (payload.Class b) = sym own.entry ∙ (ap (λ (w : Obj). slice_get objects w.number) one ∙ has) in
      let body : record { name = c; mro = own.base ∷ own.above.mro } ≡ b = cc entry in
      ap (λ (k : ClassBody). k.name) body

  manager_name : (v : Obj) (b : ManagerBody) → HasPayload objects v (payload.Manager b) → (m e x : Name) → HasManager objects m e x → declared objects m ≡ Some v → m ≡ b.name
  manager_name v b has m e x own found =
      let same : Some own.manager ≡ Some v = sym own.is_declared ∙ found in
      let one : own.manager ≡ v = cc same in
      let entry : Some (payload.Manager (record { name = m; enter = own.enter; exit = own.exit })) ≡ Some (payload.Manager b) = sym own.entry ∙ (ap (λ (w : Obj). slice_get objects w.number) one ∙ has) in
      let body : record { name = m; enter = own.enter; exit = own.exit } ≡ b = cc entry in
      ap (λ (k : ManagerBody). k.name) body

  -- what an entry declares stands for something
  known_by : (v : Obj) (p : Payload) (x : Name) → HasPayload objects v p → is_name x (declares p) ≡ true → IsKnown ds x
  known_by v (payload.Function b) x has hit =
      let (c, at, named, found) = are.only_functions v b has in
      let (k, d, is, own) = code_declared ds b.code c at in
      known_at k d x is (own ∙ sym ((bytes_eq-Decides x b.name).0 hit ∙ named))
  known_by v (payload.Class b) x has hit =
      let same : x ≡ b.name = (bytes_eq-Decides x b.name).0 hit in
      elim (are.only_classes v b has) [
        | inl builtin ↦ inr (subst (λ (n : Name). is_builtin_class n ≡ true) (builtin_name v b has builtin.0 builtin.1 ∙ sym same) (named_builtin builtin.0))
        | inr own ↦ known_at own.0 (ClassDecl own.1 own.2) x own.3 (class_name v b has own.1 own.2 (are.classes own.0 own.1 own.2 own.3) own.4 ∙ sym same)
      ]
  known_by v (payload.Manager b) x has hit =
      let same : x ≡ b.name = (bytes_eq-Decides x b.name).0 hit in
      let (k, m, e, y, at, found) = are.only_managers v b has in
      known_at k (ManagerDecl m e y) x at (manager_name v b has m e y (are.managers k m e y at) found ∙ sym same)
  known_by v _ x has hit = absurd (cc hit)

  -- so does a name that is declared
  declared_known : (x : Name) (v : Obj) → declared objects x ≡ Some v → IsKnown ds x
  declared_known x v found =
      let (k, p, number, here, hit) = declares_it 0 objects x v found in
      known_by v p x (ap (slice_get objects) (let e : v.number ≡ k = omega (arith, number) in e) ∙ here) hit

  -- a name that stands for nothing isn't declared
  pub not_declared : (x : Name) → (IsKnown ds x → ⊥) → declared objects x ≡ None
  not_declared x unknown = go (declared objects x) refl
    where
      go : (o : Option Obj) → declared objects x ≡ o → declared objects x ≡ None
      go None is = is
      go (Some v) is = absurd (unknown (declared_known x v is))

  -- what a declaration is founded on is there
  function_there : (f : Name) → IsFunction ds f → (v : Obj) × (declared objects f ≡ Some v) × IsFunctionObject objects v
  function_there f (k, d, low, is, named) = go d (slice_get-get_or ds k d low ∙ ap Some is) named
    where
      go : (d : Decl) → slice_get ds k ≡ Some d → IsFunctionNamed f d → (v : Obj) × (declared objects f ≡ Some v) × IsFunctionObject objects v
      go (ClassDecl c b) at named = absurd named
      go (ManagerDecl m e x) at named = absurd named
      go (FunctionDecl t) at named =
          let (i, place) = function_place ds k t at in
          let (v, found, entry) = are.functions i (OfBody t) place in
          (v, ap (declared objects) (sym named) ∙ found, (_, entry))
      go (RawDecl b) at named =
          let (i, place) = raw_place ds k b at in
          let (v, found, entry) = are.functions i (OfRaw b) place in
          (v, ap (declared objects) (sym named) ∙ found, (_, entry))

  class_there : (b : Name) → IsClass ds b → IsFoundedOn objects (ClassDecl b b)
  class_there b (inl (k, d, low, is, named)) = go d (slice_get-get_or ds k d low ∙ ap Some is) named
    where
      go : (d : Decl) → slice_get ds k ≡ Some d → IsClassNamed b d → IsFoundedOn objects (ClassDecl b b)
      go (ClassDecl c base) at named = let has = are.classes k c base at in (has.class, ap (declared objects) (sym named) ∙ has.is_declared, (_, has.entry))
      go (ManagerDecl m e x) at named = absurd named
      go (FunctionDecl t) at named = absurd named
      go (RawDecl r) at named = absurd named
  class_there b (inr builtin) =
      let (kind, is) = named_class b error_kinds builtin in
      let (class, has) = are.builtins kind in
      (class_object class, ap (declared objects) is ∙ has.is_declared, (_, has.entry))

  pub founded : (d : Decl) → IsFounded ds d → IsFoundedOn objects d
  founded (ClassDecl c b) is = class_there b is
  founded (ManagerDecl m e x) is =
      let (enter, is_enter, entry) = function_there e is.0 in
      let (exit, is_exit, entry_of_exit) = function_there x is.1 in
      (enter, is_enter, entry, (exit, is_exit, entry_of_exit))
  founded (FunctionDecl t) is = tt
  founded (RawDecl b) is = tt

-- a declaration's name is none of those before it
pub other_name : (ds : List Decl) (i : ℕ) (d : Decl) → AreWellDeclared ds → slice_get ds i ≡ Some d → (k : ℕ) (e : Decl) → slice_get (take i ds) k ≡ Some e → decl_name e ≢ decl_name d
other_name ds i d well at k e here named =
    let there : slice_get ds k ≡ Some e = ap (λ (xs : List Decl). slice_get xs k) (sym (take-append-drop i ds)) ∙ slice_get_grown (take i ds) (drop i ds) k e here in
    let low = slice_get_within (take i ds) k e here in
    let low_i : i < length ds = slice_get_within ds i d at in
    let front : length (take i ds) ≡ i = length-take-le i ds (omega (arith, low_i)) in
    let first : slice_get (map decl_name ds) k ≡ Some (decl_name e) = slice_get-map decl_name ds k ∙ ap (option_map decl_name) there in
    let second : slice_get (map decl_name ds) i ≡ Some (decl_name d) = slice_get-map decl_name ds i ∙ ap (option_map decl_name) at in
    let high = slice_get_within (map decl_name ds) i (decl_name d) second in
    well.distinct k i (decl_name d) (omega (arith, low, front)) high
    (get_or_from_slice_get (map decl_name ds) k (decl_name e) (decl_name d) first ∙ (named ∙ sym (get_or_from_slice_get (map decl_name ds) i (decl_name d) (decl_name d) second)))

-- it stands for nothing before it
pub new_name : (ds : List Decl) (i : ℕ) (d : Decl) (objects : List Payload) → AreWellDeclared ds → slice_get ds i ≡ Some d → AreObjects (take i ds) objects → declared objects (decl_name d) ≡ None
new_name ds i d objects well at are = not_declared (take i ds) objects are (decl_name d) unknown
  where
    unknown : IsKnown (take i ds) (decl_name d) → ⊥
    unknown (inl (k, e, low, is, named)) = other_name ds i d well at k e (slice_get-get_or (take i ds) k e low ∙ ap Some is) named
    unknown (inr builtin) = let clash : true ≡ false = sym builtin ∙ (well.each i d at).no_class in cc clash

-- ---- more objects

function_grows : (objects objects' : List Payload) (i : ℕ) (c : Coded) → Grows objects objects' → HasFunction objects i c → HasFunction objects' i c
function_grows objects objects' i c grows (f, found, entry) = (f, declared_grown objects objects' (coded_name c) f grows found, payload_grown objects objects' f _ grows entry)

class_grows : (objects objects' : List Payload) (c b : Name) → Grows objects objects' → HasClass objects c b → HasClass objects' c b
class_grows objects objects' c b grows has = record {
  class = has.class;
  is_declared = declared_grown objects objects' c has.class grows has.is_declared;
  base = has.base;
  is_base = declared_grown objects objects' b has.base grows has.is_base;
  above = has.above;
  base_entry = payload_grown objects objects' has.base _ grows has.base_entry;
  entry = payload_grown objects objects' has.class _ grows has.entry;
}

manager_grows : (objects objects' : List Payload) (m e x : Name) → Grows objects objects' → HasManager objects m e x → HasManager objects' m e x
manager_grows objects objects' m e x grows has = record {
  manager = has.manager;
  is_declared = declared_grown objects objects' m has.manager grows has.is_declared;
  enter = has.enter;
  is_enter = declared_grown objects objects' e has.enter grows has.is_enter;
  exit = has.exit;
  is_exit = declared_grown objects objects' x has.exit grows has.is_exit;
  entry = payload_grown objects objects' has.manager _ grows has.entry;
}

-- a script's objects stay so as others come, among which are no functions, no classes and no managers
pub objects_more : (ds : List Decl) (objects objects' : List Payload) → Grows objects objects' → AreObjects ds objects
    → ((v : Obj) (p : Payload) (x : Name) → declares p ≡ Some x → HasPayload objects' v p → HasPayload objects v p) → AllFit objects' → AreObjects ds objects'
objects_more ds objects objects' grows are before fit = record {
  functions = λ i c at. function_grows objects objects' i c grows (are.functions i c at);
  classes = λ i c b at. class_grows objects objects' c b grows (are.classes i c b at);
  managers = λ i m e x at. manager_grows objects objects' m e x grows (are.managers i m e x at);
  builtins = λ kind. let (class, has) = are.builtins kind in (class, class_grown objects objects' kind class grows has);
  only_functions = λ f b has. function_still f b (are.only_functions f b (before f (payload.Function b) b.name refl has));
  only_classes = λ c b has. class_still c (are.only_classes c b (before c (payload.Class b) b.name refl has));
  only_managers = λ m b has. manager_still m (are.only_managers m b (before m (payload.Manager b) b.name refl has));
  fit = fit;
}
  where
    function_still : (f : Obj) (b : FunctionBody) → IsDeclaredFunction ds objects f b → IsDeclaredFunction ds objects' f b
    function_still f b (c, at, named, found) = (c, at, named, declared_grown objects objects' (coded_name c) f grows found)

    class_still : (c : Obj) → IsBuiltinClass objects c ⊎ IsDeclaredClass ds objects c → IsBuiltinClass objects' c ⊎ IsDeclaredClass ds objects' c
    class_still c (inl (kind, found)) = inl (kind, declared_grown objects objects' (name_of kind) c grows found)
    class_still c (inr (i, x, b, at, found)) = inr (i, x, b, at, declared_grown objects objects' x c grows found)

    manager_still : (m : Obj) → IsDeclaredManager ds objects m → IsDeclaredManager ds objects' m
    manager_still m (i, n, e, x, at, found) = (i, n, e, x, at, declared_grown objects objects' n m grows found)

-- ---- one declaration more

-- entries fit, where one more does
pub fit_more : (objects : List Payload) (q : Payload) → AllFit objects → AllBelow (length objects) (payload_numbers q) → IsMade objects q → AllFit (objects ++ q ∷ [])
fit_more objects q fit below made i p here =
    let grows : Grows objects (objects ++ q ∷ []) = (q ∷ [], refl) in
    let longer : length objects ≤ length (objects ++ q ∷ []) = length_grown _ _ grows in
    let Fits : Payload → Type 0 = λ p. AllBelow (length (objects ++ q ∷ [])) (payload_numbers p) × IsMade (objects ++ q ∷ []) p in
    elim (slice_get_split objects (q ∷ []) i p here) [
      | inl front ↦ (below_more _ _ _ longer (fit i p front).0, made_grown _ _ p grows (fit i p front).1)
      | inr back ↦ subst Fits (one_entry q p _ back) (below_more _ _ _ longer below, made_grown _ _ q grows made)
    ]

-- an entry that a host may add beside so many codes
pub record MayBeAdded (objects : List Payload) (codes : ℕ) (p : Payload) : Type 0 where
  pub below : AllBelow (length objects) (payload_numbers p)
  pub made : IsMade objects p
  pub addable : IsAddable codes p

-- the entry of a declaration is one
pub entry_added : (objects : List Payload) (codes n : ℕ) (d : Decl) (p : Payload) → AllFit objects → IsFoundedOn objects d → IsEntryOf objects n d p → n + length (codes_in (d ∷ [])) ≤ codes → MayBeAdded objects codes p
entry_added objects codes n (ClassDecl c b) p fit founded (base, above, found, has, is) few =
    let (below, made) = fit base.number (payload.Class above) has in
    let low = declared_within objects b base found in
    subst (MayBeAdded objects codes) (sym is) (record { below = (low, below); made = ((above, has), made); addable = tt })
entry_added objects codes n (ManagerDecl m e x) p fit (f, f_found, f_is, (g, g_found, g_is)) (enter, exit, is_enter, is_exit, is) few =
    let one : Some f ≡ Some enter = sym f_found ∙ is_enter in
    let other : Some g ≡ Some exit = sym g_found ∙ is_exit in
    let entered : IsFunctionObject objects enter = subst (IsFunctionObject objects) (let same : f ≡ enter = cc one in same) f_is in
    let left : IsFunctionObject objects exit = subst (IsFunctionObject objects) (let same : g ≡ exit = cc other in same) g_is in
    let low = declared_within objects e enter is_enter in
    let lower = declared_within objects x exit is_exit in
    subst (MayBeAdded objects codes) (sym is) (record { below = (low, (lower, tt)); made = (entered, left); addable = tt })
entry_added objects codes n (FunctionDecl t) p fit founded is few =
    subst (MayBeAdded objects codes) (sym is) (record { below = tt; made = tt; addable = (let low : n < codes = omega (arith, few) in low) })
entry_added objects codes n (RawDecl b) p fit founded is few =
    subst (MayBeAdded objects codes) (sym is) (record { below = tt; made = tt; addable = (let low : n < codes = omega (arith, few) in low) })

-- it declares its name
entry_declares : (objects : List Payload) (n : ℕ) (d : Decl) (p : Payload) → IsEntryOf objects n d p → declares p ≡ Some (decl_name d)
entry_declares objects n (ClassDecl c b) p (base, above, found, has, is) = ap declares is
entry_declares objects n (ManagerDecl m e x) p (enter, exit, is_enter, is_exit, is) = ap declares is
entry_declares objects n (FunctionDecl t) p is = ap declares is
entry_declares objects n (RawDecl b) p is = ap declares is

-- a declaration whose entry comes behind the objects of those before
pub record IsNext (ds : List Decl) (objects : List Payload) (d : Decl) (p : Payload) : Type 0 where
  pub are : AreObjects ds objects
  pub new : declared objects (decl_name d) ≡ None
  pub entry : IsEntryOf objects (length (codes_in ds)) d p
  pub fit : AllFit (objects ++ p ∷ [])

module _ (ds : List Decl) (objects : List Payload) (d : Decl) (p : Payload) (next : IsNext ds objects d p) where
  abbrev all : List Decl
  all = ds ++ d ∷ []

  abbrev more : List Payload
  more = objects ++ p ∷ []

  -- the newest object
  abbrev last : Obj
  last = record { number = length objects }

  grows : Grows objects more
  grows = (p ∷ [], refl)

  is_last : declared more (decl_name d) ≡ Some last
  is_last = newest_declared objects p (decl_name d) next.new (entry_declares objects (length (codes_in ds)) d p next.entry)

  function_added : (i : ℕ) (c : Coded) (e : Decl) → d ≡ e → IsEntryOf objects (length (codes_in ds)) e p → declared more (decl_name e) ≡ Some last
      → slice_get (codes_in ds ++ codes_in (e ∷ [])) i ≡ Some c → HasFunction more i c
  function_added i c (ClassDecl n b) same entry found at = function_grows objects more i c grows (next.are.functions i c (ap (λ (cs : List Coded). slice_get cs i) (sym (append-nil (codes_in ds))) ∙ at))
  function_added i c (ManagerDecl m e x) same entry found at = function_grows objects more i c grows (next.are.functions i c (ap (λ (cs : List Coded). slice_get cs i) (sym (append-nil (codes_in ds))) ∙ at))
  function_added i c (FunctionDecl t) same entry found at = elim (one_more (codes_in ds) (OfBody t) c i at) [
    | inl old ↦ function_grows objects more i c grows (next.are.functions i c old)
    | inr new ↦
        subst (λ (n : ℕ). HasFunction more n c) (sym new.0)
        (subst (λ (k : Coded). HasFunction more (length (codes_in ds)) k) new.1 (last, found, newest objects p ∙ ap Some entry))
  ]
  function_added i c (RawDecl b) same entry found at = elim (one_more (codes_in ds) (OfRaw b) c i at) [
    | inl old ↦ function_grows objects more i c grows (next.are.functions i c old)
    | inr new ↦
        subst (λ (n : ℕ). HasFunction more n c) (sym new.0)
        (subst (λ (k : Coded). HasFunction more (length (codes_in ds)) k) new.1 (last, found, newest objects p ∙ ap Some entry))
  ]

  class_added : (c b : Name) → IsEntryOf objects (length (codes_in ds)) (ClassDecl c b) p → declared more c ≡ Some last → HasClass more c b
  class_added c b (base, above, found, has, is) newly = record {
    class = last;
    is_declared = newly;
    base = base;
    is_base = declared_grown objects more b base grows found;
    above = above;
    base_entry = payload_grown objects more base _ grows has;
    entry = newest objects p ∙ ap Some is;
  }

  manager_added : (m e x : Name) → IsEntryOf objects (length (codes_in ds)) (ManagerDecl m e x) p → declared more m ≡ Some last → HasManager more m e x
  manager_added m e x (enter, exit, is_enter, is_exit, is) newly = record {
    manager = last;
    is_declared = newly;
    enter = enter;
    is_enter = declared_grown objects more e enter grows is_enter;
    exit = exit;
    is_exit = declared_grown objects more x exit grows is_exit;
    entry = newest objects p ∙ ap Some is;
  }

  only_function : (b : FunctionBody) (e : Decl) → IsEntryOf objects (length (codes_in ds)) e p → p ≡ payload.Function b → declared more (decl_name e) ≡ Some last
      → (c : Coded) × (slice_get (codes_in ds ++ codes_in (e ∷ [])) b.code ≡ Some c) × (b.name ≡ coded_name c) × (declared more (coded_name c) ≡ Some last)
  only_function b (ClassDecl c x) (base, above, found, has, is) same newly = absurd (let clash : payload.Class (record { name = c; mro = base ∷ above.mro }) ≡ payload.Function b = sym is ∙ same in cc clash)
  only_function b (ManagerDecl m e x) (enter, exit, is_enter, is_exit, is) same newly = absurd (let clash : payload.Manager (record { name = m; enter = enter; exit = exit }) ≡ payload.Function b = sym is ∙ same in cc clash)
  only_function b (FunctionDecl t) is same newly =
      let one : payload.Function (record { name = t.name; code = length (codes_in ds) }) ≡ payload.Function b = sym is ∙ same in
      let body : record { name = t.name; code = length (codes_in ds) } ≡ b = cc one in
      (OfBody t, ap (λ (k : FunctionBody). slice_get (codes_in ds ++ OfBody t ∷ []) k.code) (sym body) ∙ newest (codes_in ds) (OfBody t), ap (λ (k : FunctionBody). k.name) (sym body), newly)
  only_function b (RawDecl r) is same newly =
      let one : payload.Function (record { name = r.name; code = length (codes_in ds) }) ≡ payload.Function b = sym is ∙ same in
      let body : record { name = r.name; code = length (codes_in ds) } ≡ b = cc one in
      (OfRaw r, ap (λ (k : FunctionBody). slice_get (codes_in ds ++ OfRaw r ∷ []) k.code) (sym body) ∙ newest (codes_in ds) (OfRaw r), ap (λ (k : FunctionBody). k.name) (sym body), newly)

  only_class : (b : ClassBody) (e : Decl) → IsEntryOf objects (length (codes_in ds)) e p → p ≡ payload.Class b → declared more (decl_name e) ≡ Some last → (e ≡ d) → IsDeclaredClass all more last
  only_class b (ClassDecl c x) entry same newly one = (length ds, c, x, newest ds d ∙ ap Some (sym one), newly)
  only_class b (ManagerDecl m e x) (enter, exit, is_enter, is_exit, is) same newly one = absurd (let clash : payload.Manager (record { name = m; enter = enter; exit = exit }) ≡ payload.Class b = sym is ∙ same in cc clash)
  only_class b (FunctionDecl t) is same newly one = absurd (let clash : payload.Function (record { name = t.name; code = length (codes_in ds) }) ≡ payload.Class b = sym is ∙ same in cc clash)
  only_class b (RawDecl r) is same newly one = absurd (let clash : payload.Function (record { name = r.name; code = length (codes_in ds) }) ≡ payload.Class b = sym is ∙ same in cc clash)

  only_manager : (b : ManagerBody) (e : Decl) → IsEntryOf objects (length (codes_in ds)) e p → p ≡ payload.Manager b → declared more (decl_name e) ≡ Some last → (e ≡ d) → IsDeclaredManager all more last
  only_manager b (ClassDecl c x) (base, above, found, has, is) same newly one = absurd (let clash : payload.Class (record { name = c; mro = base ∷ above.mro }) ≡ payload.Manager b = sym is ∙ same in cc clash)
  only_manager b (ManagerDecl m e x) entry same newly one = (length ds, m, e, x, newest ds d ∙ ap Some (sym one), newly)
  only_manager b (FunctionDecl t) is same newly one = absurd (let clash : payload.Function (record { name = t.name; code = length (codes_in ds) }) ≡ payload.Manager b = sym is ∙ same in cc clash)
  only_manager b (RawDecl r) is same newly one = absurd (let clash : payload.Function (record { name = r.name; code = length (codes_in ds) }) ≡ payload.Manager b = sym is ∙ same in cc clash)

  -- the number of the newest object
  numbered : (v : Obj) → v.number ≡ length objects → last ≡ v
  numbered v at = ap (λ n. let w : Obj = record { number = n } in w) (sym at)

  old_function : (f : Obj) (b : FunctionBody) → IsDeclaredFunction ds objects f b → IsDeclaredFunction all more f b
  old_function f b (c, at, named, found) =
      (c, ap (λ (cs : List Coded). slice_get cs b.code) (codes_in-append ds (d ∷ [])) ∙ slice_get_grown (codes_in ds) (codes_in (d ∷ [])) b.code c at, named, declared_grown objects more (coded_name c) f grows found)

  new_function : (b : FunctionBody) → (c : Coded) × (slice_get (codes_in ds ++ codes_in (d ∷ [])) b.code ≡ Some c) × (b.name ≡ coded_name c) × (declared more (coded_name c) ≡ Some last) → IsDeclaredFunction all more last b
  new_function b (c, at, named, found) = (c, ap (λ (cs : List Coded). slice_get cs b.code) (codes_in-append ds (d ∷ [])) ∙ at, named, found)

  old_class : (c : Obj) → IsBuiltinClass objects c ⊎ IsDeclaredClass ds objects c → IsBuiltinClass more c ⊎ IsDeclaredClass all more c
  old_class c (inl (kind, found)) = inl (kind, declared_grown objects more (name_of kind) c grows found)
  old_class c (inr (i, x, b, at, found)) = inr (i, x, b, slice_get_grown ds (d ∷ []) i (ClassDecl x b) at, declared_grown objects more x c grows found)

  old_manager : (m : Obj) → IsDeclaredManager ds objects m → IsDeclaredManager all more m
  old_manager m (i, n, e, x, at, found) = (i, n, e, x, slice_get_grown ds (d ∷ []) i (ManagerDecl n e x) at, declared_grown objects more n m grows found)

  -- the objects of all declarations
  pub next_objects : AreObjects all more
  next_objects = record {
    functions = λ i c at. function_added i c d refl next.entry is_last (ap (λ (cs : List Coded). slice_get cs i) (sym (codes_in-append ds (d ∷ []))) ∙ at);
    classes = λ i c b at. elim (one_more ds d (ClassDecl c b) i at) [
      | inl old ↦ class_grows objects more c b grows (next.are.classes i c b old)
      | inr new ↦ class_added c b (subst (λ (e : Decl). IsEntryOf objects (length (codes_in ds)) e p) new.1 next.entry) (subst (λ (e : Decl). declared more (decl_name e) ≡ Some last) new.1 is_last)
    ];
    managers = λ i m e x at. elim (one_more ds d (ManagerDecl m e x) i at) [
      | inl old ↦ manager_grows objects more m e x grows (next.are.managers i m e x old)
      | inr new ↦ manager_added m e x (subst (λ (e : Decl). IsEntryOf objects (length (codes_in ds)) e p) new.1 next.entry) (subst (λ (e : Decl). declared more (decl_name e) ≡ Some last) new.1 is_last)
    ];
    builtins = λ kind. let (class, has) = next.are.builtins kind in (class, class_grown objects more kind class grows has);
    only_functions = λ f b has. elim (one_more objects p (payload.Function b) f.number has) [
      | inl old ↦ old_function f b (next.are.only_functions f b old)
      | inr new ↦ subst (λ (v : Obj). IsDeclaredFunction all more v b) (numbered f new.0) (new_function b (only_function b d next.entry new.1 is_last))
    ];
    only_classes = λ c b has. elim (one_more objects p (payload.Class b) c.number has) [
      | inl old ↦ old_class c (next.are.only_classes c b old)
      | inr new ↦ inr (subst (IsDeclaredClass all more) (numbered c new.0) (only_class b d next.entry new.1 is_last refl))
    ];
    only_managers = λ m b has. elim (one_more objects p (payload.Manager b) m.number has) [
      | inl old ↦ old_manager m (next.are.only_managers m b old)
      | inr new ↦ subst (IsDeclaredManager all more) (numbered m new.0) (only_manager b d next.entry new.1 is_last refl)
    ];
    fit = next.fit;
  }

-- the same, where that declaration is founded on what is there
pub one_declared : (ds : List Decl) (objects : List Payload) (d : Decl) (p : Payload) → AreObjects ds objects → declared objects (decl_name d) ≡ None → IsFoundedOn objects d
    → IsEntryOf objects (length (codes_in ds)) d p → AreObjects (ds ++ d ∷ []) (objects ++ p ∷ [])
one_declared ds objects d p are new founded entry =
    let n = length (codes_in ds) in
    let may = entry_added objects (n + length (codes_in (d ∷ []))) n d p are.fit founded entry (omega arith) in
    next_objects ds objects d p (record { are = are; new = new; entry = entry; fit = fit_more objects p are.fit may.below may.made })
