-- By their names the objects of a machine are what they are.
use Rattle.std.proofs.Common.{◌≡◌, ◌+◌, ◌||◌, ◌∙◌, ℕ, zero, suc, Bool, true, false, List, [], ◌∷◌, Some, refl, sym, ap, ap₂, subst, inl, inr, arith}
use Rattle.std.specs.Prelude.{bytes_eq, if◌then◌else◌, map, slice_get}
use Rattle.std.specs.List.{list_any}
use Rattle.std.proofs.lemmas.Slice.Eq.{bytes_eq-Decides}
use Rattle.py_objects.specs.declared.payload.Payload.{Payload}
use Rattle.py_objects.specs.declared.payload.Payload.TheVariants as payload
use Rattle.py_objects.specs.declared.payload.ClassBody.{ClassBody}
use Rattle.py_objects.specs.declared.payload.ExceptionBody.{ExceptionBody}
use Rattle.py_objects.specs.declared.payload.FunctionBody.{FunctionBody}
use Rattle.py_objects.specs.declared.payload.ManagerBody.{ManagerBody}
use Rattle.py_objects.specs.declared.error_kind.ErrorKind.{ErrorKind}
use Rattle.py_objects.specs.ErrorKinds.{name_of}
use Rattle.py_objects.specs.Objects.{Obj, Name, HasPayload, declared}
use Rattle.py_grammar.specs.Grammar.{Decl, ClassDecl, ManagerDecl, decl_name, Coded, coded_name, codes_in}
use Rattle.py_grammar.specs.Rules.{is_builtin_class}
use Rattle.py_meaning.specs.Whole.{AreObjects}
use Rattle.py_meaning.specs.Worked.{function_entry}
use Rattle.py_meaning.proofs.AlikeObjects.{entry_named}
use Rattle.py_meaning.proofs.Entries.{code_declared, named_builtin}
use Rattle.py_meaning.proofs.Journals.{code_of}
use Rattle.py_meaning.proofs.WorkedObjects.{some_is}
use Rattle.py_core.specs.Runs.{AreCoreObjects, IsOfDeclared, by_name, code_from, is_known, known_name, named_objects}

-- ---- names that a script knows

-- a test passes where it does at some element
any_at : {X : Type 0} (p : X → Bool) (xs : List X) (i : ℕ) (x : X) → slice_get xs i ≡ Some x → p x ≡ true → list_any p xs ≡ true
any_at p [] i x at holds = absurd (cc at)
any_at p (y ∷ ys) zero x at holds = ap (λ b. b || list_any p ys) (ap p (some_is y x at) ∙ holds)
any_at p (y ∷ ys) (suc i) x at holds = by (p y) (any_at p ys i x at holds)
  where
    by : (b : Bool) → list_any p ys ≡ true → (b || list_any p ys) ≡ true
    by true is = refl
    by false is = is

-- that of a declaration
decl_known : (decls : List Decl) (k : ℕ) (d : Decl) → slice_get decls k ≡ Some d → is_known decls (decl_name d) ≡ true
decl_known decls k d at =
    let itself = (bytes_eq-Decides (decl_name d) (decl_name d)).1 refl in
    ap (λ b. b || is_builtin_class (decl_name d)) (any_at (λ e. bytes_eq (decl_name d) (decl_name e)) decls k d at itself)

-- and that of a built-in class
pub kind_known : (decls : List Decl) (kind : ErrorKind) → is_known decls (name_of kind) ≡ true
kind_known decls kind = by (list_any (λ d. bytes_eq (name_of kind) (decl_name d)) decls) (named_builtin kind)
  where
    by : (b : Bool) → is_builtin_class (name_of kind) ≡ true → (b || is_builtin_class (name_of kind)) ≡ true
    by true is = refl
    by false is = is

-- such a name stays
pub name_stays : (decls : List Decl) (x : Name) → is_known decls x ≡ true → known_name decls x ≡ x
name_stays decls x known = ap (λ b. if b then x else []) known

-- ---- codes by their names

-- what is found of a code by its name, where codes are numbered from n: one of them has that name
abbrev IsFound : List Coded → (n : ℕ) → Name → ℕ → Type 0
IsFound cs n x place = (j : ℕ) × (d : Coded) × (slice_get cs j ≡ Some d) × (x ≡ coded_name d) × (place ≡ n + j)

code_found : (cs : List Coded) (n k : ℕ) (c : Coded) → slice_get cs k ≡ Some c → IsFound cs n (coded_name c) (code_from n cs (coded_name c))
code_found [] n k c at = absurd (cc at)
code_found (d ∷ ds) n k c at = go (bytes_eq (coded_name c) (coded_name d)) refl k at (λ i there. code_found ds (suc n) i c there)
  where
    go : (b : Bool) → bytes_eq (coded_name c) (coded_name d) ≡ b → (k : ℕ) → slice_get (d ∷ ds) k ≡ Some c
        → ((i : ℕ) → slice_get ds i ≡ Some c → IsFound ds (suc n) (coded_name c) (code_from (suc n) ds (coded_name c)))
        → IsFound (d ∷ ds) n (coded_name c) (if b then n else code_from (suc n) ds (coded_name c))
    go true hit k at more = (0, d, refl, (bytes_eq-Decides (coded_name c) (coded_name d)).0 hit, omega arith)
    go false miss zero at more =
        let same : d ≡ c = some_is d c at in
        let hit : bytes_eq (coded_name c) (coded_name d) ≡ true = (bytes_eq-Decides (coded_name c) (coded_name d)).1 (ap coded_name (sym same)) in
        absurd (cc (sym hit ∙ miss))
    go false miss (suc k) at more = let (j, e, there, named, is) = more k at in (suc j, e, there, named, omega (arith, is))

-- ---- entries

-- where each entry stays, all do
pub map_stays : (f : Payload → Payload) (ps : List Payload) → ((i : ℕ) (p : Payload) → slice_get ps i ≡ Some p → f p ≡ p) → map f ps ≡ ps
map_stays f [] stays = refl
map_stays f (p ∷ ps) stays = ap₂ (λ (q : Payload) (qs : List Payload). q ∷ qs) (stays 0 p refl) (map_stays f ps (λ i q at. stays (suc i) q at))

module _ (decls : List Decl) (objects : List Payload) (are : AreObjects decls objects) where
  -- two codes of one name are one
  one_code : (i j : ℕ) (c d : Coded) → slice_get (codes_in decls) i ≡ Some c → slice_get (codes_in decls) j ≡ Some d → coded_name c ≡ coded_name d → i ≡ j
  one_code i j c d at there named =
      let (f, found, entry) = are.functions i c at in
      let (g, found', entry') = are.functions j d there in
      let same : f ≡ g = some_is f g (sym found ∙ (ap (declared objects) named ∙ found')) in
      let both : Some (function_entry (coded_name c) i) ≡ Some (function_entry (coded_name d) j) =
      sym entry ∙ (ap (λ (v : Obj). slice_get objects v.number) same ∙ entry') in
      code_of (coded_name c) (coded_name d) i j both

  function_stays : (f : Obj) (b : FunctionBody) → HasPayload objects f (payload.Function b) → by_name decls (payload.Function b) ≡ payload.Function b
  function_stays f b has =
      let (c, here, named, found) = are.only_functions f b has in
      let (k, d, at, same) = code_declared decls b.code c here in
      let known : is_known decls b.name ≡ true = subst (λ x. is_known decls x ≡ true) (same ∙ sym named) (decl_known decls k d at) in
      let (j, e, there, names, is) = code_found (codes_in decls) 0 b.code c here in
      let place : b.code ≡ j = one_code b.code j c e here there names in
      let code : code_from 0 (codes_in decls) b.name ≡ b.code = ap (code_from 0 (codes_in decls)) named ∙ (let at : code_from 0 (codes_in decls) (coded_name c) ≡ b.code = omega (arith, is, place) in at) in
      ap₂ (λ (x : Name) (n : ℕ). payload.Function (record { name = x; code = n })) (name_stays decls b.name known) code

  -- a class is declared under its name, which the script knows
  class_named : (c : Obj) (b : ClassBody) → HasPayload objects c (payload.Class b) → (declared objects b.name ≡ Some c) × (is_known decls b.name ≡ true)
  class_named c b has = elim (are.only_classes c b has) [
    | inl (kind, found) ↦ under (name_of kind) found (kind_known decls kind)
    | inr (i, x, base, at, found) ↦ under x found (decl_known decls i (ClassDecl x base) at)
  ]
    where
      under : (x : Name) → declared objects x ≡ Some c → is_known decls x ≡ true → (declared objects b.name ≡ Some c) × (is_known decls b.name ≡ true)
      under x found known =
          let same : b.name ≡ x = some_is b.name x (entry_named objects x c (payload.Class b) found has) in
          (ap (declared objects) same ∙ found, ap (is_known decls) same ∙ known)

  manager_named : (m : Obj) (b : ManagerBody) → HasPayload objects m (payload.Manager b) → is_known decls b.name ≡ true
  manager_named m b has =
      let (i, x, enter, exit, at, found) = are.only_managers m b has in
      let same : b.name ≡ x = some_is b.name x (entry_named objects x m (payload.Manager b) found has) in
      ap (is_known decls) same ∙ decl_known decls i (ManagerDecl x enter exit) at

  entry_stays : (i : ℕ) (p : Payload) → slice_get objects i ≡ Some p → by_name decls p ≡ p
  entry_stays i (payload.Function b) at = function_stays (record { number = i }) b at
  entry_stays i (payload.Class b) at =
      ap (λ (x : Name). payload.Class (record b { name = x })) (name_stays decls b.name (class_named (record { number = i }) b at).1)
  entry_stays i (payload.Manager b) at =
      ap (λ (x : Name). payload.Manager (record b { name = x })) (name_stays decls b.name (manager_named (record { number = i }) b at))
  entry_stays i _ at = refl

  -- so all stay
  pub objects_stay : named_objects decls objects ≡ objects
  objects_stay = map_stays (by_name decls) objects entry_stays

  -- each exception is of a declared class that the script knows
  raised_of : (i : ℕ) (e : ExceptionBody) → slice_get objects i ≡ Some (payload.Exception e) → IsOfDeclared decls objects e
  raised_of i e at =
      let made = (are.fit i (payload.Exception e) at).1 in
      let (found, known) = class_named (record { number = e.class.number }) made.class made.is_class in
      (made.class, made.is_class, found, known)

  -- and they are those of a core run
  pub are_core : AreCoreObjects decls objects
  are_core = record {
    functions = λ i c at. let (f, found, entry) = are.functions i c at in (f, found, (_, entry));
    classes = are.classes;
    managers = are.managers;
    builtins = are.builtins;
    raised = raised_of;
  }
