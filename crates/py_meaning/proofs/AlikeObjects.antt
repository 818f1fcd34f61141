-- What the same declarations declare in two runs is alike, before any event.
use Rattle.std.proofs.Common.{◌≡◌, ◌+◌, ℕ, zero, suc, Bool, true, false, cond, Option, Some, None, List, [], ◌∷◌, refl, sym, ap, ap₂, subst, ◌∙◌, slice_get, eqb, ◌⊎◌, inl, inr, arith}
use Rattle.std.specs.List.{AllZip, position_from}
use Rattle.std.proofs.lemmas.Bool.{eqb-true, eqb-false, eq-eqb, ne_eqb, cases_Bool}
use Rattle.std.proofs.lemmas.Slice.Eq.{bytes_eq-Decides}
use Rattle.py_objects.specs.declared.payload.Payload.{Payload}
use Rattle.py_objects.specs.declared.payload.Payload.TheVariants as payload
use Rattle.py_objects.specs.declared.payload.ClassBody.{ClassBody}
use Rattle.py_objects.specs.declared.payload.ManagerBody.{ManagerBody}
use Rattle.py_objects.specs.declared.error_kind.ErrorKind.{ErrorKind}
use Rattle.py_objects.specs.ErrorKinds.{name_of, bases_of}
use Rattle.py_objects.specs.Objects.{Obj, Name, HasPayload, class_object, declares, is_name, declared}
use Rattle.py_objects.specs.Ancestry.{class_in, has_name, first_class}
use Rattle.py_answers.proofs.ReadingLemmas.{one_payload}
use Rattle.py_grammar.specs.Grammar.{Decl, coded_name}
use Rattle.py_agreement.specs.Agreement.{Relation, SameMaybe, SameAll, has_literal}
use Rattle.py_determined.specs.Alike.{Alike, AreAlike, numbered}
use Rattle.py_determined.specs.Related.{Related}
use Rattle.py_determined.proofs.AlikeLemmas.{found_from}
use Rattle.py_meaning.specs.Whole.{HasClass, HasManager, IsBuiltinClass, IsDeclaredClass, AreObjects}
use Rattle.py_meaning.proofs.Behind.{declares_it}

-- ---- entries, and the names that they are declared under

name_is : (x : Name) (d : Option Name) → is_name x d ≡ true → d ≡ Some x
name_is x None e = absurd (cc e)
name_is x (Some y) e = ap Some (sym ((bytes_eq-Decides x y).0 e))

-- what is declared under a name has an entry of that name
pub named_entry : (objects : List Payload) (x : Name) (v : Obj) → declared objects x ≡ Some v → (p : Payload) × HasPayload objects v p × (declares p ≡ Some x)
named_entry objects x v is =
    let (k, p, number, here, hit) = declares_it 0 objects x v is in
    let place : v.number ≡ k = omega (arith, number) in
    (p, ap (slice_get objects) place ∙ here, name_is x (declares p) hit)

-- whatever its entry is
pub entry_named : (objects : List Payload) (x : Name) (v : Obj) (p : Payload) → declared objects x ≡ Some v → HasPayload objects v p → declares p ≡ Some x
entry_named objects x v p is has =
    let (q, has', says) = named_entry objects x v is in
    ap declares (one_payload objects v.number p q has has') ∙ says

-- one object is declared under one name
one_name : (objects : List Payload) (x y : Name) (v : Obj) → declared objects x ≡ Some v → declared objects y ≡ Some v → x ≡ y
one_name objects x y v is is' =
    let (p, has, says) = named_entry objects x v is in
    let both : Some x ≡ Some y = sym says ∙ entry_named objects y v p is' has in
    cc both

-- under one name one object
pub one_object : (objects : List Payload) (x : Name) (v w : Obj) → declared objects x ≡ Some v → declared objects x ≡ Some w → v ≡ w
one_object objects x v w is is' = let both : Some v ≡ Some w = sym is ∙ is' in cc both

-- a declaration is no literal
no_literal : (p : Payload) (x : Name) → declares p ≡ Some x → has_literal p ≡ false
no_literal (payload.Class c) x says = refl
no_literal (payload.Function f) x says = refl
no_literal (payload.Manager m) x says = refl
no_literal _ x says = absurd (cc says)

-- a class has one entry
one_class : (objects : List Payload) (v : Obj) (c d : ClassBody) → HasPayload objects v (payload.Class c) → HasPayload objects v (payload.Class d) → c ≡ d
one_class objects v c d has has' = let same : payload.Class c ≡ payload.Class d = one_payload objects v.number (payload.Class c) (payload.Class d) has has' in cc same

-- and so has a manager
one_manager : (objects : List Payload) (v : Obj) (m n : ManagerBody) → HasPayload objects v (payload.Manager m) → HasPayload objects v (payload.Manager n) → m ≡ n
one_manager objects v m n has has' = let same : payload.Manager m ≡ payload.Manager n = one_payload objects v.number (payload.Manager m) (payload.Manager n) has has' in cc same

-- a search finds some entry where one passes its test
finds : (test : Payload → Bool) (ps : List Payload) (i j : ℕ) (p : Payload) → slice_get ps j ≡ Some p → test p ≡ true → (k : ℕ) × (position_from test i ps ≡ Some k)
finds test [] i j p at passes = absurd (cc at)
finds test (q ∷ ps) i zero p at passes =
    let same : q ≡ p = cc at in
    (i, ap (λ b. cond b (Some i) (position_from test (i + 1) ps)) (ap test same ∙ passes))
finds test (q ∷ ps) i (suc j) p at passes = by (test q) refl (finds test ps (i + 1) j p at passes)
  where
    by : (b : Bool) → test q ≡ b → ((k : ℕ) × (position_from test (i + 1) ps ≡ Some k)) → (k : ℕ) × (position_from test i (q ∷ ps) ≡ Some k)
    by true is later = (i, ap (λ b. cond b (Some i) (position_from test (i + 1) ps)) is)
    by false is (k, later) = (k, ap (λ b. cond b (Some i) (position_from test (i + 1) ps)) is ∙ later)

-- there is a first class of each name that a class has
class_found : (objects : List Payload) (v : Obj) (c : ClassBody) → HasPayload objects v (payload.Class c) → (k : ℕ) × (first_class c.name objects ≡ Some k)
class_found objects v c has = finds (λ p. has_name c.name (class_in (Some p))) objects 0 v.number (payload.Class c) has ((bytes_eq-Decides c.name c.name).1 refl)

class_named : (x : Name) (p : Payload) → has_name x (class_in (Some p)) ≡ true → (c : ClassBody) × (p ≡ payload.Class c) × (c.name ≡ x)
class_named x (payload.Class c) e = (c, refl, (bytes_eq-Decides c.name x).0 e)
class_named x _ e = absurd (cc e)

-- the first class of a name is a class that has it
first_named : (objects : List Payload) (x : Name) (i : ℕ) → first_class x objects ≡ Some i → (c : ClassBody) × HasPayload objects (numbered i) (payload.Class c) × (c.name ≡ x)
first_named objects x i found =
    let (j, p, e, at, passes) = found_from (λ p. has_name x (class_in (Some p))) objects 0 i found in
    let (c, is, named) = class_named x p passes in
    let here : i ≡ j = omega (arith, e) in
    (c, ap (slice_get objects) here ∙ at ∙ ap Some is, named)

module _ (decls : List Decl) (objects objects' : List Payload) (are : AreObjects decls objects) (are' : AreObjects decls objects') where
  abbrev S : Relation
  S = Related objects objects' []

  named_related : (x : Name) (v w : Obj) → declared objects x ≡ Some v → declared objects' x ≡ Some w → S v w
  named_related x v w is is' = inr (inl (x, is, is'))

  -- ---- classes

  -- a class of the other run that is declared under this name, and derives from what these are related to
  abbrev HasLike : Name → List Obj → Type 0
  HasLike x mro =
      (w : Obj) × (ws : List Obj) × (declared objects' x ≡ Some w) × HasPayload objects' w (payload.Class (record { name = x; mro = ws })) × SameAll S mro ws

  bases_related : (kinds : List ErrorKind) (vs ws : List Obj) → AllZip (λ base v. declared objects (name_of base) ≡ Some v) kinds vs
      → AllZip (λ base w. declared objects' (name_of base) ≡ Some w) kinds ws → SameAll S vs ws
  bases_related [] [] [] are_bases are_bases' = tt
  bases_related (k ∷ kinds) (v ∷ vs) (w ∷ ws) are_bases are_bases' = (named_related (name_of k) v w are_bases.0 are_bases'.0, bases_related kinds vs ws are_bases.1 are_bases'.1)
  bases_related (k ∷ kinds) (v ∷ vs) [] are_bases are_bases' = absurd are_bases'
  bases_related [] [] (w ∷ ws) are_bases are_bases' = absurd are_bases'
  bases_related _ _ _ are_bases are_bases' = absurd are_bases

  builtin_like : (kind : ErrorKind) (v : Obj) (c : ClassBody) → declared objects (name_of kind) ≡ Some v → HasPayload objects v (payload.Class c) → HasLike (name_of kind) c.mro
  builtin_like kind v c is has =
      let (class, built) = are.builtins kind in
      let (class', built') = are'.builtins kind in
      let here : v ≡ class_object class = one_object objects (name_of kind) v (class_object class) is built.is_declared in
      let same : c ≡ record { name = name_of kind; mro = built.mro } =
      one_class objects (class_object class) c _ (subst (λ (z : Obj). HasPayload objects z (payload.Class c)) here has) built.entry in
      let all : SameAll S built.mro built'.mro = bases_related (bases_of kind) built.mro built'.mro built.bases built'.bases in
      (class_object class', built'.mro, built'.is_declared, built'.entry, subst (λ (b : ClassBody). SameAll S b.mro built'.mro) (sym same) all)

  -- a class that is declared, where the same holds of its base
  class_like : (c b : Name) (v : Obj) (mro : List Obj) (h : HasClass objects c b) → HasClass objects' c b → declared objects c ≡ Some v
      → HasPayload objects v (payload.Class (record { name = c; mro = mro })) → HasLike b h.above.mro → HasLike c mro
  class_like c b v mro h h' is has (w, ws, is_base, has_base, all) =
      let here : v ≡ h.class = one_object objects c v h.class is h.is_declared in
      let same : record { name = c; mro = mro } ≡ record { name = c; mro = h.base ∷ h.above.mro } =
      one_class objects h.class _ _ (subst (λ (z : Obj). HasPayload objects z (payload.Class (record { name = c; mro = mro }))) here has) h.entry in
      let base : w ≡ h'.base = one_object objects' b w h'.base is_base h'.is_base in
      let above : record { name = b; mro = ws } ≡ h'.above =
      one_class objects' h'.base _ h'.above (subst (λ (z : Obj). HasPayload objects' z (payload.Class (record { name = b; mro = ws }))) base has_base) h'.base_entry in
      let bases : SameAll S h.above.mro h'.above.mro = subst (λ (d : ClassBody). SameAll S h.above.mro d.mro) above all in
      let related : SameAll S (h.base ∷ h.above.mro) (h'.base ∷ h'.above.mro) = (named_related b h.base h'.base h.is_base h'.is_base, bases) in
      (h'.class, h'.base ∷ h'.above.mro, h'.is_declared, h'.entry, subst (λ (d : ClassBody). SameAll S d.mro (h'.base ∷ h'.above.mro)) (sym same) related)

  -- the entry of the base of a class that is declared
  base_entry : (c b : Name) (v u : Obj) (us : List Obj) (h : HasClass objects c b) → declared objects c ≡ Some v
      → HasPayload objects v (payload.Class (record { name = c; mro = u ∷ us })) → (u ≡ h.base) × (us ≡ h.above.mro)
  base_entry c b v u us h is has =
      let here : v ≡ h.class = one_object objects c v h.class is h.is_declared in
      let same : record { name = c; mro = u ∷ us } ≡ record { name = c; mro = h.base ∷ h.above.mro } =
      one_class objects h.class _ _ (subst (λ (z : Obj). HasPayload objects z (payload.Class (record { name = c; mro = u ∷ us }))) here has) h.entry in
      both u us h.base h.above.mro (ap (λ (d : ClassBody). d.mro) same)
    where
      both : (u : Obj) (us : List Obj) (w : Obj) (ws : List Obj) → u ∷ us ≡ w ∷ ws → (u ≡ w) × (us ≡ ws)
      both u us w ws e = (cc e, cc e)

  -- no class that is declared derives from nothing
  no_base : (c b : Name) (v : Obj) → HasClass objects c b → declared objects c ≡ Some v → HasPayload objects v (payload.Class (record { name = c; mro = [] })) → ⊥
  no_base c b v h is has =
      let here : v ≡ h.class = one_object objects c v h.class is h.is_declared in
      let same : record { name = c; mro = [] } ≡ record { name = c; mro = h.base ∷ h.above.mro } =
      one_class objects h.class _ _ (subst (λ (z : Obj). HasPayload objects z (payload.Class (record { name = c; mro = [] }))) here has) h.entry in
      clash h.base h.above.mro (ap (λ (d : ClassBody). d.mro) same)
    where
      clash : (w : Obj) (ws : List Obj) → [] ≡ w ∷ ws → ⊥
      clash w ws e = absurd (cc e)

  -- by the two ways in which a class is there, where the same holds of what is in front of the rest of its ancestors
  class_by : (x : Name) (v : Obj) (mro : List Obj) → declared objects x ≡ Some v → HasPayload objects v (payload.Class (record { name = x; mro = mro }))
      → ((c b : Name) (h : HasClass objects c b) → declared objects c ≡ Some v → HasPayload objects v (payload.Class (record { name = c; mro = mro })) → HasLike b h.above.mro)
      → IsBuiltinClass objects v ⊎ IsDeclaredClass decls objects v → HasLike x mro
  class_by x v mro is has below (inl (kind, said)) =
      let same : name_of kind ≡ x = one_name objects (name_of kind) x v said is in
      subst (λ (y : Name). HasLike y mro) same (builtin_like kind v (record { name = x; mro = mro }) said has)
  class_by x v mro is has below (inr (i, c, b, at, said)) =
      let same : c ≡ x = one_name objects c x v said is in
      let entry : HasPayload objects v (payload.Class (record { name = c; mro = mro })) = subst (λ (y : Name). HasPayload objects v (payload.Class (record { name = y; mro = mro }))) (sym same) has in
      let h : HasClass objects c b = are.classes i c b at in
      subst (λ (y : Name). HasLike y mro) same (class_like c b v mro h (are'.classes i c b at) said entry (below c b h said entry))

  -- what derives from so many classes is on both sides
  classes_like : (mro : List Obj) (x : Name) (v : Obj) → declared objects x ≡ Some v → HasPayload objects v (payload.Class (record { name = x; mro = mro })) → HasLike x mro
  classes_like [] x v is has = class_by x v [] is has (λ c b h said entry. absurd (no_base c b v h said entry)) (are.only_classes v _ has)
  classes_like (u ∷ us) x v is has =
      class_by x v (u ∷ us) is has
      (λ c b h said entry. below c b h (base_entry c b v u us h said entry) (λ said_base has_base. classes_like us b u said_base has_base)) (are.only_classes v _ has)
    where
      below : (c b : Name) (h : HasClass objects c b) → (u ≡ h.base) × (us ≡ h.above.mro)
          → (declared objects b ≡ Some u → HasPayload objects u (payload.Class (record { name = b; mro = us })) → HasLike b us) → HasLike b h.above.mro
      below c b h (base, rest) like =
          let named : h.above.name ≡ b = name_of_class b h.base h.above h.is_base h.base_entry in
          let entry : HasPayload objects h.base (payload.Class (record { name = b; mro = us })) =
          h.base_entry ∙ ap₂ (λ (n : Name) (ms : List Obj). Some (payload.Class (record { name = n; mro = ms }))) named (sym rest) in
          subst (λ (ms : List Obj). HasLike b ms) rest
          (like (h.is_base ∙ ap Some (sym base)) (subst (λ (z : Obj). HasPayload objects z (payload.Class (record { name = b; mro = us }))) (sym base) entry))
        where
          name_of_class : (b : Name) (v : Obj) (c : ClassBody) → declared objects b ≡ Some v → HasPayload objects v (payload.Class c) → c.name ≡ b
          name_of_class b v c is has = let says : Some c.name ≡ Some b = entry_named objects b v (payload.Class c) is has in cc says

  -- ---- what is declared under a name

  -- an object of the other run that is declared under this name, and alike
  abbrev HasAlike : Name → Payload → Type 0
  HasAlike x p = (w : Obj) × (q : Payload) × (declared objects' x ≡ Some w) × HasPayload objects' w q × Alike S objects objects' p q

  declared_alike : (x : Name) (v : Obj) (p : Payload) → declared objects x ≡ Some v → HasPayload objects v p → HasAlike x p
  declared_alike x v (payload.Class c) is has =
      let named : c.name ≡ x = let says : Some c.name ≡ Some x = entry_named objects x v (payload.Class c) is has in cc says in
      let (w, ws, is', has', all) = classes_like c.mro x v is (subst (λ (n : Name). HasPayload objects v (payload.Class (record { name = n; mro = c.mro }))) named has) in
      (w, payload.Class (record { name = x; mro = ws }), is', has', (named, all))
  declared_alike x v (payload.Function f) is has =
      let named : f.name ≡ x = let says : Some f.name ≡ Some x = entry_named objects x v (payload.Function f) is has in cc says in
      let (coded, at, same, found) = are.only_functions v f has in
      let (g, is', has') = are'.functions f.code coded at in
      (g, payload.Function (record { name = coded_name coded; code = f.code }), ap (declared objects') (sym named ∙ same) ∙ is', has', ap (λ (n : Name). record { name = n; code = f.code }) same)
  declared_alike x v (payload.Manager m) is has =
      let (i, n, e, l, at, said) = are.only_managers v m has in
      let h : HasManager objects n e l = are.managers i n e l at in
      let h' : HasManager objects' n e l = are'.managers i n e l at in
      let here : v ≡ h.manager = one_object objects n v h.manager said h.is_declared in
      let same : m ≡ record { name = n; enter = h.enter; exit = h.exit } =
      one_manager objects h.manager m _ (subst (λ (z : Obj). HasPayload objects z (payload.Manager m)) here has) h.entry in
      let named : n ≡ x = one_name objects n x v said is in
      let related : Alike S objects objects' (payload.Manager (record { name = n; enter = h.enter; exit = h.exit })) (payload.Manager (record { name = n; enter = h'.enter; exit = h'.exit })) =
      (refl, named_related e h.enter h'.enter h.is_enter h'.is_enter, named_related l h.exit h'.exit h.is_exit h'.is_exit) in (
        h'.manager,
        payload.Manager (record { name = n; enter = h'.enter; exit = h'.exit }),
        ap (declared objects') (sym named) ∙ h'.is_declared,
        h'.entry,
        subst (λ (k : ManagerBody). Alike S objects objects' (payload.Manager k) (payload.Manager (record { name = n; enter = h'.enter; exit = h'.exit }))) (sym same) related,
      )
  declared_alike x v p is has = absurd (let says : declares p ≡ Some x = entry_named objects x v p is has in cc says)

  -- ---- related objects

  literal_alike : (p : Payload) → has_literal p ≡ true → Alike S objects objects' p p
  literal_alike payload.None e = tt
  literal_alike (payload.Bool b) e = refl
  literal_alike (payload.Int n) e = refl
  literal_alike (payload.Str s) e = refl
  literal_alike _ e = absurd (cc e)

  related_alike : (v w : Obj) (p q : Payload) → S v w → HasPayload objects v p → HasPayload objects' w q → Alike S objects objects' p q
  related_alike v w p q (inl (r, literal, is, is')) has has' =
      subst (λ (z : Payload). Alike S objects objects' z q) (one_payload objects v.number r p is has)
      (subst (λ (z : Payload). Alike S objects objects' r z) (one_payload objects' w.number r q is' has') (literal_alike r literal))
  related_alike v w p q (inr (inl (x, is, is'))) has has' =
      let (u, r, said, entry, alike) = declared_alike x v p is has in
      let here : u ≡ w = one_object objects' x u w said is' in
      let same : r ≡ q = one_payload objects' w.number r q (subst (λ (z : Obj). HasPayload objects' z r) here entry) has' in
      subst (λ (z : Payload). Alike S objects objects' p z) same alike
  related_alike v w p q (inr (inr pair)) has has' = absurd pair

  -- of what is declared there is one on each side
  one_right : (x : Name) (v w v2 w2 : Obj) → declared objects x ≡ Some v → declared objects' x ≡ Some w → S v2 w2 → v ≡ v2 → w ≡ w2
  one_right x v w v2 w2 is is' (inl (r, literal, has, has')) same =
      absurd (let none = no_literal r x (entry_named objects x v2 r (is ∙ ap Some same) has) in cc (sym none ∙ literal))
  one_right x v w v2 w2 is is' (inr (inl (y, said, said'))) same =
      let one : y ≡ x = one_name objects y x v2 said (is ∙ ap Some same) in
      one_object objects' x w w2 is' (ap (declared objects') (sym one) ∙ said')
  one_right x v w v2 w2 is is' (inr (inr pair)) same = absurd pair

  one_left : (x : Name) (v w v2 w2 : Obj) → declared objects x ≡ Some v → declared objects' x ≡ Some w → S v2 w2 → w ≡ w2 → v ≡ v2
  one_left x v w v2 w2 is is' (inl (r, literal, has, has')) same =
      absurd (let none = no_literal r x (entry_named objects' x w2 r (is' ∙ ap Some same) has') in cc (sym none ∙ literal))
  one_left x v w v2 w2 is is' (inr (inl (y, said, said'))) same =
      let one : y ≡ x = one_name objects' y x w2 said' (is' ∙ ap Some same) in
      one_object objects x v v2 is (ap (declared objects) (sym one) ∙ said)
  one_left x v w v2 w2 is is' (inr (inr pair)) same = absurd pair

  same_object : (v w : Obj) → v.number ≡ w.number → v ≡ w
  same_object v w e = ap (λ (n : ℕ). numbered n) e

  one_related : (v v2 w w2 : Obj) (p : Payload) → S v w → S v2 w2 → HasPayload objects v p → has_literal p ≡ false → eqb v.number v2.number ≡ eqb w.number w2.number
  one_related v v2 w w2 p (inl (r, literal, is, is')) s2 has other = absurd (let same : r ≡ p = one_payload objects v.number r p is has in cc (sym other ∙ ap has_literal (sym same) ∙ literal))
  one_related v v2 w w2 p (inr (inl (x, is, is'))) s2 has other = elim (cases_Bool (eqb v.number v2.number)) as (λ c. eqb v.number v2.number ≡ eqb w.number w2.number) [
    | inl same ↦ same ∙ sym (eq-eqb w.number w2.number (ap (λ (z : Obj). z.number) (one_right x v w v2 w2 is is' s2 (same_object v v2 (eqb-true v.number v2.number same)))))
    | inr apart ↦ apart ∙ sym (ne_eqb w.number w2.number (λ e. eqb-false v.number v2.number apart (ap (λ (z : Obj). z.number) (one_left x v w v2 w2 is is' s2 (same_object w w2 e)))))
  ]
  one_related v v2 w w2 p (inr (inr pair)) s2 has other = absurd pair

  -- ---- names

  -- the first class of a name is what is declared under it
  first_is_declared : (x : Name) (i : ℕ) → first_class x objects ≡ Some i → (c : ClassBody) × HasPayload objects (numbered i) (payload.Class c) × (declared objects x ≡ Some (numbered i))
  first_is_declared x i found =
      let (c, has, named) = first_named objects x i found in
      (c, has, by c has named (are.only_classes (numbered i) c has))
    where
      under : (c : ClassBody) (y : Name) → HasPayload objects (numbered i) (payload.Class c) → c.name ≡ x → declared objects y ≡ Some (numbered i) → declared objects x ≡ Some (numbered i)
      under c y has named said =
          let says : Some c.name ≡ Some y = entry_named objects y (numbered i) (payload.Class c) said has in
          let one : c.name ≡ y = cc says in
          ap (declared objects) (sym named ∙ one) ∙ said

      by : (c : ClassBody) → HasPayload objects (numbered i) (payload.Class c) → c.name ≡ x → IsBuiltinClass objects (numbered i) ⊎ IsDeclaredClass decls objects (numbered i)
          → declared objects x ≡ Some (numbered i)
      by c has named (inl (kind, said)) = under c (name_of kind) has named said
      by c has named (inr (j, d, b, at, said)) = under c d has named said

  -- what is declared here is declared there
  declared_there : (x : Name) (v : Obj) → declared objects x ≡ Some v → (w : Obj) × (declared objects' x ≡ Some w)
  declared_there x v is =
      let (p, has, says) = named_entry objects x v is in
      let (w, q, is', has', alike) = declared_alike x v p is has in
      (w, is')

  -- and where there is a first class of a name here, there is one there
  first_there : (x : Name) (i : ℕ) → first_class x objects ≡ Some i → (j : ℕ) × (first_class x objects' ≡ Some j)
  first_there x i found =
      let (c, has, is) = first_is_declared x i found in
      let named : c.name ≡ x = let says : Some c.name ≡ Some x = entry_named objects x (numbered i) (payload.Class c) is has in cc says in
      let (w, ws, is', has', all) = classes_like c.mro x (numbered i) is (subst (λ (n : Name). HasPayload objects (numbered i) (payload.Class (record { name = n; mro = c.mro }))) named has) in
      class_found objects' w (record { name = x; mro = ws }) has'

module _ (decls : List Decl) (objects objects' : List Payload) (are : AreObjects decls objects) (are' : AreObjects decls objects') where
  names_related : (x : Name) (o o' : Option Obj) → declared objects x ≡ o → declared objects' x ≡ o' → SameMaybe (Related objects objects' []) o o'
  names_related x None None is is' = tt
  names_related x (Some v) (Some w) is is' = named_related decls objects objects' are are' x v w is is'
  names_related x (Some v) None is is' = absurd (let (w, there) = declared_there decls objects objects' are are' x v is in cc (sym there ∙ is'))
  names_related x None (Some w) is is' = absurd (let (v, there) = declared_there decls objects' objects are' are x w is' in cc (sym there ∙ is))

  first_related : (x : Name) (o o' : Option ℕ) → first_class x objects ≡ o → first_class x objects' ≡ o' → SameMaybe (λ i j. Related objects objects' [] (numbered i) (numbered j)) o o'
  first_related x None None found found' = tt
  first_related x (Some i) (Some j) found found' =
      let (c, has, is) = first_is_declared decls objects objects' are are' x i found in
      let (d, has', is') = first_is_declared decls objects' objects are' are x j found' in
      named_related decls objects objects' are are' x (numbered i) (numbered j) is is'
  first_related x (Some i) None found found' = absurd (let (j, there) = first_there decls objects objects' are are' x i found in cc (sym there ∙ found'))
  first_related x None (Some j) found found' = absurd (let (i, there) = first_there decls objects' objects are' are x j found' in cc (sym there ∙ found))

  -- what is declared is alike before any event
  pub declared_are_alike : AreAlike (Related objects objects' []) objects objects'
  declared_are_alike = record {
    literals = λ p v w literal has has'. inl (p, literal, has, has');
    payloads = related_alike decls objects objects' are are';
    one = one_related decls objects objects' are are';
    declares = λ x. names_related x (declared objects x) (declared objects' x) refl refl;
    first = λ x. first_related x (first_class x objects) (first_class x objects') refl refl;
  }
