-- Objects of constants: of which kind they are, that they stay among more objects, and that there are some.
use Rattle.std.proofs.Common.{◌≡◌, ◌∙◌, ◌<◌, ◌++◌, ℕ, zero, suc, List, [], ◌∷◌, Bool, true, false, Some, refl, sym, ap, subst, length, append-nil, cond, arith}
use Rattle.std.specs.Prelude.{slice_get}
use Rattle.std.specs.List.{list_all}
use Rattle.std.proofs.lemmas.Option.{slice_get_within}
use Rattle.py_code.specs.declared.literal.Literal.{Literal, None as NoneLiteral, Bool as BoolLiteral, Int as IntLiteral, Str as StrLiteral, Tuple' as TupleLiteral, Code as CodeLiteral, Builtin as BuiltinLiteral, Row_of-Literal, end_of-Literal, more_of-Literal, items-the_row-Literal}
use Rattle.py_code.specs.Literals.{Constant, Constants, none, truth, number, text, tuple, code, builtin, no_more, constant, constant_of, constants_in, is_text}
use Rattle.py_code.proofs.NamesLemmas.{slice_get-append_last}
use Rattle.py_objects.specs.declared.payload.Payload.{Payload}
use Rattle.py_objects.specs.declared.payload.Payload.TheVariants as payload
use Rattle.py_objects.specs.Objects.{Obj, Name, HasPayload}
use Rattle.py_objects.specs.Growth.{Grows}
use Rattle.py_objects.proofs.GrowthLemmas.{grows_on, length_grown, payload_grown}
use Rattle.py_check.specs.Constants.{kind_of}
use Rattle.py_check.specs.declared.note.Kind.TheVariants as kind
use Rattle.py_rows.specs.Answers.{HasKind}
use Rattle.py_rows.specs.Constants.{HasConstant, HaveConstants}

-- an object of a constant is there
pub constant_there : (objects : List Payload) (v : Obj) (c : Constant) → HasConstant objects v c → v.number < length objects
constant_there objects v none has = slice_get_within objects v.number payload.None has
constant_there objects v (truth b) has = slice_get_within objects v.number (payload.Bool b) has
constant_there objects v (number n) has = slice_get_within objects v.number (payload.Int n) has
constant_there objects v (text s) has = slice_get_within objects v.number (payload.Str s) has
constant_there objects v (tuple cs) (vs, has, are) = slice_get_within objects v.number (payload.Tuple vs) has
constant_there objects v (code n) has = slice_get_within objects v.number (payload.Code n) has
constant_there objects v (builtin f) has = slice_get_within objects v.number (payload.Builtin f) has

mutual
  -- it stays one of the constant among more objects
  pub constant_grown : (objects objects' : List Payload) (v : Obj) (c : Constant) → Grows objects objects' → HasConstant objects v c → HasConstant objects' v c
  constant_grown objects objects' v none grows has = payload_grown objects objects' v payload.None grows has
  constant_grown objects objects' v (truth b) grows has = payload_grown objects objects' v (payload.Bool b) grows has
  constant_grown objects objects' v (number n) grows has = payload_grown objects objects' v (payload.Int n) grows has
  constant_grown objects objects' v (text s) grows has = payload_grown objects objects' v (payload.Str s) grows has
  constant_grown objects objects' v (tuple cs) grows (vs, has, are) =
      (vs, payload_grown objects objects' v (payload.Tuple vs) grows has, constants_grown objects objects' v.number vs cs grows are)
  constant_grown objects objects' v (code n) grows has = payload_grown objects objects' v (payload.Code n) grows has
  constant_grown objects objects' v (builtin f) grows has = payload_grown objects objects' v (payload.Builtin f) grows has

  pub constants_grown : (objects objects' : List Payload) (n : ℕ) (vs : List Obj) (cs : Constants) → Grows objects objects'
      → HaveConstants objects n vs cs → HaveConstants objects' n vs cs
  constants_grown objects objects' n vs no_more grows are = are
  constants_grown objects objects' n vs (constant c cs) grows (w, ws, is, below, has, are) =
      (w, ws, is, below, constant_grown objects objects' w c grows has, constants_grown objects objects' n ws cs grows are)

-- items below a number are below a greater one
pub constants_below : (objects : List Payload) (n m : ℕ) (vs : List Obj) (cs : Constants) → n < suc m → HaveConstants objects n vs cs → HaveConstants objects m vs cs
constants_below objects n m vs no_more more are = are
constants_below objects n m vs (constant c cs) more (w, ws, is, below, has, are) = (w, ws, is, omega (arith, below, more), has, constants_below objects n m ws cs more are)

-- items that are all texts
texts_are : {m : _} (objects : List Payload) (n : ℕ) (vs : List Obj) (items : Row_of-Literal m) → list_all is_text (items-the_row-Literal _ items) ≡ true → HaveConstants objects n vs (constants_in items)
    → (length vs ≡ length (items-the_row-Literal _ items)) × ((i : ℕ) (w : Obj) → slice_get vs i ≡ Some w → (s : Name) × HasPayload objects w (payload.Str s))
texts_are objects n vs end_of-Literal all are = (ap length are, λ i w here. absurd (let none_there : slice_get [] i ≡ Some w = subst (λ (us : List Obj). slice_get us i ≡ Some w) are here in cc))
texts_are objects n vs (more_of-Literal (StrLiteral s) items) all (w, ws, is, below, has, are) =
    let (count, texts) = texts_are objects n ws items all are in
    (ap length is ∙ ap suc count, λ i u here. at i u (subst (λ (us : List Obj). slice_get us i ≡ Some u) is here) texts)
  where
    at : (i : ℕ) (u : Obj) → slice_get (w ∷ ws) i ≡ Some u → ((j : ℕ) (x : Obj) → slice_get ws j ≡ Some x → (t : Name) × HasPayload objects x (payload.Str t))
        → (t : Name) × HasPayload objects u (payload.Str t)
    at zero u here texts = let same : w ≡ u = cc in (s, subst (λ (x : Obj). HasPayload objects x (payload.Str s)) same has)
    at (suc i) u here texts = texts i u here
texts_are objects n vs (more_of-Literal _ items) all are = absurd (cc all)

-- an object of a constant is of the constant's kind
pub constant_kind : (objects : List Payload) (v : Obj) (l : Literal) → HasConstant objects v (constant_of l) → HasKind objects v (kind_of l)
constant_kind objects v NoneLiteral has = tt
constant_kind objects v (BoolLiteral b) has = tt
constant_kind objects v (IntLiteral n) has = tt
constant_kind objects v (StrLiteral s) has = (s, has)
constant_kind objects v (TupleLiteral shape items) (vs, has, are) = by (list_all is_text (items-the_row-Literal _ items)) refl
  where
    by : (b : Bool) → list_all is_text (items-the_row-Literal _ items) ≡ b → HasKind objects v (cond b (kind.Names (length (items-the_row-Literal _ items))) kind.Tuple)
    by true all = let (count, texts) = texts_are objects v.number vs items all are in (vs, has, count, texts)
    by false some = (vs, has)
constant_kind objects v (CodeLiteral c) has = has
constant_kind objects v (BuiltinLiteral f) has = tt

-- these objects or more, of which one is an object of the constant
abbrev pub Made : List Payload → Constant → Type 0
Made objects c = (objects' : List Payload) × Grows objects objects' × ((v : Obj) × HasConstant objects' v c)

-- one more object, which has a payload
one_made : (objects : List Payload) (c : Constant) (p : Payload) → HasConstant (objects ++ p ∷ []) (record { number = length objects }) c → Made objects c
one_made objects c p has = (objects ++ p ∷ [], (p ∷ [], refl), (record { number = length objects }, has))

mutual
  -- some object can be one of a constant
  pub constant_made : (objects : List Payload) (c : Constant) → Made objects c
  constant_made objects none = one_made objects none payload.None (slice_get-append_last objects payload.None)
  constant_made objects (truth b) = one_made objects (truth b) (payload.Bool b) (slice_get-append_last objects (payload.Bool b))
  constant_made objects (number n) = one_made objects (number n) (payload.Int n) (slice_get-append_last objects (payload.Int n))
  constant_made objects (text s) = one_made objects (text s) (payload.Str s) (slice_get-append_last objects (payload.Str s))
  constant_made objects (tuple cs) =
      let (before, grows, (vs, are)) = constants_made objects cs in
      let more : Grows before (before ++ payload.Tuple vs ∷ []) = (payload.Tuple vs ∷ [], refl) in (
        before ++ payload.Tuple vs ∷ [],
        grows_on objects before _ grows more,
        (record { number = length before }, (vs, slice_get-append_last before (payload.Tuple vs), constants_grown before _ (length before) vs cs more are)),
      )
  constant_made objects (code n) = one_made objects (code n) (payload.Code n) (slice_get-append_last objects (payload.Code n))
  constant_made objects (builtin f) = one_made objects (builtin f) (payload.Builtin f) (slice_get-append_last objects (payload.Builtin f))

  pub constants_made : (objects : List Payload) (cs : Constants) → (objects' : List Payload) × Grows objects objects' × ((vs : List Obj) × HaveConstants objects' (length objects') vs cs)
  constants_made objects no_more = (objects, ([], sym (append-nil objects)), ([], refl))
  constants_made objects (constant c cs) =
      let (mid, grows, (w, has)) = constant_made objects c in
      let (new, more, (ws, are)) = constants_made mid cs in
      let here : w.number < length mid = constant_there mid w c has in (
        new,
        grows_on objects mid new grows more,
        (w ∷ ws, (w, ws, refl, omega (arith, here, length_grown mid new more), constant_grown mid new w c more has, are)),
      )
