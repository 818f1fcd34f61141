-- No exception is of what is declared under the name of a function, where objects go by their names.
use Rattle.std.proofs.Common.{◌≡◌, ◌∙◌, ℕ, zero, suc, true, List, [], ◌∷◌, Some, None, refl, sym, ap, subst}
use Rattle.std.specs.Prelude.{Option, option_map, slice_get}
use Rattle.std.proofs.lemmas.Option.{same_Some, slice_get-get_or, slice_get-map}
use Rattle.py_objects.specs.declared.payload.Payload.{Payload}
use Rattle.py_objects.specs.declared.payload.Payload.TheVariants as payload
use Rattle.py_objects.specs.declared.payload.ClassBody.{ClassBody}
use Rattle.py_objects.specs.declared.payload.ExceptionBody.{ExceptionBody}
use Rattle.py_objects.specs.Objects.{Obj, Name, HasPayload, class_object, declared}
use Rattle.py_grammar.specs.Grammar.{Decl, ClassDecl, ManagerDecl, FunctionDecl, RawDecl, Coded, OfBody, OfRaw, coded_name, codes_in}
use Rattle.py_grammar.specs.WellFormed.{IsFunctionNamed, IsFunction}
use Rattle.py_meaning.proofs.AlikeObjects.{entry_named}
use Rattle.py_core.proofs.Names.{name_stays}
use Rattle.py_core.specs.Runs.{AreCoreObjects, by_name, is_known, known_name, named_objects}

-- ---- functions among declarations

-- the code of a function of a name
abbrev pub HasCode : List Decl → Name → Type 0
HasCode decls f = (i : ℕ) × (c : Coded) × (slice_get (codes_in decls) i ≡ Some c) × (coded_name c ≡ f)

-- codes of later declarations are codes
code_later : (d : Decl) (ds : List Decl) (f : Name) → HasCode ds f → HasCode (d ∷ ds) f
code_later (ClassDecl c b) ds f has = has
code_later (ManagerDecl m e x) ds f has = has
code_later (FunctionDecl t) ds f (i, c, at, named) = (suc i, c, at, named)
code_later (RawDecl b) ds f (i, c, at, named) = (suc i, c, at, named)

code_first : (d : Decl) (ds : List Decl) (f : Name) → IsFunctionNamed f d → HasCode (d ∷ ds) f
code_first (ClassDecl c b) ds f named = absurd named
code_first (ManagerDecl m e x) ds f named = absurd named
code_first (FunctionDecl t) ds f named = (0, OfBody t, refl, named)
code_first (RawDecl b) ds f named = (0, OfRaw b, refl, named)

code_at : (decls : List Decl) (f : Name) (k : ℕ) (d : Decl) → slice_get decls k ≡ Some d → IsFunctionNamed f d → HasCode decls f
code_at [] f k d at named = absurd (cc at)
code_at (x ∷ ds) f zero d at named = subst (λ y. HasCode (y ∷ ds) f) (same_Some d x (sym at)) (code_first d ds f named)
code_at (x ∷ ds) f (suc k) d at named = code_later x ds f (code_at ds f k d at named)

-- ---- no exception is of what is declared under the name of a function

-- no exception is of this class
abbrev pub IsUnraised : List Payload → Obj → Type 0
IsUnraised objects g = (v : Obj) (e : ExceptionBody) → HasPayload objects v (payload.Exception e) → e.class.number ≡ g.number → ⊥

-- an exception by its name was one
exception_was : (decls : List Decl) (e : ExceptionBody) (o : Option Payload) → option_map (by_name decls) o ≡ Some (payload.Exception e) → o ≡ Some (payload.Exception e)
exception_was decls e None is = absurd (cc is)
exception_was decls e (Some (payload.Function b)) is = absurd (cc is)
exception_was decls e (Some (payload.Class c)) is = absurd (cc is)
exception_was decls e (Some (payload.Manager m)) is = absurd (cc is)
exception_was decls e (Some _) is = is

module _ (decls : List Decl) (objects : List Payload) (entries : AreCoreObjects decls objects) where
  -- a class whose name is known isn't declared under that of a function
  no_class : (f : Name) (g : Obj) (c : ClassBody) → HasCode decls f → declared (named_objects decls objects) f ≡ Some g → HasPayload objects g (payload.Class c)
      → is_known decls c.name ≡ true → declared objects c.name ≡ Some g → ⊥
  no_class f g c (i, code, here, is) found has known declared_so =
      let entry : HasPayload (named_objects decls objects) g (by_name decls (payload.Class c)) =
      slice_get-map (by_name decls) objects g.number ∙ ap (option_map (by_name decls)) has in
      let named : known_name decls c.name ≡ f =
      same_Some (known_name decls c.name) f (entry_named (named_objects decls objects) f g (by_name decls (payload.Class c)) found entry) in
      let name : c.name ≡ f = sym (name_stays decls c.name known) ∙ named in
      let (v, first, (b, has')) = entries.functions i code here in
      let same : v ≡ g = same_Some v g (sym first ∙ ap (declared objects) (is ∙ sym name) ∙ declared_so) in
      cc (sym has ∙ ap (λ (w : Obj). slice_get objects w.number) (sym same) ∙ has')

  pub unraised : (f : Name) (g : Obj) → IsFunction decls f → declared (named_objects decls objects) f ≡ Some g → IsUnraised (named_objects decls objects) g
  unraised f g (k, d, within, at, named) found v e has of =
      let was : HasPayload objects v (payload.Exception e) =
      exception_was decls e (slice_get objects v.number) (sym (slice_get-map (by_name decls) objects v.number) ∙ has) in
      let (c, entry, declared_so, known) = entries.raised v.number e was in
      let same : class_object e.class ≡ g = ap (λ (n : ℕ). record { number = n }) of in
      no_class f g c (code_at decls f k d (slice_get-get_or decls k d within ∙ ap Some at) named) found
      (subst (λ w. HasPayload objects w (payload.Class c)) same entry) known (declared_so ∙ ap Some same)
