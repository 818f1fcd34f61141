-- How a declaration's entry comes behind the objects of those in front of it.
use Rattle.std.specs.Prelude.{ℕ, Some, List, ◌∷◌, ◌≡◌, slice_get, take, map}
use Rattle.py_objects.specs.declared.payload.Payload.{Payload}
use Rattle.py_objects.specs.declared.payload.Payload.TheVariants as payload
use Rattle.py_objects.specs.declared.payload.ClassBody.{ClassBody}
use Rattle.py_objects.specs.Objects.{Obj, Name, HasPayload, declared, IsClassObject, IsFunction}
use Rattle.py_grammar.specs.Grammar.{Decl, ClassDecl, ManagerDecl, FunctionDecl, RawDecl, decl_name}
use Rattle.py_grammar.specs.WellFormed.{AreDistinct, IsWellDeclared}

-- declarations that keep the rules, each behind those in front of it
pub record AreWellDeclared (decls : List Decl) : Type 0 where
  pub each : (i : ℕ) (d : Decl) → slice_get decls i ≡ Some d → IsWellDeclared (take i decls) d
  pub distinct : AreDistinct (map decl_name decls)

-- a name has an object that is declared under it
abbrev pub IsNamed : List Payload → Name → Type 0
IsNamed objects x = (v : Obj) × (declared objects x ≡ Some v)

-- each of these declarations has its object
abbrev pub AreDeclared : List Payload → List Decl → Type 0
AreDeclared objects decls = (i : ℕ) (d : Decl) → slice_get decls i ≡ Some d → IsNamed objects (decl_name d)

-- what a declaration is founded on is among these objects: a class's base is a class, and a manager's two functions are functions
abbrev pub IsFoundedOn : List Payload → Decl → Type 0
IsFoundedOn objects (ClassDecl c b) = (base : Obj) × (declared objects b ≡ Some base) × IsClassObject objects base
IsFoundedOn objects (ManagerDecl m e x) =
    (enter : Obj) × (declared objects e ≡ Some enter) × IsFunction objects enter × ((exit : Obj) × (declared objects x ≡ Some exit) × IsFunction objects exit)
IsFoundedOn objects (FunctionDecl t) = Unit {0}
IsFoundedOn objects (RawDecl b) = Unit {0}

-- the entry of a declaration behind these objects; that of a function has the code of this number, whether it was written
-- as a body or unit by unit
abbrev pub IsEntryOf : List Payload → ℕ → Decl → Payload → Type 0
IsEntryOf objects n (ClassDecl c b) p =
    (base : Obj) × (above : ClassBody) × (declared objects b ≡ Some base) × HasPayload objects base (payload.Class above) × (p ≡ payload.Class (record { name = c; mro = base ∷ above.mro }))
IsEntryOf objects n (ManagerDecl m e x) p =
    (enter : Obj) × (exit : Obj) × (declared objects e ≡ Some enter) × (declared objects x ≡ Some exit) × (p ≡ payload.Manager (record { name = m; enter = enter; exit = exit }))
IsEntryOf objects n (FunctionDecl t) p = p ≡ payload.Function (record { name = t.name; code = n })
IsEntryOf objects n (RawDecl b) p = p ≡ payload.Function (record { name = b.name; code = n })
