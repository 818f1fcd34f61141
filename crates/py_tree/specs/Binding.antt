-- The names that a body binds, and its locals.
-- (Python Language Reference, 4.2.1 and 4.2.2)
use Rattle.std.specs.Prelude.{Option, Some, None, List, [], ◌∷◌, ◌++◌, bytes_eq, if◌then◌else◌}
use Rattle.std.specs.List.{list_any}
use Rattle.py_objects.specs.Objects.{Obj}
use Rattle.py_tree.specs.Tree.{Name, Form, Assign, Do, Show, Return, Raise, Reraise, Break, Continue, Pass, If, IfElse, While, TryExcept, TryFinally, With, Suite, nothing, first, Clauses, no_more, clause, Tree}

-- a name behind others, unless it is one of them
abbrev pub bound : List Name → Name → List Name
bound names x = if list_any (bytes_eq x) names then names else names ++ x ∷ []

-- the same of a name that there may be
abbrev pub bound_if : List Name → Option Name → List Name
bound_if names None = names
bound_if names (Some x) = bound names x

abbrev mutual
  -- the names that a statement binds, behind others
  pub bound_in : List Name → Form → List Name
  bound_in names (Assign x e) = bound names x
  bound_in names (Do o es) = names
  bound_in names (Show a) = names
  bound_in names (Return a) = names
  bound_in names (Raise a) = names
  bound_in names Reraise = names
  bound_in names Break = names
  bound_in names Continue = names
  bound_in names Pass = names
  bound_in names (If a s) = bound_by names s
  bound_in names (IfElse a s t) = bound_by (bound_by names s) t
  bound_in names (While a s) = bound_by names s
  bound_in names (TryExcept s cs) = bound_under (bound_by names s) cs
  bound_in names (TryFinally s t) = bound_by (bound_by names s) t
  bound_in names (With a x s) = bound_by (bound_if names x) s

  -- the names that a suite binds, behind others, in the order in which its lines first bind them
  pub bound_by : List Name → Suite → List Name
  bound_by names nothing = names
  bound_by names (first n f more) = bound_by (bound_in names f) more

  -- the same of clauses
  pub bound_under : List Name → Clauses → List Name
  bound_under names no_more = names
  bound_under names (clause n c x s more) = bound_under (bound_by (bound_if names x) s) more

-- the names of a body's locals: the parameters in order, then the others; every other name is a global
abbrev pub locals_of : Tree → List Name
locals_of t = bound_by t.params t.suite

-- the locals of a body: each name that it binds, with its object where it is set
abbrev pub Env : Type 0
Env = List (Name × Option Obj)

-- what a name is as a local: none of them, an unset one, or one with its object
abbrev pub find_local : Name → Env → Option (Option Obj)
find_local x [] = None
find_local x (p ∷ env) = if bytes_eq x p.0 then Some p.1 else find_local x env

-- a local is set or unset, behind the others where it is new
abbrev pub set_local : Name → Option Obj → Env → Env
set_local x v [] = (x, v) ∷ []
set_local x v (p ∷ env) = if bytes_eq x p.0 then (p.0, v) ∷ env else p ∷ set_local x v env

-- a value is bound to a name, or dropped
abbrev pub bind : Option Name → Obj → Env → Env
bind None v env = env
bind (Some x) v env = set_local x (Some v) env

-- the names with the arguments in order, the others unset
abbrev pub begun : List Name → List Obj → Env
begun [] vs = []
begun (x ∷ xs) [] = (x, None) ∷ begun xs []
begun (x ∷ xs) (v ∷ vs) = (x, Some v) ∷ begun xs vs

-- the locals at the entry of a body
abbrev pub start_env : Tree → List Obj → Env
start_env t args = begun (locals_of t) args
