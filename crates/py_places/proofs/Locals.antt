-- Locals where numbers stand for objects: what is found and what is set.
use Rattle.std.proofs.Common.{◌≡◌, ℕ, Bool, true, false, cond, [], ◌∷◌, Option, Some, None, refl, sym, ap, ◌∙◌, bytes_eq}
use Rattle.py_objects.specs.Objects.{Obj}
use Rattle.py_tree.specs.Tree.{Name}
use Rattle.py_tree.specs.Binding.{Env, find_local, set_local, bind}
use Rattle.py_places.specs.Standing.{Standing, for_option, for_env}
use Rattle.py_places.proofs.Fits.{Scoped, ObjScoped, EnvScoped}

abbrev pub for_found : Standing → Option (Option Obj) → Option (Option Obj)
for_found σ None = None
for_found σ (Some o) = Some (for_option σ o)

pub find_for : (σ : Standing) (x : Name) (env : Env) → find_local x (for_env σ env) ≡ for_found σ (find_local x env)
find_for σ x [] = refl
find_for σ x (p ∷ env) = by (bytes_eq x p.0) (find_for σ x env)
  where
    by : (b : Bool) → find_local x (for_env σ env) ≡ for_found σ (find_local x env)
        → cond b (Some (for_option σ p.1)) (find_local x (for_env σ env)) ≡ for_found σ (cond b (Some p.1) (find_local x env))
    by true on = refl
    by false on = on

pub set_for : (σ : Standing) (x : Name) (v : Option Obj) (env : Env) → for_env σ (set_local x v env) ≡ set_local x (for_option σ v) (for_env σ env)
set_for σ x v [] = refl
set_for σ x v (p ∷ env) = by (bytes_eq x p.0) (set_for σ x v env)
  where
    by : (b : Bool) → for_env σ (set_local x v env) ≡ set_local x (for_option σ v) (for_env σ env)
        → for_env σ (cond b ((p.0, v) ∷ env) (p ∷ set_local x v env))
        ≡ cond b ((p.0, for_option σ v) ∷ for_env σ env) ((p.0, for_option σ p.1) ∷ set_local x (for_option σ v) (for_env σ env))
    by true on = refl
    by false on = ap (λ e. (p.0, for_option σ p.1) ∷ e) on

pub bind_for : (σ : Standing) (x : Option Name) (v : Obj) (env : Env) → for_env σ (bind x v env) ≡ bind x (σ v) (for_env σ env)
bind_for σ None v env = refl
bind_for σ (Some x) v env = set_for σ x (Some v) env

-- ---- scopes

pub set_scoped : (n : ℕ) (x : Name) (v : Option Obj) (env : Env) → Scoped n (λ σ. for_option σ v) → EnvScoped n env → EnvScoped n (set_local x v env)
set_scoped n x v env sv se σ σ' same =
    set_for σ x v env
    ∙ (ap (λ w. set_local x w (for_env σ env)) (sv σ σ' same) ∙ (ap (λ e. set_local x (for_option σ' v) e) (se σ σ' same) ∙ sym (set_for σ' x v env)))

pub set_value_scoped : (n : ℕ) (x : Name) (v : Obj) (env : Env) → ObjScoped n v → EnvScoped n env → EnvScoped n (set_local x (Some v) env)
set_value_scoped n x v env sv se = set_scoped n x (Some v) env (λ σ σ' same. ap Some (sv σ σ' same)) se

pub unset_scoped : (n : ℕ) (x : Name) (env : Env) → EnvScoped n env → EnvScoped n (set_local x None env)
unset_scoped n x env se = set_scoped n x None env (λ σ σ' same. refl) se

pub bind_scoped : (n : ℕ) (x : Option Name) (v : Obj) (env : Env) → ObjScoped n v → EnvScoped n env → EnvScoped n (bind x v env)
bind_scoped n None v env sv se = se
bind_scoped n (Some x) v env sv se = set_value_scoped n x v env sv se

pub found_scoped : (n : ℕ) (x : Name) (v : Obj) (env : Env) → find_local x env ≡ Some (Some v) → EnvScoped n env → ObjScoped n v
found_scoped n x v env is se σ σ' same =
    let at : find_local x (for_env σ env) ≡ Some (Some (σ v)) = find_for σ x env ∙ ap (for_found σ) is in
    let at' : find_local x (for_env σ' env) ≡ Some (Some (σ' v)) = find_for σ' x env ∙ ap (for_found σ') is in
    let both : Some (Some (σ v)) ≡ Some (Some (σ' v)) = sym at ∙ (ap (find_local x) (se σ σ' same) ∙ at') in
    cc both
