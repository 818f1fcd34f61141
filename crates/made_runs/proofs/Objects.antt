-- The objects of the runs of made scripts: those that all runs share, which are what each run begins with, the
-- declarations and the values that groups name; then the numbers that functions may be called with; then the objects of
-- the groups, two for each, and last the frames of all activations.
use Rattle.std.proofs.Common.{◌≡◌, ◌+◌, ◌-◌, ◌<◌, ◌≤◌, ◌++◌, ℕ, zero, suc, List, [], ◌∷◌, Bool, true, false, ◌&&◌}
use Rattle.std.proofs.Common.{Some, None, length, take, refl, sym, ap, ◌∙◌, inl, inr, arith, eqb, ne_eqb}
use Rattle.std.specs.Prelude.{codes, pos, slice_get, nat_lt}
use Rattle.std.specs.List.{list_all}
use Rattle.std.proofs.lemmas.Bool.{and_parts, ltb-true}
use Rattle.std.proofs.lemmas.List.Sorted.{IsPermutation-refl}
use Rattle.std.proofs.lemmas.Option.{none-some, same_Some}
use Rattle.py_objects.specs.declared.payload.Payload.{Payload}
use Rattle.py_objects.specs.declared.payload.Payload.TheVariants as payload
use Rattle.py_objects.specs.declared.payload.ClassBody.{ClassBody}
use Rattle.py_objects.specs.declared.payload.FunctionBody.{FunctionBody}
use Rattle.py_objects.specs.declared.error_kind.ErrorKind.TheVariants.{Exception}
use Rattle.py_objects.specs.declared.event.Event.{Event}
use Rattle.py_objects.specs.ErrorKinds.{name_of}
use Rattle.py_objects.specs.Objects.{Obj, Name, HasPayload, class_object, declares, is_name, declared as declared_in}
use Rattle.py_objects.specs.Objects.{payload_numbers, event_numbers, AllBelow, IsMade, AllFit, IsNew}
use Rattle.py_objects.proofs.GrowthLemmas.{below_more, length_grown, made_grown, slice_get_split}
use Rattle.py_objects.proofs.NewLemmas.{not_among}
use Rattle.py_exceptions.specs.Classes.{class_of, mro_of, first_classes}
use Rattle.py_tree.specs.declared.body.BodyKind.TheVariants as body
use Rattle.py_tree.specs.declared.expr.Atom.TheVariants as atom
use Rattle.py_tree.specs.Tree.{Tree, Leaf, Show, nothing, first}
use Rattle.py_grammar.specs.Grammar.{Decl, ClassDecl, ManagerDecl, FunctionDecl, Coded, OfBody, codes_in}
use Rattle.py_make.proofs.ScriptLemmas.{work_suite, count_suite}
use Rattle.py_run.specs.First.{first_objects}
use Rattle.py_run.proofs.FirstLemmas.{first_fit}
use Rattle.py_meaning.specs.Whole.{AreGlobals, AreObjects}
use Rattle.py_meaning.proofs.Behind.{declares_it, none_declared}
use Rattle.py_meaning.proofs.Entries.{objects_more, one_declared}
use Rattle.made_runs.proofs.Lists.{Each, each_at, each_both, each_so}
use Rattle.made_runs.proofs.Blocks.{Names}

-- the object with a number
abbrev pub obj : ℕ → Obj
obj n = record { number = n }

-- ---- how many there are

-- so many objects are shared by all runs: they have the numbers 0 to 89
abbrev pub shared_count : ℕ
shared_count = 90

-- so many numbers come behind these: the ones that a group may call its function with
abbrev pub number_count : ℕ
number_count = 1000

-- the number of the first object of the first group, which comes behind both
abbrev pub first_of_groups : ℕ
first_of_groups = shared_count + number_count

-- ---- what is declared

-- a function that shows a text, by a statement of this line
abbrev shows : (name : List ℕ) → (params : List (List ℕ)) → (line : ℕ) → (text : List ℕ) → Tree
shows name params line text = record {
  kind = body.Function;
  name = name;
  params = params;
  suite = first (suc line) (Show (Leaf (atom.Str text))) nothing;
  line = line;
}

-- what the manager is entered by
abbrev pub enter_tree : Tree
enter_tree = shows (codes "enter") [] 2 (codes "open")

-- what it is left by
abbrev pub exit_tree : Tree
exit_tree = shows (codes "exit") (codes "t" ∷ codes "v" ∷ codes "b" ∷ []) 5 (codes "close")

-- the function that raises where its number is below 500
abbrev pub work_tree : Tree
work_tree = record { kind = body.Function; name = codes "work"; params = codes "a" ∷ []; suite = work_suite; line = 9 }

-- the function of generators
abbrev pub count_tree : Tree
count_tree = record {
  kind = body.Generator;
  name = codes "count";
  params = codes "n" ∷ [];
  suite = count_suite;
  line = 22;
}

-- what the codes are of, in order: the bodies of the functions
abbrev pub coded : List Coded
coded = OfBody enter_tree ∷ OfBody exit_tree ∷ OfBody work_tree ∷ OfBody count_tree ∷ []

-- the class of the exception that work raises
abbrev fault : Decl
fault = ClassDecl (codes "Fault") (codes "Exception")

-- the manager
abbrev scope : Decl
scope = ManagerDecl (codes "scope") (codes "enter") (codes "exit")

-- all declarations, in order
abbrev pub decls : List Decl
decls =
    fault ∷ FunctionDecl enter_tree ∷ FunctionDecl exit_tree ∷ scope
    ∷ FunctionDecl work_tree ∷ FunctionDecl count_tree ∷ []

-- ---- the objects that all runs share

-- the class that Fault derives from
abbrev base_class : Obj
base_class = class_object (class_of first_classes Exception)

-- this class
abbrev above : ClassBody
above = record { name = name_of Exception; mro = mro_of first_classes Exception }

-- the class Fault
abbrev pub fault_body : ClassBody
fault_body = record { name = codes "Fault"; mro = base_class ∷ above.mro }

-- a function, by its name and the place of its code among the codes
abbrev function : (name : List ℕ) → (place : ℕ) → FunctionBody
function name place = record { name = name; code = place }

-- the function that the manager is entered by
abbrev pub enter_function : FunctionBody
enter_function = function (codes "enter") 0

-- the one that it is left by
abbrev pub exit_function : FunctionBody
exit_function = function (codes "exit") 1

-- the function work
abbrev pub work_function : FunctionBody
work_function = function (codes "work") 2

-- the function count
abbrev pub count_function : FunctionBody
count_function = function (codes "count") 3

-- the manager, by the numbers of its functions
abbrev manager_entry : Payload
manager_entry = payload.Manager (record { name = codes "scope"; enter = obj 72; exit = obj 73 })

-- the declarations, which have the numbers 71 to 76, in order
abbrev declared : List Payload
declared =
    payload.Class fault_body ∷ payload.Function enter_function ∷ payload.Function exit_function ∷ manager_entry
    ∷ payload.Function work_function ∷ payload.Function count_function ∷ []

-- what the dict of the globals holds: the names of the declarations, and these
abbrev pairs : List (Obj × Obj)
pairs =
    (obj 77, obj 71) ∷ (obj 78, obj 72) ∷ (obj 79, obj 73)
    ∷ (obj 80, obj 74) ∷ (obj 81, obj 75) ∷ (obj 82, obj 76) ∷ []

-- the names of the declarations, which have the numbers 77 to 82
abbrev name_texts : List Payload
name_texts =
    payload.Str (codes "Fault") ∷ payload.Str (codes "enter") ∷ payload.Str (codes "exit")
    ∷ payload.Str (codes "scope") ∷ payload.Str (codes "work") ∷ payload.Str (codes "count") ∷ []

-- these, and behind them, from 83 on, the dict of the globals, two texts, three numbers and an empty tuple
abbrev values : List Payload
values =
    name_texts
    ++ payload.Dict pairs ∷ payload.Str (codes "open") ∷ payload.Str (codes "close")
    ∷ payload.Int (pos 500) ∷ payload.Int (pos 0) ∷ payload.Int (pos 1)
    ∷ payload.Tuple [] ∷ []

-- what all runs share
abbrev pub base : List Payload
base = first_objects ++ (declared ++ values)

-- this, and more behind it
abbrev pub store : List Payload → List Payload
store more = base ++ more

-- False
abbrev pub false_object : Obj
false_object = obj 1

-- True
abbrev pub true_object : Obj
true_object = obj 2

-- the class Fault
abbrev pub fault_object : Obj
fault_object = obj 71

-- the function that the manager is entered by
abbrev pub enter_object : Obj
enter_object = obj 72

-- the one that it is left by
abbrev pub exit_object : Obj
exit_object = obj 73

-- the manager
abbrev pub scope_object : Obj
scope_object = obj 74

-- the function work
abbrev pub work_object : Obj
work_object = obj 75

-- the function count
abbrev pub count_object : Obj
count_object = obj 76

-- the dict of the globals
abbrev pub globals_object : Obj
globals_object = obj 83

-- the text that an entry of the manager shows
abbrev pub open_object : Obj
open_object = obj 84

-- the text that an exit shows
abbrev pub close_object : Obj
close_object = obj 85

-- 500, below which work raises
abbrev pub limit_object : Obj
limit_object = obj 86

-- 0, which count yields
abbrev pub zero_object : Obj
zero_object = obj 87

-- 1, which it adds
abbrev pub one_object : Obj
one_object = obj 88

-- the empty tuple, for no arguments
abbrev pub empty_object : Obj
empty_object = obj 89

-- a truth value
abbrev pub truth_object : Bool → Obj
truth_object true = true_object
truth_object false = false_object

-- it is there
pub truth_there : (more : List Payload) (b : Bool) → HasPayload (store more) (truth_object b) (payload.Bool b)
truth_there more true = refl
truth_there more false = refl

-- ---- they are the script's

-- a script's objects stay so with entries behind them that declare nothing
objects_behind : (ds : List Decl) (objects rest all : List Payload) → all ≡ objects ++ rest → AreObjects ds objects
    → Each (λ (p : Payload). declares p ≡ None) rest → AllFit all → AreObjects ds all
objects_behind ds objects rest all is are plain fit = objects_more ds objects all (rest, is) are before fit
  where
    there : (v : Obj) (p : Payload) → HasPayload all v p → HasPayload (objects ++ rest) v p
    there v p has = ap (λ (os : List Payload). slice_get os v.number) (sym is) ∙ has

    before : (v : Obj) (p : Payload) (x : Name) → declares p ≡ Some x → HasPayload all v p → HasPayload objects v p
    before v p x says has = elim (slice_get_split objects rest v.number p (there v p has)) [
      | inl old ↦ old
      | inr new ↦
          let nothing_said : declares p ≡ None = each_at (λ (q : Payload). declares q ≡ None) rest plain _ p new in
          absurd (none-some x (sym nothing_said ∙ says))
    ]

-- the objects up to those of the first k declarations
abbrev objects_of : ℕ → List Payload
objects_of k = first_objects ++ take k declared

-- the first k declarations have them
abbrev HaveObjects : ℕ → Type 0
HaveObjects k = AreObjects (take k decls) (objects_of k)

-- the entry of a function that is declared behind these
abbrev entry_behind : List Decl → Tree → Payload
entry_behind ds t = payload.Function (function t.name (length (codes_in ds)))

-- such a function has its object
function_there : (ds : List Decl) (objects : List Payload) (t : Tree) → AreObjects ds objects
    → declared_in objects t.name ≡ None → AreObjects (ds ++ FunctionDecl t ∷ []) (objects ++ entry_behind ds t ∷ [])
function_there ds objects t are new =
    one_declared ds objects (FunctionDecl t) (entry_behind ds t) are new tt refl

-- the class has its object
class_there : HaveObjects 1
class_there =
    one_declared [] first_objects fault (payload.Class fault_body) none_declared refl
    (base_class, refl, (above, refl)) (base_class, above, refl, refl, refl)

-- so have the functions of the manager, behind it
exit_there : HaveObjects 3
exit_there =
    function_there (take 2 decls) (objects_of 2) exit_tree
    (function_there (take 1 decls) (objects_of 1) enter_tree class_there refl) refl

-- the manager
manager_there : HaveObjects 4
manager_there =
    one_declared (take 3 decls) (objects_of 3) scope manager_entry exit_there refl
    (obj 72, refl, (_, refl), (obj 73, refl, (_, refl)))
    (obj 72, obj 73, refl, refl, refl)

-- and the two functions that drives call
all_there : HaveObjects 6
all_there =
    function_there (take 5 decls) (objects_of 5) count_tree
    (function_there (take 4 decls) (objects_of 4) work_tree manager_there refl) refl

-- ---- they fit

-- AllBelow as a test
abbrev are_below : ℕ → List ℕ → Bool
are_below n [] = true
are_below n (m ∷ ms) = nat_lt m n && are_below n ms

-- numbers that pass it are below n
all_below : (n : ℕ) (ms : List ℕ) → are_below n ms ≡ true → AllBelow n ms
all_below n [] h = tt
all_below n (m ∷ ms) h = let (low, lower) = and_parts (nat_lt m n) _ h in (ltb-true m n low, all_below n ms lower)

-- an entry names objects that are there, of the kinds that it needs
abbrev pub FitsIn : List Payload → Payload → Type 0
FitsIn objects p = AllBelow (length objects) (payload_numbers p) × IsMade objects p

-- it does so still where more are there
fits_more : (objects rest : List Payload) (p : Payload) → FitsIn objects p → FitsIn (objects ++ rest) p
fits_more objects rest p fits =
    let more : length objects ≤ length (objects ++ rest) = length_grown objects (objects ++ rest) (rest, refl) in (
      below_more (length objects) (length (objects ++ rest)) (payload_numbers p) more fits.0,
      made_grown objects (objects ++ rest) p (rest, refl) fits.1,
    )

-- entries fit, where those behind fit among all
fit_behind : (objects rest : List Payload) → AllFit objects → Each (FitsIn (objects ++ rest)) rest → AllFit (objects ++ rest)
fit_behind objects rest fit behind i p here = elim (slice_get_split objects rest i p here) [
  | inl front ↦ fits_more objects rest p (fit i p front)
  | inr back ↦ each_at (FitsIn (objects ++ rest)) rest behind (i - length objects) p back
]

-- each of some entries fits, where it names numbers of objects that all runs share, of the kinds that it needs
each_fits : (own : List Payload)
    → list_all (λ (p : Payload). are_below (length base) (payload_numbers p)) own ≡ true
    → Each (IsMade base) own → Each (FitsIn base) own
each_fits [] below made = tt
each_fits (p ∷ own) below made =
    let (low, lower) = and_parts (are_below (length base) (payload_numbers p)) _ below in
    ((all_below (length base) (payload_numbers p) low, made.0), each_fits own lower made.1)

-- the class names classes, and the manager functions
declared_made : Each (IsMade base) declared
declared_made = (((_, refl), ((_, refl), tt)), (tt, (tt, (((_, refl), (_, refl)), (tt, (tt, tt))))))

-- the values need no kinds of objects
values_made : Each (IsMade base) values
values_made = (tt, (tt, (tt, (tt, (tt, (tt, (tt, (tt, (tt, (tt, (tt, (tt, (tt, tt)))))))))))))

-- each of them fits
own_fits : Each (FitsIn base) (declared ++ values)
own_fits = each_fits (declared ++ values) refl (each_both (IsMade base) declared values declared_made values_made)

-- so all that runs share fits
base_fits : AllFit base
base_fits i p here = elim (slice_get_split first_objects (declared ++ values) i p here) [
  | inl front ↦ fits_more first_objects (declared ++ values) p (first_fit i p front)
  | inr back ↦ each_at (FitsIn base) (declared ++ values) own_fits (i - length first_objects) p back
]

-- ---- with more behind them

-- what may come behind them declares nothing, and fits among these objects
abbrev pub IsMore : List Payload → Payload → Type 0
IsMore objects p = (declares p ≡ None) × FitsIn objects p

-- then all objects fit
pub store_fits : (more : List Payload) → Each (IsMore (store more)) more → AllFit (store more)
store_fits more are = fit_behind base more base_fits (each_so (IsMore (store more)) (FitsIn (store more)) (λ p is. is.1) more are)

-- the values declare nothing
values_plain : Each (λ (p : Payload). declares p ≡ None) values
values_plain =
    (refl, (refl, (refl, (refl, (refl, (refl, (refl, (refl, (refl, (refl, (refl, (refl, (refl, tt)))))))))))))

-- so all objects are those of the declarations
pub are_objects : (more : List Payload) → Each (IsMore (store more)) more → AreObjects decls (store more)
are_objects more are =
    let IsPlain : Payload → Type 0 = λ p. declares p ≡ None in
    let more_plain : Each IsPlain more = each_so (IsMore (store more)) IsPlain (λ p is. is.0) more are in
    objects_behind decls (objects_of 6) (values ++ more) (store more) refl all_there
    (each_both IsPlain values more values_plain more_plain) (store_fits more are)

-- the globals are the declarations
pub are_globals : (more : List Payload) → AreGlobals decls (store more) globals_object
are_globals more = record {
  pairs = pairs;
  dict = refl;
  bindings = pairs;
  bind = ((refl, refl), ((refl, refl), ((refl, refl), ((refl, refl), ((refl, refl), ((refl, refl), tt))))));
  same = IsPermutation-refl pairs;
}

-- ---- the numbers

-- k numbers from n on
unfoldable pub numbers_from : ℕ → ℕ → List Payload
numbers_from zero n = []
numbers_from (suc k) n = payload.Int (pos n) ∷ numbers_from k (suc n)

-- the i-th of them is n + i
pub numbers_at : (k n i : ℕ) → i < k → slice_get (numbers_from k n) i ≡ Some (payload.Int (pos (n + i)))
unfolding numbers_from
numbers_at zero n i low = absurd (omega arith)
numbers_at (suc k) n zero low =
    ap (λ (m : ℕ). Some (payload.Int (pos m))) (let same : n ≡ n + 0 = omega arith in same)
numbers_at (suc k) n (suc i) low =
    numbers_at k (suc n) i (omega arith)
    ∙ ap (λ (m : ℕ). Some (payload.Int (pos m))) (let same : suc n + i ≡ n + suc i = omega arith in same)

-- there are k
pub numbers_length : (k n : ℕ) → length (numbers_from k n) ≡ k
unfolding numbers_from
numbers_length zero n = refl
numbers_length (suc k) n = ap suc (numbers_length k (suc n))

-- numbers may come behind what all runs share
pub numbers_more : (objects : List Payload) (k n : ℕ) → Each (IsMore objects) (numbers_from k n)
unfolding numbers_from
numbers_more objects zero n = tt
numbers_more objects (suc k) n = ((refl, (tt, tt)), numbers_more objects k (suc n))

-- ---- new objects

-- an entry that declares nothing is declared under no name
undeclared : (objects : List Payload) (n : ℕ) (p : Payload) → slice_get objects n ≡ Some p → declares p ≡ None
    → (x : Name) (v : Obj) → declared_in objects x ≡ Some v → eqb n v.number ≡ false
undeclared objects n p here plain x v e =
    let (k, q, number, there, hit) = declares_it 0 objects x v e in
    ne_eqb n v.number (λ same.
    let at : n ≡ k = omega (arith, same, number) in
    let one : p ≡ q = same_Some p q (sym here ∙ ap (slice_get objects) at ∙ there) in
    let missed : is_name x (declares q) ≡ false =
    ap (λ (r : Payload). is_name x (declares r)) (sym one) ∙ ap (is_name x) plain in
    let clash : true ≡ false = sym hit ∙ missed in
    cc clash)

-- such an entry is new, where the events before name only lower numbers
pub is_new : (objects : List Payload) (before : List Event) (n : ℕ) (p : Payload) → slice_get objects n ≡ Some p
    → declares p ≡ None → Names n before → IsNew objects before n
is_new objects before n p here plain below = record {
  unnamed = λ i e at.
      let lower : AllBelow n (event_numbers e) =
      each_at (λ (x : Event). AllBelow n (event_numbers x)) before below i e at in
      not_among n n (event_numbers e) lower (omega arith);
  undeclared = undeclared objects n p here plain;
}
