-- Objects that name only such as are there: they stay so as they change, and what comes behind them changes none of it.
use Rattle.std.proofs.Common.{◌≡◌, ◌≤◌, ◌<◌, ◌+◌, ◌++◌, ◌∙◌, ℕ, zero, suc, Bool, true, false, Option, List, [], ◌∷◌, Some, None, refl, sym, ap, subst, length, set, cond, append_assoc, append-nil, length-append, arith}
use Rattle.std.specs.Prelude.{slice_get, bytes_eq}
use Rattle.std.specs.List.{position_or_len}
use Rattle.std.proofs.lemmas.List.{set-append_left}
use Rattle.std.proofs.lemmas.Option.{slice_get_within}
use Rattle.py_objects.specs.declared.payload.Payload.{Payload}
use Rattle.py_objects.specs.declared.payload.Payload.TheVariants as payload
use Rattle.py_objects.specs.declared.payload.ExceptionBody.{ExceptionBody}
use Rattle.py_objects.specs.declared.payload.TracebackBody.{TracebackBody}
use Rattle.py_objects.specs.declared.edit.Change.{Change}
use Rattle.py_objects.specs.declared.edit.Edit.{Edit}
use Rattle.py_objects.specs.declared.edit.Edit.TheVariants as edit
use Rattle.py_objects.specs.declared.edit.LinkField.{LinkField}
use Rattle.py_objects.specs.declared.edit.LinkField.TheVariants as link
use Rattle.py_objects.specs.Objects.{Obj, Name, payload_numbers, numbers_if, attr_numbers, pair_numbers, AllBelow}
use Rattle.py_objects.specs.Originals.{dict_numbers, DictsBelow, ChangesBelow}
use Rattle.py_objects.specs.Keys.{dropped_at, place_of_key, put_at}
use Rattle.py_objects.specs.Values.{same_key}
use Rattle.py_objects.specs.Pairs.{Pairs}
use Rattle.py_objects.specs.Attrs.{Attrs, inserted, without}
use Rattle.py_objects.specs.Edits.{edit_numbers}
use Rattle.py_objects.specs.Changes.{changed_by, edited, edited_entry, edited_exception, edited_pairs, edited_traceback, linked, led_on, with_edit}
use Rattle.py_objects.proofs.BelowLemmas.{dict_below, dict_numbers-payload, DictsBelow-with_edit}
use Rattle.py_objects.proofs.EditsLemmas.{length-with_edit}
use Rattle.py_objects.proofs.Slots.{slice_get-set_same, there}

-- each entry names objects that are there
abbrev pub IsClosed : List Payload → Type 0
IsClosed objects = (i : ℕ) (p : Payload) → slice_get objects i ≡ Some p → AllBelow (length objects) (payload_numbers p)

-- each names objects below a number
abbrev AllNamed : ℕ → List Payload → Type 0
AllNamed n [] = Unit {0}
AllNamed n (p ∷ ps) = AllBelow n (payload_numbers p) × AllNamed n ps

named_at : (n : ℕ) (ps : List Payload) (i : ℕ) (p : Payload) → AllNamed n ps → slice_get ps i ≡ Some p → AllBelow n (payload_numbers p)
named_at n [] i p all at = absurd (cc at)
named_at n (q ∷ ps) zero p all at = let same : q ≡ p = cc at in subst (λ (x : Payload). AllBelow n (payload_numbers x)) same all.0
named_at n (q ∷ ps) (suc i) p all at = named_at n ps i p all.1 at

all_named : (n : ℕ) (ps : List Payload) → ((i : ℕ) (p : Payload) → slice_get ps i ≡ Some p → AllBelow n (payload_numbers p)) → AllNamed n ps
all_named n [] each = tt
all_named n (p ∷ ps) each = (each 0 p refl, all_named n ps (λ i q at. each (suc i) q at))

named_set : (n : ℕ) (ps : List Payload) (i : ℕ) (p : Payload) → AllNamed n ps → AllBelow n (payload_numbers p) → AllNamed n (set ps i p)
named_set n [] i p all is = tt
named_set n (q ∷ ps) zero p all is = (is, all.1)
named_set n (q ∷ ps) (suc i) p all is = (all.0, named_set n ps i p all.1 is)

dicts_of : (n : ℕ) (ps : List Payload) → AllNamed n ps → DictsBelow n ps
dicts_of n [] all = tt
dicts_of n (p ∷ ps) all = (dict_numbers-payload n p all.0, dicts_of n ps all.1)

-- ---- numbers of two lists

pub below_front : (n : ℕ) (xs ys : List ℕ) → AllBelow n (xs ++ ys) → AllBelow n xs
below_front n [] ys below = tt
below_front n (x ∷ xs) ys below = (below.0, below_front n xs ys below.1)

pub below_back : (n : ℕ) (xs ys : List ℕ) → AllBelow n (xs ++ ys) → AllBelow n ys
below_back n [] ys below = below
below_back n (x ∷ xs) ys below = below_back n xs ys below.1

below_both : (n : ℕ) (xs ys : List ℕ) → AllBelow n xs → AllBelow n ys → AllBelow n (xs ++ ys)
below_both n [] ys first second = second
below_both n (x ∷ xs) ys first second = (first.0, below_both n xs ys first.1 second)

-- what an exception names, taken apart
pub record NamesBelow (n : ℕ) (e : ExceptionBody) : Type 0 where
  pub class : e.class.number < n
  pub args : e.args.number < n
  pub cause : AllBelow n (numbers_if e.cause)
  pub context : AllBelow n (numbers_if e.context)
  pub traceback : AllBelow n (numbers_if e.traceback)
  pub attrs : AllBelow n (attr_numbers e.attrs)

pub apart : (n : ℕ) (e : ExceptionBody) → AllBelow n (payload_numbers (payload.Exception e)) → NamesBelow n e
apart n e below =
    let links = below.1.1 in
    let contexts = below_back n (numbers_if e.cause) (numbers_if e.context ++ (numbers_if e.traceback ++ attr_numbers e.attrs)) links in
    let tracebacks = below_back n (numbers_if e.context) (numbers_if e.traceback ++ attr_numbers e.attrs) contexts in
    record {
      class = below.0;
      args = below.1.0;
      cause = below_front n (numbers_if e.cause) (numbers_if e.context ++ (numbers_if e.traceback ++ attr_numbers e.attrs)) links;
      context = below_front n (numbers_if e.context) (numbers_if e.traceback ++ attr_numbers e.attrs) contexts;
      traceback = below_front n (numbers_if e.traceback) (attr_numbers e.attrs) tracebacks;
      attrs = below_back n (numbers_if e.traceback) (attr_numbers e.attrs) tracebacks;
    }

together : (n : ℕ) (e : ExceptionBody) → NamesBelow n e → AllBelow n (payload_numbers (payload.Exception e))
together n e names =
    (names.class, (names.args, below_both n (numbers_if e.cause) _ names.cause (below_both n (numbers_if e.context) _ names.context (below_both n (numbers_if e.traceback) (attr_numbers e.attrs) names.traceback names.attrs))))

-- ---- edits

inserted_below : (n : ℕ) (x : Name) (v : Obj) (attrs : Attrs) → v.number < n → AllBelow n (attr_numbers attrs) → AllBelow n (attr_numbers (inserted x v attrs))
inserted_below n x v [] value below = (value, tt)
inserted_below n x v (a ∷ attrs) value below = by (bytes_eq x a.0) (inserted_below n x v attrs value below.1)
  where
    by : (b : Bool) → AllBelow n (attr_numbers (inserted x v attrs)) → AllBelow n (attr_numbers (cond b ((a.0, v) ∷ attrs) (a ∷ inserted x v attrs)))
    by true rest = (value, below.1)
    by false rest = (below.0, rest)

without_below : (n : ℕ) (x : Name) (attrs : Attrs) → AllBelow n (attr_numbers attrs) → AllBelow n (attr_numbers (without x attrs))
without_below n x [] below = tt
without_below n x (a ∷ attrs) below = by (bytes_eq x a.0) (without_below n x attrs below.1)
  where
    by : (b : Bool) → AllBelow n (attr_numbers (without x attrs)) → AllBelow n (attr_numbers (cond b attrs (a ∷ without x attrs)))
    by true rest = below.1
    by false rest = (below.0, rest)

linked_below : (n : ℕ) (field : LinkField) (v : Option Obj) (e : ExceptionBody) → AllBelow n (numbers_if v) → NamesBelow n e → NamesBelow n (linked field v e)
linked_below n link.Cause v e value names = record { class = names.class; args = names.args; cause = value; context = names.context; traceback = names.traceback; attrs = names.attrs }
linked_below n link.Context v e value names = record { class = names.class; args = names.args; cause = names.cause; context = value; traceback = names.traceback; attrs = names.attrs }
linked_below n link.Traceback v e value names = record { class = names.class; args = names.args; cause = names.cause; context = names.context; traceback = value; attrs = names.attrs }
linked_below n link.Next v e value names = names

exception_below : (n : ℕ) (x : Edit) (e : ExceptionBody) → AllBelow n (edit_numbers x) → NamesBelow n e → NamesBelow n (edited_exception x e)
exception_below n (edit.Link field v) e named names = linked_below n field v e named names
exception_below n (edit.Flag b) e named names = record { class = names.class; args = names.args; cause = names.cause; context = names.context; traceback = names.traceback; attrs = names.attrs }
exception_below n (edit.Args v) e named names = record { class = names.class; args = named.0; cause = names.cause; context = names.context; traceback = names.traceback; attrs = names.attrs }
exception_below n (edit.Attr x None) e named names =
    record { class = names.class; args = names.args; cause = names.cause; context = names.context; traceback = names.traceback; attrs = without_below n x e.attrs names.attrs }
exception_below n (edit.Attr x (Some v)) e named names =
    record { class = names.class; args = names.args; cause = names.cause; context = names.context; traceback = names.traceback; attrs = inserted_below n x v e.attrs named.0 names.attrs }
exception_below n _ e named names = names

traceback_below : (n : ℕ) (x : Edit) (t : TracebackBody) → AllBelow n (edit_numbers x) → AllBelow n (payload_numbers (payload.Traceback t)) → AllBelow n (payload_numbers (payload.Traceback (edited_traceback x t)))
traceback_below n (edit.Link link.Next v) t named below = below_both n (numbers_if v) (t.frame.number ∷ []) named (below_back n (numbers_if t.next) (t.frame.number ∷ []) below)
traceback_below n (edit.Link _ v) t named below = below
traceback_below n _ t named below = below

edit_named : (n : ℕ) (objects : List Payload) (o : Obj) (x : Edit) → AllNamed n objects → AllBelow n (edit_numbers x) → AllNamed n (with_edit objects o x)
edit_named n objects o x all named = by (slice_get objects o.number) refl
  where
    entry : (p : Payload) → slice_get objects o.number ≡ Some p → AllBelow n (payload_numbers p) → AllBelow n (payload_numbers (edited objects x p))
    entry (payload.Dict ps) at below =
        let dict : Payload = payload.Dict (edited_pairs objects x ps) in
        let here : slice_get (with_edit objects o x) o.number ≡ Some dict =
        ap (λ q. slice_get (edited_entry objects x o.number q) o.number) at ∙ slice_get-set_same objects o.number dict (slice_get_within objects o.number (payload.Dict ps) at) in
        dict_below n (with_edit objects o x) o.number dict (DictsBelow-with_edit n objects o x (dicts_of n objects all) named) here
    entry (payload.Exception e) at below = together n (edited_exception x e) (exception_below n x e named (apart n e below))
    entry (payload.Traceback t) at below = traceback_below n x t named below
    entry payload.None at below = below
    entry (payload.Bool b) at below = below
    entry (payload.Int i) at below = below
    entry (payload.Str s) at below = below
    entry (payload.Tuple vs) at below = below
    entry (payload.Class c) at below = below
    entry (payload.Function f) at below = below
    entry (payload.Builtin f) at below = below
    entry (payload.Code c) at below = below
    entry (payload.Manager m) at below = below
    entry (payload.Frame c) at below = below
    entry (payload.Generator g) at below = below

    by : (q : Option Payload) → slice_get objects o.number ≡ q → AllNamed n (edited_entry objects x o.number q)
    by None at = all
    by (Some p) at = named_set n objects o.number (edited objects x p) all (entry p at (named_at n objects o.number p all at))

changes_named : (n : ℕ) (objects : List Payload) (cs : List Change) → AllNamed n objects → ChangesBelow n cs → AllNamed n (changed_by objects cs)
changes_named n objects [] all below = all
changes_named n objects (c ∷ cs) all below = changes_named n (with_edit objects c.object c.edit) cs (edit_named n objects c.object c.edit all below.1) below.2

length_changed : (objects : List Payload) (cs : List Change) → length (changed_by objects cs) ≡ length objects
length_changed objects [] = refl
length_changed objects (c ∷ cs) = length_changed (with_edit objects c.object c.edit) cs ∙ length-with_edit objects c.object c.edit

-- objects that name only such as are there do so after changes that name only such, and are as many
pub changed_closed : (objects : List Payload) (cs : List Change) → IsClosed objects → ChangesBelow (length objects) cs → IsClosed (changed_by objects cs) × (length (changed_by objects cs) ≡ length objects)
changed_closed objects cs closed below =
    let long = length_changed objects cs in
    let all : AllNamed (length objects) (changed_by objects cs) = changes_named (length objects) objects cs (all_named (length objects) objects closed) below in
    ((λ i p at. subst (λ n. AllBelow n (payload_numbers p)) (sym long) (named_at (length objects) (changed_by objects cs) i p all at)), long)

-- ---- objects behind others

-- what is there in front of more is the same
pub front_same : {A : Type 0} (xs ys : List A) (i : ℕ) → i < length xs → slice_get (xs ++ ys) i ≡ slice_get xs i
front_same [] ys i within = absurd (omega (arith, within))
front_same (x ∷ xs) ys zero within = refl
front_same (x ∷ xs) ys (suc i) within = front_same xs ys i (omega (arith, within))

module _ (objects more : List Payload) where
  key_same : (k j : Obj) → k.number < length objects → j.number < length objects → same_key (objects ++ more) k j ≡ same_key objects k j
  key_same k j first second = rw (front_same objects more k.number first, front_same objects more j.number second)

  places_same : (k : Obj) (ps : Pairs) → k.number < length objects → AllBelow (length objects) (pair_numbers ps)
      → position_or_len (λ q. same_key (objects ++ more) k q.0) ps ≡ position_or_len (λ q. same_key objects k q.0) ps
  places_same k [] first below = refl
  places_same k (q ∷ ps) first below = rw (key_same k q.0 first below.0, places_same k ps first below.1.1)

  place_same : (k : Obj) (ps : Pairs) → k.number < length objects → AllBelow (length objects) (pair_numbers ps) → place_of_key (objects ++ more) k ps ≡ place_of_key objects k ps
  place_same k ps first below = rw (places_same k ps first below)

  pairs_same : (x : Edit) (ps : Pairs) → AllBelow (length objects) (edit_numbers x) → AllBelow (length objects) (pair_numbers ps) → edited_pairs (objects ++ more) x ps ≡ edited_pairs objects x ps
  pairs_same (edit.Put k v) ps named below = ap (λ place. put_at place k v ps) (place_same k ps named.0 below)
  pairs_same (edit.Drop k) ps named below = ap (λ place. dropped_at place ps) (place_same k ps named.0 below)
  pairs_same _ ps named below = refl

  edited_same : (x : Edit) (q : Payload) → AllBelow (length objects) (edit_numbers x) → AllBelow (length objects) (dict_numbers q) → edited (objects ++ more) x q ≡ edited objects x q
  edited_same x (payload.Dict ps) named below = ap payload.Dict (pairs_same x ps named below)
  edited_same x _ named below = refl

  edit_same : (o : Obj) (x : Edit) → o.number < length objects → AllBelow (length objects) (edit_numbers x) → DictsBelow (length objects) objects
      → with_edit (objects ++ more) o x ≡ with_edit objects o x ++ more
  edit_same o x within named below =
      let entry = there objects o.number within in
      ap (edited_entry (objects ++ more) x o.number) (front_same objects more o.number within ∙ entry.1)
      ∙ ap (set (objects ++ more) o.number) (edited_same x entry.0 named (dict_below _ objects o.number entry.0 below entry.1))
      ∙ set-append_left objects more o.number (edited objects x entry.0) within
      ∙ ap (λ l. edited_entry objects x o.number l ++ more) (sym entry.1)

more_by : (n : ℕ) (objects more : List Payload) (cs : List Change) → length objects ≡ n → DictsBelow n objects → ChangesBelow n cs → changed_by (objects ++ more) cs ≡ changed_by objects cs ++ more
more_by n objects more [] long dicts below = refl
more_by n objects more (c ∷ cs) long dicts below =
    let first = subst (λ (m : ℕ). c.object.number < m) (sym long) below.0 in
    let named = subst (λ (m : ℕ). AllBelow m (edit_numbers c.edit)) (sym long) below.1 in
    let fitting = subst (λ (m : ℕ). DictsBelow m objects) (sym long) dicts in
    ap (λ l. changed_by l cs) (edit_same objects more c.object c.edit first named fitting)
    ∙ more_by n (with_edit objects c.object c.edit) more cs (length-with_edit objects c.object c.edit ∙ long) (DictsBelow-with_edit n objects c.object c.edit dicts below.1) below.2

-- objects that come behind others stay as they are where these change
pub changed_more : (objects more : List Payload) (cs : List Change) → IsClosed objects → ChangesBelow (length objects) cs → changed_by (objects ++ more) cs ≡ changed_by objects cs ++ more
changed_more objects more cs closed below = more_by (length objects) objects more cs refl (dicts_of (length objects) objects (all_named (length objects) objects closed)) below
