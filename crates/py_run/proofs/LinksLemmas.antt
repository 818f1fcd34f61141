-- The links that come of events: of events one after another, and as more objects and more changes come.
use Rattle.std.proofs.Common.{◌≡◌, ◌<◌, ◌++◌, ◌∙◌, ◌⊎◌, ℕ, zero, suc, List, [], ◌∷◌, Bool, true, false, Some, inl, inr, refl, sym, ap, subst, length, append_assoc, append-nil}
use Rattle.std.specs.Prelude.{Option, None, option_map, slice_get, filter, ◌==◌, ◌&&◌, nat_le}
use Rattle.std.proofs.lemmas.Bool.{cases_eq}
use Rattle.std.proofs.lemmas.Option.{same_Some, slice_get_within}
use Rattle.py_objects.specs.declared.payload.Payload.{Payload}
use Rattle.py_objects.specs.declared.payload.Payload.TheVariants as payload
use Rattle.py_objects.specs.declared.payload.ExceptionBody.{ExceptionBody}
use Rattle.py_objects.specs.declared.edit.Edit.{Edit}
use Rattle.py_objects.specs.declared.edit.Edit.TheVariants as edit
use Rattle.py_objects.specs.declared.edit.LinkField.TheVariants as link
use Rattle.py_objects.specs.declared.edit.Change.{Change}
use Rattle.py_objects.specs.declared.event.Event.{Event}
use Rattle.py_objects.specs.Objects.{Obj, AllBelow, AllFit, attr_numbers, numbers_if, payload_numbers}
use Rattle.py_objects.specs.Edits.{edit_numbers}
use Rattle.py_objects.specs.Originals.{ChangesBelow}
use Rattle.py_objects.specs.Changes.{changed_by, edited, edited_entry, edited_exception, store_at, with_edit}
use Rattle.py_objects.proofs.Slots.{slice_get-set_same, slice_get-set_other, there}
use Rattle.py_objects.proofs.GrowthLemmas.{slice_get_grown}
use Rattle.py_exceptions.specs.Walks.{link_at, link_in, on_link, led, IsFirstTo}
use Rattle.py_run.specs.Run.{State, after, state_after}
use Rattle.py_run.proofs.FirstLemmas.{below_behind}
use Rattle.py_run.specs.Links.{Lines, LinksCome, MayUnder, ObjectEdit, is_link, links_at, noted}

-- ---- events one after another

pub links_join : (may : MayUnder) (lines : Lines) (made : List Payload) (changes : List Change) (before : List Event) (s : State) (es fs : List Event)
    → LinksCome may lines made changes before s es → LinksCome may lines made changes (before ++ es) (state_after s es) fs → LinksCome may lines made changes before s (es ++ fs)
links_join may lines made changes before s [] fs first second = subst (λ l. LinksCome may lines made changes l s fs) (append-nil before) second
links_join may lines made changes before s (e ∷ es) fs (tells, has, first) second =
    (tells, has, links_join may lines made changes (before ++ e ∷ []) (after s e) es fs first (subst (λ l. LinksCome may lines made changes l (state_after (after s e) es) fs) (sym (append_assoc before (e ∷ []) es)) second))

-- the links of later events come behind earlier ones
pub links_rest : (may : MayUnder) (lines : Lines) (made : List Payload) (changes : List Change) (before : List Event) (s : State) (es fs : List Event)
    → LinksCome may lines made changes before s (es ++ fs) → LinksCome may lines made changes (before ++ es) (state_after s es) fs
links_rest may lines made changes before s [] fs come = subst (λ l. LinksCome may lines made changes l s fs) (sym (append-nil before)) come
links_rest may lines made changes before s (e ∷ es) fs (tells, has, come) =
    subst (λ l. LinksCome may lines made changes l (state_after (after s e) es) fs) (append_assoc before (e ∷ []) es) (links_rest may lines made changes (before ++ e ∷ []) (after s e) es fs come)

-- ---- the links of an object, by its own entry and its own changes

-- the context and the traceback of an exception
abbrev pub Seen : Type 0
Seen = Option Obj × Option Obj

-- what is seen of an entry: its links, if it is an exception
abbrev pub seen_of : Option Payload → Option Seen
seen_of None = None
seen_of (Some (payload.Exception e)) = Some (e.context, e.traceback)
seen_of (Some _) = None

-- what an edit makes of them
abbrev pub links_behind : Edit → Seen → Seen
links_behind (edit.Link link.Context v) w = (v, w.1)
links_behind (edit.Link link.Traceback v) w = (w.0, v)
links_behind _ w = w

exception_behind : (x : Edit) (e : ExceptionBody) → seen_of (Some (payload.Exception (edited_exception x e))) ≡ Some (links_behind x (e.context, e.traceback))
exception_behind (edit.Link link.Cause v) e = refl
exception_behind (edit.Link link.Context v) e = refl
exception_behind (edit.Link link.Traceback v) e = refl
exception_behind (edit.Link link.Next v) e = refl
exception_behind _ e = refl

entry_behind : (objects : List Payload) (x : Edit) (p : Payload) → seen_of (Some (edited objects x p)) ≡ option_map (links_behind x) (seen_of (Some p))
entry_behind objects x (payload.Exception e) = exception_behind x e
entry_behind objects x _ = refl

module _ (objects : List Payload) (o : Obj) (x : Edit) where
  -- the object that is edited
  pub seen_edited : seen_of (slice_get (with_edit objects o x) o.number) ≡ option_map (links_behind x) (seen_of (slice_get objects o.number))
  seen_edited = by (slice_get objects o.number) refl
    where
      by : (p : Option Payload) → slice_get objects o.number ≡ p → seen_of (slice_get (edited_entry objects x o.number p) o.number) ≡ option_map (links_behind x) (seen_of p)
      by None is = ap seen_of is
      by (Some p) is = ap seen_of (slice_get-set_same objects o.number (edited objects x p) (slice_get_within objects o.number p is)) ∙ entry_behind objects x p

  -- and another one
  pub seen_other : (i : ℕ) → (o.number ≡ i → ⊥) → slice_get (with_edit objects o x) i ≡ slice_get objects i
  seen_other i apart = by (slice_get objects o.number)
    where
      by : (p : Option Payload) → slice_get (edited_entry objects x o.number p) i ≡ slice_get objects i
      by None = refl
      by (Some p) = slice_get-set_other objects o.number i (edited objects x p) apart

-- what is seen alike stays so by the same changes
seen_alike : (xs ys : List Payload) (cs : List Change) (i : ℕ) → seen_of (slice_get xs i) ≡ seen_of (slice_get ys i) → seen_of (slice_get (changed_by xs cs) i) ≡ seen_of (slice_get (changed_by ys cs) i)
seen_alike xs ys [] i alike = alike
seen_alike xs ys (c ∷ cs) i alike = seen_alike (with_edit xs c.object c.edit) (with_edit ys c.object c.edit) cs i (by (cases_eq c.object.number i))
  where
    by : (c.object.number ≡ i) ⊎ (c.object.number ≡ i → ⊥) → seen_of (slice_get (with_edit xs c.object c.edit) i) ≡ seen_of (slice_get (with_edit ys c.object c.edit) i)
    by (inl same) =
        let read : List Payload → Type 0 = λ l. seen_of (slice_get (with_edit l c.object c.edit) i) ≡ option_map (links_behind c.edit) (seen_of (slice_get l i)) in
        let left : read xs = subst (λ n. seen_of (slice_get (with_edit xs c.object c.edit) n) ≡ option_map (links_behind c.edit) (seen_of (slice_get xs n))) same (seen_edited xs c.object c.edit) in
        let right : read ys = subst (λ n. seen_of (slice_get (with_edit ys c.object c.edit) n) ≡ option_map (links_behind c.edit) (seen_of (slice_get ys n))) same (seen_edited ys c.object c.edit) in
        left ∙ ap (option_map (links_behind c.edit)) alike ∙ sym right
    by (inr apart) = ap seen_of (seen_other xs c.object c.edit i apart) ∙ alike ∙ sym (ap seen_of (seen_other ys c.object c.edit i apart))

-- the links of an object are read off what is seen of it
abbrev context_in : Option Seen → Option Obj
context_in None = None
context_in (Some w) = w.0

abbrev pub traceback_in : Option Seen → Option Obj
traceback_in None = None
traceback_in (Some w) = w.1

context_seen : (p : Option Payload) → link_in link.Context p ≡ context_in (seen_of p)
context_seen None = refl
context_seen (Some (payload.Exception e)) = refl
context_seen (Some _) = refl

pub traceback_seen : (p : Option Payload) → link_in link.Traceback p ≡ traceback_in (seen_of p)
traceback_seen None = refl
traceback_seen (Some (payload.Exception e)) = refl
traceback_seen (Some _) = refl

-- so they are the same where there are more objects
seen_grown : (made more : List Payload) (cs : List Change) (v : Obj) → v.number < length made
    → seen_of (slice_get (changed_by (made ++ more) cs) v.number) ≡ seen_of (slice_get (changed_by made cs) v.number)
seen_grown made more cs v within = seen_alike (made ++ more) made cs v.number (ap seen_of (entry_kept (there made v.number within)))
  where
    entry_kept : (p : Payload) × (slice_get made v.number ≡ Some p) → slice_get (made ++ more) v.number ≡ slice_get made v.number
    entry_kept (p, is) = slice_get_grown made more v.number p is ∙ sym is

pub context_grown : (made more : List Payload) (cs : List Change) (v : Obj) → v.number < length made → link_at link.Context (changed_by (made ++ more) cs) v ≡ link_at link.Context (changed_by made cs) v
context_grown made more cs v within =
    context_seen (slice_get (changed_by (made ++ more) cs) v.number) ∙ ap context_in (seen_grown made more cs v within) ∙ sym (context_seen (slice_get (changed_by made cs) v.number))

pub traceback_grown : (made more : List Payload) (cs : List Change) (v : Obj) → v.number < length made
    → link_at link.Traceback (changed_by (made ++ more) cs) v ≡ link_at link.Traceback (changed_by made cs) v
traceback_grown made more cs v within =
    traceback_seen (slice_get (changed_by (made ++ more) cs) v.number) ∙ ap traceback_in (seen_grown made more cs v within) ∙ sym (traceback_seen (slice_get (changed_by made cs) v.number))

-- ---- walks among more objects

-- each link of an object below a number leads to one
abbrev pub StaysBelow : ℕ → (Obj → Option Obj) → Type 0
StaysBelow n step = (v w : Obj) → v.number < n → step v ≡ Some w → w.number < n

-- what a step comes to is below it
abbrev pub IsBelow : ℕ → Option Obj → Type 0
IsBelow n None = Unit {0}
IsBelow n (Some v) = v.number < n

module _ (n : ℕ) (step step' : Obj → Option Obj) (same : (v : Obj) → v.number < n → step' v ≡ step v) (stays : StaysBelow n step) (from : Obj) (within : from.number < n) where
  led_below : (i : ℕ) → IsBelow n (led step i from)
  led_below zero = within
  led_below (suc i) = by (led step i from) (led_below i)
    where
      by_next : (v : Obj) (r : Option Obj) → v.number < n → step v ≡ r → IsBelow n r
      by_next v None low is = tt
      by_next v (Some w) low is = stays v w low is

      by : (r : Option Obj) → IsBelow n r → IsBelow n (on_link step r)
      by None below = tt
      by (Some v) below = by_next v (step v) below refl

  led_same : (i : ℕ) → led step' i from ≡ led step i from
  led_same zero = refl
  led_same (suc i) = ap (on_link step') (led_same i) ∙ by (led step i from) (led_below i)
    where
      by : (r : Option Obj) → IsBelow n r → on_link step' r ≡ on_link step r
      by None below = refl
      by (Some v) below = same v below

  pub first_same : (to : Obj) (found : Option Obj) → IsFirstTo step from to found → IsFirstTo step' from to found
  first_same to None none = λ i is. none i (sym (led_same (suc i)) ∙ is)
  first_same to (Some x) (i, here, on, none) =
      (i, led_same i ∙ here, same x (subst (IsBelow n) here (led_below i)) ∙ on, λ j lt is. none j lt (sym (led_same (suc j)) ∙ is))

-- ---- contexts of objects that are there

-- an edit of a link leads to an object below a number
abbrev pub EditBelow : ℕ → Edit → Type 0
EditBelow n x = is_link x ≡ true → AllBelow n (edit_numbers x)

behind_below : (n : ℕ) (x : Edit) (u : Seen) (w : Obj) → EditBelow n x → IsBelow n u.0 → (links_behind x u).0 ≡ Some w → w.number < n
behind_below n (edit.Link link.Context None) u w named below is = absurd (cc is)
behind_below n (edit.Link link.Context (Some v)) u w named below is = subst (λ (y : Obj). y.number < n) (same_Some v w is) (named refl).0
behind_below n (edit.Link link.Cause v) u w named below is = subst (IsBelow n) is below
behind_below n (edit.Link link.Traceback v) u w named below is = subst (IsBelow n) is below
behind_below n (edit.Link link.Next v) u w named below is = subst (IsBelow n) is below
behind_below n (edit.Flag b) u w named below is = subst (IsBelow n) is below
behind_below n _ u w named below is = subst (IsBelow n) is below

-- the context that is seen of an entry leads to one
abbrev pub SeenBelow : ℕ → Option Seen → Type 0
SeenBelow n None = Unit {0}
SeenBelow n (Some u) = IsBelow n u.0

abbrev pub AllSeenBelow : ℕ → List Payload → Type 0
AllSeenBelow n objects = (i : ℕ) → SeenBelow n (seen_of (slice_get objects i))

seen_behind : (n : ℕ) (x : Edit) (s : Option Seen) → EditBelow n x → SeenBelow n s → SeenBelow n (option_map (links_behind x) s)
seen_behind n x None named below = tt
seen_behind n x (Some u) named below = by (links_behind x u).0 refl
  where
    by : (r : Option Obj) → (links_behind x u).0 ≡ r → IsBelow n r
    by None is = tt
    by (Some w) is = behind_below n x u w named below is

edit_below : (n : ℕ) (objects : List Payload) (o : Obj) (x : Edit) → EditBelow n x → AllSeenBelow n objects → AllSeenBelow n (with_edit objects o x)
edit_below n objects o x named below i = by (cases_eq o.number i)
  where
    by : (o.number ≡ i) ⊎ (o.number ≡ i → ⊥) → SeenBelow n (seen_of (slice_get (with_edit objects o x) i))
    by (inl same) = subst (λ j. SeenBelow n (seen_of (slice_get (with_edit objects o x) j))) same (subst (SeenBelow n) (sym (seen_edited objects o x)) (seen_behind n x (seen_of (slice_get objects o.number)) named (below o.number)))
    by (inr apart) = subst (λ p. SeenBelow n (seen_of p)) (sym (seen_other objects o x i apart)) (below i)

-- a change of a link is of an object below a number, and leads to one
abbrev pub LinkBelow : ℕ → Change → Type 0
LinkBelow n c = is_link c.edit ≡ true → (c.object.number < n) × AllBelow n (edit_numbers c.edit)

-- each change of a link among these is
abbrev pub EditsBelow : ℕ → List Change → Type 0
EditsBelow n [] = Unit {0}
EditsBelow n (c ∷ cs) = LinkBelow n c × EditsBelow n cs

-- changes that name such objects do
pub edits_below : (n : ℕ) (cs : List Change) → ChangesBelow n cs → EditsBelow n cs
edits_below n [] below = tt
edits_below n (c ∷ cs) (object, named, rest) = ((λ sets. (object, named)), edits_below n cs rest)

-- entries that name objects that are there lead to such objects
seen_named : (n : ℕ) (p : Payload) → AllBelow n (payload_numbers p) → SeenBelow n (seen_of (Some p))
seen_named n (payload.Exception e) below = by e.context (below_behind n (numbers_if e.cause) _ below.1.1)
  where
    by : (c : Option Obj) → AllBelow n (numbers_if c ++ (numbers_if e.traceback ++ attr_numbers e.attrs)) → IsBelow n c
    by None named = tt
    by (Some v) named = named.0
seen_named n _ below = tt

pub all_seen_below : (objects : List Payload) → AllFit objects → AllSeenBelow (length objects) objects
all_seen_below objects fit i = by (slice_get objects i) refl
  where
    by : (p : Option Payload) → slice_get objects i ≡ p → SeenBelow (length objects) (seen_of p)
    by None is = tt
    by (Some p) is = seen_named (length objects) p (fit i p is).0

changed_below : (n : ℕ) (objects : List Payload) (cs : List Change) → EditsBelow n cs → AllSeenBelow n objects → AllSeenBelow n (changed_by objects cs)
changed_below n objects [] named below = below
changed_below n objects (c ∷ cs) named below =
    changed_below n (with_edit objects c.object c.edit) cs named.1 (edit_below n objects c.object c.edit (λ sets. (named.0 sets).1) below)

-- those that were made by an event, too
due_below : (n k : ℕ) (cs : List Change) → EditsBelow n cs → EditsBelow n (filter (λ (c : Change). nat_le c.after k) cs)
due_below n k [] named = tt
due_below n k (c ∷ cs) named = by (nat_le c.after k) refl (due_below n k cs named.1)
  where
    by : (b : Bool) → nat_le c.after k ≡ b → EditsBelow n (filter (λ (d : Change). nat_le d.after k) cs) → EditsBelow n (filter (λ (d : Change). nat_le d.after k) (c ∷ cs))
    by true is rest = rw is (named.0, rest)
    by false is rest = rw is rest

pub stays_below : (n k : ℕ) (made : List Payload) (cs : List Change) → EditsBelow n cs → AllSeenBelow n made → StaysBelow n (link_at link.Context (store_at made cs k))
stays_below n k made cs named below v w within is =
    by (seen_of (slice_get (store_at made cs k) v.number)) (changed_below n made (filter (λ (c : Change). nat_le c.after k) cs) (due_below n k cs named) below v.number)
    (sym (context_seen (slice_get (store_at made cs k) v.number)) ∙ is)
  where
    by : (s : Option Seen) → SeenBelow n s → context_in s ≡ Some w → w.number < n
    by None below is = absurd (cc is)
    by (Some u) below is = subst (IsBelow n) is below

-- ---- the links that were set

-- those that were made at an event lead to such objects, too
then_below : (m n : ℕ) (cs : List Change) → EditsBelow m cs → EditsBelow m (links_at n cs)
then_below m n [] named = tt
then_below m n (c ∷ cs) named = by ((c.after == n) && is_link c.edit) refl (then_below m n cs named.1)
  where
    by : (b : Bool) → ((c.after == n) && is_link c.edit) ≡ b → EditsBelow m (links_at n cs) → EditsBelow m (links_at n (c ∷ cs))
    by true is rest = rw is (named.0, rest)
    by false is rest = rw is rest

-- these edits, noted as changes, are of such objects
abbrev pub NotedBelow : (m n : ℕ) → List ObjectEdit → Type 0
NotedBelow m n edits = EditsBelow m (noted n edits)

pub set_below : (m n : ℕ) (changes : List Change) (edits : List ObjectEdit) → EditsBelow m changes → links_at n changes ≡ noted n edits → NotedBelow m n edits
set_below m n changes edits named are = subst (EditsBelow m) are (then_below m n changes named)

-- so are the first ones of them, and the last ones
pub first_below : (m n : ℕ) (front back : List ObjectEdit) → NotedBelow m n (front ++ back) → NotedBelow m n front
first_below m n [] back named = tt
first_below m n (x ∷ front) back named = (named.0, first_below m n front back named.1)

pub last_below : (m n : ℕ) (front back : List ObjectEdit) → NotedBelow m n (front ++ back) → NotedBelow m n back
last_below m n [] back named = named
last_below m n (x ∷ front) back named = last_below m n front back named.1
