-- The traceback of an exception, from one event to the next.
use Rattle.std.proofs.Common.{◌≡◌, ◌<◌, ◌++◌, ◌∙◌, ◌⊎◌, ℕ, suc, List, [], ◌∷◌, Bool, true, false, Some, inl, inr, refl, sym, ap, subst, arith}
use Rattle.std.specs.Prelude.{Option, None, option_map, slice_get, filter, ◌==◌, nat_le}
use Rattle.std.proofs.lemmas.Bool.{cases_eq}
use Rattle.std.proofs.lemmas.Bool.Decides.{nat_tests}
use Rattle.py_objects.specs.declared.payload.Payload.{Payload}
use Rattle.py_objects.specs.declared.edit.Edit.{Edit}
use Rattle.py_objects.specs.declared.edit.Edit.TheVariants as edit
use Rattle.py_objects.specs.declared.edit.LinkField.TheVariants as link
use Rattle.py_objects.specs.declared.edit.Change.{Change}
use Rattle.py_objects.specs.declared.refs.PyBaseExceptionRef.{PyBaseExceptionRef}
use Rattle.py_objects.specs.Objects.{Obj, AllBelow, as_object}
use Rattle.py_objects.specs.Edits.{edit_numbers}
use Rattle.py_objects.specs.Changes.{changed_by, store_at, with_edit}
use Rattle.py_exceptions.specs.Walks.{link_at, link_in}
use Rattle.py_run.specs.Links.{AreLinks, GivesContext, ObjectEdit, cut, links_at, named_in, noted, unless_same}
use Rattle.py_run.proofs.FirstLemmas.{below_behind, below_front}
use Rattle.py_run.proofs.LinksLemmas.{IsBelow, Seen, links_behind, seen_edited, seen_of, seen_other, traceback_in, traceback_seen}

-- ---- the changes until an event

-- the changes that were made by then
abbrev pub due_by : ℕ → List Change → List Change
due_by n cs = filter (λ (c : Change). nat_le c.after n) cs

-- no change of a later event was
pub none_due : (m n k : ℕ) (cs : List Change) → n < m → AreLinks m k cs → due_by n cs ≡ []
none_due m n k [] low are = refl
none_due m n k (c ∷ cs) low (sets, first, last, rest) =
    let late : nat_le c.after n ≡ false = grind (arith, nat_tests, low, first) in rw late (none_due c.after n k cs (omega (arith, low, first)) rest)

-- by the next event they are those, and then the ones that were made at it
pub due_next : (m n k : ℕ) (cs : List Change) → AreLinks m k cs → due_by (suc n) cs ≡ due_by n cs ++ links_at (suc n) cs
due_next m n k [] are = refl
due_next m n k (c ∷ cs) (sets, first, last, rest) = by (due_next c.after n k cs rest) (nat_le c.after n) (c.after == suc n) refl refl
  where
    by : due_by (suc n) cs ≡ due_by n cs ++ links_at (suc n) cs → (b x : Bool) → nat_le c.after n ≡ b → (c.after == suc n) ≡ x → due_by (suc n) (c ∷ cs) ≡ due_by n (c ∷ cs) ++ links_at (suc n) (c ∷ cs)
    by on true x low same =
        let still : nat_le c.after (suc n) ≡ true = grind (arith, nat_tests, low) in
        let other : (c.after == suc n) ≡ false = grind (arith, nat_tests, low) in
        rw (low, still, other) (ap (λ l. c ∷ l) on)
    by on false true high same =
        let now : nat_le c.after (suc n) ≡ true = grind (arith, nat_tests, same) in
        let later : n < c.after = grind (arith, nat_tests, high) in
        let none : due_by n cs ≡ [] = none_due c.after n k cs later rest in
        let behind : due_by (suc n) cs ≡ links_at (suc n) cs = on ∙ ap (λ l. l ++ links_at (suc n) cs) none in
        rw (high, now, same, sets, none) (ap (λ l. c ∷ l) behind)
    by on false false high other =
        let late : nat_le c.after (suc n) ≡ false = grind (arith, nat_tests, high, other) in
        rw (high, late, other) on

changed_both : (objects : List Payload) (cs more : List Change) → changed_by objects (cs ++ more) ≡ changed_by (changed_by objects cs) more
changed_both objects [] more = refl
changed_both objects (c ∷ cs) more = changed_both (with_edit objects c.object c.edit) cs more

-- so the objects at the next event are those at this one, changed
pub store_next : (made : List Payload) (m n k : ℕ) (cs : List Change) (edits : List ObjectEdit) → AreLinks m k cs → links_at (suc n) cs ≡ noted (suc n) edits
    → store_at made cs (suc n) ≡ changed_by (store_at made cs n) (noted (suc n) edits)
store_next made m n k cs edits are is =
    ap (changed_by made) (due_next m n k cs are ∙ ap (λ l. due_by n cs ++ l) is) ∙ changed_both made (due_by n cs) (noted (suc n) edits)

-- ---- the traceback of an object

-- what an object has as its traceback
abbrev pub traceback_at : List Payload → Obj → Option Obj
traceback_at objects v = link_at link.Traceback objects v

-- an object is an exception
abbrev pub IsSeen : List Payload → Obj → Type 0
IsSeen objects v = (s : Seen) × (seen_of (slice_get objects v.number) ≡ Some s)

-- whether an edit sets a context
abbrev pub is_context : Edit → Bool
is_context (edit.Link link.Context v) = true
is_context _ = false

-- what is seen of an exception after the edit of a context
context_leaves : (x : Edit) (s : Option Seen) → is_context x ≡ true → traceback_in (option_map (links_behind x) s) ≡ traceback_in s
context_leaves (edit.Link link.Context v) None is = refl
context_leaves (edit.Link link.Context v) (Some w) is = refl
context_leaves (edit.Link link.Cause v) s is = absurd (cc is)
context_leaves (edit.Link link.Traceback v) s is = absurd (cc is)
context_leaves (edit.Link link.Next v) s is = absurd (cc is)
context_leaves _ s is = absurd (cc is)

traceback_sets : (v : Option Obj) (s : Option Seen) (w : Seen) → s ≡ Some w → traceback_in (option_map (links_behind (edit.Link link.Traceback v)) s) ≡ v
traceback_sets v (Some u) w is = refl
traceback_sets v None w is = absurd (cc is)

traceback_leads : (m : ℕ) (x : Edit) (s : Option Seen) → AllBelow m (edit_numbers x) → IsBelow m (traceback_in s) → IsBelow m (traceback_in (option_map (links_behind x) s))
traceback_leads m (edit.Link link.Traceback v) None named below = tt
traceback_leads m (edit.Link link.Traceback None) (Some w) named below = tt
traceback_leads m (edit.Link link.Traceback (Some v)) (Some w) named below = named.0
traceback_leads m (edit.Link link.Context v) None named below = tt
traceback_leads m (edit.Link link.Context v) (Some w) named below = below
traceback_leads m (edit.Link link.Cause v) None named below = tt
traceback_leads m (edit.Link link.Cause v) (Some w) named below = below
traceback_leads m (edit.Link link.Next v) None named below = tt
traceback_leads m (edit.Link link.Next v) (Some w) named below = below
traceback_leads m _ None named below = tt
traceback_leads m _ (Some w) named below = below

module _ (objects : List Payload) (o : Obj) (x : Edit) where
  -- of the object that is edited
  edited_here : (w : Obj) → o.number ≡ w.number → traceback_at (with_edit objects o x) w ≡ traceback_in (option_map (links_behind x) (seen_of (slice_get objects w.number)))
  edited_here w same =
      traceback_seen (slice_get (with_edit objects o x) w.number)
      ∙ ap traceback_in (subst (λ n. seen_of (slice_get (with_edit objects o x) n) ≡ option_map (links_behind x) (seen_of (slice_get objects n))) same (seen_edited objects o x))

  -- and of another one
  pub edited_elsewhere : (w : Obj) → (o.number ≡ w.number → ⊥) → traceback_at (with_edit objects o x) w ≡ traceback_at objects w
  edited_elsewhere w apart = ap (link_in link.Traceback) (seen_other objects o x w.number apart)

  seen_stays_by : (w : Obj) → IsSeen objects w → IsSeen (with_edit objects o x) w
  seen_stays_by w (s, is) = by (cases_eq o.number w.number)
    where
      by : (o.number ≡ w.number) ⊎ (o.number ≡ w.number → ⊥) → IsSeen (with_edit objects o x) w
      by (inl same) =
          (links_behind x s, subst (λ n. seen_of (slice_get (with_edit objects o x) n) ≡ option_map (links_behind x) (seen_of (slice_get objects n))) same (seen_edited objects o x) ∙ ap (option_map (links_behind x)) is)
      by (inr apart) = (s, ap seen_of (seen_other objects o x w.number apart) ∙ is)

  context_stays_by : is_context x ≡ true → (w : Obj) → traceback_at (with_edit objects o x) w ≡ traceback_at objects w
  context_stays_by is w = by (cases_eq o.number w.number)
    where
      by : (o.number ≡ w.number) ⊎ (o.number ≡ w.number → ⊥) → traceback_at (with_edit objects o x) w ≡ traceback_at objects w
      by (inl same) = edited_here w same ∙ context_leaves x (seen_of (slice_get objects w.number)) is ∙ sym (traceback_seen (slice_get objects w.number))
      by (inr apart) = edited_elsewhere w apart

  below_by : (m : ℕ) → AllBelow m (edit_numbers x) → (w : Obj) → IsBelow m (traceback_at objects w) → IsBelow m (traceback_at (with_edit objects o x) w)
  below_by m named w below = by (cases_eq o.number w.number)
    where
      by : (o.number ≡ w.number) ⊎ (o.number ≡ w.number → ⊥) → IsBelow m (traceback_at (with_edit objects o x) w)
      by (inl same) =
          subst (IsBelow m) (sym (edited_here w same))
          (traceback_leads m x (seen_of (slice_get objects w.number)) named (subst (IsBelow m) (traceback_seen (slice_get objects w.number)) below))
      by (inr apart) = subst (IsBelow m) (sym (edited_elsewhere w apart)) below

-- an exception stays one
pub seen_stays : (objects : List Payload) (cs : List Change) (w : Obj) → IsSeen objects w → IsSeen (changed_by objects cs) w
seen_stays objects [] w seen = seen
seen_stays objects (c ∷ cs) w seen = seen_stays (with_edit objects c.object c.edit) cs w (seen_stays_by objects c.object c.edit w seen)

-- the traceback that changes give is named by them
pub tracebacks_named : (m : ℕ) (objects : List Payload) (cs : List Change) → AllBelow m (named_in cs) → (w : Obj) → IsBelow m (traceback_at objects w) → IsBelow m (traceback_at (changed_by objects cs) w)
tracebacks_named m objects [] named w below = below
tracebacks_named m objects (c ∷ cs) named w below =
    tracebacks_named m (with_edit objects c.object c.edit) cs (below_behind m (edit_numbers c.edit) (named_in cs) named.1) w
    (below_by objects c.object c.edit m (below_front m (edit_numbers c.edit) (named_in cs) named.1) w below)

-- ---- by edits

-- edits of contexts alone
abbrev pub OnlyContexts : List ObjectEdit → Type 0
OnlyContexts [] = Unit {0}
OnlyContexts (x ∷ xs) = (is_context x.1 ≡ true) × OnlyContexts xs

-- those that give an exception its context are
pub gives_contexts : (now : List Payload) (h : Option PyBaseExceptionRef) (e : PyBaseExceptionRef) (edits : List ObjectEdit) → GivesContext now h e edits → OnlyContexts edits
gives_contexts now None e edits is = subst OnlyContexts (sym is) tt
gives_contexts now (Some h) e edits gives = by (h.number == e.number) gives
  where
    cuts : (found : Option Obj) → OnlyContexts (cut found ++ (as_object e, edit.Link link.Context (Some (as_object h))) ∷ [])
    cuts None = (refl, tt)
    cuts (Some x) = (refl, (refl, tt))

    by : (b : Bool) → unless_same b now (as_object h) (as_object e) edits → OnlyContexts edits
    by true is = subst OnlyContexts (sym is) tt
    by false (found, first, is) = subst OnlyContexts (sym is) (cuts found)

-- they leave each traceback
pub contexts_leave : (objects : List Payload) (n : ℕ) (edits : List ObjectEdit) → OnlyContexts edits → (w : Obj) → traceback_at (changed_by objects (noted n edits)) w ≡ traceback_at objects w
contexts_leave objects n [] only w = refl
contexts_leave objects n (x ∷ xs) only w = contexts_leave (with_edit objects x.0 x.1) n xs only.1 w ∙ context_stays_by objects x.0 x.1 only.0 w

-- an entry that follows them is the traceback of its exception, and leaves each other one
module _ (objects : List Payload) (n : ℕ) (contexts : List ObjectEdit) (only : OnlyContexts contexts) (o entry : Obj) where
  abbrev puts_entry : List ObjectEdit
  puts_entry = contexts ++ (o, edit.Link link.Traceback (Some entry)) ∷ []

  abbrev put_store : List Payload → List ObjectEdit → List Payload
  put_store os xs = changed_by os (noted n xs)

  put_behind : (xs ys : List ObjectEdit) (os : List Payload) → put_store os (xs ++ ys) ≡ put_store (put_store os xs) ys
  put_behind [] ys os = refl
  put_behind (x ∷ xs) ys os = put_behind xs ys (with_edit os x.0 x.1)

  abbrev between : List Payload
  between = changed_by objects (noted n contexts)

  pub entry_put : (w : Obj) → o.number ≡ w.number → IsSeen objects w → traceback_at (changed_by objects (noted n puts_entry)) w ≡ Some entry
  entry_put w same seen =
      let (s, is) = seen_stays objects (noted n contexts) w seen in
      ap (λ l. traceback_at l w) (put_behind contexts ((o, edit.Link link.Traceback (Some entry)) ∷ []) objects)
      ∙ (edited_here between o (edit.Link link.Traceback (Some entry)) w same ∙ traceback_sets (Some entry) (seen_of (slice_get between w.number)) s is)

  pub entry_elsewhere : (w : Obj) → (o.number ≡ w.number → ⊥) → traceback_at (changed_by objects (noted n puts_entry)) w ≡ traceback_at objects w
  entry_elsewhere w apart =
      ap (λ l. traceback_at l w) (put_behind contexts ((o, edit.Link link.Traceback (Some entry)) ∷ []) objects)
      ∙ (edited_elsewhere between o (edit.Link link.Traceback (Some entry)) w apart ∙ contexts_leave objects n contexts only w)
