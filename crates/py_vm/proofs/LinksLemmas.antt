-- Which changes the links of an exception make: edits of its context and of its traceback, as changes that were made when so many events were there.
use Rattle.std.proofs.Common.{◌≡◌, ◌≤◌, ◌<◌, ◌++◌, ◌∙◌, ℕ, List, [], ◌∷◌, Bool, true, false, Some, inl, inr, refl, sym, ap, subst, length, append-nil, append_assoc, arith}
use Rattle.std.specs.Prelude.{Option, None, filter, ◌==◌, nat_le, slice_get}
use Rattle.std.proofs.lemmas.Bool.Decides.{nat_tests}
use Rattle.std.proofs.lemmas.Option.{slice_get_within}
use Rattle.py_objects.specs.declared.refs.PyBaseExceptionRef.{PyBaseExceptionRef}
use Rattle.py_objects.specs.declared.refs.PyTracebackRef.{PyTracebackRef}
use Rattle.py_objects.specs.declared.payload.Payload.{Payload}
use Rattle.py_objects.specs.declared.payload.Payload.TheVariants as payload
use Rattle.py_objects.specs.declared.edit.Edit.{Edit}
use Rattle.py_objects.specs.declared.edit.Edit.TheVariants as edit
use Rattle.py_objects.specs.declared.edit.LinkField.{LinkField}
use Rattle.py_objects.specs.declared.edit.LinkField.TheVariants as link
use Rattle.py_objects.specs.declared.edit.Change.{Change}
use Rattle.py_objects.specs.Objects.{Obj, IfThere, IsException, IsTraceback, as_object, numbers_if, AllBelow}
use Rattle.py_objects.specs.Edits.{Kept, objects_of, edit_numbers}
use Rattle.py_objects.specs.Originals.{AreMarked, ChangesBelow}
use Rattle.py_objects.proofs.BelowLemmas.{ChangesBelow-append}
use Rattle.py_objects.proofs.ChangesLemmas.{exception_now}
use Rattle.py_exceptions.specs.Contexts.{IsContextualized, IsLinkedUnless, LosesContext}
use Rattle.py_exceptions.specs.Tracebacks.{traceback_edit, traceback_object}
use Rattle.py_exceptions.specs.Links.{exception_object}
use Rattle.py_exceptions.specs.Walks.{context_of, link_at, link_in, IsFirstTo}
use Rattle.py_answers.specs.Readable.{ChangeUnread, IsReadable, SetsField, SetsLink}
use Rattle.py_answers.specs.Replying.{IsRead}
use Rattle.py_answers.proofs.ReadableLemmas.{change_unread}
use Rattle.py_answers.proofs.ReadingLemmas.{is_read}
use Rattle.py_rows.specs.Laws.{RaisedThere}
use Rattle.py_run.specs.Links.{links_at, cut, is_link, noted, unless_same, GivesContext, ObjectEdit}
use Rattle.py_vm.specs.Links.{AreLinksAmong}
use Rattle.py_vm.specs.Raising.{ContextOf, EntryOf}

-- ---- edits of links, as changes that were made then

-- each is of the context or of the traceback of an exception, and leads to an object of its kind, or is taken away
abbrev pub AreLinkEdits : List Payload → List ObjectEdit → Type 0
AreLinkEdits objects [] = Unit {0}
AreLinkEdits objects ((o, x) ∷ es) = (is_link x ≡ true) × IsException objects o × SetsLink objects x × AreLinkEdits objects es

-- edits and more of them
pub edits_join : (objects : List Payload) (es fs : List ObjectEdit) → AreLinkEdits objects es → AreLinkEdits objects fs → AreLinkEdits objects (es ++ fs)
edits_join objects [] fs first second = second
edits_join objects ((o, x) ∷ es) fs (is, exception, sets, rest) second = (is, exception, sets, edits_join objects es fs rest second)

-- what an edit of a link names is there
exception_within : (objects : List Payload) (o : Obj) → IsException objects o → o.number < length objects
exception_within objects o (b, has) = slice_get_within objects o.number (payload.Exception b) has

exceptions_below : (objects : List Payload) (v : Option Obj) → IfThere (IsException objects) v → AllBelow (length objects) (numbers_if v)
exceptions_below objects None there = tt
exceptions_below objects (Some w) there = (exception_within objects w there, tt)

tracebacks_below : (objects : List Payload) (v : Option Obj) → IfThere (IsTraceback objects) v → AllBelow (length objects) (numbers_if v)
tracebacks_below objects None there = tt
tracebacks_below objects (Some w) (t, has) = (slice_get_within objects w.number (payload.Traceback t) has, tt)

field_below : (objects : List Payload) (field : LinkField) (v : Option Obj) → SetsField objects field v → AllBelow (length objects) (numbers_if v)
field_below objects link.Cause v sets = exceptions_below objects v sets
field_below objects link.Context v sets = exceptions_below objects v sets
field_below objects link.Traceback v sets = tracebacks_below objects v sets
field_below objects link.Next v sets = absurd sets

pub link_below : (objects : List Payload) (x : Edit) → SetsLink objects x → AllBelow (length objects) (edit_numbers x)
link_below objects x (inl (field, v, is, sets)) = subst (λ (y : Edit). AllBelow (length objects) (edit_numbers y)) (sym is) (field_below objects field v sets)
link_below objects x (inr (b, is)) = subst (λ (y : Edit). AllBelow (length objects) (edit_numbers y)) (sym is) tt

module _ (objects : List Payload) (k : ℕ) where
  -- they are links of that many events
  pub are_links : (from : ℕ) (es : List ObjectEdit) → from ≤ k → AreLinkEdits objects es → AreLinksAmong objects from k (noted k es)
  are_links from [] low are = tt
  are_links from ((o, x) ∷ es) low (is, exception, sets, rest) = (is, exception, sets, low, omega arith, are_links k es (omega arith) rest)

  -- no answer reads them
  pub noted_unread : (cs : List Change) (es : List ObjectEdit) → AreLinkEdits objects es → ChangeUnread objects cs → ChangeUnread objects (cs ++ noted k es)
  noted_unread cs [] are unread = subst (ChangeUnread objects) (sym (append-nil cs)) unread
  noted_unread cs ((o, x) ∷ es) (is, exception, sets, rest) unread =
      let c : Change = record { after = k; object = o; edit = x } in
      subst (ChangeUnread objects) (append_assoc cs (c ∷ []) (noted k es)) (noted_unread (cs ++ c ∷ []) es rest (change_unread objects cs c (inr (exception, sets)) unread))

  -- and they name objects that are there
  pub noted_below : (cs : List Change) (es : List ObjectEdit) → AreLinkEdits objects es → ChangesBelow (length objects) cs → ChangesBelow (length objects) (cs ++ noted k es)
  noted_below cs [] are below = subst (ChangesBelow (length objects)) (sym (append-nil cs)) below
  noted_below cs ((o, x) ∷ es) (is, exception, sets, rest) below =
      let c : Change = record { after = k; object = o; edit = x } in
      subst (ChangesBelow (length objects)) (append_assoc cs (c ∷ []) (noted k es))
      (noted_below (cs ++ c ∷ []) es rest (ChangesBelow-append (length objects) cs c below (exception_within objects o exception) (link_below objects x sets)))

  pub noted_marked : (es : List ObjectEdit) → AreMarked k (noted k es)
  noted_marked [] = tt
  noted_marked (x ∷ es) = (omega arith, noted_marked es)

  -- all of them were set then
  pub all_then : (es : List ObjectEdit) → AreLinkEdits objects es → links_at k (noted k es) ≡ noted k es
  all_then [] are = refl
  all_then ((o, x) ∷ es) (is, exception, sets, rest) =
      let now : (k == k) ≡ true = grind (arith, nat_tests) in
      rw (now, is) (ap (λ l. record { after = k; object = o; edit = x } ∷ l) (all_then es rest))

  -- and none before
  pub none_due : (n : ℕ) (es : List ObjectEdit) → n < k → filter (λ (c : Change). nat_le c.after n) (noted k es) ≡ []
  none_due n [] later = refl
  none_due n (x ∷ es) later = let late : nat_le k n ≡ false = grind (arith, nat_tests) in rw late (none_due n es later)

-- changes of earlier events were not set then
pub none_then : (n k : ℕ) (cs : List Change) → n < k → AreMarked n cs → links_at k cs ≡ []
none_then n k [] later marked = refl
none_then n k (c ∷ cs) later marked =
    let early : c.after ≤ n = marked.0 in
    let other : (c.after == k) ≡ false = grind (arith, nat_tests) in
    rw other (none_then n k cs later marked.1)

-- ---- an exception gets its context

-- what has a context is an exception
context_is : (objects : List Payload) (v w : Obj) → link_at link.Context objects v ≡ Some w → IsException objects v
context_is objects v w is = by (slice_get objects v.number) refl is
  where
    by_payload : (p : Payload) → context_of p ≡ Some w → slice_get objects v.number ≡ Some p → IsException objects v
    by_payload (payload.Exception b) is at = (b, at)
    by_payload _ is at = absurd (cc is)

    by : (r : Option Payload) → slice_get objects v.number ≡ r → link_in link.Context r ≡ Some w → IsException objects v
    by None at is = absurd (cc is)
    by (Some p) at is = by_payload p is at

-- what is an exception now was made as one, where the objects can be read
made_exception : (s : Kept) (o : Obj) → IsReadable s → IsException (objects_of s) o → IsException s.made o
made_exception s o readable (b, has) = by (is_read s o (payload.Exception b) readable.unread has)
  where
    by : IsRead s.made o (payload.Exception b) → IsException s.made o
    by (p, made, inl same) = (b, made ∙ ap Some (sym same))
    by (p, made, inr (inl (ps, qs, first, second))) = absurd (cc second)
    by (p, made, inr (inr (e, l, first, second, are))) = (e, made ∙ ap Some first)

-- and the other way round
pub exception_there : (s : Kept) (e : PyBaseExceptionRef) → RaisedThere s.made (Some e) → IsException (objects_of s) (as_object e)
exception_there s e (b, has) = let (f, now, same) = exception_now s (as_object e) b has in (f, now)

pub handled_exception : (s : Kept) (h : Option PyBaseExceptionRef) → RaisedThere s.made h → IfThere (IsException (objects_of s)) (exception_object h)
handled_exception s None there = tt
handled_exception s (Some e) there = exception_there s e there

-- an exception gets its context, where it gets one
abbrev pub GivesIf : Bool → List Payload → Option PyBaseExceptionRef → PyBaseExceptionRef → List ObjectEdit → Type 0
GivesIf true now h e edits = GivesContext now h e edits
GivesIf false now h e edits = edits ≡ []

-- what that makes of a store
pub record GetsContextBy (gets : Bool) (old new : Kept) (h : Option PyBaseExceptionRef) (e : PyBaseExceptionRef) : Type 0 where
  pub edits : List ObjectEdit
  pub gives : GivesIf gets (objects_of old) h e edits
  pub are : AreLinkEdits old.made edits
  pub made : new.made ≡ old.made
  pub changes : new.changes ≡ old.changes ++ noted old.mark edits
  pub mark : new.mark ≡ old.mark

-- nothing, where none is set
none_set : (gets : Bool) (old new : Kept) (h : Option PyBaseExceptionRef) (e : PyBaseExceptionRef) → GivesIf gets (objects_of old) h e [] → new ≡ old → GetsContextBy gets old new h e
none_set gets old new h e gives is = record {
  edits = [];
  gives = gives;
  are = tt;
  made = ap (λ (s : Kept). s.made) is;
  changes = ap (λ (s : Kept). s.changes) is ∙ sym (append-nil old.changes);
  mark = ap (λ (s : Kept). s.mark) is;
}

context_set : (old new : Kept) (h : Option PyBaseExceptionRef) (e : PyBaseExceptionRef) → IsReadable old → RaisedThere old.made h → RaisedThere old.made (Some e) → IsContextualized old new h e → GetsContextBy true old new h e
context_set old new None e readable handled raised is = none_set true old new None e refl is
context_set old new (Some h) e readable handled raised linked = by (h.number == e.number) refl linked
  where
    cuts : (found : Option Obj) → IsFirstTo (link_at link.Context (objects_of old)) (as_object h) (as_object e) found → AreLinkEdits old.made (cut found ++ (as_object e, edit.Link link.Context (Some (as_object h))) ∷ [])
    cuts None first = (refl, raised, inl (link.Context, Some (as_object h), refl, handled), tt)
    cuts (Some x) first =
        (refl, made_exception old x readable (context_is (objects_of old) x (as_object e) first.2), inl (link.Context, None, refl, tt), (refl, raised, inl (link.Context, Some (as_object h), refl, handled), tt))

    by : (b : Bool) → (h.number == e.number) ≡ b → IsLinkedUnless b old new (as_object h) (as_object e) → GetsContextBy true old new (Some h) e
    by true same is = none_set true old new (Some h) e (subst (λ b. unless_same b (objects_of old) (as_object h) (as_object e) []) (sym same) refl) is
    by false other x = record {
      edits = cut x.found ++ (as_object e, edit.Link link.Context (Some (as_object h))) ∷ [];
      gives = subst (λ b. unless_same b (objects_of old) (as_object h) (as_object e) (cut x.found ++ (as_object e, edit.Link link.Context (Some (as_object h))) ∷ [])) (sym other) (x.found, x.first, refl);
      are = cuts x.found x.first;
      made = x.set.made ∙ cut_made x.found x.between x.cut;
      changes = x.set.changes ∙ cut_changes x.found x.between x.cut;
      mark = x.set.mark ∙ cut_mark x.found x.between x.cut;
    }
      where
        cut_made : (found : Option Obj) (between : Kept) → LosesContext old between found → between.made ≡ old.made
        cut_made None between is = ap (λ (s : Kept). s.made) is
        cut_made (Some y) between is = is.made

        cut_mark : (found : Option Obj) (between : Kept) → LosesContext old between found → between.mark ≡ old.mark
        cut_mark None between is = ap (λ (s : Kept). s.mark) is
        cut_mark (Some y) between is = is.mark

        cut_changes : (found : Option Obj) (between : Kept) → LosesContext old between found
            → between.changes ++ record { after = between.mark; object = as_object e; edit = edit.Link link.Context (Some (as_object h)) } ∷ [] ≡ old.changes ++ noted old.mark (cut found ++ (as_object e, edit.Link link.Context (Some (as_object h))) ∷ [])
        cut_changes None between is = ap (λ (s : Kept). s.changes ++ record { after = s.mark; object = as_object e; edit = edit.Link link.Context (Some (as_object h)) } ∷ []) is
        cut_changes (Some y) between is =
            ap (λ n. between.changes ++ record { after = n; object = as_object e; edit = edit.Link link.Context (Some (as_object h)) } ∷ []) is.mark
            ∙ ap (λ l. l ++ record { after = old.mark; object = as_object e; edit = edit.Link link.Context (Some (as_object h)) } ∷ []) is.changes
            ∙ append_assoc old.changes (record { after = old.mark; object = y; edit = edit.Link link.Context None } ∷ []) (record { after = old.mark; object = as_object e; edit = edit.Link link.Context (Some (as_object h)) } ∷ [])

pub context_set_if : (gets : Bool) (old new : Kept) (h : Option PyBaseExceptionRef) (e : PyBaseExceptionRef) → IsReadable old → RaisedThere old.made h → RaisedThere old.made (Some e) → ContextOf gets old new h e → GetsContextBy gets old new h e
context_set_if true old new h e readable handled raised is = context_set old new h e readable handled raised is
context_set_if false old new h e readable handled raised is = none_set false old new h e refl is

-- ---- its traceback gets an entry

-- the edit that puts it there, where there is one
abbrev pub put_if : PyBaseExceptionRef → Option PyTracebackRef → List ObjectEdit
put_if e None = []
put_if e (Some entry) = (as_object e, traceback_edit (Some entry)) ∷ []

-- what that makes of a store
pub record GetsEntryBy (old new : Kept) (e : PyBaseExceptionRef) (entry : Option PyTracebackRef) : Type 0 where
  pub are : AreLinkEdits old.made (put_if e entry)
  pub made : new.made ≡ old.made
  pub changes : new.changes ≡ old.changes ++ noted old.mark (put_if e entry)
  pub mark : new.mark ≡ old.mark

pub entry_put : (old new : Kept) (e : PyBaseExceptionRef) (entry : Option PyTracebackRef) → IsException old.made (as_object e) → IfThere (IsTraceback old.made) (traceback_object entry) → EntryOf old new e entry → GetsEntryBy old new e entry
entry_put old new e None raised there is = record {
  are = tt;
  made = ap (λ (s : Kept). s.made) is;
  changes = ap (λ (s : Kept). s.changes) is ∙ sym (append-nil old.changes);
  mark = ap (λ (s : Kept). s.mark) is;
}
entry_put old new e (Some entry) raised there is = record {
  are = (refl, raised, inl (link.Traceback, traceback_object (Some entry), refl, there), tt);
  made = is.made;
  changes = is.changes;
  mark = is.mark;
}
