-- No text that is told reads the context of an exception or its traceback: where these links alone change, the text of events is that by the objects as they
-- were made.
use Rattle.std.proofs.Common.{◌≡◌, ◌+◌, ◌∙◌, ℕ, zero, suc, Bool, true, false, Option, Some, None, List, [], ◌∷◌, ◌++◌, refl, sym, ap, ap₂}
use Rattle.std.proofs.Math.Path.{fun_ext}
use Rattle.std.specs.Prelude.{codes, encode_utf8_all, filter, nat_le, option_map, slice_get}
use Rattle.py_objects.specs.declared.payload.Payload.{Payload}
use Rattle.py_objects.specs.declared.payload.Payload.TheVariants as payload
use Rattle.py_objects.specs.declared.payload.ExceptionBody.{ExceptionBody}
use Rattle.py_objects.specs.declared.edit.Edit.{Edit}
use Rattle.py_objects.specs.declared.edit.Edit.TheVariants as edit
use Rattle.py_objects.specs.declared.edit.LinkField.TheVariants as link
use Rattle.py_objects.specs.declared.edit.Change.{Change}
use Rattle.py_objects.specs.declared.request.Request.{Request}
use Rattle.py_objects.specs.declared.request.Request.TheVariants as request
use Rattle.py_objects.specs.declared.event.DriveAnswer.{DriveAnswer}
use Rattle.py_objects.specs.declared.event.DriveAnswer.TheVariants as answer
use Rattle.py_objects.specs.declared.event.Event.{Event}
use Rattle.py_objects.specs.declared.event.Event.TheVariants as event
use Rattle.py_objects.specs.Objects.{Obj, Name, as_object, class_object}
use Rattle.py_objects.specs.Attrs.{value_of}
use Rattle.py_objects.specs.Ancestry.{derives_from}
use Rattle.py_objects.specs.Changes.{edited, edited_entry, store_at, with_edit}
use Rattle.py_objects.proofs.AncestryLemmas.{changed_derives}
use Rattle.py_objects.proofs.Slots.{read_set}
use Rattle.py_exceptions.specs.Repr.{payload_of, class_name, in_parentheses, items_of, Inner, repr_within, shown}
use Rattle.py_exceptions.specs.Said.{attribute, given, os_said, said, said_by, syntax_said, text_at, text_in, unless_none}
use Rattle.py_exceptions.specs.Texts.{details, raised, str_by, str_within}
use Rattle.py_run.specs.Links.{AreLinks, is_link}
use Rattle.py_run.specs.declared.journal.Journal.{Journal}
use Rattle.py_meaning.specs.Text.{event_text, events_text, numbered, request_text, result_text, shown_line, text_from, text_of}
use Rattle.py_meaning.proofs.TextsAgree.{chosen}

-- ---- what is the same of an entry, whatever its links are

-- an entry as if it had no context and no traceback
abbrev bare : Payload → Payload
bare (payload.Exception e) = payload.Exception (record e { context = None; traceback = None })
bare p = p

context_set : (objects : List Payload) (v : Option Obj) (p : Payload) → bare (edited objects (edit.Link link.Context v) p) ≡ bare p
context_set objects v (payload.Exception e) = refl
context_set objects v (payload.Dict ps) = refl
context_set objects v _ = refl

traceback_set : (objects : List Payload) (v : Option Obj) (p : Payload) → bare (edited objects (edit.Link link.Traceback v) p) ≡ bare p
traceback_set objects v (payload.Exception e) = refl
traceback_set objects v (payload.Dict ps) = refl
traceback_set objects v (payload.Traceback t) = refl
traceback_set objects v _ = refl

edit_bare : (objects : List Payload) (x : Edit) (p : Payload) → is_link x ≡ true → bare (edited objects x p) ≡ bare p
edit_bare objects (edit.Link link.Context v) p sets = context_set objects v p
edit_bare objects (edit.Link link.Traceback v) p sets = traceback_set objects v p
edit_bare objects (edit.Link link.Cause v) p sets = absurd (cc sets)
edit_bare objects (edit.Link link.Next v) p sets = absurd (cc sets)
edit_bare objects _ p sets = absurd (cc sets)

-- objects after changes of links alone, by each entry
abbrev Bare : List Payload → List Payload → Type 0
Bare now objects = (v : Obj) → option_map bare (payload_of now v) ≡ option_map bare (payload_of objects v)

with_edit_bare : (objects : List Payload) (o : Obj) (x : Edit) → is_link x ≡ true → Bare (with_edit objects o x) objects
with_edit_bare objects o x sets v = by (slice_get objects o.number) refl
  where
    by : (q : Option Payload) → slice_get objects o.number ≡ q → option_map bare (slice_get (edited_entry objects x o.number q) v.number) ≡ option_map bare (slice_get objects v.number)
    by None is = refl
    by (Some p) is = read_set (option_map bare) objects o.number v.number p (edited objects x p) is (ap Some (edit_bare objects x p sets))

-- those that were made by an event
store_bare : (m n k : ℕ) (objects : List Payload) (cs : List Change) → AreLinks m n cs → Bare (store_at objects cs k) objects
store_bare m n k objects [] are v = refl
store_bare m n k objects (c ∷ cs) (sets, low, high, rest) v =
    by (nat_le c.after k) refl (store_bare c.after n k (with_edit objects c.object c.edit) cs rest v ∙ with_edit_bare objects c.object c.edit sets v) (store_bare c.after n k objects cs rest v)
  where
    by : (b : Bool) → nat_le c.after k ≡ b → option_map bare (payload_of (store_at (with_edit objects c.object c.edit) cs k) v) ≡ option_map bare (payload_of objects v)
        → option_map bare (payload_of (store_at objects cs k) v) ≡ option_map bare (payload_of objects v)
        → option_map bare (payload_of (store_at objects (c ∷ cs) k) v) ≡ option_map bare (payload_of objects v)
    by true is made later = rw is made
    by false is made later = rw is later

-- ---- what texts read

-- objects that are the same but for links, where each class derives from the same ones
module _ (now objects : List Payload) (same : Bare now objects) (kinds : (v : Obj) (n : Name) → derives_from now v n ≡ derives_from objects v n) where
  -- what doesn't read the links of an entry reads the same
  read_bare : {A : Type 0} (f : Option Payload → A) → ((p : Option Payload) → f p ≡ f (option_map bare p)) → (v : Obj) → f (payload_of now v) ≡ f (payload_of objects v)
  read_bare f reads v = reads (payload_of now v) ∙ ap f (same v) ∙ sym (reads (payload_of objects v))

  class_named : (v : Obj) → class_name (payload_of now v) ≡ class_name (payload_of objects v)
  class_named v = read_bare class_name reads v
    where
      reads : (p : Option Payload) → class_name p ≡ class_name (option_map bare p)
      reads None = refl
      reads (Some (payload.Class c)) = refl
      reads (Some _) = refl

  items_are : (v : Obj) → items_of (payload_of now v) ≡ items_of (payload_of objects v)
  items_are v = read_bare items_of reads v
    where
      reads : (p : Option Payload) → items_of p ≡ items_of (option_map bare p)
      reads None = refl
      reads (Some (payload.Tuple vs)) = refl
      reads (Some _) = refl

  -- ---- representations

  shown_bare : (inner : Inner) (p : Option Payload) → shown inner now p ≡ shown inner now (option_map bare p)
  shown_bare inner None = refl
  shown_bare inner (Some (payload.Exception e)) = refl
  shown_bare inner (Some _) = refl

  shown_by : (inner : Inner) (p : Option Payload) → shown inner now p ≡ shown inner objects p
  shown_by inner None = refl
  shown_by inner (Some (payload.Exception e)) =
      ap₂ (λ name vs. encode_utf8_all name ++ in_parentheses inner vs) (class_named (class_object e.class)) (items_are e.args)
  shown_by inner (Some _) = refl

  shown_same : (inner : Inner) (v : Obj) → shown inner now (payload_of now v) ≡ shown inner objects (payload_of objects v)
  shown_same inner v = read_bare (shown inner now) (shown_bare inner) v ∙ shown_by inner (payload_of objects v)

  repr_same : (k : ℕ) (v : Obj) → repr_within k now v ≡ repr_within k objects v
  repr_same zero v = shown_same None v
  repr_same (suc k) v = ap (λ f. shown (Some f) now (payload_of now v)) (fun_ext (repr_same k)) ∙ shown_same (Some (repr_within k objects)) v

  -- ---- what exceptions say

  given_same : (x : Option Obj) → given now x ≡ given objects x
  given_same None = refl
  given_same (Some v) = read_bare (unless_none v) reads v
    where
      reads : (p : Option Payload) → unless_none v p ≡ unless_none v (option_map bare p)
      reads None = refl
      reads (Some payload.None) = refl
      reads (Some _) = refl

  text_same : (x : Option Obj) → text_at now x ≡ text_at objects x
  text_same None = refl
  text_same (Some v) = read_bare text_in reads v
    where
      reads : (p : Option Payload) → text_in p ≡ text_in (option_map bare p)
      reads None = refl
      reads (Some (payload.Str s)) = refl
      reads (Some _) = refl

  module _ (str repr : Obj → List ℕ) (e : ExceptionBody) where
    os_same : (vs : List Obj) → os_said str repr now e vs ≡ os_said str repr objects e vs
    os_same [] = refl
    os_same (v ∷ []) = refl
    os_same (v ∷ w ∷ []) = rw (given_same (value_of (codes "filename") e.attrs), given_same (value_of (codes "filename2") e.attrs)) refl
    os_same (v ∷ w ∷ u ∷ vs) = refl

    syntax_same : (vs : List Obj) → syntax_said str repr now e vs ≡ syntax_said str repr objects e vs
    syntax_same [] = refl
    syntax_same (v ∷ []) = rw (given_same (value_of (codes "filename") e.attrs), given_same (value_of (codes "lineno") e.attrs), text_same (attribute objects e (codes "filename"))) refl
    syntax_same (v ∷ w ∷ vs) = refl

    said_same : (vs : List Obj) → said_by str repr now e vs ≡ said_by str repr objects e vs
    said_same vs = chosen (kinds (class_object e.class) _) refl (chosen (kinds (class_object e.class) _) (os_same vs) (chosen (kinds (class_object e.class) _) (syntax_same vs) refl))

  -- ---- texts

  -- how an exception says what its arguments are, where it isn't too deep
  abbrev Says : Type 0
  Says = Option (ExceptionBody → List Obj → List ℕ)

  -- it doesn't read its context
  abbrev IsBlind : Says → Type 0
  IsBlind None = Unit {0}
  IsBlind (Some says) = (e : ExceptionBody) (vs : List Obj) → says e vs ≡ says (record e { context = None; traceback = None }) vs

  str_bare : (says : Says) (r : List ℕ) → IsBlind says → (p : Option Payload) → str_by says r now p ≡ str_by says r now (option_map bare p)
  str_bare None r blind None = refl
  str_bare None r blind (Some (payload.Exception e)) = refl
  str_bare None r blind (Some _) = refl
  str_bare (Some says) r blind None = refl
  str_bare (Some says) r blind (Some (payload.Exception e)) = blind e (items_of (payload_of now e.args))
  str_bare (Some says) r blind (Some _) = refl

  str_to : (says : Says) (r : List ℕ) (p : Option Payload) → str_by says r now p ≡ str_by says r objects p
  str_to None r None = refl
  str_to None r (Some _) = refl
  str_to (Some says) r None = refl
  str_to (Some says) r (Some (payload.Exception e)) = ap (says e) (items_are e.args)
  str_to (Some says) r (Some _) = refl

  str_by_same : (says : Says) (r : List ℕ) → IsBlind says → (v : Obj) → str_by says r now (payload_of now v) ≡ str_by says r objects (payload_of objects v)
  str_by_same says r blind v = read_bare (str_by says r now) (str_bare says r blind) v ∙ str_to says r (payload_of objects v)

  -- what exceptions say is the same where their arguments are
  says_same : (k : ℕ) → ((v : Obj) → str_within k now v ≡ str_within k objects v) → said_by (str_within k now) (repr_within k now) now ≡ said_by (str_within k objects) (repr_within k objects) objects
  says_same k strs =
      ap₂ (λ f g. said_by f g now) (fun_ext strs) (fun_ext (repr_same k)) ∙ fun_ext (λ e. fun_ext (λ vs. said_same (str_within k objects) (repr_within k objects) e vs))

  str_same : (k : ℕ) (v : Obj) → str_within k now v ≡ str_within k objects v
  str_same zero v = ap (λ r. str_by None r now (payload_of now v)) (repr_same zero v) ∙ str_by_same None (repr_within zero objects v) tt v
  str_same (suc k) v =
      let says : ExceptionBody → List Obj → List ℕ = said_by (str_within k objects) (repr_within k objects) objects in
      ap (λ f. str_by (Some f) (repr_within (suc k) now v) now (payload_of now v)) (says_same k (str_same k))
      ∙ (ap (λ r. str_by (Some says) r now (payload_of now v)) (repr_same (suc k) v) ∙ str_by_same (Some says) (repr_within (suc k) objects v) (λ e vs. refl) v)

  -- ---- events

  details_same : (vs : List Obj) → details now vs ≡ details objects vs
  details_same [] = refl
  details_same (v ∷ vs) = ap₂ (λ f g. codes ": " ++ said f g (v ∷ vs)) (fun_ext (str_same 1000)) (fun_ext (repr_same 1000))

  raised_same : (v : Obj) → raised now (payload_of now v) ≡ raised objects (payload_of objects v)
  raised_same v = read_bare (raised now) reads v ∙ to (payload_of objects v)
    where
      reads : (p : Option Payload) → raised now p ≡ raised now (option_map bare p)
      reads None = refl
      reads (Some (payload.Exception e)) = refl
      reads (Some _) = refl

      to : (p : Option Payload) → raised now p ≡ raised objects p
      to None = refl
      to (Some (payload.Exception e)) =
          ap₂ (λ name rest. encode_utf8_all name ++ rest) (class_named (class_object e.class)) (ap (details now) (items_are e.args) ∙ details_same (items_of (payload_of objects e.args)))
      to (Some _) = refl

  result_same : (d : ℕ) (w : DriveAnswer) → result_text now d w ≡ result_text objects d w
  result_same d (answer.Returns v) = ap (λ text. numbered d (codes " returns " ++ text)) (repr_same 1000 v)
  result_same d (answer.Yields v) = ap (λ text. numbered d (codes " yields " ++ text)) (repr_same 1000 v)
  result_same d (answer.Stops None) = refl
  result_same d (answer.Stops (Some v)) = ap (λ text. numbered d (codes " stops " ++ text)) (repr_same 1000 v)
  result_same d answer.Closes = refl
  result_same d (answer.Raises e) = ap (λ text. numbered d (codes " raises " ++ text)) (raised_same (as_object e))
  result_same d (answer.Reported text) = refl

  line_same : (v : Obj) → shown_line now v (payload_of now v) ≡ shown_line objects v (payload_of objects v)
  line_same v = read_bare (shown_line now v) reads v ∙ to (payload_of objects v)
    where
      reads : (p : Option Payload) → shown_line now v p ≡ shown_line now v (option_map bare p)
      reads None = refl
      reads (Some payload.None) = refl
      reads (Some _) = refl

      to : (p : Option Payload) → shown_line now v p ≡ shown_line objects v p
      to None = ap (λ text. text ++ codes "\n") (repr_same 1000 v)
      to (Some payload.None) = refl
      to (Some _) = ap (λ text. text ++ codes "\n") (repr_same 1000 v)

  request_same : (r : Request) → request_text now r ≡ request_text objects r
  request_same (request.Show v) = line_same v
  request_same _ = refl

  event_same : (e : Event) → event_text now e ≡ event_text objects e
  event_same (event.Result d w) = result_same d w
  event_same (event.Ask a r own at) = request_same r
  event_same _ = refl

-- ---- events one after another

linked_from : (m n k : ℕ) (objects : List Payload) (cs : List Change) (events : List Event) → AreLinks m n cs → text_from objects cs k events ≡ text_from objects [] k events
linked_from m n k objects cs [] are = refl
linked_from m n k objects cs (e ∷ es) are =
    ap₂ (λ first rest. first ++ rest) (event_same (store_at objects cs k) objects (store_bare m n k objects cs are) (changed_derives objects (filter (λ (c : Change). nat_le c.after k) cs)) e)
    (linked_from m n (k + 1) objects cs es are)

-- the text of a journal in which links alone change
pub linked_text : (m n : ℕ) (j : Journal) → AreLinks m n j.changes → text_of j ≡ events_text j.objects [] j.events
linked_text m n j are = linked_from m n 0 j.objects j.changes j.events are
