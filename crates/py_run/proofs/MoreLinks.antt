-- The links that came of events come of them still, as more objects and more changes come.
use Rattle.std.proofs.Common.{◌≡◌, ◌<◌, ◌≤◌, ◌+◌, ◌++◌, ◌∙◌, ℕ, zero, suc, List, [], ◌∷◌, Bool, true, false, Some, inl, inr, refl, sym, ap, subst, length, arith, append-nil, length-append}
use Rattle.std.specs.Option.{option_or}
use Rattle.std.specs.Prelude.{Option, None, filter, ◌==◌, ◌&&◌, nat_le}
use Rattle.std.proofs.lemmas.Option.{slice_get_within}
use Rattle.std.proofs.lemmas.Bool.Decides.{nat_tests}
use Rattle.std.proofs.lemmas.List.Elements.{filter-append}
use Rattle.py_objects.specs.declared.payload.Payload.{Payload}
use Rattle.py_objects.specs.declared.payload.Payload.TheVariants as payload
use Rattle.py_objects.specs.declared.edit.Edit.TheVariants as edit
use Rattle.py_objects.specs.declared.edit.LinkField.TheVariants as link
use Rattle.py_objects.specs.declared.edit.Change.{Change}
use Rattle.py_objects.specs.declared.refs.FrameRef.{FrameRef}
use Rattle.py_objects.specs.declared.refs.PyBaseExceptionRef.{PyBaseExceptionRef}
use Rattle.py_objects.specs.declared.request.Request.{Request}
use Rattle.py_objects.specs.declared.request.Request.TheVariants as request
use Rattle.py_objects.specs.declared.event.GotAnswer.{GotAnswer}
use Rattle.py_objects.specs.declared.event.GotAnswer.TheVariants as got
use Rattle.py_objects.specs.declared.event.ResumeHow.{ResumeHow}
use Rattle.py_objects.specs.declared.event.ResumeHow.TheVariants as how
use Rattle.py_objects.specs.declared.event.Event.{Event}
use Rattle.py_objects.specs.declared.event.Event.TheVariants as event
use Rattle.py_objects.specs.Objects.{Obj, AllBelow, HasPayload, as_exception, as_object}
use Rattle.py_objects.specs.Own.{Own}
use Rattle.py_objects.specs.Telling.{ThrowTest}
use Rattle.py_objects.specs.Changes.{changed_by, store_at}
use Rattle.py_objects.specs.Growth.{Grows}
use Rattle.py_objects.proofs.FrameEntriesLemmas.{frame_stays}
use Rattle.py_objects.proofs.Slots.{there}
use Rattle.py_objects.proofs.GrowthLemmas.{payload_grown}
use Rattle.py_exceptions.specs.Walks.{link_at}
use Rattle.py_run.specs.Run.{Act, Activation, State, after, handled_among}
use Rattle.py_run.specs.Raises.{is_raising}
use Rattle.py_run.specs.Links.{AsksNow, ComeOf, ComeOfAnswer, ComeOfTop, GetsContext, GivesContext, HandlesThen, HasLinksOf, IsFrameOf, IsToldNow, Lines, LinksCome, MayUnder, ObjectEdit, PutsEntry, Raises, RaisesIf, Scene, TellsNow, cut, is_fresh, is_link, links_at, named_by, named_in, scene_at, unless_same}
use Rattle.py_run.proofs.LinksLemmas.{AllSeenBelow, EditsBelow, NotedBelow, context_grown, first_below, first_same, last_below, set_below, stays_below, traceback_grown}

-- ---- later changes

-- the later changes are of no earlier event, and links of none of these
abbrev pub AreLater : ℕ → List Change → Type 0
AreLater n [] = Unit {0}
AreLater n (c ∷ cs) = (n ≤ c.after) × (is_link c.edit ≡ true → n < c.after) × AreLater n cs

due_by : (a k : ℕ) → nat_le a k ≡ true → a ≤ k
due_by a k is = grind (arith, nat_tests)

number_is : (a k : ℕ) → (a == k) ≡ true → a ≡ k
number_is a k is = grind (arith, nat_tests)

not_due : (n k : ℕ) (cs : List Change) → k < n → AreLater n cs → filter (λ (c : Change). nat_le c.after k) cs ≡ []
not_due n k [] low later = refl
not_due n k (c ∷ cs) low later = by (nat_le c.after k) refl (not_due n k cs low later.2)
  where
    by : (b : Bool) → nat_le c.after k ≡ b → filter (λ (d : Change). nat_le d.after k) cs ≡ [] → filter (λ (d : Change). nat_le d.after k) (c ∷ cs) ≡ []
    by true is rest = let due : c.after ≤ k = due_by c.after k is in absurd (omega (arith, due, low, later.0))
    by false is rest = rw is rest

not_then : (n k : ℕ) (cs : List Change) → k ≤ n → AreLater n cs → links_at k cs ≡ []
not_then n k [] low later = refl
not_then n k (c ∷ cs) low later = by (c.after == k) (is_link c.edit) refl refl (not_then n k cs low later.2)
  where
    by : (b x : Bool) → (c.after == k) ≡ b → is_link c.edit ≡ x → links_at k cs ≡ [] → links_at k (c ∷ cs) ≡ []
    by false x is sets rest = rw is rest
    by true false is sets rest = rw (is, sets) rest
    by true true is sets rest = let same : c.after ≡ k = number_is c.after k is in let past = later.1 sets in absurd (omega (arith, same, past, low))

-- ---- what was there is there still

-- the frame of an activation is so among more objects
pub frame_grown : (objects objects' : List Payload) (made : List Activation) (act : ℕ) (frame : FrameRef) → Grows objects objects' → IsFrameOf objects made act frame → IsFrameOf objects' made act frame
frame_grown objects objects' made act frame grows is = record {
  at = is.at;
  numbered = is.numbered;
  activation = is.activation;
  is_made = is.is_made;
  body = is.body;
  is_function = payload_grown objects objects' is.activation.function (payload.Function is.body) grows is.is_function;
  entry = payload_grown objects objects' (record { number = frame.number }) (payload.Frame is.body.code) grows is.entry;
  made_with = frame_stays objects objects' is.at frame.number grows is.made_with;
}

-- ---- more objects and more changes

-- lines are the same ones, or more
abbrev pub LinesGo : Lines → Lines → Type 0
LinesGo lines lines' = (code at line : ℕ) → lines code at ≡ Some line → lines' code at ≡ Some line

module _ (made others : List Payload) (changes more : List Change) (n : ℕ) (later : AreLater n more) where
  due_more : (k : ℕ) → k < n → filter (λ (c : Change). nat_le c.after k) (changes ++ more) ≡ filter (λ (c : Change). nat_le c.after k) changes
  due_more k low =
      filter-append (λ (c : Change). nat_le c.after k) changes more
      ∙ ap (λ l. filter (λ (c : Change). nat_le c.after k) changes ++ l) (not_due n k more low later) ∙ append-nil (filter (λ (c : Change). nat_le c.after k) changes)

  store_more : (k : ℕ) → k < n → store_at (made ++ others) (changes ++ more) k ≡ changed_by (made ++ others) (filter (λ (c : Change). nat_le c.after k) changes)
  store_more k low = ap (changed_by (made ++ others)) (due_more k low)

  then_more : (k : ℕ) → k ≤ n → links_at k (changes ++ more) ≡ links_at k changes
  then_more k low =
      filter-append (λ (c : Change). (c.after == k) && is_link c.edit) changes more ∙ ap (λ l. links_at k changes ++ l) (not_then n k more low later) ∙ append-nil (links_at k changes)

  -- the traceback of an object that is there
  traceback_more : (k : ℕ) → k < n → (v : Obj) → v.number < length made → link_at link.Traceback (store_at (made ++ others) (changes ++ more) k) v ≡ link_at link.Traceback (store_at made changes k) v
  traceback_more k low v within =
      ap (λ l. link_at link.Traceback l v) (store_more k low) ∙ traceback_grown made others (filter (λ (c : Change). nat_le c.after k) changes) v within

  -- what is told of it
  told_more : (k : ℕ) → k < n → (r : Request) → AsksNow made (store_at made changes k) r → AsksNow (made ++ others) (store_at (made ++ others) (changes ++ more) k) r
  told_more k low (request.Exit x c e t) (inl (first, second, third)) =
      let grows : Grows made (made ++ others) = (others, refl) in
      inl (payload_grown made (made ++ others) c payload.None grows first, payload_grown made (made ++ others) e payload.None grows second, payload_grown made (made ++ others) t payload.None grows third)
  told_more k low (request.Exit x c e t) (inr (body, has, class, told)) =
      let within : e.number < length made = slice_get_within made e.number (payload.Exception body) has in
      inr (
        body,
        payload_grown made (made ++ others) e (payload.Exception body) (others, refl) has,
        class,
        subst (λ o. IsToldNow (made ++ others) o t) (sym (traceback_more k low e within)) (by (link_at link.Traceback (store_at made changes k) e) told),
      )
    where
      by : (o : Option Obj) → IsToldNow made o t → IsToldNow (made ++ others) o t
      by None has = payload_grown made (made ++ others) t payload.None (others, refl) has
      by (Some v) is = is
  told_more k low _ tells = tt

  tells_more : (k : ℕ) → k < n → (e : Event) → TellsNow made (store_at made changes k) e → TellsNow (made ++ others) (store_at (made ++ others) (changes ++ more) k) e
  tells_more k low (event.Ask a r own at) tells = told_more k low r tells
  tells_more k low _ tells = tt

  module _ (named : EditsBelow (length made) changes) (below : AllSeenBelow (length made) made) where
    -- a context that is given, by the way from one that is there
    given_more : (k : ℕ) → k < n → (h : Option PyBaseExceptionRef) (e : PyBaseExceptionRef) (edits : List ObjectEdit) → NotedBelow (length made) (suc k) edits
        → GivesContext (store_at made changes k) h e edits → GivesContext (store_at (made ++ others) (changes ++ more) k) h e edits
    given_more k low None e edits there gives = gives
    given_more k low (Some h) e edits there gives = by (h.number == e.number) gives
      where
        by : (b : Bool) → unless_same b (store_at made changes k) (as_object h) (as_object e) edits → unless_same b (store_at (made ++ others) (changes ++ more) k) (as_object h) (as_object e) edits
        by true gives = gives
        by false (found, first, is) =
            let set : NotedBelow (length made) (suc k) (cut found ++ (as_object e, edit.Link link.Context (Some (as_object h))) ∷ []) = subst (NotedBelow (length made) (suc k)) is there in
            let last : NotedBelow (length made) (suc k) ((as_object e, edit.Link link.Context (Some (as_object h))) ∷ []) = last_below (length made) (suc k) (cut found) _ set in
            let within : h.number < length made = (last.0 refl).1.0 in (
              found,
              first_same (length made) (link_at link.Context (store_at made changes k)) (link_at link.Context (store_at (made ++ others) (changes ++ more) k))
                  (λ v lt. ap (λ l. link_at link.Context l v) (store_more k low) ∙ context_grown made others (filter (λ (c : Change). nat_le c.after k) changes) v lt)
                  (stays_below (length made) k made changes named below) (as_object h) within (as_object e) found first,
              is,
            )

    -- what comes of an event
    module _ (may may' : MayUnder) (carry : (t : ThrowTest) (f : Obj) (vs : List Obj) (own : List Own) → may t f vs own → may' t f vs own) (lines lines' : Lines) (go : LinesGo lines lines')
        (before : List Event) (s : State) (low : length before < n) where
      was : Scene
      was = scene_at may lines made changes before s

      is : Scene
      is = scene_at may' lines' (made ++ others) (changes ++ more) before s

      -- these edits are of objects that are there
      abbrev There : List ObjectEdit → Type 0
      There edits = NotedBelow (length made) (suc (length before)) edits

      gets_more : (b : Bool) (e : PyBaseExceptionRef) (edits : List ObjectEdit) → There edits → GetsContext b was e edits → GetsContext b is e edits
      unfolding was is
      gets_more true e edits there gets = given_more (length before) low (handled_among s.stack) e edits there gets
      gets_more false e edits there gets = gets

      puts_more : (act at : ℕ) (e : PyBaseExceptionRef) (edits : List ObjectEdit) → There edits → PutsEntry lines made was act at e edits → PutsEntry lines' (made ++ others) is act at e edits
      unfolding was is frame_grown
      puts_more act at e edits there puts =
          let grows : Grows made (made ++ others) = (others, refl) in
          let set : There ((as_object e, edit.Link link.Traceback (Some puts.entry)) ∷ []) = subst There puts.puts there in
          let within : e.number < length made = (set.0 refl).0 in
          record {
            frame = puts.frame;
            is_frame = frame_grown made (made ++ others) s.made act puts.frame grows puts.is_frame;
            line = puts.line;
            is_line = go puts.is_frame.body.code at puts.line puts.is_line;
            entry = puts.entry;
            has =
                subst (λ (o : Option Obj). HasPayload (made ++ others) puts.entry (payload.Traceback (record { next = o; frame = puts.frame; lasti = suc at; lineno = puts.line })))
                (sym (traceback_more (length before) low (as_object e) within)) (payload_grown made (made ++ others) puts.entry _ grows puts.has);
            newer = subst (λ (cs : List Change). AllBelow puts.entry.number (named_by before ++ named_in cs)) (sym (due_more (length before) low)) puts.newer;
            puts = puts.puts;
          }

      raises_more : (b : Bool) (act at : ℕ) (e : PyBaseExceptionRef) (edits : List ObjectEdit) → There edits → Raises lines made b was act at e edits → Raises lines' (made ++ others) b is act at e edits
      unfolding was is
      raises_more b act at e edits there raises =
          let both : There (raises.contexts ++ raises.entries) = subst There raises.both there in
          record {
            contexts = raises.contexts;
            gets = gets_more b e raises.contexts (first_below (length made) (suc (length before)) raises.contexts raises.entries both) raises.gets;
            entries = raises.entries;
            puts = puts_more act at e raises.entries (last_below (length made) (suc (length before)) raises.contexts raises.entries both) raises.puts;
            both = raises.both;
          }

      raises_if_more : (b : Bool) (act at : ℕ) (v : Obj) (edits : List ObjectEdit) → There edits → RaisesIf lines made b was act at v edits → RaisesIf lines' (made ++ others) b is act at v edits
      unfolding was is
      raises_if_more true act at v edits there raises = raises_more true act at (as_exception v) edits there raises
      raises_if_more false act at v edits there none = none

      answer_more : (asked : Option Request) (act at : ℕ) (w : GotAnswer) (edits : List ObjectEdit) → There edits → ComeOfAnswer lines made asked was act at w edits → ComeOfAnswer lines' (made ++ others) asked is act at w edits
      unfolding was is
      answer_more asked act at (got.Value v) edits there come = raises_if_more (is_raising asked) act at v edits there come
      answer_more asked act at (got.Stop v) edits there come = come
      answer_more asked act at (got.Raise e) edits there come = raises_more (is_fresh before e) act at e edits there come

      top_more : (stack : List Act) (act : ℕ) (w : GotAnswer) (edits : List ObjectEdit) → There edits → ComeOfTop lines made stack was act w edits → ComeOfTop lines' (made ++ others) stack is act w edits
      unfolding was is
      top_more [] act w edits there come = come
      top_more (top ∷ rest) act w edits there come = answer_more top.asks act top.at w edits there come

      handles_more : (a : ℕ) (how : ResumeHow) (h : Option PyBaseExceptionRef) → HandlesThen may was a how h → HandlesThen may' is a how h
      unfolding was is
      handles_more zero how h handles = handles
      handles_more (suc i) how h (x, made_at, tells) = (x, made_at, carry _ x.function x.args _ tells)

      come_more : (e : Event) (edits : List ObjectEdit) → There edits → ComeOf may lines made was e edits → ComeOf may' lines' (made ++ others) is e edits
      unfolding was is
      come_more (event.Got a w) edits there come = top_more s.stack a w edits there come
      come_more (event.Resume a (how.Throw e)) edits there (h, handles, gives) =
          (h, handles_more a (how.Throw e) h handles, given_more (length before) low (option_or h (handled_among s.stack)) e edits there gives)
      come_more (event.Resume a how.Start) edits there come = come
      come_more (event.Resume a (how.Send v)) edits there come = come
      come_more _ edits there come = come

      has_more : (e : Event) → HasLinksOf may lines made changes before s e → HasLinksOf may' lines' (made ++ others) (changes ++ more) before s e
      unfolding was is
      has_more e (edits, come, are) =
          (edits, come_more e edits (set_below (length made) (suc (length before)) changes edits named are) come, then_more (suc (length before)) (omega (arith, low)) ∙ are)

    -- and of events that follow others
    pub links_more : (may may' : MayUnder) → ((t : ThrowTest) (f : Obj) (vs : List Obj) (own : List Own) → may t f vs own → may' t f vs own) → (lines lines' : Lines) → LinesGo lines lines'
        → (before : List Event) (s : State) (es : List Event) → length before + length es ≤ n → LinksCome may lines made changes before s es
        → LinksCome may' lines' (made ++ others) (changes ++ more) before s es
    links_more may may' carry lines lines' go before s [] low come = tt
    links_more may may' carry lines lines' go before s (e ∷ es) low (tells, has, come) =
        let longer : length (before ++ e ∷ []) ≡ length before + 1 = length-append before (e ∷ []) in (
          tells_more (length before) (omega (arith, low)) e tells,
          has_more may may' carry lines lines' go before s (omega (arith, low)) e has,
          links_more may may' carry lines lines' go (before ++ e ∷ []) (after s e) es (omega (arith, low, longer)) come,
        )
