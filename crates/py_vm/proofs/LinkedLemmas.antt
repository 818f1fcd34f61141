-- What links add to a machine, one part after another: growth with links, and what that says of earlier ones.
use Rattle.std.proofs.Common.{◌≡◌, ◌≤◌, ◌<◌, ◌++◌, ◌∙◌, ℕ, suc, List, [], ◌∷◌, sym, ap, subst, length, append_assoc, append-nil, arith, ◌+◌, length-append, Option}
use Rattle.std.proofs.lemmas.Option.{slice_get_within}
use Rattle.py_objects.specs.declared.payload.Payload.{Payload}
use Rattle.py_objects.specs.declared.payload.Payload.TheVariants as payload
use Rattle.py_objects.specs.declared.edit.Change.{Change}
use Rattle.py_objects.specs.Edits.{Kept}
use Rattle.py_objects.specs.Growth.{Grows}
use Rattle.py_objects.specs.Objects.{Obj}
use Rattle.py_objects.specs.Originals.{ChangesBelow}
use Rattle.py_objects.specs.Own.{Own}
use Rattle.py_objects.specs.Telling.{ThrowTest}
use Rattle.py_objects.proofs.GrowthLemmas.{grows_plainly_refl, grows_plainly_trans, payload_grown, plainly_grows}
use Rattle.py_run.specs.Links.{AreLinks, LinksCome}
use Rattle.py_run.proofs.LinksLemmas.{all_seen_below, edits_below, links_join}
use Rattle.py_run.proofs.MoreLinks.{AreLater, LinesGo, links_more}
use Rattle.py_vm.specs.declared.machinery.Core.{Core}
use Rattle.py_vm.specs.Advancing.{may_of, IsCarriedOn, Advances, Drove}
use Rattle.py_vm.specs.Codes.{Checked, plain_codes}
use Rattle.py_vm.specs.Links.{lines_of, AreLinksAmong, GrowsLinked}
use Rattle.py_vm.specs.RowsOf.{RowsUnder}
use Rattle.py_answers.proofs.ReadableLemmas.{link_stays}
use Rattle.py_vm.proofs.LinksLemmas.{link_below}
use Rattle.py_vm.proofs.RowsOfLemmas.{rows_under_still}
use Rattle.py_run.specs.declared.drive.Question.{Question}
use Rattle.py_objects.specs.declared.event.DriveAnswer.{DriveAnswer}
use Rattle.py_run.specs.Run.{State, start, state_after}
use Rattle.py_run.proofs.OwnLemmas.{state_lists}

-- ---- growth with links

-- no link came
pub linked_refl : (n : ℕ) (s : Kept) → GrowsLinked n n s s
linked_refl n s = record { objects = grows_plainly_refl s.made; links = ([], sym (append-nil s.changes), tt) }

-- links of some events, and of later ones
links_from : (objects : List Payload) (from next to : ℕ) (more : List Change) → from ≤ next → AreLinksAmong objects next to more → AreLinksAmong objects from to more
links_from objects from next to [] low are = tt
links_from objects from next to (c ∷ cs) low (is, exception, sets, at_least, at_most, rest) = (is, exception, sets, omega (arith, low, at_least), at_most, rest)

links_trans : (old new : List Payload) (from mid next to : ℕ) (cs more : List Change) → Grows old new → from ≤ next → mid ≤ next → mid ≤ to → AreLinksAmong old from mid cs → AreLinksAmong new next to more → AreLinksAmong new from to (cs ++ more)
links_trans old new from mid next to [] more grows low on high first second = links_from new from next to more low second
links_trans old new from mid next to (c ∷ cs) more grows low on high (is, (b, has), sets, at_least, at_most, rest) second =
    (is, (b, payload_grown old new c.object (payload.Exception b) grows has), link_stays old new c.edit grows sets, at_least, omega (arith, at_most, high), links_trans old new c.after mid next to cs more grows (omega (arith, at_most, on)) on high rest second)

pub linked_trans : (n k l : ℕ) (old mid new : Kept) → n ≤ k → k ≤ l → GrowsLinked n k old mid → GrowsLinked k l mid new → GrowsLinked n l old new
linked_trans n k l old mid new low high first second =
    let (cs, is, are) = first.links in
    let (more, after, come) = second.links in
    record {
      objects = grows_plainly_trans old.made mid.made new.made first.objects second.objects;
      links = (
        cs ++ more,
        after ∙ ap (λ l. l ++ more) is ∙ append_assoc old.changes cs more,
        links_trans mid.made new.made (suc n) k (suc k) l cs more (plainly_grows mid.made new.made second.objects) (omega (arith, low)) (omega arith) high are come,
      );
    }

-- ---- what holds of earlier links

-- links that come after so many events are later
pub are_later : (n to : ℕ) (objects : List Payload) (from : ℕ) (more : List Change) → n < from → AreLinksAmong objects from to more → AreLater n more
are_later n to objects from [] later are = tt
are_later n to objects from (c ∷ cs) later (is, exception, sets, at_least, at_most, rest) =
    let after : n < c.after = omega (arith, later, at_least) in
    (omega (arith, after), (λ link. after), are_later n to objects c.after cs after rest)

-- links of what is there are links alone
pub links_alone : (objects : List Payload) (from to : ℕ) (cs : List Change) → AreLinksAmong objects from to cs → AreLinks from to cs
links_alone objects from to [] are = tt
links_alone objects from to (c ∷ cs) (is, exception, sets, at_least, at_most, rest) = (is, at_least, at_most, links_alone objects c.after to cs rest)

-- and name what is there
pub links_named : (objects : List Payload) (from to : ℕ) (cs : List Change) → AreLinksAmong objects from to cs → ChangesBelow (length objects) cs
links_named objects from to [] are = tt
links_named objects from to (c ∷ cs) (is, (b, has), sets, at_least, at_most, rest) =
    (slice_get_within objects c.object.number (payload.Exception b) has, link_below objects c.edit sets, links_named objects c.after to cs rest)

-- changes and more of them, each of which names what is there
pub below_both : (n : ℕ) (cs more : List Change) → ChangesBelow n cs → ChangesBelow n more → ChangesBelow n (cs ++ more)
below_both n [] more first second = second
below_both n (c ∷ cs) more (object, named, rest) second = (object, named, below_both n cs more rest second)

-- activations may tell the same as a machine goes on
pub may_grow : (m m' : Core) → IsCarriedOn m m' → Grows m.world.store.made m'.world.store.made → (t : ThrowTest) (f : Obj) (vs : List Obj) (own : List Own) → may_of m t f vs own → may_of m' t f vs own
may_grow m m' kept grows t f vs own tells =
    subst (λ (c : Checked). RowsUnder t (plain_codes c) m'.globals m'.world.store.made f vs own) (sym kept.codes)
    (subst (λ (g : Obj). RowsUnder t (plain_codes m.world.codes) g m'.world.store.made f vs own) (sym kept.globals)
    (rows_under_still t (plain_codes m.world.codes) m.globals m.world.store.made m'.world.store.made f vs own grows tells))

-- and so are their lines
lines_stay : (m m' : Core) → IsCarriedOn m m' → LinesGo (lines_of m.world.codes) (lines_of m'.world.codes)
lines_stay m m' kept code at line is = ap (λ (c : Checked). lines_of c code at) kept.codes ∙ is

-- ---- a drive that goes on

-- what turns leave alone, one behind the other
pub kept_trans : (m0 m m' : Core) → length m0.events ≤ length m.events → length m.events ≤ length m'.events → IsCarriedOn m0 m → IsCarriedOn m m' → IsCarriedOn m0 m'
kept_trans m0 m m' low high first second = record {
  grows = linked_trans (length m0.events) (length m.events) (length m'.events) m0.world.store m.world.store m'.world.store low high first.grows second.grows;
  codes = second.codes ∙ first.codes;
  globals = second.globals ∙ first.globals;
  entered = second.entered ∙ first.entered;
  failed = second.failed ∙ first.failed;
  state = second.state ∙ first.state;
}

-- no event goes
pub drove_longer : (m0 m : Core) (d : Question) (n : ℕ) → Drove m0 d n m → length m0.events ≤ length m.events
drove_longer m0 m d n drove = let sum : length m.events ≡ length m0.events + length drove.part = ap length drove.events ∙ length-append m0.events drove.part in omega (arith, sum)

pub kept_on : (m0 m m' : Core) (d : Question) (n : ℕ) (a : Option DriveAnswer) → Drove m0 d n m → Advances m d a m' → IsCarriedOn m0 m'
kept_on m0 m m' d n a drove turns =
    let one : length m'.events ≡ length m.events + 1 = ap length turns.events ∙ length-append m.events (turns.added ∷ []) in
    kept_trans m0 m m' (drove_longer m0 m d n drove) (omega (arith, one)) drove.kept turns.kept

-- the links of the part so far, among more objects and changes
pub part_links : (m0 m m' : Core) (d : Question) (n : ℕ) → (drove : Drove m0 d n m) → IsCarriedOn m m' → LinksCome (may_of m') (lines_of m'.world.codes) m'.world.store.made m'.world.store.changes m0.events (state_after start m0.events) drove.part
part_links m0 m m' d n drove kept =
    let (others, is) : Grows m.world.store.made m'.world.store.made = plainly_grows m.world.store.made m'.world.store.made kept.grows.objects in
    let (more, after, are) = kept.grows.links in
    let k = drove.keeps in
    let sum : length m.events ≡ length m0.events + length drove.part = ap length drove.events ∙ length-append m0.events drove.part in
    subst (λ (l : List Change). LinksCome (may_of m') (lines_of m'.world.codes) m'.world.store.made l m0.events (state_after start m0.events) drove.part) (sym after)
    (subst (λ (l : List Payload). LinksCome (may_of m') (lines_of m'.world.codes) l (m.world.store.changes ++ more) m0.events (state_after start m0.events) drove.part) (sym is)
    (links_more m.world.store.made others m.world.store.changes more (length m.events) (are_later (length m.events) (length m'.events) m'.world.store.made (suc (length m.events)) more (omega arith) are)
    (edits_below (length m.world.store.made) m.world.store.changes k.marked.below) (all_seen_below m.world.store.made k.stored.readable.fit)
    (may_of m) (may_of m') (may_grow m m' kept (others, is)) (lines_of m.world.codes) (lines_of m'.world.codes) (lines_stay m m' kept) m0.events (state_after start m0.events) drove.part (omega (arith, sum)) drove.links))

pub links_on : (m0 m m' : Core) (d : Question) (n : ℕ) (a : Option DriveAnswer) → (drove : Drove m0 d n m) → (turns : Advances m d a m')
    → LinksCome (may_of m') (lines_of m'.world.codes) m'.world.store.made m'.world.store.changes m0.events (state_after start m0.events) (drove.part ++ turns.added ∷ [])
links_on m0 m m' d n a drove turns =
    let st : state_after (state_after start m0.events) drove.part ≡ state_after start m.events = sym (state_lists start m0.events drove.part) ∙ ap (state_after start) (sym drove.events) in
    links_join (may_of m') (lines_of m'.world.codes) m'.world.store.made m'.world.store.changes m0.events (state_after start m0.events) drove.part (turns.added ∷ []) (part_links m0 m m' d n drove turns.kept)
    (subst (λ l. LinksCome (may_of m') (lines_of m'.world.codes) m'.world.store.made m'.world.store.changes l (state_after (state_after start m0.events) drove.part) (turns.added ∷ [])) drove.events
    (subst (λ (s : State). LinksCome (may_of m') (lines_of m'.world.codes) m'.world.store.made m'.world.store.changes m.events s (turns.added ∷ [])) (sym st) (turns.tells, turns.links, tt)))
