-- What an answer at once makes of the generators: a close closes one that wasn't entered, and all else stays.
use Rattle.std.proofs.Common.{◌≡◌, ℕ, List, [], ◌∷◌, Bool, true, false, eqb, Some, inl, inr, refl, sym, ap, subst, ◌∙◌, ◌⊎◌}
use Rattle.std.specs.Prelude.{Option, None, option_map, nat_le, if◌then◌else◌}
use Rattle.std.proofs.lemmas.Bool.Decides.{eqb_tells}
use Rattle.py_objects.specs.declared.payload.Payload.TheVariants as payload
use Rattle.py_objects.specs.declared.payload.CoroKind.{CoroKind}
use Rattle.py_objects.specs.declared.error_kind.ErrorKind.TheVariants.{GeneratorExit}
use Rattle.py_objects.specs.declared.request.Request.{Request}
use Rattle.py_objects.specs.declared.request.Request.TheVariants as request
use Rattle.py_objects.specs.declared.event.Event.{Event}
use Rattle.py_objects.specs.Objects.{Obj, HasPayload}
use Rattle.py_objects.specs.Edits.{Kept}
use Rattle.py_answers.specs.Answers.{BuiltIn, Reply, Closes}
use Rattle.py_coro.specs.declared.refusal.CoroRefusal.TheVariants as refusal
use Rattle.py_coro.specs.Modes.{Mode, Fresh, Suspended as Left, Running as Entered, Closed, most_depth, Exits, Refuses, closed}
use Rattle.py_coro.specs.Refusals.{word_of}
use Rattle.py_run.specs.Generators.{Generator, closed_by, generator_at, unentered, with_mode}
use Rattle.py_run.specs.Calls.{Says, Throws, ComesTo, course_by, kept_or_closed}
use Rattle.py_run.proofs.CoursesLemmas.{close_comes}
use Rattle.py_run.proofs.GeneratorsLemmas.{answers_keep}
use Rattle.py_vm.specs.declared.generators.KeptGenerator.{KeptGenerator}
use Rattle.py_vm.specs.declared.machinery.Core.{Core}
use Rattle.py_vm.specs.Courses.{closed_if, closed_of, shut_if}
use Rattle.py_vm.specs.Generators.{is_close, kept_at, modes_of, seen_as, shut}
use Rattle.py_vm.specs.Turns.{setting_at}
use Rattle.py_vm.proofs.KeptLemmas.{kept_nowhere, kept_object, modes_changed, seen_at}
use Rattle.py_vm.proofs.ChainLemmas.{Anyone}
use Rattle.py_vm.proofs.ChangesLemmas.{IsChange, IsStill, each_at, no_change, shut_change}
use Rattle.py_vm.specs.Stands.{AreEach}

-- modes change alike by what agrees on the one that is there
pub modes_alike : (xs : List Generator) (g : Obj) (f h : Mode → Mode) (z : Generator) → generator_at xs g ≡ Some z → f z.mode ≡ h z.mode → with_mode g f xs ≡ with_mode g h xs
modes_alike [] g f h z here same = refl
modes_alike (x ∷ xs) g f h z here same = found (eqb x.object.number g.number) here (λ next. modes_alike xs g f h z next same)
  where
    found : (b : Bool) → (if b then Some x else generator_at xs g) ≡ Some z → (generator_at xs g ≡ Some z → with_mode g f xs ≡ with_mode g h xs)
        → (if b then record x { mode = f x.mode } ∷ xs else x ∷ with_mode g f xs) ≡ (if b then record x { mode = h x.mode } ∷ xs else x ∷ with_mode g h xs)
    found true here later =
        let one : x ≡ z = cc here in
        ap (λ m. record x { mode = m } ∷ xs) (subst (λ (y : Generator). f y.mode ≡ h y.mode) (sym one) same)
    found false here later = ap (λ l. x ∷ l) (later here)

-- what an answer at once makes of generators, and of their modes
pub record IsShutting (m : Core) (q : Request) (list : List KeptGenerator) : Type 0 where
  pub change : (store : Kept) (e : Event) → IsChange m Anyone store e list
  pub modes : closed_by (Some q) (modes_of m.world.generators) ≡ modes_of list

-- nothing
stays : (m : Core) (q : Request) → closed_by (Some q) (modes_of m.world.generators) ≡ modes_of m.world.generators → IsShutting m q m.world.generators
stays m q modes = record { change = λ store e. no_change m store e; modes = modes }

-- which is so unless it is a close
other_stays : (m : Core) (q : Request) (reply : Reply) → ((g : Obj) → q ≡ request.Close g → ⊥) → IsShutting m q (shut_if (closed_of q reply) m.world.generators)
other_stays m (request.Close g) reply other = absurd (other g refl)
other_stays m q reply other = subst (λ o. IsShutting m q (shut_if o m.world.generators)) (sym (none q other)) (stays m q (answers_keep q (modes_of m.world.generators) (λ g x is here fresh. other g is)))
  where
    none : (q : Request) → ((g : Obj) → q ≡ request.Close g → ⊥) → closed_of q reply ≡ None
    none (request.Close g) other = absurd (other g refl)
    none _ other = refl

-- whether a request is a close; the clash of all others is said once, and not again for each
close_or_other : (q : Request) → ((g : Obj) × (q ≡ request.Close g)) ⊎ ((g : Obj) → q ≡ request.Close g → ⊥)
close_or_other (request.Close g) = inl (g, refl)
close_or_other _ = inr (λ g is. no_close (ap is_close is))
  where
    no_close : false ≡ true → ⊥
    no_close is = absurd (cc is)

module _ (m : Core) (g : Obj) (reply : Reply) where
  -- where none is found
  nowhere_stays : kept_at m.world.generators g ≡ None → IsShutting m (request.Close g) (shut_if (closed_if reply g) m.world.generators)
  nowhere_stays none = shut_at (closed_if reply g) which
    where
      unseen : generator_at (modes_of m.world.generators) g ≡ None
      unseen = seen_at m.world.generators g ∙ ap (option_map seen_as) none

      kept : closed_by (Some (request.Close g)) (modes_of m.world.generators) ≡ modes_of m.world.generators
      kept = answers_keep (request.Close g) (modes_of m.world.generators) (λ h x is here fresh.
          let same : g ≡ h = cc is in
          let there : generator_at (modes_of m.world.generators) g ≡ Some x = subst (λ o. generator_at (modes_of m.world.generators) o ≡ Some x) (sym same) here in
          absurd (let clash : None ≡ Some x = sym unseen ∙ there in cc clash))

      which : (closed_if reply g ≡ None) ⊎ (closed_if reply g ≡ Some g)
      which = of_reply reply
        where
          of_reply : (r : Reply) → (closed_if r g ≡ None) ⊎ (closed_if r g ≡ Some g)
          of_reply Closes = inr refl
          of_reply _ = inl refl

      shut_at : (o : Option Obj) → (o ≡ None) ⊎ (o ≡ Some g) → IsShutting m (request.Close g) (shut_if o m.world.generators)
      shut_at o (inl is) = subst (λ o. IsShutting m (request.Close g) (shut_if o m.world.generators)) (sym is) (stays m (request.Close g) kept)
      shut_at o (inr is) = subst (λ o. IsShutting m (request.Close g) (shut_if o m.world.generators)) (sym is) (subst (IsShutting m (request.Close g)) (sym (kept_nowhere g shut (λ x. refl) m.world.generators none)) (stays m (request.Close g) kept))

  module _ (x : KeptGenerator) (here : kept_at m.world.generators g ≡ Some x) where
    seen : generator_at (modes_of m.world.generators) g ≡ Some (seen_as x)
    seen = seen_at m.world.generators g ∙ ap (option_map seen_as) here

    -- one that is closed then, by a mode that this comes to
    shuts : (mode : Mode) → x.generator.mode ≡ mode → unentered mode ≡ Closed → IsStill mode → reply ≡ Closes → IsShutting m (request.Close g) (shut_if (closed_if reply g) m.world.generators)
    shuts mode is over still says = subst (λ r. IsShutting m (request.Close g) (shut_if (closed_if r g) m.world.generators)) (sym says) (record {
      change = λ store e. shut_change m store e g x here (subst IsStill (sym is) still);
      modes = modes_alike (modes_of m.world.generators) g unentered (λ k. Closed) (seen_as x) seen (ap unentered is ∙ over)
          ∙ sym (modes_changed g shut (λ y. refl) (λ k. Closed) (λ y. refl) (λ y. refl) m.world.generators);
    })

    -- one that stays
    refuses : (mode : Mode) → x.generator.mode ≡ mode → (mode ≡ Fresh → ⊥) → closed_if reply g ≡ None → IsShutting m (request.Close g) (shut_if (closed_if reply g) m.world.generators)
    refuses mode is fresh none = subst (λ o. IsShutting m (request.Close g) (shut_if o m.world.generators)) (sym none) (stays m (request.Close g) (answers_keep (request.Close g) (modes_of m.world.generators) (λ h y same found first.
        let objects : g ≡ h = cc same in
        let both : Some (seen_as x) ≡ Some y = sym seen ∙ subst (λ o. generator_at (modes_of m.world.generators) o ≡ Some y) (sym objects) found in
        let one : seen_as x ≡ y = cc both in
        fresh (sym is ∙ ap (λ (z : Generator). z.mode) one ∙ first))))

    -- by what the close comes to
    by_mode : (mode : Mode) → x.generator.mode ≡ mode → (kind : CoroKind) (depth : ℕ) → Says reply ≡ course_by (word_of kind) x.act (Throws x.act (BuiltIn GeneratorExit [])) (closed mode depth)
        → IsShutting m (request.Close g) (shut_if (closed_if reply g) m.world.generators)
    by_mode Fresh is kind depth says = shuts Fresh is refl tt (let same : reply ≡ Closes = cc says in same)
    by_mode Closed is kind depth says = shuts Closed is refl tt (let same : reply ≡ Closes = cc says in same)
    by_mode Entered is kind depth says = refuses Entered is (λ no. absurd (cc no)) (let same : reply ≡ _ = said_is _ _ says in ap (λ r. closed_if r g) same)
      where
        said_is : (r s : Reply) → Says r ≡ Says s → r ≡ s
        said_is r s is = cc is
    by_mode Left is kind depth says = deep (nat_le most_depth depth) says
      where
        said_is : (r s : Reply) → Says r ≡ Says s → r ≡ s
        said_is r s is = cc is

        deep : (b : Bool) → Says reply ≡ course_by (word_of kind) x.act (Throws x.act (BuiltIn GeneratorExit [])) (if b then Refuses refusal.TooDeep else Exits)
            → IsShutting m (request.Close g) (shut_if (closed_if reply g) m.world.generators)
        deep true says = refuses Left is (λ no. absurd (cc no)) (ap (λ r. closed_if r g) (said_is _ _ says))
        deep false says = absurd (cc says)

-- what an answer at once to any question makes of them
pub said_change : (m : Core) (made : ℕ) (q : Request) (reply : Reply) → AreEach m.world.codes m.globals m.world.store.made m.events made m.world.generators → ComesTo (setting_at m) m.world.store.made q (Says reply)
    → IsShutting m q (shut_if (closed_of q reply) m.world.generators)
said_change m made q reply each comes = elim (close_or_other q) [
  | inr other ↦ other_stays m q reply other
  | inl (g, is) ↦ subst (λ r. IsShutting m r (shut_if (closed_of r reply) m.world.generators)) (sym is) (closes g (kept_at m.world.generators g) refl (subst (λ r. ComesTo (setting_at m) m.world.store.made r (Says reply)) is comes))
]
  where
    closes : (g : Obj) (o : Option KeptGenerator) → kept_at m.world.generators g ≡ o → ComesTo (setting_at m) m.world.store.made (request.Close g) (Says reply) → IsShutting m (request.Close g) (shut_if (closed_if reply g) m.world.generators)
    closes g None none comes = nowhere_stays m g reply none
    closes g (Some x) here comes =
        let k = each_at m.world.codes m.globals m.world.store.made m.events made m.world.generators g x here each in
        let number : x.object.number ≡ g.number = number_is (kept_object m.world.generators g x here) in
        let has : HasPayload m.world.store.made g (payload.Generator k.body) = subst (λ (o : Obj). HasPayload m.world.store.made o (payload.Generator k.body)) (ap (λ n. let o : Obj = record { number = n } in o) number) k.entry in
        let (kind, y, kept, says) = close_comes (setting_at m) m.world.store.made g k.body (Says reply) has comes in
        let one : y ≡ seen_as x = kept.kept ∙ ap (kept_or_closed g) (seen_at m.world.generators g ∙ ap (option_map seen_as) here) in
        by_mode m g reply x here x.generator.mode refl kind (setting_at m).depth (subst (λ (z : Generator). Says reply ≡ course_by (word_of kind) z.act (Throws z.act (BuiltIn GeneratorExit [])) (closed z.mode (setting_at m).depth)) one says)
      where
        number_is : {n k : ℕ} → eqb n k ≡ true → n ≡ k
        number_is {n} {k} is = elim (eqb_tells n k) [
          | inl equal ↦ equal.1
          | inr differs ↦ absurd (let clash : true ≡ false = sym is ∙ differs.0 in cc clash)
        ]
