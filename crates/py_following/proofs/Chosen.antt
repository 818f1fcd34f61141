-- The objects of a drive's arguments, by what the event behind it shows: where a run has an object there is one, and where that is shown it is the same.
use Rattle.std.proofs.Common.{◌≡◌, ◌⊎◌, ◌∙◌, ℕ, suc, List, [], ◌∷◌, Bool, true, false, cond, Some, None, inl, inr, refl, sym, ap, length}
use Rattle.std.specs.Prelude.{Option, All, slice_get, option_map}
use Rattle.std.proofs.lemmas.List.Elements.{All-head, All-tail}
use Rattle.std.proofs.lemmas.Option.{same_Some}
use Rattle.py_objects.specs.declared.payload.Payload.{Payload}
use Rattle.py_objects.specs.declared.payload.Payload.TheVariants as payload
use Rattle.py_objects.specs.declared.event.DriveAnswer.{DriveAnswer}
use Rattle.py_objects.specs.declared.event.DriveAnswer.TheVariants as answer
use Rattle.py_objects.specs.declared.event.Event.{Event}
use Rattle.py_objects.specs.Objects.{Obj, HasPayload}
use Rattle.py_lines.specs.declared.drive.DriveAtom.{DriveAtom}
use Rattle.py_lines.specs.declared.drive.DriveAtom.TheVariants as atom
use Rattle.py_grammar.specs.Grammar.{Decl}
use Rattle.py_grammar.specs.WellFormed.{NumbersDrive, IsDrivable}
use Rattle.py_meaning.specs.Whole.{IsLeft, IsLeftBy, IsOf, AreOf}
use Rattle.py_places.specs.Cells.{is_literal, first_of}
use Rattle.py_places.proofs.Literals.{IsLiteralPayload, same_of, none_literal, bool_literal, int_literal, str_literal, first_has, none_has}
use Rattle.py_following.specs.Drives.{Sought, This, Any_of, left_by, left_at, sought, object_of, object_if, in_front, objects_of}

module _ (objects : List Payload) where
  -- an object is what is sought
  abbrev pub IsIt : Sought → Obj → Type 0
  IsIt (This w) v = v ≡ w
  IsIt (Any_of p) v = IsLiteralPayload p × HasPayload objects v p

  -- two objects are one, or have one payload
  abbrev pub AreAlike : Obj → Obj → Type 0
  AreAlike v w = (v ≡ w) ⊎ ((p : Payload) × HasPayload objects v p × HasPayload objects w p)

  -- two that are what is sought are so
  pub are_alike : (s : Sought) (v w : Obj) → IsIt s v → IsIt s w → AreAlike v w
  are_alike (This u) v w is is' = inl (is ∙ sym is')
  are_alike (Any_of p) v w is is' = inr (p, is.1, is'.1)

  -- what an answer leaves is sought by it
  pub left_is : (w : DriveAnswer) (v : Obj) → IsLeft objects w v → IsIt (left_by w) v
  left_is (answer.Returns u) v is = is
  left_is (answer.Yields u) v is = is
  left_is (answer.Stops None) v is = (none_literal, is)
  left_is (answer.Stops (Some u)) v is = is
  left_is answer.Closes v is = (none_literal, is)
  left_is (answer.Raises e) v is = is
  left_is (answer.Reported text) v is = (none_literal, is)

  -- the first object of a literal, where it has one
  first_is : (p : Payload) (v : Obj) (found : Option Obj) → first_of objects p ≡ found → IsLiteralPayload p → HasPayload objects v p
      → (w : Obj) × (first_of objects p ≡ Some w) × HasPayload objects w p
  first_is p v None is one has = absurd (none_has objects p v one is has)
  first_is p v (Some w) is one has = (w, is, first_has objects p w is)

  -- what is of a literal has its payload, and the other way round
  literal_has : (p : Payload) (found : Option Payload) → is_literal p found ≡ true → found ≡ Some p
  literal_has p None is = absurd (cc is)
  literal_has p (Some q) is = ap (λ x. Some x) (same_of q p is)

  has_literal : (p : Payload) (v : Obj) → IsLiteralPayload p → HasPayload objects v p → is_literal p (slice_get objects v.number) ≡ true
  has_literal p v one has = ap (is_literal p) has ∙ one

  module _ (answers : List DriveAnswer) where
    -- the object of an argument, where these are what it may be
    pub record IsChosen (shown : Option Obj) (s : Sought) (v : Obj) : Type 0 where
      pub object : Obj
      pub is : object_of objects answers shown s ≡ Some object
      pub fits : IsIt s object
      pub same : shown ≡ Some v → object ≡ v

    shown_is : (b : Bool) (u : Obj) (p : Payload) (v : Obj) → is_literal p (slice_get objects u.number) ≡ b → IsLiteralPayload p → HasPayload objects v p
        → (w : Obj) × (cond b (Some u) (first_of objects p) ≡ Some w) × HasPayload objects w p × (Some u ≡ Some v → w ≡ v)
    shown_is true u p v is one has = (u, refl, literal_has p (slice_get objects u.number) is, λ same. same_Some u v same)
    shown_is false u p v is one has =
        let (w, found, has') = first_is p v (first_of objects p) refl one has in
        (w, found, has', λ same. absurd (cc (sym is ∙ ap (λ (x : Obj). is_literal p (slice_get objects x.number)) (same_Some u v same) ∙ has_literal p v one has)))

    pub chosen : (shown : Option Obj) (s : Sought) (v : Obj) → IsIt s v → IsChosen shown s v
    chosen shown (This u) v is = record { object = u; is = refl; fits = refl; same = λ e. sym is }
    chosen None (Any_of p) v (one, has) =
        let (w, found, has') = first_is p v (first_of objects p) refl one has in
        record { object = w; is = found; fits = (one, has'); same = λ e. absurd (cc e) }
    chosen (Some u) (Any_of p) v (one, has) =
        let (w, found, has', same) = shown_is (is_literal p (slice_get objects u.number)) u p v refl one has in
        record { object = w; is = found; fits = (one, has'); same = same }

    -- ---- arguments

    module _ (decls : List Decl) (events : List Event) (made : ℕ) where
      -- what earlier drives left is known
      abbrev pub LeftKnown : Type 0
      LeftKnown = (n : ℕ) (v : Obj) → NumbersDrive made n → IsLeftBy objects events n v → (s : Sought) × (left_at objects answers n ≡ Some s) × IsIt s v

      -- so what an argument is
      pub argument_is : (a : DriveAtom) (v : Obj) → LeftKnown → IsDrivable decls made a → IsOf objects events a v → (s : Sought) × (sought objects answers a ≡ Some s) × IsIt s v
      argument_is atom.None v known may has = (Any_of payload.None, refl, (none_literal, has))
      argument_is (atom.Bool b) v known may has = (Any_of (payload.Bool b), refl, (bool_literal b, has))
      argument_is (atom.Int n) v known may has = (Any_of (payload.Int n), refl, (int_literal n, has))
      argument_is (atom.Str s) v known may has = (Any_of (payload.Str s), refl, (str_literal s, has))
      argument_is (atom.Name x) v known may is = (This v, ap (option_map This) is, refl)
      argument_is (atom.Drive n) v known may left = known n v may left

      -- objects of arguments, where these are shown in their places and a run has those
      pub record AreChosen (atoms : List DriveAtom) (shown vs : List Obj) : Type 0 where
        pub chosen_ones : List Obj
        pub are : objects_of objects answers atoms shown ≡ Some chosen_ones
        pub count : length chosen_ones ≡ length vs
        pub same : shown ≡ vs → chosen_ones ≡ vs

      -- an argument in front of others
      in_front_is : (found : Option Obj) (others : Option (List Obj)) (w : Obj) (ws : List Obj) → found ≡ Some w → others ≡ Some ws
          → in_front objects answers found others ≡ Some (w ∷ ws)
      in_front_is found others w ws one more = ap (λ m. in_front objects answers m others) one ∙ ap (in_front objects answers (Some w)) more

      found_is : (shown : Option Obj) (a : DriveAtom) (s : Sought) (v : Obj) → sought objects answers a ≡ Some s → (c : IsChosen shown s v)
          → object_if objects answers shown (sought objects answers a) ≡ Some c.object
      found_is shown a s v is c = ap (object_if objects answers shown) is ∙ c.is

      pub arguments_are : (atoms : List DriveAtom) (shown vs : List Obj) → LeftKnown → All (IsDrivable decls made) atoms → AreOf objects events atoms vs → AreChosen atoms shown vs
      arguments_are [] shown [] known may are = record { chosen_ones = []; are = refl; count = refl; same = λ e. refl }
      arguments_are [] shown (v ∷ vs) known may are = absurd are
      arguments_are (a ∷ atoms) shown [] known may are = absurd are
      arguments_are (a ∷ atoms) [] (v ∷ vs) known may are =
          let (s, is, fits) = argument_is a v known (All-head (IsDrivable decls made) a atoms may) are.0 in
          let one = chosen None s v fits in
          let more = arguments_are atoms [] vs known (All-tail (IsDrivable decls made) a atoms may) are.1 in
          record {
            chosen_ones = one.object ∷ more.chosen_ones;
            are = in_front_is _ _ one.object more.chosen_ones (found_is None a s v is one) more.are;
            count = ap suc more.count;
            same = λ e. absurd (cc e);
          }
      arguments_are (a ∷ atoms) (u ∷ us) (v ∷ vs) known may are =
          let (s, is, fits) = argument_is a v known (All-head (IsDrivable decls made) a atoms may) are.0 in
          let one = chosen (Some u) s v fits in
          let more = arguments_are atoms us vs known (All-tail (IsDrivable decls made) a atoms may) are.1 in
          record {
            chosen_ones = one.object ∷ more.chosen_ones;
            are = in_front_is _ _ one.object more.chosen_ones (found_is (Some u) a s v is one) more.are;
            count = ap suc more.count;
            same = λ e.
                let first : u ≡ v = cc e in
                let others : us ≡ vs = cc e in
                let here : one.object ≡ v = one.same (ap (λ x. Some x) first) in
                let there : more.chosen_ones ≡ vs = more.same others in
                cc (here, there);
          }
