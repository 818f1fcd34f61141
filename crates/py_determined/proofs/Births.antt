-- The same replies give related objects, or new ones that are alike.
use Rattle.std.proofs.Common.{◌≡◌, ◌⊎◌, inl, inr, List, [], ◌∷◌, Bool, true, false, Some, None, refl, sym, subst}
use Rattle.std.specs.Prelude.{Option}
use Rattle.py_objects.specs.declared.payload.Payload.{Payload}
use Rattle.py_objects.specs.declared.payload.Payload.TheVariants as payload
use Rattle.py_objects.specs.declared.error_kind.ErrorKind.{ErrorKind}
use Rattle.py_objects.specs.declared.error_kind.ErrorKind.TheVariants.{OSError}
use Rattle.py_objects.specs.declared.refs.PyBaseExceptionRef.{PyBaseExceptionRef}
use Rattle.py_objects.specs.declared.refs.PyTypeRef.{PyTypeRef}
use Rattle.py_objects.specs.declared.event.Event.{Event}
use Rattle.py_objects.specs.ErrorKinds.{name_of}
use Rattle.py_objects.specs.Objects.{Obj, Name, HasPayload, as_object, class_object, declared}
use Rattle.py_objects.specs.Attrs.{Attrs}
use Rattle.py_objects.specs.Values.{new_exception}
use Rattle.py_exceptions.specs.Keeping.{os_args, os_attrs, kept_args, kept_attrs}
use Rattle.py_answers.specs.Answers.{Raised, This, Called, BuiltIn, Reply, Has, Is, Makes, Creates, Fails, FailsFrom, Passes, Yields, Stops, Closes, IsInstance, IsCalled, IsRaised, IsRaisedFrom, IsRaise, GivesValue, GivesRaise, stop_args, for_body}
use Rattle.py_answers.proofs.ReadingLemmas.{one_payload}
use Rattle.py_determined.specs.Raises.{IsTracebackOf}
use Rattle.py_agreement.specs.Agreement.{Relation, SameException, SameMaybe, SameAll}
use Rattle.py_determined.specs.Alike.{SameAttrs, AreAlike}
use Rattle.py_determined.specs.Sameness.{SameRaised, SameReply}
use Rattle.py_determined.proofs.AlikeLemmas.{derived_agree}
use Rattle.py_determined.proofs.Pairing.{AreBorn, IsBare}

-- one tuple has one list of entries
one_tuple : (objects : List Payload) (v : Obj) (vs ws : List Obj) → HasPayload objects v (payload.Tuple vs) → HasPayload objects v (payload.Tuple ws) → vs ≡ ws
one_tuple objects v vs ws has has' = let same : payload.Tuple vs ≡ payload.Tuple ws = one_payload objects v.number (payload.Tuple vs) (payload.Tuple ws) has has' in cc same

module _ (S : Relation) where
  -- ---- what is kept of related arguments

  os_args_same : (vs ws : List Obj) → SameAll S vs ws → SameAll S (os_args vs) (os_args ws)
  os_args_same [] [] s = tt
  os_args_same (a ∷ []) (b ∷ []) s = s
  os_args_same (a ∷ a2 ∷ []) (b ∷ b2 ∷ []) s = s
  os_args_same (a ∷ a2 ∷ a3 ∷ []) (b ∷ b2 ∷ b3 ∷ []) s = (s.0, (s.1.0, tt))
  os_args_same (a ∷ a2 ∷ a3 ∷ a4 ∷ []) (b ∷ b2 ∷ b3 ∷ b4 ∷ []) s = (s.0, (s.1.0, tt))
  os_args_same (a ∷ a2 ∷ a3 ∷ a4 ∷ a5 ∷ []) (b ∷ b2 ∷ b3 ∷ b4 ∷ b5 ∷ []) s = (s.0, (s.1.0, tt))
  os_args_same (a ∷ a2 ∷ a3 ∷ a4 ∷ a5 ∷ a6 ∷ vs) (b ∷ b2 ∷ b3 ∷ b4 ∷ b5 ∷ b6 ∷ ws) s = s
  os_args_same [] (b ∷ ws) s = absurd s
  os_args_same (a ∷ vs) [] s = absurd s
  os_args_same (a ∷ []) (b ∷ b2 ∷ ws) s = absurd s.1
  os_args_same (a ∷ a2 ∷ vs) (b ∷ []) s = absurd s.1
  os_args_same (a ∷ a2 ∷ []) (b ∷ b2 ∷ b3 ∷ ws) s = absurd s.1.1
  os_args_same (a ∷ a2 ∷ a3 ∷ vs) (b ∷ b2 ∷ []) s = absurd s.1.1
  os_args_same (a ∷ a2 ∷ a3 ∷ []) (b ∷ b2 ∷ b3 ∷ b4 ∷ ws) s = absurd s.1.1.1
  os_args_same (a ∷ a2 ∷ a3 ∷ a4 ∷ vs) (b ∷ b2 ∷ b3 ∷ []) s = absurd s.1.1.1
  os_args_same (a ∷ a2 ∷ a3 ∷ a4 ∷ []) (b ∷ b2 ∷ b3 ∷ b4 ∷ b5 ∷ ws) s = absurd s.1.1.1.1
  os_args_same (a ∷ a2 ∷ a3 ∷ a4 ∷ a5 ∷ vs) (b ∷ b2 ∷ b3 ∷ b4 ∷ []) s = absurd s.1.1.1.1
  os_args_same (a ∷ a2 ∷ a3 ∷ a4 ∷ a5 ∷ []) (b ∷ b2 ∷ b3 ∷ b4 ∷ b5 ∷ b6 ∷ ws) s = absurd s.1.1.1.1.1
  os_args_same (a ∷ a2 ∷ a3 ∷ a4 ∷ a5 ∷ a6 ∷ vs) (b ∷ b2 ∷ b3 ∷ b4 ∷ b5 ∷ []) s = absurd s.1.1.1.1.1

  os_attrs_same : (vs ws : List Obj) → SameAll S vs ws → SameAttrs S (os_attrs vs) (os_attrs ws)
  os_attrs_same [] [] s = tt
  os_attrs_same (a ∷ []) (b ∷ []) s = tt
  os_attrs_same (a ∷ a2 ∷ []) (b ∷ b2 ∷ []) s = tt
  os_attrs_same (a ∷ a2 ∷ a3 ∷ []) (b ∷ b2 ∷ b3 ∷ []) s = (refl, s.1.1.0, tt)
  os_attrs_same (a ∷ a2 ∷ a3 ∷ a4 ∷ []) (b ∷ b2 ∷ b3 ∷ b4 ∷ []) s = (refl, s.1.1.0, tt)
  os_attrs_same (a ∷ a2 ∷ a3 ∷ a4 ∷ a5 ∷ []) (b ∷ b2 ∷ b3 ∷ b4 ∷ b5 ∷ []) s = (refl, s.1.1.0, (refl, s.1.1.1.1.0, tt))
  os_attrs_same (a ∷ a2 ∷ a3 ∷ a4 ∷ a5 ∷ a6 ∷ vs) (b ∷ b2 ∷ b3 ∷ b4 ∷ b5 ∷ b6 ∷ ws) s = tt
  os_attrs_same [] (b ∷ ws) s = absurd s
  os_attrs_same (a ∷ vs) [] s = absurd s
  os_attrs_same (a ∷ []) (b ∷ b2 ∷ ws) s = absurd s.1
  os_attrs_same (a ∷ a2 ∷ vs) (b ∷ []) s = absurd s.1
  os_attrs_same (a ∷ a2 ∷ []) (b ∷ b2 ∷ b3 ∷ ws) s = absurd s.1.1
  os_attrs_same (a ∷ a2 ∷ a3 ∷ vs) (b ∷ b2 ∷ []) s = absurd s.1.1
  os_attrs_same (a ∷ a2 ∷ a3 ∷ []) (b ∷ b2 ∷ b3 ∷ b4 ∷ ws) s = absurd s.1.1.1
  os_attrs_same (a ∷ a2 ∷ a3 ∷ a4 ∷ vs) (b ∷ b2 ∷ b3 ∷ []) s = absurd s.1.1.1
  os_attrs_same (a ∷ a2 ∷ a3 ∷ a4 ∷ []) (b ∷ b2 ∷ b3 ∷ b4 ∷ b5 ∷ ws) s = absurd s.1.1.1.1
  os_attrs_same (a ∷ a2 ∷ a3 ∷ a4 ∷ a5 ∷ vs) (b ∷ b2 ∷ b3 ∷ b4 ∷ []) s = absurd s.1.1.1.1
  os_attrs_same (a ∷ a2 ∷ a3 ∷ a4 ∷ a5 ∷ []) (b ∷ b2 ∷ b3 ∷ b4 ∷ b5 ∷ b6 ∷ ws) s = absurd s.1.1.1.1.1
  os_attrs_same (a ∷ a2 ∷ a3 ∷ a4 ∷ a5 ∷ a6 ∷ vs) (b ∷ b2 ∷ b3 ∷ b4 ∷ b5 ∷ []) s = absurd s.1.1.1.1.1

  kept_args_same : (os os' : Bool) (vs ws : List Obj) → os ≡ os' → SameAll S vs ws → SameAll S (kept_args os vs) (kept_args os' ws)
  kept_args_same true true vs ws e s = os_args_same vs ws s
  kept_args_same false false vs ws e s = s
  kept_args_same true false vs ws e s = absurd (cc e)
  kept_args_same false true vs ws e s = absurd (cc e)

  kept_attrs_same : (os os' : Bool) (vs ws : List Obj) → os ≡ os' → SameAll S vs ws → SameAttrs S (kept_attrs os vs) (kept_attrs os' ws)
  kept_attrs_same true true vs ws e s = os_attrs_same vs ws s
  kept_attrs_same false false vs ws e s = tt
  kept_attrs_same true false vs ws e s = absurd (cc e)
  kept_attrs_same false true vs ws e s = absurd (cc e)

  -- ---- a reply as a body gets it

  stop_args_same : (v w : Option Obj) → SameMaybe S v w → SameAll S (stop_args v) (stop_args w)
  stop_args_same None None s = tt
  stop_args_same (Some v) (Some w) s = (s, tt)
  stop_args_same _ _ s = absurd s

  pub body_same : (x y : Reply) → SameReply S x y → SameReply S (for_body x) (for_body y)
  body_same (Has p) (Has q) s = s
  body_same (Is v) (Is w) s = s
  body_same (Makes c vs) (Makes d ws) s = s
  body_same (Creates b) (Creates c) s = s
  body_same (Fails k t) (Fails l u) s = s
  body_same (FailsFrom k t e) (FailsFrom l u f) s = s
  body_same (Passes x) (Passes y) s = s
  body_same (Yields v) (Yields w) s = s
  body_same (Stops v) (Stops w) s = (refl, stop_args_same v w s)
  body_same Closes Closes s = (refl, refl)
  body_same _ _ s = absurd s

  -- ---- what is given

  module _ (objects objects' : List Payload) (alike : AreAlike S objects objects') (es fs : List Event) where
    -- two objects are related, or new and alike
    abbrev pub AreGiven : Obj → Obj → Type 0
    AreGiven v w = S v w ⊎ AreBorn S objects objects' es fs v w

    -- the same of what an answer gives, which is no traceback where it is new, and has none
    abbrev pub AreAnswered : Obj → Obj → Type 0
    AreAnswered v w = S v w ⊎ (AreBorn S objects objects' es fs v w × IsBare objects v)

    -- the entries of two tuples are related, whatever they are read as
    arguments_same : (v w : Obj) (args args' vs ws : List Obj) → HasPayload objects v (payload.Tuple args) → HasPayload objects' w (payload.Tuple args') → SameAll S args args'
        → HasPayload objects v (payload.Tuple vs) → HasPayload objects' w (payload.Tuple ws) → SameAll S vs ws
    arguments_same v w args args' vs ws is is' s has has' =
        subst (λ l. SameAll S l ws) (one_tuple objects v args vs is has) (subst (λ l. SameAll S args l) (one_tuple objects' w args' ws is' has') s)

    -- new exceptions of related classes, with related arguments and attributes, are alike
    instance_born : (c d : PyTypeRef) (args args' : List Obj) (attrs attrs' : Attrs) (v w : Obj) → S (class_object c) (class_object d) → SameAll S args args' → SameAttrs S attrs attrs'
        → IsInstance objects es c args attrs v → IsInstance objects' fs d args' attrs' w → AreBorn S objects objects' es fs v w
    instance_born c d args args' attrs attrs' v w class same named is is' = record {
      first = payload.Exception (record (new_exception c is.args) { attrs = attrs });
      second = payload.Exception (record (new_exception d is'.args) { attrs = attrs' });
      has_first = is.entry;
      has_second = is'.entry;
      is_first = refl;
      is_second = refl;
      alike = record {
        class = class;
        arguments = λ vs ws has has'. arguments_same is.args is'.args args args' vs ws is.are is'.are same has has';
        attrs = named;
        cause = tt;
        context = tt;
        suppress = refl;
        traceback = tt;
      };
      new_first = is.new;
      new_second = is'.new;
    }

    -- so are those that calls of related classes make
    called_born : (c d : PyTypeRef) (vs ws : List Obj) (v w : Obj) → S (class_object c) (class_object d) → SameAll S vs ws → IsCalled objects es c vs v → IsCalled objects' fs d ws w
        → AreBorn S objects objects' es fs v w
    called_born c d vs ws v w class same (os, derived, is) (os', derived', is') =
        let both : os ≡ os' = derived_agree S objects objects' alike (class_object c) (class_object d) (name_of OSError) os os' class derived derived' in
        instance_born c d _ _ _ _ v w class (kept_args_same os os' vs ws both same) (kept_attrs_same os os' vs ws both same) is is'

    -- classes that are declared under one name
    class_same : (k l : ErrorKind) (c d : PyTypeRef) → k ≡ l → declared objects (name_of k) ≡ Some (class_object c) → declared objects' (name_of l) ≡ Some (class_object d)
        → S (class_object c) (class_object d)
    class_same k l c d same is is' =
        let both : SameMaybe S (declared objects (name_of k)) (declared objects' (name_of l)) =
        subst (λ m. SameMaybe S (declared objects (name_of k)) (declared objects' (name_of m))) same (alike.declares (name_of k)) in
        let here : SameMaybe S (Some (class_object c)) (declared objects' (name_of l)) = subst (λ o. SameMaybe S o (declared objects' (name_of l))) is both in
        subst (λ o. SameMaybe S (Some (class_object c)) o) is' here

    -- objects of one text are related
    message_same : (v w : Obj) (s t : Name) → s ≡ t → HasPayload objects v (payload.Str s) → HasPayload objects' w (payload.Str t) → S v w
    message_same v w s t same has has' = alike.literals (payload.Str s) v w refl has (subst (λ u. HasPayload objects' w (payload.Str u)) (sym same) has')

    -- new exceptions of one built-in class with one text are alike
    raised_born : (k l : ErrorKind) (s t : Name) (e f : PyBaseExceptionRef) → k ≡ l → s ≡ t → IsRaised objects es k s e → IsRaised objects' fs l t f
        → AreBorn S objects objects' es fs (as_object e) (as_object f)
    raised_born k l s t e f kind text is is' =
        instance_born is.class is'.class _ _ [] [] (as_object e) (as_object f) (class_same k l is.class is'.class kind is.is_class is'.is_class)
        (message_same is.argument is'.argument s t text is.message is'.message, tt) tt is.made is'.made

    -- so are those with related causes
    raised_from_born : (k l : ErrorKind) (s t : Name) (x y e f : PyBaseExceptionRef) → k ≡ l → s ≡ t → SameException S x y → IsRaisedFrom objects es k s x e → IsRaisedFrom objects' fs l t y f
        → AreBorn S objects objects' es fs (as_object e) (as_object f)
    raised_from_born k l s t x y e f kind text cause is is' = record {
      first = payload.Exception (record (new_exception is.class is.args) { cause = Some (as_object x); suppress = true });
      second = payload.Exception (record (new_exception is'.class is'.args) { cause = Some (as_object y); suppress = true });
      has_first = is.entry;
      has_second = is'.entry;
      is_first = refl;
      is_second = refl;
      alike = record {
        class = class_same k l is.class is'.class kind is.is_class is'.is_class;
        arguments = λ vs ws has has'. arguments_same is.args is'.args _ _ vs ws is.are is'.are (message_same is.argument is'.argument s t text is.message is'.message, tt) has has';
        attrs = tt;
        cause = cause;
        context = tt;
        suppress = refl;
        traceback = tt;
      };
      new_first = is.new;
      new_second = is'.new;
    }

    -- an exception that a call makes is bare
    called_bare : (c : PyTypeRef) (vs : List Obj) (v : Obj) → IsCalled objects es c vs v → IsBare objects v
    called_bare c vs v (os, derived, is) = (_, is.entry, refl)

    -- the same raise
    pub raise_given : (x y : Raised) (e f : PyBaseExceptionRef) → SameRaised S x y → IsRaise objects es x e → IsRaise objects' fs y f → AreAnswered (as_object e) (as_object f)
    raise_given (This x) (This y) e f s is is' =
        inl (subst (λ (z : PyBaseExceptionRef). SameException S z f) (sym is) (subst (λ (z : PyBaseExceptionRef). SameException S x z) (sym is') s))
    raise_given (Called c vs) (Called d ws) e f s is is' = inr (called_born c d vs ws (as_object e) (as_object f) s.0 s.1 is is', called_bare c vs (as_object e) is)
    raise_given (BuiltIn k vs) (BuiltIn l ws) e f s (c, there, is) (d, there', is') =
        inr (called_born c d vs ws (as_object e) (as_object f) (class_same k l c d s.0 there there') s.1 is is', called_bare c vs (as_object e) is)
    raise_given _ _ e f s is is' = absurd s

    -- the value of the same reply
    pub value_given : (x y : Reply) (v w : Obj) → SameReply S x y → GivesValue objects es x v → GivesValue objects' fs y w → AreAnswered v w
    value_given (Has p) (Has q) v w s is is' = inl (alike.literals p v w s.1 is (subst (λ o. HasPayload objects' w o) (sym s.0) is'))
    value_given (Is x) (Is y) v w s is is' = inl (subst (λ (z : Obj). S z w) (sym is) (subst (λ (z : Obj). S x z) (sym is') s))
    value_given (Makes c vs) (Makes d ws) v w s is is' = inr (called_born c d vs ws v w s.0 s.1 is is', called_bare c vs v is)
    value_given (Creates b) (Creates c) v w s (new, has) (new', has') = inr (
      record {
        first = payload.Generator b;
        second = payload.Generator c;
        has_first = has;
        has_second = has';
        is_first = refl;
        is_second = refl;
        alike = s;
        new_first = new;
        new_second = new';
      },
      (payload.Generator b, has, refl),
    )
    value_given (Fails k t) y v w s is is' = absurd is
    value_given (FailsFrom k t e) y v w s is is' = absurd is
    value_given (Passes x) y v w s is is' = absurd is
    value_given (Yields x) y v w s is is' = absurd is
    value_given (Stops x) y v w s is is' = absurd is
    value_given Closes y v w s is is' = absurd is
    value_given _ _ v w s is is' = absurd s

    -- and its raise
    pub raised_given : (x y : Reply) (e f : PyBaseExceptionRef) → SameReply S x y → GivesRaise objects es x e → GivesRaise objects' fs y f → AreAnswered (as_object e) (as_object f)
    raised_given (Fails k s) (Fails l t) e f same is is' = inr (raised_born k l s t e f same.0 same.1 is is', (_, is.made.entry, refl))
    raised_given (FailsFrom k s x) (FailsFrom l t y) e f same is is' = inr (raised_from_born k l s t x y e f same.0 same.1 same.2 is is', (_, is.entry, refl))
    raised_given (Passes x) (Passes y) e f same is is' = raise_given x y e f same is is'
    raised_given (Has p) y e f same is is' = absurd is
    raised_given (Is v) y e f same is is' = absurd is
    raised_given (Makes c vs) y e f same is is' = absurd is
    raised_given (Creates b) y e f same is is' = absurd is
    raised_given (Yields v) y e f same is is' = absurd is
    raised_given (Stops v) y e f same is is' = absurd is
    raised_given Closes y e f same is is' = absurd is
    raised_given _ _ e f same is is' = absurd same

    -- the same reply gives no value in the one run and a raise in the other
    pub not_both : (x y : Reply) (v : Obj) (e : PyBaseExceptionRef) → SameReply S x y → GivesValue objects es x v → GivesRaise objects' fs y e → ⊥
    not_both (Has p) (Has q) v e s is is' = is'
    not_both (Is x) (Is y) v e s is is' = is'
    not_both (Makes c vs) (Makes d ws) v e s is is' = is'
    not_both (Creates b) (Creates c) v e s is is' = is'
    not_both (Fails k t) y v e s is is' = is
    not_both (FailsFrom k t x) y v e s is is' = is
    not_both (Passes x) y v e s is is' = is
    not_both (Yields x) y v e s is is' = is
    not_both (Stops x) y v e s is is' = is
    not_both Closes y v e s is is' = is
    not_both _ _ v e s is is' = s

    -- nor a raise in the one and a value in the other
    pub nor_both : (x y : Reply) (e : PyBaseExceptionRef) (w : Obj) → SameReply S x y → GivesRaise objects es x e → GivesValue objects' fs y w → ⊥
    nor_both (Fails k t) (Fails l u) e w s is is' = is'
    nor_both (FailsFrom k t x) (FailsFrom l u y) e w s is is' = is'
    nor_both (Passes x) (Passes y) e w s is is' = is'
    nor_both (Has p) y e w s is is' = is
    nor_both (Is v) y e w s is is' = is
    nor_both (Makes c vs) y e w s is is' = is
    nor_both (Creates b) y e w s is is' = is
    nor_both (Yields v) y e w s is is' = is
    nor_both (Stops v) y e w s is is' = is
    nor_both Closes y e w s is is' = is
    nor_both _ _ e w s is is' = s

    -- two tracebacks of the same raise
    pub traceback_given : (known known' : Option Obj) (t u : Obj) → SameMaybe S known known' → IsTracebackOf objects es known t → IsTracebackOf objects' fs known' u → AreGiven t u
    traceback_given None None t u s (new, (body, has)) (new', (body', has')) = inr (record {
      first = payload.Traceback body;
      second = payload.Traceback body';
      has_first = has;
      has_second = has';
      is_first = refl;
      is_second = refl;
      alike = tt;
      new_first = new;
      new_second = new';
    })
    traceback_given (Some v) (Some w) t u s is is' = inl (subst (λ (z : Obj). S z u) (sym is) (subst (λ (z : Obj). S v z) (sym is') s))
    traceback_given _ _ t u s is is' = absurd s
