-- The report of an exception stays the same as more objects come.
use Rattle.std.proofs.Common.{◌≡◌, ◌≢◌, ◌≤◌, ◌<◌, ◌+◌, ◌++◌, ◌∙◌, ℕ, zero, suc, Bool, true, false, List, [], ◌∷◌, Some, None, inl, inr, refl, sym, ap, subst, length, cond, ◌⊎◌, arith, eqb}
use Rattle.std.specs.Prelude.{Option, slice_get, codes, encode_utf8_all, is_some, bytes_eq}
use Rattle.std.proofs.lemmas.Option.{slice_get_within}
use Rattle.std.proofs.lemmas.Bool.Decides.{nat_tests}
use Rattle.std.specs.List.{list_any, position_from}
use Rattle.py_objects.specs.declared.payload.Payload.{Payload}
use Rattle.py_objects.specs.declared.payload.Payload.TheVariants as payload
use Rattle.py_objects.specs.declared.payload.ExceptionBody.{ExceptionBody}
use Rattle.py_objects.specs.declared.payload.TracebackBody.{TracebackBody}
use Rattle.py_objects.specs.declared.payload.ClassBody.{ClassBody}
use Rattle.py_objects.specs.declared.edit.LinkField.{LinkField}
use Rattle.py_objects.specs.declared.edit.LinkField.TheVariants as link
use Rattle.py_objects.specs.declared.refs.PyTypeRef.{PyTypeRef}
use Rattle.py_objects.specs.Objects.{Obj, Name, class_object, numbers, numbers_if, attr_numbers, pair_numbers, payload_numbers, AllBelow}
use Rattle.py_objects.specs.Ancestry.{class_at, class_in, derives, derives_by, derives_from, first_class, has_name}
use Rattle.py_objects.specs.declared.error_kind.ErrorKind.TheVariants.{KeyError, OSError, SyntaxError}
use Rattle.py_objects.specs.ErrorKinds.{name_of}
use Rattle.py_objects.specs.Attrs.{Attrs, value_of}
use Rattle.py_exceptions.specs.Repr.{Inner, payload_of, class_name, items_of, joined, in_parentheses, tuple_of, pair_by, dict_of, shown, repr_within}
use Rattle.py_exceptions.specs.Said.{attribute, base_name, file_and, files, found_at, given, key_said, line_between, os_said, said, said_by, second_file, syntax_said, text_at, text_in, unless_none, whereabouts}
use Rattle.py_exceptions.specs.Texts.{details, raised, repr, str, str_by, str_within}
use Rattle.py_exceptions.specs.Walks.{led, link_at, link_in, link_of, on_link}
use Rattle.py_exceptions.specs.Orders.{IsOrder}
use Rattle.py_reports.specs.declared.chain.Chained.{Chained}
use Rattle.py_reports.specs.declared.chain.Sentence.TheVariants as between
use Rattle.py_reports.specs.declared.place.Place.{Place}
use Rattle.py_reports.specs.Chains.{before_at, before_by, before_in, chained, sentence_at, IsChain}
use Rattle.py_reports.specs.Entries.{entries_text, entry_at, entry_in, placed_text, traceback_text, HasEntries}
use Rattle.py_reports.specs.Parts.{end_of_line, lines_before, said_at, said_with, syntax_error_at, syntax_error_in, part_text, IsPart}
use Rattle.py_reports.specs.Reports.{IsPiece, IsReport, IsText}
use Rattle.py_reports.specs.Scenes.{Scene, SourceLines, place_in, place_of, scene_with}
use Rattle.py_reports.specs.SyntaxLines.{attribute_text, column_at, column_in, column_of, found_end, found_line, found_of, is_syntax_error, shown_text, str_if, syntax_lines, text_lines, Found}
use Rattle.py_reports.proofs.ClosedLemmas.{apart, below_back, below_front, front_same, IsClosed, NamesBelow}

module _ (objects more : List Payload) (closed : IsClosed objects) where
  abbrev all : List Payload
  all = objects ++ more

  -- an object that is there
  abbrev There : Obj → Type 0
  There v = v.number < length objects

  abbrev Each : List Obj → Type 0
  Each vs = AllBelow (length objects) (numbers vs)

  abbrev If : Option Obj → Type 0
  If o = AllBelow (length objects) (numbers_if o)

  payload_same : (v : Obj) → There v → payload_of all v ≡ payload_of objects v
  payload_same v there = front_same objects more v.number there

  -- what is there names what is there
  abbrev Names : Option Payload → Type 0
  Names None = Unit {0}
  Names (Some p) = AllBelow (length objects) (payload_numbers p)

  named : (v : Obj) → Names (payload_of objects v)
  named v = by (payload_of objects v) refl
    where
      by : (p : Option Payload) → payload_of objects v ≡ p → Names p
      by None at = tt
      by (Some p) at = closed v.number p at

  items_there : (p : Option Payload) → Names p → Each (items_of p)
  items_there (Some (payload.Tuple vs)) names = names
  items_there (Some _) names = tt
  items_there None names = tt

  -- ---- representations

  abbrev Agree : (f g : Obj → List ℕ) → Type 0
  Agree f g = (v : Obj) → There v → f v ≡ g v

  abbrev AgreeInner : (f g : Inner) → Type 0
  AgreeInner None None = Unit {0}
  AgreeInner (Some f) (Some g) = Agree f g
  AgreeInner _ _ = ⊥

  joined_same : (f g : Obj → List ℕ) → Agree f g → (vs : List Obj) → Each vs → joined f vs ≡ joined g vs
  joined_same f g agree [] each = refl
  joined_same f g agree (v ∷ []) each = agree v each.0
  joined_same f g agree (v ∷ w ∷ vs) each = ap (λ l. l ++ (codes ", " ++ joined f (w ∷ vs))) (agree v each.0) ∙ ap (λ l. g v ++ (codes ", " ++ l)) (joined_same f g agree (w ∷ vs) each.1)

  pair_same : (f g : Obj → List ℕ) → Agree f g → (p : Obj × Obj) → There p.0 → There p.1 → pair_by f p ≡ pair_by g p
  pair_same f g agree p first second = ap (λ l. l ++ (codes ": " ++ f p.1)) (agree p.0 first) ∙ ap (λ l. g p.0 ++ (codes ": " ++ l)) (agree p.1 second)

  pairs_same : (f g : Obj → List ℕ) → Agree f g → (ps : List (Obj × Obj)) → AllBelow (length objects) (pair_numbers ps) → joined (pair_by f) ps ≡ joined (pair_by g) ps
  pairs_same f g agree [] each = refl
  pairs_same f g agree (p ∷ []) each = pair_same f g agree p each.0 each.1.0
  pairs_same f g agree (p ∷ q ∷ ps) each =
      ap (λ l. l ++ (codes ", " ++ joined (pair_by f) (q ∷ ps))) (pair_same f g agree p each.0 each.1.0) ∙ ap (λ l. pair_by g p ++ (codes ", " ++ l)) (pairs_same f g agree (q ∷ ps) each.1.1)

  parens_same : (f g : Inner) → AgreeInner f g → (vs : List Obj) → Each vs → in_parentheses f vs ≡ in_parentheses g vs
  parens_same None None agree vs each = refl
  parens_same (Some f) (Some g) agree vs each = ap (λ l. codes "(" ++ (l ++ codes ")")) (joined_same f g agree vs each)
  parens_same None (Some g) agree vs each = absurd agree
  parens_same (Some f) None agree vs each = absurd agree

  tuple_same : (f g : Inner) → AgreeInner f g → (vs : List Obj) → Each vs → tuple_of f vs ≡ tuple_of g vs
  tuple_same None None agree vs each = refl
  tuple_same (Some f) (Some g) agree [] each = refl
  tuple_same (Some f) (Some g) agree (v ∷ []) each = ap (λ l. codes "(" ++ (l ++ codes ",)")) (agree v each.0)
  tuple_same (Some f) (Some g) agree (v ∷ w ∷ vs) each = ap (λ l. codes "(" ++ (l ++ codes ")")) (joined_same f g agree (v ∷ w ∷ vs) each)
  tuple_same None (Some g) agree vs each = absurd agree
  tuple_same (Some f) None agree vs each = absurd agree

  dict_same : (f g : Inner) → AgreeInner f g → (ps : List (Obj × Obj)) → AllBelow (length objects) (pair_numbers ps) → dict_of f ps ≡ dict_of g ps
  dict_same None None agree ps each = refl
  dict_same (Some f) (Some g) agree ps each = ap (λ l. codes "{" ++ (l ++ codes "}")) (pairs_same f g agree ps each)
  dict_same None (Some g) agree ps each = absurd agree
  dict_same (Some f) None agree ps each = absurd agree

  class_same : (e : ExceptionBody) → There (class_object e.class) → class_name (payload_of all (class_object e.class)) ≡ class_name (payload_of objects (class_object e.class))
  class_same e there = ap class_name (payload_same (class_object e.class) there)

  args_same : (e : ExceptionBody) → There e.args → items_of (payload_of all e.args) ≡ items_of (payload_of objects e.args)
  args_same e there = ap items_of (payload_same e.args there)

  args_there : (e : ExceptionBody) → Each (items_of (payload_of objects e.args))
  args_there e = items_there (payload_of objects e.args) (named e.args)

  shown_same : (f g : Inner) → AgreeInner f g → (p : Option Payload) → Names p → shown f all p ≡ shown g objects p
  shown_same f g agree (Some (payload.Tuple vs)) names = tuple_same f g agree vs names
  shown_same f g agree (Some (payload.Dict ps)) names = dict_same f g agree ps names
  shown_same f g agree (Some (payload.Exception e)) names =
      let parts : NamesBelow (length objects) e = apart (length objects) e names in
      ap (λ n. encode_utf8_all n ++ in_parentheses f (items_of (payload_of all e.args))) (class_same e parts.class)
      ∙ ap (λ l. encode_utf8_all (class_name (payload_of objects (class_object e.class))) ++ l)
      (ap (in_parentheses f) (args_same e parts.args) ∙ parens_same f g agree (items_of (payload_of objects e.args)) (args_there e))
  shown_same f g agree (Some (payload.Bool true)) names = refl
  shown_same f g agree (Some (payload.Bool false)) names = refl
  shown_same f g agree (Some _) names = refl
  shown_same f g agree None names = refl

  repr_same : (k : ℕ) → Agree (repr_within k all) (repr_within k objects)
  repr_same zero v there = ap (shown None all) (payload_same v there) ∙ shown_same None None tt (payload_of objects v) (named v)
  repr_same (suc k) v there =
      ap (shown (Some (repr_within k all)) all) (payload_same v there) ∙ shown_same (Some (repr_within k all)) (Some (repr_within k objects)) (repr_same k) (payload_of objects v) (named v)

  -- ---- what a class derives from

  position_at : (test : Payload → Bool) (i : ℕ) (ps : List Payload) (n : ℕ) → position_from test i ps ≡ Some n → i ≤ n
  position_at test i [] n is = absurd (cc is)
  position_at test i (p ∷ ps) n is = by (test p) is (position_at test (i + 1) ps n)
    where
      by : (b : Bool) → cond b (Some i) (position_from test (i + 1) ps) ≡ Some n → (position_from test (i + 1) ps ≡ Some n → i + 1 ≤ n) → i ≤ n
      by true is rest = let same : i ≡ n = cc is in omega (arith, same)
      by false is rest = let low = rest is in omega (arith, low)

  -- a search among more finds what it found, or something behind what was there, or nothing
  abbrev FindsMore : (i : ℕ) (found long : Option ℕ) → ℕ → Type 0
  FindsMore i found long n = (long ≡ found) ⊎ ((found ≡ None) × ((k : ℕ) → long ≡ Some k → i + n ≤ k))

  finds_more : (test : Payload → Bool) (i : ℕ) (ps : List Payload) → FindsMore i (position_from test i ps) (position_from test i (ps ++ more)) (length ps)
  finds_more test i [] = inr (refl, λ k is. let low = position_at test i more k is in omega (arith, low))
  finds_more test i (p ∷ ps) = by (test p) (finds_more test (i + 1) ps)
    where
      by : (b : Bool) → FindsMore (i + 1) (position_from test (i + 1) ps) (position_from test (i + 1) (ps ++ more)) (length ps)
          → FindsMore i (cond b (Some i) (position_from test (i + 1) ps)) (cond b (Some i) (position_from test (i + 1) (ps ++ more))) (suc (length ps))
      by true rest = inl refl
      by false (inl same) = inl same
      by false (inr (none, behind)) = inr (none, λ k is. let low = behind k is in omega (arith, low))

  -- no class that is there derives from one that came later
  none_equal : (n k : ℕ) → n < k → eqb n k ≡ false
  none_equal n k low = grind (arith, nat_tests)

  none_among : (vs : List Obj) (k : ℕ) → Each vs → length objects ≤ k → list_any (λ (v : Obj). eqb v.number k) vs ≡ false
  none_among [] k each low = refl
  none_among (v ∷ vs) k each low =
      let first : v.number < length objects = each.0 in
      rw (none_equal v.number k (omega (arith, first, low))) (none_among vs k each.1 low)

  derives_same : (v : Obj) (n : Name) → There v → derives_from all v n ≡ derives_from objects v n
  derives_same v n there =
      ap (λ c. derives_by v c (first_class n all)) (ap class_in (payload_same v there)) ∙ by (class_at objects v) refl (finds_more (λ p. has_name n (class_in (Some p))) 0 objects)
    where
      later : (c : ClassBody) → class_at objects v ≡ Some c → (long : Option ℕ) → ((k : ℕ) → long ≡ Some k → 0 + length objects ≤ k) → derives_by v (Some c) long ≡ false
      later c is None behind = refl
      later c is (Some k) behind =
          let low = behind k refl in
          let mine : v.number < length objects = there in
          rw (none_equal v.number k (omega (arith, low, mine))) (none_among c.mro k (mro c is) (omega (arith, low)))
        where
          mro : (c : ClassBody) → class_at objects v ≡ Some c → Each c.mro
          mro c is = by_payload (payload_of objects v) (named v) is
            where
              by_payload : (p : Option Payload) → Names p → class_in p ≡ Some c → Each c.mro
              by_payload (Some (payload.Class d)) names is = let same : d ≡ c = cc is in subst (λ (x : ClassBody). Each x.mro) same names
              by_payload (Some _) names is = absurd (cc is)
              by_payload None names is = absurd (cc is)

      by : (c : Option ClassBody) → class_at objects v ≡ c → FindsMore 0 (first_class n objects) (first_class n all) (length objects) → derives_by v c (first_class n all) ≡ derives_by v (class_at objects v) (first_class n objects)
      by None at finds = sym (ap (λ c. derives_by v c (first_class n objects)) at)
      by (Some c) at (inl same) = ap (derives_by v (Some c)) same ∙ sym (ap (λ c. derives_by v c (first_class n objects)) at)
      by (Some c) at (inr (none, behind)) = later c at (first_class n all) behind ∙ sym (ap (λ c. derives_by v c (first_class n objects)) at ∙ ap (derives_by v (Some c)) none)

  -- ---- texts

  value_there : (x : Name) (attrs : Attrs) → AllBelow (length objects) (attr_numbers attrs) → If (value_of x attrs)
  value_there x [] below = tt
  value_there x (a ∷ attrs) below = by (bytes_eq x a.0) (value_there x attrs below.1)
    where
      by : (b : Bool) → If (value_of x attrs) → If (cond b (Some a.1) (value_of x attrs))
      by true rest = (below.0, tt)
      by false rest = rest

  given_same : (o : Option Obj) → If o → given all o ≡ given objects o
  given_same None there = refl
  given_same (Some v) there = ap (unless_none v) (payload_same v there.0)

  given_there : (o : Option Obj) → If o → If (given objects o)
  given_there None there = tt
  given_there (Some v) there = by (payload_of objects v)
    where
      by : (p : Option Payload) → If (unless_none v p)
      by None = there
      by (Some payload.None) = tt
      by (Some _) = there

  module _ (e : ExceptionBody) (names : NamesBelow (length objects) e) where
    attribute_same : (x : Name) → attribute all e x ≡ attribute objects e x
    attribute_same x = given_same (value_of x e.attrs) (value_there x e.attrs names.attrs)

    attribute_there : (x : Name) → If (attribute objects e x)
    attribute_there x = given_there (value_of x e.attrs) (value_there x e.attrs names.attrs)

  text_at_same : (o : Option Obj) → If o → text_at all o ≡ text_at objects o
  text_at_same None there = refl
  text_at_same (Some v) there = ap text_in (payload_same v there.0)

  choose : (a b c : Bool) (k k' o o' s s' x x' : List ℕ) → k ≡ k' → o ≡ o' → s ≡ s' → x ≡ x' → cond a k (cond b o (cond c s x)) ≡ cond a k' (cond b o' (cond c s' x'))
  choose true b c k k' o o' s s' x x' one two three four = one
  choose false true c k k' o o' s s' x x' one two three four = two
  choose false false true k k' o o' s s' x x' one two three four = three
  choose false false false k k' o o' s s' x x' one two three four = four

  module _ (f f' g g' : Obj → List ℕ) (strs : Agree f f') (reprs : Agree g g') where
    said_same : (vs : List Obj) → Each vs → said f g vs ≡ said f' g' vs
    said_same [] each = refl
    said_same (v ∷ []) each = strs v each.0
    said_same (v ∷ w ∷ vs) each = parens_same (Some g) (Some g') reprs (v ∷ w ∷ vs) each

    key_same : (vs : List Obj) → Each vs → key_said f g vs ≡ key_said f' g' vs
    key_same [] each = refl
    key_same (v ∷ []) each = reprs v each.0
    key_same (v ∷ w ∷ vs) each = said_same (v ∷ w ∷ vs) each

    second_same : (o : Option Obj) → If o → second_file g o ≡ second_file g' o
    second_same None there = refl
    second_same (Some v) there = ap (λ l. codes " -> " ++ l) (reprs v there.0)

    file_same : (o p : Option Obj) → If o → If p → file_and g o p ≡ file_and g' o p
    file_same None p there second = refl
    file_same (Some v) p there second = ap (λ l. codes ": " ++ (l ++ second_file g p)) (reprs v there.0) ∙ ap (λ l. codes ": " ++ (g' v ++ l)) (second_same p second)

    between_same : (front back : List ℕ) (o : Option Obj) → If o → line_between f front back o ≡ line_between f' front back o
    between_same front back None there = refl
    between_same front back (Some v) there = ap (λ l. front ++ (l ++ back)) (strs v there.0)

    found_same : (path : Option Name) (line : Option Obj) → If line → found_at f path line ≡ found_at f' path line
    found_same None line there = between_same (codes " (line ") (codes ")") line there
    found_same (Some path) line there = ap (λ l. codes " (" ++ (encode_utf8_all (base_name path) ++ (l ++ codes ")"))) (between_same (codes ", line ") [] line there)

    module _ (e : ExceptionBody) (names : NamesBelow (length objects) e) where
      files_same : files g all e ≡ files g' objects e
      files_same =
          ap (λ o. file_and g o (attribute all e (codes "filename2"))) (attribute_same e names (codes "filename")) ∙ ap (file_and g (attribute objects e (codes "filename"))) (attribute_same e names (codes "filename2"))
          ∙ file_same (attribute objects e (codes "filename")) (attribute objects e (codes "filename2")) (attribute_there e names (codes "filename")) (attribute_there e names (codes "filename2"))

      whereabouts_same : whereabouts f all e ≡ whereabouts f' objects e
      whereabouts_same =
          ap (λ o. found_at f (text_at all o) (attribute all e (codes "lineno"))) (attribute_same e names (codes "filename"))
          ∙ ap (found_at f (text_at all (attribute objects e (codes "filename")))) (attribute_same e names (codes "lineno"))
          ∙ ap (λ t. found_at f t (attribute objects e (codes "lineno"))) (text_at_same (attribute objects e (codes "filename")) (attribute_there e names (codes "filename")))
          ∙ found_same (text_at objects (attribute objects e (codes "filename"))) (attribute objects e (codes "lineno")) (attribute_there e names (codes "lineno"))

      os_same : (vs : List Obj) → Each vs → os_said f g all e vs ≡ os_said f' g' objects e vs
      os_same [] each = refl
      os_same (v ∷ []) each = said_same (v ∷ []) each
      os_same (v ∷ w ∷ []) each =
          ap (λ l. codes "[Errno " ++ (l ++ (codes "] " ++ (f w ++ files g all e)))) (strs v each.0) ∙ ap (λ l. codes "[Errno " ++ (f' v ++ (codes "] " ++ (l ++ files g all e)))) (strs w each.1.0)
          ∙ ap (λ l. codes "[Errno " ++ (f' v ++ (codes "] " ++ (f' w ++ l)))) files_same
      os_same (v ∷ w ∷ x ∷ vs) each = said_same (v ∷ w ∷ x ∷ vs) each

      syntax_same : (vs : List Obj) → Each vs → syntax_said f g all e vs ≡ syntax_said f' g' objects e vs
      syntax_same [] each = refl
      syntax_same (v ∷ []) each = ap (λ l. l ++ whereabouts f all e) (reprs v each.0) ∙ ap (λ l. g' v ++ l) whereabouts_same
      syntax_same (v ∷ w ∷ vs) each = said_same (v ∷ w ∷ vs) each

      said_by_same : (vs : List Obj) → Each vs → said_by f g all e vs ≡ said_by f' g' objects e vs
      said_by_same vs each =
          let c : Obj = class_object e.class in
          let k : List ℕ = key_said f g vs in
          let o : List ℕ = os_said f g all e vs in
          let s : List ℕ = syntax_said f g all e vs in
          let x : List ℕ = said f g vs in
          ap (λ b. cond b k (cond (derives_from all c (name_of OSError)) o (cond (derives_from all c (name_of SyntaxError)) s x))) (derives_same c (name_of KeyError) names.class)
          ∙ ap (λ b. cond (derives_from objects c (name_of KeyError)) k (cond b o (cond (derives_from all c (name_of SyntaxError)) s x))) (derives_same c (name_of OSError) names.class)
          ∙ ap (λ b. cond (derives_from objects c (name_of KeyError)) k (cond (derives_from objects c (name_of OSError)) o (cond b s x))) (derives_same c (name_of SyntaxError) names.class)
          ∙ choose (derives_from objects c (name_of KeyError)) (derives_from objects c (name_of OSError)) (derives_from objects c (name_of SyntaxError)) k (key_said f' g' vs) o (os_said f' g' objects e vs) s (syntax_said f' g' objects e vs)
          x (said f' g' vs) (key_same vs each) (os_same vs each) (syntax_same vs each) (said_same vs each)

  abbrev Says : Type 0
  Says = Option (ExceptionBody → List Obj → List ℕ)

  abbrev AgreeSays : (f g : Says) → Type 0
  AgreeSays None None = Unit {0}
  AgreeSays (Some f) (Some g) = (e : ExceptionBody) → NamesBelow (length objects) e → (vs : List Obj) → Each vs → f e vs ≡ g e vs
  AgreeSays _ _ = ⊥

  str_by_same : (f g : Says) → AgreeSays f g → (r r' : List ℕ) → r ≡ r' → (p : Option Payload) → Names p → str_by f r all p ≡ str_by g r' objects p
  str_by_same f g agree r r' same (Some (payload.Str t)) names = refl
  str_by_same (Some f) (Some g) agree r r' same (Some (payload.Exception e)) names =
      let parts : NamesBelow (length objects) e = apart (length objects) e names in
      ap (f e) (args_same e parts.args) ∙ agree e parts (items_of (payload_of objects e.args)) (args_there e)
  str_by_same None None agree r r' same (Some (payload.Exception e)) names = same
  str_by_same None (Some g) agree r r' same (Some (payload.Exception e)) names = absurd agree
  str_by_same (Some f) None agree r r' same (Some (payload.Exception e)) names = absurd agree
  str_by_same None None agree r r' same (Some _) names = same
  str_by_same (Some f) (Some g) agree r r' same (Some _) names = same
  str_by_same None (Some g) agree r r' same (Some _) names = absurd agree
  str_by_same (Some f) None agree r r' same (Some _) names = absurd agree
  str_by_same None None agree r r' same None names = same
  str_by_same (Some f) (Some g) agree r r' same None names = same
  str_by_same None (Some g) agree r r' same None names = absurd agree
  str_by_same (Some f) None agree r r' same None names = absurd agree

  str_same : (k : ℕ) → Agree (str_within k all) (str_within k objects)
  str_same zero v there =
      ap (str_by None (repr_within zero all v) all) (payload_same v there) ∙ str_by_same None None tt (repr_within zero all v) (repr_within zero objects v) (repr_same zero v there) (payload_of objects v) (named v)
  str_same (suc k) v there =
      let f : ExceptionBody → List Obj → List ℕ = said_by (str_within k all) (repr_within k all) all in
      let g : ExceptionBody → List Obj → List ℕ = said_by (str_within k objects) (repr_within k objects) objects in
      ap (str_by (Some f) (repr_within (suc k) all v) all) (payload_same v there)
      ∙ str_by_same (Some f) (Some g) (said_by_same (str_within k all) (str_within k objects) (repr_within k all) (repr_within k objects) (str_same k) (repr_same k))
      (repr_within (suc k) all v) (repr_within (suc k) objects v) (repr_same (suc k) v there) (payload_of objects v) (named v)

  details_same : (vs : List Obj) → Each vs → details all vs ≡ details objects vs
  details_same [] each = refl
  details_same (v ∷ vs) each = ap (λ l. codes ": " ++ l) (said_same (str all) (str objects) (repr all) (repr objects) (str_same 1000) (repr_same 1000) (v ∷ vs) each)

  raised_same : (p : Option Payload) → Names p → raised all p ≡ raised objects p
  raised_same (Some (payload.Exception e)) names =
      let parts : NamesBelow (length objects) e = apart (length objects) e names in
      ap (λ n. encode_utf8_all n ++ details all (items_of (payload_of all e.args))) (class_same e parts.class)
      ∙ ap (λ l. encode_utf8_all (class_name (payload_of objects (class_object e.class))) ++ l) (ap (details all) (args_same e parts.args) ∙ details_same (items_of (payload_of objects e.args)) (args_there e))
  raised_same (Some _) names = refl
  raised_same None names = refl

  -- ---- what is printed of one exception

  str_if_same : (o : Option Obj) → If o → str_if all o ≡ str_if objects o
  str_if_same None there = refl
  str_if_same (Some v) there = ap (λ (l : List ℕ). Some l) (str_same 1000 v there.0)

  column_same : (o : Option Obj) → If o → column_at all o ≡ column_at objects o
  column_same None there = refl
  column_same (Some v) there = ap column_in (payload_same v there.0)

  module _ (e : ExceptionBody) (names : NamesBelow (length objects) e) where
    text_same : (x : Name) → attribute_text all e x ≡ attribute_text objects e x
    text_same x = ap (str_if all) (attribute_same e names x) ∙ str_if_same (attribute objects e x) (attribute_there e names x)

    column_of_same : (x : Name) → column_of all e x ≡ column_of objects e x
    column_of_same x = ap (column_at all) (attribute_same e names x) ∙ column_same (attribute objects e x) (attribute_there e names x)

    abbrev found_with : Option (List ℕ) → Option (List ℕ) → Found
    found_with path line = record { path = path; line = line }

    found_of_same : found_of all e ≡ found_of objects e
    found_of_same = ap (λ p. found_with p (attribute_text all e (codes "lineno"))) (text_same (codes "filename")) ∙ ap (found_with (attribute_text objects e (codes "filename"))) (text_same (codes "lineno"))

    shown_text_same : shown_text all e ≡ shown_text objects e
    shown_text_same =
        ap (λ t. text_lines t (column_of all e (codes "offset")) (column_of all e (codes "end_offset"))) (text_same (codes "text"))
        ∙ ap (λ c. text_lines (attribute_text objects e (codes "text")) c (column_of all e (codes "end_offset"))) (column_of_same (codes "offset"))
        ∙ ap (text_lines (attribute_text objects e (codes "text")) (column_of objects e (codes "offset"))) (column_of_same (codes "end_offset"))

    syntax_lines_same : syntax_lines all e ≡ syntax_lines objects e
    syntax_lines_same = ap (λ x. found_line x ++ shown_text all e) found_of_same ∙ ap (λ l. found_line (found_of objects e) ++ l) shown_text_same

  abbrev NamesIf : Option ExceptionBody → Type 0
  NamesIf None = Unit {0}
  NamesIf (Some e) = NamesBelow (length objects) e

  lines_same : (error : Option ExceptionBody) → NamesIf error → lines_before all error ≡ lines_before objects error
  lines_same None names = refl
  lines_same (Some e) names = syntax_lines_same e names

  end_same : (error : Option ExceptionBody) → NamesIf error → end_of_line all error ≡ end_of_line objects error
  end_same None names = refl
  end_same (Some e) names = ap found_end (found_of_same e names)

  error_same : (p : Option Payload) → Names p → syntax_error_in all p ≡ syntax_error_in objects p
  error_same (Some (payload.Exception e)) names = ap (λ b. cond b (Some e) None) (derives_same (class_object e.class) (name_of SyntaxError) (apart (length objects) e names).class)
  error_same (Some _) names = refl
  error_same None names = refl

  error_there : (p : Option Payload) → Names p → NamesIf (syntax_error_in objects p)
  error_there (Some (payload.Exception e)) names = by (is_syntax_error objects e)
    where
      by : (b : Bool) → NamesIf (cond b (Some e) None)
      by true = apart (length objects) e names
      by false = tt
  error_there (Some _) names = tt
  error_there None names = tt

  said_at_same : (v : Obj) → There v → said_at all v ≡ said_at objects v
  said_at_same v there =
      let p : Option Payload = payload_of objects v in
      let error : Option ExceptionBody = syntax_error_in objects p in
      let names : NamesIf error = error_there p (named v) in
      ap (λ q. said_with all (syntax_error_in all q) q) (payload_same v there) ∙ ap (λ x. said_with all x p) (error_same p (named v))
      ∙ ap (λ l. l ++ (raised all p ++ (end_of_line all error ++ codes "\n"))) (lines_same error names)
      ∙ ap (λ l. lines_before objects error ++ (l ++ (end_of_line all error ++ codes "\n"))) (raised_same p (named v))
      ∙ ap (λ l. lines_before objects error ++ (raised objects p ++ (l ++ codes "\n"))) (end_same error names)

  -- ---- walks

  link_same : (field : LinkField) (v : Obj) → There v → link_at field all v ≡ link_at field objects v
  link_same field v there = ap (link_in field) (payload_same v there)

  link_there : (field : LinkField) (v w : Obj) → link_at field objects v ≡ Some w → There w
  link_there field v w is = by (payload_of objects v) (named v) field is
    where
      if_there : (o : Option Obj) → If o → o ≡ Some w → There w
      if_there None there is = absurd (cc is)
      if_there (Some u) there is = let same : u ≡ w = cc is in subst There same there.0

      by : (p : Option Payload) → Names p → (field : LinkField) → link_in field p ≡ Some w → There w
      by (Some (payload.Exception e)) names link.Cause is = if_there e.cause (apart (length objects) e names).cause is
      by (Some (payload.Exception e)) names link.Context is = if_there e.context (apart (length objects) e names).context is
      by (Some (payload.Exception e)) names link.Traceback is = if_there e.traceback (apart (length objects) e names).traceback is
      by (Some (payload.Exception e)) names link.Next is = absurd (cc is)
      by (Some (payload.Traceback t)) names link.Next is = if_there t.next (below_front (length objects) (numbers_if t.next) (t.frame.number ∷ []) names) is
      by (Some (payload.Traceback t)) names link.Cause is = absurd (cc is)
      by (Some (payload.Traceback t)) names link.Context is = absurd (cc is)
      by (Some (payload.Traceback t)) names link.Traceback is = absurd (cc is)
      by (Some _) names link.Cause is = absurd (cc is)
      by (Some _) names link.Context is = absurd (cc is)
      by (Some _) names link.Traceback is = absurd (cc is)
      by (Some _) names link.Next is = absurd (cc is)
      by None names field is = absurd (cc is)

  before_same : (v : Obj) → There v → before_at all v ≡ before_at objects v
  before_same v there = ap before_in (payload_same v there)

  before_there : (v w : Obj) → before_at objects v ≡ Some w → There w
  before_there v w is = by (payload_of objects v) (named v) is
    where
      if_there : (o : Option Obj) → If o → o ≡ Some w → There w
      if_there None there is = absurd (cc is)
      if_there (Some u) there is = let same : u ≡ w = cc is in subst There same there.0

      links : (cause context : Option Obj) (suppress : Bool) → If cause → If context → before_by cause suppress context ≡ Some w → There w
      links (Some c) context suppress first second is = if_there (Some c) first is
      links None context true first second is = absurd (cc is)
      links None context false first second is = if_there context second is

      by : (p : Option Payload) → Names p → before_in p ≡ Some w → There w
      by (Some (payload.Exception e)) names is = let parts : NamesBelow (length objects) e = apart (length objects) e names in links e.cause e.context e.suppress parts.cause parts.context is
      by (Some _) names is = absurd (cc is)
      by None names is = absurd (cc is)

  -- a walk among what is there is the same by steps that are the same there
  module _ (step step' : Obj → Option Obj) (same : (v : Obj) → There v → step' v ≡ step v) (stays : (v w : Obj) → step v ≡ Some w → There w) (from : Obj) (there : There from) where
    led_there : (n : ℕ) (w : Obj) → led step n from ≡ Some w → There w
    led_there zero w is = let one : from ≡ w = cc is in subst There one there
    led_there (suc n) w is = by (led step n from) is
      where
        by : (o : Option Obj) → on_link step o ≡ Some w → There w
        by None is = absurd (cc is)
        by (Some u) is = stays u w is

    led_same : (n : ℕ) → led step' n from ≡ led step n from
    led_same zero = refl
    led_same (suc n) = ap (on_link step') (led_same n) ∙ by (led step n from) (led_there n)
      where
        by : (o : Option Obj) → ((w : Obj) → o ≡ Some w → There w) → on_link step' o ≡ on_link step o
        by None among = refl
        by (Some u) among = same u (among u refl)

    order_same : (met : List Obj) → IsOrder step from met → IsOrder step' from met
    order_same met order = record {
      along = λ i low. order.along i low ∙ sym (led_same i);
      once = order.once;
      ends = elim order.ends [
        | inl none ↦ inl (led_same (length met) ∙ none)
        | inr (j, low, is) ↦ inr (j, low, led_same (length met) ∙ is)
      ];
      some = order.some;
    }

    met_there : (met : List Obj) → IsOrder step from met → (i : ℕ) (v : Obj) → slice_get met i ≡ Some v → There v
    met_there met order i v at = led_there i v (sym (order.along i (slice_get_within met i v at)) ∙ at)

  -- each of a list is there
  abbrev Among : List Obj → Type 0
  Among vs = (i : ℕ) (v : Obj) → slice_get vs i ≡ Some v → There v

  chained_same : (met : List Obj) → Among met → chained all met ≡ chained objects met
  chained_same [] among = refl
  chained_same (v ∷ vs) among =
      ap (λ s. let c : Chained = record { exception = v; sentence = s } in c ∷ chained all vs) (said_before vs) ∙ ap (λ l. (let c : Chained = record { exception = v; sentence = sentence_at objects v vs } in c) ∷ l) (chained_same vs (λ i w at. among (suc i) w at))
    where
      said_before : (ws : List Obj) → sentence_at all v ws ≡ sentence_at objects v ws
      said_before [] = refl
      said_before (w ∷ ws) = ap (λ o. cond (is_some o) between.Cause between.Context) (link_same link.Cause v (among 0 v refl))

  -- ---- the whole report

  module _ (names : List (List ℕ)) (places : List Place) (sources : List SourceLines) where
    abbrev old : Scene
    old = scene_with objects names places sources

    abbrev new : Scene
    new = scene_with all names places sources

    entry_same : (p : Option Payload) → Names p → entry_in new p ≡ entry_in old p
    entry_same (Some (payload.Traceback t)) below =
        let frame : t.frame.number < length objects = (below_back (length objects) (numbers_if t.next) (t.frame.number ∷ []) below).0 in
        ap (λ q. placed_text new (place_in places q) t.lineno) (payload_same (record { number = t.frame.number }) frame)
    entry_same (Some _) below = refl
    entry_same None below = refl

    entries_same : (vs : List Obj) → Among vs → entries_text new vs ≡ entries_text old vs
    entries_same [] among = refl
    entries_same (v ∷ vs) among =
        ap (λ l. l ++ entries_text new vs) (ap (entry_in new) (payload_same v (among 0 v refl)) ∙ entry_same (payload_of objects v) (named v))
        ∙ ap (λ l. entry_at old v ++ l) (entries_same vs (λ i w at. among (suc i) w at))

    traceback_same : (vs : List Obj) → Among vs → traceback_text new vs ≡ traceback_text old vs
    traceback_same [] among = refl
    traceback_same (v ∷ vs) among = ap (λ l. codes "Traceback (most recent call last):\n" ++ l) (entries_same (v ∷ vs) among)

    entries_grown : (o : Option Obj) → ((w : Obj) → o ≡ Some w → There w) → (vs : List Obj) → HasEntries objects o vs → HasEntries all o vs × Among vs
    entries_grown None there vs is = (is, λ i v at. absurd (let none : slice_get [] i ≡ Some v = ap (λ l. slice_get l i) (sym is) ∙ at in cc none))
    entries_grown (Some t) there vs order = (
      order_same (link_at link.Next objects) (link_at link.Next all) (link_same link.Next) (link_there link.Next) t (there t refl) vs order,
      met_there (link_at link.Next objects) (link_at link.Next all) (link_same link.Next) (link_there link.Next) t (there t refl) vs order,
    )

    part_grown : (v : Obj) (text : List ℕ) → There v → IsPart old v text → IsPart new v text
    part_grown v text there (entries, has, is) =
        let (more_has, among) = entries_grown (link_at link.Traceback objects v) (link_there link.Traceback v) entries has in (
          entries,
          subst (λ (o : Option Obj). HasEntries all o entries) (sym (link_same link.Traceback v there)) more_has,
          is ∙ sym (ap (λ l. l ++ said_at all v) (traceback_same entries among) ∙ ap (λ l. traceback_text old entries ++ l) (said_at_same v there)),
        )

    text_grown : (met : List Obj) → Among met → (text : List ℕ) → IsText old (chained objects met) text → IsText new (chained objects met) text
    text_grown [] among text is = is
    text_grown (v ∷ vs) among text (before, piece, first, (part, is_part, is_piece), is) =
        (before, piece, text_grown vs (λ i w at. among (suc i) w at) before first, (part, part_grown v part (among 0 v refl) is_part, is_piece), is)

    -- so it is the same among more objects
    pub report_grown : (v : Obj) → There v → (text : List ℕ) → IsReport old v text → IsReport new v text
    report_grown v there text (cs, (met, order, is), texts) =
        let among : Among met = met_there (before_at objects) (before_at all) before_same before_there v there met order in (
          cs,
          (met, order_same (before_at objects) (before_at all) before_same before_there v there met order, is ∙ sym (chained_same met among)),
          subst (λ (l : List Chained). IsText new l text) (sym is) (text_grown met among text (subst (λ (l : List Chained). IsText old l text) is texts)),
        )
