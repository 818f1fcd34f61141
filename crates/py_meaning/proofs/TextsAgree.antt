-- Events that are the same have the same text, where the objects of two runs are alike.
use Rattle.std.proofs.Common.{◌≡◌, ◌<◌, ◌+◌, ℕ, zero, suc, Bool, true, false, Option, Some, None, List, [], ◌∷◌, ◌++◌, length, refl, sym, ap, ap₂, ◌∙◌, subst, arith}
use Rattle.std.specs.Prelude.{codes, encode_utf8_all, if◌then◌else◌, bytes_eq}
use Rattle.std.specs.Fmt.{signed_decimal}
use Rattle.py_code.specs.BuiltinNames.{builtin_name}
use Rattle.py_objects.specs.declared.payload.Payload.{Payload}
use Rattle.py_objects.specs.declared.payload.Payload.TheVariants as payload
use Rattle.py_objects.specs.declared.payload.ExceptionBody.{ExceptionBody}
use Rattle.py_objects.specs.declared.error_kind.ErrorKind.TheVariants.{KeyError, OSError, SyntaxError}
use Rattle.py_objects.specs.declared.request.Request.{Request}
use Rattle.py_objects.specs.declared.event.DriveAnswer.{DriveAnswer}
use Rattle.py_objects.specs.declared.event.DriveAnswer.TheVariants as answer
use Rattle.py_objects.specs.declared.event.Event.{Event}
use Rattle.py_objects.specs.declared.event.Event.TheVariants as event
use Rattle.py_objects.specs.ErrorKinds.{name_of}
use Rattle.py_objects.specs.Objects.{Obj, Name, HasPayload, class_object, as_object, numbers, numbers_if, number_if, attr_numbers, payload_numbers, request_numbers, result_numbers, event_numbers, AllBelow, AreNamed, IsMade, AllFit}
use Rattle.py_objects.specs.Attrs.{Attrs, value_of}
use Rattle.py_objects.specs.Ancestry.{derives_from}
use Rattle.py_objects.proofs.Slots.{there}
use Rattle.py_run.proofs.FirstLemmas.{below_behind}
use Rattle.py_agreement.specs.Agreement.{Relation, SameMaybe, SameAll}
use Rattle.py_determined.specs.Alike.{SameAttrs, AlikeExceptions, Alike, AreAlike}
use Rattle.py_determined.specs.Events.{SameResult, SameEvent, SameEvents}
use Rattle.py_determined.proofs.AlikeLemmas.{seen_same, derived_agree}
use Rattle.py_determined.proofs.Requests.{BothAsk, BothShow, both_ask}
use Rattle.py_exceptions.specs.Repr.{payload_of, quoted, joined, class_name, items_of, Inner, in_parentheses, coro_of, shown, repr_within}
use Rattle.py_exceptions.specs.Said.{unless_none, given, attribute, text_in, text_at, base_name, second_file, file_and, line_between, found_at, said, key_said, os_said, syntax_said, said_by}
use Rattle.py_exceptions.specs.Texts.{str_by, str_within, str, repr, details, raised}
use Rattle.py_meaning.specs.Text.{numbered, result_text, shown_line, request_text, event_text, text_from, events_text}

-- one of two texts, by a test
pub chosen : {b c : Bool} {x x' y y' : List ℕ} → b ≡ c → x ≡ x' → y ≡ y' → (if b then x else y) ≡ (if c then x' else y')
chosen {b = b} {c = c} {x = x} {y = y} test first second = ap (λ t. if t then x else y) test ∙ ap₂ (λ one other. if c then one else other) first second

-- ---- related objects that are there

-- two related objects that are there, and what they are
pub record AreThere (S : Relation) (objects objects' : List Payload) (v w : Obj) : Type 0 where
  pub related : S v w
  pub entry : Payload
  pub entry' : Payload
  pub has : HasPayload objects v entry
  pub has' : HasPayload objects' w entry'

-- an entry names objects that are there, of the kinds that it needs
abbrev Fits : List Payload → Payload → Type 0
Fits objects p = AllBelow (length objects) (payload_numbers p) × IsMade objects p

-- two lists of related objects, by how many there are
data Matched (R : Relation) : List Obj → List Obj → Type 0 where
  NoneEach : Matched R [] []
  OneEach : (v w : Obj) → R v w → Matched R (v ∷ []) (w ∷ [])
  TwoEach : (v v2 w w2 : Obj) → R v w → R v2 w2 → Matched R (v ∷ v2 ∷ []) (w ∷ w2 ∷ [])
  MoreEach : (v v2 v3 w w2 w3 : Obj) (vs ws : List Obj) → R v w → R v2 w2 → R v3 w3 → SameAll R vs ws → Matched R (v ∷ v2 ∷ v3 ∷ vs) (w ∷ w2 ∷ w3 ∷ ws)

matched : (R : Relation) (vs ws : List Obj) → SameAll R vs ws → Matched R vs ws
matched R [] [] s = NoneEach
matched R (v ∷ []) (w ∷ []) s = OneEach v w s.0
matched R (v ∷ v2 ∷ []) (w ∷ w2 ∷ []) s = TwoEach v v2 w w2 s.0 s.1.0
matched R (v ∷ v2 ∷ v3 ∷ vs) (w ∷ w2 ∷ w3 ∷ ws) s = MoreEach v v2 v3 w w2 w3 vs ws s.0 s.1.0 s.1.1.0 s.1.1.1
matched R (v ∷ []) (w ∷ w2 ∷ ws) s = absurd s.1
matched R (v ∷ v2 ∷ vs) (w ∷ []) s = absurd s.1
matched R (v ∷ v2 ∷ []) (w ∷ w2 ∷ w3 ∷ ws) s = absurd s.1.1
matched R (v ∷ v2 ∷ v3 ∷ vs) (w ∷ w2 ∷ []) s = absurd s.1.1
matched R _ _ s = absurd s

module _ (S : Relation) (objects objects' : List Payload) (alike : AreAlike S objects objects') (fit : AllFit objects) (fit' : AllFit objects') where
  abbrev Both : Relation
  Both v w = AreThere S objects objects' v w

  both_there : (v w : Obj) → S v w → v.number < length objects → w.number < length objects' → Both v w
  both_there v w s within within' =
      let (p, has) = there objects v.number within in
      let (q, has') = there objects' w.number within' in
      record { related = s; entry = p; entry' = q; has = has; has' = has' }

  all_there : (vs ws : List Obj) → SameAll S vs ws → AllBelow (length objects) (numbers vs) → AllBelow (length objects') (numbers ws) → SameAll Both vs ws
  all_there [] [] s below below' = tt
  all_there (v ∷ vs) (w ∷ ws) s below below' = (both_there v w s.0 below.0 below'.0, all_there vs ws s.1 below.1 below'.1)
  all_there _ _ s below below' = absurd s

  alike_entries : (v w : Obj) (b : Both v w) → Alike S objects objects' b.entry b.entry'
  alike_entries v w b = alike.payloads v w b.entry b.entry' b.related b.has b.has'

  -- what reads the same of alike entries reads the same of the objects
  read_alike : (f g : Option Payload → List ℕ) → ((p q : Payload) → Alike S objects objects' p q → Fits objects p → Fits objects' q → f (Some p) ≡ g (Some q))
      → (v w : Obj) → Both v w → f (payload_of objects v) ≡ g (payload_of objects' w)
  read_alike f g same v w b =
      ap f b.has ∙ same b.entry b.entry' (alike_entries v w b) (fit v.number b.entry b.has) (fit' w.number b.entry' b.has') ∙ sym (ap g b.has')

  -- ---- attributes

  -- the values of one name
  values_agree : (x : Name) (attrs attrs' : Attrs) → SameAttrs S attrs attrs' → AllBelow (length objects) (attr_numbers attrs) → AllBelow (length objects') (attr_numbers attrs')
      → SameMaybe Both (value_of x attrs) (value_of x attrs')
  values_agree x [] [] s below below' = tt
  values_agree x (a ∷ attrs) (b ∷ attrs') s below below' =
      subst (λ n. SameMaybe Both (value_of x (a ∷ attrs)) (if bytes_eq x n then Some b.1 else value_of x attrs')) s.0
      (by (bytes_eq x a.0) (values_agree x attrs attrs' s.2 below.1 below'.1))
    where
      by : (c : Bool) → SameMaybe Both (value_of x attrs) (value_of x attrs')
          → SameMaybe Both (if c then Some a.1 else value_of x attrs) (if c then Some b.1 else value_of x attrs')
      by true behind = both_there a.1 b.1 s.1 below.0 below'.0
      by false behind = behind
  values_agree x _ _ s below below' = absurd s

  unless_agree : (v w : Obj) (p q : Payload) → Alike S objects objects' p q → Both v w → SameMaybe Both (unless_none v (Some p)) (unless_none w (Some q))
  unless_agree v w payload.None payload.None s b = tt
  unless_agree v w payload.None _ s b = absurd s
  unless_agree v w _ payload.None s b = absurd s
  unless_agree v w _ _ s b = b

  given_agree : (x y : Option Obj) → SameMaybe Both x y → SameMaybe Both (given objects x) (given objects' y)
  given_agree None None s = tt
  given_agree (Some v) (Some w) b = rw (b.has, b.has') (unless_agree v w b.entry b.entry' (alike_entries v w b) b)
  given_agree _ _ s = absurd s

  -- the characters of a value
  paths_agree : (x y : Option Obj) → SameMaybe Both x y → text_at objects x ≡ text_at objects' y
  paths_agree None None s = refl
  paths_agree (Some v) (Some w) b =
      ap text_in b.has ∙ ap (λ x. x.text) (seen_same S objects objects' alike b.entry b.entry' (alike_entries v w b)) ∙ sym (ap text_in b.has')
  paths_agree _ _ s = absurd s

  -- ---- several objects, where the texts of related ones are the same

  abbrev Texts : (Obj → List ℕ) → (Obj → List ℕ) → Type 0
  Texts f g = (v w : Obj) → Both v w → f v ≡ g w

  joined_agree : (f g : Obj → List ℕ) → Texts f g → (vs ws : List Obj) → SameAll Both vs ws → joined f vs ≡ joined g ws
  joined_agree f g texts [] [] s = refl
  joined_agree f g texts (v ∷ []) (w ∷ []) s = texts v w s.0
  joined_agree f g texts (v ∷ v2 ∷ vs) (w ∷ w2 ∷ ws) s =
      ap₂ (λ first rest. first ++ (codes ", " ++ rest)) (texts v w s.0) (joined_agree f g texts (v2 ∷ vs) (w2 ∷ ws) s.1)
  joined_agree f g texts (v ∷ []) (w ∷ w2 ∷ ws) s = absurd s.1
  joined_agree f g texts (v ∷ v2 ∷ vs) (w ∷ []) s = absurd s.1
  joined_agree f g texts _ _ s = absurd s

  -- what is shown inside of an object: nothing on both sides, or the same texts
  abbrev Inners : Inner → Inner → Type 0
  Inners None None = Unit {0}
  Inners (Some f) (Some g) = Texts f g
  Inners _ _ = ⊥

  parentheses_agree : (inner inner' : Inner) → Inners inner inner' → (vs ws : List Obj) → SameAll Both vs ws → in_parentheses inner vs ≡ in_parentheses inner' ws
  parentheses_agree None None texts vs ws s = refl
  parentheses_agree (Some f) (Some g) texts vs ws s = ap (λ items. codes "(" ++ (items ++ codes ")")) (joined_agree f g texts vs ws s)
  parentheses_agree _ _ texts vs ws s = absurd texts

  -- ---- exceptions

  -- two that are alike, where each is as it has to be
  module _ (e f : ExceptionBody) (same : AlikeExceptions S objects objects' e f) (fits : Fits objects (payload.Exception e)) (fits' : Fits objects' (payload.Exception f)) where
    class_names_agree : class_name (payload_of objects (class_object e.class)) ≡ class_name (payload_of objects' (class_object f.class))
    class_names_agree =
        let made = fits.1 in
        let made' = fits'.1 in
        ap class_name made.is_class
        ∙ (alike.payloads (class_object e.class) (class_object f.class) (payload.Class made.class) (payload.Class made'.class) same.class made.is_class made'.is_class).0
        ∙ sym (ap class_name made'.is_class)

    kinds_agree : (n : Name) → derives_from objects (class_object e.class) n ≡ derives_from objects' (class_object f.class) n
    kinds_agree n =
        derived_agree S objects objects' alike (class_object e.class) (class_object f.class) n _ _ same.class
        (fits.1.class, fits.1.is_class, refl) (fits'.1.class, fits'.1.is_class, refl)

    arguments_agree : SameAll Both (items_of (payload_of objects e.args)) (items_of (payload_of objects' f.args))
    arguments_agree =
        let has = fits.1.are_arguments in
        let has' = fits'.1.are_arguments in
        rw (has, has') (all_there _ _ (same.arguments _ _ has has') (fit e.args.number _ has).0 (fit' f.args.number _ has').0)

    attributes_agree : (x : Name) → SameMaybe Both (attribute objects e x) (attribute objects' f x)
    attributes_agree x = given_agree _ _ (values_agree x e.attrs f.attrs same.attrs (attrs_below objects e fits) (attrs_below objects' f fits'))
      where
        attrs_below : (os : List Payload) (g : ExceptionBody) → Fits os (payload.Exception g) → AllBelow (length os) (attr_numbers g.attrs)
        attrs_below os g ok =
            below_behind (length os) (numbers_if g.traceback) _ (below_behind (length os) (numbers_if g.context) _ (below_behind (length os) (numbers_if g.cause) _ ok.0.1.1))

  -- what they say
  module _ (str str' repr repr' : Obj → List ℕ) (strs : Texts str str') (reprs : Texts repr repr') where
    said_agree : (vs ws : List Obj) → Matched Both vs ws → said str repr vs ≡ said str' repr' ws
    said_agree _ _ NoneEach = refl
    said_agree _ _ (OneEach v w b) = strs v w b
    said_agree _ _ (TwoEach v v2 w w2 b b2) = parentheses_agree (Some repr) (Some repr') reprs (v ∷ v2 ∷ []) (w ∷ w2 ∷ []) (b, (b2, tt))
    said_agree _ _ (MoreEach v v2 v3 w w2 w3 vs ws b b2 b3 rest) =
        parentheses_agree (Some repr) (Some repr') reprs (v ∷ v2 ∷ v3 ∷ vs) (w ∷ w2 ∷ w3 ∷ ws) (b, (b2, (b3, rest)))

    keys_agree : (vs ws : List Obj) → Matched Both vs ws → key_said str repr vs ≡ key_said str' repr' ws
    keys_agree _ _ (OneEach v w b) = reprs v w b
    keys_agree vs ws m = said_agree vs ws m

    lines_agree : (front back : List ℕ) (x y : Option Obj) → SameMaybe Both x y → line_between str front back x ≡ line_between str' front back y
    lines_agree front back None None s = refl
    lines_agree front back (Some v) (Some w) b = ap (λ line. front ++ (line ++ back)) (strs v w b)
    lines_agree front back _ _ s = absurd s

    found_agree : (path : Option Name) (x y : Option Obj) → SameMaybe Both x y → found_at str path x ≡ found_at str' path y
    found_agree None x y s = lines_agree (codes " (line ") (codes ")") x y s
    found_agree (Some path) x y s =
        ap (λ line. codes " (" ++ (encode_utf8_all (base_name path) ++ (line ++ codes ")"))) (lines_agree (codes ", line ") [] x y s)

    second_files_agree : (x y : Option Obj) → SameMaybe Both x y → second_file repr x ≡ second_file repr' y
    second_files_agree None None s = refl
    second_files_agree (Some v) (Some w) b = ap (λ file. codes " -> " ++ file) (reprs v w b)
    second_files_agree _ _ s = absurd s

    files_agree : (x y second second' : Option Obj) → SameMaybe Both x y → SameMaybe Both second second' → file_and repr x second ≡ file_and repr' y second'
    files_agree None None second second' s s2 = refl
    files_agree (Some v) (Some w) second second' b s2 =
        ap₂ (λ file other. codes ": " ++ (file ++ other)) (reprs v w b) (second_files_agree second second' s2)
    files_agree _ _ second second' s s2 = absurd s

    module _ (e f : ExceptionBody) (same : AlikeExceptions S objects objects' e f) (fits : Fits objects (payload.Exception e)) (fits' : Fits objects' (payload.Exception f)) where
      os_agree : (vs ws : List Obj) → Matched Both vs ws → os_said str repr objects e vs ≡ os_said str' repr' objects' f ws
      os_agree _ _ (TwoEach v v2 w w2 b b2) =
          ap₂ (λ number rest. codes "[Errno " ++ (number ++ (codes "] " ++ rest))) (strs v w b)
          (ap₂ (λ message rest. message ++ rest) (strs v2 w2 b2)
          (files_agree _ _ _ _ (attributes_agree e f same fits fits' (codes "filename")) (attributes_agree e f same fits fits' (codes "filename2"))))
      os_agree vs ws m = said_agree vs ws m

      syntax_agree : (vs ws : List Obj) → Matched Both vs ws → syntax_said str repr objects e vs ≡ syntax_said str' repr' objects' f ws
      syntax_agree _ _ (OneEach v w b) =
          let file = paths_agree _ _ (attributes_agree e f same fits fits' (codes "filename")) in
          let line = attributes_agree e f same fits fits' (codes "lineno") in
          ap₂ (λ first rest. first ++ rest) (reprs v w b)
          (found_agree (text_at objects (attribute objects e (codes "filename"))) _ _ line ∙ ap (λ path. found_at str' path (attribute objects' f (codes "lineno"))) file)
      syntax_agree vs ws m = said_agree vs ws m

      said_by_agree : said_by str repr objects e (items_of (payload_of objects e.args)) ≡ said_by str' repr' objects' f (items_of (payload_of objects' f.args))
      said_by_agree =
          let m = matched Both _ _ (arguments_agree e f same fits fits') in
          let kind = kinds_agree e f same fits fits' in
          chosen (kind (name_of KeyError)) (keys_agree _ _ m)
          (chosen (kind (name_of OSError)) (os_agree _ _ m) (chosen (kind (name_of SyntaxError)) (syntax_agree _ _ m) (said_agree _ _ m)))

  -- ---- what represents an object

  shown_agree : (inner inner' : Inner) → Inners inner inner' → (p q : Payload) → Alike S objects objects' p q → Fits objects p → Fits objects' q
      → shown inner objects (Some p) ≡ shown inner' objects' (Some q)
  shown_agree inner inner' texts payload.None payload.None s fits fits' = refl
  shown_agree inner inner' texts (payload.Bool b) (payload.Bool c) s fits fits' = by b ∙ ap (λ x. shown inner' objects' (Some (payload.Bool x))) s
    where
      by : (x : Bool) → shown inner objects (Some (payload.Bool x)) ≡ shown inner' objects' (Some (payload.Bool x))
      by true = refl
      by false = refl
  shown_agree inner inner' texts (payload.Int m) (payload.Int n) s fits fits' = ap signed_decimal s
  shown_agree inner inner' texts (payload.Str x) (payload.Str y) s fits fits' = ap quoted s
  shown_agree inner inner' texts (payload.Class c) (payload.Class d) s fits fits' = ap (λ n. codes "<class '" ++ (encode_utf8_all n ++ codes "'>")) s.0
  shown_agree inner inner' texts (payload.Function f) (payload.Function g) s fits fits' = ap (λ x. codes "<function " ++ (encode_utf8_all x.name ++ codes ">")) s
  shown_agree inner inner' texts (payload.Builtin f) (payload.Builtin g) s fits fits' =
      ap (λ x. codes "<built-in function " ++ (encode_utf8_all (builtin_name x) ++ codes ">")) s
  shown_agree inner inner' texts (payload.Manager m) (payload.Manager n) s fits fits' = ap (λ x. codes "<manager " ++ (encode_utf8_all x ++ codes ">")) s.0
  shown_agree inner inner' texts (payload.Generator g) (payload.Generator h) s fits fits' = ap coro_of s
  shown_agree inner inner' texts (payload.Exception e) (payload.Exception f) s fits fits' =
      ap₂ (λ name rest. encode_utf8_all name ++ rest) (class_names_agree e f s fits fits')
      (parentheses_agree inner inner' texts _ _ (arguments_agree e f s fits fits'))
  shown_agree inner inner' texts (payload.Traceback t) (payload.Traceback u) s fits fits' = refl
  shown_agree inner inner' texts _ _ s fits fits' = absurd s

  pub reprs_agree : (k : ℕ) (v w : Obj) → Both v w → repr_within k objects v ≡ repr_within k objects' w
  reprs_agree zero v w b = read_alike (shown None objects) (shown None objects') (shown_agree None None tt) v w b
  reprs_agree (suc k) v w b =
      let f : Obj → List ℕ = repr_within k objects in
      let g : Obj → List ℕ = repr_within k objects' in
      read_alike (shown (Some f) objects) (shown (Some g) objects') (shown_agree (Some f) (Some g) (λ x y c. reprs_agree k x y c)) v w b

  -- ---- what it is as a text

  flat_agree : (r r' : List ℕ) → r ≡ r' → (p q : Payload) → Alike S objects objects' p q → Fits objects p → Fits objects' q
      → str_by None r objects (Some p) ≡ str_by None r' objects' (Some q)
  flat_agree r r' same (payload.Str x) (payload.Str y) s fits fits' = ap encode_utf8_all s
  flat_agree r r' same (payload.Str x) _ s fits fits' = absurd s
  flat_agree r r' same _ (payload.Str y) s fits fits' = absurd s
  flat_agree r r' same _ _ s fits fits' = same

  deep_agree : (str str' repr repr' : Obj → List ℕ) → Texts str str' → Texts repr repr' → (r r' : List ℕ) → r ≡ r'
      → (p q : Payload) → Alike S objects objects' p q → Fits objects p → Fits objects' q
      → str_by (Some (said_by str repr objects)) r objects (Some p) ≡ str_by (Some (said_by str' repr' objects')) r' objects' (Some q)
  deep_agree str str' repr repr' strs reprs r r' same (payload.Str x) (payload.Str y) s fits fits' = ap encode_utf8_all s
  deep_agree str str' repr repr' strs reprs r r' same (payload.Exception e) (payload.Exception f) s fits fits' =
      said_by_agree str str' repr repr' strs reprs e f s fits fits'
  deep_agree str str' repr repr' strs reprs r r' same (payload.Str x) _ s fits fits' = absurd s
  deep_agree str str' repr repr' strs reprs r r' same (payload.Exception e) _ s fits fits' = absurd s
  deep_agree str str' repr repr' strs reprs r r' same _ (payload.Str y) s fits fits' = absurd s
  deep_agree str str' repr repr' strs reprs r r' same _ (payload.Exception f) s fits fits' = absurd s
  deep_agree str str' repr repr' strs reprs r r' same _ _ s fits fits' = same

  pub strs_agree : (k : ℕ) (v w : Obj) → Both v w → str_within k objects v ≡ str_within k objects' w
  strs_agree zero v w b =
      let r = repr_within zero objects v in
      let r' = repr_within zero objects' w in
      read_alike (str_by None r objects) (str_by None r' objects') (flat_agree r r' (reprs_agree zero v w b)) v w b
  strs_agree (suc k) v w b =
      let r = repr_within (suc k) objects v in
      let r' = repr_within (suc k) objects' w in
      let f : Obj → List ℕ = str_within k objects in
      let f' : Obj → List ℕ = str_within k objects' in
      let g : Obj → List ℕ = repr_within k objects in
      let g' : Obj → List ℕ = repr_within k objects' in
      read_alike (str_by (Some (said_by f g objects)) r objects) (str_by (Some (said_by f' g' objects')) r' objects')
      (deep_agree f f' g g' (λ x y c. strs_agree k x y c) (reprs_agree k) r r' (reprs_agree (suc k) v w b)) v w b

  -- ---- events

  repr_agrees : (v w : Obj) → S v w → v.number < length objects → w.number < length objects' → repr objects v ≡ repr objects' w
  repr_agrees v w s within within' = reprs_agree 1000 v w (both_there v w s within within')

  details_agree : (vs ws : List Obj) → SameAll Both vs ws → details objects vs ≡ details objects' ws
  details_agree [] [] s = refl
  details_agree (v ∷ vs) (w ∷ ws) s =
      ap (λ rest. codes ": " ++ rest)
      (said_agree (str objects) (str objects') (repr objects) (repr objects') (strs_agree 1000) (reprs_agree 1000)
      (v ∷ vs) (w ∷ ws) (matched Both (v ∷ vs) (w ∷ ws) s))
  details_agree _ _ s = absurd s

  raised_agree : (p q : Payload) → Alike S objects objects' p q → Fits objects p → Fits objects' q → raised objects (Some p) ≡ raised objects' (Some q)
  raised_agree (payload.Exception e) (payload.Exception f) s fits fits' =
      ap₂ (λ name rest. encode_utf8_all name ++ rest) (class_names_agree e f s fits fits') (details_agree _ _ (arguments_agree e f s fits fits'))
  raised_agree (payload.Exception e) _ s fits fits' = absurd s
  raised_agree _ (payload.Exception f) s fits fits' = absurd s
  raised_agree _ _ s fits fits' = refl

  results_agree : (d : ℕ) (x y : DriveAnswer) → SameResult S x y → AllBelow (length objects) (result_numbers x) → AllBelow (length objects') (result_numbers y)
      → result_text objects d x ≡ result_text objects' d y
  results_agree d (answer.Returns v) (answer.Returns w) s below below' = ap (λ text. numbered d (codes " returns " ++ text)) (repr_agrees v w s below.0 below'.0)
  results_agree d (answer.Yields v) (answer.Yields w) s below below' = ap (λ text. numbered d (codes " yields " ++ text)) (repr_agrees v w s below.0 below'.0)
  results_agree d (answer.Stops None) (answer.Stops None) s below below' = refl
  results_agree d (answer.Stops (Some v)) (answer.Stops (Some w)) s below below' = ap (λ text. numbered d (codes " stops " ++ text)) (repr_agrees v w s below.0 below'.0)
  results_agree d answer.Closes answer.Closes s below below' = refl
  results_agree d (answer.Raises e) (answer.Raises f) s below below' =
      ap (λ text. numbered d (codes " raises " ++ text))
      (read_alike (raised objects) (raised objects') raised_agree (as_object e) (as_object f) (both_there (as_object e) (as_object f) s below.0 below'.0))
  results_agree d (answer.Reported x) (answer.Reported y) s below below' = ap encode_utf8_all s
  results_agree d _ _ s below below' = absurd s

  lines_shown : (v w : Obj) → repr objects v ≡ repr objects' w → (p q : Payload) → Alike S objects objects' p q → Fits objects p → Fits objects' q
      → shown_line objects v (Some p) ≡ shown_line objects' w (Some q)
  lines_shown v w same payload.None payload.None s fits fits' = refl
  lines_shown v w same payload.None _ s fits fits' = absurd s
  lines_shown v w same _ payload.None s fits fits' = absurd s
  lines_shown v w same _ _ s fits fits' = ap (λ text. text ++ codes "\n") same

  requests_agree : (r r' : Request) → BothAsk S r r' → AllBelow (length objects) (request_numbers r) → AllBelow (length objects') (request_numbers r')
      → request_text objects r ≡ request_text objects' r'
  requests_agree _ _ (BothShow v w s) below below' =
      let b = both_there v w s below.0 below'.0 in
      read_alike (shown_line objects v) (shown_line objects' w) (lines_shown v w (reprs_agree 1000 v w b)) v w b
  requests_agree _ _ _ below below' = refl

  pub event_texts_agree : (e f : Event) → SameEvent S e f → AllBelow (length objects) (event_numbers e) → AllBelow (length objects') (event_numbers f)
      → event_text objects e ≡ event_text objects' f
  event_texts_agree (event.Result d x) (event.Result d' y) s below below' = results_agree d x y s.1 below below' ∙ ap (λ i. result_text objects' i y) s.0
  event_texts_agree (event.Ask a r own at) (event.Ask b r' own' at') s below below' =
      requests_agree r r' (both_ask S r r' s.1.0) (below_behind (length objects) (number_if own) (request_numbers r) below)
      (below_behind (length objects') (number_if own') (request_numbers r') below')
  event_texts_agree (event.Result d x) _ s below below' = absurd s
  event_texts_agree (event.Ask a r own at) _ s below below' = absurd s
  event_texts_agree _ (event.Result d y) s below below' = absurd s
  event_texts_agree _ (event.Ask b r own at) s below below' = absurd s
  event_texts_agree _ _ s below below' = refl

  -- what the events behind the first one name is there
  named_behind : (os : List Payload) (e : Event) (es : List Event) → AreNamed os (e ∷ es) → AreNamed os es
  named_behind os e es named = record { in_events = λ i f at. named.in_events (suc i) f at; in_payloads = named.in_payloads }

  texts_from_agree : (k : ℕ) (es fs : List Event) → length es ≡ length fs → SameEvents S es fs → AreNamed objects es → AreNamed objects' fs
      → text_from objects [] k es ≡ text_from objects' [] k fs
  texts_from_agree k [] [] count s named named' = refl
  texts_from_agree k (e ∷ es) (f ∷ fs) count s named named' =
      ap₂ (λ first rest. first ++ rest) (event_texts_agree e f s.0 (named.in_events 0 e refl) (named'.in_events 0 f refl))
      (texts_from_agree (k + 1) es fs (omega (arith, count)) s.1 (named_behind objects e es named) (named_behind objects' f fs named'))
  texts_from_agree k _ _ count s named named' = absurd (omega (arith, count))

  pub texts_agree : (es fs : List Event) → length es ≡ length fs → SameEvents S es fs → AreNamed objects es → AreNamed objects' fs
      → events_text objects [] es ≡ events_text objects' [] fs
  texts_agree es fs count s named named' = texts_from_agree 0 es fs count s named named'
