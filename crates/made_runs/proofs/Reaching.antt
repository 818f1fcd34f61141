-- The groups of a text come one after another: their objects, what their drives ask, and the run of them all.
use Rattle.std.proofs.Common.{◌≡◌, ◌+◌, ◌*◌, ◌%◌, ◌<◌, ◌≤◌, ◌++◌, ℕ, zero, suc, List, [], ◌∷◌, Bool, true, false}
use Rattle.std.proofs.Common.{Some, length, length-append, refl, sym, ap, subst, ◌∙◌, append_assoc, append-nil, arith}
use Rattle.std.proofs.lemmas.Option.{slice_get_within}
use Rattle.std.specs.Prelude.{pos, int_lt, slice_get, ◌==◌, if◌then◌else◌}
use Rattle.py_objects.specs.declared.payload.Payload.{Payload}
use Rattle.py_objects.specs.declared.payload.Payload.TheVariants as payload
use Rattle.py_objects.specs.declared.refs.PyTypeRef.{PyTypeRef}
use Rattle.py_objects.specs.declared.payload.ClassBody.{ClassBody}
use Rattle.py_objects.specs.declared.error_kind.ErrorKind.TheVariants.{GeneratorExit}
use Rattle.py_objects.specs.Values.{new_exception}
use Rattle.py_exceptions.specs.Classes.{class_of, first_classes}
use Rattle.py_objects.specs.declared.edit.Change.{Change}
use Rattle.py_objects.specs.declared.event.Event.{Event}
use Rattle.py_objects.specs.FrameEntries.{frames_in}
use Rattle.py_objects.specs.Objects.{Obj, AllFit, HasPayload, class_object}
use Rattle.py_objects.proofs.GrowthLemmas.{slice_get_behind, slice_get_grown}
use Rattle.py_lines.specs.declared.drive.DriveLine.{DriveLine}
use Rattle.py_make.specs.Made.{drawn, drives_of, next_state}
use Rattle.py_make.proofs.ScriptLemmas.{drives_by, drives_at, drives_from}
use Rattle.py_run.specs.Run.{Posed, Activation}
use Rattle.made_runs.proofs.Lists.{Each}
use Rattle.made_runs.proofs.Blocks.{block}
use Rattle.made_runs.specs.Runs.{most_events_of_a_group}
use Rattle.made_runs.proofs.Objects.{obj, shared_count, number_count, first_of_groups, base, store, IsMore, numbers_from}
use Rattle.made_runs.proofs.Objects.{numbers_at, numbers_length, empty_object}
use Rattle.made_runs.proofs.Groups.{Sort, Raises, Returns, Counts, sort_by, lines_of, asked_of, acts_of, made_of}
use Rattle.made_runs.proofs.Groups.{changes_of, events_of, fault_class, first_of, frame_of, frames_of, second_of}
use Rattle.made_runs.proofs.Ended.{IsEnded, IsGroup, group_ends}
use Rattle.made_runs.proofs.Sorts.{group_of, sort_for}

-- ---- the objects of the groups, and what their drives ask

-- the number that the group of r calls with
abbrev number_of : ℕ → ℕ
number_of r = r % 1000

-- its sort
abbrev pub sort_of : ℕ → Sort
sort_of r = sort_by (r % 2 == 0) (int_lt (pos (number_of r)) (pos 500))

-- the object of its number
abbrev number_object : ℕ → Obj
number_object r = obj (shared_count + number_of r)

-- the objects of so many groups after the state s, where m activations were made before, and the first frame has this number
abbrev pub objects_from : (count s m frame : ℕ) → List Payload
objects_from zero s m frame = []
objects_from (suc more) s m frame =
    let r : ℕ = drawn (next_state s) in
    first_of (sort_of r) m ∷ second_of (sort_of r) (frame + m) ∷ objects_from more (next_state s) (m + acts_of (sort_of r)) frame

-- the frames of their activations, in order
abbrev pub frames_made : (count s : ℕ) → List Payload
frames_made zero s = []
frames_made (suc more) s = frames_of (sort_of (drawn (next_state s))) ++ frames_made more (next_state s)

-- what their drives ask, where the objects of the first group begin with n
abbrev pub asked_from : (count s n : ℕ) → List Posed
asked_from zero s n = []
asked_from (suc more) s n =
    let r : ℕ = drawn (next_state s) in
    asked_of (sort_of r) n (number_object r) ++ asked_from more (next_state s) (2 + n)

-- there are two objects for each
pub objects_many : (count s m frame : ℕ) → length (objects_from count s m frame) ≡ 2 * count
objects_many zero s m frame = omega arith
objects_many (suc more) s m frame =
    let r : ℕ = drawn (next_state s) in
    let rest = objects_many more (next_state s) (m + acts_of (sort_of r)) frame in
    omega (arith, rest)

-- a new exception of a class that is there fits
exception_fits : (more : List Payload) (class : PyTypeRef) (body : ClassBody) → HasPayload (store more) (class_object class) (payload.Class body)
    → class.number < shared_count → IsMore (store more) (payload.Exception (new_exception class empty_object))
exception_fits more class body is low =
    let long : length (store more) ≡ shared_count + length more = length-append base more in (
      refl,
      (
        (omega (arith, low, long), (omega (arith, long), tt)),
        record {
          class = body;
          is_class = is;
          arguments = [];
          are_arguments = refl;
          cause = tt;
          context = tt;
          traceback = tt;
        },
      ),
    )

-- a group has as many frames as activations
frames_many : (sort : Sort) → length (frames_of sort) ≡ acts_of sort
frames_many Raises = refl
frames_many Returns = refl
frames_many Counts = refl

-- at least one
frames_some : (sort : Sort) → 0 < length (frames_of sort)
frames_some Raises = omega arith
frames_some Returns = omega arith
frames_some Counts = omega arith

-- its first frame is the first of these
frame_first : (sort : Sort) → slice_get (frames_of sort) 0 ≡ Some (frame_of sort)
frame_first Raises = refl
frame_first Returns = refl
frame_first Counts = refl

-- all frames of a run have their objects, from this number on
abbrev pub AreFramed : List Payload → (frame : ℕ) → List Payload → Type 0
AreFramed objects frame frames = (i : ℕ) (p : Payload) → slice_get frames i ≡ Some p → HasPayload objects (obj (frame + i)) p

-- the first frame of a group has its object, where so many frames are of earlier groups
frame_there : (objects : List Payload) (frame : ℕ) (front back : List Payload) (sort : Sort) → AreFramed objects frame (front ++ (frames_of sort ++ back))
    → HasPayload objects (obj (frame + length front)) (frame_of sort)
frame_there objects frame front back sort framed =
    framed (length front) (frame_of sort)
    (ap (slice_get (front ++ (frames_of sort ++ back))) (let same : length front ≡ length front + 0 = omega arith in same)
    ∙ slice_get_behind front (frames_of sort ++ back) 0 ∙ slice_get_grown (frames_of sort) back 0 (frame_of sort) (frame_first sort))

-- so do both objects of a group fit
objects_fit : (more : List Payload) (sort : Sort) (m frame : ℕ) (rest : List Payload) → HasPayload (store more) (obj frame) (frame_of sort) → Each (IsMore (store more)) rest
    → Each (IsMore (store more)) (first_of sort m ∷ second_of sort frame ∷ rest)
objects_fit more Raises m frame rest there fit =
    (exception_fits more fault_class _ refl (omega arith), ((refl, ((slice_get_within (store more) frame (payload.Frame 2) there, tt), (tt, (2, there)))), fit))
objects_fit more Returns m frame rest there fit = ((refl, (tt, tt)), ((refl, (tt, tt)), fit))
objects_fit more Counts m frame rest there fit =
    ((refl, (tt, tt)), (exception_fits more (class_of first_classes GeneratorExit) _ refl (omega arith), fit))

-- the objects of groups may come behind those that all runs share, with their frames
pub objects_more : (more : List Payload) (frame count s m : ℕ) (front : List Payload) → length front ≡ m → AreFramed (store more) frame (front ++ frames_made count s)
    → Each (IsMore (store more)) (objects_from count s m frame)
objects_more more frame zero s m front at framed = tt
objects_more more frame (suc k) s m front at framed =
    let sort : Sort = sort_of (drawn (next_state s)) in
    let behind : List Payload = frames_made k (next_state s) in
    let there : HasPayload (store more) (obj (frame + m)) (frame_of sort) =
    subst (λ (i : ℕ). HasPayload (store more) (obj (frame + i)) (frame_of sort)) at (frame_there (store more) frame front behind sort framed) in
    objects_fit more sort m (frame + m) (objects_from k (next_state s) (m + acts_of sort) frame) there
    (objects_more more frame k (next_state s) (m + acts_of sort) (front ++ frames_of sort)
    (length-append front (frames_of sort) ∙ ap (λ (i : ℕ). i + length (frames_of sort)) at ∙ ap (λ (i : ℕ). m + i) (frames_many sort))
    (subst (AreFramed (store more) frame) (sym (append_assoc front (frames_of sort) behind)) framed))

-- ---- what a group has

-- a group makes as many activations as its sort does
acts_many : (sort : Sort) (n : ℕ) (x : Obj) → length (made_of sort n x) ≡ acts_of sort
acts_many Raises n x = refl
acts_many Returns n x = refl
acts_many Counts n x = refl

-- its drives are those of its number
lines_are : (works raises : Bool) (v d : ℕ) → lines_of (sort_by works raises) v d ≡ drives_by works v d
lines_are true true v d = refl
lines_are true false v d = refl
lines_are false true v d = refl
lines_are false false v d = refl

-- it asks as many questions as it has drives
asked_many : (works raises : Bool) (n : ℕ) (x : Obj)
    → length (asked_of (sort_by works raises) n x) ≡ (if works then 1 else 3)
asked_many true true n x = refl
asked_many true false n x = refl
asked_many false true n x = refl
asked_many false false n x = refl

-- and has few events
events_few : (sort : Sort) (m d n : ℕ) (x : Obj) → length (block m d (events_of sort n x)) ≤ most_events_of_a_group
events_few Raises m d n x = omega arith
events_few Returns m d n x = omega arith
events_few Counts m d n x = omega arith

-- ---- the groups, one after another

-- the numbers and the objects of the groups
abbrev pub all_more : List Payload → List Payload
all_more own = numbers_from number_count 0 ++ own

module _ (asked : List Posed) (own : List Payload) where
  -- the objects of the run
  abbrev all : List Payload
  all = store (all_more own)

  -- a number has its object
  number_there : (v : ℕ) → v < number_count → HasPayload all (obj (shared_count + v)) (payload.Int (pos v))
  number_there v small =
      slice_get_behind base (all_more own) v
      ∙ slice_get_grown (numbers_from number_count 0) own v (payload.Int (pos (0 + v))) (numbers_at number_count 0 v small)
      ∙ ap (λ (i : ℕ). Some (payload.Int (pos i))) (let same : 0 + v ≡ v = omega arith in same)

  -- and so has an entry behind some of the groups' objects
  own_there : (front back : List Payload) (p : Payload) (n : ℕ) → own ≡ front ++ p ∷ back
      → n ≡ first_of_groups + length front → HasPayload all (obj n) p
  own_there front back p n is at =
      ap (slice_get all) (let same : n ≡ shared_count + (number_count + (length front + 0)) = omega (arith, at) in same)
      ∙ slice_get_behind base (all_more own) (number_count + (length front + 0))
      ∙ ap (λ (k : ℕ). slice_get (all_more own) (k + (length front + 0))) (sym (numbers_length number_count 0))
      ∙ slice_get_behind (numbers_from number_count 0) own (length front + 0)
      ∙ ap (λ (l : List Payload). slice_get l (length front + 0)) is
      ∙ slice_get_behind front (p ∷ back) 0

  -- a run of drives, of at most so many events, which names objects below n, and its changes
  pub record Reached (ds : List DriveLine) (qs : List Posed) (n most : ℕ) : Type 0 where
    pub events : List Event
    pub made : List Activation
    pub changes : List Change
    pub ended : IsEnded asked (all_more own) events ds qs made n changes
    pub short : length events ≤ most

  -- a run is one by other words, too
  moved : (ds ds' : List DriveLine) (qs qs' : List Posed) (n n' most most' : ℕ)
      → ds ≡ ds' → qs ≡ qs' → n ≡ n' → most ≤ most'
      → Reached ds qs n most → Reached ds' qs' n' most'
  moved ds ds' qs qs' n n' most most' same_lines same_asked same more reached = record {
    events = reached.events;
    made = reached.made;
    changes = reached.changes;
    ended =
        subst (λ (l : List DriveLine). IsEnded asked (all_more own) reached.events l qs' reached.made n' reached.changes) same_lines
        (subst (λ (l : List Posed). IsEnded asked (all_more own) reached.events ds l reached.made n' reached.changes) same_asked
        (subst (λ (i : ℕ). IsEnded asked (all_more own) reached.events ds qs reached.made i reached.changes) same reached.ended));
    short = (let few = reached.short in omega (arith, few, more));
  }

  -- a run with so many groups behind it, where all objects fit, and these are the frames of all activations
  pub reaches : (fit : AllFit all) (frame : ℕ) (frames : List Payload) → AreFramed all frame frames
      → ((i : ℕ) → i < length frames → slice_get (frames_in all) i ≡ Some (frame + i))
      → (count s : ℕ) (es : List Event) (ds : List DriveLine) (qs : List Posed) (ms : List Activation)
      (n : ℕ) (changes : List Change) (front before : List Payload)
      → IsEnded asked (all_more own) es ds qs ms n changes
      → asked ≡ qs ++ asked_from count s n
      → own ≡ front ++ (objects_from count s (length ms) frame ++ frames)
      → n ≡ first_of_groups + length front
      → frames ≡ before ++ frames_made count s → length before ≡ length ms
      → Reached (ds ++ drives_from count s (suc (length qs))) (qs ++ asked_from count s n)
      (n + 2 * count) (length es + most_events_of_a_group * count)
  reaches fit frame frames framed placed zero s es ds qs ms n changes front before ended asks is at are first =
      moved ds (ds ++ []) qs (qs ++ []) n (n + 2 * 0) (length es) (length es + most_events_of_a_group * 0)
      (sym (append-nil ds)) (sym (append-nil qs)) (omega arith) (omega arith)
      (record { events = es; made = ms; changes = changes; ended = ended; short = omega arith })
  reaches fit frame frames framed placed (suc k) s es ds qs ms n changes front before ended asks is at are first_at =
      let t : ℕ = next_state s in
      let r : ℕ = drawn t in
      let v : ℕ = number_of r in
      let works : Bool = r % 2 == 0 in
      let raises : Bool = int_lt (pos v) (pos 500) in
      let sort : Sort = sort_of r in
      let x : Obj = number_object r in
      let d : ℕ = suc (length qs) in
      let first : Payload = first_of sort (length ms) in
      let second : Payload = second_of sort (frame + length ms) in
      let both : List Payload = first ∷ second ∷ [] in
      let back : List Payload = objects_from k t (length ms + acts_of sort) frame in
      let frames_back : List Payload = frames_made k t in
      let asked_here : List Posed = asked_of sort n x in
      let asked_behind : List Posed = asked_from k t (2 + n) in
      let lines_here : List DriveLine = lines_of sort v d in
      let made : List Activation = made_of sort n x in
      let events : List Event = block (length ms) (length qs) (events_of sort n x) in
      let first_there : HasPayload all (obj n) first = own_there front (second ∷ (back ++ frames)) first n is at in
      let second_there : HasPayload all (obj (suc n)) second =
      own_there (front ++ first ∷ []) (back ++ frames) second (suc n) (is ∙ sym (append_assoc front (first ∷ []) (second ∷ (back ++ frames))))
      (omega (arith, at, length-append front (first ∷ []))) in
      let framed_here : AreFramed all frame (before ++ (frames_of sort ++ frames_back)) = subst (AreFramed all frame) are framed in
      let frame_here : HasPayload all (obj (frame + length ms)) (frame_of sort) =
      subst (λ (i : ℕ). HasPayload all (obj (frame + i)) (frame_of sort)) first_at (frame_there all frame before frames_back sort framed_here) in
      let within : length ms < length frames =
      (let many = ap (λ (l : List Payload). length l) are ∙ length-append before (frames_of sort ++ frames_back) in
      let more_many = length-append (frames_of sort) frames_back in
      let some = frames_some sort in
      omega (arith, many, more_many, some, first_at)) in
      let own_changes : List Change = changes_of sort (length es) n in
      let group : IsGroup asked (all_more own) es qs ms n (events_of sort n x) lines_here asked_here made own_changes =
      group_of asked (all_more own) es qs asked_behind ms n v x sort ds changes ended (sort_for works v)
      (omega (arith, at)) (omega (arith, at)) asks (number_there v (omega arith)) first_there (frame + length ms) second_there
      frame_here (placed (length ms) within) in
      let now : IsEnded asked (all_more own) (es ++ events) (ds ++ lines_here) (qs ++ asked_here) (ms ++ made) (2 + n) (changes ++ own_changes) =
      group_ends asked (all_more own) fit es ds qs ms n changes ended (events_of sort n x) lines_here asked_here made own_changes group in
      let many : length (ms ++ made) ≡ length ms + acts_of sort =
      length-append ms made ∙ ap (λ (i : ℕ). length ms + i) (acts_many sort n x) in
      let rest =
      reaches fit frame frames framed placed k t (es ++ events) (ds ++ lines_here) (qs ++ asked_here) (ms ++ made) (2 + n)
      (changes ++ own_changes) (front ++ both) (before ++ frames_of sort) now
      (asks ∙ sym (append_assoc qs asked_here asked_behind))
      (is ∙ sym (append_assoc front both (back ++ frames)) ∙ ap (λ (i : ℕ). (front ++ both) ++ (objects_from k t i frame ++ frames)) (sym many))
      (omega (arith, at, length-append front both))
      (are ∙ sym (append_assoc before (frames_of sort) frames_back))
      (length-append before (frames_of sort) ∙ ap (λ (i : ℕ). i + length (frames_of sort)) first_at ∙ ap (λ (i : ℕ). length ms + i) (frames_many sort) ∙ sym many) in
      let after : ℕ = suc (length (qs ++ asked_here)) in
      let last : after ≡ d + drives_of r = omega (arith, length-append qs asked_here, asked_many works raises n x) in
      let lines_are_all : (ds ++ lines_here) ++ drives_from k t after ≡ ds ++ drives_from (suc k) s d =
      append_assoc ds lines_here (drives_from k t after)
      ∙ ap (λ (l : List DriveLine). ds ++ (l ++ drives_from k t after)) (lines_are works raises v d)
      ∙ ap (λ (i : ℕ). ds ++ (drives_at r d ++ drives_from k t i)) last in
      let few : length (es ++ events) ≤ length es + most_events_of_a_group =
      (let short = events_few sort (length ms) (length qs) n x in
      omega (arith, short, length-append es events)) in
      moved ((ds ++ lines_here) ++ drives_from k t after) (ds ++ drives_from (suc k) s d)
      ((qs ++ asked_here) ++ asked_behind) (qs ++ (asked_here ++ asked_behind))
      (2 + n + 2 * k) (n + 2 * suc k)
      (length (es ++ events) + most_events_of_a_group * k) (length es + most_events_of_a_group * suc k)
      lines_are_all (append_assoc qs asked_here asked_behind) (omega arith) (omega (arith, few)) rest

  -- the run of no groups
  pub none : IsEnded asked (all_more own) [] [] [] [] first_of_groups []
  none = record {
    comes = tt;
    state = refl;
    generators = tt;
    names = tt;
    acts = tt;
    tells = λ i a at. absurd (cc at);
    asks = tt;
    links = tt;
    alone = tt;
    below = tt;
    all = refl;
  }
