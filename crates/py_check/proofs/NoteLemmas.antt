-- Where kinds and blocks fit others, and these fit a note, the first fit the note, too.
use Rattle.std.proofs.Common.{◌≡◌, ◌∙◌, ℕ, suc, ◌-◌, List, [], ◌∷◌, Bool, Option, None, Some, true, ◌&&◌, ◌||◌, ◌==◌, refl, sym, ap, subst, length, drop, zero, ⊎_elim}
use Rattle.std.specs.Prelude.{slice_get}
use Rattle.std.specs.List.{list_any, list_all}
use Rattle.std.proofs.Math.Bool.{or-true}
use Rattle.std.proofs.lemmas.Bool.{and_from, and_parts, or_cases, eqb-true, eq-eqb}
use Rattle.py_code.specs.Bottom.{bottom}
use Rattle.py_check.specs.declared.note.Kind.{Kind}
use Rattle.py_check.specs.declared.note.Kind.TheVariants as kind
use Rattle.py_check.specs.declared.note.Note.{Note}
use Rattle.py_check.specs.declared.note.Note.TheVariants.{Dead, Live}
use Rattle.py_check.specs.declared.note.Pending.{Pending}
use Rattle.py_check.specs.declared.note.Pending.TheVariants as pending
use Rattle.py_check.specs.declared.note.BlockNote.{BlockNote}
use Rattle.py_check.specs.declared.note.BlockNote.TheVariants as block
use Rattle.py_check.specs.Notes.{kind_number, kind_size, same_kind, plain_kind, kind_fits, kinds_fit, same_pending, is_subset, block_number, level_of, handler_of, pending_of, block_fits, blocks_fit, note_fits}

-- ---- kinds

-- the kinds of a size, each at its number
abbrev kinds_at : ℕ → List Kind
kinds_at n = kind.Any ∷ kind.Str ∷ kind.Tuple ∷ kind.List ∷ kind.Set ∷ kind.Dict ∷ kind.Exc ∷ kind.Cell ∷ kind.Cells n ∷ kind.Names n ∷ kind.Code n ∷ []

kind_found : (k : Kind) → slice_get (kinds_at (kind_size k)) (kind_number k) ≡ Some k
kind_found kind.Any = refl
kind_found kind.Str = refl
kind_found kind.Tuple = refl
kind_found kind.List = refl
kind_found kind.Set = refl
kind_found kind.Dict = refl
kind_found kind.Exc = refl
kind_found kind.Cell = refl
kind_found (kind.Cells n) = refl
kind_found (kind.Names n) = refl
kind_found (kind.Code c) = refl

-- kinds that pass for the same are the same
pub same_kinds : (k l : Kind) → same_kind k l ≡ true → k ≡ l
same_kinds k l same =
    let parts = and_parts _ _ same in
    let number : kind_number k ≡ kind_number l = eqb-true (kind_number k) (kind_number l) parts.0 in
    let size : kind_size k ≡ kind_size l = eqb-true (kind_size k) (kind_size l) parts.1 in
    let found : Some k ≡ Some l =
    sym (kind_found k) ∙ ap (λ n. slice_get (kinds_at n) (kind_number k)) size ∙ ap (slice_get (kinds_at (kind_size l))) number ∙ kind_found l in
    cc

-- every kind fits what Any fits
any_fits : (k l : Kind) → same_kind kind.Any l ≡ true → kind_fits k l ≡ true
any_fits k l any = rw any (or-true (same_kind k l || same_kind (plain_kind k) l))

-- a kind that is plainly a tuple fits what Tuple fits
tuple_fits : (k l : Kind) → plain_kind k ≡ kind.Tuple → kind_fits kind.Tuple l ≡ true → kind_fits k l ≡ true
tuple_fits k l plain fits =
    ⊎_elim
    (λ some. ⊎_elim (λ same. tuple same) (λ same. tuple same) (or_cases (same_kind kind.Tuple l) (same_kind kind.Tuple l) some))
    (λ any. any_fits k l any)
    (or_cases (same_kind kind.Tuple l || same_kind kind.Tuple l) (same_kind kind.Any l) fits)
  where
    tuple : same_kind kind.Tuple l ≡ true → kind_fits k l ≡ true
    tuple same = rw (plain, same, or-true (same_kind k l)) refl

-- a kind fits what its plain kind fits
plain_fits : (k l : Kind) → kind_fits (plain_kind k) l ≡ true → kind_fits k l ≡ true
plain_fits kind.Any l fits = fits
plain_fits kind.Str l fits = fits
plain_fits kind.Tuple l fits = fits
plain_fits kind.List l fits = fits
plain_fits kind.Set l fits = fits
plain_fits kind.Dict l fits = fits
plain_fits kind.Exc l fits = fits
plain_fits kind.Cell l fits = fits
plain_fits (kind.Cells n) l fits = tuple_fits (kind.Cells n) l refl fits
plain_fits (kind.Names n) l fits = tuple_fits (kind.Names n) l refl fits
plain_fits (kind.Code c) l fits = fits

kind_through : (k l m : Kind) → kind_fits k l ≡ true → kind_fits l m ≡ true → kind_fits k m ≡ true
kind_through k l m first then =
    ⊎_elim
    (λ some.
    ⊎_elim
    (λ same. subst (λ (x : Kind). kind_fits x m ≡ true) (sym (same_kinds k l same)) then)
    (λ plain. plain_fits k m (subst (λ (x : Kind). kind_fits x m ≡ true) (sym (same_kinds (plain_kind k) l plain)) then))
    (or_cases (same_kind k l) (same_kind (plain_kind k) l) some))
    (λ any. by_any (subst (λ (x : Kind). kind_fits x m ≡ true) (sym (same_kinds kind.Any l any)) then))
    (or_cases (same_kind k l || same_kind (plain_kind k) l) (same_kind kind.Any l) first)
  where
    by_any : kind_fits kind.Any m ≡ true → kind_fits k m ≡ true
    by_any fits =
        ⊎_elim
        (λ some. ⊎_elim (λ any. any_fits k m any) (λ any. any_fits k m any) (or_cases (same_kind kind.Any m) (same_kind kind.Any m) some))
        (λ any. any_fits k m any)
        (or_cases (same_kind kind.Any m || same_kind kind.Any m) (same_kind kind.Any m) fits)

kinds_through : (ks ls ms : List Kind) → kinds_fit ks ls ≡ true → kinds_fit ls ms ≡ true → kinds_fit ks ms ≡ true
kinds_through [] [] ms first then = then
kinds_through [] (l ∷ ls) ms first then = cc
kinds_through (k ∷ ks) [] ms first then = cc
kinds_through (k ∷ ks) (l ∷ ls) [] first then = cc
kinds_through (k ∷ ks) (l ∷ ls) (m ∷ ms) first then =
    let here = and_parts (kind_fits k l) (kinds_fit ks ls) first in
    let there = and_parts (kind_fits l m) (kinds_fit ls ms) then in
    and_from (kind_fits k m) (kinds_fit ks ms) (kind_through k l m here.0 there.0) (kinds_through ks ls ms here.1 there.1)

-- as many kinds fit as are asked
fitting_count : (ks ls : List Kind) → kinds_fit ks ls ≡ true → length ks ≡ length ls
fitting_count [] [] fit = refl
fitting_count [] (l ∷ ls) fit = cc
fitting_count (k ∷ ks) [] fit = cc
fitting_count (k ∷ ks) (l ∷ ls) fit = ap suc (fitting_count ks ls (and_parts (kind_fits k l) (kinds_fit ks ls) fit).1)

fitting_rest : (n : ℕ) (ks ls : List Kind) → kinds_fit ks ls ≡ true → kinds_fit (drop n ks) (drop n ls) ≡ true
fitting_rest zero ks ls fit = fit
fitting_rest (suc n) [] [] fit = refl
fitting_rest (suc n) [] (l ∷ ls) fit = cc
fitting_rest (suc n) (k ∷ ks) [] fit = cc
fitting_rest (suc n) (k ∷ ks) (l ∷ ls) fit = fitting_rest n ks ls (and_parts (kind_fits k l) (kinds_fit ks ls) fit).1

pub fitting_bottom : (level : ℕ) (ks ls : List Kind) → kinds_fit ks ls ≡ true → kinds_fit (bottom level ks) (bottom level ls) ≡ true
fitting_bottom level ks ls fit =
    subst (λ (n : ℕ). kinds_fit (bottom level ks) (drop (n - level) ls) ≡ true) (fitting_count ks ls fit) (fitting_rest (length ks - level) ks ls fit)

-- ---- blocks

same_jump : (p q : Pending) → same_pending p q ≡ true → p ≡ q
same_jump (pending.Break t) (pending.Break u) same = ap pending.Break (eqb-true t u same)
same_jump (pending.Break t) (pending.Continue u) same = cc
same_jump (pending.Continue t) (pending.Break u) same = cc
same_jump (pending.Continue t) (pending.Continue u) same = ap pending.Continue (eqb-true t u same)

-- what holds of each of some jumps holds of one of them
pub one_of : (test : Pending → Bool) (p : Pending) (ps : List Pending) → list_all test ps ≡ true → list_any (same_pending p) ps ≡ true → test p ≡ true
one_of test p [] all any = cc
one_of test p (q ∷ ps) all any =
    let parts = and_parts (test q) (list_all test ps) all in
    ⊎_elim
    (λ (same : same_pending p q ≡ true). ap test (same_jump p q same) ∙ parts.0)
    (λ (more : list_any (same_pending p) ps ≡ true). one_of test p ps parts.1 more)
    (or_cases (same_pending p q) (list_any (same_pending p) ps) any)

subset_through : (ps qs rs : List Pending) → is_subset ps qs ≡ true → is_subset qs rs ≡ true → is_subset ps rs ≡ true
subset_through [] qs rs first then = refl
subset_through (p ∷ ps) qs rs first then =
    let parts = and_parts (list_any (same_pending p) qs) (is_subset ps qs) first in
    and_from
    (list_any (same_pending p) rs)
    (is_subset ps rs)
    (one_of (λ q. list_any (same_pending q) rs) p qs then parts.0)
    (subset_through ps qs rs parts.1 then)

-- what a note that fits another has in common with it
pub record Common (c d : BlockNote) : Type 0 where
  pub number : block_number c ≡ block_number d
  pub level : level_of c ≡ level_of d
  pub handler : handler_of c ≡ handler_of d
  pub subset : is_subset (pending_of c) (pending_of d) ≡ true

pub common : (c d : BlockNote) → block_fits c d ≡ true → Common c d
common c d fits =
    let numbers : Bool = block_number c == block_number d in
    let levels : Bool = level_of c == level_of d in
    let handlers : Bool = handler_of c == handler_of d in
    let three = and_parts (numbers && levels && handlers) (is_subset (pending_of c) (pending_of d)) fits in
    let two = and_parts (numbers && levels) handlers three.0 in
    let one = and_parts numbers levels two.0 in
    record {
      number = eqb-true (block_number c) (block_number d) one.0;
      level = eqb-true (level_of c) (level_of d) one.1;
      handler = eqb-true (handler_of c) (handler_of d) two.1;
      subset = three.1;
    }

pub common_fits : (c d : BlockNote) → Common c d → block_fits c d ≡ true
common_fits c d both =
    let numbers : Bool = block_number c == block_number d in
    let levels : Bool = level_of c == level_of d in
    let handlers : Bool = handler_of c == handler_of d in
    let one = and_from numbers levels (eq-eqb (block_number c) (block_number d) both.number) (eq-eqb (level_of c) (level_of d) both.level) in
    let two = and_from (numbers && levels) handlers one (eq-eqb (handler_of c) (handler_of d) both.handler) in
    and_from (numbers && levels && handlers) (is_subset (pending_of c) (pending_of d)) two both.subset

block_through : (b c d : BlockNote) → block_fits b c ≡ true → block_fits c d ≡ true → block_fits b d ≡ true
block_through b c d first then =
    let here = common b c first in
    let there = common c d then in
    common_fits b d (record {
      number = here.number ∙ there.number;
      level = here.level ∙ there.level;
      handler = here.handler ∙ there.handler;
      subset = subset_through (pending_of b) (pending_of c) (pending_of d) here.subset there.subset;
    })

blocks_through : (bs cs ds : List BlockNote) → blocks_fit bs cs ≡ true → blocks_fit cs ds ≡ true → blocks_fit bs ds ≡ true
blocks_through [] [] ds first then = then
blocks_through [] (c ∷ cs) ds first then = cc
blocks_through (b ∷ bs) [] ds first then = cc
blocks_through (b ∷ bs) (c ∷ cs) [] first then = cc
blocks_through (b ∷ bs) (c ∷ cs) (d ∷ ds) first then =
    let here = and_parts (block_fits b c) (blocks_fit bs cs) first in
    let there = and_parts (block_fits c d) (blocks_fit cs ds) then in
    and_from (block_fits b d) (blocks_fit bs ds) (block_through b c d here.0 there.0) (blocks_through bs cs ds here.1 there.1)

-- so kinds and blocks fit what others fit that they fit
pub note_through : (ks ls : List Kind) (bs cs : List BlockNote) (note : Option Note) → kinds_fit ks ls ≡ true → blocks_fit bs cs ≡ true → note_fits ls cs note ≡ true → note_fits ks bs note ≡ true
note_through ks ls bs cs None kinds blocks fits = fits
note_through ks ls bs cs (Some Dead) kinds blocks fits = fits
note_through ks ls bs cs (Some (Live ms ds)) kinds blocks fits =
    let parts = and_parts (kinds_fit ls ms) (blocks_fit cs ds) fits in
    and_from (kinds_fit ks ms) (blocks_fit bs ds) (kinds_through ks ls ms kinds parts.0) (blocks_through bs cs ds blocks parts.1)

-- ---- a block that fits another is that one, but for the jumps that may wait

-- the blocks of a level, a handler and jumps, each at its number
abbrev blocks_at : (level handler : ℕ) → List Pending → List BlockNote
blocks_at level handler ps = block.Loop level ∷ block.TryExcept level handler ∷ block.Finally level handler ∷ block.FinallyHandler level ps ∷ block.ExceptHandler level ∷ []

block_found : (b : BlockNote) → slice_get (blocks_at (level_of b) (handler_of b) (pending_of b)) (block_number b) ≡ Some b
block_found (block.Loop level) = refl
block_found (block.TryExcept level handler) = refl
block_found (block.Finally level handler) = refl
block_found (block.FinallyHandler level ps) = refl
block_found (block.ExceptHandler level) = refl

-- a block where these jumps may wait, if any may
abbrev pub with_pending : BlockNote → List Pending → BlockNote
with_pending (block.FinallyHandler level ps) qs = block.FinallyHandler level qs
with_pending b qs = b

found_with : (b : BlockNote) (qs : List Pending) → slice_get (blocks_at (level_of b) (handler_of b) qs) (block_number b) ≡ Some (with_pending b qs)
found_with (block.Loop level) qs = refl
found_with (block.TryExcept level handler) qs = refl
found_with (block.Finally level handler) qs = refl
found_with (block.FinallyHandler level ps) qs = refl
found_with (block.ExceptHandler level) qs = refl

pub fitting_block : (b c : BlockNote) → block_fits b c ≡ true → c ≡ with_pending b (pending_of c)
fitting_block b c fits =
    let both = common b c fits in
    let found : slice_get (blocks_at (level_of b) (handler_of b) (pending_of c)) (block_number b) ≡ Some c = rw (both.level, both.handler, both.number) (block_found c) in
    let same : Some c ≡ Some (with_pending b (pending_of c)) = sym found ∙ found_with b (pending_of c) in
    cc
