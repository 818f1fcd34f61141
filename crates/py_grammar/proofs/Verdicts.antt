-- The verdict of the reader is the grammar's, and there is one.
use Rattle.std.proofs.Common.{◌≡◌, ◌⊎◌, inl, inr, ℕ, suc, List, [], ◌∷◌, ◌++◌, length, Option, Some, None, refl, sym, ap, ◌∙◌, append_assoc, append-nil, subst}
use Rattle.std.specs.Prelude.{IsOk}
use Rattle.std.specs.declared.result.Result.{Result}
use Rattle.std.specs.declared.result.Result.TheVariants.{Ok, Err}
use Rattle.py_lines.specs.declared.drive.DriveLine.{DriveLine}
use Rattle.py_lines.specs.Laws.{ReadsSomeWay}
use Rattle.py_grammar.specs.declared.fault.ParseFault.{ParseFault}
use Rattle.py_grammar.specs.declared.fault.ParseFault.TheVariants.{Malformed, NoMemory}
use Rattle.py_grammar.specs.declared.script.Script.{Script}
use Rattle.py_grammar.specs.Grammar.{Decl}
use Rattle.py_grammar.specs.Lines.{lines}
use Rattle.py_grammar.specs.Script.{Text, Spells, SpellsSome, Begins, IsFirstBad, IsLeftOpen, IsBadLine, IsScript, decls_of}
use Rattle.py_grammar.specs.Reader.{Unclosed, State, state, start, takes_line, at_end, Verdict, Good, Bad, Goes, WalksTo}
use Rattle.py_grammar.specs.Reading.{IsAnswerTo}
use Rattle.py_grammar.proofs.LineReads.{after, after-append, after-one}
use Rattle.py_grammar.proofs.Been.{Been, BeenTo, been_start, one_line, been_spells}
use Rattle.py_grammar.proofs.Begun.{begins_at, begins, as_lines, script_read, refused, as_bytes, begins_fewer}
use Rattle.py_grammar.proofs.Walks.{walked}

abbrev pub IsBad : Text → ℕ → Type 0
IsBad text k = IsFirstBad text k ⊎ IsLeftOpen text k

-- a verdict is true of a text
abbrev pub IsTrueOf : Text → Verdict → Type 0
IsTrueOf text (Good ts ds) = Spells text ts ds
IsTrueOf text (Bad k) = IsBad text k

-- at the end of the lines
true_at_end : (front : Text) (ts : List Decl) (ds : List DriveLine) (i : Option Unclosed) → Been front (state ts ds i) → IsTrueOf front (at_end ts ds i (after 1 front))
true_at_end front ts ds None b = been_spells front ts ds b
true_at_end front ts ds (Some o) b = inr (
  after-one front,
  begins_at front ts ds (Some o) b,
  λ trees drives s.
      let f : Some (state ts ds (Some o)) ≡ Some (state trees drives None) = sym b.ran ∙ script_read front trees drives b.reads b.rows s b.read b.numbered in
      let g : state ts ds (Some o) ≡ state trees drives None = cc f in
      let h : Some o ≡ None = ap (λ q. q.inside) g in
      cc h,
)

true_from : (rest front : Text) (st : State) (v : Verdict) → Been front st → WalksTo st (after 1 front) rest v → IsTrueOf (front ++ rest) v
true_from [] front st v b w =
    subst (λ t. IsTrueOf t v) (sym (append-nil front)) (subst (IsTrueOf front) (sym w) (true_at_end front st.decls st.drives st.inside b))
true_from (l ∷ ls) front st v b w = go (takes_line st (after 1 front) w.0) refl (one_line front st l w.0 w.1 b) w.2
    (λ s c u. true_from ls (front ++ l ∷ []) s v c (subst (λ n. WalksTo s n ls v) (sym (after-append 1 front l)) u))
  where
    go : (o : Option State) → takes_line st (after 1 front) w.0 ≡ o → BeenTo (front ++ l ∷ []) o
        → Goes o (after 1 front) (λ s u. WalksTo s (suc (after 1 front)) ls u) v
        → ((s : State) → Been (front ++ l ∷ []) s → WalksTo s (suc (after 1 front)) ls v → IsTrueOf ((front ++ l ∷ []) ++ ls) v) → IsTrueOf (front ++ l ∷ ls) v
    go None k c u f = subst (IsTrueOf (front ++ l ∷ ls)) (sym u)
        (inl (front, l, ls, refl, after-one front, begins front st b, λ g. refused front st l w.0 w.1 b k (as_lines (front ++ l ∷ []) g)))
    go (Some s) k c u f = subst (λ t. IsTrueOf t v) (append_assoc front (l ∷ []) ls) (f s c u)

-- the verdict on a text is true of it
pub verdict_true : (text : Text) (v : Verdict) → WalksTo start 1 text v → IsTrueOf text v
verdict_true text v w = true_from text [] start v been_start w

-- a text is one script at most
one_spelling : (text : Text) (ts ts2 : List Decl) (ds ds2 : List DriveLine) → Spells text ts ds → Spells text ts2 ds2 → (ts ≡ ts2) × (ds ≡ ds2)
one_spelling text ts ts2 ds ds2 a b =
    let f : Some (state ts ds None) ≡ Some (state ts2 ds2 None) =
    sym (script_read text ts ds a.reads _ a a.read a.spelled) ∙ script_read text ts2 ds2 a.reads _ b a.read a.spelled in
    let g : state ts ds None ≡ state ts2 ds2 None = cc f in
    (ap (λ q. q.decls) g, ap (λ q. q.drives) g)

-- a script has no bad line
script_not_bad : (text : Text) (ts : List Decl) (ds : List DriveLine) (k : ℕ) → Spells text ts ds → IsBad text k → ⊥
script_not_bad text ts ds k s (inl b) = b.6 (as_bytes (b.0 ++ b.1 ∷ []) (b.2, ts, ds, subst (λ t. Spells t ts ds) (b.3 ∙ sym (append_assoc b.0 (b.1 ∷ []) b.2)) s))
script_not_bad text ts ds k s (inr b) = b.2 ts ds s

-- the first place at which a property of beginnings ends is one
same_place : (f1 f2 : Text) (l1 l2 : List ℕ) (b1 b2 : Text) (P : Text → Type 0) → ((a b : Text) → P (a ++ b) → P a) → P f1 → (P (f1 ++ l1 ∷ []) → ⊥) → P f2
    → (P (f2 ++ l2 ∷ []) → ⊥)
    → f1 ++ l1 ∷ b1 ≡ f2 ++ l2 ∷ b2 → length f1 ≡ length f2
same_place [] [] l1 l2 b1 b2 P c p np q nq e = refl
same_place [] (y ∷ f2) l1 l2 b1 b2 P c p np q nq e = let h : l1 ≡ y = cc e in absurd (np (subst (λ x. P (x ∷ [])) (sym h) (c (y ∷ []) f2 q)))
same_place (x ∷ f1) [] l1 l2 b1 b2 P c p np q nq e = let h : x ≡ l2 = cc e in absurd (nq (subst (λ z. P (z ∷ [])) h (c (x ∷ []) f1 p)))
same_place (x ∷ f1) (y ∷ f2) l1 l2 b1 b2 P c p np q nq e =
    let h : x ≡ y = cc e in
    let t : f1 ++ l1 ∷ b1 ≡ f2 ++ l2 ∷ b2 = cc e in
    ap suc (same_place f1 f2 l1 l2 b1 b2 (λ f. P (x ∷ f)) (λ a b r. c (x ∷ a) b r) p np (subst (λ z. P (z ∷ f2)) (sym h) q) (λ r. nq (subst (λ z. P (z ∷ (f2 ++ l2 ∷ []))) h r)) t)

-- a text has one bad line at most
one_bad : (text : Text) (j k : ℕ) → IsBad text j → IsBad text k → j ≡ k
one_bad text j k (inl a) (inl b) = a.4 ∙ ap suc (same_place a.0 b.0 a.1 b.1 a.2 b.2 Begins begins_fewer a.5 a.6 b.5 b.6 (sym a.3 ∙ b.3)) ∙ sym b.4
one_bad text j k (inl a) (inr b) = absurd (a.6 (begins_fewer (a.0 ++ a.1 ∷ []) a.2 (subst Begins (a.3 ∙ sym (append_assoc a.0 (a.1 ∷ []) a.2)) b.1)))
one_bad text j k (inr a) (inl b) = absurd (b.6 (begins_fewer (b.0 ++ b.1 ∷ []) b.2 (subst Begins (b.3 ∙ sym (append_assoc b.0 (b.1 ∷ []) b.2)) a.1)))
one_bad text j k (inr a) (inr b) = a.0 ∙ sym b.0

-- each text is a script or has a bad line
pub script_or_bad : ReadsSomeWay → (bytes : List ℕ) → ((ts : List Decl) × (ds : List DriveLine) × Spells (lines bytes) ts ds) ⊎ ((k : ℕ) × IsBadLine bytes k)
script_or_bad some bytes = let w = walked some (lines bytes) 1 start in go w.0 (verdict_true (lines bytes) w.0 w.1)
  where
    go : (v : Verdict) → IsTrueOf (lines bytes) v → ((ts : List Decl) × (ds : List DriveLine) × Spells (lines bytes) ts ds) ⊎ ((k : ℕ) × IsBadLine bytes k)
    go (Good ts ds) t = inl (ts, ds, t)
    go (Bad k) t = inr (k, t)

-- from the answer of the reader to that of the grammar
pub answer_ok : (bytes : List ℕ) (r : Result Script ParseFault) (s : Script) → IsAnswerTo (lines bytes) r → r ≡ Ok s → IsScript bytes s
answer_ok bytes r s v e = verdict_true (lines bytes) (Good (decls_of s) s.drives) (subst (IsAnswerTo (lines bytes)) e v)

pub answer_malformed : (bytes : List ℕ) (r : Result Script ParseFault) → IsAnswerTo (lines bytes) r → (k : ℕ) → r ≡ Err (Malformed k) → IsBadLine bytes k
answer_malformed bytes r v k e = verdict_true (lines bytes) (Bad k) (subst (IsAnswerTo (lines bytes)) e v)

pub answer_only_scripts : (bytes : List ℕ) (r : Result Script ParseFault) → IsAnswerTo (lines bytes) r → (s : Script) → IsScript bytes s
    → (r ≡ Err NoMemory) ⊎ IsOk r
answer_only_scripts bytes (Ok t) v s i = inr refl
answer_only_scripts bytes (Err NoMemory) v s i = inl refl
answer_only_scripts bytes (Err (Malformed k)) v s i = absurd (script_not_bad (lines bytes) (decls_of s) s.drives k i (verdict_true (lines bytes) (Bad k) v))

pub answer_bad : (bytes : List ℕ) (r : Result Script ParseFault) → IsAnswerTo (lines bytes) r → (k : ℕ) → IsBadLine bytes k
    → (r ≡ Err NoMemory) ⊎ (r ≡ Err (Malformed k))
answer_bad bytes (Err NoMemory) v k b = inl refl
answer_bad bytes (Ok t) v k b = absurd (script_not_bad (lines bytes) (decls_of t) t.drives k (verdict_true (lines bytes) (Good (decls_of t) t.drives) v) b)
answer_bad bytes (Err (Malformed j)) v k b = inr (ap (λ x. Err (Malformed x)) (one_bad (lines bytes) j k (verdict_true (lines bytes) (Bad j) v) b))

pub one_tree : (bytes : List ℕ) (s t : Script) → IsScript bytes s → IsScript bytes t → (decls_of s ≡ decls_of t) × (s.drives ≡ t.drives)
one_tree bytes s t a b = one_spelling (lines bytes) _ _ _ _ a b

pub spelled_not_bad : (bytes : List ℕ) (k : ℕ) → SpellsSome bytes → IsBadLine bytes k → ⊥
spelled_not_bad bytes k (decls, drives, spelled) bad = script_not_bad (lines bytes) decls drives k spelled bad

pub not_both : (bytes : List ℕ) (s : Script) (k : ℕ) → IsScript bytes s → IsBadLine bytes k → ⊥
not_both bytes s k script bad = spelled_not_bad bytes k (decls_of s, s.drives, script) bad

pub one_bad_line : (bytes : List ℕ) (j k : ℕ) → IsBadLine bytes j → IsBadLine bytes k → j ≡ k
one_bad_line bytes j k a b = one_bad (lines bytes) j k a b
