-- Which lines the reader has taken.
use Rattle.std.proofs.Common.{◌≡◌, ℕ, suc, List, [], ◌∷◌, ◌++◌, Option, Some, None, refl, sym, ap, ◌∙◌, append_assoc, append-nil, subst, map}
use Rattle.std.specs.Prelude.{codes}
use Rattle.py_tree.specs.Tree.{Name}
use Rattle.py_lines.specs.declared.drive.DriveLine.{DriveLine}
use Rattle.py_lines.specs.declared.head.Turn.{Turn}
use Rattle.py_lines.specs.declared.head.Turn.TheVariants as turn
use Rattle.py_lines.specs.declared.header.Header.TheVariants as header
use Rattle.py_lines.specs.declared.raw.RawLine.{RawLine}
use Rattle.py_lines.specs.declared.raw.RawLine.TheVariants as raw
use Rattle.py_lines.specs.Line.{Line, LineRead, Blank, Said, Malformed}
use Rattle.py_lines.specs.Line as line
use Rattle.py_lines.specs.Reading.{IsReadAs}
use Rattle.py_grammar.specs.Grammar.{Row, row, Decl, declared_as, kept_number}
use Rattle.py_grammar.specs.Lines.{lines}
use Rattle.py_grammar.specs.RawText.{RawText}
use Rattle.py_grammar.specs.Rules.{callables}
use Rattle.py_grammar.specs.Script.{Text, with_read, rows_from, Spells, Begins}
use Rattle.py_grammar.specs.Reader.{Block, Open, Unclosed, open_body, open_code, State, state, start, accept, accept_at, outside, in_body, in_code, code_line, still_inside, still_coded, takes_line, turned}
use Rattle.py_grammar.proofs.LineReads.{AreReadAs, read_length, read_append, after, after-one, both_rows, rows_from-append}
use Rattle.py_grammar.proofs.Runs.{run, run-append, and_then}
use Rattle.py_grammar.proofs.Sound.{Came, CameTo, sound}

-- ---- one more line

-- the reader looks at no number that trees don't keep
outside-kept : (ts : List Decl) (ds : List DriveLine) (n : ℕ) (l : Line) → outside ts ds (kept_number n l) l ≡ outside ts ds n l
outside-kept ts ds n line.End = refl
outside-kept ts ds n (line.Header (header.Def k f ps)) = refl
outside-kept ts ds n (line.Header (header.Code f ps)) = refl
outside-kept ts ds n (line.Header (header.Class c b)) = refl
outside-kept ts ds n (line.Header (header.Manager m e x)) = refl
outside-kept ts ds n l = refl

turned-kept : (o : Open) (n : ℕ) (t : Turn) (bs : List Block) → turned o (kept_number n (line.Turns t)) t bs ≡ turned o n t bs
turned-kept o n turn.Else [] = refl
turned-kept o n turn.Else (b ∷ bs) = refl
turned-kept o n (turn.Except c x) bs = refl
turned-kept o n turn.Finally [] = refl
turned-kept o n turn.Finally (b ∷ bs) = refl

in_body-kept : (ts : List Decl) (ds : List DriveLine) (o : Open) (n : ℕ) (l : Line) → in_body ts ds o (kept_number n l) l ≡ in_body ts ds o n l
in_body-kept ts ds o n line.End = refl
in_body-kept ts ds o n (line.Turns t) = ap (still_inside ts ds) (turned-kept o n t o.blocks)
in_body-kept ts ds o n l = refl

code_line-kept : (fs : List Name) (t : RawText) (n : ℕ) (l : RawLine) → code_line fs t (kept_number n (line.Raw l)) l ≡ code_line fs t n l
code_line-kept fs t n (raw.Unit i a x) = refl
code_line-kept fs t n l = refl

in_code-kept : (ts : List Decl) (ds : List DriveLine) (t : RawText) (n : ℕ) (l : Line) → in_code ts ds t (kept_number n l) l ≡ in_code ts ds t n l
in_code-kept ts ds t n (line.Raw l) = ap (still_coded ts ds) (code_line-kept (callables (map declared_as ts)) t n l)
in_code-kept ts ds t n l = refl

accept-kept : (ts : List Decl) (ds : List DriveLine) (i : Option Unclosed) (n : ℕ) (l : Line) → accept_at ts ds i (kept_number n l) l ≡ accept_at ts ds i n l
accept-kept ts ds None n l = outside-kept ts ds n l
accept-kept ts ds (Some (open_body o)) n l = in_body-kept ts ds o n l
accept-kept ts ds (Some (open_code t)) n l = in_code-kept ts ds t n l

-- the reader has taken these lines and is here
pub record Been (front : Text) (st : State) : Type 0 where
  pub reads : List LineRead
  pub read : AreReadAs front reads
  pub rows : List Row
  pub numbered : rows_from 1 reads ≡ Some rows
  pub ran : run start rows ≡ Some st
  pub came : Came rows st.decls st.drives st.inside

abbrev pub BeenTo : Text → Option State → Type 0
BeenTo front None = Unit {0}
BeenTo front (Some st) = Been front st

pub been_start : Been [] start
been_start = record {
  reads = [];
  read = tt;
  rows = [];
  numbered = refl;
  ran = refl;
  came = record { items = []; spelled = refl; declared = refl; driven = refl; well = tt; well_open = tt };
}

-- the rows with one more line
pub rows_behind : (front : Text) (st : State) (b : Been front st) (r : LineRead)
    → rows_from 1 (b.reads ++ r ∷ []) ≡ both_rows (Some b.rows) (with_read (after 1 front) r (Some []))
rows_behind front st b r =
    let numbers : after 1 b.reads ≡ after 1 front = after-one b.reads ∙ ap suc (read_length front b.reads b.read) ∙ sym (after-one front) in
    rows_from-append 1 b.reads (r ∷ []) ∙ ap (λ q. both_rows q (with_read (after 1 b.reads) r (Some []))) b.numbered
    ∙ ap (λ n. both_rows (Some b.rows) (with_read n r (Some []))) numbers

and_then_some : (o : Option State) → and_then o (λ s. Some s) ≡ o
and_then_some None = refl
and_then_some (Some s) = refl

-- what the reader has behind them
pub ran_behind : (front : Text) (st : State) (b : Been front st) (x : Line) → run start (b.rows ++ row (after 1 front) x ∷ []) ≡ accept st (after 1 front) x
ran_behind front st b x =
    let n : ℕ = after 1 front in
    run-append start b.rows (row n x ∷ []) ∙ ap (λ q. and_then q (λ s. run s (row n x ∷ []))) b.ran
    ∙ and_then_some (accept st (kept_number n x) x) ∙ accept-kept st.decls st.drives st.inside n x

pub one_line : (front : Text) (st : State) (l : List ℕ) (r : LineRead) → IsReadAs l r → Been front st → BeenTo (front ++ l ∷ []) (takes_line st (after 1 front) r)
one_line front st l Malformed e b = tt
one_line front st l Blank e b = record {
  reads = b.reads ++ Blank ∷ [];
  read = read_append front (l ∷ []) b.reads (Blank ∷ []) b.read (e, tt);
  rows = b.rows;
  numbered = rows_behind front st b Blank ∙ ap Some (append-nil b.rows);
  ran = b.ran;
  came = b.came;
}
one_line front st l (Said x) e b = go (accept st (after 1 front) x) refl (sound b.rows st.decls st.drives st.inside (after 1 front) x b.came)
  where
    go : (o : Option State) → accept st (after 1 front) x ≡ o → CameTo (b.rows ++ row (after 1 front) x ∷ []) o → BeenTo (front ++ l ∷ []) o
    go None k c = tt
    go (Some s) k c = record {
      reads = b.reads ++ Said x ∷ [];
      read = read_append front (l ∷ []) b.reads (Said x ∷ []) b.read (e, tt);
      rows = b.rows ++ row (after 1 front) x ∷ [];
      numbered = rows_behind front st b (Said x);
      ran = ran_behind front st b x ∙ k;
      came = c;
    }

-- ---- scripts that begin with them

-- with nothing open, the lines are a script
pub been_spells : (front : Text) (ts : List Decl) (ds : List DriveLine) → Been front (state ts ds None) → Spells front ts ds
been_spells front ts ds b = record {
  items = b.came.items;
  reads = b.reads;
  read = b.read;
  spelled = b.numbered ∙ ap Some (b.came.spelled ∙ append-nil _);
  well = b.came.well;
  declared = b.came.declared;
  driven = b.came.driven;
}

pub begins_whole : (front : Text) (ts : List Decl) (ds : List DriveLine) → Been front (state ts ds None) → Begins front
begins_whole front ts ds b = ([], ts, ds, subst (λ t. Spells t ts ds) (sym (append-nil front)) (been_spells front ts ds b))

-- a script that begins with lines and one more begins with the lines
pub begins_before : (l : List ℕ) → ((more : List ℕ) → lines (l ++ 10 ∷ more) ≡ l ∷ lines more) → (front : Text) → Begins (front ++ l ∷ []) → Begins front
begins_before l one front b =
    (l ++ 10 ∷ b.0, b.1, b.2, subst (λ t. Spells t b.1 b.2) (append_assoc front (l ∷ []) (lines b.0) ∙ ap (λ ls. front ++ ls) (sym (one b.0))) b.3)

abbrev pub end_line : List ℕ
end_line = codes "end"

pub begins_end : (front : Text) → Begins (front ++ end_line ∷ []) → Begins front
begins_end front b = begins_before end_line (λ more. refl) front b
