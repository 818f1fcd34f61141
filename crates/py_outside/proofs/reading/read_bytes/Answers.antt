use Rattle.std.proofs.Common.{◌∙◌, [], arith, refl}
use Rattle.std.proofs.KnownBytes.{Consumes-all}
use Rattle.std.proofs.lemmas.Bool.{ne_eqb}
use Rattle.std.proofs.lemmas.Result.{err_from_is_err_and}
use Rattle.py_outside.proofs.Moves.{had_more, long_not_fault, lost_more, no_error, piece_size, read_more, same_error, untouched_more}
use Rattle.py_outside.proofs.reading.read_bytes.Goals as goal

pub returns-in_err-read_piece : goal.returns-in_err-read_piece
returns-in_err-read_piece g c =
    let p = err_from_is_err_and c.from_residual.result c.from_residual.ensures.1 in
    let was = c.loop-turn.invariant in
    let now = c.in_err-read_piece.ensures in
    rw (p.1, p.2) record {
      read = tt;
      short = tt;
      err = lost_more _ _ _ _ _ _ (omega (arith, was.short)) was.consumed now.err;
      long = λ is. absurd (now.not_long (same_error is));
      end = tt;
      more = λ is. absurd (now.not_long (same_error is));
      fault = λ is. rw (← was.counted) (now.fault (same_error is));
      later = omega (arith, was.counted, now.later);
      counted = λ other. now.counted (λ is. other (same_error is)) ∙ was.counted;
      turns = omega (arith, c.loop-turn-test.true, was.reads, now.turns);
      sound = λ sure. untouched_more was.counted same_error (now.sound (was.sound sure));
    }

pub returns-then-branch-eq0 : goal.returns-then-branch-eq0
returns-then-branch-eq0 g c =
    let was = c.loop-turn.invariant in
    let now = c.in_ok-read_piece.ensures in
    let all = read_more _ _ _ _ _ _ was.consumed now.takes in
    let over = now.takes.ended c.if-branch-eq0.true in
    record {
      read = (Consumes-all _ _ _ [] _ all over refl, over);
      short = omega (arith, was.short, piece_size _ _ _ _ _ now.takes, c.loop-turn.bytes.ok.0, c.read_piece.new.bytes.ok.0);
      err = tt;
      long = λ is. absurd (no_error is);
      end = rw (now.end, c.if-branch-eq0.true) refl;
      more = λ is. absurd (no_error is);
      fault = λ is. absurd (no_error is);
      later = omega (arith, was.counted, now.later);
      counted = λ _. now.counted no_error ∙ was.counted;
      turns = omega (arith, c.loop-turn-test.true, was.reads, now.turns);
      sound = λ sure. untouched_more was.counted (λ is. absurd (no_error is)) (now.sound (was.sound sure));
    }

pub returns-then-len-gt-LIMIT : goal.returns-then-len-gt-LIMIT
returns-then-len-gt-LIMIT g c =
    let was = c.loop-turn.invariant in
    let now = c.in_ok-read_piece.ensures in
    let all = read_more _ _ _ _ _ _ was.consumed now.takes in
    let size = c.read_piece.new.bytes.ok.0 in
    record {
      read = tt;
      short = tt;
      err = record { lost = c.read_piece.new.bytes.items; few = omega (arith, size, now.bound); consumed = all };
      long = λ _. had_more _ _ _ _ (omega (arith, size, c.len.ensures, c.if-len-gt-LIMIT.true)) all;
      end = tt;
      more = λ _. rw now.end (ne_eqb _ _ (λ none. omega arith));
      fault = λ is. absurd (long_not_fault is);
      later = omega (arith, was.counted, now.later);
      counted = λ _. now.counted no_error ∙ was.counted;
      turns = omega (arith, c.loop-turn-test.true, was.reads, now.turns);
      sound = λ sure. untouched_more was.counted (λ is. absurd (long_not_fault is)) (now.sound (was.sound sure));
    }

pub loop-turn-preserved : goal.loop-turn-preserved
loop-turn-preserved g c =
    let was = c.loop-turn.invariant in
    let now = c.in_ok-read_piece.ensures in
    record {
      short = omega (arith, c.if-len-gt-LIMIT.false, c.len.ensures);
      moved = omega (arith, was.moved, piece_size _ _ _ _ _ now.takes, c.loop-turn.bytes.ok.0, c.read_piece.new.bytes.ok.0);
      consumed = read_more _ _ _ _ _ _ was.consumed now.takes;
      reads = omega (arith, was.reads, now.turns);
      counted = now.counted no_error ∙ was.counted;
      sound = λ sure. (now.sound (was.sound sure)).stays;
    }
