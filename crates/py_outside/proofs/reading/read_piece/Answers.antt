use Rattle.std.proofs.Common.{◌<◌, ℕ, take, length, arith, refl, sym, length-take}
use Rattle.std.proofs.lemmas.List.{length-replicate, length-take-le}
use Rattle.std.proofs.lemmas.Result.{err_from_is_err_and}
use Rattle.py_outside.proofs.Moves.{fault_not_long, first_fits, front_fits, memory_not_fault, memory_not_long, no_error, none_lost, piece_size, takes_piece, untouched_else}
use Rattle.py_outside.proofs.reading.read_piece.Goals as goal

pub slice_bounds-room-end : goal.slice_bounds-room-end
slice_bounds-room-end g c = first_fits _ _ _ c.min-most.ensures

pub slice_bounds-read-end : goal.slice_bounds-read-end
slice_bounds-read-end g c = sym (length-take-le _ _ (first_fits _ _ _ c.min-most.ensures))

pub slice_bounds-room-end-in-Ok : goal.slice_bounds-room-end-in-Ok
slice_bounds-room-end-in-Ok g c = front_fits _ _ _ c.in-Ok.ensures.bound.0

pub slice_bounds-extend_from_slice-end : goal.slice_bounds-extend_from_slice-end
slice_bounds-extend_from_slice-end g c = sym (length-take-le _ _ (front_fits _ _ _ c.in-Ok.ensures.bound.0))

pub returns-in_err-extend_from_slice-in-Ok : goal.returns-in_err-extend_from_slice-in-Ok
returns-in_err-extend_from_slice-in-Ok g c =
    let p = err_from_is_err_and c.from_residual.result c.from_residual.ensures.1 in
    let now = c.in-Ok.ensures in
    rw (p.1, p.2) record {
      takes = tt;
      bound = omega (arith, c.requires, c.in_err-extend_from_slice-in-Ok.ensures.len);
      end = tt;
      later = now.cause.later;
      fault = λ is. absurd (memory_not_fault is);
      counted = λ _. now.kept;
      not_long = memory_not_long;
      turns = now.turns;
      err = record { lost = take c.in-Ok.count c.read.new.room; few = omega (arith, now.bound, c.read.auto.room, length-take {A = ℕ}, c.min-most.ensures, c.len.ensures); consumed = now.bytes.0 };
      sound = λ sure. let h = now.sound sure in record { same = h.0.same; stays = h.1; answered = memory_not_fault };
    }

pub returns-in_ok-extend_from_slice-in-Ok : goal.returns-in_ok-extend_from_slice-in-Ok
returns-in_ok-extend_from_slice-in-Ok g c =
    let now = c.in-Ok.ensures in
    let some : 0 < length c.read.new.room = omega (arith, c.read.auto.room, length-take {A = ℕ}, length-replicate {A = ℕ}, c.min-most.ensures, c.len.ensures, c.requires) in
    let takes = takes_piece _ _ _ _ _ _ _ now.bound.0 some now.bytes.0 now.bytes.1 c.in_ok-extend_from_slice-in-Ok.ensures.items in
    record {
      takes = takes;
      bound = omega (arith, c.requires, now.bound, c.read.auto.room, length-take {A = ℕ}, c.min-most.ensures, c.len.ensures, piece_size _ _ _ _ _ takes, c.args.bytes.now.ok.0, c.extend_from_slice.new.self.ok.0);
      end = now.end.told (omega (arith, c.read.auto.room, some));
      later = now.cause.later;
      fault = λ is. absurd (no_error is);
      counted = λ _. now.kept;
      not_long = no_error;
      turns = now.turns;
      err = tt;
      sound = λ sure. let h = now.sound sure in record { same = h.0.same; stays = h.1; answered = no_error };
    }

pub returns-in-Err : goal.returns-in-Err
returns-in-Err g c =
    let now = c.in-Err.ensures in
    record {
      takes = tt;
      bound = omega (arith, c.requires);
      end = tt;
      later = now.cause.later;
      fault = λ _. now.cause.failed;
      counted = λ other. absurd (other refl);
      not_long = fault_not_long;
      turns = now.turns;
      err = none_lost _ _ _ now.bytes;
      sound = λ sure. untouched_else (now.sound sure).0;
    }
