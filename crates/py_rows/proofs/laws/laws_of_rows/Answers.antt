use Rattle.std.specs.Prelude.{[]}
use Rattle.py_rows.proofs.StepLemmas.{start_fits, next_fits, steps_fit, steps_tell, within}
use Rattle.py_rows.proofs.StandingLemmas.{slot_kept, start_stands, steps_stand, events_told, silent_later, start_below, steps_below}
use Rattle.py_rows.proofs.GrowingLemmas.{fits_grown, run_grown}
use Rattle.py_rows.proofs.UnderLemmas.{run_under}
use Rattle.py_rows.proofs.GoingLemmas.{next_goes}
use Rattle.py_rows.proofs.RunLemmas.{runs_fit, runs_tell, runs_below, runs_keep_slot, ends_keep_slot}
use Rattle.py_rows.proofs.laws.laws_of_rows.Goals as goal

pub returns-clause-start : goal.returns-clause-start
returns-clause-start c = start_fits

pub returns-clause-next : goal.returns-clause-next
returns-clause-next c = λ objects names globals closure code s sound fits moving. next_fits objects names globals closure code sound s s.wants fits moving

pub returns-clause-goes : goal.returns-clause-goes
returns-clause-goes c = next_goes

pub returns-clause-steps : goal.returns-clause-steps
returns-clause-steps c = λ objects names globals closure code s t xs sound fits steps. steps_fit objects names globals closure code sound s xs t fits steps

pub returns-clause-tells : goal.returns-clause-tells
returns-clause-tells c = λ objects names globals closure code s t xs sound fits steps. steps_tell objects names globals closure code sound s xs t fits steps

pub returns-clause-within : goal.returns-clause-within
returns-clause-within c = λ objects names code s sound fits. within objects names (record { number = 0 }) [] code sound s s.wants fits

pub returns-clause-slot : goal.returns-clause-slot
returns-clause-slot c = slot_kept

pub returns-clause-fits_grow : goal.returns-clause-fits_grow
returns-clause-fits_grow c = λ objects objects' code s grows fits. fits_grown objects objects' grows code s.wants s fits

pub returns-clause-runs_grow : goal.returns-clause-runs_grow
returns-clause-runs_grow c = λ objects objects' setting s t xs grows run. run_grown objects objects' grows setting s t xs run

pub returns-clause-runs_go_under : goal.returns-clause-runs_go_under
returns-clause-runs_go_under c = λ objects setting throws s t xs lets run. run_under setting throws objects s t xs lets run

pub returns-clause-start_stands : goal.returns-clause-start_stands
returns-clause-start_stands c = start_stands

pub returns-clause-steps_stand : goal.returns-clause-steps_stand
returns-clause-steps_stand c = steps_stand

pub returns-clause-told : goal.returns-clause-told
returns-clause-told c = events_told

pub returns-clause-later : goal.returns-clause-later
returns-clause-later c = silent_later

pub returns-clause-start_below : goal.returns-clause-start_below
returns-clause-start_below c = start_below

pub returns-clause-steps_below : goal.returns-clause-steps_below
returns-clause-steps_below c = steps_below

pub returns-clause-runs_fit : goal.returns-clause-runs_fit
returns-clause-runs_fit c = runs_fit

pub returns-clause-runs_tell : goal.returns-clause-runs_tell
returns-clause-runs_tell c = runs_tell

pub returns-clause-runs_below : goal.returns-clause-runs_below
returns-clause-runs_below c = runs_below

pub returns-clause-runs_keep_slot : goal.returns-clause-runs_keep_slot
returns-clause-runs_keep_slot c = runs_keep_slot

pub returns-clause-slot_kept : goal.returns-clause-slot_kept
returns-clause-slot_kept c = ends_keep_slot
