use Rattle.py_coro.proofs.RowsLemmas.{refused_sends, refused_throws, refused_closes, closed_stops, closed_raises, closed_is_done, running_refuses, entries_run, only_entries_run, left_runs_not}
use Rattle.py_coro.proofs.laws.laws_of_coros.Goals as goal

pub returns : goal.returns
returns c = record {
  refused_sends = refused_sends;
  refused_throws = refused_throws;
  refused_closes = refused_closes;
  closed_stops = closed_stops;
  closed_raises = closed_raises;
  closed_is_done = closed_is_done;
  running_refuses = running_refuses;
  entries = entries_run;
  only_entries = only_entries_run;
  left = left_runs_not;
}
