use Rattle.std.proofs.Common.{[]}
use Rattle.std.proofs.lemmas.List.Elements.{All-nil, All-cons}
use Rattle.py_meaning.specs.Worked.{object}
use Rattle.py_core.specs.Runs.{IsLinkChange}
use Rattle.py_core.specs.Worked.{linked, other_pairs, own_pairs, raised, second, strangers}
use Rattle.py_core.proofs.WorkedEntries.{stands_alone, stand_with_raised, others_stand, second_stands, strangers_stand}
use Rattle.py_core.proofs.WorkedLemmas.{spelled, whole}
use Rattle.py_core.proofs.WorkedFailing.{wrong_answer, event_missing, arguments_changed, entry_past_the_end}
use Rattle.py_core.proofs.worked.worked_core_runs.Goals as goal

pub returns : goal.returns
returns c = record {
  spelled = spelled;
  is_whole = whole 0 own_pairs raised [] stand_with_raised (All-nil IsLinkChange);
  any_code = whole 3 own_pairs [] [] (stands_alone 3) (All-nil IsLinkChange);
  any_globals = whole 0 other_pairs [] [] others_stand (All-nil IsLinkChange);
  second_entry = whole 0 own_pairs second [] second_stands (All-nil IsLinkChange);
  unknown_entries = whole 0 own_pairs strangers [] strangers_stand (All-nil IsLinkChange);
  link_changed = whole 0 own_pairs raised linked stand_with_raised (All-cons IsLinkChange _ [] tt (All-nil IsLinkChange));
  arguments_changed = arguments_changed;
  entry_past_the_end = entry_past_the_end;
  answer_past_the_end = wrong_answer stand_with_raised (object 9) (λ is. cc is);
  other_answer = wrong_answer stand_with_raised (object 3) (λ is. cc is);
  event_missing = event_missing stand_with_raised;
}
