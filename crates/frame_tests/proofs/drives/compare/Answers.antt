use Rattle.std.proofs.lemmas.List.Sums.{AllPass-from_list_all}
use Rattle.frame_tests.specs.Codes.{keeps_rules}
use Rattle.frame_tests.specs.declared.tables.Case.{Case}
use Rattle.frame_tests.proofs.drives.compare.Goals as goal

pub events_of-requires : goal.events_of-requires
events_of-requires g c = AllPass-from_list_all (λ (x : Case). keeps_rules x.rows.now) c.args.cases.now c.requires c.loop-case.case-index _ c.loop-case-test.true
