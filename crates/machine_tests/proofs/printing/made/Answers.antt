use Rattle.machine_tests.proofs.printing.made.Goals as goal

pub add_object-requires-clause-made : goal.add_object-requires-clause-made
add_object-requires-clause-made c = c.in_ok-payload.ensures.made _
