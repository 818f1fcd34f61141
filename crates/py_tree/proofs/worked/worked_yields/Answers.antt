use Rattle.py_tree.proofs.WorkedGeneratorLemmas.{yielded_is_trace, no_other_yielded, none_goes_on_alone, thrown_in_is_trace, no_clause_before_start, no_throw_into_function, thrown_while_handling, no_throw_where_it_may_not}
use Rattle.py_tree.proofs.worked.worked_yields.Goals as goal

pub returns : goal.returns
returns c = record {
  yielded = yielded_is_trace;
  no_other_yielded = no_other_yielded;
  none_goes_on_alone = none_goes_on_alone;
  thrown_in = thrown_in_is_trace;
  no_clause_before_start = no_clause_before_start;
  no_throw_into_function = no_throw_into_function;
  thrown_while_handling = thrown_while_handling;
  no_throw_where_it_may_not = no_throw_where_it_may_not;
}
