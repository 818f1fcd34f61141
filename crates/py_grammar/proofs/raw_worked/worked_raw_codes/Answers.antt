use Rattle.py_grammar.proofs.WorkedRawLemmas.{raw_is_script, twice_bad, late_bad, shallow_bad, coro_bad, var_args_bad, var_kw_bad, named_bad, cells_bad, frees_bad, own_const_bad, class_const_bad, op_bad, ask_bad, compare_bad, test_bad, raise_bad, empty_bad, other_bad, open_bad, same_params_bad, same_name_bad}
use Rattle.py_grammar.proofs.raw_worked.worked_raw_codes.Goals as goal

pub returns-clause-raw_is_script : goal.returns-clause-raw_is_script
returns-clause-raw_is_script c = raw_is_script

pub returns-clause-twice_bad : goal.returns-clause-twice_bad
returns-clause-twice_bad c = twice_bad

pub returns-clause-late_bad : goal.returns-clause-late_bad
returns-clause-late_bad c = late_bad

pub returns-clause-shallow_bad : goal.returns-clause-shallow_bad
returns-clause-shallow_bad c = shallow_bad

pub returns-clause-coro_bad : goal.returns-clause-coro_bad
returns-clause-coro_bad c = coro_bad

pub returns-clause-var_args_bad : goal.returns-clause-var_args_bad
returns-clause-var_args_bad c = var_args_bad

pub returns-clause-var_kw_bad : goal.returns-clause-var_kw_bad
returns-clause-var_kw_bad c = var_kw_bad

pub returns-clause-named_bad : goal.returns-clause-named_bad
returns-clause-named_bad c = named_bad

pub returns-clause-cells_bad : goal.returns-clause-cells_bad
returns-clause-cells_bad c = cells_bad

pub returns-clause-frees_bad : goal.returns-clause-frees_bad
returns-clause-frees_bad c = frees_bad

pub returns-clause-own_const_bad : goal.returns-clause-own_const_bad
returns-clause-own_const_bad c = own_const_bad

pub returns-clause-class_const_bad : goal.returns-clause-class_const_bad
returns-clause-class_const_bad c = class_const_bad

pub returns-clause-op_bad : goal.returns-clause-op_bad
returns-clause-op_bad c = op_bad

pub returns-clause-ask_bad : goal.returns-clause-ask_bad
returns-clause-ask_bad c = ask_bad

pub returns-clause-compare_bad : goal.returns-clause-compare_bad
returns-clause-compare_bad c = compare_bad

pub returns-clause-test_bad : goal.returns-clause-test_bad
returns-clause-test_bad c = test_bad

pub returns-clause-raise_bad : goal.returns-clause-raise_bad
returns-clause-raise_bad c = raise_bad

pub returns-clause-empty_bad : goal.returns-clause-empty_bad
returns-clause-empty_bad c = empty_bad

pub returns-clause-other_bad : goal.returns-clause-other_bad
returns-clause-other_bad c = other_bad

pub returns-clause-open_bad : goal.returns-clause-open_bad
returns-clause-open_bad c = open_bad

pub returns-clause-same_params_bad : goal.returns-clause-same_params_bad
returns-clause-same_params_bad c = same_params_bad

pub returns-clause-same_name_bad : goal.returns-clause-same_name_bad
returns-clause-same_name_bad c = same_name_bad
