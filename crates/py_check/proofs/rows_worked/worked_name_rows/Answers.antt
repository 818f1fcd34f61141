use Rattle.std.proofs.Common.{refl}
use Rattle.py_check.proofs.WorkedLemmas.{typed, breaks}
use Rattle.py_check.proofs.rows_worked.worked_name_rows.Goals as goal

pub returns-clause-reads_a_name : goal.returns-clause-reads_a_name
returns-clause-reads_a_name c = typed _ refl refl

pub returns-clause-reads_no_name : goal.returns-clause-reads_no_name
returns-clause-reads_no_name c = breaks _ _ refl refl refl

pub returns-clause-reads_a_name_and_pushes_nothing : goal.returns-clause-reads_a_name_and_pushes_nothing
returns-clause-reads_a_name_and_pushes_nothing c = breaks _ _ refl refl refl

pub returns-clause-sets_a_local_name : goal.returns-clause-sets_a_local_name
returns-clause-sets_a_local_name c = typed _ refl refl

pub returns-clause-sets_no_local_name : goal.returns-clause-sets_no_local_name
returns-clause-sets_no_local_name c = breaks _ _ refl refl refl

pub returns-clause-sets_a_local_name_to_nothing : goal.returns-clause-sets_a_local_name_to_nothing
returns-clause-sets_a_local_name_to_nothing c = breaks _ _ refl refl refl

pub returns-clause-deletes_a_local_name : goal.returns-clause-deletes_a_local_name
returns-clause-deletes_a_local_name c = typed _ refl refl

pub returns-clause-deletes_no_local_name : goal.returns-clause-deletes_no_local_name
returns-clause-deletes_no_local_name c = breaks _ _ refl refl refl

pub returns-clause-deletes_a_local_name_and_pops : goal.returns-clause-deletes_a_local_name_and_pops
returns-clause-deletes_a_local_name_and_pops c = breaks _ _ refl refl refl

pub returns-clause-sets_a_global : goal.returns-clause-sets_a_global
returns-clause-sets_a_global c = typed _ refl refl

pub returns-clause-sets_no_global : goal.returns-clause-sets_no_global
returns-clause-sets_no_global c = breaks _ _ refl refl refl

pub returns-clause-sets_a_global_to_nothing : goal.returns-clause-sets_a_global_to_nothing
returns-clause-sets_a_global_to_nothing c = breaks _ _ refl refl refl

pub returns-clause-deletes_a_global : goal.returns-clause-deletes_a_global
returns-clause-deletes_a_global c = typed _ refl refl

pub returns-clause-deletes_no_global : goal.returns-clause-deletes_no_global
returns-clause-deletes_no_global c = breaks _ _ refl refl refl

pub returns-clause-deletes_a_global_and_pops : goal.returns-clause-deletes_a_global_and_pops
returns-clause-deletes_a_global_and_pops c = breaks _ _ refl refl refl

pub returns-clause-sets_an_own_cell : goal.returns-clause-sets_an_own_cell
returns-clause-sets_an_own_cell c = typed _ refl refl

pub returns-clause-sets_a_free_cell : goal.returns-clause-sets_a_free_cell
returns-clause-sets_a_free_cell c = typed _ refl refl

pub returns-clause-sets_no_cell : goal.returns-clause-sets_no_cell
returns-clause-sets_no_cell c = breaks _ _ refl refl refl

pub returns-clause-sets_a_cell_to_nothing : goal.returns-clause-sets_a_cell_to_nothing
returns-clause-sets_a_cell_to_nothing c = breaks _ _ refl refl refl

pub returns-clause-empties_an_own_cell : goal.returns-clause-empties_an_own_cell
returns-clause-empties_an_own_cell c = typed _ refl refl

pub returns-clause-empties_a_free_cell : goal.returns-clause-empties_a_free_cell
returns-clause-empties_a_free_cell c = typed _ refl refl

pub returns-clause-empties_no_cell : goal.returns-clause-empties_no_cell
returns-clause-empties_no_cell c = breaks _ _ refl refl refl

pub returns-clause-empties_a_cell_and_pops : goal.returns-clause-empties_a_cell_and_pops
returns-clause-empties_a_cell_and_pops c = breaks _ _ refl refl refl

pub returns-clause-loads_an_own_cell : goal.returns-clause-loads_an_own_cell
returns-clause-loads_an_own_cell c = typed _ refl refl

pub returns-clause-loads_a_free_cell : goal.returns-clause-loads_a_free_cell
returns-clause-loads_a_free_cell c = typed _ refl refl

pub returns-clause-loads_no_cell : goal.returns-clause-loads_no_cell
returns-clause-loads_no_cell c = breaks _ _ refl refl refl

pub returns-clause-what_is_in_a_cell_is_no_cell : goal.returns-clause-what_is_in_a_cell_is_no_cell
returns-clause-what_is_in_a_cell_is_no_cell c = breaks _ _ refl refl refl

pub returns-clause-reads_an_attribute : goal.returns-clause-reads_an_attribute
returns-clause-reads_an_attribute c = typed _ refl refl

pub returns-clause-reads_no_attribute : goal.returns-clause-reads_no_attribute
returns-clause-reads_no_attribute c = breaks _ _ refl refl refl

pub returns-clause-reads_an_attribute_of_nothing : goal.returns-clause-reads_an_attribute_of_nothing
returns-clause-reads_an_attribute_of_nothing c = breaks _ _ refl refl refl

pub returns-clause-an_object_stays_under_its_attribute : goal.returns-clause-an_object_stays_under_its_attribute
returns-clause-an_object_stays_under_its_attribute c = breaks _ _ refl refl refl

pub returns-clause-sets_an_attribute : goal.returns-clause-sets_an_attribute
returns-clause-sets_an_attribute c = typed _ refl refl

pub returns-clause-sets_no_attribute : goal.returns-clause-sets_no_attribute
returns-clause-sets_no_attribute c = breaks _ _ refl refl refl

pub returns-clause-sets_an_attribute_to_nothing : goal.returns-clause-sets_an_attribute_to_nothing
returns-clause-sets_an_attribute_to_nothing c = breaks _ _ refl refl refl

pub returns-clause-deletes_an_attribute : goal.returns-clause-deletes_an_attribute
returns-clause-deletes_an_attribute c = typed _ refl refl

pub returns-clause-deletes_no_attribute : goal.returns-clause-deletes_no_attribute
returns-clause-deletes_no_attribute c = breaks _ _ refl refl refl

pub returns-clause-deletes_an_attribute_of_nothing : goal.returns-clause-deletes_an_attribute_of_nothing
returns-clause-deletes_an_attribute_of_nothing c = breaks _ _ refl refl refl

pub returns-clause-makes_annotations : goal.returns-clause-makes_annotations
returns-clause-makes_annotations c = typed _ refl refl

pub returns-clause-pushes_annotations : goal.returns-clause-pushes_annotations
returns-clause-pushes_annotations c = breaks _ _ refl refl refl

pub returns-clause-pops_for_annotations : goal.returns-clause-pops_for_annotations
returns-clause-pops_for_annotations c = breaks _ _ refl refl refl

pub returns-clause-loads_what_makes_classes : goal.returns-clause-loads_what_makes_classes
returns-clause-loads_what_makes_classes c = typed _ refl refl

pub returns-clause-loads_nothing_that_makes_classes : goal.returns-clause-loads_nothing_that_makes_classes
returns-clause-loads_nothing_that_makes_classes c = breaks _ _ refl refl refl

pub returns-clause-imports : goal.returns-clause-imports
returns-clause-imports c = typed _ refl refl

pub returns-clause-imports_no_name : goal.returns-clause-imports_no_name
returns-clause-imports_no_name c = breaks _ _ refl refl refl

pub returns-clause-imports_without_a_level : goal.returns-clause-imports_without_a_level
returns-clause-imports_without_a_level c = breaks _ _ refl refl refl

pub returns-clause-imports_without_a_name : goal.returns-clause-imports_without_a_name
returns-clause-imports_without_a_name c = typed _ refl refl

pub returns-clause-imports_without_name_or_level : goal.returns-clause-imports_without_name_or_level
returns-clause-imports_without_name_or_level c = breaks _ _ refl refl refl

pub returns-clause-imports_out_of_a_module : goal.returns-clause-imports_out_of_a_module
returns-clause-imports_out_of_a_module c = typed _ refl refl

pub returns-clause-imports_no_name_out_of_a_module : goal.returns-clause-imports_no_name_out_of_a_module
returns-clause-imports_no_name_out_of_a_module c = breaks _ _ refl refl refl

pub returns-clause-imports_out_of_nothing : goal.returns-clause-imports_out_of_nothing
returns-clause-imports_out_of_nothing c = breaks _ _ refl refl refl

pub returns-clause-a_module_goes_for_a_name : goal.returns-clause-a_module_goes_for_a_name
returns-clause-a_module_goes_for_a_name c = breaks _ _ refl refl refl

pub returns-clause-imports_out_of_a_module_under_a_loop : goal.returns-clause-imports_out_of_a_module_under_a_loop
returns-clause-imports_out_of_a_module_under_a_loop c = typed _ refl refl

pub returns-clause-imports_all : goal.returns-clause-imports_all
returns-clause-imports_all c = typed _ refl refl

pub returns-clause-imports_all_of_nothing : goal.returns-clause-imports_all_of_nothing
returns-clause-imports_all_of_nothing c = breaks _ _ refl refl refl

pub returns-clause-a_module_stays : goal.returns-clause-a_module_stays
returns-clause-a_module_stays c = breaks _ _ refl refl refl
