use Rattle.std.proofs.Common.{ap, sym, ◌∙◌}
use Rattle.std.specs.Prelude.{option_map, string_bytes}
use Rattle.py_code.proofs.NamesLemmas.{absent_text, found_text, place_of-view}
use Rattle.py_code.proofs.names.Names.get.Goals as goal

pub returns-in_err-index-clause-place : goal.returns-in_err-index-clause-place
returns-in_err-index-clause-place c = ap (option_map (λ id. id.index)) c.from_residual.ensures ∙ place_of-view string_bytes _ _ c.self.view_is _ _ c.in_err-index.ensures.index

pub returns-in_err-index-clause-absent : goal.returns-in_err-index-clause-absent
returns-in_err-index-clause-absent c = rw c.from_residual.ensures (absent_text _ _ (sym (place_of-view string_bytes _ _ c.self.view_is _ _ c.in_err-index.ensures.index)))

pub returns-clause-place : goal.returns-clause-place
returns-clause-place c = place_of-view string_bytes _ _ c.self.view_is _ _ c.in_ok-index.ensures.index

pub returns-clause-found : goal.returns-clause-found
returns-clause-found c = found_text _ _ _ (sym (place_of-view string_bytes _ _ c.self.view_is _ _ c.in_ok-index.ensures.index))
