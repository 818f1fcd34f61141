use Rattle.std.proofs.Common.{◌≤◌, ℕ, List, length, subst, arith}
use Rattle.std.specs.Prelude.{vec_len}
use Rattle.py_script.specs.Steps.{IsParsed}
use Rattle.py_script.proofs.Reading.{fault_is_read, parsed_is_read}
use Rattle.py_script.proofs.Sessions.{err_is}
use Rattle.py_script.proofs.read.read_script.Goals as goal

pub returns-in_err-bytes-clause-reading : goal.returns-in_err-bytes-clause-reading
returns-in_err-bytes-clause-reading g c =
    fault_is_read _ _ c.from_residual.result c.in_err-bytes.field-0.0 (err_is c.from_residual.result c.in_err-bytes.field-0.0 c.from_residual.ensures.1) c.in_err-bytes.ensures.fault

pub returns-clause-reading : goal.returns-clause-reading
returns-clause-reading g c =
    let short : vec_len c.in_ok-bytes.bytes ≤ 1048576 = c.in_ok-bytes.ensures.short in
    let few : length c.in_ok-bytes.bytes.items ≤ 1048576 = omega (arith, short, c.in_ok-bytes.bytes.ok) in
    parsed_is_read _ _ c.in_ok-bytes.bytes.items c.parse_bytes.result c.in_ok-bytes.ensures.read c.in_ok-bytes.ensures.end few
    (subst (λ (bytes : List ℕ). IsParsed bytes c.parse_bytes.result) c.as_slice.ensures.value c.parse_bytes.ensures.parsed)
