-- Inputs that are expected.
use Rattle.std.proofs.Common.{◌<◌, ◌++◌, List, refl, length, arith}
use Rattle.py_objects.specs.declared.payload.Payload.{Payload}
use Rattle.py_rows.specs.declared.expect.Expect.TheVariants as expect
use Rattle.py_rows.specs.declared.expect.Wanted.{Wanted}
use Rattle.py_rows.specs.declared.expect.Wanted.TheVariants as want
use Rattle.py_check.specs.declared.note.Kind.TheVariants as kind
use Rattle.py_frame.specs.declared.input.Input.TheVariants as input
use Rattle.py_frame.specs.declared.input.Answer.TheVariants as answer
use Rattle.frame_tests.specs.FirstObjects.{first_objects, exception_body, object_at}
use Rattle.frame_tests.specs.Inputs.{IsExpected}

-- the exceptions
there_5 : (more : List Payload) → 5 < length (first_objects ++ more)
there_5 more = omega arith

there_6 : (more : List Payload) → 6 < length (first_objects ++ more)
there_6 more = omega arith

-- an exception is thrown in
pub thrown_first : IsExpected expect.Start (input.Throw (record { number = 5 }))
thrown_first more setting flags = (λ k. ((exception_body, refl), refl, flags), λ k. ((there_5 more, tt), tt))

pub thrown_later : IsExpected expect.Resume (input.Throw (record { number = 5 }))
thrown_later more setting flags = (λ k. ((exception_body, refl), refl), λ k. ((there_5 more, tt), tt))

-- the raise of an exception answers
pub fails : (w : Wanted) → IsExpected (expect.Answer w) (input.Answer (answer.Fresh (record { number = 6 })))
fails w more setting flags = (λ k. ((exception_body, refl), refl), λ k. ((there_6 more, tt), tt))

-- an exception answers
pub caught : IsExpected (expect.Answer (want.Of kind.Exc)) (input.Answer (answer.Value (object_at 5)))
caught more setting flags = (λ k. ((exception_body, refl), refl), λ k. ((there_5 more, tt), tt))
