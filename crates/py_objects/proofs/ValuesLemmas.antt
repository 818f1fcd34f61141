-- What a reader tells of a payload.
use Rattle.std.proofs.Common.{◌≡◌, Bor, ap, sym}
use Rattle.std.specs.Prelude.{Option, Some, None, false, is_some, option_copied}
use Rattle.std.proofs.lemmas.Option.{same_Some}
use Rattle.py_objects.specs.declared.payload.Payload.{Payload}
use Rattle.py_objects.specs.declared.payload.Payload.TheVariants as payload
use Rattle.py_objects.specs.declared.payload.ClassBody.{ClassBody}
use Rattle.py_objects.specs.declared.payload.ExceptionBody.{ExceptionBody}
use Rattle.py_objects.specs.Values.{class_body_of, exception_of}

-- what reads as a class is one
pub class_is : (p : Payload) (c : ClassBody) → class_body_of p ≡ Some c → p ≡ payload.Class c
class_is (payload.Class d) c is = ap payload.Class (same_Some d c is)
class_is _ c is = absurd (cc is)

-- what reads as an exception is one
pub exception_is : (p : Payload) (e : ExceptionBody) → exception_of p ≡ Some e → p ≡ payload.Exception e
exception_is (payload.Exception d) e is = ap payload.Exception (same_Some d e is)
exception_is _ e is = absurd (cc is)

-- where a test says that nothing was read, nothing is there
pub nothing_there : {A : Type 0} (read : Option (Bor A)) (value : Option A) → option_copied read ≡ value → is_some read ≡ false → value ≡ None
nothing_there None value same fails = sym same
nothing_there (Some x) value same fails = absurd (cc fails)
