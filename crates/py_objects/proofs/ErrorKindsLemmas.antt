-- Each built-in class stands at its place among all of them.
use Rattle.std.proofs.Common.{◌≡◌, ◌<◌, ◌+◌, ℕ, zero, suc, List, [], ◌∷◌, Bool, true, Some, refl, sym, ap, ◌∙◌, length, eqb, arith}
use Rattle.std.proofs.lemmas.Bool.{and_parts, eqb-true}
use Rattle.std.specs.Prelude.{slice_get, ◌&&◌}
use Rattle.std.specs.List.{list_all}
use Rattle.std.proofs.lemmas.Option.{slice_get_within}
use Rattle.py_objects.specs.declared.error_kind.ErrorKind.{ErrorKind}
use Rattle.py_objects.specs.declared.error_kind.ErrorKind.TheVariants.{BaseException, SystemExit, KeyboardInterrupt, GeneratorExit, BaseExceptionGroup, Exception, ExceptionGroup, StopIteration}
use Rattle.py_objects.specs.declared.error_kind.ErrorKind.TheVariants.{StopAsyncIteration, ArithmeticError, AssertionError, AttributeError, BufferError, EOFError, ImportError, LookupError}
use Rattle.py_objects.specs.declared.error_kind.ErrorKind.TheVariants.{MemoryError, NameError, OSError, ReferenceError, RuntimeError, SyntaxError, SystemError, TypeError, ValueError, Warning}
use Rattle.py_objects.specs.declared.error_kind.ErrorKind.TheVariants.{FloatingPointError, OverflowError, ZeroDivisionError, ModuleNotFoundError, IndexError, KeyError, UnboundLocalError, UnicodeError}
use Rattle.py_objects.specs.declared.error_kind.ErrorKind.TheVariants.{UnicodeDecodeError, UnicodeEncodeError, UnicodeTranslateError, BlockingIOError, ChildProcessError, ConnectionError}
use Rattle.py_objects.specs.declared.error_kind.ErrorKind.TheVariants.{FileExistsError, FileNotFoundError, InterruptedError, IsADirectoryError, NotADirectoryError, PermissionError, ProcessLookupError}
use Rattle.py_objects.specs.declared.error_kind.ErrorKind.TheVariants.{TimeoutError, BrokenPipeError, ConnectionAbortedError, ConnectionRefusedError, ConnectionResetError, NotImplementedError}
use Rattle.py_objects.specs.declared.error_kind.ErrorKind.TheVariants.{RecursionError, IndentationError, TabError, DeprecationWarning, PendingDeprecationWarning, RuntimeWarning, SyntaxWarning}
use Rattle.py_objects.specs.declared.error_kind.ErrorKind.TheVariants.{UserWarning, FutureWarning, ImportWarning, UnicodeWarning, BytesWarning, ResourceWarning, EncodingWarning}
use Rattle.py_objects.specs.ErrorKinds.{error_kinds}
use Rattle.py_objects.specs.ErrorPlaces.{place_of}

-- each class is the one at its place
pub placed : (kind : ErrorKind) → slice_get error_kinds (place_of kind) ≡ Some kind
placed BaseException = refl
placed SystemExit = refl
placed KeyboardInterrupt = refl
placed GeneratorExit = refl
placed BaseExceptionGroup = refl
placed Exception = refl
placed ExceptionGroup = refl
placed StopIteration = refl
placed StopAsyncIteration = refl
placed ArithmeticError = refl
placed AssertionError = refl
placed AttributeError = refl
placed BufferError = refl
placed EOFError = refl
placed ImportError = refl
placed LookupError = refl
placed MemoryError = refl
placed NameError = refl
placed OSError = refl
placed ReferenceError = refl
placed RuntimeError = refl
placed SyntaxError = refl
placed SystemError = refl
placed TypeError = refl
placed ValueError = refl
placed Warning = refl
placed FloatingPointError = refl
placed OverflowError = refl
placed ZeroDivisionError = refl
placed ModuleNotFoundError = refl
placed IndexError = refl
placed KeyError = refl
placed UnboundLocalError = refl
placed UnicodeError = refl
placed UnicodeDecodeError = refl
placed UnicodeEncodeError = refl
placed UnicodeTranslateError = refl
placed BlockingIOError = refl
placed ChildProcessError = refl
placed ConnectionError = refl
placed FileExistsError = refl
placed FileNotFoundError = refl
placed InterruptedError = refl
placed IsADirectoryError = refl
placed NotADirectoryError = refl
placed PermissionError = refl
placed ProcessLookupError = refl
placed TimeoutError = refl
placed BrokenPipeError = refl
placed ConnectionAbortedError = refl
placed ConnectionRefusedError = refl
placed ConnectionResetError = refl
placed NotImplementedError = refl
placed RecursionError = refl
placed IndentationError = refl
placed TabError = refl
placed DeprecationWarning = refl
placed PendingDeprecationWarning = refl
placed RuntimeWarning = refl
placed SyntaxWarning = refl
placed UserWarning = refl
placed FutureWarning = refl
placed ImportWarning = refl
placed UnicodeWarning = refl
placed BytesWarning = refl
placed ResourceWarning = refl
placed EncodingWarning = refl

-- what a test finds of all of these, it finds of the one at a place
test_at : (test : ErrorKind → Bool) (kinds : List ErrorKind) (i : ℕ) (kind : ErrorKind) → list_all test kinds ≡ true → slice_get kinds i ≡ Some kind → test kind ≡ true
test_at test [] i kind all at = absurd (cc at)
test_at test (k ∷ kinds) zero kind all at = let same : k ≡ kind = cc in ap test (sym same) ∙ (and_parts (test k) (list_all test kinds) all).0
test_at test (k ∷ kinds) (suc i) kind all at = test_at test kinds i kind (and_parts (test k) (list_all test kinds) all).1 at

-- what a test finds of all classes holds of each
pub each_kind : (test : ErrorKind → Bool) → list_all test error_kinds ≡ true → (kind : ErrorKind) → test kind ≡ true
each_kind test all kind = test_at test error_kinds (place_of kind) kind all (placed kind)

-- whether these stand at the places from one on
abbrev pub are_placed : ℕ → List ErrorKind → Bool
are_placed i [] = true
are_placed i (kind ∷ kinds) = eqb (place_of kind) i && are_placed (suc i) kinds

pub all_placed : are_placed 0 error_kinds ≡ true
all_placed = refl

place_from : (i : ℕ) (kinds : List ErrorKind) (j : ℕ) (kind : ErrorKind) → are_placed i kinds ≡ true → slice_get kinds j ≡ Some kind → place_of kind ≡ i + j
place_from i [] j kind placed at = absurd (cc at)
place_from i (k ∷ kinds) zero kind placed at =
    let same : k ≡ kind = cc in
    let here : place_of kind ≡ i = ap place_of (sym same) ∙ eqb-true (place_of k) i (and_parts (eqb (place_of k) i) (are_placed (suc i) kinds) placed).0 in
    omega (arith, here)
place_from i (k ∷ kinds) (suc j) kind placed at =
    let next : place_of kind ≡ suc i + j = place_from (suc i) kinds j kind (and_parts (eqb (place_of k) i) (are_placed (suc i) kinds) placed).1 at in
    omega (arith, next)

-- the class at a place has that place
pub place_at : (i : ℕ) (kind : ErrorKind) → slice_get error_kinds i ≡ Some kind → place_of kind ≡ i
place_at i kind at = place_from 0 error_kinds i kind all_placed at ∙ (let same : 0 + i ≡ i = omega arith in same)

-- a class has one of so many places
pub place_below : (kind : ErrorKind) → place_of kind < length error_kinds
place_below kind = slice_get_within error_kinds (place_of kind) kind (placed kind)
