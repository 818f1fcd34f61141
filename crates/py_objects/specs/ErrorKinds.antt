-- The built-in exception classes by their names, and what each derives from (Python Library Reference, Built-in Exceptions).
use Rattle.std.specs.Prelude.{List, [], ◌∷◌, codes}
use Rattle.py_objects.specs.Refs.{Name}
use Rattle.py_objects.specs.declared.error_kind.ErrorKind.{ErrorKind}
use Rattle.py_objects.specs.declared.error_kind.ErrorKind.TheVariants.{BaseException, SystemExit, KeyboardInterrupt, GeneratorExit, BaseExceptionGroup, Exception, ExceptionGroup, StopIteration}
use Rattle.py_objects.specs.declared.error_kind.ErrorKind.TheVariants.{StopAsyncIteration, ArithmeticError, AssertionError, AttributeError, BufferError, EOFError, ImportError, LookupError}
use Rattle.py_objects.specs.declared.error_kind.ErrorKind.TheVariants.{MemoryError, NameError, OSError, ReferenceError, RuntimeError, SyntaxError, SystemError, TypeError, ValueError, Warning}
use Rattle.py_objects.specs.declared.error_kind.ErrorKind.TheVariants.{FloatingPointError, OverflowError, ZeroDivisionError, ModuleNotFoundError, IndexError, KeyError, UnboundLocalError, UnicodeError}
use Rattle.py_objects.specs.declared.error_kind.ErrorKind.TheVariants.{UnicodeDecodeError, UnicodeEncodeError, UnicodeTranslateError, BlockingIOError, ChildProcessError, ConnectionError}
use Rattle.py_objects.specs.declared.error_kind.ErrorKind.TheVariants.{FileExistsError, FileNotFoundError, InterruptedError, IsADirectoryError, NotADirectoryError, PermissionError, ProcessLookupError}
use Rattle.py_objects.specs.declared.error_kind.ErrorKind.TheVariants.{TimeoutError, BrokenPipeError, ConnectionAbortedError, ConnectionRefusedError, ConnectionResetError, NotImplementedError}
use Rattle.py_objects.specs.declared.error_kind.ErrorKind.TheVariants.{RecursionError, IndentationError, TabError, DeprecationWarning, PendingDeprecationWarning, RuntimeWarning, SyntaxWarning}
use Rattle.py_objects.specs.declared.error_kind.ErrorKind.TheVariants.{UserWarning, FutureWarning, ImportWarning, UnicodeWarning, BytesWarning, ResourceWarning, EncodingWarning}

-- the name of a class
abbrev pub name_of : ErrorKind → Name
name_of BaseException = codes "BaseException"
name_of SystemExit = codes "SystemExit"
name_of KeyboardInterrupt = codes "KeyboardInterrupt"
name_of GeneratorExit = codes "GeneratorExit"
name_of BaseExceptionGroup = codes "BaseExceptionGroup"
name_of Exception = codes "Exception"
name_of ExceptionGroup = codes "ExceptionGroup"
name_of StopIteration = codes "StopIteration"
name_of StopAsyncIteration = codes "StopAsyncIteration"
name_of ArithmeticError = codes "ArithmeticError"
name_of AssertionError = codes "AssertionError"
name_of AttributeError = codes "AttributeError"
name_of BufferError = codes "BufferError"
name_of EOFError = codes "EOFError"
name_of ImportError = codes "ImportError"
name_of LookupError = codes "LookupError"
name_of MemoryError = codes "MemoryError"
name_of NameError = codes "NameError"
name_of OSError = codes "OSError"
name_of ReferenceError = codes "ReferenceError"
name_of RuntimeError = codes "RuntimeError"
name_of SyntaxError = codes "SyntaxError"
name_of SystemError = codes "SystemError"
name_of TypeError = codes "TypeError"
name_of ValueError = codes "ValueError"
name_of Warning = codes "Warning"
name_of FloatingPointError = codes "FloatingPointError"
name_of OverflowError = codes "OverflowError"
name_of ZeroDivisionError = codes "ZeroDivisionError"
name_of ModuleNotFoundError = codes "ModuleNotFoundError"
name_of IndexError = codes "IndexError"
name_of KeyError = codes "KeyError"
name_of UnboundLocalError = codes "UnboundLocalError"
name_of UnicodeError = codes "UnicodeError"
name_of UnicodeDecodeError = codes "UnicodeDecodeError"
name_of UnicodeEncodeError = codes "UnicodeEncodeError"
name_of UnicodeTranslateError = codes "UnicodeTranslateError"
name_of BlockingIOError = codes "BlockingIOError"
name_of ChildProcessError = codes "ChildProcessError"
name_of ConnectionError = codes "ConnectionError"
name_of FileExistsError = codes "FileExistsError"
name_of FileNotFoundError = codes "FileNotFoundError"
name_of InterruptedError = codes "InterruptedError"
name_of IsADirectoryError = codes "IsADirectoryError"
name_of NotADirectoryError = codes "NotADirectoryError"
name_of PermissionError = codes "PermissionError"
name_of ProcessLookupError = codes "ProcessLookupError"
name_of TimeoutError = codes "TimeoutError"
name_of BrokenPipeError = codes "BrokenPipeError"
name_of ConnectionAbortedError = codes "ConnectionAbortedError"
name_of ConnectionRefusedError = codes "ConnectionRefusedError"
name_of ConnectionResetError = codes "ConnectionResetError"
name_of NotImplementedError = codes "NotImplementedError"
name_of RecursionError = codes "RecursionError"
name_of IndentationError = codes "IndentationError"
name_of TabError = codes "TabError"
name_of DeprecationWarning = codes "DeprecationWarning"
name_of PendingDeprecationWarning = codes "PendingDeprecationWarning"
name_of RuntimeWarning = codes "RuntimeWarning"
name_of SyntaxWarning = codes "SyntaxWarning"
name_of UserWarning = codes "UserWarning"
name_of FutureWarning = codes "FutureWarning"
name_of ImportWarning = codes "ImportWarning"
name_of UnicodeWarning = codes "UnicodeWarning"
name_of BytesWarning = codes "BytesWarning"
name_of ResourceWarning = codes "ResourceWarning"
name_of EncodingWarning = codes "EncodingWarning"

-- what most classes derive from
abbrev pub ordinary : List ErrorKind
ordinary = Exception ∷ BaseException ∷ []

-- the classes that one derives from, the nearest first
abbrev pub bases_of : ErrorKind → List ErrorKind
bases_of BaseException = []
bases_of SystemExit = BaseException ∷ []
bases_of KeyboardInterrupt = BaseException ∷ []
bases_of GeneratorExit = BaseException ∷ []
bases_of BaseExceptionGroup = BaseException ∷ []
bases_of Exception = BaseException ∷ []
bases_of ExceptionGroup = BaseExceptionGroup ∷ BaseException ∷ []
bases_of StopIteration = ordinary
bases_of StopAsyncIteration = ordinary
bases_of ArithmeticError = ordinary
bases_of AssertionError = ordinary
bases_of AttributeError = ordinary
bases_of BufferError = ordinary
bases_of EOFError = ordinary
bases_of ImportError = ordinary
bases_of LookupError = ordinary
bases_of MemoryError = ordinary
bases_of NameError = ordinary
bases_of OSError = ordinary
bases_of ReferenceError = ordinary
bases_of RuntimeError = ordinary
bases_of SyntaxError = ordinary
bases_of SystemError = ordinary
bases_of TypeError = ordinary
bases_of ValueError = ordinary
bases_of Warning = ordinary
bases_of FloatingPointError = ArithmeticError ∷ ordinary
bases_of OverflowError = ArithmeticError ∷ ordinary
bases_of ZeroDivisionError = ArithmeticError ∷ ordinary
bases_of ModuleNotFoundError = ImportError ∷ ordinary
bases_of IndexError = LookupError ∷ ordinary
bases_of KeyError = LookupError ∷ ordinary
bases_of UnboundLocalError = NameError ∷ ordinary
bases_of UnicodeError = ValueError ∷ ordinary
bases_of UnicodeDecodeError = UnicodeError ∷ ValueError ∷ ordinary
bases_of UnicodeEncodeError = UnicodeError ∷ ValueError ∷ ordinary
bases_of UnicodeTranslateError = UnicodeError ∷ ValueError ∷ ordinary
bases_of BlockingIOError = OSError ∷ ordinary
bases_of ChildProcessError = OSError ∷ ordinary
bases_of ConnectionError = OSError ∷ ordinary
bases_of FileExistsError = OSError ∷ ordinary
bases_of FileNotFoundError = OSError ∷ ordinary
bases_of InterruptedError = OSError ∷ ordinary
bases_of IsADirectoryError = OSError ∷ ordinary
bases_of NotADirectoryError = OSError ∷ ordinary
bases_of PermissionError = OSError ∷ ordinary
bases_of ProcessLookupError = OSError ∷ ordinary
bases_of TimeoutError = OSError ∷ ordinary
bases_of BrokenPipeError = ConnectionError ∷ OSError ∷ ordinary
bases_of ConnectionAbortedError = ConnectionError ∷ OSError ∷ ordinary
bases_of ConnectionRefusedError = ConnectionError ∷ OSError ∷ ordinary
bases_of ConnectionResetError = ConnectionError ∷ OSError ∷ ordinary
bases_of NotImplementedError = RuntimeError ∷ ordinary
bases_of RecursionError = RuntimeError ∷ ordinary
bases_of IndentationError = SyntaxError ∷ ordinary
bases_of TabError = IndentationError ∷ SyntaxError ∷ ordinary
bases_of DeprecationWarning = Warning ∷ ordinary
bases_of PendingDeprecationWarning = Warning ∷ ordinary
bases_of RuntimeWarning = Warning ∷ ordinary
bases_of SyntaxWarning = Warning ∷ ordinary
bases_of UserWarning = Warning ∷ ordinary
bases_of FutureWarning = Warning ∷ ordinary
bases_of ImportWarning = Warning ∷ ordinary
bases_of UnicodeWarning = Warning ∷ ordinary
bases_of BytesWarning = Warning ∷ ordinary
bases_of ResourceWarning = Warning ∷ ordinary
bases_of EncodingWarning = Warning ∷ ordinary

-- all of them, in the order of their objects: each behind those that it derives from
abbrev pub error_kinds : List ErrorKind
error_kinds =
    BaseException ∷ SystemExit ∷ KeyboardInterrupt ∷ GeneratorExit ∷ BaseExceptionGroup ∷ Exception ∷ ExceptionGroup ∷ StopIteration
    ∷ StopAsyncIteration ∷ ArithmeticError ∷ AssertionError ∷ AttributeError ∷ BufferError ∷ EOFError ∷ ImportError ∷ LookupError
    ∷ MemoryError ∷ NameError ∷ OSError ∷ ReferenceError ∷ RuntimeError ∷ SyntaxError ∷ SystemError ∷ TypeError ∷ ValueError ∷ Warning
    ∷ FloatingPointError ∷ OverflowError ∷ ZeroDivisionError ∷ ModuleNotFoundError ∷ IndexError ∷ KeyError ∷ UnboundLocalError
    ∷ UnicodeError ∷ UnicodeDecodeError ∷ UnicodeEncodeError ∷ UnicodeTranslateError ∷ BlockingIOError ∷ ChildProcessError
    ∷ ConnectionError ∷ FileExistsError ∷ FileNotFoundError ∷ InterruptedError ∷ IsADirectoryError ∷ NotADirectoryError ∷ PermissionError
    ∷ ProcessLookupError ∷ TimeoutError ∷ BrokenPipeError ∷ ConnectionAbortedError ∷ ConnectionRefusedError ∷ ConnectionResetError
    ∷ NotImplementedError ∷ RecursionError ∷ IndentationError ∷ TabError ∷ DeprecationWarning ∷ PendingDeprecationWarning
    ∷ RuntimeWarning ∷ SyntaxWarning ∷ UserWarning ∷ FutureWarning ∷ ImportWarning ∷ UnicodeWarning ∷ BytesWarning ∷ ResourceWarning
    ∷ EncodingWarning ∷ []
