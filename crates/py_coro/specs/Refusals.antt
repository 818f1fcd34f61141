-- What is raised of a generator itself: refusals, a stop that comes out, an ignored close (Python Language Reference, 6.2.9.1; PEP 479; PEP 525).
use Rattle.std.specs.Prelude.{◌++◌, codes}
use Rattle.py_objects.specs.declared.payload.CoroKind.{CoroKind}
use Rattle.py_objects.specs.declared.payload.CoroKind.TheVariants as kind
use Rattle.py_objects.specs.declared.payload.Fault.{Fault}
use Rattle.py_objects.specs.declared.error_kind.ErrorKind.{ErrorKind}
use Rattle.py_objects.specs.declared.error_kind.ErrorKind.TheVariants.{RecursionError, RuntimeError, TypeError, ValueError}
use Rattle.py_objects.specs.ErrorKinds.{name_of}
use Rattle.py_objects.specs.Objects.{Name}
use Rattle.py_coro.specs.declared.refusal.CoroRefusal.{CoroRefusal}
use Rattle.py_coro.specs.declared.refusal.CoroRefusal.TheVariants as refusal

-- the word for a suspended activation
abbrev pub word_of : CoroKind → Name
word_of kind.Generator = codes "generator"
word_of kind.Coroutine = codes "coroutine"
word_of kind.AsyncGen = codes "async generator"

-- a fault whose text is the word for one of this kind, with more after it
abbrev pub telling : CoroKind → ErrorKind → Name → Fault
telling kind error more = record { kind = error; text = word_of kind ++ more }

-- the text of the refusal of what would be too deep, before where that is
abbrev pub too_deep : Name
too_deep = codes "maximum recursion depth exceeded "

-- what is raised at a refusal
abbrev pub refused : Name → CoroRefusal → Fault
refused word refusal.Running = record { kind = ValueError; text = word ++ codes " already executing" }
refused word refusal.FirstValue = record { kind = TypeError; text = codes "can't send non-None value to a just-started " ++ word }
refused word refusal.TooDeep = record { kind = RecursionError; text = too_deep }

-- what a stop of this class becomes that comes out
abbrev pub stopping : Name → ErrorKind → Fault
stopping word stop = record { kind = RuntimeError; text = word ++ codes " raised " ++ name_of stop }

-- what is raised where a close is met by a yield
abbrev pub ignoring : Name → Fault
ignoring word = record { kind = RuntimeError; text = word ++ codes " ignored GeneratorExit" }
