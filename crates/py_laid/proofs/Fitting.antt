-- Laid code that is plain fits its tree.
use Rattle.std.proofs.Common.{[]}
use Rattle.py_laid.specs.Laws.{LaidCodeFits}
use Rattle.py_laid.proofs.NamingLemmas.{NamesAll-below, NamesAll-grown, params_named}
use Rattle.py_tree.specs.Binding.{locals_of}
use Rattle.py_laid.proofs.Tracing.{runs_are_traces}
use Rattle.py_laid.proofs.TypingCode.{laid_code_is_typed}

pub laid_code_fits : LaidCodeFits
laid_code_fits table globals code t laid plain named = let typed = laid_code_is_typed globals code t laid plain in record {
  kind = laid.kind;
  arity = laid.arity;
  params = params_named table globals code.code t laid.arity named;
  source_path = named.source_path;
  obj_name = named.obj_name;
  sound = record {
    shapes = [];
    typed = typed.0 [];
    runs = typed.1;
    named = record {
      locals = λ i id here. NamesAll-below table _ (locals_of t) i id named.varnames here;
      globals = λ i id here. NamesAll-below table _ globals i id named.names here;
    };
  };
  typed = typed.0;
  traces = λ grown dict closure objects throws slot args ts s grows same run.
      runs_are_traces globals code t grown dict closure objects throws slot args ts s laid (NamesAll-grown table grown _ globals grows named.names)
      (NamesAll-grown table grown _ (locals_of t) grows named.varnames) same run;
}
