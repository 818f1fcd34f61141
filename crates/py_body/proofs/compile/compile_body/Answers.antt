use Rattle.std.proofs.Common.{List}
use Rattle.py_tree.specs.Tree.{Name}
use Rattle.py_tree.specs.Views.{tree_of}
use Rattle.py_laid.specs.Code.{IsLaid, IsPlain}
use Rattle.py_laid.specs.Fits.{Fits}
use Rattle.py_laid.specs.Instructions.{UsesCompiled}
use Rattle.py_laid.specs.Naming.{IsNamed}
use Rattle.py_laid.proofs.Fitting.{laid_code_fits}
use Rattle.py_laid.proofs.Uses.{laid_code_is_compiled}
use Rattle.py_body.proofs.BodyLemmas.{each_one}
use Rattle.py_body.proofs.compile.compile_body.Goals as goal

pub returns-clause-fits : goal.returns-clause-fits
returns-clause-fits c =
    let laid = c.in_ok-code.ensures.laid in
    each_one (λ code. Fits c.compile_code.new.names code (tree_of c.args.body.now)) c.push.new.self c.new-codes.result c.in_ok-code.code c.new-codes.ensures c.in_ok-push.ensures.added
    (laid_code_fits c.compile_code.new.names laid.0 c.in_ok-code.code (tree_of c.args.body.now) laid.1 c.in_ok-code.ensures.plain laid.2)

pub returns-clause-laid : goal.returns-clause-laid
returns-clause-laid c =
    each_one (λ code. (globals : List Name) × IsLaid globals code (tree_of c.args.body.now) × IsNamed c.compile_code.new.names globals code.code (tree_of c.args.body.now)) c.push.new.self
    c.new-codes.result c.in_ok-code.code
    c.new-codes.ensures c.in_ok-push.ensures.added c.in_ok-code.ensures.laid

pub returns-clause-plain : goal.returns-clause-plain
returns-clause-plain c =
    each_one (λ code. IsPlain code (tree_of c.args.body.now)) c.push.new.self c.new-codes.result c.in_ok-code.code c.new-codes.ensures c.in_ok-push.ensures.added c.in_ok-code.ensures.plain

pub returns-clause-uses : goal.returns-clause-uses
returns-clause-uses c =
    let laid = c.in_ok-code.ensures.laid in
    each_one (λ code. UsesCompiled code.code) c.push.new.self c.new-codes.result c.in_ok-code.code c.new-codes.ensures c.in_ok-push.ensures.added
    (laid_code_is_compiled laid.0 c.in_ok-code.code (tree_of c.args.body.now) laid.1)
