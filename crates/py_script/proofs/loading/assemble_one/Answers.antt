use Rattle.py_script.proofs.RawCodes.{made_ready, not_made}
use Rattle.py_script.proofs.loading.assemble_one.Goals as goal

pub returns-clause-ready : goal.returns-clause-ready
returns-clause-ready c =
    made_ready c.assemble.new.names c.args.earlier.now c.in_ok-code.code c.args.block.now c.in_ok-code.ensures.assembled c.requires c.check_code.result c.check_code.ensures.ok c.check_code.ensures.typed

pub returns-clause-fault : goal.returns-clause-fault
returns-clause-fault c =
    not_made c.assemble.new.names c.args.earlier.now c.in_ok-code.code c.args.block.now c.in_ok-code.ensures.assembled c.requires c.check_code.result c.check_code.ensures.breaks
