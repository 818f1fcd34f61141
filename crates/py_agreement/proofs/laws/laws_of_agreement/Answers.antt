use Rattle.py_agreement.specs.Agreement.{by_test}
use Rattle.py_agreement.proofs.Agreeing.{traces_agree}
use Rattle.py_agreement.proofs.laws.laws_of_agreement.Goals as goal

pub returns : goal.returns
returns c = λ same s s' t vs ws ts us faithful args told told'. traces_agree (by_test same) s s' faithful t vs ws ts us args told told'
