use Rattle.py_coro.proofs.leaving.raised.Goals as goal

pub returns : goal.returns
returns c = (c.converted_as-stop.result, c.is_of_class-exits.result, c.converted_as-stop.ensures, c.is_of_class-exits.ensures, c.answer_of_raise.ensures)
