use Rattle.py_coro.proofs.leaving.returned.Goals as goal

pub returns : goal.returns
returns c =
    let (p, has, is) = c.is_none-is_none.ensures in
    (p, has, c.answer_of_return.ensures p is)
