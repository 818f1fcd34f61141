use Rattle.std.proofs.Common.{◌∙◌, ap, ℕ}
use Rattle.py_objects.specs.Refs.{Obj, Name}
use Rattle.py_objects.specs.ErrorKinds.{name_of}
use Rattle.py_objects.specs.Attrs.{inserted}
use Rattle.py_exceptions.proofs.zoo.ExceptionZoo.add_class.Goals as goal

pub returns-clause-declared : goal.returns-clause-declared
returns-clause-declared c =
    c.in_ok-insert.ensures.inserted
    ∙ ap (λ (x : Name). inserted x c.in_ok-class.class c.args.declarations.now) (c.in_ok-text_of-2.ensures ∙ c.name-name.ensures)
    ∙ ap (λ (n : ℕ). let v : Obj = record { number = n } in inserted (name_of c.args.kind) v c.args.declarations.now) (c.in_ok-class.ensures.number ∙ c.requires.place)
