-- Which entries may stand in the journals worked by hand.
use Rattle.std.proofs.Common.{◌≡◌, ℕ, [], lit<, subst}
use Rattle.std.specs.Prelude.{codes}
use Rattle.py_objects.specs.declared.payload.Payload.TheVariants as payload
use Rattle.py_objects.specs.declared.payload.ExceptionBody.{ExceptionBody}
use Rattle.py_objects.specs.declared.error_kind.ErrorKind.TheVariants.{ValueError}
use Rattle.py_objects.specs.ErrorKinds.{name_of}
use Rattle.py_objects.specs.Values.{new_exception}
use Rattle.py_exceptions.specs.Classes.{class_of, first_classes}
use Rattle.py_meaning.specs.Worked.{object, exception_entry, function_entry}
use Rattle.py_meaning.proofs.Behind.{have_classes}
use Rattle.py_core.specs.Runs.{IsOfDeclared}
use Rattle.py_core.specs.Worked.{decls, objects, other_pairs, own_objects, own_pairs, raised, second, strangers}
use Rattle.py_core.proofs.Names.{kind_known}
use Rattle.py_core.proofs.WorkedLemmas.{MayStand}

pub stands_alone : (code : ℕ) → MayStand code own_pairs []
stands_alone code = record { pairs_below = (lit< tt, (lit< tt, tt)); more_below = tt; raised = tt }

pub others_stand : MayStand 0 other_pairs []
others_stand = record { pairs_below = (lit< tt, (lit< tt, tt)); more_below = tt; raised = tt }

pub second_stands : MayStand 0 own_pairs second
second_stands = record { pairs_below = (lit< tt, (lit< tt, tt)); more_below = (tt, tt); raised = ((λ e is. absurd (cc is)), tt) }

pub strangers_stand : MayStand 0 own_pairs strangers
strangers_stand = record { pairs_below = (lit< tt, (lit< tt, tt)); more_below = (tt, (tt, tt)); raised = ((λ e is. absurd (cc is)), ((λ e is. absurd (cc is)), tt)) }

-- the exception is of the class ValueError
raised_of : (e : ExceptionBody) → exception_entry ValueError 5 ≡ payload.Exception e → IsOfDeclared decls objects e
raised_of e is =
    let class = have_classes (own_objects (function_entry (codes "f") 0) own_pairs raised) ValueError in
    let same : new_exception (class_of first_classes ValueError) (object 5) ≡ e = cc is in
    subst (IsOfDeclared decls objects) same (record { name = name_of ValueError; mro = class.mro }, class.entry, class.is_declared, kind_known decls ValueError)

pub stand_with_raised : MayStand 0 own_pairs raised
stand_with_raised = record {
  pairs_below = (lit< tt, (lit< tt, tt));
  more_below = (tt, ((lit< tt, (lit< tt, tt)), tt));
  raised = ((λ e is. absurd (cc is)), (raised_of, tt));
}
