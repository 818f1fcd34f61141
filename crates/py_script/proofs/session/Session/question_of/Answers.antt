use Rattle.std.proofs.Common.{subst, sym}
use Rattle.py_lines.specs.declared.drive.DriveLine.{DriveLine}
use Rattle.py_script.specs.Held.{Held}
use Rattle.py_meaning.specs.Entries.{IsNamed}
use Rattle.py_script.specs.Session.{IsLineThere}
use Rattle.py_script.proofs.Asking.{asks_call, asks_send, asks_throw, named_in, named_there, there_still}
use Rattle.py_script.proofs.session.Session.question_of.Goals as goal

pub object_named-function-requires-clause-named : goal.object_named-function-requires-clause-named
object_named-function-requires-clause-named c =
    let there = subst (λ (l : DriveLine). IsLineThere c.args.self.now l) c.in-Call.is c.requires.there in
    subst (λ (h : Held). IsNamed h.vm.objects c.in-Call.name) (sym c.self.view_is) there.0

pub object_named-class-requires-clause-named : goal.object_named-class-requires-clause-named
object_named-class-requires-clause-named c =
    let there = subst (λ (l : DriveLine). IsLineThere c.args.self.now l) c.in-Throw.is c.requires.there in
    subst (λ (h : Held). IsNamed h.vm.objects c.in-Throw.name) (sym c.self-in-Throw.view_is) there.1.0

pub returns-in_ok-args-in-Call-clause-asks : goal.returns-in_ok-args-in-Call-clause-asks
returns-in_ok-args-in-Call-clause-asks c =
    asks_call c.args.self.now.vm c.arguments.new.self.vm c.arguments.ensures.grew c.args.line.now c.in-Call.name c.as_slice.result.now c.in-Call.atoms c.object_named-function.result c.in_ok-args-in-Call.args
    c.in-Call.is (named_in c.self.view_is c.in-Call.name c.object_named-function.result c.object_named-function.ensures) c.as_slice.ensures c.in_ok-args-in-Call.ensures.are

pub returns-in_ok-args-in-Call-clause-callable : goal.returns-in_ok-args-in-Call-clause-callable
returns-in_ok-args-in-Call-clause-callable c = (
  named_there c.args.self.now.vm c.arguments.new.self.vm c.arguments.ensures.grew c.in-Call.name c.object_named-function.result (named_in c.self.view_is c.in-Call.name c.object_named-function.result c.object_named-function.ensures),
  c.in_ok-args-in-Call.ensures.below,
)

pub returns-in_ok-value-in-Send-clause-asks : goal.returns-in_ok-value-in-Send-clause-asks
returns-in_ok-value-in-Send-clause-asks c =
    asks_send c.args.self.now.vm c.argument.new.self.vm c.argument.ensures.grew c.args.line.now c.in-Send.number c.in-Send.atom c.object_left-generator-in-Send.result c.in_ok-value-in-Send.value
    c.in-Send.is c.object_left-generator-in-Send.ensures.is c.in_ok-value-in-Send.ensures.is

pub returns-in_ok-value-in-Throw-clause-asks : goal.returns-in_ok-value-in-Throw-clause-asks
returns-in_ok-value-in-Throw-clause-asks c =
    asks_throw c.args.self.now.vm c.thrown.new.self.vm c.thrown.ensures.grew c.args.line.now c.in-Throw.number c.in-Throw.name c.in-Throw.value c.object_left-generator-in-Throw.result c.object_named-class.result
    c.in_ok-value-in-Throw.value c.in-Throw.is c.object_left-generator-in-Throw.ensures.is (named_in c.self-in-Throw.view_is c.in-Throw.name c.object_named-class.result c.object_named-class.ensures) c.in_ok-value-in-Throw.ensures.is

pub returns-in_ok-value-in-Throw-clause-callable : goal.returns-in_ok-value-in-Throw-clause-callable
returns-in_ok-value-in-Throw-clause-callable c =
    let old = c.args.self.now.vm in
    let new = c.thrown.new.self.vm in
    let grew = c.thrown.ensures.grew in (
      there_still old new grew c.object_left-generator-in-Throw.result c.object_left-generator-in-Throw.ensures.below,
      (named_there old new grew c.in-Throw.name c.object_named-class.result (named_in c.self-in-Throw.view_is c.in-Throw.name c.object_named-class.result c.object_named-class.ensures), (c.in_ok-value-in-Throw.ensures.below, tt)),
    )
