use Rattle.std.proofs.Common.{◌≡◌, List, true, false, subst, sym, ◌∙◌}
use Rattle.py_objects.specs.declared.event.Event.{Event}
use Rattle.py_grammar.specs.Grammar.{codes_in}
use Rattle.py_grammar.specs.Script.{decls_of}
use Rattle.py_run.specs.Coming.{Comes, nothing}
use Rattle.py_meaning.specs.Whole.{plan_of}
use Rattle.py_script.proofs.worked_answer.worked_answers.Goals as goal

pub returns : goal.returns
returns c = record {
  some_script = λ a b turns j answer. let (s, is, run, whole, short, codes) = answer.claimed in (s, run, whole, codes);
  at_the_end = λ a b turns j answer. answer.ended;
  bad_line_at_the_end = λ a b turns line answer. answer.ended;
  out_of_turns_at_the_end = λ a b turns j answer. answer.ended;
  no_too_long_at_the_end = λ a b turns end answer. let clash : true ≡ false = sym end ∙ answer.more in cc clash;
  no_too_long_after_a_fault = λ a b turns rose answer. rose answer.same;
  no_round_before_a_drive = λ a b turns j is answer.
      let (s, of, run, whole, short, codes) = answer.claimed in
      let r = run.run in
      let comes = subst (λ (es : List Event). Comes (plan_of (codes_in (decls_of s)) r.asked) j.objects nothing es) is r.run.comes in
      absurd (cc comes.0.0);
}
