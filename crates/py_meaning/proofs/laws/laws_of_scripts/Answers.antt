use Rattle.py_meaning.proofs.ExitsTold.{exits_told}
use Rattle.py_meaning.proofs.ScriptsAgree.{scripts_agree, runs_agree_from, shorter, never_longer, as_long, same_text, one_text}
use Rattle.py_meaning.proofs.laws.laws_of_scripts.Goals as goal

pub returns : goal.returns
returns c = record {
  same = λ decls drives sources sources' j j' core earlier is is'. (scripts_agree decls drives core earlier sources sources' j j' is is').0;
  alike = λ decls drives sources sources' j j' core earlier is is'. (scripts_agree decls drives core earlier sources sources' j j' is is').1;
  tells = λ decls drives sources j core earlier is. exits_told decls drives core earlier sources j is;
  journals = λ bytes j j' core run run'. runs_agree_from bytes j j' core run run';
  shorter = λ bytes j j' core whole unfinished. shorter bytes j j' core whole unfinished;
  never_longer = λ bytes j j' core whole run. never_longer bytes j j' core whole run;
  as_long = λ bytes j j' core whole whole'. as_long bytes j j' core whole whole';
  same_text = λ bytes j j' core run run' count. same_text bytes j j' core run run' count;
  one_text = λ bytes j j' core whole whole'. one_text bytes j j' core whole whole';
}
