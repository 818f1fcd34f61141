-- Each text that is made spells the declarations and the drives of its groups.
use Rattle.std.proofs.Common.{◌≡◌, ◌%◌, ◌^◌, ◌≤◌, ◌++◌, ℕ, List, [], ◌∷◌, refl, sym, ap, subst, ◌∙◌, append-nil, arith}
use Rattle.std.specs.List.{AllZip}
use Rattle.py_lines.specs.declared.drive.DriveLine.{DriveLine}
use Rattle.py_lines.specs.Reading.{IsReadAs}
use Rattle.py_tree.specs.declared.body.BodyKind.TheVariants as body
use Rattle.py_grammar.specs.Rules.{body_of}
use Rattle.py_grammar.specs.Grammar.{Decl, Item, decls_in, drives_in, WellSuite, WellItems}
use Rattle.py_grammar.specs.Lines.{lines}
use Rattle.py_grammar.specs.Script.{Text, Spells}
use Rattle.py_grammar.proofs.LineReads.{read_append}
use Rattle.py_make.specs.Made.{groups, made_text, most_groups}
use Rattle.py_make.proofs.ScriptLemmas.{work_suite, count_suite, declared_before, names_before, lines_before}
use Rattle.py_make.proofs.ScriptLemmas.{lines_after}
use Rattle.py_make.proofs.ScriptLemmas.{reads_before, read_before, driven, drives_from, drives_read}
use Rattle.py_make.proofs.ScriptLemmas.{groups_print, groups_well, rows_of_drives}
use Rattle.made_runs.proofs.Objects.{decls}

-- drives declare nothing
no_decls : (ds : List DriveLine) → decls_in (driven ds) ≡ []
no_decls [] = refl
no_decls (d ∷ ds) = no_decls ds

-- as items they are the same drives
same_drives : (ds : List DriveLine) → drives_in (driven ds) ≡ ds
same_drives [] = refl
same_drives (d ∷ ds) = ap (λ (l : List DriveLine). d ∷ l) (same_drives ds)

-- the line of the first drive: the declarations take those before
abbrev first_line : ℕ
first_line = 37

-- the statements of work keep the rules
work_well : WellSuite (body_of body.Function) work_suite
work_well = (refl, ((refl, (tt, (((refl, ((refl, (refl, tt)), (refl, tt))), tt), ((refl, tt), tt)))), tt))

-- and so do those of count
count_well : WellSuite (body_of body.Generator) count_suite
count_well = (refl, ((refl, ((refl, ((refl, tt), (refl, tt))), (refl, ((refl, (tt, (refl, tt))), tt)))), tt))

-- a text that is made spells these declarations and these drives
pub spelled : (seed count : ℕ) → count ≤ most_groups
    → Spells (lines (made_text seed count)) decls (drives_from count (seed % 2 ^ 32) 1)
spelled seed count low =
    let s : ℕ = seed % 2 ^ 32 in
    let ds : List DriveLine = drives_from count s 1 in
    let items : List Item = declared_before (driven ds) in
    let (ls, cut, read) = groups_print count s 1 (omega (arith, low)) [] in
    let rest : lines (groups count s 1) ≡ ls = ap lines (sym (append-nil (groups count s 1))) ∙ cut ∙ append-nil ls in
    let whole : lines (made_text seed count) ≡ lines_before ++ ls =
    lines_after (groups count s 1) ∙ ap (λ (l : Text). lines_before ++ l) rest in
    let drives_well : WellItems names_before 0 (driven ds) = groups_well count s 0 in
    record {
      items = items;
      reads = reads_before ++ drives_read ds;
      read =
          subst (λ (t : Text). AllZip IsReadAs t (reads_before ++ drives_read ds)) (sym whole)
          (read_append lines_before ls reads_before (drives_read ds) read_before read);
      spelled = rw (rows_of_drives first_line ds) refl;
      well = (
        refl,
        ((refl, (refl, tt)), ((refl, (refl, tt)), (refl, ((refl, work_well), ((refl, count_well), drives_well))))),
      );
      declared = ap (λ (l : List Decl). decls ++ l) (sym (no_decls ds));
      driven = sym (same_drives ds);
    }
