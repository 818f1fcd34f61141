-- What the definitions say of the links of the journal of a manager that is left twice.
use Rattle.std.proofs.Common.{◌≡◌, ◌++◌, ℕ, List, [], ◌∷◌, Some, inl, inr, refl, ap, lit≤, ◌∙◌, arith}
use Rattle.std.specs.Prelude.{drop, take}
use Rattle.py_code.specs.Codes.{Codes}
use Rattle.py_objects.specs.declared.edit.Change.{Change}
use Rattle.py_objects.specs.declared.edit.Edit.TheVariants as edit
use Rattle.py_objects.specs.declared.edit.LinkField.TheVariants as link
use Rattle.py_objects.specs.declared.event.Event.{Event}
use Rattle.py_objects.specs.Objects.{Obj}
use Rattle.py_run.specs.Run.{start, state_after}
use Rattle.py_run.specs.Links.{LinksCome, ObjectEdit, noted, lines_in, named_by, named_in}
use Rattle.py_run.specs.Worked.{object, anything}
use Rattle.py_run.specs.WorkedExit.{put, objects, raising, exited, exit, again, told_another, told_none, events, first_entry, entries_again, AreLinked, Linked, Unlinked}
use Rattle.py_run.proofs.LinksLemmas.{links_rest}
use Rattle.py_run.proofs.NoLinks.{quiet, quiet_then}
use Rattle.py_run.proofs.Journals.{all_below}

pub linked : Linked events (first_entry ∷ [])
linked k lines =
    let quietly = quiet (λ throws. anything) (lines_in k) objects (first_entry ∷ []) in
    let then = quiet_then (λ throws. anything) (lines_in k) objects (first_entry ∷ []) in
    record {
      come = then [] (take 14 events) (drop 14 events) refl refl (
        tt,
        (
          (object 7, edit.Link link.Traceback (Some (object 8))) ∷ [],
          record {
            contexts = [];
            gets = refl;
            entries = (object 7, edit.Link link.Traceback (Some (object 8))) ∷ [];
            puts = record {
              frame = record { number = 9 };
              is_frame = record { at = 0; numbered = refl; activation = _; is_made = refl; body = _; is_function = refl; entry = refl; made_with = refl };
              line = 9;
              is_line = lines.0;
              entry = object 8;
              has = refl;
              newer = all_below 8 (named_by (take 14 events) ++ []) refl;
              puts = refl;
            };
            both = refl;
          },
          refl,
        ),
        (
          inr (_, refl, refl, refl),
          ([], refl, refl),
          then (take 16 events) (take 6 (drop 16 events)) (drop 22 events) refl refl (
            inr (_, refl, refl, refl),
            ([], refl, refl),
            quietly (take 23 events) (drop 23 events) refl refl,
          ),
        ),
      );
      alone = (refl, lit≤ tt, lit≤ tt, tt);
    }

pub linked_again : Linked (again (object 16)) entries_again
linked_again k lines =
    let then = quiet_then (λ throws. anything) (lines_in k) objects entries_again in
    let told = again (object 16) in
    record {
      come = then [] (take 14 told) (drop 14 told) refl refl (
        tt,
        (
          (object 7, edit.Link link.Traceback (Some (object 8))) ∷ [],
          record {
            contexts = [];
            gets = refl;
            entries = (object 7, edit.Link link.Traceback (Some (object 8))) ∷ [];
            puts = record {
              frame = record { number = 9 };
              is_frame = record { at = 0; numbered = refl; activation = _; is_made = refl; body = _; is_function = refl; entry = refl; made_with = refl };
              line = 9;
              is_line = lines.0;
              entry = object 8;
              has = refl;
              newer = all_below 8 (named_by (take 14 told) ++ []) refl;
              puts = refl;
            };
            both = refl;
          },
          refl,
        ),
        (
          inr (_, refl, refl, refl),
          ([], refl, refl),
          then (take 16 told) (take 3 (drop 16 told)) (drop 19 told) refl refl (
            tt,
            (
              (object 7, edit.Link link.Traceback (Some (object 10))) ∷ [],
              record {
                contexts = [];
                gets = refl;
                entries = (object 7, edit.Link link.Traceback (Some (object 10))) ∷ [];
                puts = record {
                  frame = record { number = 14 };
                  is_frame = record { at = 3; numbered = refl; activation = _; is_made = refl; body = _; is_function = refl; entry = refl; made_with = refl };
                  line = 4;
                  is_line = lines.2;
                  entry = object 10;
                  has = refl;
                  newer = all_below 10 (named_by (take 19 told) ++ named_in (first_entry ∷ [])) refl;
                  puts = refl;
                };
                both = refl;
              },
              refl,
            ),
            then (take 20 told) (take 1 (drop 20 told)) (drop 21 told) refl refl (
              tt,
              (
                (object 7, edit.Link link.Traceback (Some (object 16))) ∷ [],
                record {
                  contexts = [];
                  gets = refl;
                  entries = (object 7, edit.Link link.Traceback (Some (object 16))) ∷ [];
                  puts = record {
                    frame = record { number = 9 };
                    is_frame = record { at = 0; numbered = refl; activation = _; is_made = refl; body = _; is_function = refl; entry = refl; made_with = refl };
                    line = 8;
                    is_line = lines.1;
                    entry = object 16;
                    has = refl;
                    newer = all_below 16 (named_by (take 21 told) ++ named_in (first_entry ∷ put 20 10 ∷ [])) refl;
                    puts = refl;
                  };
                  both = refl;
                },
                refl,
              ),
              (inr (_, refl, refl, refl), ([], refl, refl), tt),
            ),
          ),
        ),
      );
      alone = (refl, lit≤ tt, lit≤ tt, (refl, lit≤ tt, lit≤ tt, (refl, lit≤ tt, lit≤ tt, tt)));
    }

-- behind these events the links of others come
abbrev Rest : List Change → Codes → List Event → List Event → Type 0
Rest changes k front es = LinksCome (λ throws. anything) (lines_in k) objects changes front (state_after start front) es

rest_of : (changes : List Change) (k : Codes) (front es : List Event) → AreLinked (front ++ es) changes k → Rest changes k front es
rest_of changes k front es linked = links_rest (λ throws. anything) (lines_in k) objects changes [] start front es linked.come

pub no_other_traceback : Unlinked told_another (first_entry ∷ [])
no_other_traceback k lines linked = refused (rest_of (first_entry ∷ []) k (raising (exited 4 (object 8) [])) (exit (object 10) ∷ []) linked)
  where
    refused : Rest (first_entry ∷ []) k (raising (exited 4 (object 8) [])) (exit (object 10) ∷ []) → ⊥
    refused (inl none, has, rest) = let clash = none.0 in absurd (cc clash)
    refused (inr (body, entry, class, is), has, rest) = let clash : 10 ≡ 8 = ap (λ (o : Obj). o.number) is in absurd (omega (arith, clash))

pub no_none_as_traceback : Unlinked told_none (first_entry ∷ [])
no_none_as_traceback k lines linked = refused (rest_of (first_entry ∷ []) k (raising []) (exit (object 0) ∷ []) linked)
  where
    refused : Rest (first_entry ∷ []) k (raising []) (exit (object 0) ∷ []) → ⊥
    refused (inl none, has, rest) = let clash = none.0 in absurd (cc clash)
    refused (inr (body, entry, class, is), has, rest) = let clash : 0 ≡ 8 = ap (λ (o : Obj). o.number) is in absurd (omega (arith, clash))

pub no_old_traceback : Unlinked (again (object 8)) entries_again
no_old_traceback k lines linked = refused (rest_of entries_again k (take 22 (again (object 8))) (exit (object 8) ∷ []) linked)
  where
    refused : Rest entries_again k (take 22 (again (object 8))) (exit (object 8) ∷ []) → ⊥
    refused (inl none, has, rest) = let clash = none.0 in absurd (cc clash)
    refused (inr (body, entry, class, is), has, rest) = let clash : 8 ≡ 16 = ap (λ (o : Obj). o.number) is in absurd (omega (arith, clash))

-- no entry of a raise is left out
left_out : (n : ℕ) (contexts entries : List ObjectEdit) (x : ObjectEdit) → entries ≡ x ∷ [] → [] ≡ noted n (contexts ++ entries) → ⊥
left_out n [] entries x is none = let clash = none ∙ ap (noted n) is in cc clash
left_out n (y ∷ contexts) entries x is none = cc none

pub no_entry_left_out : Unlinked events []
no_entry_left_out k lines linked =
    let (edits, raises, are) = (rest_of [] k (take 14 events) (drop 14 events) linked).1 in left_out 15 raises.contexts raises.entries _ raises.puts.puts (are ∙ ap (noted 15) raises.both)

pub no_raise_without_an_entry : Unlinked (again (object 8)) (first_entry ∷ [])
no_raise_without_an_entry k lines linked =
    let (edits, raises, are) = (rest_of (first_entry ∷ []) k (take 19 (again (object 8))) (drop 19 (again (object 8))) linked).1 in
    left_out 20 raises.contexts raises.entries _ raises.puts.puts (are ∙ ap (noted 20) raises.both)
