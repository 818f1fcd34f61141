-- The whole of a report: there is one, and steps tell it.
use Rattle.std.proofs.Common.{◌≡◌, ℕ, List, [], ◌∷◌, ◌++◌, Some, refl, sym, ap, subst, ◌∙◌, append-nil, append_assoc}
use Rattle.std.specs.Prelude.{Option, None, encode_utf8_all}
use Rattle.py_objects.specs.declared.payload.Payload.{Payload}
use Rattle.py_objects.specs.declared.edit.LinkField.TheVariants as link
use Rattle.py_objects.specs.Objects.{Obj, Name}
use Rattle.py_exceptions.specs.Walks.{link_at}
use Rattle.py_reports.specs.declared.chain.Chained.{Chained}
use Rattle.py_reports.specs.declared.stage.Stage.{Stage}
use Rattle.py_reports.specs.declared.stage.Stage.TheVariants as stage
use Rattle.py_reports.specs.Entries.{HasEntries}
use Rattle.py_reports.specs.Laws.{pieces_text, IsTold, OneReport}
use Rattle.py_reports.specs.Parts.{part_text, IsPart}
use Rattle.py_reports.specs.Reports.{sentence_text, IsPiece, IsText}
use Rattle.py_reports.specs.Scenes.{Scene}
use Rattle.py_reports.specs.Steps.{ArePieces}
use Rattle.py_reports.proofs.ChainsLemmas.{one_chain}
use Rattle.py_reports.proofs.WalkLemmas.{one_order}

-- ---- one text

same_entries : (objects : List Payload) (traceback : Option Obj) (one other : List Obj) → HasEntries objects traceback one → HasEntries objects traceback other → one ≡ other
same_entries objects None one other a b = a ∙ sym b
same_entries objects (Some traceback) one other a b = one_order (link_at link.Next objects) traceback one other a b

same_part : (scene : Scene) (v : Obj) (one other : List ℕ) → IsPart scene v one → IsPart scene v other → one ≡ other
same_part scene v one other (entries, have, is) (again, has, also) =
    is ∙ ap (part_text scene v) (same_entries scene.objects (link_at link.Traceback scene.objects v) entries again have has) ∙ sym also

same_piece : (scene : Scene) (c : Chained) (one other : List ℕ) → IsPiece scene c one → IsPiece scene c other → one ≡ other
same_piece scene c one other (part, has, is) (again, had, also) =
    is ∙ ap (λ (p : List ℕ). sentence_text c.sentence ++ p) (same_part scene c.exception part again has had) ∙ sym also

same_text : (scene : Scene) (cs : List Chained) (one other : List ℕ) → IsText scene cs one → IsText scene cs other → one ≡ other
same_text scene [] one other a b = a ∙ sym b
same_text scene (c ∷ cs) one other (before, piece, rest, has, is) (before', piece', rest', has', is') =
    is ∙ ap (λ (t : List ℕ). t ++ piece) (same_text scene cs before before' rest rest') ∙ ap (λ (p : List ℕ). before' ++ p) (same_piece scene c piece piece' has has') ∙ sym is'

pub one_report : OneReport
one_report scene v one other (cs, chain, text) (again, also, same) =
    same_text scene cs one other text (subst (λ (l : List Chained). IsText scene l other) (one_chain scene.objects v again cs also chain) same)

-- ---- one more piece

pub one_more_piece : (scene : Scene) (tail : List Chained) (next : Chained) (done piece more : List ℕ) → IsText scene tail done → IsPiece scene next piece → more ≡ done ++ piece
    → IsText scene (next ∷ tail) more
one_more_piece scene tail next done piece more text has is = (done, piece, text, has, is)

-- the pieces from here on, after those of the exceptions that are told already
told_on : (scene : Scene) (texts : List Name) (left tail : List Chained) (done : List ℕ) → ArePieces scene (stage.Begun left) texts → IsText scene tail done
    → IsText scene (left ++ tail) (done ++ pieces_text texts)
told_on scene [] left tail done (new, (none, ends)) text =
    subst (λ (l : List Chained). IsText scene (l ++ tail) (done ++ [])) none (subst (IsText scene tail) (sym (append-nil done)) text)
told_on scene (t ∷ texts) left tail done (new, (rest, next, come, piece, is), later) text =
    subst (λ (l : List Chained). IsText scene (l ++ tail) (done ++ (encode_utf8_all t ++ pieces_text texts))) come
    (subst (λ (l : List Chained). IsText scene l (done ++ (encode_utf8_all t ++ pieces_text texts))) (sym (append_assoc rest (next ∷ []) tail))
    (subst (IsText scene (rest ++ (next ∷ tail))) (append_assoc done (encode_utf8_all t) (pieces_text texts))
    (told_on scene texts rest (next ∷ tail) (done ++ encode_utf8_all t) (subst (λ (s : Stage). ArePieces scene s texts) is later) (done, encode_utf8_all t, text, piece, refl))))

pub is_told : IsTold
is_told scene exc [] (new, (chain, ends)) = ([], chain, refl)
is_told scene exc (t ∷ texts) (new, (rest, next, chain, piece, is), later) =
    (rest ++ next ∷ [], chain, told_on scene texts rest (next ∷ []) (encode_utf8_all t) (subst (λ (s : Stage). ArePieces scene s texts) is later) ([], encode_utf8_all t, refl, piece, refl))
