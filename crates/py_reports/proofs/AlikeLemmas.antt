-- Reports are the same where codes have the same paths and names, whichever places these have in which table.
use Rattle.std.proofs.Common.{◌≡◌, ◌∙◌, ◌++◌, ℕ, List, [], ◌∷◌, Some, None, refl, ap, codes}
use Rattle.std.specs.Prelude.{Option, slice_get}
use Rattle.py_objects.specs.declared.payload.Payload.{Payload}
use Rattle.py_objects.specs.declared.payload.Payload.TheVariants as payload
use Rattle.py_objects.specs.declared.refs.FrameRef.{FrameRef}
use Rattle.py_objects.specs.Objects.{Obj}
use Rattle.py_exceptions.specs.Repr.{payload_of}
use Rattle.py_reports.specs.declared.chain.Chained.{Chained}
use Rattle.py_reports.specs.declared.place.Place.{Place}
use Rattle.py_reports.specs.Entries.{entry_in, entries_text, place_text, placed_text, traceback_text}
use Rattle.py_reports.specs.Parts.{said_at, IsPart}
use Rattle.py_reports.specs.Reports.{sentence_text, IsPiece, IsReport, IsText}
use Rattle.py_reports.specs.Scenes.{Scene, SourceLines, name_in, path_in, place_in, place_of, scene_with}

-- codes have the same paths and names in both
abbrev pub SamePlaces : (names : List (List ℕ)) (places : List Place) (names' : List (List ℕ)) (places' : List Place) → Type 0
SamePlaces names places names' places' =
    (k : ℕ) → (path_in names (slice_get places k) ≡ path_in names' (slice_get places' k)) × (name_in names (slice_get places k) ≡ name_in names' (slice_get places' k))

module _ (objects : List Payload) (names names' : List (List ℕ)) (places places' : List Place) (sources : List SourceLines) (same : SamePlaces names places names' places') where
  abbrev here : Scene
  here = scene_with objects names places sources

  abbrev there : Scene
  there = scene_with objects names' places' sources

  place_same : (p : Option Payload) → (path_in names (place_in places p) ≡ path_in names' (place_in places' p)) × (name_in names (place_in places p) ≡ name_in names' (place_in places' p))
  place_same (Some (payload.Frame code)) = same code
  place_same (Some _) = (refl, refl)
  place_same None = (refl, refl)

  placed_same : (frame : FrameRef) (line : ℕ) → placed_text here (place_of here frame) line ≡ placed_text there (place_of there frame) line
  placed_same frame line =
      let (path, name) = place_same (payload_of objects (record { number = frame.number })) in
      ap (λ l. place_text sources l (name_in names (place_of here frame)) line) path ∙ ap (λ l. place_text sources (path_in names' (place_of there frame)) l line) name

  entry_same : (p : Option Payload) → entry_in here p ≡ entry_in there p
  entry_same (Some (payload.Traceback t)) = placed_same t.frame t.lineno
  entry_same (Some _) = refl
  entry_same None = refl

  entries_same : (vs : List Obj) → entries_text here vs ≡ entries_text there vs
  entries_same [] = refl
  entries_same (v ∷ vs) = ap (λ l. l ++ entries_text here vs) (entry_same (payload_of objects v)) ∙ ap (λ l. entry_in there (payload_of objects v) ++ l) (entries_same vs)

  traceback_same : (vs : List Obj) → traceback_text here vs ≡ traceback_text there vs
  traceback_same [] = refl
  traceback_same (v ∷ vs) = ap (λ l. codes "Traceback (most recent call last):\n" ++ l) (entries_same (v ∷ vs))

  -- so what is printed of one exception is the same
  pub part_alike : (v : Obj) (text : List ℕ) → IsPart here v text → IsPart there v text
  part_alike v text (entries, has, is) = (entries, has, is ∙ ap (λ l. l ++ said_at objects v) (traceback_same entries))

  text_same : (cs : List Chained) (text : List ℕ) → IsText here cs text → IsText there cs text
  text_same [] text is = is
  text_same (c ∷ cs) text (before, piece, first, (part, is_part, is_piece), is) = (before, piece, text_same cs before first, (part, part_alike c.exception part is_part, is_piece), is)

  -- and a report there is one here
  pub report_alike : (v : Obj) (text : List ℕ) → IsReport here v text → IsReport there v text
  report_alike v text (cs, chain, is) = (cs, chain, text_same cs text is)
