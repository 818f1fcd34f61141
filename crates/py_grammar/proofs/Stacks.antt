-- The stack of open blocks, by its last element, and where the statements of its innermost block stand.
use Rattle.std.proofs.Common.{◌≡◌, ◌+◌, ℕ, suc, List, [], ◌∷◌, ◌++◌, Bool, true, false, ◌||◌, refl, ap, ◌∙◌, length, arith}
use Rattle.std.specs.List.{list_any}
use Rattle.py_tree.specs.declared.body.BodyKind.{BodyKind}
use Rattle.py_grammar.specs.declared.open_body.OpenBlock.{OpenBlock}
use Rattle.py_grammar.specs.declared.rules.Inside.{Inside}
use Rattle.py_grammar.specs.Rules.{is_loop}
use Rattle.py_grammar.specs.Reader.{Block, opener, inside_of}
use Rattle.py_grammar.specs.Reading.{began_of, block_of, onto, stack_of}

onto-push : (around : List Block) (bs : List OpenBlock) (b : OpenBlock) → onto around (bs ++ b ∷ []) ≡ block_of b ∷ onto around bs
onto-push around [] b = refl
onto-push around (c ∷ bs) b = onto-push (block_of c ∷ around) bs b

-- the last element is the innermost block
pub stack_push : (bs : List OpenBlock) (b : OpenBlock) → stack_of (bs ++ b ∷ []) ≡ block_of b ∷ stack_of bs
stack_push bs b = onto-push [] bs b

-- whether a block of the program is a loop
abbrev pub loops : OpenBlock → Bool
loops b = is_loop (opener (began_of b.head))

-- where the statements of these blocks stand, from the outermost in, which are open there
abbrev in_blocks : Inside → List OpenBlock → Inside
in_blocks i bs = record i { blocks = length bs + i.blocks; in_loop = list_any loops bs || i.in_loop }

or_turn : (a b c : Bool) → (b || (a || c)) ≡ ((a || b) || c)
or_turn true true c = refl
or_turn true false c = refl
or_turn false true c = refl
or_turn false false c = refl

onto-inside : (k : BodyKind) (around : List Block) (bs : List OpenBlock) → inside_of k (onto around bs) ≡ in_blocks (inside_of k around) bs
onto-inside k around [] =
    let i : Inside = inside_of k around in
    let none : i.blocks ≡ 0 + i.blocks = omega arith in
    ap (λ (n : ℕ). record i { blocks = n }) none
onto-inside k around (c ∷ bs) =
    let i : Inside = inside_of k around in
    let more : length bs + suc i.blocks ≡ suc (length bs) + i.blocks = omega arith in
    onto-inside k (block_of c ∷ around) bs
    ∙ ap (λ (n : ℕ). record i { blocks = n; in_loop = list_any loops bs || (loops c || i.in_loop) }) more
    ∙ ap (λ (l : Bool). record i { blocks = suc (length bs) + i.blocks; in_loop = l }) (or_turn (loops c) (list_any loops bs) i.in_loop)

or_none : (b : Bool) → (b || false) ≡ b
or_none true = refl
or_none false = refl

-- where the statements of the innermost block stand
pub stack_inside : (k : BodyKind) (bs : List OpenBlock) → inside_of k (stack_of bs) ≡ record { kind = k; blocks = length bs + 1; in_loop = list_any loops bs }
stack_inside k bs = onto-inside k [] bs ∙ ap (λ (l : Bool). record { kind = k; blocks = length bs + 1; in_loop = l }) (or_none (list_any loops bs))
