-- Constants in rows and in lists, as plain data.
use Rattle.std.proofs.Common.{◌≡◌, List, [], map, refl, ap, sym, ◌∙◌, rules}
use Rattle.py_code.specs.declared.literal.Literal.{Literal, Tuple, Tuple' as TupleLiteral, Row_of-Literal, end_of-Literal, more_of-Literal, items-the_row-Literal, the_lemmas}
use Rattle.py_code.specs.declared.literal.LiteralList.{LiteralList}
use Rattle.py_code.specs.Literals.{Constant, constant, tuple, constant_of, constants_in, in_order, literals_of}

-- a row of constants by its list
constants_in-list : {m : _} (row : Row_of-Literal m) → constants_in row ≡ in_order (map constant_of (items-the_row-Literal _ row))
constants_in-list end_of-Literal = refl
constants_in-list (more_of-Literal item items) = ap (constant (constant_of item)) (constants_in-list items)

-- the items of a tuple
tuple_items : Literal → List Literal
tuple_items (TupleLiteral shape items) = items-the_row-Literal _ items
tuple_items _ = []

module _ (list : LiteralList) where
  items_are : tuple_items (Tuple list) ≡ literals_of list
  unfolding tuple_items
  items_are = search (rules, the_lemmas)

  -- a tuple by the list of its items
  pub constant_of-tuple : (x : Literal) → x ≡ Tuple list → constant_of x ≡ tuple (in_order (map constant_of (literals_of list)))
  unfolding tuple_items
  constant_of-tuple (TupleLiteral shape items) is =
      ap tuple (constants_in-list items ∙ ap (λ (xs : List Literal). in_order (map constant_of xs)) (ap tuple_items is ∙ items_are))
  constant_of-tuple _ is = absurd (cc is)

-- two tuples whose items stand for the same
pub same_tuple : (copy items : LiteralList) (y x : Literal) → y ≡ Tuple copy → x ≡ Tuple items
    → map constant_of (literals_of copy) ≡ map constant_of (literals_of items) → constant_of y ≡ constant_of x
same_tuple copy items y x made is same = constant_of-tuple copy y made ∙ ap (λ (cs : List Constant). tuple (in_order cs)) same ∙ sym (constant_of-tuple items x is)
