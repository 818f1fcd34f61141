-- What a new function is made of.
use Rattle.std.specs.Prelude.{ℕ, List, [], ◌∷◌, Bool, false, ◌&&◌, ◌||◌, not, ◌==◌, Option, Some, None, slice_get, bit_and, if◌then◌else◌}
use Rattle.py_code.specs.declared.flags.MakeFunctionFlags.{MakeFunctionFlags}
use Rattle.py_code.specs.declared.flags.TheConstants.MakeFunctionFlags.{CLOSURE, ANNOTATIONS, KW_ONLY_DEFAULTS, DEFAULTS}
use Rattle.py_check.specs.declared.note.Kind.{Kind}
use Rattle.py_check.specs.declared.note.Kind.TheVariants as kind
use Rattle.py_check.specs.declared.note.BlockNote.{BlockNote}
use Rattle.py_check.specs.Notes.{kind_fits}
use Rattle.py_check.specs.Taking.{takes}

-- whether the flags say that a part is there
abbrev pub has_part : ℕ → MakeFunctionFlags → Bool
has_part flags flag = not (bit_and flags flag.0 == 0)

-- a part that is there where the flags say so, on top of the others
abbrev pub part_if : ℕ → MakeFunctionFlags → Kind → List Kind → List Kind
part_if flags flag k more = if has_part flags flag then k ∷ more else more

-- the kinds of the parts below a code with so many free names
abbrev pub parts_of : ℕ → ℕ → List Kind
parts_of flags n =
    part_if flags CLOSURE (kind.Cells n)
    (part_if flags ANNOTATIONS kind.Any
    (part_if flags KW_ONLY_DEFAULTS kind.Dict
    (part_if flags DEFAULTS kind.Tuple [])))

-- a code without free names needs no closure
abbrev pub closure_fits : ℕ → ℕ → Bool
closure_fits flags n = has_part flags CLOSURE || (n == 0)

-- the parts below a code, which is an earlier one
abbrev pub takes_parts : Option ℕ → ℕ → List Kind → List BlockNote → (List Kind → Bool) → Bool
takes_parts None flags kinds blocks rest = false
takes_parts (Some n) flags kinds blocks rest = closure_fits flags n && takes (parts_of flags n) kinds blocks rest

-- a code, and what lies below it
abbrev pub takes_code : List ℕ → ℕ → List Kind → List BlockNote → (List Kind → Bool) → Bool
takes_code shapes flags (kind.Code c ∷ kinds) blocks rest = takes_parts (slice_get shapes c) flags kinds blocks rest
takes_code shapes flags _ blocks rest = false

-- a name, and what lies below it
abbrev pub makes_function : List ℕ → ℕ → List Kind → List BlockNote → (List Kind → Bool) → Bool
makes_function shapes flags [] blocks rest = false
makes_function shapes flags (k ∷ kinds) blocks rest = kind_fits k kind.Str && takes_code shapes flags kinds blocks rest
