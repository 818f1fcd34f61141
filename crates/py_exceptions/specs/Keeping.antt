-- What an exception keeps of the arguments that its class is called with.
use Rattle.std.specs.Prelude.{List, [], ◌∷◌, Bool, codes, if◌then◌else◌}
use Rattle.py_objects.specs.Objects.{Obj}
use Rattle.py_objects.specs.Attrs.{Attrs}

-- the arguments that an OSError keeps of those that its class is called with: of three to five the first two
abbrev pub os_args : List Obj → List Obj
os_args (number ∷ message ∷ file ∷ []) = number ∷ message ∷ []
os_args (number ∷ message ∷ file ∷ code ∷ []) = number ∷ message ∷ []
os_args (number ∷ message ∷ file ∷ code ∷ second ∷ []) = number ∷ message ∷ []
os_args vs = vs

-- the attributes that it has by them: the third one is its file, the fifth its second file
abbrev pub os_attrs : List Obj → Attrs
os_attrs (number ∷ message ∷ file ∷ []) = (codes "filename", file) ∷ []
os_attrs (number ∷ message ∷ file ∷ code ∷ []) = (codes "filename", file) ∷ []
os_attrs (number ∷ message ∷ file ∷ code ∷ second ∷ []) = (codes "filename", file) ∷ (codes "filename2", second) ∷ []
os_attrs vs = []

-- what an exception keeps of the arguments that its class is called with, where it is an OSError or not
abbrev pub kept_args : Bool → List Obj → List Obj
kept_args os vs = if os then os_args vs else vs

abbrev pub kept_attrs : Bool → List Obj → Attrs
kept_attrs os vs = if os then os_attrs vs else []
