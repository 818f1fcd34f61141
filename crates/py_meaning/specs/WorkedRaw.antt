-- A raw code worked by hand: its signature, its journal, and what looks like it and is none.
use Rattle.std.specs.Prelude.{ℕ, pos, List, [], ◌∷◌, Some, None, codes}
use Rattle.py_code.specs.declared.instruction.Instruction.TheVariants as op
use Rattle.py_objects.specs.declared.payload.CoroKind.TheVariants as coro
use Rattle.py_objects.specs.declared.event.Ending.TheVariants as ending
use Rattle.py_objects.specs.declared.event.DriveAnswer.TheVariants as answer
use Rattle.py_objects.specs.declared.event.Event.{Event}
use Rattle.py_objects.specs.declared.event.Event.TheVariants as event
use Rattle.py_lines.specs.declared.constant.RawAtom.TheVariants as atom
use Rattle.py_lines.specs.declared.constant.RawConst.TheVariants as constant
use Rattle.py_lines.specs.declared.flag.RawFlag.TheVariants as flag
use Rattle.py_lines.specs.declared.unit.RawNote.TheVariants as note
use Rattle.py_grammar.specs.declared.raw_block.RawBlock.{RawBlock}
use Rattle.py_grammar.specs.Grammar.{Decl, RawDecl}
use Rattle.py_run.specs.Run.{Signature}
use Rattle.py_meaning.specs.Worked.{object, entered}

-- the bytes of the script
abbrev pub script : List ℕ
script = codes "code f a\ncounts 0 2 0\nvars b\nconsts 45\ndepth 0\nu ReturnConst 0 - -\nend\ncall f 33 12\n"

-- the raw code, of which the first line names one parameter, and the counts say that there are two
abbrev pub block : RawBlock
block =
    record {
      line = 1;
      name = codes "f";
      params = codes "a" ∷ [];
      flags = [];
      counts = Some (record { positional = 0; args = 2; named = 0 });
      vars = codes "b" ∷ [];
      cells = [];
      frees = [];
      names = [];
      consts = constant.Atom (atom.Int (pos 45)) ∷ [];
      depth = 0;
      units = record { line = 6; op = op.ReturnConst; arg = 0; note = note.Live [] [] } ∷ [];
    }

-- the same without counts, and with the flag of a generator
abbrev pub uncounted : RawBlock
uncounted = record block { counts = None }

abbrev pub generating : RawBlock
generating = record block { flags = flag.NewLocals ∷ flag.Gen ∷ [] }

-- their signatures
abbrev pub signature : Signature
signature = record { params = codes "a" ∷ codes "b" ∷ []; kind = None }

abbrev pub uncounted_signature : Signature
uncounted_signature = record { params = codes "a" ∷ []; kind = None }

abbrev pub generating_signature : Signature
generating_signature = record { params = codes "a" ∷ codes "b" ∷ []; kind = Some coro.Generator }

-- what the script declares
abbrev pub decls : List Decl
decls = RawDecl block ∷ []

-- the same where the code has no counts
abbrev pub uncounted_decls : List Decl
uncounted_decls = RawDecl uncounted ∷ []

-- the run of the script: the raw code returns its constant, at its first unit
abbrev pub returned : List Event
returned =
    entered 1 (event.End 1 (ending.Return (object 6)) 0 ∷ event.Result 1 (answer.Returns (object 6)) ∷ [])
