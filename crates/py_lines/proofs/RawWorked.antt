-- How small lines of raw codes read, by computing their tokens.
use Rattle.std.proofs.Common.{◌≢◌, ◌^◌, List, [], ◌∷◌, false, None, refl, ap, map, arith}
use Rattle.std.specs.Prelude.{codes, pos}
use Rattle.py_lines.specs.declared.flag.RawFlag.{RawFlag}
use Rattle.py_lines.specs.declared.raw.RawLine.{RawLine}
use Rattle.py_lines.specs.declared.raw.RawLine.TheVariants as raw
use Rattle.py_lines.specs.Meaning.{Meaning, Word, Number, Dash, Parts}
use Rattle.py_lines.specs.RawFinding.{NoneBefore}
use Rattle.py_lines.specs.RawLines.{const_tokens, flag_token, kind_pieces, block_pieces, raw_tokens}
use Rattle.py_lines.specs.Words.{is_byte, is_small}
use Rattle.py_lines.specs.WorkedRaw.{BlocksOfAUnit, CodeIsAHeader, Constants, DeadUnit, FlagsInARow, JumpsThatWait, KeywordNamesNoCode, KindsWithZeros, LoopWithoutLevel, NamesOfLines, NoArgumentBeyond, NoBlocksBehindKinds, NoDepthBeyond, NoFlagsAtAll, NoNameAmongConstants, NoSuchFlag, NoSuchInstruction, NothingBehindAComma, ThreeCounts, TwoCounts, VarsIsAName}
use Rattle.py_lines.proofs.Alike.{other_word}
use Rattle.py_lines.proofs.BlockPieces.{no_block_alone}
use Rattle.py_lines.proofs.Classes.{no_raw_line}
use Rattle.py_lines.proofs.Counts.{no_other}
use Rattle.py_lines.proofs.Instructions.{no_instruction}
use Rattle.py_lines.proofs.PartTokens.{no_list, no_lone_word}
use Rattle.py_lines.proofs.RawConsts.{no_raw_atom, no_const_first, no_consts_behind}
use Rattle.py_lines.proofs.RawOneToOne.{no_flag}
use Rattle.py_lines.proofs.Units.{no_dead, no_live_kinds, no_live_blocks}

pub code_is_a_header : CodeIsAHeader
code_is_a_header = (refl, tt)

pub flags_in_a_row : FlagsInARow
flags_in_a_row = (refl, tt)

pub no_flags_at_all : NoFlagsAtAll
no_flags_at_all = (refl, tt)

pub vars_is_a_name : VarsIsAName
vars_is_a_name = (refl, omega arith)

pub names_of_lines : NamesOfLines
names_of_lines = (refl, tt)

pub three_counts : ThreeCounts
three_counts = (refl, tt)

pub constants : Constants
constants = (refl, tt)

pub kinds_with_zeros : KindsWithZeros
kinds_with_zeros = (refl, tt)

pub dead_unit : DeadUnit
dead_unit = (refl, tt)

pub blocks_of_a_unit : BlocksOfAUnit
blocks_of_a_unit = (refl, tt)

pub jumps_that_wait : JumpsThatWait
jumps_that_wait = (refl, tt)

pub no_such_flag : NoSuchFlag
no_such_flag = (refl, λ l low. no_raw_line _ refl raws l)
  where
    flags : (fs : List RawFlag) → Word (codes "fast") ∷ [] ≢ map flag_token fs
    flags [] e = cc
    flags (f ∷ fs) e = no_flag (Word (codes "fast")) refl f (cc)

    raws : (r : RawLine) → Word (codes "flags") ∷ Word (codes "fast") ∷ [] ≢ raw_tokens r
    raws (raw.Flags fs) e = flags fs (cc)
    raws r e = other_word _ _ refl _ _ e

pub two_counts : TwoCounts
two_counts = (refl, λ l low. no_raw_line _ refl raws l)
  where
    raws : (r : RawLine) → Word (codes "counts") ∷ Number (pos 1) ∷ Number (pos 2) ∷ [] ≢ raw_tokens r
    raws (raw.Counts p a k) e = cc
    raws r e = other_word _ _ refl _ _ e

pub no_depth_beyond : NoDepthBeyond
no_depth_beyond = (refl, λ l low. no_raw_line _ refl raws l)
  where
    raws : (r : RawLine) → Word (codes "depth") ∷ Number (pos (2 ^ 32)) ∷ [] ≢ raw_tokens r
    raws (raw.Depth n) e = no_other is_small false (2 ^ 32) refl (Number (pos (2 ^ 32))) refl (λ same. cc) n (cc)
    raws r e = other_word _ _ refl _ _ e

-- a token that is no constant
no_constant : (t : Meaning) → NoneBefore const_tokens (t ∷ []) → (r : RawLine) → Word (codes "consts") ∷ t ∷ [] ≢ raw_tokens r
no_constant t none (raw.Consts cs) e = no_consts_behind [] (t ∷ []) (λ empty. cc) none cs (cc)
no_constant t none r e = other_word _ _ refl _ _ e

pub no_name_among_constants : NoNameAmongConstants
no_name_among_constants = (refl, λ l low. no_raw_line _ refl (no_constant _ (no_const_first (Word (codes "f")) [] (λ e. cc) (λ x e. cc) (no_raw_atom (Word (codes "f")) refl))) l)

pub keyword_names_no_code : KeywordNamesNoCode
keyword_names_no_code = (refl, λ l low. no_raw_line _ refl (no_constant _ (no_const_first (Parts None) [] (λ e. cc) (λ x e. cc) (no_raw_atom (Parts None) refl))) l)

pub no_argument_beyond : NoArgumentBeyond
no_argument_beyond = (refl, λ l low. no_raw_line _ refl raws l)
  where
    raws : (r : RawLine) → Word (codes "u") ∷ Word (codes "LoadConst") ∷ Number (pos 256) ∷ Dash ∷ Dash ∷ [] ≢ raw_tokens r
    raws (raw.Unit i a n) e = no_other is_byte false 256 refl (Number (pos 256)) refl (λ same. cc) a (cc)
    raws r e = other_word _ _ refl _ _ e

pub no_such_instruction : NoSuchInstruction
no_such_instruction = (refl, λ l low. no_raw_line _ refl raws l)
  where
    raws : (r : RawLine) → Word (codes "u") ∷ Word (codes "Nothing") ∷ Number (pos 0) ∷ Dash ∷ Dash ∷ [] ≢ raw_tokens r
    raws (raw.Unit i a n) e = no_instruction (codes "Nothing") refl i (cc)
    raws r e = other_word _ _ refl _ _ e

pub no_blocks_behind_kinds : NoBlocksBehindKinds
no_blocks_behind_kinds = (refl, λ l low. no_raw_line _ refl raws l)
  where
    raws : (r : RawLine) → Word (codes "u") ∷ Word (codes "Pop") ∷ Number (pos 0) ∷ Word (codes "any") ∷ [] ≢ raw_tokens r
    raws (raw.Unit i a n) e = no_dead (Word (codes "any")) (λ same. other_word (codes "any") (codes "dead") refl [] [] (ap (λ t. t ∷ []) same)) n (cc)
    raws r e = other_word _ _ refl _ _ e

pub nothing_behind_a_comma : NothingBehindAComma
nothing_behind_a_comma = (refl, λ l low. no_raw_line _ refl raws l)
  where
    raws : (r : RawLine) → Word (codes "u") ∷ Word (codes "Pop") ∷ Number (pos 0) ∷ Parts None ∷ Dash ∷ [] ≢ raw_tokens r
    raws (raw.Unit i a n) e = no_live_kinds (Parts None) Dash None refl (no_list kind_pieces (Parts None) refl) n (cc)
    raws r e = other_word _ _ refl _ _ e

pub loop_without_level : LoopWithoutLevel
loop_without_level = (refl, λ l low. no_raw_line _ refl raws l)
  where
    raws : (r : RawLine) → Word (codes "u") ∷ Word (codes "Pop") ∷ Number (pos 0) ∷ Dash ∷ Word (codes "loop") ∷ [] ≢ raw_tokens r
    raws (raw.Unit i a n) e = no_live_blocks Dash (Word (codes "loop")) None refl (no_lone_word block_pieces (codes "loop") (no_block_alone (codes "loop"))) n (cc)
    raws r e = other_word _ _ refl _ _ e
