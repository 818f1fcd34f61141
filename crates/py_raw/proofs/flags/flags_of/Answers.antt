use Rattle.py_lines.specs.declared.flag.RawFlag.TheVariants.{Gen}
use Rattle.py_raw.proofs.FlagLemmas.{flags_of-more}
use Rattle.py_raw.proofs.flags.flags_of.Goals as goal

pub loop-word-preserved : goal.loop-word-preserved
loop-word-preserved c =
    flags_of-more c.args.words.now c.loop-word.word-index Gen c.loop-word.flags c.flag_of.result c.union-flags.result c.loop-word-test.true
    c.loop-word.invariant c.flag_of.ensures (c.union-flags.ensures tt)
