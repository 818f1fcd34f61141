use Rattle.py_lines.specs.Printing.{drive_tokens, head_tokens, header_tokens, plain_tokens, turn_tokens}
use Rattle.py_lines.specs.RawLines.{raw_tokens}
use Rattle.py_lines.specs.Reading.{HeadIsLow, PlainIsLow}
use Rattle.py_lines.specs.Views.{head_of, plain_of}
use Rattle.py_lines.proofs.Finds.{no_line, none_prints, none_shows}
use Rattle.py_lines.proofs.line.line_of.Goals as goal

pub returns : goal.returns
returns c =
    no_line _ (none_shows plain_of PlainIsLow plain_tokens _ _ c.in_default.is c.in_ok-plain.ensures) (none_shows head_of HeadIsLow head_tokens _ _ c.in_default-2.is c.in_ok-head.ensures)
    (none_prints turn_tokens _ _ c.in_default-3.is c.in_ok-turn.ensures)
    (none_prints header_tokens _ _ c.in_default-4.is c.in_ok-header.ensures) (none_prints drive_tokens _ _ c.in_default-5.is c.in_ok-drive.ensures)
    (none_prints raw_tokens _ _ c.in_default-6.is c.in_ok-raw.ensures) (c.in_default-read_end.ensures tt)
