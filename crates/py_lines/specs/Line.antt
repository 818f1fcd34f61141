-- What a line says, and how it reads, as the definitions see them: plain data, apart from the program's lists.
use Rattle.py_lines.specs.declared.drive.DriveLine.{DriveLine}
use Rattle.py_lines.specs.declared.head.Turn.{Turn}
use Rattle.py_lines.specs.declared.header.Header as own
use Rattle.py_lines.specs.declared.raw.RawLine.{RawLine}
use Rattle.py_lines.specs.Statements as said

-- a line that says something, by its class
pub data Line : Type 0 where
  End : Line  -- end
  Plain : said.Plain → Line  -- a plain statement
  Opens : said.Head → Line  -- a block opens
  Turns : Turn → Line  -- the open block turns to its next suite
  Header : own.Header → Line  -- a declaration, or what opens one
  Drive : DriveLine → Line  -- a drive
  Raw : RawLine → Line  -- a line of a raw code

-- how a line reads by itself: nothing stands in it, or a comment; it says something; or no line is of its tokens
pub data LineRead : Type 0 where
  Blank : LineRead
  Said : Line → LineRead
  Malformed : LineRead
