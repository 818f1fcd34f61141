-- The words of the language, which are no names.
use Rattle.std.specs.Prelude.{ℕ, List, [], ◌∷◌, Option, bytes_eq, codes}
use Rattle.std.specs.List.{find}
use Rattle.py_lines.specs.declared.keyword.Keyword.{Keyword}
use Rattle.py_lines.specs.declared.keyword.Keyword.TheVariants as keyword

-- how a keyword is spelled
abbrev pub keyword_text : Keyword → List ℕ
keyword_text keyword.None = codes "None"
keyword_text keyword.True = codes "True"
keyword_text keyword.False = codes "False"
keyword_text keyword.Def = codes "def"
keyword_text keyword.Gen = codes "gen"
keyword_text keyword.Async = codes "async"
keyword_text keyword.Class = codes "class"
keyword_text keyword.Manager = codes "manager"
keyword_text keyword.Code = codes "code"
keyword_text keyword.End = codes "end"
keyword_text keyword.If = codes "if"
keyword_text keyword.Else = codes "else"
keyword_text keyword.While = codes "while"
keyword_text keyword.For = codes "for"
keyword_text keyword.Try = codes "try"
keyword_text keyword.Except = codes "except"
keyword_text keyword.Finally = codes "finally"
keyword_text keyword.With = codes "with"
keyword_text keyword.Break = codes "break"
keyword_text keyword.Continue = codes "continue"
keyword_text keyword.Return = codes "return"
keyword_text keyword.Raise = codes "raise"
keyword_text keyword.Reraise = codes "reraise"
keyword_text keyword.Pass = codes "pass"
keyword_text keyword.Show = codes "show"
keyword_text keyword.Do = codes "do"
keyword_text keyword.Del = codes "del"
keyword_text keyword.Unpack = codes "unpack"
keyword_text keyword.Global = codes "global"
keyword_text keyword.Nonlocal = codes "nonlocal"
keyword_text keyword.Import = codes "import"
keyword_text keyword.Await = codes "await"
keyword_text keyword.From = codes "from"
keyword_text keyword.In = codes "in"
keyword_text keyword.Type = codes "type"

-- constants, then what begins and ends declarations, what begins blocks, what changes which line comes next, other statements, and
-- what stands inside of them
abbrev pub all_keywords : List Keyword
all_keywords =
    keyword.None ∷ keyword.True ∷ keyword.False
    ∷ keyword.Def ∷ keyword.Gen ∷ keyword.Async ∷ keyword.Class ∷ keyword.Manager ∷ keyword.Code ∷ keyword.End
    ∷ keyword.If ∷ keyword.Else ∷ keyword.While ∷ keyword.For ∷ keyword.Try ∷ keyword.Except ∷ keyword.Finally ∷ keyword.With
    ∷ keyword.Break ∷ keyword.Continue ∷ keyword.Return ∷ keyword.Raise ∷ keyword.Reraise ∷ keyword.Pass
    ∷ keyword.Show ∷ keyword.Do ∷ keyword.Del ∷ keyword.Unpack ∷ keyword.Global ∷ keyword.Nonlocal ∷ keyword.Import
    ∷ keyword.Await ∷ keyword.From ∷ keyword.In ∷ keyword.Type ∷ []

-- the keyword that a word is
abbrev pub keyword_of : List ℕ → Option Keyword
keyword_of w = find (λ k. bytes_eq w (keyword_text k)) all_keywords
