-- The text of a script that is made from a seed: its declarations, and then groups of drives by numbers that are drawn one after another.
use Rattle.std.specs.Prelude.{ℕ, zero, suc, ◌+◌, ◌*◌, ◌/◌, ◌%◌, ◌^◌, List, [], ◌++◌, ◌==◌, if◌then◌else◌, codes, decimal}

-- a text has at most so many groups
abbrev pub most_groups : ℕ
most_groups = 10000

-- what each such script declares
abbrev pub declarations : List ℕ
declarations =
    codes "class Fault Exception\n"
    ++ (codes "def enter\nshow 'open'\nend\n"
    ++ (codes "def exit t v b\nshow 'close'\nend\n"
    ++ (codes "manager scope enter exit\n"
    ++ (codes "def work a\nc = (lt a 500)\ntry\nwith scope\nif c\nraise Fault\nend\nreturn a\nend\nexcept Fault as e\nreturn e\nend\nend\n"
    ++ codes "gen count n\ni = 0\nwhile True\ntry\ndo (yield i)\nfinally\ni = (add i 1)\nend\nc = (lt i n)\nif c\nelse\nbreak\nend\nend\nend\n"))))

-- the state of the generator of numbers after one step
abbrev pub next_state : ℕ → ℕ
next_state s = (s * 1664525 + 1013904223) % 2 ^ 32

-- the number that is drawn from a state: its high 16 bits
abbrev pub drawn : ℕ → ℕ
drawn s = s / 65536

-- the text of an even group, and of an odd one, whose first drive has this number
abbrev pub work_text : (v : ℕ) → List ℕ
work_text v = codes "call work " ++ (decimal v ++ codes "\n")

abbrev pub count_text : (v drive : ℕ) → List ℕ
count_text v n = codes "call count " ++ (decimal v ++ (codes "\nnext " ++ (decimal n ++ (codes "\nclose " ++ (decimal n ++ codes "\n")))))

-- the group of r, whose first drive has this number: a call of `work` where r is even; where it is odd a call of `count`, and a next and a close of the
-- generator that this gives
abbrev pub group : (r drive : ℕ) → List ℕ
group r drive = if r % 2 == 0 then work_text (r % 1000) else count_text (r % 1000) drive

-- how many drives it has
abbrev pub drives_of : (r : ℕ) → ℕ
drives_of r = if r % 2 == 0 then 1 else 3

-- so many groups after this state, of which the first begins with the drive of this number
abbrev pub groups : (count state drive : ℕ) → List ℕ
groups zero s n = []
groups (suc more) s n = let r : ℕ = drawn (next_state s) in group r n ++ groups more (next_state s) (n + drives_of r)

-- the text that is made from a seed, with so many groups
abbrev pub made_text : (seed count : ℕ) → List ℕ
made_text seed count = declarations ++ groups count (seed % 2 ^ 32) 1
