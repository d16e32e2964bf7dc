-- A line of the input: `board W N`, `add w k n`, `remove w k`, `contains w k` or `turn w n`. Any other is bad, and is None here.
use Rattle.std.specs.Prelude.{ℕ, List, [], ◌∷◌, cond, Option, Some, None, option_and_then, codes}
use Rattle.std.specs.Str.{bytes_eq}
use Rattle.worker.specs.Worker.{add, remove, contains, within}
use Rattle.words.specs.Entries.{most_entries, turn, entry_of}
use Rattle.bench_input.specs.Bytes.{space, parts}
use Rattle.bench_input.specs.Numbers.{number_of}
use Rattle.bench_input.specs.declared.lines.Line.{Line}
use Rattle.bench_input.specs.declared.lines.Line.TheVariants.{Board, Entries}

-- `turn w n`: n entries, 1 to 4,000, whose key and length are not looked at
unfoldable pub turn_line : ℕ → ℕ → Option Line
turn_line worker count = cond (within 1 most_entries count) (Some (Entries (entry_of worker turn 0 0) count)) None

-- a line of a word and two numbers; one that starts a call is one entry, and only an add has a length
unfoldable pub command_line : List ℕ → ℕ → ℕ → Option Line
command_line word a b =
    cond (bytes_eq word (codes "board")) (Some (Board a b))
    (cond (bytes_eq word (codes "remove")) (Some (Entries (entry_of a remove b 0) 1))
    (cond (bytes_eq word (codes "contains")) (Some (Entries (entry_of a contains b 0) 1))
    (cond (bytes_eq word (codes "turn")) (turn_line a b)
    None)))

-- a line of a word and three numbers: `add w k n` (document 02, A2), where any number n is a good length, for the run to judge
unfoldable pub long_line : List ℕ → ℕ → ℕ → ℕ → Option Line
long_line word a b c = cond (bytes_eq word (codes "add")) (Some (Entries (entry_of a add b c) 1)) None

-- a field behind the first that is no number makes the line bad
abbrev pub with_number : List ℕ → (ℕ → Option Line) → Option Line
with_number field line = option_and_then line (number_of field)

-- a line has three fields or four
abbrev pub fields_line : List (List ℕ) → Option Line
fields_line (word ∷ a ∷ b ∷ []) = with_number a (λ first. with_number b (λ second. command_line word first second))
fields_line (word ∷ a ∷ b ∷ c ∷ []) =
    with_number a (λ first. with_number b (λ second. with_number c (λ third. long_line word first second third)))
fields_line others = None

-- fields are parted by one space
unfoldable pub line_of : List ℕ → Option Line
line_of line = fields_line (parts space line)
