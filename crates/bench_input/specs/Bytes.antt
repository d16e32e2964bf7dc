-- Bytes, and a text taken apart at a byte.
use Rattle.std.specs.Prelude.{ℕ, List, ◌==◌}
use Rattle.std.specs.List.{slice_split}

-- LF, which ends a line
abbrev pub line_feed : ℕ
line_feed = 10

-- the one space that parts two fields
abbrev pub space : ℕ
space = 32

-- what stands before, between and behind the marks in a text: one part more than there are marks, and any part may be empty
unfoldable pub parts : ℕ → List ℕ → List (List ℕ)
parts mark text = slice_split (λ byte. byte == mark) text
