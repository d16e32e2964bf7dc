-- The whole input: lines that end with LF, the first `board W N`, the others entries of a schedule.
use Rattle.std.specs.Prelude.{ℕ, suc, ◌+◌, cond, length, replicate, leb, ltb, List, [], ◌∷◌, ◌++◌, Option, Some, None, Result, Ok, Err, option_and_then}
use Rattle.std.specs.Option.{option_map_or}
use Rattle.std.proofs.lemmas.List.Edits.{sets}
use Rattle.words.specs.Layout.{good_counts}
use Rattle.words.specs.Flat.{flat_words}
use Rattle.words.specs.declared.entry.Entry.{Entry}
use Rattle.words.specs.Entries.{entry_words, most_entries}
use Rattle.bench_input.specs.Bytes.{line_feed, parts}
use Rattle.bench_input.specs.Lines.{line_of}
use Rattle.bench_input.specs.declared.lines.Line.{Line}
use Rattle.bench_input.specs.declared.lines.Line.TheVariants.{Board, Entries}
use Rattle.bench_input.specs.declared.Plan.{Plan}
use Rattle.bench_input.specs.declared.BadLine.{BadLine}

-- the input has at most 16,384 bytes
abbrev pub most_bytes : ℕ
most_bytes = 16384

-- what an input says: W, N and the entries; or the number of the first bad line, and the entries of the lines before it
pub data Reading : Type 0 where
  planned : ℕ → ℕ → List Entry → Reading
  bad_line : ℕ → List Entry → Reading

-- the entries of a line, behind so many: none, where the line is not one of entries or passes 4,000 entries
unfoldable pub new_entries : ℕ → Line → Option (List Entry)
new_entries before (Board workers nodes) = None
new_entries before (Entries entry count) =
    cond (leb (before + count) most_entries) (Some (replicate count entry)) None

-- those of a text, if it is such a line
abbrev pub text_entries : ℕ → List ℕ → Option (List Entry)
text_entries before text = option_and_then (new_entries before) (line_of text)

module _ (workers nodes : ℕ) where
  -- The lines from a number on, where `entries` are those of the lines before. The last text stands behind the last LF:
  -- it must be empty, since it is no line that ends with LF. There is always a last text.
  unfoldable pub lines_from : ℕ → List Entry → List (List ℕ) → Reading
  lines_from line entries [] = bad_line line entries
  lines_from line entries ([] ∷ []) = planned workers nodes entries
  lines_from line entries ((byte ∷ text) ∷ []) = bad_line line entries
  lines_from line entries (text ∷ next ∷ others) =
      option_map_or
      (λ new. lines_from (suc line) (entries ++ new) (next ∷ others))
      (text_entries (length entries) text)
      (bad_line line entries)

-- W and N of `board W N`, if they are good
unfoldable pub good_board : Line → Option (ℕ × ℕ)
good_board (Board workers nodes) = cond (good_counts workers nodes) (Some (workers, nodes)) None
good_board (Entries entry count) = None

abbrev pub counts_of : List ℕ → Option (ℕ × ℕ)
counts_of text = option_and_then good_board (line_of text)

-- line 1 is `board W N`, with good counts
abbrev pub board_line : List ℕ → List (List ℕ) → Reading
board_line text others = option_map_or (λ counts. lines_from counts.0 counts.1 2 [] others) (counts_of text) (bad_line 1 [])

-- an input without LF, as the empty one, has no good line: line 1
abbrev pub input_lines : List (List ℕ) → Reading
input_lines [] = bad_line 1 []
input_lines (text ∷ []) = bad_line 1 []
input_lines (text ∷ next ∷ others) = board_line text (next ∷ others)

-- line 0 for too many bytes
unfoldable pub reading_of : List ℕ → Reading
reading_of input = cond (ltb most_bytes (length input)) (bad_line 0 []) (input_lines (parts line_feed input))

-- the answer: W, N and the number of the entries, or the number of the bad line
abbrev pub parsed_of : Reading → Result Plan BadLine
parsed_of (planned workers nodes entries) = Ok (record { workers = workers; nodes = nodes; entries = length entries })
parsed_of (bad_line line entries) = Err (record { 0 = line })

-- the words of the entries
abbrev pub words_of : Reading → List ℕ
words_of (planned workers nodes entries) = flat_words entry_words entries
words_of (bad_line line entries) = flat_words entry_words entries

-- what a schedule holds at the end: the entries of the good lines before the first bad one, from its first word on; further words stay
abbrev pub scheduled : List ℕ → Reading → List ℕ
scheduled schedule reading = sets schedule 0 (words_of reading)
