-- Document 01's limits, with document 02's length of an add, computed from the definitions.
use Rattle.std.proofs.Common.{◌≡◌, ℕ, List, [], ◌∷◌, map, Option, Some, None, refl}
use Rattle.std.specs.Prelude.{codes}
use Prim.Native.String.{String}
use Rattle.words.specs.Entries.{entry_of}
use Rattle.bench_input.specs.Bytes.{parts}
use Rattle.bench_input.specs.Numbers.{digits_value, number_of}
use Rattle.bench_input.specs.Lines.{turn_line, command_line, long_line, line_of}
use Rattle.bench_input.specs.Input.{Reading, planned, bad_line, new_entries, good_board, lines_from, reading_of}

-- the number of the bad line of an input, if there is one
abbrev verdict : Reading → Option ℕ
verdict (planned workers nodes entries) = None
verdict (bad_line line entries) = Some line

-- inputs, and the numbers of their bad lines
inputs : List (String × Option ℕ)
inputs =
    ("", Some 1)
    ∷ ("\n", Some 1)
    ∷ ("board 2 3", Some 1)
    ∷ ("board 2 3\n", None)
    ∷ ("board 0 3\n", Some 1)
    ∷ ("board 8 1024\n", None)
    ∷ ("board 9 3\n", Some 1)
    ∷ ("board 2 2\n", Some 1)
    ∷ ("board 8 1025\n", Some 1)
    ∷ ("board 2 3 0\n", Some 1)
    ∷ ("add 0 5 1\n", Some 1)
    ∷ ("board 2 3\nadd 0 5 1\nremove 0 5\ncontains 0 5\nturn 0 5\n", None)
    ∷ ("board 2 3\nadd 0 5 1", Some 2)
    ∷ ("board 2 3\n\n", Some 2)
    ∷ ("board 2 3\nadd 0 5 1\r\n", Some 2)
    ∷ ("board 2 3\nadd\t0 5 1\n", Some 2)
    ∷ ("board 2 3\nadd 0 +5 1\n", Some 2)
    ∷ ("board 2 3\nadd 0 05 1\n", Some 2)
    ∷ ("board 2 3\nremove 0  5\n", Some 2)
    ∷ ("board 2 3\nremove 0 5 \n", Some 2)
    ∷ ("board 2 3\n remove 0 5\n", Some 2)
    ∷ ("board 2 3\nadd 0 5 \n", Some 2)
    ∷ ("board 2 3\nadd 0 5 1 \n", Some 2)
    ∷ ("board 2 3\n_add 0 5 1\n", Some 2)
    ∷ ("board 2 3\nremove 0\n", Some 2)
    ∷ ("board 2 3\nadd 0 5\n", Some 2)
    ∷ ("board 2 3\nadd 0 5 1 6\n", Some 2)
    ∷ ("board 2 3\nremove 0 5 1\n", Some 2)
    ∷ ("board 2 3\ncontains 0 5 1\n", Some 2)
    ∷ ("board 2 3\nturn 0 5 1\n", Some 2)
    ∷ ("board 2 3\nboard 2 3\n", Some 2)
    ∷ ("board 2 3\nadd 65535 65535 65535\n", None)
    ∷ ("board 2 3\nadd 0 5 0\n", None)
    ∷ ("board 2 3\nadd 0 65536 1\n", Some 2)
    ∷ ("board 2 3\nadd 0 5 65536\n", Some 2)
    ∷ ("board 2 3\nadd 0 100000000000000000000 1\n", Some 2)
    ∷ ("board 2 3\nturn 0 0\n", Some 2)
    ∷ ("board 2 3\nturn 0 4000\n", None)
    ∷ ("board 2 3\nturn 0 4001\n", Some 2)
    ∷ ("board 2 3\nadd 0 5 1\nturn 0 3999\n", None)
    ∷ ("board 2 3\nadd 0 5 1\nturn 0 4000\n", Some 3)
    ∷ []

verdicts : map (λ row. verdict (reading_of (codes row.0))) inputs ≡ map (λ row. row.1) inputs
unfolding inputs parts digits_value number_of turn_line command_line long_line line_of new_entries good_board lines_from reading_of
verdicts = refl

-- entries are those of the good lines before the first bad one
entries : reading_of (codes "board 2 3\nadd 0 5 9\nturn 1 2\nremove 0 7\nadd 1 07 1\n") ≡
    bad_line 5 (entry_of 0 1 5 9 ∷ entry_of 1 0 0 0 ∷ entry_of 1 0 0 0 ∷ entry_of 0 2 7 0 ∷ [])
unfolding parts digits_value number_of turn_line command_line long_line line_of new_entries good_board lines_from reading_of
entries = refl
