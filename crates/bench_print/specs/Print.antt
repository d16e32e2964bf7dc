-- What the bench program prints, as bytes, and where it stands in an output.
use Rattle.std.specs.Prelude.{ℕ, ◌+◌, ◌/◌, ◌%◌, min, max, ◌≡◌, cond, length, leb, eqb, codes}
use Prim.Native.String.{String}
use Rattle.std.specs.List.{flat_map}
use mathlib.Core.List.{List, [], ◌∷◌, ◌++◌}
use Rattle.std.proofs.lemmas.List.Edits.{sets}
use Rattle.worker.specs.Worker.{add, remove}
use Rattle.schedule.specs.declared.Call.{Call}
use Rattle.schedule.specs.declared.Wait.{Wait}
use Rattle.schedule.specs.declared.Totals.{Totals}
use Rattle.bench_print.specs.declared.Output.{Output}
use Rattle.bench_print.specs.declared.Part.{Part}
use Rattle.bench_print.specs.declared.Part.TheVariants as part
use Rattle.bench_input.specs.Numbers.{digit_zero}

-- the place behind so many bytes: at most the end of the output, whose length is `room`; a place past the end stays
abbrev pub place_behind : ℕ → ℕ → ℕ → ℕ
place_behind room at bytes = max at (min (at + bytes) room)

-- A text was printed: it stands in the output from a place on, as far as there is room, and the next place is behind it.
pub record Printed (text before : List ℕ) (at : ℕ) (after : List ℕ) (next : ℕ) : Type 0 where
  pub bytes : after ≡ sets before at text
  pub place : next ≡ place_behind (length before) at (length text)

-- the same of a lent output: it still lends the same bytes, and the text stands behind what was printed before
pub record Prints (text : List ℕ) (before after : Output) : Type 0 where
  pub same_reference : after.bytes.ghost_name ≡ before.bytes.ghost_name
  pub printed : Printed text before.bytes.now before.len after.bytes.now after.len

-- the byte of a digit
abbrev pub digit : ℕ → ℕ
digit n = digit_zero + n

-- the digit of a decimal place, as 10 for the tens; a number below the place has none
unfoldable pub digit_at : ℕ → ℕ → List ℕ
digit_at place n = cond (leb place n) (digit (n / place % 10) ∷ []) []

-- a number up to 65,535 in decimal: five digits at most, and no leading zeros
unfoldable pub decimal : ℕ → List ℕ
decimal n = digit_at 10000 n ++ digit_at 1000 n ++ digit_at 100 n ++ digit_at 10 n ++ digit (n % 10) ∷ []

-- a word with a number behind it
abbrev pub labelled : String → ℕ → List ℕ
labelled word n = codes word ++ decimal n

-- the parts of a line: texts, and numbers behind texts
abbrev pub part_text : Part → List ℕ
part_text (part.Text text) = text.now
part_text (part.Labelled text n) = text.now ++ decimal n

-- `bad line L`
unfoldable pub bad_line_text : ℕ → List ℕ
bad_line_text line = labelled "bad line " line ++ codes "\n"

-- `refused 8`
unfoldable pub refused_text : ℕ → List ℕ
refused_text number = labelled "refused " number ++ codes "\n"

-- the totals
unfoldable pub totals_text : Totals → List ℕ
totals_text totals =
    labelled "entries " totals.entries
    ++ labelled " refused " totals.refused
    ++ labelled " waits " totals.waits
    ++ labelled " calls " totals.calls
    ++ codes "\n"

-- operations, behind a space: 1 add, 2 remove, 3 contains
unfoldable pub operation_text : ℕ → List ℕ
operation_text operation =
    cond (eqb operation add) (codes " add") (cond (eqb operation remove) (codes " remove") (codes " contains"))

-- answers, behind a space: 1 yes, 2 no, 3 full, or `open` where the answer is 0
unfoldable pub answer_text : ℕ → List ℕ
answer_text answer =
    cond (eqb answer 0) (codes " open")
    (cond (eqb answer 1) (codes " yes") (cond (eqb answer 2) (codes " no") (codes " full")))

-- a record: worker, operation, key, start, point, finish, answer
unfoldable pub call_text : Call → List ℕ
call_text call =
    decimal call.worker
    ++ operation_text call.operation
    ++ labelled " " call.key
    ++ labelled " " call.start
    ++ labelled " " call.point
    ++ labelled " " call.finish
    ++ answer_text call.answer
    ++ codes "\n"

-- a wait: its moment, the node wanted, and the worker in the way
unfoldable pub wait_text : Wait → List ℕ
wait_text wait =
    labelled "wait " wait.time ++ labelled " " wait.node ++ labelled " " wait.worker ++ codes "\n"

-- keys, each behind a space
abbrev pub keys_text : List ℕ → List ℕ
keys_text = flat_map (labelled " ")

-- the roll
unfoldable pub roll_text : List ℕ → List ℕ
roll_text keys = codes "roll" ++ keys_text keys ++ codes "\n"
