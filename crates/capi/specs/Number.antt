-- The one number that a function of the C interface returns, and how a C program reads it.
use Rattle.std.specs.Prelude.{ℕ, ◌+◌, ◌*◌, ◌/◌, ◌%◌, ◌≤◌, ◌<◌, ◌≡◌, List, [], ◌∷◌, get_or}
use Rattle.words.specs.Replies.{Reply, refused, accepted}

-- a reply, of a turn with its report first: the number of a refusal; or 0 in the lowest byte, the report in the next, and above them two
-- values of 16 bits, where what there is none of is 0
abbrev pub reply_number : Reply → ℕ
reply_number (refused number) = number
reply_number (accepted values) = 256 * get_or values 0 0 + 65536 * get_or values 1 0 + 4294967296 * get_or values 2 0

-- only a turn has a report: a snapshot's count is the first value, and so is the node that find_free found
abbrev pub unreported : Reply → Reply
unreported (refused number) = refused number
unreported (accepted values) = accepted (0 ∷ values)

-- read back, as the header's macros do: the refusal or 0, the report, the two values
abbrev pub refusal_in : ℕ → ℕ
refusal_in number = number % 256

abbrev pub report_in : ℕ → ℕ
report_in number = number / 256 % 256

abbrev pub value_in : ℕ → ℕ
value_in number = number / 65536 % 65536

abbrev pub second_in : ℕ → ℕ
second_in number = number / 4294967296 % 65536

-- what is read is what was replied
abbrev pub Reads : ℕ → Reply → Type 0
Reads number (refused refusal) = refusal_in number ≡ refusal
Reads number (accepted values) =
    (refusal_in number ≡ 0)
    × (report_in number ≡ get_or values 0 0)
    × (value_in number ≡ get_or values 1 0)
    × (second_in number ≡ get_or values 2 0)

-- a refusal is read back; 0 stands for none, and is no refusal's (`NumberLaws`, for each function)
abbrev pub Readable : Reply → Type 0
Readable (refused number) = (1 ≤ number) × (number ≤ 255) × (refusal_in (reply_number (refused number)) ≡ number)
Readable (accepted values) = refusal_in (reply_number (accepted values)) ≡ 0

-- a report fits its byte, and the values their 16 bits: so it is of every answer that the code can give
abbrev pub Fitting : Reply → Type 0
Fitting (refused number) = Unit {0}
Fitting (accepted values) = (get_or values 0 0 < 256) × (get_or values 1 0 < 65536) × (get_or values 2 0 < 65536)

-- a run's four totals are written to lent words, and its number is that of a reply without them
abbrev pub bare : Reply → Reply
bare (refused number) = refused number
bare (accepted values) = accepted []

abbrev pub values_or : List ℕ → Reply → List ℕ
values_or words (refused number) = words
values_or words (accepted values) = values
