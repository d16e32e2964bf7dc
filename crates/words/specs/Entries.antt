-- Entries of a schedule (document 01), four words each: worker, act, key, and the length that a start carries (document 02, A2). Key and
-- length are not looked at for a turn.
use Rattle.std.specs.Prelude.{ℕ, List, [], ◌∷◌, get_or}
use Rattle.std.proofs.Common.{refl, lit<}
use Rattle.words.specs.declared.entry.Entry.{Entry}
use Rattle.words.specs.Flat.{IsRecord}

abbrev pub entry_width : ℕ
entry_width = 4

-- a schedule has at most so many
abbrev pub most_entries : ℕ
most_entries = 4000

-- act 0 is a turn; every other act is a start of the operation with that number, so one above 3 is a start with a bad operation
abbrev pub turn : ℕ
turn = 0

abbrev pub entry_of : ℕ → ℕ → ℕ → ℕ → Entry
entry_of worker act key cells = record { worker = worker; act = act; key = key; length = cells }

abbrev pub entry_words : Entry → List ℕ
entry_words entry = entry.worker ∷ entry.act ∷ entry.key ∷ entry.length ∷ []

-- the entry whose words come first; zeros where words are missing
abbrev pub first_entry : List ℕ → Entry
first_entry words = entry_of (get_or words 0 0) (get_or words 1 0) (get_or words 2 0) (get_or words 3 0)

pub entry_laws : IsRecord entry_width entry_words first_entry
entry_laws = record { narrow = lit< tt; wide = λ entry. refl; read_back = λ entry rest. refl }

-- the entries of a schedule; words that are no whole entry are none
unfoldable pub entries_of : List ℕ → List Entry
entries_of [] = []
entries_of (worker ∷ []) = []
entries_of (worker ∷ act ∷ []) = []
entries_of (worker ∷ act ∷ key ∷ []) = []
entries_of (worker ∷ act ∷ key ∷ cells ∷ words) = entry_of worker act key cells ∷ entries_of words
