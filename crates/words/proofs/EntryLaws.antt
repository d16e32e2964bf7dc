-- The entries of a schedule, four words after four words.
use Prim.Native.Nat.{ℕ, zero, suc, ◌+◌, ◌*◌, ◌≤◌, ◌<◌, ◌/◌}
use mathlib.Core.Path.{◌≡◌, refl, ap}
use mathlib.Core.List.{List, [], ◌∷◌, map}
use native.Mathlib.Omega.{arith}
use native.Mathlib.Nat.{suc-add}
use lib.ListN.{length, get_or}
use Rattle.std.specs.Simd.{first_chunks}
use Rattle.words.specs.declared.entry.Entry.{Entry}
use Rattle.words.specs.Entries.{entry_width, entry_of, first_entry, entries_of}

-- the four words from a place on, as an entry
abbrev pub entry_from : List ℕ → ℕ → Entry
entry_from schedule at = entry_of (get_or schedule at 0) (get_or schedule (at + 1) 0) (get_or schedule (at + 2) 0) (get_or schedule (at + 3) 0)

onward : (k : ℕ) → entry_width * suc k ≡ suc (suc (suc (suc (entry_width * k))))
onward k = omega arith

-- entry k is words 4k to 4k + 3
pub entry_at_lem : (schedule : List ℕ) (k : ℕ) (default : Entry) → entry_width * k + 3 < length schedule →
    get_or (entries_of schedule) k default ≡ entry_from schedule (entry_width * k)
unfolding entries_of
entry_at_lem [] k default h = absurd (omega arith)
entry_at_lem (worker ∷ []) k default h = absurd (omega arith)
entry_at_lem (worker ∷ act ∷ []) k default h = absurd (omega arith)
entry_at_lem (worker ∷ act ∷ key ∷ []) k default h = absurd (omega arith)
entry_at_lem (worker ∷ act ∷ key ∷ cells ∷ words) zero default h = refl
entry_at_lem (worker ∷ act ∷ key ∷ cells ∷ words) (suc k) default h = rw (onward k) (simp suc-add (entry_at_lem words k default (omega arith)))

-- how many there are
entries_fit : (schedule : List ℕ) →
    (length (entries_of schedule) * entry_width ≤ length schedule)
    × (length schedule < length (entries_of schedule) * entry_width + entry_width)
unfolding entries_of
entries_fit [] = (omega arith, omega arith)
entries_fit (worker ∷ []) = (omega arith, omega arith)
entries_fit (worker ∷ act ∷ []) = (omega arith, omega arith)
entries_fit (worker ∷ act ∷ key ∷ []) = (omega arith, omega arith)
entries_fit (worker ∷ act ∷ key ∷ cells ∷ words) = let others = entries_fit words in (omega arith, omega arith)

pub entries_quotient : (schedule : List ℕ) → length schedule / entry_width ≡ length (entries_of schedule)
entries_quotient schedule = let fit = entries_fit schedule in omega arith

-- each is made of a chunk of four words
by_count : (schedule : List ℕ) → map first_entry (first_chunks entry_width (length (entries_of schedule)) schedule) ≡ entries_of schedule
unfolding entries_of
by_count [] = refl
by_count (worker ∷ []) = refl
by_count (worker ∷ act ∷ []) = refl
by_count (worker ∷ act ∷ key ∷ []) = refl
by_count (worker ∷ act ∷ key ∷ cells ∷ words) = ap (λ others. entry_of worker act key cells ∷ others) (by_count words)

pub entries_chunked : (schedule : List ℕ) → map first_entry (first_chunks entry_width (length schedule / entry_width) schedule) ≡ entries_of schedule
entries_chunked schedule = rw (entries_quotient schedule) (by_count schedule)
