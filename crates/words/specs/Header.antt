-- The header test: refusals 1, 2 and 12.
use Rattle.std.specs.Prelude.{ℕ, suc, ◌≤◌, ◌≡◌, List, [], ◌∷◌, Bool, true, not, ◌&&◌, ◌||◌, length, take, leb, ltb, eqb}
use Rattle.worker.specs.Refusals.{Test}
use Rattle.worker.specs.declared.refusal.Refusal.TheVariants.{ShortArena, OddHeader, OldLayout}
use Rattle.words.specs.Layout.{word, header_width, good_counts, most_stored, header_words, old_header_words, workers_of, nodes_of, total_of, stored_of}

-- the words from a place on are these
abbrev pub agrees : List ℕ → ℕ → List ℕ → Bool
agrees words at [] = true
agrees words at (v ∷ vs) = eqb (word words at) v && agrees words (suc at) vs

-- the header test: the 8 words are the header of the W, the N and the count that stand in them
unfoldable pub is_header : List ℕ → Bool
is_header arena =
    good_counts (workers_of arena) (nodes_of arena)
    && leb (stored_of arena) (most_stored (nodes_of arena))
    && agrees arena 0 (header_words (workers_of arena) (nodes_of arena) (stored_of arena))

-- and of an old header
unfoldable pub is_old_header : List ℕ → Bool
is_old_header arena =
    good_counts (workers_of arena) (nodes_of arena)
    && agrees arena 0 (old_header_words (workers_of arena) (nodes_of arena))

-- document 01's words for it: the 8 words are the header of some W, N and count (`HeaderLaws.header_of_some`)
abbrev pub HeaderOfSome : List ℕ → Type 0
HeaderOfSome arena =
    (workers : ℕ)
    × (nodes : ℕ)
    × (stored : ℕ)
    × (good_counts workers nodes ≡ true)
    × (stored ≤ most_stored nodes)
    × (take header_width arena ≡ header_words workers nodes stored)

-- the old header of some W and N (`HeaderLaws.old_header_of_some`)
abbrev pub OldHeaderOfSome : List ℕ → Type 0
OldHeaderOfSome arena =
    (workers : ℕ)
    × (nodes : ℕ)
    × (good_counts workers nodes ≡ true)
    × (take header_width arena ≡ old_header_words workers nodes)

-- fewer than 8 words, or than word 5 says
abbrev pub is_short : List ℕ → Bool
is_short arena = ltb (length arena) header_width || ltb (length arena) (total_of arena)

-- a short arena: 1; an odd header: 2; an old one: 12
unfoldable pub header_refusals : List ℕ → List Test
header_refusals arena =
    (is_short arena, ShortArena)
    ∷ (not (is_header arena || is_old_header arena), OddHeader)
    ∷ (is_old_header arena, OldLayout)
    ∷ []
