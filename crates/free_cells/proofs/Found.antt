-- A search has found the longest free run of the cells up to the highest one covered; behind it, the labels to come decide.
use Prim.Native.Nat.{ℕ, ◌+◌, ◌-◌, ◌≤◌, ◌<◌, max}
use mathlib.Core.Path.{◌≡◌}
use mathlib.Core.Logic.{◌⊎◌, inl, inr, ⊎_elim}
use mathlib.Core.List.{List, [], ◌∷◌}
use native.Mathlib.Nat.{max-eq_left}
use native.Mathlib.Omega.{arith}
use native.Mathlib.Decide.{ℕ_discrete}
use Rattle.std.proofs.lemmas.Bool.{cases_lt}
use borrow.Author.Tests.{lt-ltb, le-ltb, eq-eqb, ne_eqb}
use Rattle.std.specs.List.{fold}
use Rattle.arena.specs.declared.chain.Label.{Label}
use Rattle.arena.specs.Lists.{Each, none, ◌and◌, ◌ahead◌}
use Rattle.arena.specs.Sets.{Rising}
use Rattle.free_cells.specs.declared.FreeRun.{FreeRun}
use Rattle.free_cells.specs.declared.search.Search.{Search}
use Rattle.free_cells.specs.FreeCells.{Covers, InNoLabel}
use Rattle.free_cells.specs.Search.{longer, met, found_by}

-- a cell that is in no label of a list is not in the first, and in none of the others
not_first : {label : Label} {labels : List Label} {cell : ℕ} → InNoLabel (label ∷ labels) cell → Covers label cell → ⊥
not_first (first and others) = first

in_no_other : {label : Label} {labels : List Label} {cell : ℕ} → InNoLabel (label ∷ labels) cell → InNoLabel labels cell
in_no_other (first and others) = others

-- labels with higher keys do not cover a cell
below_keys : {key cell : ℕ} {labels : List Label} → Each (λ label. key < label.key) labels → cell ≤ key → InNoLabel labels cell
below_keys none low = none
below_keys (above and others) low = (λ covers. omega (arith, covers.0)) and below_keys others low

-- each of so many cells from the first on is free, in whatever sense
abbrev pub All : (ℕ → Type 0) → ℕ → ℕ → Type 0
All F first length = (cell : ℕ) → first ≤ cell → cell < first + length → F cell

-- the run is the longest of those before a cell, and the first of those
pub record Found (F : ℕ → Type 0) (end : ℕ) (run : FreeRun) : Type 0 where
  pub free : All F run.first run.length
  pub ends : run.first + run.length ≤ end
  pub most : (first length : ℕ) → 1 ≤ length → All F first length → first + length ≤ end →
      (length ≤ run.length) × (length ≡ run.length → run.first ≤ first)
  pub none : run.length ≡ 0 → run.first ≡ 0

-- what a search knows, with some labels still to come
pub record Searching (F : ℕ → Type 0) (labels : List Label) (search : Search) : Type 0 where
  pub found : Found F search.from search.longest
  pub some : 1 ≤ search.from
  pub stop : F (search.from - 1) → ⊥
  pub within : (cell : ℕ) → F cell → cell < search.end
  pub free : (cell : ℕ) → search.from ≤ cell → cell < search.end → InNoLabel labels cell → F cell
  pub out : (cell : ℕ) → search.from ≤ cell → F cell → InNoLabel labels cell

module _ (F : ℕ → Type 0) where
  -- one more free run, from behind the covered cells up to before `to`; from there on no cell before `end` is free
  module _ (search : Search) (to end : ℕ) (found : Found F search.from search.longest) (some : 1 ≤ search.from)
      (stop : F (search.from - 1) → ⊥) (ends : to ≤ end) (wider : search.from ≤ end)
      (free : (cell : ℕ) → search.from ≤ cell → cell < to → F cell)
      (after : (cell : ℕ) → search.from ≤ cell → to ≤ cell → cell < end → F cell → ⊥) where
    -- a free run lies before it, or in it
    sides : (first length : ℕ) → 1 ≤ length → All F first length → first + length ≤ end →
        (first + length ≤ search.from) ⊎ ((search.from ≤ first) × (first + length ≤ to))
    sides first length one all within =
        ⊎_elim
        (λ past.
        ⊎_elim (λ low. absurd (stop (all (search.from - 1) (omega arith) (omega arith))))
        (λ high.
        ⊎_elim (λ h. absurd (after (first + length - 1) (omega arith) (omega arith) (omega arith) (all (first + length - 1) (omega arith) (omega arith))))
        (λ h. inr (high, h))
        (cases_lt to (first + length)))
        (cases_lt first search.from))
        inl
        (cases_lt search.from (first + length))

    -- so the longer of the two is the longest before `end`, and the earlier of equals is the lower
    longer_found : Found F end (longer search to)
    unfolding longer
    longer_found =
        ⊎_elim
        (λ more.
        rw (lt-ltb search.longest.length (to - search.from) more) (record {
          free = λ cell low high. free cell low (omega arith);
          ends = omega arith;
          most = λ first length one all within.
              ⊎_elim (λ low. let old = found.most first length one all low in (omega arith, λ same. omega arith))
              (λ high. (omega arith, λ same. omega arith))
              (sides first length one all within);
          none = λ same. omega arith;
        }))
        (λ less.
        let old = found.ends in
        rw (le-ltb search.longest.length (to - search.from) less) (record {
          free = found.free;
          ends = omega arith;
          most = λ first length one all within.
              ⊎_elim (λ low. found.most first length one all low)
              (λ high. (omega arith, λ same. omega arith))
              (sides first length one all within);
          none = found.none;
        }))
        (cases_lt search.longest.length (to - search.from))

  -- one more label keeps what a search knows
  met_keeps : (label : Label) (labels : List Label) (search : Search) → Each (λ other. label.key < other.key) labels →
      Searching F (label ∷ labels) search → Searching F labels (met search label)
  unfolding met
  met_keeps label labels search rising s =
      elim (ℕ_discrete label.length 0) [
        | yes empty ↦
            rw (eq-eqb _ _ empty) (record {
              found = s.found;
              some = s.some;
              stop = s.stop;
              within = s.within;
              free = λ cell above low out. s.free cell above low ((λ covers. omega (arith, covers.0, covers.1)) and out);
              out = λ cell above f. in_no_other (s.out cell above f);
            })
        | no full ↦
            let first = s.some in
            let hit : (cell : ℕ) → F cell → search.from ≤ cell → label.key ≤ cell → cell < label.key + label.length → ⊥
            = λ cell f above low high. not_first (s.out cell above f) (low, high) in
            rw (ne_eqb _ _ full) (record {
              found =
                  longer_found search _ _ s.found s.some s.stop (omega arith) (omega arith)
                  (λ cell above low. s.free cell above (omega arith) ((λ covers. omega (arith, covers.0)) and below_keys rising (omega arith)))
                  (λ cell above past up f. let in_range = s.within cell f in hit cell f above (omega arith) (omega arith));
              some = omega arith;
              stop = λ f.
                  ⊎_elim (λ high. hit _ f (omega arith) (omega arith) (omega arith)) (λ low. s.stop (rw (max-eq_left low) at f))
                  (cases_lt search.from (label.key + label.length));
              within = s.within;
              free = λ cell above low out. s.free cell (omega arith) low ((λ covers. omega (arith, covers.1)) and out);
              out = λ cell above f. in_no_other (s.out cell (omega arith) f);
            })
      ]

  -- and so do all of them; at its end a search has found the longest run
  pub all_found : (labels : List Label) (search : Search) → Rising labels → Searching F labels search →
      (end : ℕ) × ((cell : ℕ) → F cell → cell < end) × Found F end (found_by (fold met search labels))
  all_found [] search rising s =
      let first = s.some in (
        max search.from search.end,
        λ cell f. omega (arith, s.within cell f),
        longer_found search _ _ s.found s.some s.stop (omega arith) (omega arith)
            (λ cell above low. s.free cell above low none)
            (λ cell above past up f. omega (arith, s.within cell f)),
      )
  all_found (label ∷ labels) search (each ahead rising) s =
      all_found labels (met search label) rising (met_keeps label labels search each s)
