-- Document 02's words: which cells are free, and which run of them is the longest.
use Rattle.std.specs.Prelude.{ℕ, ◌+◌, ◌≤◌, ◌<◌, ◌≡◌, ◌↔◌, List}
use Rattle.arena.specs.declared.chain.Label.{Label}
use Rattle.arena.specs.Lists.{Each}
use Rattle.free_cells.specs.declared.FreeRun.{FreeRun}

-- a label covers the cells from its key to its key plus its length less 1
abbrev pub Covers : Label → ℕ → Type 0
Covers label cell = (label.key ≤ cell) × (cell < label.key + label.length)

-- the cell lies in no label
abbrev pub InNoLabel : List Label → ℕ → Type 0
InNoLabel labels cell = Each (λ label. Covers label cell → ⊥) labels

module _ (labels : List Label) (last : ℕ) where
  -- a cell is free that is one from 1 to the last and lies in no label
  abbrev pub Free : ℕ → Type 0
  Free cell = (1 ≤ cell) × (cell ≤ last) × InNoLabel labels cell

  -- and so is each cell of a run
  abbrev pub FreeThroughout : FreeRun → Type 0
  FreeThroughout run = (cell : ℕ) → run.first ≤ cell → cell < run.first + run.length → Free cell

  -- the longest run of free cells; the lower first cell decides between equals; 0 and 0 if no cell is free
  -- (`Laws.longest_found`; no other run is one, `Laws.longest_determined`)
  pub record Longest (run : FreeRun) : Type 0 where
    pub free : FreeThroughout run
    pub longest : (other : FreeRun) → FreeThroughout other → other.length ≤ run.length
    pub lowest : (other : FreeRun) → FreeThroughout other → other.length ≡ run.length → run.first ≤ other.first
    pub none : ((run.first ≡ 0) × (run.length ≡ 0)) ↔ ((cell : ℕ) → Free cell → ⊥)
