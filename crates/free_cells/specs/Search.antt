-- One pass over labels whose keys rise.
use Rattle.std.specs.Prelude.{ℕ, ◌+◌, ◌-◌, min, max, List, cond, ltb, eqb}
use Rattle.std.specs.List.{fold}
use Rattle.arena.specs.declared.chain.Label.{Label}
use Rattle.free_cells.specs.declared.FreeRun.{FreeRun}
use Rattle.free_cells.specs.declared.search.Search.{Search}

-- before any label no cell from 1 on is covered, and no run is found
abbrev pub begun : ℕ → Search
begun end = record { end = end; from = 1; longest = record { first = 0; length = 0 } }

-- the longest run so far, or that from behind the covered cells up to before a cell, where it is longer
unfoldable pub longer : Search → ℕ → FreeRun
longer search to =
    cond (ltb search.longest.length (to - search.from))
    (record { first = search.from; length = to - search.from })
    search.longest

-- a label ends the run before it, which goes up to before its key, or before the end
abbrev pub ended_by : Search → Label → Search
ended_by search label =
    record search {
      from = max search.from (label.key + label.length);
      longest = longer search (min label.key search.end);
    }

-- but one of length 0 covers nothing, and ends no run
unfoldable pub met : Search → Label → Search
met search label = cond (eqb label.length 0) search (ended_by search label)

-- no more labels come
abbrev pub found_by : Search → FreeRun
found_by search = longer search search.end

-- the longest run of free cells, where the end is behind the last one (`Laws.longest_found`)
unfoldable pub longest_free : List Label → ℕ → FreeRun
longest_free labels last = found_by (fold met (begun (last + 1)) labels)
