-- The answer is the longest run of the cells from 1 to the last that lie in no label of the set.
use Prim.Native.Nat.{ℕ, ◌+◌, ◌-◌, ◌≤◌, ◌<◌}
use mathlib.Core.Path.{◌≡◌, refl, sym, ◌∙◌}
use mathlib.Core.Logic.{⊎_elim}
use mathlib.Core.Bool.{true}
use mathlib.Core.List.{List}
use native.Mathlib.Omega.{arith}
use Rattle.std.proofs.lemmas.Bool.{cases_lt}
use Rattle.worker.specs.Worker.{within}
use Rattle.worker.proofs.RefusalLaws.{NoneHolds, judged_append, none_accepts}
use Rattle.words.specs.Layout.{nodes_of}
use Rattle.words.specs.Replies.{accepted, refusing}
use Rattle.words.specs.Header.{header_refusals}
use Rattle.words.proofs.Judged.{given_values}
use Rattle.arena.specs.declared.chain.Label.{Label}
use Rattle.arena.specs.Sets.{node_in, Rising, ChainWhole, set_of}
use Rattle.arena.specs.Snapshot.{chain_broken}
use Rattle.arena.proofs.SetLaws.{set_rises}
use Rattle.free_cells.specs.declared.FreeRun.{FreeRun}
use Rattle.free_cells.specs.FreeCells.{Free, FreeThroughout, Longest}
use Rattle.free_cells.specs.Search.{begun, longest_free}
use Rattle.free_cells.specs.LongestFreeRun.{run_values, cells_refusals, longest_free_run_refusals, longest_free_run_answer}
use Rattle.free_cells.proofs.Found.{Found, Searching, all_found}

-- a search begins with no run found, below cell 1
begins : (labels : List Label) (last : ℕ) → Searching (Free labels last) labels (begun (last + 1))
begins labels last =
    record {
      found =
          record {
            free = λ cell low high. absurd (omega arith);
            ends = omega arith;
            most = λ first length some all within. let zeroth = all 0 (omega arith) (omega arith) in absurd (omega (arith, zeroth.0));
            none = λ same. refl;
          };
      some = omega arith;
      stop = λ f. omega (arith, f.0);
      within = λ cell f. omega (arith, f.1);
      free = λ cell above low out. (above, omega arith, out);
      out = λ cell above f. f.2;
    }

same_run : (a b : FreeRun) → a.first ≡ b.first → a.length ≡ b.length → a ≡ b
same_run a b first length =
    let same : ◌≡◌ {A = FreeRun} (record { first = a.first; length = a.length }) (record { first = b.first; length = b.length }) = rw (first, length) in
    same

module _ (labels : List Label) (last : ℕ) where
  module _ (rising : Rising labels) where
    abbrev found : FreeRun
    found = longest_free labels last

    -- what a search has found at its end
    searched : (end : ℕ) × ((cell : ℕ) → Free labels last cell → cell < end) × Found (Free labels last) end found
    unfolding longest_free
    searched = all_found (Free labels last) labels (begun (last + 1)) rising (begins labels last)

    -- a free run ends by the last cell, so it is among those that the search compares
    compared : (other : FreeRun) → FreeThroughout labels last other → 1 ≤ other.length →
        (other.length ≤ found.length) × (other.length ≡ found.length → found.first ≤ other.first)
    compared other free some =
        let end = searched.1 (other.first + other.length - 1) (free _ (omega arith) (omega arith)) in
        searched.2.most other.first other.length some free (omega arith)

    -- one pass over labels whose keys rise finds the longest run
    pub longest_found : Longest labels last found
    longest_found =
        record {
          free = searched.2.free;
          longest = λ other free. ⊎_elim (λ some. (compared other free some).0) (λ empty. omega arith) (cases_lt 0 other.length);
          lowest = λ other free same.
              ⊎_elim (λ some. (compared other free some).1 same) (λ empty. omega (arith, searched.2.none (omega arith)))
              (cases_lt 0 other.length);
          none = (
            λ zeros cell free.
                let one : FreeRun = record { first = cell; length = 1 } in
                let alone : FreeThroughout labels last one = λ c from to. let same : c ≡ cell = omega arith in rw same free in
                omega (arith, zeros.1, (compared one alone (omega arith)).0),
            λ taken.
                ⊎_elim (λ some. absurd (taken found.first (searched.2.free found.first (omega arith) (omega arith))))
                (λ empty. (searched.2.none (omega arith), omega arith))
                (cases_lt 0 found.length),
          );
        }

  -- and there is only one
  pub longest_determined : (a b : FreeRun) → Longest labels last a → Longest labels last b → a ≡ b
  longest_determined a b one other =
      let length : a.length ≡ b.length = omega (arith, one.longest b other.free, other.longest a one.free) in
      let first : a.first ≡ b.first = omega (arith, one.lowest b other.free (sym length), other.lowest a one.free length) in
      same_run a b first length

module _ (arena : List ℕ) (last : ℕ) where
  -- so an accepted answer is the longest run of the arena's set, whatever the words are
  pub answer_longest : (run : FreeRun) → accepted (run_values run) ≡ longest_free_run_answer arena last → Longest (set_of arena) last run
  unfolding longest_free_run_answer
  answer_longest run told =
      let found = longest_free (set_of arena) last in
      let given : run_values run ≡ run_values found = given_values (longest_free_run_refusals arena last) _ told in
      let first : run.first ≡ found.first = cc in
      let length : run.length ≡ found.length = cc in
      rw (same_run run found first length) (longest_found (set_of arena) last (set_rises arena))

  -- and it is accepted wherever the header is in order, the last cell is one, and the chain is whole
  pub accepted_there : NoneHolds (header_refusals arena) → within 1 65534 last ≡ true → ChainWhole arena →
      longest_free_run_answer arena last ≡ accepted (run_values (longest_free (set_of arena) last))
  unfolding longest_free_run_answer longest_free_run_refusals cells_refusals chain_broken
  accepted_there header is_cell whole =
      let cells = cells_refusals (node_in arena) (nodes_of arena) last in
      judged_append (header_refusals arena) cells refusing _
      ∙ none_accepts (header_refusals arena) refusing _ header
      ∙ none_accepts cells refusing _ (rw is_cell, (whole, tt))
