-- Reached is what some run of links leads to, of any length; the lowest free node is free, and no lower one is; and those counted are the
-- nodes that are not free.
use Prim.Native.Nat.{ℕ, zero, suc, ◌<◌}
use mathlib.Core.Path.{◌≡◌, refl, sym, ◌∙◌}
use mathlib.Core.Logic.{◌↔◌, ⊎_elim}
use mathlib.Core.List.{List, [], ◌∷◌, Memᴰ}
use mathlib.Core.Bool.{true, false, true≢false}
use mathlib.Mathlib.Data.Bool.Basic.{dichotomy, or_inl, or_inr, and_elim_left, and_elim_right}
use native.Mathlib.Omega.{arith}
use native.Mathlib.Nat.{le_refl}
use native.Mathlib.Decide.{ℕ_discrete}
use lib.ListN.{replicate, length-replicate}
use lib.Dec.{ltb}
use borrow.Author.Tests.{eqb-true, ne_eqb, ltb-true}
use Rattle.std.specs.Prelude.{Some, None}
use Rattle.words.specs.Layout.{nodes_of}
use Rattle.arena.specs.Lists.{Pairs}
use Rattle.arena.proofs.ListLaws.{in_filter, from_filter, pairs_filter}
use Rattle.lazy.specs.Free.{Run, here, on, Reached, IsFree, leads, reached, lowest_free, not_free}
use Rattle.lazy.specs.FindFree.{next_in, roots_in, found_in}
use Rattle.lazy.specs.Claims.{NotFree}
use Rattle.lazy.proofs.Passing.{in_below, from_below, below_falls}
use Rattle.lazy.proofs.Lowest.{found_from, none_from}
use Rattle.lazy.proofs.ShortRuns.{avoids_none, avoids_leads}

module _ (next : ℕ → ℕ) (count : ℕ) where
  -- what a run of any length leads to, a run of at most N links leads to
  pub run_leads : {root node : ℕ} → Run next count root node → leads next count count root node ≡ true
  run_leads run =
      avoids_leads next count count (replicate count false) (rw length-replicate (le_refl count)) (omega arith)
      (avoids_none next count count run)

  -- where the test says so of a node, there is a run
  pub leads_run : (links root node : ℕ) → node < count → leads next count links root node ≡ true → Run next count root node
  unfolding leads
  leads_run zero root node h e = rw (eqb-true root node e) (here h)
  leads_run (suc links) root node h e =
      elim (ℕ_discrete root node) [
        | yes q ↦ rw q (here h)
        | no q ↦
            let onward = rw (ne_eqb root node q) at e in
            on (ltb-true root count (and_elim_left (ltb root count) _ onward))
            (leads_run links (next root) node h (and_elim_right (ltb root count) _ onward))
      ]

  -- and some run leads to the node from a root
  reached_run : (roots : List ℕ) (node : ℕ) → node < count → reached next count roots node ≡ true → Reached next count roots node
  unfolding reached
  reached_run [] node h e = let z : ◌≡◌ {A = ℕ} 0 1 = cc in absurd (omega arith)
  reached_run (root ∷ roots) node h e =
      ⊎_elim
      (λ other. let later = reached_run roots node h (rw other at e) in (later.0, Memᴰ.tail later.1, later.2))
      (λ first. (root, Memᴰ.head refl, leads_run count root node h first))
      (dichotomy (leads next count count root node))

  run_reached : {root : ℕ} {roots : List ℕ} {node : ℕ} → Memᴰ root roots → Run next count root node → reached next count roots node ≡ true
  unfolding reached
  run_reached {node} (Memᴰ.head {x} same) run = or_inl (leads next count count x node) _ (rw same at (run_leads run))
  run_reached {node} (Memᴰ.tail {x} later) run = or_inr (leads next count count x node) _ (run_reached later run)

  -- the test is document 01's: a run of any length
  pub reached_exact : (roots : List ℕ) (node : ℕ) → node < count → (reached next count roots node ≡ true) ↔ Reached next count roots node
  reached_exact roots node h = (reached_run roots node h, λ some. run_reached some.1 some.2)

  -- so a node that passes it is not free, and one that does not is
  not_free_lem : (roots : List ℕ) (node : ℕ) → reached next count roots node ≡ true → IsFree next count roots node → ⊥
  not_free_lem roots node e free = free.unreached (reached_run roots node free.below e)

  is_free : (roots : List ℕ) (node : ℕ) → node < count → reached next count roots node ≡ false → IsFree next count roots node
  is_free roots node h e =
      record { below = h; unreached = λ some. true≢false (sym (run_reached some.1 some.2) ∙ e) }

  -- and a node that is not free is reached
  pub not_free_reached : (roots : List ℕ) (node : ℕ) → node < count → (IsFree next count roots node → ⊥) → Reached next count roots node
  not_free_reached roots node h taken =
      ⊎_elim (λ unreached. absurd (taken (is_free roots node h unreached))) (reached_run roots node h)
      (dichotomy (reached next count roots node))

  module _ (roots : List ℕ) where
    -- the lowest free node is free, and no lower one is
    pub lowest_found : {node : ℕ} → lowest_free next count roots ≡ Some node →
        IsFree next count roots node × ((lower : ℕ) → lower < node → IsFree next count roots lower → ⊥)
    unfolding lowest_free
    lowest_found {node} e =
        let found = found_from (reached next count roots) count 0 e in
        (is_free roots node (omega arith) found.2, λ lower h. not_free_lem roots lower (found.3 lower (omega arith) h))

    -- where there is none, no node is free
    pub lowest_none : lowest_free next count roots ≡ None → (node : ℕ) → IsFree next count roots node → ⊥
    unfolding lowest_free
    lowest_none e node free = not_free_lem roots node (none_from (reached next count roots) count 0 e node (omega arith) (omega (arith, free.below))) free

    -- those counted are the nodes that are not free
    pub not_free_exact : (node : ℕ) → Memᴰ node (not_free next count roots) ↔ ((node < count) × (IsFree next count roots node → ⊥))
    unfolding not_free
    not_free_exact node = (
      λ counted.
          let both = from_filter (reached next count roots) counted in (from_below count both.0, not_free_lem roots node both.1),
      λ taken.
          let some = not_free_reached roots node taken.0 taken.1 in
          in_filter (reached next count roots) (in_below count taken.0) (run_reached some.1 some.2),
    )

    -- each once
    pub not_free_once : Pairs (λ a b. b < a) (not_free next count roots)
    unfolding not_free
    not_free_once = pairs_filter (reached next count roots) (below_falls count)

-- on an arena
pub reads_not_free : (arena : List ℕ) → NotFree arena (found_in arena).reads
reads_not_free arena =
    record {
      nodes = not_free (next_in arena) (nodes_of arena) (roots_in arena);
      once = not_free_once (next_in arena) (nodes_of arena) (roots_in arena);
      exact = not_free_exact (next_in arena) (nodes_of arena) (roots_in arena);
      counted = refl;
    }
