-- The whole search: walks one after the other, and the lowest node that they left out.
use Prim.Native.Nat.{ℕ, zero, suc, ◌<◌, ◌≤◌}
use mathlib.Core.Path.{◌≡◌, refl, ap, ◌∙◌}
use mathlib.Core.List.{List, [], ◌∷◌, ◌++◌}
use mathlib.Core.Bool.{Bool, ◌||◌, or_assoc, or_comm}
use native.Mathlib.Omega.{arith}
use lib.ListN.{length, length-replicate}
use Rattle.lazy.specs.Free.{nodes_below, reached, lowest_from, lowest_free, not_free}
use Rattle.lazy.specs.Row.{holds, held, empty_row, Closed, Reaches}
use Rattle.lazy.proofs.Passing.{passing_same}
use Rattle.lazy.proofs.Lowest.{lowest_same}
use Rattle.lazy.proofs.Rows.{holds_none}

-- an empty row is closed, and holds no node
pub empty_closed : {next : ℕ → ℕ} {count : ℕ} (room : ℕ) → count ≤ room → Closed next count (empty_row room)
empty_closed room h =
    record {
      room = rw length-replicate h;
      follows = λ node k e l. let z : ◌≡◌ {A = ℕ} 0 1 = cc (holds_none room node) in absurd (omega arith);
    }

pub empty_held : (count room : ℕ) → held count (empty_row room) ≡ 0
unfolding nodes_below
empty_held zero room = refl
empty_held (suc count) room = rw (holds_none room count, empty_held count room)

reached_both : (next : ℕ → ℕ) (count : ℕ) (first second : List ℕ) (node : ℕ) →
    reached next count (first ++ second) node ≡ (reached next count first node || reached next count second node)
unfolding reached
reached_both next count [] second node = refl
reached_both next count (root ∷ first) second node = rw (reached_both next count first second node, or_assoc)

module _ {next : ℕ → ℕ} {count : ℕ} where
  -- walks from some roots, and then from others
  pub both : {first second : List ℕ} {a b c : List Bool} → Reaches next count first a b → Reaches next count second b c →
      Reaches next count (first ++ second) a c
  both {first} {second} x y =
      record {
        closed = y.closed;
        exact = λ node h. rw (reached_both next count first second node, ← or_assoc, ← x.exact node h) (y.exact node h);
      }

  -- the order of the roots does not matter
  pub swapped : (first second : List ℕ) {a b : List Bool} → Reaches next count (first ++ second) a b →
      Reaches next count (second ++ first) a b
  swapped first second x =
      record {
        closed = x.closed;
        exact = λ node h.
            x.exact node h
            ∙ rw (
              reached_both next count first second node,
              reached_both next count second first node,
              or_comm (reached next count first node),
            );
      }

-- after the walks from all roots the row tells what the search comes to
pub tells : {next : ℕ → ℕ} {count : ℕ} (room : ℕ) {roots : List ℕ} {row : List Bool} → Reaches next count roots (empty_row room) row →
    (lowest_from (holds row) count 0 ≡ lowest_free next count roots) × (held count row ≡ length (not_free next count roots))
unfolding lowest_free not_free
tells {next} {count} room {roots} {row} walked = (
  lowest_same (holds row) (reached next count roots) count 0 (λ node h. told node (omega arith)),
  ap length (passing_same (holds row) (reached next count roots) count told),
)
  where
    told : (node : ℕ) → node < count → holds row node ≡ reached next count roots node
    told node h = rw (holds_none room node) at (walked.exact node h)
