-- A chain has at most N less 2 nodes, marked ones too: keys rise along it, so a node that was passed is not met again, nor is Head. It has
-- fewer where a node is not on it.
use Prim.Native.Nat.{ℕ, zero, suc, ◌+◌, ◌-◌, ◌≤◌, ◌<◌, min, zero-le}
use mathlib.Core.Path.{◌≡◌, sym, ap}
use mathlib.Core.Logic.{◌≢◌}
use mathlib.Core.List.{List, Memᴰ}
use mathlib.Core.Bool.{cond}
use native.Mathlib.Omega.{arith}
use native.Mathlib.Decide.{ℕ_discrete}
use lib.ListN.{length, length-map}
use lib.Dec.{eqb}
use borrow.Author.Tests.{eq-eqb, ne_eqb}
use Rattle.std.specs.List.{filter}
use Rattle.std.proofs.lemmas.List.Sums.{length-filter, count_by-le-length}
use Rattle.worker.specs.Node.{head}
use Rattle.worker.specs.declared.Node.{Node}
use Rattle.words.specs.Layout.{nodes_of}
use Rattle.arena.specs.Sets.{is_unmarked, chain_nodes, set_nodes, chain_labels, node_in, set_of, OnChain, top, link}
use Rattle.arena.specs.Snapshot.{chain_keys, keys_of}
use Rattle.arena.proofs.SetLaws.{Walked, ended, passed, walked_on, or_empty, chain_walked, key_of, next_of}

module _ (key : ℕ → ℕ) where
  -- how many of the first nodes behind Tail have a key above some key: 1 or 0 for each
  above : ℕ → ℕ → ℕ
  above last zero = 0
  above last (suc more) = min 1 (key (more + 2) - last) + above last more

  above_few : (last more : ℕ) → above last more ≤ more
  unfolding above
  above_few last zero = zero-le
  above_few last (suc more) = omega (arith, above_few last more)

  above_higher : (low high more : ℕ) → low ≤ high → above high more ≤ above low more
  unfolding above
  above_higher low high zero h = zero-le
  above_higher low high (suc more) h = omega (arith, above_higher low high more h)

  -- above a node's own key there is one less
  above_own : (last node more : ℕ) → 2 ≤ node → node < more + 2 → last < key node → above (key node) more < above last more
  unfolding above
  above_own last node zero from h k = absurd (omega arith)
  above_own last node (suc more) from h k =
      elim (ℕ_discrete node (more + 2)) [
        | yes q ↦ omega (arith, ap key q, above_higher last (key node) more (omega arith))
        | no q ↦ omega (arith, above_own last node more from (omega arith) k)
      ]

  -- a walk that begins no lower than at Head's key passes nodes behind Tail alone
  walked_few : {count : ℕ} {next : ℕ → ℕ} {last node : ℕ} {nodes : List ℕ} → key head ≤ last → Walked count key next last node nodes →
      length nodes ≤ above last (count - 2)
  walked_few low (ended e) = zero-le
  walked_few {count} low (passed {last} {node} off in_nodes rises onward) =
      let not_head : node ≢ head = λ q. omega (arith, ap key q) in
      omega (
        arith,
        above_own last node (count - 2) (omega arith) (omega arith) rises,
        walked_few (omega arith) onward,
      )

-- A walk that does not pass a node is one where that node's key is 0, so that it is above no key:
module _ (key : ℕ → ℕ) (off : ℕ) where
  without : ℕ → ℕ
  without n = cond (eqb n off) 0 (key n)

  walked_without : {count : ℕ} {next : ℕ → ℕ} {last node : ℕ} {nodes : List ℕ} → (Memᴰ off nodes → ⊥) → Walked count key next last node nodes →
      Walked count without next last node nodes
  unfolding without
  walked_without out (ended e) = ended e
  walked_without {count} {next} {last} out (passed {node} {nodes} h low rises onward) =
      let same : without node ≡ key node = rw (ne_eqb node off (λ q. out (Memᴰ.head (sym q)))) in
      passed h low (rw same rises) (rw same (walked_without (λ m. out (Memᴰ.tail m)) onward))

  above_without : (last more : ℕ) → 2 ≤ off → off < more + 2 → above without last more < more
  unfolding above without
  above_without last zero from to = absurd (omega arith)
  above_without last (suc more) from to =
      elim (ℕ_discrete (more + 2) off) [
        | yes q ↦ rw (eq-eqb (more + 2) off q) (omega (arith, above_few without last more))
        | no q ↦ omega (arith, above_without last more from (omega arith))
      ]

  walked_fewer : {count : ℕ} {next : ℕ → ℕ} {last node : ℕ} {nodes : List ℕ} → 2 ≤ off → off < count → key head ≤ last → (Memᴰ off nodes → ⊥) →
      Walked count key next last node nodes → length nodes < count - 2
  unfolding without
  walked_fewer {count} {last} from to low out walked =
      let head_low : without head ≤ last = rw (ne_eqb head off (omega arith)) low in
      omega (arith, walked_few without head_low (walked_without out walked), above_without last (count - 2) from (omega arith))

module _ (nodes : ℕ → Node) (count : ℕ) where
  nodes_few : length (chain_nodes nodes count) ≤ count - 2
  unfolding chain_nodes
  nodes_few =
      or_empty {Holds = λ found. length found ≤ count - 2} _ (λ broken. zero-le)
      (λ found e.
      omega (
        arith,
        walked_few (λ n. (nodes n).key) (omega arith) (chain_walked nodes count found e),
        above_few (λ n. (nodes n).key) (nodes head).key (count - 2),
      ))

  -- so the nodes of a set are few, and their keys
  pub set_few : length (set_nodes nodes count) ≤ count - 2
  unfolding set_nodes
  set_few = omega (arith, nodes_few, length-filter (is_unmarked nodes) (chain_nodes nodes count), count_by-le-length (is_unmarked nodes) (chain_nodes nodes count))

  pub chain_few : length (chain_keys nodes count) ≤ count - 2
  unfolding chain_keys chain_labels
  chain_few = rw (length-map, length-map) set_few

-- and the set of an arena with a node that is not on the chain has fewer labels
pub set_fewer : (arena : List ℕ) (off : ℕ) → 2 ≤ off → off < nodes_of arena → (OnChain (next_of arena) (nodes_of arena) off → ⊥) →
    length (set_of arena) < nodes_of arena - 2
unfolding set_of chain_labels set_nodes chain_nodes
set_fewer arena off from to out =
    let unmarked = is_unmarked (node_in arena) in
    rw length-map
    (or_empty {Holds = λ found. length (filter unmarked found) < nodes_of arena - 2} _ (λ broken. omega arith)
    (λ found e.
    let walked = chain_walked (node_in arena) (nodes_of arena) found e in
    omega (
      arith,
      length-filter unmarked found,
      count_by-le-length unmarked found,
      walked_fewer (key_of arena) off from to (omega arith) (λ m. out (walked_on (λ low. link (top (omega arith)) (λ q. omega arith) low) walked m).0) walked,
    )))

-- so has an arena's set
pub keys_few : (arena : List ℕ) → length (keys_of arena) ≤ nodes_of arena - 2
unfolding keys_of set_of chain_keys
keys_few arena = chain_few (node_in arena) (nodes_of arena)
