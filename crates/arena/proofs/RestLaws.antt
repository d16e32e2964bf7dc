-- Laws of an arena that is sound and at rest.
use Prim.Native.Nat.{ℕ, ◌*◌, ◌≤◌, ◌<◌}
use mathlib.Core.Path.{◌≡◌, sym}
use mathlib.Core.List.{List, []}
use mathlib.Core.Bool.{false}
use native.Mathlib.Omega.{arith}
use native.Mathlib.Decide.{dec_lt}
use native.Mathlib.Nat.{mul-le-mul_left}
use Rattle.worker.specs.Node.{head, unused_node}
use Rattle.worker.specs.declared.Node.{Node}
use Rattle.words.specs.Layout.{nodes_of, node_width, node_part}
use Rattle.words.specs.Records.{node_at}
use Rattle.words.specs.Header.{header_refusals}
use Rattle.words.proofs.HeaderLaws.{Header, header_of, part_long}
use Rattle.words.proofs.Judged.{none_holds}
use Rattle.words.proofs.RecordLaws.{no_node_there}
use Rattle.arena.specs.AtRest.{NodesAtRest, SoundAtRest}
use Rattle.arena.specs.Sets.{is_none, chain, node_in, ChainWhole}
use Rattle.arena.proofs.SetLaws.{chain_below, chain_whole}

-- in an arena with its header in order a node that there is not is read as zeros
pub no_node_in : (arena : List ℕ) → Header arena → (node : ℕ) → nodes_of arena ≤ node → node_in arena node ≡ unused_node
unfolding node_at
no_node_in arena header node gone =
    no_node_there (node_part arena) (node_width * node) (rw (part_long arena header) (mul-le-mul_left node_width gone))

-- the chain of nodes that are sound and at rest is whole
pub nodes_whole : {nodes : ℕ → Node} {count : ℕ} → NodesAtRest nodes count → head < count → is_none (chain nodes count) ≡ false
nodes_whole {nodes} {count} rest =
    chain_whole nodes count (λ node on more. (rest.inside node (chain_below on), rest.rises node on more)) rest.small

module _ {arena : List ℕ} (rest : SoundAtRest arena) where
  pub rest_header : Header arena
  rest_header = header_of arena (none_holds (header_refusals arena) [] (sym rest.header))

  -- so every key that is read is a word
  pub rest_small : (node : ℕ) → (node_in arena node).key ≤ 65535
  rest_small node =
      elim (dec_lt node (nodes_of arena)) [
        | yes there ↦ rest.nodes.small node there
        | no gone ↦ rw (no_node_in arena rest_header node (omega arith)) (omega arith)
      ]

  -- and the chain is whole
  pub rest_whole : ChainWhole arena
  rest_whole = nodes_whole rest.nodes (omega (arith, rest_header.good))
