-- The labels of an arena's set are those of the set of the state that it decodes to.
use Prim.Native.Nat.{ℕ, ◌<◌}
use mathlib.Core.Path.{◌≡◌, refl, ap, ◌∙◌}
use mathlib.Core.Logic.{◌≢◌, ◌↔◌}
use mathlib.Core.List.{List}
use mathlib.Core.Bool.{true}
use mathlib.Core.Option as option
use native.Mathlib.Decide.{ℕ_discrete}
use native.Mathlib.Omega.{arith}
use Rattle.worker.specs.Node.{head, tail}
use Rattle.words.specs.Layout.{nodes_of}
use Rattle.arena.specs.declared.chain.Label.{Label}
use Rattle.arena.specs.Sets.{member, node_in, ChainWhole, set_of, OnChain, top, link, InSet}
use Rattle.arena.proofs.SetLaws.{chain_below, chain_whole, set_rises, set_members}
use Rattle.linear.proofs.LabelLaws.{find, labelled, member_find, present_find, from_find, in_find}
use Rattle.linear.proofs.Reach.{Reach, here, one_more, along}
use Rattle.linear.proofs.State.{decode}
use Rattle.linear.proofs.Bridge.{Sound}
use Rattle.linear.proofs.Invariant.{In, Inv, live_chain, live_in}

-- a run of links leads from Head to every node of the chain
pub chain_run : {next : ℕ → ℕ} {count n : ℕ} → OnChain next count n → Reach next 0 n
chain_run (top some) = here refl
chain_run (link on more low) = one_more (chain_run on)

-- and it leads to no other, where links lead from nodes to nodes, and Tail to itself
pub run_chain : {next : ℕ → ℕ} {count n : ℕ} → head < count → ((m : ℕ) → m < count → next m < count) → next tail ≡ tail → Reach next 0 n →
    OnChain next count n
run_chain {next} {count} some inside loops r = along (OnChain next count) onward (top some) r
  where
    onward : (n : ℕ) → OnChain next count n → OnChain next count (next n)
    onward n on = elim (ℕ_discrete n tail) [ yes e ↦ rw (e, loops) (rw e at on) | no more ↦ link on more (inside n (chain_below on)) ]

module _ {workers nodes : ℕ} {arena : List ℕ} (sound : Sound workers nodes arena) (inv : Inv nodes (decode arena)) where
  -- there is a Head
  some : head < nodes_of arena
  some = omega (arith, inv.shape.room, sound.nodes_are)

  -- the chain is whole, since its keys rise to Tail
  pub whole : ChainWhole arena
  whole = chain_whole (node_in arena) (nodes_of arena) rises (λ n there. inv.shape.small n) some
    where
      rises : (n : ℕ) → OnChain (decode arena).next (nodes_of arena) n → n ≢ tail →
          ((decode arena).next n < nodes_of arena) × ((decode arena).key n < (decode arena).key ((decode arena).next n))
      rises n on more =
          let live = live_chain (chain_run on) in
          (rw sound.nodes_are (inv.shape.inside n (live_in inv.shape live)), inv.shape.rises n live more)

  -- the two ways to say that a label is in the set
  forth : {key length : ℕ} → InSet arena (labelled key length) → In (decode arena) key
  forth i =
      record {
        node = i.node;
        chain = chain_run i.on_chain;
        not_head = i.not_head;
        not_tail = i.not_tail;
        unmarked = i.unmarked;
        has_key = ap (λ (label : Label). label.key) i.has_label;
      }

  back : {key : ℕ} (i : In (decode arena) key) → InSet arena (labelled key ((decode arena).length i.node))
  back i =
      record {
        node = i.node;
        on_chain = run_chain some (rw sound.nodes_are inv.shape.inside) inv.shape.tail_next i.chain;
        not_head = i.not_head;
        not_tail = i.not_tail;
        unmarked = i.unmarked;
        has_label = λ j. labelled (i.has_key j) ((decode arena).length i.node);
      }

  -- so of a key in the set the length of its node is found
  pub found_in : {key : ℕ} (i : In (decode arena) key) → find key (set_of arena) ≡ option.some ((decode arena).length i.node)
  found_in i = in_find (set_rises arena) ((set_members arena whole _).1 (back i))

  -- and the set has the same keys either way
  pub set_in : (key : ℕ) → (member key (set_of arena) ≡ true) ↔ In (decode arena) key
  set_in key = (
    λ present. let it = present_find key (set_of arena) present in forth ((set_members arena whole _).0 (from_find key it.0 (set_of arena) it.1)),
    λ i. member_find key (set_of arena) ∙ rw (found_in i),
  )
