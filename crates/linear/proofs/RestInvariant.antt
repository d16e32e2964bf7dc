-- An arena that is sound and at rest decodes to a state with the invariant: nobody holds a node, so a live one is on the chain.
use Prim.Native.Nat.{ℕ, ◌<◌}
use mathlib.Core.Path.{◌≡◌, refl, sym, ap, ◌∙◌}
use mathlib.Core.Logic.{◌≢◌}
use mathlib.Core.List.{List, []}
use native.Mathlib.Omega.{arith}
use native.Mathlib.Decide.{dec_lt}
use Rattle.worker.specs.Node.{head, tail}
use Rattle.worker.specs.Worker.{idle_worker}
use Rattle.worker.specs.declared.Node.{Node}
use Rattle.words.specs.Layout.{workers_of, nodes_of}
use Rattle.words.specs.Header.{header_refusals}
use Rattle.words.proofs.Judged.{none_holds}
use Rattle.arena.specs.AtRest.{SoundAtRest}
use Rattle.arena.proofs.RestLaws.{no_node_in, rest_header, rest_small, rest_whole}
use Rattle.arena.proofs.SetLaws.{Walked, ended, passed, whole_walked}
use Rattle.linear.proofs.Reach.{Reach, here, join, one_more}
use Rattle.linear.proofs.State.{State, decode}
use Rattle.linear.proofs.Stepped.{known_record, no_record}
use Rattle.linear.proofs.Bridge.{Sound}
use Rattle.linear.proofs.Promises.{Root, head as at_head, tail as at_tail, held, Live, promises, Standing}
use Rattle.linear.proofs.Invariant.{chained, Inv}
use Rattle.linear.proofs.FreeNodes.{idle_holds}
use Rattle.linear.proofs.Members.{run_chain}

-- a walk ends at Tail
walk_to_tail : {count : ℕ} {key next : ℕ → ℕ} {last node from : ℕ} {nodes : List ℕ} → Walked count key next last node nodes →
    Reach next from node → Reach next from tail
walk_to_tail (ended e) run = rw (← e) run
walk_to_tail (passed more low above onward) run = walk_to_tail onward (one_more run)

module _ {arena : List ℕ} (rest : SoundAtRest arena) where
  pub rest_sound : Sound (workers_of arena) (nodes_of arena) arena
  rest_sound =
      record { none = none_holds (header_refusals arena) [] (sym rest.header); workers_are = refl; nodes_are = refl }

  abbrev s : State
  s = decode arena

  -- a node that there is not has no owner
  pub rest_unowned : (n : ℕ) → s.owner n ≡ 0
  rest_unowned n =
      elim (dec_lt n (nodes_of arena)) [
        | yes there ↦ rest.nodes.unowned n there
        | no gone ↦ ap (λ (node : Node). node.owner) (no_node_in arena (rest_header rest) n (omega arith))
      ]

  pub rest_idle : (v : ℕ) → s.worker v ≡ idle_worker
  rest_idle v =
      elim (dec_lt v (workers_of arena)) [
        | yes there ↦ known_record arena v there ∙ rest.workers v there
        | no gone ↦ no_record arena v (omega arith)
      ]

  -- the chain leads to Tail, so whatever is live is on it
  tail_chained : Reach s.next head tail
  tail_chained = walk_to_tail (whole_walked arena (rest_whole rest)) (one_more (here refl))

  live_chained : {n : ℕ} → Live (nodes_of arena) s n → Reach s.next head n
  live_chained live = join (roots live.root) live.run
    where
      roots : {m : ℕ} → Root (nodes_of arena) s m → Reach s.next head m
      roots (at_head e) = here (sym e)
      roots (at_tail e) = rw e tail_chained
      roots (held v h l) = absurd (omega (arith, idle_holds (rest_idle v) h, (rest_header rest).good))

  rises : (n : ℕ) → Live (nodes_of arena) s n → n ≢ tail → s.key n < s.key (s.next n)
  rises n live = rest.nodes.rises n (run_chain (omega (arith, (rest_header rest).good)) rest.nodes.inside rest.nodes.tail_next (live_chained live))

  -- nothing is known of an idle worker
  idle_stands : (v : ℕ) → Standing (nodes_of arena) s v (s.worker v)
  unfolding promises
  idle_stands v = rw (rest_idle v) (record { promise = tt; sane_record = λ busy. absurd (busy refl) })

  -- all together
  pub rest_inv : Inv (nodes_of arena) s
  rest_inv =
      record {
        shape = record {
          room = omega (arith, (rest_header rest).good);
          cap = omega (arith, (rest_header rest).good);
          head_key = rest.nodes.head_key;
          tail_key = rest.nodes.tail_key;
          tail_next = rest.nodes.tail_next;
          inside = rest.nodes.inside;
          small = rest_small rest;
          rises = rises;
        };
        stands = λ n live. chained (live_chained live);
        works = idle_stands;
      }
