-- Whenever every worker is idle the arena is sound and at rest again: then nobody has a lock, and the rest holds at every time.
use Prim.Native.Nat.{ℕ}
use mathlib.Core.Path.{◌≡◌, ap, ◌∙◌}
use mathlib.Core.List.{[]}
use native.Mathlib.Omega.{arith}
use native.Mathlib.Decide.{ℕ_discrete, dec_lt}
use Rattle.worker.specs.declared.Worker.{Worker}
use Rattle.worker.proofs.RefusalLaws.{none_accepts}
use Rattle.words.specs.Replies.{accepted, refusing}
use Rattle.words.specs.Header.{header_refusals}
use Rattle.arena.specs.AtRest.{SoundAtRest}
use Rattle.linear.specs.Works.{AllIdle, AtRestAgain}
use Rattle.linear.proofs.Bridge.{Sound}
use Rattle.linear.proofs.Invariant.{Nodes, live_chain}
use Rattle.linear.proofs.Members.{chain_run}
use Rattle.linear.proofs.Timeline.{Schedule, arena, state, sound, always, own_worker, idle_past}
use Rattle.linear.proofs.Rests.{all_rest}
use Rattle.linear.proofs.Locks.{has_busy}
use Rattle.linear.proofs.Owners.{owners_at}
use Rattle.linear.proofs.Counting.{counted}

module _ (r : Schedule) (time : ℕ) (all : AllIdle (arena r time)) where
  abbrev here : Sound r.workers r.nodes (arena r time)
  here = sound r time

  abbrev shape : Nodes r.nodes (state r time)
  shape = (always r time).shape

  idle_then : (v : ℕ) → ((state r time).worker v).stage ≡ 0
  idle_then v =
      elim (dec_lt v r.workers) [
        | yes known ↦ ap (λ (w : Worker). w.stage) (own_worker r time v known) ∙ all v (omega (arith, here.workers_are))
        | no past ↦ ap (λ (w : Worker). w.stage) (idle_past r time v (omega arith))
      ]

  unowned_then : (n : ℕ) → (state r time).owner n ≡ 0
  unowned_then n =
      elim (ℕ_discrete ((state r time).owner n) 0) [
        | yes none ↦ none
        | no some ↦ let owner = owners_at r time n some in absurd (has_busy owner.has (idle_then owner.worker))
      ]

  at_rest : SoundAtRest (arena r time)
  at_rest =
      record {
        header = none_accepts (header_refusals (arena r time)) refusing (accepted []) here.none;
        nodes = record {
          head_key = shape.head_key;
          tail_key = shape.tail_key;
          tail_next = shape.tail_next;
          inside = rw here.nodes_are shape.inside;
          small = λ n there. shape.small n;
          unowned = λ n there. unowned_then n;
          rises = λ n on. shape.rises n (live_chain (chain_run on));
        };
        workers = λ v known. all_rest r time v known (all v known);
        counted = counted r time;
      }

pub at_rest_again : (r : Schedule) → AtRestAgain r.initial r.entries
at_rest_again = at_rest
