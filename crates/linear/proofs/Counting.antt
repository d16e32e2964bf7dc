-- The count is the size of the set at every time, so no turn would take it past its ends.
use Prim.Native.Nat.{ℕ, zero, suc, ◌-◌}
use mathlib.Core.Path.{◌≡◌, refl, sym, ap, ◌∙◌}
use mathlib.Core.Logic.{◌≢◌}
use mathlib.Core.List.{List, [], ◌∷◌}
use mathlib.Core.Bool.{false}
use native.Mathlib.Omega.{arith}
use lib.ListN.{length}
use borrow.Author.Tests.{ne_eqb}
use Rattle.worker.specs.Stages.{grown}
use Rattle.worker.specs.declared.Worker.{Worker}
use Rattle.worker.specs.declared.report.Growth.{Growth}
use Rattle.worker.specs.declared.report.Growth.TheVariants.{Stays}
use Rattle.worker.proofs.RefusalLaws.{none_accepts}
use Rattle.words.specs.Layout.{nodes_of, stored_of}
use Rattle.words.specs.Replies.{accepted, refusing}
use Rattle.words.specs.Header.{header_refusals}
use Rattle.arena.specs.Sets.{set_of, OnChain}
use Rattle.arena.specs.Stored.{stored_answer}
use Rattle.arena.specs.declared.chain.Label.{Label}
use Rattle.arena.proofs.SetLaws.{set_rises}
use Rattle.arena.proofs.ShortChains.{set_fewer}
use Rattle.linear.specs.Sequential.{including, excluding}
use Rattle.linear.specs.History.{arena_at}
use Rattle.linear.specs.Linearizable.{ExactCounts}
use Rattle.linear.proofs.LabelLaws.{labelled, rising_same, including_find, including_rises, including_length, excluding_find, excluding_rises, excluding_length, member_some}
use Rattle.linear.proofs.Reach.{Reach, here, along}
use Rattle.linear.proofs.State.{State}
use Rattle.linear.proofs.Bridge.{miscounting}
use Rattle.linear.proofs.Promises.{Live, Private}
use Rattle.linear.proofs.Invariant.{Inv, live_chain, live_next}
use Rattle.linear.proofs.Changes.{Adds, Takes, linking, takes_key}
use Rattle.linear.proofs.Course.{Grows, as_kept, as_added, as_taken, Row}
use Rattle.linear.proofs.Members.{chain_run}
use Rattle.linear.proofs.Timeline.{label, Happens, nothing, start, turn, sound, always, happens, row_of, step_at, Schedule, arena, state, entry}
use Rattle.linear.proofs.Keys.{in_present, has_added, has_taken, label_kept, label_added, label_taken, label_started}

module _ (r : Schedule) where
  abbrev set_at : ℕ → List Label
  set_at time = set_of (arena r time)

  abbrev size : ℕ → ℕ
  size time = length (set_at time)

  -- what an entry does to the count it does to the size of the set
  record Grown (time : ℕ) : Type 0 where
    growth : Growth
    stored : (state r (suc time)).stored ≡ grown growth (state r time).stored
    sizes : size (suc time) ≡ grown growth (size time)

  -- the set stays where all that is found in it does
  set_kept : (time : ℕ) → ((key : ℕ) → label r (suc time) key ≡ label r time key) → size (suc time) ≡ size time
  set_kept time same = ap length (rising_same _ _ (set_rises (arena r (suc time))) (set_rises (arena r time)) same)

  grown_at : (time : ℕ) → Grown time
  grown_at time = go (happens r time)
    where
      go : Happens r time → Grown time
      go (nothing unstarted unreported unfinished same) =
          record {
            growth = Stays;
            stored = ap stored_of same;
            sizes = ap (λ words. length (set_of words)) same;
          }
      go (start event idle call known next) =
          record {
            growth = Stays;
            stored = ap (λ (s : State). s.stored) next;
            sizes = set_kept time (label_started r time (entry r time).worker (entry r time).act (entry r time).key (entry r time).length idle next);
          }
      go (turn step event row rest next) =
          record {
            growth = step.growth;
            stored = ap (λ (s : State). s.stored) next;
            sizes = sized row.grows;
          }
        where
          w : ℕ
          w = (entry r time).worker

          own : ℕ
          own = ((state r time).worker w).key

          sized : Grows row.act step.growth → size (suc time) ≡ grown step.growth (size time)
          sized (as_kept keeps e) = rw e (set_kept time (label_kept r time w step row.act next keeps))
          sized (as_added adds e) =
              let new = labelled own ((state r time).worker w).length in
              let absent = (has_added r time w step row.act next adds).0 in
              rw e
              (ap length (rising_same (set_at (suc time)) (including new (set_at time)) (set_rises (arena r (suc time)))
              (including_rises new (set_at time) (set_rises (arena r time)) absent)
              (λ key. label_added r time w step row.act next adds key ∙ sym (including_find new (set_at time) key absent)))
              ∙ including_length new (set_at time))
          sized (as_taken takes e) =
              let there = (has_taken r time w step row.act next takes).0 in
              let less = ap length (rising_same (set_at (suc time)) (excluding own (set_at time)) (set_rises (arena r (suc time)))
              (excluding_rises own (set_at time) (set_rises (arena r time)))
              (λ key. label_taken r time w step row.act next takes key ∙ sym (excluding_find own (set_at time) key))) in
              rw e (omega (arith, less, excluding_length own (set_at time) (set_rises (arena r time)) there))

  -- so at every time the count is the size
  pub counted : (time : ℕ) → (state r time).stored ≡ size time
  unfolding arena_at
  counted zero = r.rest.counted
  counted (suc time) = let by = grown_at time in by.stored ∙ ap (grown by.growth) (counted time) ∙ sym by.sizes

  -- so no turn would take it past its ends: where a key is added there is a new node that is not on the chain, and where one is taken it is there
  pub counts_true : (time w : ℕ) → miscounting r.workers r.nodes (state r time) w ≡ false
  counts_true time w = go row.grows
    where
      inv : Inv r.nodes (state r time)
      inv = always r time

      row : Row r.nodes (state r time) w (step_at r time w)
      row = row_of r time w inv

      own : Worker
      own = (state r time).worker w

      room_left : Adds row.act → size time ≢ r.nodes - 2
      room_left adds =
          let new = (linking row.act adds).0 in
          let off : OnChain (state r time).next (nodes_of (arena r time)) own.spare → ⊥ = λ on. apart new.alone (chain_run on) refl in
          omega (
            arith,
            (sound r time).nodes_are,
            set_fewer (arena r time) own.spare (omega (arith, new.alone.not_head, new.alone.not_tail))
                (omega (arith, (sound r time).nodes_are, new.spare_in)) off,
          )
        where
          apart : Private r.nodes (state r time) w own.spare → {n : ℕ} → Reach (state r time).next 0 n → n ≢ own.spare
          apart private run =
              (along (λ n. Live r.nodes (state r time) n × (n ≢ own.spare))
              (λ n both. (live_next both.0, private.unlinked n both.0))
              (live_chain (here refl), λ e. private.not_head (sym e)) run).1

      some_stored : Takes row.act → size time ≢ 0
      some_stored takes = member_some own.key (set_at time) (in_present r time own.key (takes_key inv w (step_at r time w) row.act takes).0)

      go : Grows row.act (step_at r time w).growth → miscounting r.workers r.nodes (state r time) w ≡ false
      go (as_kept keeps e) = rw e
      go (as_added adds e) = rw (e, counted time) (ne_eqb (size time) (r.nodes - 2) (room_left adds))
      go (as_taken takes e) = rw (e, counted time) (ne_eqb (size time) 0 (some_stored takes))

  -- and what the header says is the size of the set, and is answered
  pub counts_exact : ExactCounts r.initial r.entries
  unfolding stored_answer
  counts_exact time =
      let now = arena r time in (
        counted time,
        none_accepts (header_refusals now) refusing (accepted (stored_of now ∷ [])) (sound r time).none
            ∙ ap (λ stored. accepted (stored ∷ [])) (counted time),
      )
