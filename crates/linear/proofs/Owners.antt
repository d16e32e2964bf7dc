-- At each time the owner word of a node is 0 or the number + 1 of a worker that has its lock.
use Prim.Native.Nat.{ℕ, zero, suc}
use mathlib.Core.Path.{◌≡◌, refl, sym, ap, subst, ◌∙◌}
use mathlib.Core.Logic.{◌⊎◌, inl, inr, ◌≢◌}
use borrow.Author.Tests.{eq-eqb, ne_eqb}
use Rattle.worker.specs.Worker.{started_worker}
use Rattle.worker.specs.declared.Worker.{Worker}
use Rattle.worker.specs.declared.report.Report.TheVariants.{Idle}
use Rattle.worker.specs.declared.report.Step.{Step}
use Rattle.linear.specs.History.{arena_at}
use Rattle.linear.proofs.Reach.{same?}
use Rattle.linear.proofs.State.{State, decode, stepped}
use Rattle.linear.proofs.Invariant.{Inv}
use Rattle.linear.proofs.Bridge.{Entered, refuses, starts, turns}
use Rattle.linear.proofs.RestInvariant.{rest_unowned}
use Rattle.linear.proofs.Timeline.{Schedule, arena, state, entry, entered_at, always}
use Rattle.linear.proofs.Locks.{Locks, Lock, unowned, taken, stays, without, turn_locks}

-- the worker that a node's owner word names has its lock
pub record Owned (s : State) (node : ℕ) : Type 0 where
  pub worker : ℕ
  pub named : s.owner node ≡ suc worker
  pub has : Locks (s.worker worker) node

-- a node is owned by nobody, or so
abbrev pub Owners : State → Type 0
Owners s = (node : ℕ) → s.owner node ≢ 0 → Owned s node

-- a step that makes of every lock what it may
owners_after : {nodes : ℕ} {s : State} (inv : Inv nodes s) (me : ℕ) {step : Step} → ((node : ℕ) → Lock inv me step node) → Owners s →
    Owners (stepped s me step)
owners_after {s = s} inv me {step} locks owners node some = go (locks node)
  where
    others : (v : ℕ) → v ≢ me → (stepped s me step).worker v ≡ s.worker v
    others v d = rw (ne_eqb v me d)

    own : (stepped s me step).worker me ≡ step.worker
    own = rw (eq-eqb me me refl)

    go : Lock inv me step node → Owned (stepped s me step) node
    go (unowned none) = absurd (some none)
    go (taken mine has) = record { worker = me; named = mine; has = subst (λ (r : Worker). Locks r node) (sym own) has }
    go (stays same kept) = by (owners node (λ none. some (same ∙ none)))
      where
        by : Owned s node → Owned (stepped s me step) node
        by o = at (same? o.worker me)
          where
            at : (o.worker ≡ me) ⊎ (o.worker ≢ me) → Owned (stepped s me step) node
            at (inl e) =
                record {
                  worker = me;
                  named = same ∙ o.named ∙ ap suc e;
                  has =
                      subst (λ (r : Worker). Locks r node) (sym own)
                      (kept (subst (λ v. Locks (s.worker v) node) e o.has));
                }
            at (inr d) =
                record {
                  worker = o.worker;
                  named = same ∙ o.named;
                  has = subst (λ (r : Worker). Locks r node) (sym (others o.worker d)) o.has;
                }

module _ (r : Schedule) where
  owners_next : (time : ℕ) → Owners (state r time) → Entered r.workers r.nodes (arena r time) (entry r time) →
      Owners (state r (suc time))
  unfolding arena_at
  owners_next time owners (refuses number event same known) = subst (λ words. Owners (decode words)) (sym same) owners
  owners_next time owners (starts event turning known idle call next) =
      let w = (entry r time).worker in
      subst Owners (sym next)
      (owners_after (always r time) w (without (always r time) w refl refl (started_worker (entry r time).act (entry r time).key (entry r time).length) Idle refl idle).locks owners)
  owners_next time owners (turns event turning known next) =
      let w = (entry r time).worker in
      subst Owners (sym next) (owners_after (always r time) w (turn_locks (always r time) w r.workers).locks owners)

  -- so it is at every time
  pub owners_at : (time : ℕ) → Owners (state r time)
  unfolding arena_at
  owners_at zero = λ node some. absurd (some (rest_unowned r.rest node))
  owners_at (suc time) = owners_next time (owners_at time) (entered_at r time (entry r time) (always r time))
