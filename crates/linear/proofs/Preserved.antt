-- Every start and every turn keeps the invariant.
use Prim.Native.Nat.{ℕ, suc, ◌<◌}
use mathlib.Core.Path.{◌≡◌, refl}
use mathlib.Core.Logic.{◌⊎◌, inl, inr, ◌≢◌}
use mathlib.Core.Bool.{Bool, true, false, cond}
use native.Mathlib.Omega.{arith}
use lib.Dec.{eqb}
use borrow.Author.Tests.{eqb-false}
use Rattle.worker.specs.Worker.{add, remove, contains, within, is_key, carries, is_call, new_worker, started_worker}
use Rattle.worker.specs.Stages.{reports, stage_table, step_of}
use Rattle.worker.specs.Turn.{belongs}
use Rattle.std.specs.Prelude.{Option, Some, None}
use Rattle.worker.specs.declared.report.Report.TheVariants.{Idle}
use Rattle.worker.specs.declared.report.Step.{Step}
use Rattle.worker.proofs.Laws.{range_bounds, in_range, call_parts}
use Rattle.worker.proofs.Tables.{AllFrom, end, ◌then◌, row_at}
use Rattle.lazy.specs.Free.{roots_of, lowest_free}
use Rattle.lazy.specs.Turn.{seen_of}
use Rattle.linear.proofs.Reach.{same?}
use Rattle.linear.proofs.State.{State, stepped, start_step, seen_in, turn_step}
use Rattle.linear.proofs.Promises.{Live, promises, Standing}
use Rattle.linear.proofs.Invariant.{Inv}
use Rattle.linear.proofs.Effects.{far, Act, quiet}
use Rattle.linear.proofs.After.{Places, own_after, view_after, shape_after, stands_after}
use Rattle.linear.proofs.Stable.{standing_kept}
use Rattle.linear.proofs.Course.{Row}
use Rattle.linear.proofs.TurnKinds.{steps}
use Rattle.linear.proofs.SearchRows.{row_0, row_1, row_2, row_3, row_4, row_5, row_6, row_7, row_8, row_9, row_10, row_11, row_12, row_17, row_18, row_19, row_20, row_21}
use Rattle.linear.proofs.AnswerRows.{FreeFound, row_13, row_14, row_15, row_16, row_22, row_23, row_24, row_25}

module _ {nodes : ℕ} {s : State} (inv : Inv nodes s) (w : ℕ) where
  -- a step whose effect may be had, with the worker's own promise afterwards
  pub inv_after : {step : Step} → Act nodes s w step.effect → Places nodes s w step →
      Standing nodes (stepped s w step) w step.worker →
      Inv nodes (stepped s w step)
  inv_after {step} act placed standing =
      record {
        shape = shape_after inv w act placed;
        stands = stands_after inv w act placed;
        works = λ v. works v (same? v w);
      }
    where
      works : (v : ℕ) → (v ≡ w) ⊎ (v ≢ w) → Standing nodes (stepped s w step) v ((stepped s w step).worker v)
      works v (inl e) = rw (e, own_after inv w act placed) standing
      works v (inr d) = standing_kept (view_after inv w act placed) v d (inv.works v)

  pub row_inv : {step : Step} → Row nodes s w step → Inv nodes (stepped s w step)
  row_inv row = inv_after row.act row.placed row.standing

  -- what stands in the table at each stage
  abbrev Rows : ℕ → Step → Type 0
  Rows stage step = (s.worker w).stage ≡ stage → Row nodes s w step

  module _ (workers : ℕ)
      (found : (n : ℕ) → lowest_free s.next nodes (roots_of s.worker workers) ≡ Some n → (n < nodes) × (Live nodes s n → ⊥))
      (below : (s.worker w).stage < 26) where
    free_found : (some : Option ℕ) → lowest_free s.next nodes (roots_of s.worker workers) ≡ some → FreeFound inv w some
    free_found None e = tt
    free_found (Some n) e = found n e

    rows : AllFrom Rows 0 (stage_table (s.worker w) (suc w) (seen_in workers nodes s w))
    unfolding seen_of
    rows =
        row_0 inv w
        then row_1 inv w
        then row_2 inv w
        then row_3 inv w _ refl
        then row_4 inv w
        then row_5 inv w
        then row_6 inv w _ refl
        then row_7 inv w _ refl
        then row_8 inv w _ refl
        then row_9 inv w _ refl
        then row_10 inv w _ refl
        then row_11 inv w
        then row_12 inv w
        then row_13 inv w _ _ refl refl
        then row_14 inv w (seen_in workers nodes s w).free (free_found _ refl)
        then row_15 inv w
        then row_16 inv w
        then row_17 inv w
        then row_18 inv w
        then row_19 inv w
        then row_20 inv w
        then row_21 inv w
        then row_22 inv w
        then row_23 inv w _ _ refl refl
        then row_24 inv w
        then row_25 inv w _ refl
        then end

    pub turn_row : Row nodes s w (turn_step workers nodes s w)
    unfolding step_of
    turn_row =
        row_at Rows (s.worker w).stage (stage_table (s.worker w) (suc w) (seen_in workers nodes s w)) (reports (s.worker w) Idle) rows
        (λ m out at. absurd (omega arith)) refl

-- an operation of a call that is no contains is an update
update : (operation : ℕ) → within add contains operation ≡ true → operation ≢ contains → within add remove operation ≡ true
update operation e d =
    let bounds = range_bounds add contains operation e in in_range add remove operation bounds.0 (omega arith)

module _ {nodes : ℕ} {s : State} (inv : Inv nodes s) (w operation key length : ℕ) (idle : (s.worker w).stage ≡ 0)
    (call : is_call operation key length ≡ true) where
  known : (within add contains operation ≡ true) × (is_key key ≡ true) × (carries operation key length ≡ true)
  known = call_parts operation key length call

  pub start_act : Act nodes s w (start_step operation key length).effect
  start_act = quiet (omega arith)

  start_places : Places nodes s w (start_step operation key length)
  start_places = steps inv w _ _ (λ k f. f) (far inv.shape.cap) (far inv.shape.cap) (far inv.shape.cap)

  start_standing : Standing nodes (stepped s w (start_step operation key length)) w (started_worker operation key length)
  unfolding promises belongs
  start_standing = go (eqb operation contains) refl
    where
      go : (asks : Bool) → eqb operation contains ≡ asks →
          Standing nodes (stepped s w (start_step operation key length)) w (new_worker (cond asks 22 1) operation key length)
      go true e = record { promise = tt; sane_record = λ busy. rw (e, known.1) }
      go false e = record { promise = tt; sane_record = λ busy. rw (update operation known.0 (eqb-false operation 3 e), known.1) }

  pub start_inv : Inv nodes (stepped s w (start_step operation key length))
  start_inv = inv_after inv w start_act start_places start_standing
