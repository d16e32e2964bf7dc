-- The walk from a root: what holds at each link, and what the row holds at its end.
use Prim.Native.Nat.{ℕ, ◌<◌, ◌≤◌}
use mathlib.Core.Path.{◌≡◌, refl, sym, ap, ◌∙◌}
use mathlib.Core.Logic.{◌⊎◌, inl, inr, ⊎_elim}
use mathlib.Core.List.{List, [], ◌∷◌}
use mathlib.Core.Bool.{Bool, true, false, ◌||◌, or-false}
use mathlib.Mathlib.Data.Bool.Basic.{dichotomy, or_inl, or_inr}
use native.Mathlib.Omega.{arith}
use lib.ListN.{length, set, length-set}
use Rattle.lazy.specs.Free.{Run, here, on, leads, reached}
use Rattle.lazy.specs.Row.{holds, Closed, Reaches}
use Rattle.lazy.proofs.Rows.{more_held, held_or_more}
use Rattle.lazy.proofs.FreeLaws.{run_leads, leads_run}

-- two tests are equal where each follows from the other
same_test : (a b : Bool) → (a ≡ true → b ≡ true) → (b ≡ true → a ≡ true) → a ≡ b
same_test true b f g = sym (f refl)
same_test false true f g = g refl
same_test false false f g = refl

module _ {next : ℕ → ℕ} {count : ℕ} where
  one_more : {root node : ℕ} → Run next count root node → next node < count → Run next count root (next node)
  one_more (here k) h = on k (here h)
  one_more (on k run) h = on k (one_more run h)

  -- a closed row that holds a root holds what a run from it leads to
  run_held : {row : List Bool} {root node : ℕ} → Closed next count row → (root < count → holds row root ≡ true) →
      Run next count root node → holds row node ≡ true
  run_held closed start (here k) = start k
  run_held {root} closed start (on k run) = run_held closed (closed.follows root k (start k)) run

-- A walk from a root, now at a node: the row holds what it held before and nodes that the root leads to. It holds the root, and
-- with each node the one that follows it; only the node that the walk is at may still be missing.
pub record Walking (next : ℕ → ℕ) (count root : ℕ) (before row : List Bool) (at : ℕ) : Type 0 where
  pub long : length row ≡ length before
  pub room : count ≤ length row
  pub run : at < count → Run next count root at
  pub kept : (node : ℕ) → holds before node ≡ true → holds row node ≡ true
  pub sound : (node : ℕ) → node < count → holds row node ≡ true → (holds before node ≡ true) ⊎ Run next count root node
  pub follows : (node : ℕ) → node < count → holds row node ≡ true → next node < count →
      (holds row (next node) ≡ true) ⊎ (next node ≡ at)
  pub started : (holds row root ≡ true) ⊎ (root ≡ at)

module _ {next : ℕ → ℕ} {count root : ℕ} {before : List Bool} where
  pub begin : Closed next count before → Walking next count root before before root
  begin closed =
      record {
        long = refl;
        room = closed.room;
        run = here;
        kept = λ node e. e;
        sound = λ node h e. inl e;
        follows = λ node h e k. inl (closed.follows node h e k);
        started = inr refl;
      }

  pub step : {row : List Bool} {at : ℕ} → Walking next count root before row at → at < count →
      Walking next count root before (set row at true) (next at)
  step {row} {at} w h =
      let room : at < length row = let fits = w.room in omega arith in
      record {
        long = length-set row at true ∙ w.long;
        room = rw length-set w.room;
        run = one_more (w.run h);
        kept = λ node e. more_held row at node room (inl (w.kept node e));
        sound = λ node k e. ⊎_elim (w.sound node k) (λ q. inr (rw q (w.run h))) (held_or_more row at node e);
        follows = λ node k e l.
            ⊎_elim (λ old. inl (more_held row at (next node) room (w.follows node k old l))) (λ q. inr (ap next q))
            (held_or_more row at node e);
        started = inl (more_held row at root room w.started);
      }

  pub finish : {row : List Bool} {at : ℕ} → Walking next count root before row at → (at < count → holds row at ≡ true) →
      Reaches next count (root ∷ []) before row
  unfolding reached
  finish {row} {at} w stop =
      let held : (node : ℕ) → node < count → (holds row node ≡ true) ⊎ (node ≡ at) → holds row node ≡ true = λ node h o.
      ⊎_elim (λ e. e) (λ q. rw q (stop (rw (← q) h))) o in
      let closed : Closed next count row =
      record { room = w.room; follows = λ node h e k. held (next node) k (w.follows node h e k) } in
      record {
        closed = closed;
        exact = λ node h. rw or-false
            (same_test (holds row node) (holds before node || leads next count count root node)
            (λ e. ⊎_elim (λ old. or_inl (holds before node) _ old)
            (λ run. or_inr (holds before node) _ (run_leads next count run)) (w.sound node h e))
            (λ e. ⊎_elim
            (λ new. run_held closed (λ k. held root k w.started) (leads_run next count count root node h (rw new at e)))
            (λ old. w.kept node old) (dichotomy (holds before node))));
      }
