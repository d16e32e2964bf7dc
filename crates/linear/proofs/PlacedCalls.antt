-- What holds of each call of a list, and that those with a point are placed, and in order, and no two act at one time.
use Prim.Native.Nat.{ℕ, zero, suc, ◌+◌, ◌≤◌, ◌<◌}
use mathlib.Core.Path.{◌≡◌, sym, subst, ◌∙◌}
use mathlib.Core.Logic.{◌≢◌}
use mathlib.Core.List.Memᴰ
use mathlib.Core.List.{Memᴰ}
use mathlib.Core.Bool.{true, true≢false}
use native.Mathlib.Omega.{arith}
use Rattle.std.specs.List.{filter}
use Rattle.arena.specs.Lists.{Pairs}
use Rattle.arena.proofs.ListLaws.{from_filter, each_of, pairs_filter, pairs_weaken}
use Rattle.linear.specs.History.{Call, calls}
use Rattle.linear.specs.Order.{has_point, rank, in_order, Before}
use Rattle.linear.proofs.TimeLaws.{from_times, pairs_mapped}
use Rattle.linear.proofs.OrderLaws.{from_sorted, sorted_pairs}
use Rattle.linear.proofs.Simulation.{Placed, Apart}
use Rattle.linear.proofs.Timeline.{Begun, begun_at, label, Schedule, last, run_starts_at, run_call_at, calls_of, in_order_of}
use Rattle.linear.proofs.Points.{Fate, fate}
use Rattle.linear.proofs.Calls.{Told, open_yet, pointed, told, own_points}

module _ (r : Schedule) where
  -- a call of the list is the one that some accepted start starts
  call_of : {call : Call} → Memᴰ call (calls_of r) →
      (time : ℕ) × (run_starts_at r (suc time) ≡ true) × (suc time ≤ last r) × (call ≡ run_call_at r (suc time))
  unfolding calls
  call_of m =
      let mapped = Memᴰ.of_map (run_call_at r) _ m in
      let passed = from_filter (run_starts_at r) mapped.1 in
      let placed = from_times 1 (last r) passed.0 in
      later mapped.0 placed.0 placed.1 passed.1 (sym mapped.2)
    where
      later : {call : Call} (t : ℕ) → 1 ≤ t → t < 1 + (last r) → run_starts_at r t ≡ true → call ≡ run_call_at r t →
          (time : ℕ) × (run_starts_at r (suc time) ≡ true) × (suc time ≤ last r) × (call ≡ run_call_at r (suc time))
      later zero low high starting same = absurd (omega arith)
      later (suc time) low high starting same = (time, starting, omega arith, same)

  -- so it has what follows from what becomes of it
  pub each_call : (P : Call → Type 0) → ((time : ℕ) (b : Begun r time) → Fate r time b → P (run_call_at r (suc time))) →
      {call : Call} → Memᴰ call (calls_of r) → P call
  each_call P holds m =
      let (time, starting, upto, same) = call_of m in
      let b = begun_at r time starting in
      subst P (sym same) (holds time b (fate r time b upto))

  pub told_of : {call : Call} → Memᴰ call (calls_of r) → Told r call
  told_of = each_call (Told r) (told r)

  -- of the calls in order: each is one of the calls and has a point
  of_order : {call : Call} → Memᴰ call (in_order_of r) → Memᴰ call (calls_of r) × (has_point call ≡ true)
  unfolding in_order
  of_order m = from_filter has_point (from_sorted m)

  has_point_lem : (call : Call) → has_point call ≡ true → call.point ≢ 0
  has_point_lem call e none = true≢false (sym e ∙ rw none)

  -- and it is placed rightly, in time
  pub placed_of : {call : Call} → Memᴰ call (in_order_of r) → Placed (label r) call × (call.point ≤ last r)
  placed_of {call} m = go (told_of (of_order m).0) (has_point_lem call (of_order m).1)
    where
      go : Told r call → call.point ≢ 0 → Placed (label r) call × (call.point ≤ last r)
      go (open_yet point finish none) some = absurd (some point)
      go (pointed point low high later placed) some = (placed, high)

  -- two calls that act at one time have no point at all
  abbrev Differ : Call → Call → Type 0
  Differ a b = a.point ≡ b.point → (rank a ≡ 0) × (rank b ≡ 0) → a.point ≡ 0

  differ_sym : (a b : Call) → Differ a b → Differ b a
  differ_sym a b differ same ranks = same ∙ differ (sym same) (ranks.1, ranks.0)

  differing : (s t : ℕ) → 1 ≤ s → s < t → t < 1 + (last r) → run_starts_at r s ≡ true → run_starts_at r t ≡ true →
      Differ (run_call_at r s) (run_call_at r t)
  differing zero t low before high p q = absurd (omega arith)
  differing (suc s) zero low before high p q = absurd (omega arith)
  differing (suc s) (suc t) low before high p q =
      let b = begun_at r s p in
      let c = begun_at r t q in
      own_points r s t b c (omega arith) (fate r s b (omega arith)) (fate r t c (omega arith))

  -- so the calls in order are in order, and no two act at one time
  pub ordered : Pairs (λ a b. Before a b × Apart a b) (in_order_of r)
  unfolding in_order calls
  ordered =
      pairs_weaken (λ a b p q related. (related.0, λ same ranks. has_point_lem a p (related.1 same ranks)))
      (each_of (in_order_of r) (λ call m. (of_order m).1))
      (sorted_pairs differ_sym (filter has_point (calls_of r))
      (pairs_filter has_point (pairs_mapped (run_call_at r) (run_starts_at r) Differ 1 (last r) differing)))
