-- The open call of a worker: there is one while it is busy, and no second one.
use Prim.Native.Nat.{ℕ, suc, ◌≤◌, ◌<◌}
use mathlib.Core.Path.{◌≡◌, sym, subst, ◌∙◌}
use mathlib.Core.Logic.{◌≢◌}
use mathlib.Core.Bool.{false, true≢false}
use native.Mathlib.Omega.{arith}
use native.Mathlib.Decide.{dec_lt}
use Rattle.linear.proofs.Timeline.{Schedule, Begun, begun_at, state, entry, finishing}
use Rattle.linear.proofs.Phases.{Open, Phase, runs, closes, finished, phase_at}
use Rattle.linear.proofs.Openings.{Opened, opened}

module _ (r : Schedule) where
  module _ (origin : ℕ) (b : Begun r origin) where
    -- one that is open was so before, and goes on where the next entry does not finish it
    pub open_before : (now : ℕ) → suc origin ≤ now → Open r origin b (suc now) → Open r origin b now
    open_before now begun o = go (phase_at r origin b now begun)
      where
        go : Phase r origin b now → Open r origin b now
        go (runs before undecided none look) = before
        go (closes before decided time past it) = before
        go (finished time finish past earlier it done rest none) =
            absurd (true≢false (sym done ∙ o.unfinished (suc finish) (omega (arith, it.begun)) (omega arith)))

    pub open_next : (now : ℕ) → Open r origin b now → finishing r (entry r origin).worker (suc now) ≡ false → Open r origin b (suc now)
    open_next now o unfinished = go (phase_at r origin b (suc now) (omega (arith, o.begun)))
      where
        go : Phase r origin b (suc now) → Open r origin b (suc now)
        go (runs after undecided none look) = after
        go (closes after decided time past it) = after
        go (finished time finish past earlier it done rest none) =
            elim (dec_lt finish now) [
              | yes before ↦ absurd (true≢false (sym done ∙ o.unfinished (suc finish) (omega (arith, it.begun)) (omega arith)))
              | no later ↦
                  let is : finish ≡ now = omega arith in
                  absurd (true≢false (sym done ∙ subst (λ t. finishing r (entry r origin).worker (suc t) ≡ false) (sym is) unfinished))
            ]

  -- of two calls of one worker the earlier is finished when the later starts
  pub not_both : (now first second : ℕ) (b : Begun r first) (c : Begun r second) → (entry r first).worker ≡ (entry r second).worker →
      first < second → second ≤ now → Open r first b now → ⊥
  not_both now first second b c same before past o = go (phase_at r first b second before)
    where
      idle : ((state r second).worker (entry r first).worker).stage ≡ 0
      idle = subst (λ v. ((state r second).worker v).stage ≡ 0) (sym same) c.idle

      go : Phase r first b second → ⊥
      go (runs early undecided none look) = early.busy idle
      go (closes early decided time later it) = early.busy idle
      go (finished time finish later earlier it done rest none) =
          true≢false (sym done ∙ o.unfinished (suc finish) (omega (arith, it.begun)) (omega arith))

  pub only_open : (now first second : ℕ) (b : Begun r first) (c : Begun r second) → (entry r first).worker ≡ (entry r second).worker →
      Open r first b now → Open r second c now → first ≡ second
  only_open now first second b c same o p =
      elim (dec_lt first second) [
        | yes before ↦ absurd (not_both now first second b c same before (omega (arith, p.begun)) o)
        | no late ↦ elim (dec_lt second first) [
          | yes before ↦ absurd (not_both now second first c b (sym same) before (omega (arith, o.begun)) p)
          | no early ↦ omega arith
        ]
      ]

  -- the call that a busy worker is at
  pub record At (now v : ℕ) : Type 0 where
    pub origin : ℕ
    pub begun : Begun r origin
    pub own : (entry r origin).worker ≡ v
    pub is_open : Open r origin begun now

  pub open_at : (now v : ℕ) → ((state r now).worker v).stage ≢ 0 → At now v
  open_at now v busy = go (opened r now v busy)
    where
      go : Opened r now v → At now v
      go o = is (phase_at r o.time start now o.past)
        where
          start : Begun r o.time
          start = begun_at r o.time o.starting

          at : Open r o.time start now → At now v
          at is_open = record { origin = o.time; begun = start; own = o.own; is_open = is_open }

          is : Phase r o.time start now → At now v
          is (runs open_now undecided none look) = at open_now
          is (closes open_now decided time past it) = at open_now
          is (finished time finish past earlier it done rest none) =
              absurd
              (o.busy (suc finish) (omega (arith, it.begun)) (omega arith)
              (subst (λ w. ((state r (suc finish)).worker w).stage ≡ 0) o.own rest))
