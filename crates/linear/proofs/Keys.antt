-- The set at each time, and how an entry changes it.
use Prim.Native.Nat.{ℕ, suc}
use mathlib.Core.Path.{◌≡◌, refl, sym, ap, subst, ◌∙◌}
use mathlib.Core.Logic.{◌⊎◌, inl, inr, ⊎_elim}
use mathlib.Core.Bool.{Bool, true, false, cond, not, ◌&&◌, ◌||◌}
use mathlib.Core.Option.{none, some}
use mathlib.Mathlib.Data.Bool.Basic.{dichotomy}
use native.Mathlib.Omega.{arith}
use lib.Dec.{eqb}
use borrow.Author.Tests.{eqb-true, eqb-false}
use Rattle.worker.specs.declared.report.Step.{Step}
use Rattle.arena.specs.Sets.{is_none, set_of}
use Rattle.linear.proofs.LabelLaws.{member_find, absent_find}
use Rattle.linear.proofs.State.{State, decode, stepped, start_step}
use Rattle.linear.proofs.Promises.{Live}
use Rattle.linear.proofs.Invariant.{In, Ahead, Inv}
use Rattle.linear.proofs.Effects.{Act, quiet}
use Rattle.linear.proofs.Members.{found_in, set_in}
use Rattle.linear.proofs.Changes.{Keeps, Adds, Takes, keeps_set, adds_key, takes_key, length_kept, length_added, ahead_after}
use Rattle.linear.proofs.Timeline.{has, label, Happens, nothing, start, turn, sound, always, happens, Schedule, arena, state, entry}

-- two tests that hold together are the same
same_test : (a b : Bool) → (a ≡ true → b ≡ true) → (b ≡ true → a ≡ true) → a ≡ b
same_test true true f g = refl
same_test true false f g = sym (f refl)
same_test false true f g = g refl
same_test false false f g = refl

module _ (r : Schedule) where
  -- the test and the relation
  pub present_in : (time key : ℕ) → has r time key ≡ true → In (state r time) key
  present_in time key = (set_in (sound r time) (always r time) key).0

  pub in_present : (time key : ℕ) → In (state r time) key → has r time key ≡ true
  in_present time key = (set_in (sound r time) (always r time) key).1

  pub absent_of : (time key : ℕ) → (In (state r time) key → ⊥) → has r time key ≡ false
  absent_of time key out =
      ⊎_elim (λ absent. absent) (λ present. absurd (out (present_in time key present))) (dichotomy (has r time key))

  -- of a key in the set the length of its node is found, and of no other
  found_at : (time key : ℕ) (i : In (state r time) key) → label r time key ≡ some ((state r time).length i.node)
  found_at time key i = found_in (sound r time) (always r time) i

  pub not_found : (time key : ℕ) → has r time key ≡ false → label r time key ≡ none
  not_found time key absent = absent_find key (set_of (arena r time)) absent

  -- membership, by what is found
  pub none_found : (time key : ℕ) {present : Bool} → has r time key ≡ present → is_none (label r time key) ≡ not present
  none_found time key e =
      sym (not_not (is_none (label r time key))) ∙ ap not (sym (member_find key (set_of (arena r time))) ∙ e)
    where
      not_not : (t : Bool) → not (not t) ≡ t
      not_not true = refl
      not_not false = refl

  module _ (time : ℕ) (w : ℕ) (step : Step) (act : Act r.nodes (state r time) w step.effect)
      (next : state r (suc time) ≡ stepped (state r time) w step) where
    -- in the state after the step, and at the next time
    in_next : (key : ℕ) → In (stepped (state r time) w step) key → has r (suc time) key ≡ true
    in_next key i = in_present (suc time) key (subst (λ s. In s key) (sym next) i)

    next_in : (key : ℕ) → has r (suc time) key ≡ true → In (stepped (state r time) w step) key
    next_in key e = subst (λ s. In s key) next (present_in (suc time) key e)

    abbrev inv : Inv r.nodes (state r time)
    inv = always r time

    -- the set is kept, gains the worker's key, or loses it
    pub has_kept : Keeps act → (key : ℕ) → has r (suc time) key ≡ has r time key
    has_kept keeps key =
        let both = keeps_set inv w step act keeps in
        same_test _ _ (λ e. in_present time key (both.1 key (next_in key e))) (λ e. in_next key (both.0 key (present_in time key e)))

    pub has_added : Adds act → (has r time ((state r time).worker w).key ≡ false)
        × ((key : ℕ) → has r (suc time) key
        ≡ (eqb key ((state r time).worker w).key || has r time key))
    has_added adds = (absent_of time own (adds_key inv w step act adds).0, λ key. by key (eqb key own) refl)
      where
        own : ℕ
        own = ((state r time).worker w).key

        by : (key : ℕ) (is : Bool) → eqb key own ≡ is →
            has r (suc time) key ≡ (is || has r time key)
        by key true e =
            in_next key (subst (In (stepped (state r time) w step)) (sym (eqb-true key own e)) (adds_key inv w step act adds).1)
        by key false e =
            same_test _ _
            (λ h.
            ⊎_elim (λ i. in_present time key i) (λ same. absurd (eqb-false key own e same))
            ((adds_key inv w step act adds).3 key (next_in key h)))
            (λ h. in_next key ((adds_key inv w step act adds).2 key (present_in time key h)))

    pub has_taken : Takes act → (has r time ((state r time).worker w).key ≡ true)
        × ((key : ℕ) → has r (suc time) key
        ≡ (not (eqb key ((state r time).worker w).key) && has r time key))
    has_taken takes = (in_present time own (takes_key inv w step act takes).0, λ key. by key (eqb key own) refl)
      where
        own : ℕ
        own = ((state r time).worker w).key

        by : (key : ℕ) (is : Bool) → eqb key own ≡ is →
            has r (suc time) key ≡ (not is && has r time key)
        by key true e =
            absent_of (suc time) key (λ i. ((takes_key inv w step act takes).2 key (subst (λ s. In s key) next i)).1 (eqb-true key own e))
        by key false e =
            same_test _ _ (λ h. in_present time key ((takes_key inv w step act takes).2 key (next_in key h)).0)
            (λ h. in_next key ((takes_key inv w step act takes).1 key (eqb-false key own e) (present_in time key h)))

    -- of a key that is in the state after the step its length there is found
    found_next : (key : ℕ) (j : In (stepped (state r time) w step) key) →
        label r (suc time) key ≡ some ((stepped (state r time) w step).length j.node)
    found_next key =
        subst (λ (s : State). (j : In s key) → label r (suc time) key ≡ some (s.length j.node)) next (found_at (suc time) key)

    -- a key that stays in the set, or out of it, stays with its length
    label_same : (key : ℕ) → has r (suc time) key ≡ has r time key → label r (suc time) key ≡ label r time key
    label_same key same = go (has r time key) refl
      where
        go : (present : Bool) → has r time key ≡ present → label r (suc time) key ≡ label r time key
        go true e =
            let i = present_in time key e in
            let j = next_in key (same ∙ e) in
            found_next key j ∙ ap some (length_kept inv w step act i j) ∙ sym (found_at time key i)
        go false e = not_found (suc time) key (same ∙ e) ∙ sym (not_found time key e)

    -- so the labels are kept, gain the worker's, or lose it
    pub label_kept : Keeps act → (key : ℕ) → label r (suc time) key ≡ label r time key
    label_kept keeps key = label_same key (has_kept keeps key)

    pub label_added : Adds act → (key : ℕ) → label r (suc time) key
        ≡ cond (eqb key ((state r time).worker w).key) (some ((state r time).worker w).length) (label r time key)
    label_added adds key = by (eqb key own) refl
      where
        own : ℕ
        own = ((state r time).worker w).key

        by : (is : Bool) → eqb key own ≡ is →
            label r (suc time) key ≡ cond is (some ((state r time).worker w).length) (label r time key)
        by true e =
            let j = (adds_key inv w step act adds).1 in
            ap (label r (suc time)) (eqb-true key own e) ∙ found_next own j ∙ ap some (length_added inv w step act adds j)
        by false e = label_same key ((has_added adds).1 key ∙ rw e)

    pub label_taken : Takes act → (key : ℕ) → label r (suc time) key ≡ cond (eqb key ((state r time).worker w).key) none (label r time key)
    label_taken takes key = by (eqb key own) refl
      where
        own : ℕ
        own = ((state r time).worker w).key

        by : (is : Bool) → eqb key own ≡ is → label r (suc time) key ≡ cond is none (label r time key)
        by true e = not_found (suc time) key ((has_taken takes).1 key ∙ rw e)
        by false e = label_same key ((has_taken takes).1 key ∙ rw e)

    ahead_kept : {from key : ℕ} → Live r.nodes (state r time) from → Ahead (state r time) from key →
        Ahead (state r (suc time)) from key ⊎ (has r (suc time) key ≡ false)
    ahead_kept {from} {key} live ahead =
        ⊎_elim (λ a. inl (subst (λ s. Ahead s from key) (sym next) a))
        (λ out. inr (absent_of (suc time) key (λ i. out (subst (λ s. In s key) next i)))) (ahead_after inv w step act live ahead)

  -- a start keeps the set
  module _ (time w operation key length : ℕ) (idle : ((state r time).worker w).stage ≡ 0)
      (next : state r (suc time) ≡ stepped (state r time) w (start_step operation key length)) where
    pub has_started : (other : ℕ) → has r (suc time) other ≡ has r time other
    has_started = has_kept time w (start_step operation key length) (quiet (omega arith)) next tt

    pub label_started : (other : ℕ) → label r (suc time) other ≡ label r time other
    label_started = label_kept time w (start_step operation key length) (quiet (omega arith)) next tt

  -- whatever happens, what is ahead of a live node stays ahead, or the key is absent then
  pub ahead_on : (time : ℕ) {from key : ℕ} → Live r.nodes (state r time) from →
      Ahead (state r time) from key →
      Ahead (state r (suc time)) from key ⊎ (has r (suc time) key ≡ false)
  ahead_on time {from} {key} live ahead = go (happens r time)
    where
      go : Happens r time →
          Ahead (state r (suc time)) from key ⊎ (has r (suc time) key ≡ false)
      go (nothing unstarted unreported unfinished same) = inl (subst (λ arena. Ahead (decode arena) from key) (sym same) ahead)
      go (start event idle call known next) =
          ahead_kept time (entry r time).worker
          (start_step (entry r time).act (entry r time).key (entry r time).length) (quiet (omega arith)) next live ahead
      go (turn step event row idle next) = ahead_kept time (entry r time).worker step row.act next live ahead
