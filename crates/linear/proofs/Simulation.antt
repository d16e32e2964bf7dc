-- The calls in order, taken by the sequential set one after another, against a set that changes from time to time.
use Prim.Native.Nat.{ℕ, zero, suc, ◌≤◌, ◌<◌}
use mathlib.Core.Path.{◌≡◌, refl, sym, ap, ap₂, ◌∙◌}
use mathlib.Core.Logic.{◌≢◌, ◌⊎◌, inl, inr, ⊎_elim}
use mathlib.Core.List.{List, [], ◌∷◌, Memᴰ, map}
use mathlib.Core.Bool.{Bool, true, false, cond, not}
use mathlib.Core.Option.{Option, none, some}
use native.Mathlib.Omega.{arith}
use native.Mathlib.Decide.{ℕ_discrete}
use lib.Dec.{eqb}
use Rattle.worker.specs.Worker.{add, remove, contains}
use Rattle.worker.specs.Report.{answer_number}
use Rattle.worker.specs.declared.report.Answer.TheVariants.{Yes, No, Full}
use Rattle.arena.specs.Lists.{Each, none as nothing, ◌and◌, Pairs, ◌ahead◌}
use Rattle.arena.specs.declared.chain.Label.{Label}
use Rattle.arena.specs.Sets.{is_none, Rising, member}
use Rattle.arena.proofs.ListLaws.{each_in, each_of}
use Rattle.linear.specs.History.{Call, is_late}
use Rattle.linear.specs.Order.{rank, Before}
use Rattle.linear.specs.Sequential.{response_to, fed, answers_to, labels_after}
use Rattle.linear.proofs.LabelLaws.{find, labelled, member_find, including_find, excluding_find, including_rises, excluding_rises}
use Rattle.linear.proofs.SequentialLaws.{add_absent, add_full, add_present, remove_present, remove_absent, contains_present, contains_absent}

-- a set, as the proof speaks of it: of each key the length of its label, or none
abbrev pub Lengths : Type 0
Lengths = ℕ → Option ℕ

-- what a call does, whole, between the sets of two times: of operation, key, length and answer
pub data Does (before after : Lengths) (operation key length answer : ℕ) : Type 0 where
  adds : operation ≡ add → answer ≡ answer_number Yes → is_none (before key) ≡ true →
      ((k : ℕ) → after k ≡ cond (eqb k key) (some length) (before k)) → Does before after operation key length answer
  adds_not : operation ≡ add → answer ≡ answer_number No → is_none (before key) ≡ false → ((k : ℕ) → after k ≡ before k) →
      Does before after operation key length answer
  is_full : operation ≡ add → answer ≡ answer_number Full → is_none (before key) ≡ true → ((k : ℕ) → after k ≡ before k) →
      Does before after operation key length answer
  removes : operation ≡ remove → answer ≡ answer_number Yes → is_none (before key) ≡ false →
      ((k : ℕ) → after k ≡ cond (eqb k key) none (before k)) → Does before after operation key length answer
  removes_not : operation ≡ remove → answer ≡ answer_number No → is_none (before key) ≡ true → ((k : ℕ) → after k ≡ before k) →
      Does before after operation key length answer
  finds : operation ≡ contains → answer ≡ answer_number Yes → is_none (before key) ≡ false → ((k : ℕ) → after k ≡ before k) →
      Does before after operation key length answer

-- what the point of a call is: the time of its own turn, or for a contains that answers no a time at which its key is absent
pub data Placed (set : ℕ → Lengths) (call : Call) : Type 0 where
  acting : (time : ℕ) → call.point ≡ suc time →
      Does (set time) (set (suc time)) call.operation call.key call.length call.answer → Placed set call
  late : call.operation ≡ contains → call.answer ≡ answer_number No → is_none (set call.point call.key) ≡ true → Placed set call

-- two calls whose own turns their points are have different points
abbrev pub Apart : Call → Call → Type 0
Apart a b = a.point ≡ b.point → (rank a ≡ 0) × (rank b ≡ 0) → ⊥

-- labels rise, and are those of a set
abbrev pub Holds : Lengths → List Label → Type 0
Holds set labels = Rising labels × ((key : ℕ) → find key labels ≡ set key)

-- so a key is there where the set has one
there : {set : Lengths} {labels : List Label} {none_there : Bool} → Holds set labels → (key : ℕ) → is_none (set key) ≡ none_there →
    member key labels ≡ not none_there
there {labels = labels} holds key is = member_find key labels ∙ ap (λ (found : Option ℕ). not (is_none found)) (holds.1 key) ∙ ap not is

-- the sequential set answers a call as it was answered, and then has the labels of a set
abbrev Answered : Lengths → List Label → ℕ → ℕ → ℕ → ℕ → Type 0
Answered after labels operation key length answer =
    let response = response_to labels operation (labelled key length) (eqb answer (answer_number Full)) in
    (response.answer ≡ answer) × Holds after response.labels

-- where a set stays as it is, labels are still its labels
kept : {before after : Lengths} {labels : List Label} → Holds before labels → ((k : ℕ) → after k ≡ before k) → Holds after labels
kept holds stays = (holds.0, λ k. holds.1 k ∙ sym (stays k))

module _ {before after : Lengths} {operation key length answer : ℕ} where
  -- what a call does, the sequential set does too
  does_answered : {labels : List Label} → Does before after operation key length answer → Holds before labels →
      Answered after labels operation key length answer
  does_answered {labels} (adds o a absent changes) holds =
      let new = there holds key absent in
      rw (o, a, add_absent labels (labelled key length) new) (
        refl,
        (
          including_rises (labelled key length) labels holds.0 new,
          λ k. including_find (labelled key length) labels k new ∙ rw (holds.1 k) (sym (changes k)),
        ),
      )
  does_answered {labels} (adds_not o a present stays) holds =
      rw (o, a, add_present labels (labelled key length) false (there holds key present)) (refl, kept holds stays)
  does_answered {labels} (is_full o a absent stays) holds = rw (o, a, add_full labels (labelled key length) (there holds key absent)) (refl, kept holds stays)
  does_answered {labels} (removes o a present changes) holds =
      rw (o, a, remove_present labels (labelled key length) false (there holds key present))
      (refl, (excluding_rises key labels holds.0, λ k. excluding_find key labels k ∙ rw (holds.1 k) (sym (changes k))))
  does_answered {labels} (removes_not o a absent stays) holds =
      rw (o, a, remove_absent labels (labelled key length) false (there holds key absent)) (refl, kept holds stays)
  does_answered {labels} (finds o a present stays) holds =
      rw (o, a, contains_present labels (labelled key length) false (there holds key present)) (refl, kept holds stays)

  -- and the call is not a contains that answers no
  pub does_early : Does before after operation key length answer → is_late operation answer ≡ false
  does_early (adds o a absent changes) = rw o
  does_early (adds_not o a present stays) = rw o
  does_early (is_full o a absent stays) = rw o
  does_early (removes o a present changes) = rw o
  does_early (removes_not o a absent stays) = rw o
  does_early (finds o a present stays) = rw (o, a)

  -- and there is an answer
  does_answer : Does before after operation key length answer → answer ≢ 0
  does_answer (adds o a absent changes) = omega arith
  does_answer (adds_not o a present stays) = omega arith
  does_answer (is_full o a absent stays) = omega arith
  does_answer (removes o a present changes) = omega arith
  does_answer (removes_not o a absent stays) = omega arith
  does_answer (finds o a present stays) = omega arith

-- a call that is placed has an answer
pub placed_answer : {set : ℕ → Lengths} {call : Call} → Placed set call → call.answer ≢ 0
placed_answer (acting time point does) = does_answer does
placed_answer (late asks denies absent) = omega arith

-- to a contains of a key that is absent the sequential set answers no
late_answered : {set : Lengths} {operation answer : ℕ} (key length : ℕ) {labels : List Label} → operation ≡ contains →
    answer ≡ answer_number No → is_none (set key) ≡ true → Holds set labels → Answered set labels operation key length answer
late_answered key length {labels} o a absent holds =
    rw (o, a, contains_absent labels (labelled key length) false (there holds key absent)) (refl, holds)

-- a call is yet to come at a time: its point is not before it, and not the time itself if it is that of the call's own turn
record Later (now : ℕ) (call : Call) : Type 0 where
  not_before : now ≤ call.point
  own_turn : rank call ≡ 0 → now < call.point

-- what is yet to come at a time is so at each earlier one
earlier : {now time : ℕ} {call : Call} → now ≤ time → Later time call → Later now call
earlier h later = record { not_before = omega arith; own_turn = λ r. omega (arith, later.own_turn r) }

-- where a call is yet to come, so are those that it is before
following : {now : ℕ} {a b : Call} → Later now a → Before a b → Later now b
following later (inl h) = record { not_before = omega arith; own_turn = λ r. omega arith }
following later (inr h) = record { not_before = omega arith; own_turn = λ r. omega (arith, later.own_turn (omega arith)) }

-- and at its point those are that are apart from it
following_apart : (a : Call) {b : Call} → Before a b → Apart a b → Later a.point b
following_apart a (inl h) apart = record { not_before = omega arith; own_turn = λ r. h }
following_apart a (inr h) apart = record { not_before = omega arith; own_turn = λ r. absurd (apart h.0 (omega arith, r)) }

-- the last time at which a call is yet to come: by the set of that time it is answered as it was, and it leaves the set of its point
record Turn (set : ℕ → Lengths) (call : Call) : Type 0 where
  time : ℕ
  comes : Later time call
  reached : {now : ℕ} → Later now call → now ≤ time
  answered : {labels : List Label} → Holds (set time) labels →
      Answered (set call.point) labels call.operation call.key call.length call.answer

-- this is the time before its own turn, and of a contains that answers no its point
turn_of : {set : ℕ → Lengths} {call : Call} → Placed set call → Turn set call
turn_of (acting time at does) =
    record {
      time = time;
      comes = record { not_before = omega arith; own_turn = λ r. omega arith };
      reached = λ later. omega (arith, later.own_turn (rw (does_early does)));
      answered = λ holds. rw at (does_answered does holds);
    }
turn_of {call} (late o a absent) =
    record {
      time = call.point;
      comes = record { not_before = omega arith; own_turn = λ r. omega (arith, rw (o, a) at r) };
      reached = λ later. later.not_before;
      answered = late_answered call.key call.length o a absent;
    }

module _ (set : ℕ → Lengths) (last : ℕ) where
  -- from a time on, the set changes only where a call of a list has its own turn
  abbrev Steady : ℕ → List Call → Type 0
  Steady now cs =
      (time : ℕ) → now ≤ time → time < last → Each (λ call. rank call ≡ 0 → call.point ≢ suc time) cs →
      (key : ℕ) → set (suc time) key ≡ set time key

  -- so it stays as it is up to a time at which they are all yet to come
  stays : (now time : ℕ) (cs : List Call) → Steady now cs → now ≤ time → time ≤ last → Each (Later time) cs →
      (key : ℕ) → set time key ≡ set now key
  stays now zero cs steady h l later key = let same : zero ≡ now = omega arith in ap (λ time. set time key) same
  stays now (suc time) cs steady h l later key =
      elim (ℕ_discrete (suc time) now) [
        | yes q ↦ ap (λ time. set time key) q
        | no q ↦
            steady time (omega arith) l (each_of cs (λ call m r. omega (arith, (each_in later m).own_turn r))) key
            ∙ stays now time cs steady (omega arith) (omega arith) (each_of cs (λ call m. earlier (omega arith) (each_in later m))) key
      ]

  -- so the first call of the list is answered as it was
  first_answered : {now : ℕ} {labels : List Label} {call : Call} {cs : List Call} → Holds (set now) labels → Steady now (call ∷ cs) →
      Later now call → Each (Before call) cs → Placed set call → call.point ≤ last →
      Answered (set call.point) labels call.operation call.key call.length call.answer
  first_answered {now} {call} {cs} holds steady later before place ends =
      let turn = turn_of place in
      let others : Each (Later turn.time) cs = each_of cs (λ other m. following turn.comes (each_in before m)) in
      turn.answered
      (kept holds
      (stays now turn.time (call ∷ cs) steady (turn.reached later) (omega (arith, turn.comes.not_before)) (turn.comes and others)))

  -- and so are all, from a time on
  all_answered : (now : ℕ) (labels : List Label) (cs : List Call) → now ≤ last → Holds (set now) labels → Steady now cs → Each (Later now) cs →
      Pairs (λ a b. Before a b × Apart a b) cs → Each (Placed set) cs → Each (λ call. call.point ≤ last) cs →
      (answers_to labels cs ≡ map (λ (call : Call). call.answer) cs) × Holds (set last) (labels_after labels cs)
  unfolding answers_to labels_after
  all_answered now labels [] h holds steady later pairs placed ended =
      (refl, kept holds (stays now last [] steady h (omega arith) nothing))
  all_answered now labels (call ∷ cs) h holds steady (comes and later) (before ahead pairs) (place and placed) (ends and ended) =
      let response = first_answered holds steady comes (each_of cs (λ other m. (each_in before m).0)) place ends in
      let others =
      all_answered call.point (fed labels call).labels cs ends response.1
      (λ time k l quiet. steady time (omega (arith, comes.not_before)) l ((λ r. omega arith) and quiet))
      (each_of cs (λ other m. let after = each_in before m in following_apart call after.0 after.1)) pairs placed ended in
      (ap₂ ◌∷◌ response.0 others.0, others.1)

-- the calls in order, taken by the sequential set one after another from the set of time 0 on, are answered as they were, and it ends with the
-- set of the last time
pub simulated : (set : ℕ → Lengths) (last : ℕ) (begins : List Label) (cs : List Call) →
    Holds (set 0) begins →
    Pairs (λ a b. Before a b × Apart a b) cs →
    Each (Placed set) cs →
    Each (λ call. call.point ≤ last) cs →
    ((time : ℕ) → time < last →
    ((key : ℕ) → set (suc time) key ≡ set time key)
    ⊎ ((call : Call) × Memᴰ call cs × (call.point ≡ suc time) × (rank call ≡ 0))) →
    (answers_to begins cs ≡ map (λ (call : Call). call.answer) cs) × Holds (set last) (labels_after begins cs)
simulated set last begins cs holds pairs placed ended changes =
    all_answered set last 0 begins cs (omega arith) holds
    (λ time h l quiet. ⊎_elim (λ same. same) (λ (call, m, at, own). absurd (each_in quiet m own at)) (changes time l))
    (each_of cs (λ call m. earlier (omega arith) (turn_of (each_in placed m)).comes)) pairs placed ended
