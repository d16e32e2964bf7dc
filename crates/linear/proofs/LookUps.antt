-- A contains that alone is given turns goes along the chain and answers by it: no node changes meanwhile.
use Prim.Native.Nat.{ℕ, zero, suc, ◌+◌, ◌≤◌, ◌<◌}
use mathlib.Core.Path.{◌≡◌, refl, sym, ap, subst, ◌∙◌}
use mathlib.Core.Logic.{inl, inr, ◌≢◌}
use mathlib.Core.List.{List}
use mathlib.Core.Bool.{Bool, true, false}
use native.Mathlib.Omega.{arith}
use lib.Dec.{ltb, eqb}
use borrow.Author.Tests.{eq-eqb, eqb-true, eqb-false, ltb-true, ltb-false}
use Rattle.worker.specs.Report.{numbered_answer}
use Rattle.worker.specs.Stages.{with_stage, with_curr, with_answer, reports}
use Rattle.worker.specs.declared.Worker.{Worker}
use Rattle.worker.specs.declared.report.Answer.{Answer}
use Rattle.worker.specs.declared.report.Answer.TheVariants.{Yes, No}
use Rattle.worker.specs.declared.report.Report.TheVariants.{Moved, Finished}
use Rattle.worker.specs.declared.report.Step.{Step}
use Rattle.worker.specs.declared.report.Growth.TheVariants.{Stays}
use Rattle.worker.proofs.TurnLaws.{step_row}
use Rattle.lazy.specs.Turn.{seen_of, miscounts}
use Rattle.linear.specs.Entries.{turn_reported, event_of, after}
use Rattle.linear.specs.Snapshots.{own_turn, after_turns, Finishes}
use Rattle.linear.proofs.Reach.{Reach, here, one_more}
use Rattle.linear.proofs.State.{State, shape_of, decode, stepped, turn_step}
use Rattle.linear.proofs.Bridge.{Sound, turn_enters, after_sound}
use Rattle.linear.proofs.Invariant.{In, Ahead, Inv, Range, live_chain, not_head, not_tail, ahead_next, nothing_ahead}
use Rattle.linear.proofs.Course.{Row}
use Rattle.linear.proofs.AnswerRows.{row_22, row_23, row_24, row_25}
use Rattle.linear.proofs.Preserved.{row_inv}
use Rattle.linear.proofs.Passes.{passes}

-- a state whose nodes stay as they are, and a worker's look-up of a key
module _ (workers nodes : ℕ) (s : State) (inv : Inv nodes s) (w key : ℕ) (known : w < workers) (range : Range key) where
  -- the worker's record, and the arena that its turn leaves
  abbrev me : List ℕ → Worker
  me arena = (decode arena).worker w

  abbrev next : List ℕ → List ℕ
  next arena = after arena (own_turn w)

  -- it stands at a stage and at a node, and the nodes are as they were
  pub record Looks (arena : List ℕ) (stage curr : ℕ) : Type 0 where
    pub sound : Sound workers nodes arena
    pub holds : Inv nodes (decode arena)
    pub same : shape_of (decode arena) ≡ shape_of s
    pub at : (me arena).stage ≡ stage
    pub own_key : (me arena).key ≡ key
    pub on : (me arena).curr ≡ curr

  -- it will tell whether the key is in the set
  abbrev pub Tells : List ℕ → Type 0
  Tells arena = (In s key → Finishes w arena Yes) × ((In s key → ⊥) → Finishes w arena No)

  later : {arena : List ℕ} {answer : Answer} → Finishes w (next arena) answer → Finishes w arena answer
  unfolding after_turns
  later f = record { turns = suc f.turns; finished = f.finished }

  tells_later : {arena : List ℕ} → Tells (next arena) → Tells arena
  tells_later told = (λ i. later (told.0 i), λ out. later (told.1 out))

  -- its turn
  turned : {arena : List ℕ} {stage curr : ℕ} → Looks arena stage curr → (turn_step workers nodes (decode arena) w).growth ≡ Stays →
      (event_of arena (own_turn w) ≡ turn_reported (turn_step workers nodes (decode arena) w).report)
      × (decode (next arena) ≡ stepped (decode arena) w (turn_step workers nodes (decode arena) w))
  turned {arena} looks stays =
      turn_enters looks.sound (own_turn w) refl known (passes looks.holds workers w) (ap (miscounts nodes (decode arena).stored) stays)

  -- one that moves and writes its record alone
  module _ {arena : List ℕ} {stage curr : ℕ} (looks : Looks arena stage curr) (new : Worker)
      (is : turn_step workers nodes (decode arena) w ≡ reports new (Moved new.stage)) where
    moved : decode (next arena) ≡ stepped (decode arena) w (reports new (Moved new.stage))
    moved = (turned looks (ap (λ (step : Step). step.growth) is)).1 ∙ ap (stepped (decode arena) w) is

    new_is : me (next arena) ≡ new
    new_is = ap (λ (s : State). s.worker w) moved ∙ rw (eq-eqb w w refl)

    goes : Row nodes (decode arena) w (reports new (Moved new.stage)) → new.key ≡ (me arena).key → {to : ℕ} → new.curr ≡ to →
        Looks (next arena) new.stage to
    goes row stays there =
        record {
          sound = after_sound looks.sound (own_turn w);
          holds = subst (Inv nodes) (sym moved) (row_inv looks.holds w row);
          same = ap shape_of moved ∙ looks.same;
          at = ap (λ (me : Worker). me.stage) new_is;
          own_key = ap (λ (me : Worker). me.key) new_is ∙ stays ∙ looks.own_key;
          on = ap (λ (me : Worker). me.curr) new_is ∙ there;
        }

  -- the turn that decides, and the last one
  ends : {arena : List ℕ} {stage curr : ℕ} (looks : Looks arena stage curr) (answer : ℕ) →
      let new = with_stage (with_answer (me arena) answer) 21 in
      turn_step workers nodes (decode arena) w ≡ reports new (Moved 21) → Row nodes (decode arena) w (reports new (Moved 21)) →
      Finishes w arena (numbered_answer answer)
  unfolding after_turns
  ends {arena} looks answer is row =
      let new = with_stage (with_answer (me arena) answer) 21 in
      let last = goes looks new is row refl refl in
      later (record {
        turns = 0;
        finished =
            (turned last (ap (λ (step : Step). step.growth) (step_row (me (next arena)) _ _ last.at))).0
            ∙ ap (λ (step : Step). turn_reported step.report) (step_row (me (next arena)) _ _ last.at)
            ∙ ap (λ (me : Worker). turn_reported (Finished (numbered_answer me.answer))) (new_is looks new is);
      })

  -- what it reads of its node
  module _ {arena : List ℕ} {stage curr : ℕ} (looks : Looks arena stage curr) where
    key_is : (decode arena).key (me arena).curr ≡ s.key curr
    key_is = λ i. (looks.same i).key (looks.on i)

    mark_is : (decode arena).mark (me arena).curr ≡ s.mark curr
    mark_is = λ i. (looks.same i).mark (looks.on i)

    next_is : (decode arena).next (me arena).curr ≡ s.next curr
    next_is = λ i. (looks.same i).next (looks.on i)

  -- at a node of the chain, ahead of which the key is, if it is in the set
  module _ {curr : ℕ} (chain : Reach s.next 0 curr) (ahead : In s key → Ahead s curr key) where
    tells_25 : {arena : List ℕ} → Looks arena 25 curr → s.key curr ≡ key → Tells arena
    unfolding seen_of
    tells_25 {arena} looks hit = go (eqb ((decode arena).mark (me arena).curr) 0) refl
      where
        go : (unmarked : Bool) → eqb ((decode arena).mark (me arena).curr) 0 ≡ unmarked → Tells arena
        go true e =
            let here : In s key = record {
              node = curr;
              chain = chain;
              not_head = not_head inv.shape (omega (arith, range));
              not_tail = not_tail inv.shape (omega (arith, range));
              unmarked = sym (mark_is looks) ∙ eqb-true _ _ e;
              has_key = hit;
            } in
            (λ _. ends looks 1 (step_row (me arena) _ _ looks.at ∙ rw e) (row_25 looks.holds w true e looks.at), λ out. absurd (out here))
        go false e =
            let gone = nothing_ahead inv.shape (live_chain chain) (inr (hit, λ z. eqb-false _ _ e (mark_is looks ∙ z))) in (
              λ i. absurd (gone (ahead i)),
              λ _. ends looks 2 (step_row (me arena) _ _ looks.at ∙ rw e) (row_25 looks.holds w false e looks.at),
            )

    -- a higher key is told at once, and behind a lower one it goes on at the next node
    tells_23 : {arena : List ℕ} → Looks arena 23 curr →
        (s.key curr < key → Looks (next (next arena)) 23 (s.next curr) → Tells (next (next arena))) → Tells arena
    unfolding seen_of
    tells_23 {arena} looks onward =
        go (ltb ((decode arena).key (me arena).curr) (me arena).key) (eqb ((decode arena).key (me arena).curr) (me arena).key) refl refl
      where
        go : (below equal : Bool) → ltb ((decode arena).key (me arena).curr) (me arena).key ≡ below →
            eqb ((decode arena).key (me arena).curr) (me arena).key ≡ equal → Tells arena
        go true equal b e =
            let there = next arena in
            let under : (decode arena).key (me arena).curr < (me arena).key = ltb-true _ _ b in
            let low : s.key curr < key = omega (arith, key_is looks, looks.own_key) in
            let past = goes looks (with_stage (me arena) 24) (step_row (me arena) _ _ looks.at ∙ rw b)
            (row_23 looks.holds w true equal b e looks.at) refl looks.on in
            tells_later (tells_later (onward low
            (goes past (with_stage (with_curr (me there) ((decode there).next (me there).curr)) 23)
            (step_row (me there) _ _ past.at) (row_24 past.holds w past.at) refl (next_is past))))
        go false true b e =
            let found = goes looks (with_stage (me arena) 25) (step_row (me arena) _ _ looks.at ∙ rw (b, e))
            (row_23 looks.holds w false true b e looks.at) refl looks.on in
            tells_later (tells_25 found (sym (key_is looks) ∙ eqb-true _ _ e ∙ looks.own_key))
        go false false b e =
            let over : (me arena).key ≤ (decode arena).key (me arena).curr = ltb-false _ _ b in
            let other : (decode arena).key (me arena).curr ≢ (me arena).key = eqb-false _ _ e in
            let above : key < s.key curr = omega (arith, key_is looks, looks.own_key) in (
              λ i. absurd (nothing_ahead inv.shape (live_chain chain) (inl above) (ahead i)),
              λ _. ends looks 2 (step_row (me arena) _ _ looks.at ∙ rw (b, e)) (row_23 looks.holds w false false b e looks.at),
            )

  -- keys rise, so it does not go on for ever
  goes_along : (more : ℕ) {arena : List ℕ} {curr : ℕ} → Reach s.next 0 curr → (In s key → Ahead s curr key) → Looks arena 23 curr →
      key ≤ s.key curr + more → Tells arena
  goes_along zero chain ahead looks upto = tells_23 chain ahead looks (λ low onward. absurd (omega arith))
  goes_along (suc more) chain ahead looks upto =
      tells_23 chain ahead looks
      (λ low onward.
      let rises = inv.shape.rises _ (live_chain chain) (not_tail inv.shape (omega (arith, range))) in
      goes_along more (one_more chain) (λ i. ahead_next inv.shape low (ahead i)) onward (omega arith))

  -- from its start on
  pub tells_22 : {arena : List ℕ} {curr : ℕ} → Looks arena 22 curr → Tells arena
  tells_22 {arena} looks =
      tells_later (goes_along key (here refl) (λ i. record { inside = i; run = i.chain })
      (goes looks (with_stage (with_curr (me arena) 0) 23) (step_row (me arena) _ _ looks.at)
      (row_22 looks.holds w looks.at) refl refl) (omega arith))
