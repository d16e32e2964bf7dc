-- From arenas to states: what an entry does to an arena, as a step of the state that the arena decodes to.
use Prim.Native.Nat.{ℕ, zero, suc, ◌<◌, ◌≤◌}
use mathlib.Core.Path.{◌≡◌, refl, sym, ap, subst, ◌∙◌}
use mathlib.Core.Logic.{◌⊎◌, inl, inr}
use mathlib.Core.List.{List, [], ◌∷◌}
use mathlib.Core.Bool.{Bool, true, false, cond, true≢false}
use native.Mathlib.Omega.{arith}
use native.Mathlib.Decide.{dec_lt}
use lib.Dec.{leb}
use borrow.Author.Tests.{le-leb, lt-leb, leb-false, eqb-true, not-false}
use Rattle.worker.specs.Worker.{is_call, started_worker}
use Rattle.worker.specs.Refusals.{Test}
use Rattle.worker.specs.declared.refusal.Refusal.{Refusal}
use Rattle.worker.specs.declared.refusal.Refusal.TheVariants.{NoSuchWorker, BrokenCount}
use Rattle.worker.specs.Turn.{turn_refusals, turn_of}
use Rattle.worker.specs.declared.Worker.{Worker}
use Rattle.worker.specs.declared.report.Step.{Step}
use Rattle.worker.specs.declared.report.Growth.TheVariants.{Stays}
use Rattle.std.specs.Prelude.{Result, Ok, Err}
use Rattle.worker.proofs.RefusalLaws.{NoneHolds, judged_keeps, judged_append, none_accepts}
use Rattle.words.specs.Layout.{workers_of, nodes_of, stored_of}
use Rattle.words.specs.Records.{worker_at, with_worker}
use Rattle.words.specs.Replies.{Reply, refused, accepted, replied}
use Rattle.words.specs.Header.{header_refusals}
use Rattle.words.proofs.Bounds.{Counts}
use Rattle.words.proofs.Judged.{none_holds, numbered, judged_numbered, judged_accepted}
use Rattle.words.specs.declared.entry.Entry.{Entry}
use Rattle.arena.specs.Start.{call_refusals, start_refusals, start_arena}
use Rattle.lazy.specs.Free.{roots_of}
use Rattle.lazy.specs.Turn.{outcome_of, seen_of, seen_by, worker_refusals, miscounts, counted, turn_on, with_effect, turned_arena, turn_arena}
use Rattle.lazy.proofs.ChangeLaws.{CountFits, count_stays}
use Rattle.lazy.proofs.TurnLaws.{turn_fits}
use Rattle.lazy.proofs.InsideLaws.{effect_below}
use Rattle.words.proofs.HeaderLaws.{header_of}
use Rattle.linear.specs.Entries.{is_turn, Event, call_started, turn_reported, entry_refused, turn_event, event_of, after}
use Rattle.linear.proofs.State.{State, decode, stepped, start_step, seen_in, turn_step}
use Rattle.linear.proofs.Stepped.{stepped_arena, known_record, header_stays, none_stays, state_steps}

-- an arena with W workers and N nodes whose header is in order
pub record Sound (workers nodes : ℕ) (arena : List ℕ) : Type 0 where
  pub none : NoneHolds (header_refusals arena)
  pub workers_are : workers_of arena ≡ workers
  pub nodes_are : nodes_of arena ≡ nodes

-- so its counts are in range
pub sound_counts : {workers nodes : ℕ} {arena : List ℕ} → Sound workers nodes arena → Counts workers nodes
sound_counts {arena = arena} sound = rw (sound.workers_are, sound.nodes_are) at (header_of arena sound.none).good

-- whether a worker's turn would take the count past its ends
abbrev pub miscounting : ℕ → ℕ → State → ℕ → Bool
miscounting workers nodes s w = miscounts nodes s.stored (turn_step workers nodes s w).growth

-- what an entry does, decoded: it is refused and changes nothing, or it is a start, or a turn
pub data Entered (workers nodes : ℕ) (arena : List ℕ) (entry : Entry) : Type 0 where
  refuses : (refusal : Refusal) → event_of arena entry ≡ entry_refused refusal → after arena entry ≡ arena →
      (is_turn entry ≡ true → (refusal ≡ NoSuchWorker) ⊎ (miscounting workers nodes (decode arena) entry.worker ≡ true)) → Entered workers nodes arena entry
  starts : event_of arena entry ≡ call_started → is_turn entry ≡ false → entry.worker < workers →
      ((decode arena).worker entry.worker).stage ≡ 0 → is_call entry.act entry.key entry.length ≡ true →
      decode (after arena entry) ≡ stepped (decode arena) entry.worker (start_step entry.act entry.key entry.length) →
      Entered workers nodes arena entry
  turns : event_of arena entry ≡ turn_reported (turn_step workers nodes (decode arena) entry.worker).report → is_turn entry ≡ true →
      entry.worker < workers →
      decode (after arena entry) ≡ stepped (decode arena) entry.worker (turn_step workers nodes (decode arena) entry.worker) →
      Entered workers nodes arena entry

-- the roots are read from the records of so many workers and no others
pub roots_same : (a b : ℕ → Worker) (count : ℕ) → ((v : ℕ) → v < count → a v ≡ b v) → roots_of a count ≡ roots_of b count
unfolding roots_of
roots_same a b zero same = refl
roots_same a b (suc count) same =
    rw (same count (omega arith), roots_same a b count (λ v there. same v (omega arith)))

-- a start writes the record alone
start_writes : (arena : List ℕ) (w operation key length : ℕ) →
    stepped_arena arena w (start_step operation key length) ≡ with_worker arena w (started_worker operation key length)
unfolding with_effect
start_writes arena w operation key length =
    ap (λ (words : List ℕ). with_worker words w (started_worker operation key length)) (count_stays arena)

module _ {workers nodes : ℕ} {arena : List ℕ} (sound : Sound workers nodes arena) where
  -- the record of a worker that there is
  own_record : (w : ℕ) → w < workers → (decode arena).worker w ≡ worker_at arena w
  own_record w known = known_record arena w (omega (arith, sound.workers_are))

  -- a turn sees in the state what it sees in the arena
  seen_same : (w : ℕ) → w < workers → seen_in workers nodes (decode arena) w ≡ seen_by arena (worker_at arena w)
  unfolding seen_by seen_of
  seen_same w known =
      rw (
        own_record w known,
        roots_same (decode arena).worker (worker_at arena) workers own_record,
        sound.workers_are,
        sound.nodes_are,
      )

  -- with the header in order, a turn is refused for want of such a worker, or it is the turn of the worker's record
  pub turn_judged : (w : ℕ) → turn_on arena w
      ≡ cond (leb (workers_of arena) w) (Err NoSuchWorker) (counted arena (turn_of (worker_at arena w) (suc w) (seen_by arena (worker_at arena w))))
  unfolding turn_on worker_refusals
  turn_judged w =
      judged_append (header_refusals arena) ((leb (workers_of arena) w, NoSuchWorker) ∷ []) Err _
      ∙ none_accepts (header_refusals arena) Err _ sound.none

  -- the turn of a worker that there is not
  pub turn_unknown : (w : ℕ) → workers ≤ w → turn_on arena w ≡ Err NoSuchWorker
  turn_unknown w unknown = turn_judged w ∙ rw (le-leb (workers_of arena) w (omega (arith, sound.workers_are)))

  -- the turn of a worker that there is, where neither its record nor a link refuses it: the count does, or it is done
  turn_decided : (w : ℕ) → w < workers → NoneHolds (turn_refusals ((decode arena).worker w) (seen_in workers nodes (decode arena) w)) →
      turn_on arena w ≡ cond (miscounting workers nodes (decode arena) w) (Err BrokenCount) (Ok (turn_step workers nodes (decode arena) w))
  unfolding turn_of counted
  turn_decided w known passes =
      turn_judged w
      ∙ rw (lt-leb (workers_of arena) w (omega (arith, sound.workers_are)))
      (ap (counted arena)
      ((λ i. turn_of (sym (own_record w known) i) (suc w) (sym (seen_same w known) i))
      ∙ none_accepts (turn_refusals ((decode arena).worker w) (seen_in workers nodes (decode arena) w)) Err _ passes)
      ∙ (λ i. cond (miscounts (sound.nodes_are i) (stored_of arena) (turn_step workers nodes (decode arena) w).growth) (Err BrokenCount)
      (Ok (turn_step workers nodes (decode arena) w))))

  -- an entry that is the turn of such a worker, where the count does not refuse it either
  pub turn_enters : (entry : Entry) → is_turn entry ≡ true → entry.worker < workers →
      NoneHolds (turn_refusals ((decode arena).worker entry.worker) (seen_in workers nodes (decode arena) entry.worker)) →
      miscounting workers nodes (decode arena) entry.worker ≡ false →
      (event_of arena entry ≡ turn_reported (turn_step workers nodes (decode arena) entry.worker).report)
      × (decode (after arena entry) ≡ stepped (decode arena) entry.worker (turn_step workers nodes (decode arena) entry.worker))
  unfolding event_of after turn_arena
  turn_enters entry turn known passes counts =
      let w = entry.worker in
      let step = turn_step workers nodes (decode arena) w in
      let done : turn_on arena w ≡ Ok step = turn_decided w known passes ∙ rw counts in
      let there : w < workers_of arena = omega (arith, sound.workers_are) in
      let writes : after arena entry ≡ stepped_arena arena w step = rw turn (ap (turned_arena arena w) done) in
      let told : Result Step Refusal → Event = λ t. turn_event (outcome_of t) in
      (rw turn (ap told done), ap decode writes ∙ state_steps arena sound.none w step (turn_fits arena w done) there (effect_below arena w done))

  -- and a turn that is refused
  refuses_turn : (entry : Entry) → is_turn entry ≡ true → (refusal : Refusal) → turn_on arena entry.worker ≡ Err refusal →
      (refusal ≡ NoSuchWorker) ⊎ (miscounting workers nodes (decode arena) entry.worker ≡ true) → Entered workers nodes arena entry
  unfolding event_of after turn_arena
  refuses_turn entry turn refusal is why =
      let told : Result Step Refusal → Event = λ t. turn_event (outcome_of t) in
      refuses refusal (rw turn (ap told is)) (rw turn (ap (turned_arena arena entry.worker) is)) (λ _. why)

  -- a start leaves the count as it is
  start_fits : (operation key length : ℕ) → CountFits arena (start_step operation key length).growth
  start_fits operation key length = (header_of arena sound.none).few_stored

  -- an entry that is a start
  enters_start : (entry : Entry) → is_turn entry ≡ false → Entered workers nodes arena entry
  unfolding event_of after start_arena start_refusals call_refusals header_refusals with_effect
  enters_start entry start = go (replied refusals []) refl
    where
      w : ℕ
      w = entry.worker

      refusals : List Test
      refusals = start_refusals arena w entry.act entry.key entry.length

      go : (reply : Reply) → reply ≡ replied refusals [] → Entered workers nodes arena entry
      go (refused number) e =
          refuses (numbered number) (rw start (judged_numbered refusals [] entry_refused call_started e))
          (rw start (judged_numbered refusals [] (λ refusal. arena) _ e)) (λ turn. absurd (true≢false (sym turn ∙ start)))
      go (accepted values) e =
          let step = start_step entry.act entry.key entry.length in
          let call = (none_holds refusals [] e).1.1.1 in
          let there = leb-false (workers_of arena) w call.0 in
          let known : w < workers = omega (arith, sound.workers_are) in
          let idle = eqb-true (worker_at arena w).stage 0 (not-false _ call.1.1.0) in
          let writes : after arena entry ≡ stepped_arena arena w step
          = rw start (judged_accepted refusals [] (λ refusal. arena) _ e ∙ sym (start_writes arena w entry.act entry.key entry.length)) in
          starts (rw start (judged_accepted refusals [] entry_refused call_started e)) start known
          (ap (λ (own : Worker). own.stage) (own_record w known) ∙ idle) (not-false _ call.1.1.1.0)
          (ap decode writes ∙ state_steps arena sound.none w step (start_fits entry.act entry.key entry.length) there tt)

-- where no worker's record and no link would make a turn refused, every entry is one of these
pub entered : {workers nodes : ℕ} {arena : List ℕ} → Sound workers nodes arena →
    ((w : ℕ) → w < workers → NoneHolds (turn_refusals ((decode arena).worker w) (seen_in workers nodes (decode arena) w))) →
    (entry : Entry) → Entered workers nodes arena entry
entered {workers} {nodes} {arena} sound passes entry = go (is_turn entry) refl
  where
    go : (t : Bool) → is_turn entry ≡ t → Entered workers nodes arena entry
    go true turn =
        elim (dec_lt entry.worker workers) [
          | yes known ↦ decided known (miscounting workers nodes (decode arena) entry.worker) refl
          | no unknown ↦ refuses_turn sound entry turn NoSuchWorker (turn_unknown sound entry.worker (omega arith)) (inl refl)
        ]
      where
        decided : entry.worker < workers → (broken : Bool) → miscounting workers nodes (decode arena) entry.worker ≡ broken → Entered workers nodes arena entry
        decided known true miscounted =
            refuses_turn sound entry turn BrokenCount (turn_decided sound entry.worker known (passes entry.worker known) ∙ rw miscounted)
            (inr miscounted)
        decided known false counts =
            let enters = turn_enters sound entry turn known (passes entry.worker known) counts in turns enters.0 turn known enters.1
    go false start = enters_start sound entry start

-- what holds of an arena, and of it after any step of the entry's worker that leaves the count within its ends, holds of it after the entry
after_keeps : (P : List ℕ → Type 0) (arena : List ℕ) (entry : Entry) → P arena →
    ((step : Step) → CountFits arena step.growth → P (stepped_arena arena entry.worker step)) →
    CountFits arena Stays → P (after arena entry)
unfolding after turn_arena start_arena with_effect
after_keeps P arena entry stays writes still = go (is_turn entry)
  where
    w : ℕ
    w = entry.worker

    turned : (t : Result Step Refusal) → turn_on arena w ≡ t → P (turned_arena arena w t)
    turned (Err refusal) e = stays
    turned (Ok step) e = writes step (turn_fits arena w e)

    go : (t : Bool) → P (cond t (turn_arena arena w) (start_arena arena w entry.act entry.key entry.length))
    go true = turned (turn_on arena w) refl
    go false =
        judged_keeps P (start_refusals arena w entry.act entry.key entry.length) (λ refusal. arena) _ (λ refusal. stays)
        (subst P (start_writes arena w entry.act entry.key entry.length) (writes (start_step entry.act entry.key entry.length) still))

-- an entry of any kind leaves the header in order
pub after_sound : {workers nodes : ℕ} {arena : List ℕ} → Sound workers nodes arena → (entry : Entry) →
    Sound workers nodes (after arena entry)
after_sound {workers} {nodes} {arena} sound entry =
    after_keeps (Sound workers nodes) arena entry sound
    (λ step fits. record {
      none = none_stays arena sound.none entry.worker step fits;
      workers_are = header_stays arena sound.none entry.worker step fits 1 (omega arith) (omega arith) ∙ sound.workers_are;
      nodes_are = header_stays arena sound.none entry.worker step fits 2 (omega arith) (omega arith) ∙ sound.nodes_are;
    })
    (start_fits sound entry.act entry.key entry.length)
