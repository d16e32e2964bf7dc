-- Demand 3: every list of entries from an arena that is sound and at rest, as a fresh one, is linearizable, and no turn of it meets 6, 7 or 14.
use Prim.Native.Nat.{ℕ, ◌-◌, ◌≤◌, ◌<◌}
use mathlib.Core.Path.{◌≡◌, refl, sym, ap, ◌∙◌}
use mathlib.Core.Logic.{⊎_elim, ◌≢◌, ◌↔◌}
use mathlib.Core.List.{List, []}
use mathlib.Core.Bool.{true, true≢false}
use native.Mathlib.Omega.{arith}
use Rattle.worker.specs.declared.refusal.Refusal.{Refusal}
use Rattle.worker.specs.declared.refusal.Refusal.TheVariants.{NoSuchWorker, BrokenRecord, BrokenChain, BrokenCount}
use Rattle.worker.specs.Refusals.{refusal_number}
use Rattle.worker.specs.declared.report.Report.{Report}
use Rattle.words.specs.Layout.{good_counts}
use Rattle.words.specs.declared.entry.Entry.{Entry}
use Rattle.arena.specs.Init.{fresh_words}
use Rattle.arena.specs.Sets.{set_of}
use Rattle.arena.proofs.ListLaws.{each_of}
use Rattle.arena.proofs.SetLaws.{set_rises, set_members}
use Rattle.linear.specs.Entries.{turn_reported, entry_refused}
use Rattle.linear.specs.History.{Call, entry_at, arena_at, event_at}
use Rattle.linear.specs.Linearizable.{Linearizable, Unbroken, ExactSets, ExactCounts, Resting, Waiting}
use Rattle.linear.specs.Snapshots.{TrueSnapshots}
use Rattle.linear.specs.Works.{WorksFrom, FromRest}
use Rattle.linear.proofs.LabelLaws.{rising_same}
use Rattle.linear.proofs.Simulation.{placed_answer, simulated}
use Rattle.linear.proofs.Bridge.{Entered, refuses, starts, turns}
use Rattle.linear.proofs.Members.{whole}
use Rattle.linear.proofs.FreshAtRest.{fresh_set}
use Rattle.linear.proofs.Timeline.{sound, label, entered_at, always, Schedule, rest_schedule, fresh_schedule, arena, last, in_order_of}
use Rattle.linear.proofs.TrueSnapshots.{all_true}
use Rattle.linear.proofs.Rests.{all_rest}
use Rattle.linear.proofs.Counting.{counts_true, counts_exact}
use Rattle.linear.proofs.AtRestAgain.{at_rest_again}
use Rattle.linear.proofs.Tellings.{Telling, told_answer}
use Rattle.linear.proofs.Calls.{Told, open_yet, pointed}
use Rattle.linear.proofs.PlacedCalls.{each_call, told_of, placed_of, ordered}
use Rattle.linear.proofs.Waiting.{all_blocked}
use Rattle.linear.proofs.Openings.{changes}

-- no such worker is another refusal than these
other_refusal : {refusal : Refusal} → refusal ≡ NoSuchWorker → (broken : Refusal) → refusal_number broken ≢ 3 → entry_refused refusal ≢ entry_refused broken
other_refusal {refusal} e broken other same =
    let told : refusal ≡ broken = cc in other (ap refusal_number (sym told ∙ e))

-- a turn that reports is not refused
not_refused : (report : Report) (refusal : Refusal) → turn_reported report ≢ entry_refused refusal
not_refused report refusal e = let z : ◌≡◌ {A = ℕ} 0 1 = cc in omega arith

module _ (r : Schedule) where
  -- all of demand 3, of one schedule
  pub proved : Linearizable (set_of r.initial) r.initial r.entries
  unfolding arena_at
  proved =
      let whole = simulated (label r) (last r) (set_of r.initial) (in_order_of r) (set_rises r.initial, λ key. refl) (ordered r)
      (each_of _ (λ call m. (placed_of r m).0)) (each_of _ (λ call m. (placed_of r m).1)) (changes r) in
      record {
        same_answers = whole.0;
        started_before = λ call m. started (told_of r m);
        reached_before = λ call m. reached (told_of r m);
        answered_there = λ call m. answers (told_of r m);
        told_answer = λ call m. each_call r (Telling r) (told_answer r) m;
        same_labels = rising_same _ _ whole.1.0 (set_rises (arena r (last r))) whole.1.1;
      }
    where
      started : {call : Call} → Told r call → call.point ≢ 0 → call.start ≤ call.point
      started (open_yet point finish none) some = absurd (some point)
      started (pointed point low high later placed) some = low

      reached : {call : Call} → Told r call → call.finish ≢ 0 → (call.point ≢ 0) × (call.point < call.finish)
      reached (open_yet point finish none) some = absurd (some finish)
      reached (pointed point low high later placed) some = (point, ⊎_elim (λ none. absurd (some none)) (λ before. before) later)

      answers : {call : Call} → Told r call → (call.answer ≡ 0) ↔ (call.point ≡ 0)
      answers (open_yet point finish none) = (λ _. point, λ _. none)
      answers (pointed point low high later placed) = (λ none. absurd (placed_answer placed none), λ none. absurd (point none))

  -- no turn meets 6, 7 or 14
  pub unmet : Unbroken r.initial r.entries
  unfolding event_at
  unmet time turning = go (entered_at r (time - 1) (entry_at r.entries time) (always r (time - 1)))
    where
      go : Entered r.workers r.nodes (arena r (time - 1)) (entry_at r.entries time) →
          (event_at r.initial r.entries time ≢ entry_refused BrokenRecord)
          × (event_at r.initial r.entries time ≢ entry_refused BrokenChain)
          × (event_at r.initial r.entries time ≢ entry_refused BrokenCount)
      go (refuses refusal event same why) =
          ⊎_elim
          (λ none_such. rw event (
            other_refusal none_such BrokenRecord (omega arith),
            other_refusal none_such BrokenChain (omega arith),
            other_refusal none_such BrokenCount (omega arith),
          ))
          (λ broken. absurd (true≢false (sym broken ∙ counts_true r (time - 1) _)))
          (why turning)
      go (starts event starting known idle call next) = absurd (true≢false (sym turning ∙ starting))
      go (turns event turned known next) = rw event (not_refused _ _, not_refused _ _, not_refused _ _)

  -- at every time the chain is whole, and the set is that of document 01's words
  pub sets_exact : ExactSets r.initial r.entries
  sets_exact time =
      let unbroken_chain = whole (sound r time) (always r time) in (unbroken_chain, set_members (arena r time) unbroken_chain)

module _ (workers nodes : ℕ) (entries : List Entry) (good : good_counts workers nodes ≡ true) where
  abbrev fresh : Schedule
  fresh = fresh_schedule workers nodes entries good

  -- every list of entries from a fresh arena is linearizable, with a sequential set that is empty at first
  pub linearizable : Linearizable [] (fresh_words workers nodes) entries
  linearizable = rw (← fresh_set workers nodes good) (proved fresh)

  -- no turn of it meets 6, 7 or 14
  pub unbroken : Unbroken (fresh_words workers nodes) entries
  unbroken = unmet fresh

  -- and at every time its chain is whole, and its set is that of document 01's words
  pub exact_sets : ExactSets (fresh_words workers nodes) entries
  exact_sets = sets_exact fresh

  -- and its header counts the labels of the set
  pub exact_counts : ExactCounts (fresh_words workers nodes) entries
  exact_counts = counts_exact fresh

  -- and an idle worker has the idle record
  pub resting : Resting (fresh_words workers nodes) entries
  resting = all_rest fresh

  -- and a wait is a turn of its call, and names another worker, a busy one
  pub waiting : Waiting (fresh_words workers nodes) entries
  waiting = all_blocked fresh

  -- and a snapshot, wherever there is room for N less 2 keys, lists what a look-up is told that starts then and is alone
  pub true_snapshots : TrueSnapshots (fresh_words workers nodes) entries
  true_snapshots = all_true fresh

-- all of this, of one schedule
pub works : (r : Schedule) → WorksFrom (set_of r.initial) r.initial r.entries
works r =
    record {
      linearizable = proved r;
      unbroken = unmet r;
      exact_sets = sets_exact r;
      exact_counts = counts_exact r;
      resting = all_rest r;
      waiting = all_blocked r;
      true_snapshots = all_true r;
      at_rest_again = at_rest_again r;
    }

-- so it is with every list of entries from an arena that is sound and at rest, with a sequential set that begins with the set of that arena
pub from_rest : FromRest
from_rest initial entries rest = works (rest_schedule initial entries rest)
