-- At every time a snapshot has room, and a look-up that starts then and is alone is told what it lists.
use Prim.Native.Nat.{ℕ, ◌<◌}
use mathlib.Core.Path.{◌≡◌, refl, sym, ap, subst, ◌∙◌}
use mathlib.Core.Logic.{◌↔◌}
use mathlib.Core.List.{Memᴰ}
use mathlib.Core.Bool.{true, true≢false}
use native.Mathlib.Omega.{arith}
use borrow.Author.Tests.{lt-leb, eq-eqb}
use Rattle.worker.specs.Worker.{contains, is_key, idle_stage, started_worker}
use Rattle.worker.specs.declared.Worker.{Worker}
use Rattle.worker.specs.declared.report.Answer.TheVariants.{Yes, No}
use Rattle.worker.proofs.RefusalLaws.{judged_append, none_accepts}
use Rattle.words.specs.Layout.{workers_of}
use Rattle.words.specs.Records.{worker_at}
use Rattle.words.specs.Header.{header_refusals}
use Rattle.arena.specs.Start.{call_refusals, start_refusals}
use Rattle.arena.specs.Sets.{set_of}
use Rattle.arena.specs.Snapshot.{keys_of}
use Rattle.arena.proofs.SetLaws.{member_key}
use Rattle.arena.proofs.ShortChains.{keys_few}
use Rattle.arena.proofs.SnapshotLaws.{snapshot_lists}
use Rattle.linear.specs.Entries.{call_started, entry_refused, event_of, after}
use Rattle.linear.specs.Snapshots.{look_up, Answers, TrueSnapshots}
use Rattle.linear.proofs.State.{State, shape_of, decode, stepped, start_step}
use Rattle.linear.proofs.Bridge.{Entered, refuses, starts, turns, after_sound}
use Rattle.linear.proofs.Invariant.{In, Inv, key_range}
use Rattle.linear.proofs.Preserved.{start_inv}
use Rattle.linear.proofs.Members.{whole, set_in}
use Rattle.linear.proofs.LookUps.{Looks, tells_22}
use Rattle.linear.proofs.Timeline.{Schedule, arena, state, sound, always, entered_at}

module _ (r : Schedule) (time : ℕ) where
  -- a key is listed where it is in the set
  listed : (key : ℕ) → Memᴰ key (keys_of (arena r time)) ↔ In (state r time) key
  unfolding keys_of
  listed key =
      let by_key = member_key key (set_of (arena r time)) in
      let by_node = set_in (sound r time) (always r time) key in (λ m. by_node.0 (by_key.1 m), λ i. by_key.0 (by_node.1 i))

  module _ (w key : ℕ) (there : w < workers_of (arena r time)) (idle : (worker_at (arena r time) w).stage ≡ idle_stage) (good_key : is_key key ≡ true) where
    known : w < r.workers
    known = omega (arith, (sound r time).workers_are)

    -- a contains is started
    begins : event_of (arena r time) (look_up w key) ≡ call_started
    unfolding event_of start_refusals call_refusals
    begins =
        judged_append (header_refusals (arena r time)) (call_refusals (arena r time) w contains key 0) entry_refused call_started
        ∙ none_accepts (header_refusals (arena r time)) entry_refused _ (sound r time).none
        ∙ rw (lt-leb (workers_of (arena r time)) w there, idle, good_key)

    looks : Entered r.workers r.nodes (arena r time) (look_up w key) →
        Looks r.workers r.nodes (state r time) (always r time) w key known (key_range key good_key)
        (after (arena r time) (look_up w key)) 22 65535
    looks (refuses number event same unknown) = let z : ◌≡◌ {A = ℕ} 0 1 = cc (begins, event) in absurd (omega arith)
    looks (starts event starting known free call next) =
        record {
          sound = after_sound (sound r time) (look_up w key);
          holds = subst (Inv r.nodes) (sym next) (start_inv (always r time) w contains key 0 free call);
          same = ap shape_of next;
          at = ap (λ (me : Worker). me.stage) (record_is next);
          own_key = ap (λ (me : Worker). me.key) (record_is next);
          on = ap (λ (me : Worker). me.curr) (record_is next);
        }
      where
        record_is : decode (after (arena r time) (look_up w key)) ≡ stepped (state r time) w (start_step contains key 0) →
            (decode (after (arena r time) (look_up w key))).worker w ≡ started_worker contains key 0
        record_is next = ap (λ (s : State). s.worker w) next ∙ rw (eq-eqb w w refl)
    looks (turns event turning known next) = absurd (true≢false (sym turning))

    -- and its turns tell what is listed
    pub answers : (Memᴰ key (keys_of (arena r time)) → Answers (arena r time) w key Yes)
        × ((Memᴰ key (keys_of (arena r time)) → ⊥) → Answers (arena r time) w key No)
    answers =
        let tells =
        tells_22 r.workers r.nodes (state r time) (always r time) w key known (key_range key good_key)
        (looks (entered_at r time (look_up w key) (always r time))) in
        (λ m. (begins, tells.0 ((listed key).0 m)), λ out. (begins, tells.1 (λ i. out ((listed key).1 i))))

pub all_true : (r : Schedule) → TrueSnapshots r.initial r.entries
all_true r time =
    record {
      lists = λ lent enough.
          snapshot_lists (arena r time) (sound r time).none (whole (sound r time) (always r time)) lent (omega (arith, keys_few (arena r time)));
      answers = answers r time;
    }
