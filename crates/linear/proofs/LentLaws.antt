-- What init leaves in a lent slice goes the way of a fresh arena, with the words past the total behind it.
use Prim.Native.Nat.{ℕ, zero, suc, ◌-◌}
use mathlib.Core.Path.{◌≡◌, sym, ap, ◌∙◌}
use mathlib.Core.List.{List, [], ◌++◌}
use mathlib.Core.Bool.{true}
use lib.ListN.{drop}
use Rattle.worker.proofs.RefusalLaws.{NoneHolds}
use Rattle.words.specs.Layout.{total, good_counts}
use Rattle.words.specs.Header.{header_refusals}
use Rattle.words.specs.Replies.{accepted}
use Rattle.words.proofs.Judged.{judged_accepted}
use Rattle.words.specs.declared.entry.Entry.{Entry}
use Rattle.arena.specs.Init.{fresh_words, init_refusals, init_answer, init_arena}
use Rattle.arena.specs.Sets.{set_of}
use Rattle.arena.specs.AtRest.{SoundAtRest}
use Rattle.arena.proofs.FreshLaws.{init_passed}
use Rattle.linear.specs.Entries.{event_of, after}
use Rattle.linear.specs.History.{entry_at, arena_at, event_at}
use Rattle.linear.specs.Lent.{Unseen, AsFresh, LaidAsFresh}
use Rattle.linear.proofs.Longer.{set_same, rests_longer, unseen}
use Rattle.linear.proofs.FreshAtRest.{fresh_sound, fresh_set, fresh_rests}
use Rattle.linear.proofs.Timeline.{fresh_schedule, sound}
use Rattle.linear.proofs.Theorem.{from_rest}

module _ (lent : List ℕ) (workers nodes : ℕ) (entries : List Entry) (accepts : init_answer lent workers nodes ≡ accepted []) where
  good : good_counts workers nodes ≡ true
  unfolding init_answer
  good = (init_passed lent workers nodes (sym accepts)).0

  -- what init leaves: a fresh arena, and the words past the total
  abbrev fresh : List ℕ
  fresh = fresh_words workers nodes

  abbrev past : List ℕ
  past = drop (total workers nodes) lent

  left : init_arena lent workers nodes ≡ fresh ++ past
  unfolding init_arena init_answer
  left = judged_accepted (init_refusals lent workers nodes) [] (λ number. lent) _ (sym accepts)

  passes : NoneHolds (header_refusals fresh)
  passes = (fresh_sound workers nodes good).none

  -- it is sound and at rest, and its set is empty
  left_rests : SoundAtRest (init_arena lent workers nodes)
  left_rests = rw left (rests_longer fresh past passes (fresh_rests workers nodes good))

  left_set : set_of (init_arena lent workers nodes) ≡ []
  left_set = ap set_of left ∙ set_same fresh past passes ∙ fresh_set workers nodes good

  -- from time to time the words past the total are not looked at, and stay
  unseen_at : (time : ℕ) (entry : Entry) → Unseen (arena_at fresh entries time) past entry
  unseen_at time entry =
      unseen (arena_at fresh entries time) past (sound (fresh_schedule workers nodes entries good) time).none entry

  same_words : (time : ℕ) → arena_at (init_arena lent workers nodes) entries time ≡ arena_at fresh entries time ++ past
  unfolding arena_at
  same_words zero = left
  same_words (suc time) =
      let entry = entry_at entries (suc time) in
      ap (λ words. after words entry) (same_words time) ∙ (unseen_at time entry).same_words

  same_events : (time : ℕ) → event_at (init_arena lent workers nodes) entries time ≡ event_at fresh entries time
  unfolding event_at
  same_events time =
      let entry = entry_at entries time in
      ap (λ words. event_of words entry) (same_words (time - 1)) ∙ (unseen_at (time - 1) entry).same_event

  goes_as_fresh : AsFresh lent workers nodes entries
  goes_as_fresh =
      record {
        events = same_events;
        words = same_words;
        at_rest = left_rests;
        works = rw (← left_set) (from_rest (init_arena lent workers nodes) entries left_rests);
      }

pub as_fresh : LaidAsFresh
as_fresh = goes_as_fresh
