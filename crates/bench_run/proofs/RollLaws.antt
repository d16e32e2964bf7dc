-- The roll of an arena that a run has left: there is room for its keys.
use Prim.Native.Nat.{ℕ}
use mathlib.Core.Path.{◌≡◌, ◌∙◌}
use mathlib.Core.List.{List, [], ◌∷◌}
use native.Mathlib.Omega.{arith}
use lib.ListN.{length, replicate, length-replicate}
use Rattle.words.specs.Replies.{refused, accepted}
use Rattle.arena.specs.Snapshot.{keys_of, snapshot_answer, Listed}
use Rattle.linear.proofs.Bridge.{sound_counts}
use Rattle.linear.proofs.Timeline.{Schedule, arena, sound}
use Rattle.linear.proofs.TrueSnapshots.{all_true}

-- a snapshot that lists the set
module _ (words keys : List ℕ) (listed : Listed words keys) where
  pub not_refused : {number : ℕ} → refused number ≡ snapshot_answer words (length keys) → ⊥
  not_refused told = let z : ◌≡◌ {A = ℕ} 0 1 = cc (told, listed.answer) in omega arith

  count_is : {count : ℕ} → accepted (count ∷ []) ≡ snapshot_answer words (length keys) → count ≡ length (keys_of words)
  count_is {count} told = let same : accepted (count ∷ []) ≡ accepted (length (keys_of words) ∷ []) = told ∙ listed.answer in cc

-- an arena that a list of entries has left
pub roll_fits : (r : Schedule) (time : ℕ) → Listed (arena r time) (replicate 1024 0)
roll_fits r time =
    (all_true r time).lists (replicate 1024 0)
    (rw length-replicate (omega (arith, (sound r time).nodes_are, sound_counts r.begins_sound)))
