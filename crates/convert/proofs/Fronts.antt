-- The words before the node records, and how large the offsets of the layout wanted get.
use Prim.Native.Nat.{ℕ, ◌*◌, ◌-◌, ◌≤◌}
use mathlib.Core.Path.{◌≡◌, ◌∙◌}
use mathlib.Core.List.{List, ◌++◌}
use mathlib.Core.Bool.{Bool, true, false, cond}
use native.Mathlib.Omega.{arith}
use native.Mathlib.Nat.{zero-add}
use lib.ListN.{length, take, drop, length-append, length-drop}
use lib.Seq.{sets, sets-eq, take-add, length-take-le}
use borrow.Rule.Slice.PartMut.{put_mid}
use Rattle.words.specs.Layout.{worker_from, workers_of, nodes_of, worker_part}
use Rattle.words.proofs.Runs.{part_sets, sets_append}
use Rattle.convert.specs.Layouts.{number, total_words, new_header}
use Rattle.convert.specs.Members.{with_front}
use Rattle.convert.proofs.Accepted.{Ordered}

-- a first part that was written, and the part behind it that is written then, are one run of words
pub parts_run : (front part target : List ℕ) (from end : ℕ) → length front ≡ from → from ≤ end → end ≤ length target → length part ≡ end - from →
    put_mid from (end - from) (front ++ drop from target) part ≡ sets target 0 (front ++ part)
parts_run front part target from end first h k second =
    let long : length (front ++ drop from target) ≡ length target = rw (length-append, length-drop, first) (omega arith) in
    part_sets part (front ++ drop from target) from end h (rw long k) second
    ∙ rw (sets_append front part target 0, sets-eq front target 0 (omega arith), zero-add, first)

module _ (has_lengths : Bool) (source : List ℕ) (header : Ordered has_lengths source) where
  -- an arena has all words before its node records
  pub front_long : length (take (worker_from (workers_of source)) source) ≡ worker_from (workers_of source)
  front_long = length-take-le (worker_from (workers_of source)) source (omega (arith, header.end, header.whole))

  -- with another layout, total and count they are another header, and the same worker records
  pub front_rewritten : (wanted : Bool) (stored : ℕ) →
      with_front (take (worker_from (workers_of source)) source) (number wanted) (total_words wanted (workers_of source) (nodes_of source)) (cond wanted stored 0)
      ≡ new_header wanted (workers_of source) (nodes_of source) stored ++ worker_part source
  unfolding new_header worker_part
  front_rewritten wanted stored = rw (take-add 8 (8 * workers_of source) source, header.own)

  -- every offset of the other arena fits a word
  pub new_total_fits : (wanted : Bool) → total_words wanted (workers_of source) (nodes_of source) ≤ 65535
  new_total_fits true = omega (arith, header.good)
  new_total_fits false = omega (arith, header.good)
