-- A header in order, worker records and node records, one behind the other, are an arena in order, whatever words stand behind it.
use Prim.Native.Nat.{ℕ, ◌+◌, ◌*◌, ◌-◌, ◌≤◌}
use mathlib.Core.Path.{◌≡◌, sym, ap, ◌∙◌}
use mathlib.Core.List.{List, [], ◌++◌, append_assoc}
use mathlib.Core.Bool.{false}
use native.Mathlib.Omega.{arith}
use lib.ListN.{length, take, drop, length-append}
use lib.Seq.{take-add, take-append_seam, drop-append_seam, drop-drop}
use borrow.Author.Tests.{le-ltb, ltb-false}
use Rattle.worker.proofs.RefusalLaws.{none_accepts}
use Rattle.words.specs.Layout.{header_width, worker_width, worker_from, nodes_from, header_with, workers_of, nodes_from_of, total_of, worker_part, node_part}
use Rattle.words.specs.Replies.{accepted, refusing, replied}
use Rattle.words.specs.Header.{HeaderOfSome, is_short, header_refusals}
use Rattle.words.proofs.HeaderLaws.{HeaderIn, or_false, none_of, header_of_some}

module _ (layout width workers nodes stored : ℕ) (records parts past : List ℕ)
    (records_long : length records ≡ worker_width * workers) (parts_long : length parts ≡ width * nodes) where
  abbrev pub laid : List ℕ
  laid = header_with layout workers nodes (nodes_from workers + width * nodes) stored ++ records ++ parts ++ past

  pub laid_long : is_short laid ≡ false
  laid_long =
      let long : nodes_from workers + width * nodes ≤ length laid = rw (length-append, length-append, length-append) (omega arith) in
      rw (le-ltb (length laid) header_width (omega arith), le-ltb (length laid) (nodes_from workers + width * nodes) long)

  -- its parts are those
  pub laid_workers : worker_part laid ≡ records
  unfolding worker_part
  laid_workers =
      let first : take (worker_width * workers) (records ++ parts ++ past) ≡ records
      = rw (sym records_long, append_assoc) (take-append_seam records (parts ++ past)) in
      first

  pub laid_nodes : node_part laid ≡ parts
  unfolding node_part
  laid_nodes =
      let span : nodes_from workers + width * nodes - worker_from workers ≡ length parts = omega (arith, parts_long) in
      let second : take (nodes_from workers + width * nodes - worker_from workers) (drop (worker_width * workers) (records ++ parts ++ past)) ≡ parts
      = rw (span, sym records_long, append_assoc, drop-append_seam records (parts ++ past)) (take-append_seam parts past) in
      ap (take (nodes_from workers + width * nodes - worker_from workers)) (sym (drop-drop (worker_width * workers) header_width laid)) ∙ second

-- an arena with a header that is in order passes the header test
pub passes : (arena : List ℕ) → is_short arena ≡ false → HeaderOfSome arena → replied (header_refusals arena) [] ≡ accepted []
passes arena long some =
    let right = (header_of_some arena (ltb-false _ _ (or_false _ _ long).0)).1 some in
    none_accepts (header_refusals arena) refusing (accepted []) (none_of arena long right)

-- and every arena in order is its header, its worker records and its node records
pub parts_whole : {layout width most : ℕ} (arena : List ℕ) → HeaderIn layout width most arena →
    take (total_of arena) arena ≡ take header_width arena ++ worker_part arena ++ node_part arena
unfolding worker_part node_part
parts_whole arena header =
    let from = nodes_from_of arena in
    let both : total_of arena ≡ from + (total_of arena - from) = omega (arith, header.from, header.end) in
    let front : take from arena ≡ take header_width arena ++ take (worker_width * workers_of arena) (drop header_width arena)
    = rw (header.from, take-add header_width (worker_width * workers_of arena) arena) in
    ap (λ n. take n arena) both ∙ take-add from (total_of arena - from) arena ∙ ap (λ words. words ++ take (total_of arena - from) (drop from arena)) front
