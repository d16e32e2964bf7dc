use mathlib.Core.Path.{◌≡◌, sym, ◌∙◌}
use mathlib.Core.List.{[], ◌∷◌}
use mathlib.Core.Bool.{false}
use native.Mathlib.Omega.{arith}
use native.Mathlib.Nat.{le_refl}
use native.Mathlib.Numerals.{add-one}
use lib.ListN.{length, length-replicate}
use Rattle.words.specs.Layout.{workers_of, nodes_of}
use Rattle.words.specs.Records.{worker_at}
use Rattle.words.proofs.RecordLaws.{found_is}
use Rattle.lazy.specs.Free.{roots_of}
use Rattle.lazy.proofs.WholeSearch.{empty_closed, empty_held, both, swapped, tells}
use Rattle.lazy.proofs.free.search_with.Goals as goal

pub reach_from-head-requires : goal.reach_from-head-requires
reach_from-head-requires c =
    let count = nodes_of c.args.arena.words.now in
    let spans = c.nodes.result.spans in
    let places : length c.args.reached.now ≡ count = rw c.requires (length-replicate count false) in
    record {
      places = rw (places, ← c.nodes.ensures.count) spans;
      so_far = rw (places, c.requires) (empty_closed count (le_refl count), sym (empty_held count count));
    }

pub loop-number-init : goal.loop-number-init
unfolding roots_of
loop-number-init c =
    let tail = c.reach_from-reads.ensures in
    let head = c.reach_from-head.ensures in
    let places : length c.args.reached.now ≡ nodes_of c.args.arena.words.now = rw c.requires (length-replicate _ false) in
    let same = c.reach_from-head.auto.reached ∙ places in (
      c.reach_from-reads.auto.reached ∙ same,
      rw same at tail.counted,
      rw c.requires at (both (rw places at head.walked) (rw same at tail.walked)),
    )

pub loop-number-preserved : goal.loop-number-preserved
unfolding roots_of
loop-number-preserved c =
    let loop = c.loop-number in
    let places = loop.invariant.0 in
    let workers = worker_at c.args.arena.words.now in
    let one = found_is workers (workers_of c.args.arena.words.now) loop.number c.unwrap.result (sym c.worker.ensures ∙ c.unwrap.ensures) in
    let worker = workers loop.number in
    let walked = rw (one.1, places) at c.reach_worker-reads.ensures in (
      c.reach_worker-reads.auto.reached ∙ places,
      walked.counted,
      rw add-one
          (swapped (roots_of workers loop.number) (worker.pred ∷ worker.curr ∷ worker.spare ∷ [])
          (both loop.invariant.2 walked.walked)),
    )

pub returns : goal.returns
returns c =
    let loop = c.loop-number in
    let all : loop.number ≡ workers_of c.args.arena.words.now = omega (arith, c.worker_count-number-end.ensures) in
    let told = tells _ (rw all at loop.invariant.2) in
    rw (c.lowest_unreached.ensures, loop.invariant.0, told.0, loop.invariant.1, told.1, c.nodes.ensures.words)
