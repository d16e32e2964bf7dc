-- A refusal is the verdict's; otherwise the entries are run in just the words of the arena, and the others stay.
use Prim.Native.Nat.{◌-◌, ◌/◌}
use mathlib.Core.Path.{◌≡◌, sym, ◌∙◌}
use mathlib.Core.List.{[]}
use native.Mathlib.Omega.{arith}
use lib.ListN.{length}
use lib.Seq.{length-take-le}
use Rattle.std.proofs.lemmas.Result.{err_from_is_err_and}
use Rattle.words.specs.Layout.{total}
use Rattle.words.proofs.Judged.{judged_refused, judged_accepted}
use Rattle.words.specs.Entries.{entries_of}
use Rattle.linear.proofs.Theorem.{linearizable}
use Rattle.schedule.specs.Run.{call_width, wait_width, run_refusals, run_answer, run_arena, row_after}
use Rattle.schedule.proofs.HistoryLaws.{run_passed}
use Rattle.schedule.proofs.run.Goals as goal

pub returns-in_err-counts : goal.returns-in_err-counts
unfolding run_answer run_arena row_after
returns-in_err-counts c =
    let args = c.args in
    let refusals = run_refusals args.arena.now args.workers args.nodes args.schedule.now
    (length args.history.now / call_width) (length args.waits.now / wait_width) in
    let told = c.in_err-counts.ensures.answer in
    record {
      answer = let p = err_from_is_err_and c.from_residual.result c.from_residual.ensures.1 in rw (p.1, p.2) (sym (judged_refused refusals [] _ _ told));
      words = sym (judged_refused refusals [] _ _ told);
      calls = sym (judged_refused refusals [] _ _ told);
      waits = sym (judged_refused refusals [] _ _ told);
      linearizable = let p = err_from_is_err_and c.from_residual.result c.from_residual.ensures.1 in rw p.1 tt;
    }

pub slice_bounds-run_entries-end : goal.slice_bounds-run_entries-end
slice_bounds-run_entries-end c =
    let args = c.args in
    let passed = run_passed args.arena.now args.workers args.nodes args.schedule.now (length args.history.now / call_width)
    (length args.waits.now / wait_width) [] c.in_ok-counts.ensures.answer in
    let same = c.in_ok-counts.ensures.counts in
    let end : c.total-end.result ≡ total args.workers args.nodes = rw (same.0, same.1) at c.total-end.ensures in
    omega (arith, passed.fits)

pub run_entries-requires : goal.run_entries-requires
run_entries-requires c =
    let args = c.args in
    let passed = run_passed args.arena.now args.workers args.nodes args.schedule.now (length args.history.now / call_width)
    (length args.waits.now / wait_width) [] c.in_ok-counts.ensures.answer in
    let end = c.total-end in
    let same = c.in_ok-counts.ensures.counts in
    let whole : end.result ≡ total args.workers args.nodes = rw (same.0, same.1) at end.ensures in
    let just : end.result - 0 ≡ total args.workers args.nodes = omega arith in
    record {
      good = passed.counts;
      just_its_words = rw just (length-take-le _ args.arena.now passed.fits);
      few_entries = passed.short;
      room_for_calls = omega (arith, passed.calls_fit);
      room_for_waits = omega (arith, passed.waits_fit);
    }

pub returns : goal.returns
unfolding run_answer run_arena row_after
returns c =
    let args = c.args in
    let passed = run_passed args.arena.now args.workers args.nodes args.schedule.now (length args.history.now / call_width)
    (length args.waits.now / wait_width) [] c.in_ok-counts.ensures.answer in
    let refusals = run_refusals args.arena.now args.workers args.nodes args.schedule.now
    (length args.history.now / call_width) (length args.waits.now / wait_width) in
    let told = c.in_ok-counts.ensures.answer in
    let end = c.total-end in
    let ran = c.run_entries.ensures in
    let same = c.in_ok-counts.ensures.counts in
    let whole : end.result ≡ total args.workers args.nodes = rw (same.0, same.1) at end.ensures in
    let just : end.result - 0 ≡ total args.workers args.nodes = omega arith in
    record {
      answer = rw ran.totals (sym (judged_accepted refusals [] _ _ told));
      words = rw (ran.words, just) (sym (judged_accepted refusals [] _ _ told));
      calls = ran.calls ∙ sym (judged_accepted refusals [] _ _ told);
      waits = ran.waits ∙ sym (judged_accepted refusals [] _ _ told);
      linearizable = linearizable args.workers args.nodes (entries_of args.schedule.now) passed.counts;
    }
