-- The parts of the text, one behind the other.
use Prim.Native.Nat.{ℕ, ◌-◌}
use mathlib.Core.Path.{◌≡◌, sym, ap, ◌∙◌}
use native.Mathlib.Omega.{arith}
use lib.ListN.{length-replicate}
use Rattle.words.specs.Layout.{total}
use Rattle.words.specs.Replies.{reply}
use Rattle.schedule.specs.Run.{totals_values}
use Rattle.history.proofs.RowLaws.{blank_call, blank_wait}
use Rattle.bench_print.proofs.PrintLaws.{prints_then}
use Rattle.bench_run.proofs.OutputLaws.{passed, refused_text_lem, few_calls, few_waits, arena_are, roll_room, whole_text}
use Rattle.bench_run.proofs.print_schedule.Goals as goal

pub returns-in-Err : goal.returns-in-Err
returns-in-Err c =
    let args = c.args in
    let told = sym (ap (reply totals_values) c.in-Err.is) ∙ c.run.ensures.answer in
    rw (← refused_text_lem args.workers args.nodes args.schedule.now told) (rw c.from.ensures at c.print_refused.ensures)

-- the rows have room for the calls and the waits, and the arena's own words are inside
pub slice_bounds-calls-end : goal.slice_bounds-calls-end
slice_bounds-calls-end c =
    let args = c.args in
    let done = sym (ap (reply totals_values) c.in-Ok.is) ∙ c.run.ensures.answer in
    omega (arith, few_calls args.workers args.nodes args.schedule.now c.in-Ok.totals done)

pub slice_bounds-waits-end : goal.slice_bounds-waits-end
slice_bounds-waits-end c =
    let args = c.args in
    let done = sym (ap (reply totals_values) c.in-Ok.is) ∙ c.run.ensures.answer in
    omega (arith, few_waits args.workers args.nodes args.schedule.now c.in-Ok.totals done)

pub slice_bounds-print_roll-end : goal.slice_bounds-print_roll-end
slice_bounds-print_roll-end c =
    let args = c.args in
    let done = sym (ap (reply totals_values) c.in-Ok.is) ∙ c.run.ensures.answer in
    let room = (passed args.workers args.nodes args.schedule.now c.in-Ok.totals done).fits in
    omega (arith, c.total-end.ensures, c.run.auto.arena, length-replicate {A = ℕ})

pub print_roll-requires : goal.print_roll-requires
print_roll-requires c =
    let args = c.args in
    let done = sym (ap (reply totals_values) c.in-Ok.is) ∙ c.run.ensures.answer in
    let totals = c.in-Ok.totals in
    let end : c.total-end.result - 0 ≡ total args.workers args.nodes = omega (arith, c.total-end.ensures) in
    rw (end, c.run.ensures.words, arena_are args.workers args.nodes args.schedule.now totals done)
    (roll_room args.workers args.nodes args.schedule.now totals done)

pub returns-in-Ok : goal.returns-in-Ok
returns-in-Ok c =
    let args = c.args in
    let done = sym (ap (reply totals_values) c.in-Ok.is) ∙ c.run.ensures.answer in
    let totals = c.in-Ok.totals in
    let row = rw (length-replicate, blank_call _ c.default-row.ensures) at c.run.ensures.calls in
    let waits = rw (length-replicate, blank_wait _ c.default-waits.ensures) at c.run.ensures.waits in
    let calls_end : c.from-in-Ok.result - 0 ≡ totals.calls = omega arith in
    let waits_end : c.from-in-Ok-2.result - 0 ≡ totals.waits = omega arith in
    let end : c.total-end.result - 0 ≡ total args.workers args.nodes = omega (arith, c.total-end.ensures) in
    let calls = rw (calls_end, waits_end) at c.print_calls.ensures in
    rw (← whole_text args.workers args.nodes args.schedule.now totals done row waits c.run.ensures.words end)
    (prints_then (prints_then c.print_totals.ensures calls) c.print_roll.ensures)
