-- A bad line, or the schedule of a plan.
use Prim.Native.Nat.{ℕ, ◌*◌, ◌-◌}
use mathlib.Core.Path.{◌≡◌}
use native.Mathlib.Omega.{arith}
use lib.ListN.{length-replicate}
use Rattle.words.specs.Entries.{entry_width}
use Rattle.bench_run.proofs.OutputLaws.{bad_text, plan_fits, plan_text}
use Rattle.bench_run.proofs.print_answer.Goals as goal

pub slice_bounds-print_schedule-end : goal.slice_bounds-print_schedule-end
slice_bounds-print_schedule-end c =
    let fits = plan_fits c.args.input.now c.in-Ok.plan c.parse.new.schedule c.in-Ok.ensures.answer c.parse.ensures.words in
    omega (arith, c.parse.auto.schedule, length-replicate {A = ℕ})

pub returns-in-Err : goal.returns-in-Err
returns-in-Err c = rw (← bad_text c.args.input.now c.in-Err.ensures.answer) c.print_bad_line.ensures

pub returns-in-Ok : goal.returns-in-Ok
returns-in-Ok c =
    let parse = c.parse in
    let plan = c.in-Ok.plan in
    let end : entry_width * c.from-end.result - 0 ≡ entry_width * plan.entries = omega arith in
    rw (← plan_text c.args.input.now plan parse.new.schedule c.in-Ok.ensures.answer parse.ensures.words)
    (rw end at c.print_schedule.ensures)
