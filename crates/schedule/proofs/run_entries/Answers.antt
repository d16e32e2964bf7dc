-- What holds between two entries begins with the fresh arena, and at the end it says what the run leaves.
use Rattle.std.proofs.Common.{◌≡◌, ◌<◌, length, subst, ◌∙◌, arith}
use Rattle.words.proofs.EntryLaws.{entries_quotient}
use Rattle.words.specs.Entries.{entries_of}
use Rattle.schedule.proofs.Running.{Running, begins, may_enter, entered, history_end, waits_end, totals_end}
use Rattle.schedule.proofs.run_entries.Goals as goal

pub loop-done-init : goal.loop-done-init
loop-done-init c =
    let args = c.args in
    rw (c.new-book.ensures, c.init.ensures.words)
    (begins args.workers args.nodes args.schedule.now args.history.now args.waits.now args.arena.now c.requires.good c.requires.just_its_words)

-- each entry may be made
pub enter-requires : goal.enter-requires
enter-requires c =
    let args = c.args in
    let all = c.all-entries.ensures in
    let there : c.loop-done.done < length (entries_of args.schedule.now) = omega (arith, c.loop-done-test.true, all.count, entries_quotient args.schedule.now) in
    let may = may_enter args.workers args.nodes args.schedule.now args.history.now args.waits.now c.loop-done.invariant there c.all-entries.result.now all.entries c.requires.few_entries in
    rw c.first-entry.ensures (record { roomy = may.0; in_order = may.1 })

pub loop-done-preserved : goal.loop-done-preserved
loop-done-preserved c =
    let args = c.args in
    let all = c.all-entries.ensures in
    let there : c.loop-done.done < length (entries_of args.schedule.now) = omega (arith, c.loop-done-test.true, all.count, entries_quotient args.schedule.now) in
    let enter = c.enter.ensures in
    entered args.workers args.nodes args.schedule.now args.history.now args.waits.now c.loop-done.invariant there c.all-entries.result.now all.entries
    c.requires.room_for_calls c.requires.room_for_waits
    (rw c.first-entry.ensures at enter.words) (rw c.first-entry.ensures at enter.calls) (rw c.first-entry.ensures at enter.waits) (rw c.first-entry.ensures at enter.books)

pub returns : goal.returns
returns c =
    let args = c.args in
    let loop = c.loop-done in
    let count : length c.all-entries.result.now ≡ length (entries_of args.schedule.now) = c.all-entries.ensures.count ∙ entries_quotient args.schedule.now in
    let all : loop.done ≡ length (entries_of args.schedule.now) = omega (arith, loop.invariant.past, count, c.loop-done-test.false) in
    let end =
    subst
    (λ done. Running args.workers args.nodes args.schedule.now args.history.now args.waits.now done
    loop.book loop.arena loop.history loop.waits) all loop.invariant in
    record {
      words = end.arena_is;
      calls = history_end args.workers args.nodes args.schedule.now args.history.now args.waits.now end;
      waits = waits_end args.workers args.nodes args.schedule.now args.history.now args.waits.now end;
      totals = rw count (totals_end args.workers args.nodes args.schedule.now args.history.now args.waits.now end);
    }
