-- All entries are at least those of a kind.
use Rattle.std.proofs.Common.{Bool, arith, sym, ap, leb, ◌∙◌}
use borrow.Author.Tests.{le-leb}
use Rattle.worker.specs.Worker.{within}
use Rattle.words.specs.declared.entry.Entry.{Entry}
use Rattle.schedule.proofs.EntryLaws.{counted, count_few}
use Rattle.schedule.proofs.verdict.has_room.Goals as goal

pub returns-then-entries-room : goal.returns-then-entries-room
returns-then-entries-room c =
    let test : Entry → Bool = λ entry. within c.args.low c.args.high entry.act in
    let few = count_few test c.args.schedule.now in
    rw (le-leb _ _ c.if-entries-room.true) (sym (le-leb _ _ (omega (arith, few, c.all-entries.ensures.count, c.if-entries-room.true))))

pub returns-else-entries-room : goal.returns-else-entries-room
returns-else-entries-room c =
    let test : Entry → Bool = λ entry. within c.args.low c.args.high entry.act in
    ap (λ count. leb count c.args.room) (c.acts_in.ensures ∙ (sym (counted test c.all-entries.result.now) ∙ rw c.all-entries.ensures.entries))
