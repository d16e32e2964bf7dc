-- No test holds.
use Rattle.std.proofs.Common.{◌≡◌, true, rules, sym, ◌∙◌}
use borrow.Author.Tests.{le-ltb, leb-true}
use Rattle.words.specs.Layout.{good_counts}
use Rattle.schedule.specs.Run.{run_refusals}
use Rattle.schedule.proofs.EntryLaws.{turns_within, below_or_not}
use Rattle.schedule.proofs.verdict.run_verdict.Goals as goal

pub returns-clause-answer : goal.returns-clause-answer
unfolding run_refusals
returns-clause-answer c =
    let args = c.args in
    let counts = c.in_ok-counts.counts in
    let same : (counts.workers ≡ args.workers) × (counts.nodes ≡ args.nodes) = search rules in
    let good : good_counts args.workers args.nodes ≡ true = rw (same.0, same.1) at counts.good in
    let whole = rw (same.0, same.1) at c.total.ensures in
    rw (
      good,
      sym c.is_bad.ensures ∙ c.if-is_bad.false,
      ← whole,
      le-ltb _ _ c.if-arena-total.false,
      le-ltb _ _ (leb-true _ _ (sym c.has_room.ensures ∙ c.if-not-has_room.false)),
      ← turns_within,
      below_or_not,
      ← c.has_room-2.ensures,
      c.if-not-has_room-2.false,
    )
