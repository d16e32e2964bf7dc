-- The invariant: the workers before this one have been asked.
use Rattle.std.proofs.Common.{◌≡◌}
use Rattle.words.specs.Records.{worker_at}
use Rattle.schedule.specs.Book.{with_absent, missed}
use Rattle.schedule.proofs.book.Book.miss.Given as goal

abbrev pub invariant-loop-v : goal.invariant-loop-v
invariant-loop-v l = l.self ≡ with_absent l.initial.self (missed (worker_at l.arena) l.v l.key l.time l.initial.self.absent)
