-- The invariant: those counted among the entries so far.
use Rattle.std.proofs.Common.{◌≡◌, take}
use Rattle.std.specs.List.{count_by}
use Rattle.worker.specs.Worker.{within}
use Rattle.words.specs.Entries.{first_entry}
use Rattle.schedule.proofs.verdict.acts_in.Given as goal

abbrev pub invariant-loop-words : goal.invariant-loop-words
invariant-loop-words l = l.count ≡ count_by (λ words. within l.low l.high (first_entry words).act) (take l.words-index l.entries)
