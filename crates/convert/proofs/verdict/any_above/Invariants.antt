-- The invariant: whether one of the workers that are left is at a higher stage decides.
use Rattle.std.proofs.Common.{◌≡◌, ◌-◌, ltb}
use Rattle.std.specs.List.{list_any}
use Rattle.words.specs.Records.{worker_at}
use Rattle.arena.specs.Lists.{numbers_from}
use Rattle.convert.specs.Convert.{any_above}
use Rattle.convert.proofs.verdict.any_above.Given as goal

abbrev pub invariant-loop-number : goal.invariant-loop-number
invariant-loop-number l =
    list_any (λ worker. ltb l.stage (worker_at l.source.words.now worker).stage) (numbers_from l.number (l.number-end - l.number))
    ≡ any_above l.initial.source.words.now l.initial.stage
