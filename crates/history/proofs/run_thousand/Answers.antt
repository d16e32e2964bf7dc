-- The rows begin blank.
use Rattle.std.proofs.lemmas.List.{length-replicate}
use Rattle.history.proofs.RowLaws.{blank_call, blank_wait}
use Rattle.history.proofs.run_thousand.Goals as goal

pub returns-clause-calls : goal.returns-clause-calls
returns-clause-calls c = rw (length-replicate, blank_call _ c.default.ensures) at c.run-ran.ensures.calls

pub returns-clause-waits : goal.returns-clause-waits
returns-clause-waits c = rw (length-replicate, blank_wait _ c.default-2.ensures) at c.run-ran.ensures.waits
