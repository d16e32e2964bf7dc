-- The invariant: the arena, the books, the history and the waits are those of the entries made so far.
use Rattle.schedule.proofs.Running.{Running}
use Rattle.schedule.proofs.run_entries.Given as goal

abbrev pub invariant-loop-done : goal.invariant-loop-done
invariant-loop-done l = Running l.workers l.nodes l.schedule l.initial.history l.initial.waits l.done l.book l.arena l.history l.waits
