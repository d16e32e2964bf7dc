-- Three walks, one after the other.
use Rattle.lazy.proofs.WholeSearch.{both}
use Rattle.lazy.proofs.free.reach_worker.Goals as goal

pub returns-clause-walked : goal.returns-clause-walked
returns-clause-walked c =
    let first = c.reach_from-first.auto.reached in
    let second = c.reach_from-second.auto.reached in
    both (both c.reach_from-first.ensures.walked (rw first at c.reach_from-second.ensures.walked))
    (rw (second, first) at c.reach_from.ensures.walked)
