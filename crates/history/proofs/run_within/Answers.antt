-- What is said of the parts of the words holds of the whole, and of the room that is lent.
use Prim.Native.Nat.{◌*◌, ◌-◌}
use native.Mathlib.Omega.{arith}
use lib.ListN.{take, length-take}
use Rattle.history.proofs.FlatLaws.{ran_within}
use Rattle.history.proofs.run_within.Goals as goal

pub returns : goal.returns
returns c =
    let args = c.args in
    let run = c.run in
    let calls = take (7 * c.min-call_room.result - 0) args.history.now in
    let waits = take (4 * c.min-wait_room.result - 0) args.waited.now in
    ran_within _ _ _ _ _ _ _ _ calls waits _ _
    run.ensures.answer run.ensures.words run.ensures.calls run.ensures.waits run.ensures.linearizable
    run.auto.history run.auto.waits (rw length-take (omega arith)) (rw length-take (omega arith)) _ _
