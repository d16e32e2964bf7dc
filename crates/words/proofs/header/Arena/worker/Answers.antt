-- The header has the records of W workers behind it.
use native.Mathlib.Omega.{arith}
use Rattle.words.proofs.HeaderLaws.{header_holds}
use Rattle.words.proofs.header.Arena.worker.Goals as goal

pub read_whole_worker-requires : goal.read_whole_worker-requires
read_whole_worker-requires c =
    let header = header_holds c.args.self.words.now c.args.self.tested in
    omega (arith, header.whole, header.end, c.worker_count.ensures, c.if-worker_count-number.false)
