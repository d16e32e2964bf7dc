-- The invariant: to read the lines that are left, behind the entries so far, gives the whole.
use Rattle.std.proofs.Common.{◌+◌, ◌≤◌, length}
use Rattle.std.specs.Iterator.Adapters.{zip_first, zip_second}
use Rattle.std.specs.Slice.Iter.{split_inclusive_rest}
use Rattle.words.specs.Entries.{most_entries}
use Rattle.bench_input.proofs.InputLaws.{Read}
use Rattle.bench_input.proofs.input.parse_entries.Given as goal

abbrev pub invariant-loop-number : goal.invariant-loop-number
invariant-loop-number l =
    let line = (zip_first l.number-iterator).start in
    let rest = split_inclusive_rest (zip_second l.number-iterator) in
    record {
      few : l.entries ≤ most_entries;
      numbered : line + length rest ≤ length l.text + 2;
      read : Read l.workers l.nodes l.text l.initial.schedule rest l.schedule line l.entries;
    }
