-- The invariant: the digits that are left, behind what those before them are worth, decide.
use Rattle.std.proofs.Common.{◌≡◌, ◌≤◌, drop}
use Rattle.bench_input.specs.Numbers.{digits_value}
use Rattle.bench_input.proofs.NumberLaws.{value_from}
use Rattle.bench_input.proofs.numbers.digits_value.Given as goal

abbrev pub invariant-loop-byte : goal.invariant-loop-byte
invariant-loop-byte l = (l.value ≤ 65535) × (digits_value l.text ≡ value_from l.value (drop l.byte-index l.text))
