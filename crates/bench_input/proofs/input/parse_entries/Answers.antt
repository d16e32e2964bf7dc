use Rattle.std.proofs.Common.{◌≡◌, ◌+◌, ◌==◌, ℕ, length, length-append, Err, ap, ◌∙◌, arith, rules, of_calls}
use Rattle.std.specs.Iterator.Adapters.{zip_first, zip_second}
use Rattle.std.specs.Slice.Iter.{split_inclusive_rest}
use Rattle.std.proofs.lemmas.Fn.{always_returns_same}
use Rattle.bench_input.specs.Bytes.{line_feed}
use Rattle.bench_input.proofs.ByteLaws.{Cut, marked, unmarked}
use Rattle.bench_input.proofs.InputLaws.{nothing_read, read_not_ended, read_line, read_all}
use Rattle.bench_input.proofs.input.parse_entries.Goals as goal
use Rattle.bench_input.proofs.input.parse_entries.Goals.{In-Some}

pub loop-number-init : goal.loop-number-init
loop-number-init c =
    let made = c.zip-number-items.ensures in
    let all = c.split_inclusive.ensures.rest in
    record {
      few = omega arith;
      numbered = grind arith;
      read = rw (c.into_iter-number-iterator.ensures.into_iter_gives, made.first, made.second, all) (nothing_read _ _ _ _);
    }

-- what `next` cuts off
cut : (c : In-Some) → Cut line_feed
    (split_inclusive_rest (zip_second c.loop-number.number-iterator)) c.in-Some.part.now (split_inclusive_rest (zip_second c.next.new.self))
cut c =
    let step = rw c.in-Some.is at c.next.ensures.steps in
    let place = step.1.1 in
    record {
      at = place.0;
      whole = step.1.0;
      until = place.1;
      found = (place.2 (λ byte. byte == line_feed) (always_returns_same _ _ _ (λ a r f k. search (rules, of_calls)))).1;
      some = step.1.2;
    }

pub returns-in_err-line : goal.returns-in_err-line
returns-in_err-line c =
    let cut = cut (goal.at.returns-in_err-line c).In-Some in
    let failed : c.from_residual.result ≡ Err (record { 0 = (zip_first c.loop-number.number-iterator).start }) = grind arith in
    let strip = rw c.in_err-line.ensures.ok_part at c.strip_suffix.ensures.cases in
    let both = read_not_ended _ _ c.loop-number.invariant.read (unmarked cut strip) cut.some in
    record { answer = failed ∙ both.0; words = both.1 }

pub returns-in_err-entries : goal.returns-in_err-entries
returns-in_err-entries c =
    let write = c.write_line.ensures in
    let cut = cut (goal.at.returns-in_err-entries c).In-Some in
    let failed : c.from_residual-in_err-entries.result ≡ Err (record { 0 = (zip_first c.loop-number.number-iterator).start }) = grind arith in
    let strip = rw c.in_ok-line.ensures.ok_part at c.strip_suffix.ensures.cases in
    let both = rw c.in_err-entries.ensures.ok_part at (read_line _ _ c.loop-number.invariant.read _ _ _ _ (marked cut _ strip) write.count write.words) in
    record { answer = failed ∙ both.0; words = both.1 }

pub loop-number-preserved : goal.loop-number-preserved
loop-number-preserved c =
    let write = c.write_line.ensures in
    let cut = cut (goal.at.loop-number-preserved c).In-Some in
    let next : (zip_first c.next.new.self).start ≡ (zip_first c.loop-number.number-iterator).start + 1 = grind arith in
    let strip = rw c.in_ok-line.ensures.ok_part at c.strip_suffix.ensures.cases in
    let both = rw c.in_ok-entries.ensures.ok_part at (read_line _ _ c.loop-number.invariant.read _ _ _ _ (marked cut _ strip) write.count write.words) in
    record {
      few = both.0;
      numbered = omega (arith, cut.until, cut.some, ap length cut.whole, length-append {A = ℕ});
      read = rw next both.1;
    }

pub returns : goal.returns
returns c =
    let both = read_all _ _ c.loop-number.invariant.read (grind arith) in
    record { answer = both.0; words = both.1 }
