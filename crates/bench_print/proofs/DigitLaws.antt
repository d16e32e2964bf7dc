-- A number up to 65,535 has the digits that the library prints of it: one digit, or one more than its tens have.
use Prim.Native.Nat.{ℕ, ◌*◌, ◌/◌, ◌%◌, ◌≤◌, ◌<◌, ◌^◌}
use mathlib.Core.Path.{◌≡◌}
use mathlib.Core.List.{[], ◌∷◌, ◌++◌}
use native.Mathlib.Omega.{arith}
use borrow.Author.Tests.{lt-leb, le-leb}
use Rattle.std.proofs.Math.Nat.{div-div-eq-div-mul}
use Rattle.std.proofs.lemmas.Fmt.{decimal_digit, decimal_step}
use Rattle.std.specs.Fmt as fmt
use Rattle.bench_print.specs.Print.{decimal, digit, digit_at}

one_digit : (n : ℕ) → n < 10 → decimal n ≡ fmt.decimal n
unfolding decimal digit_at
one_digit n low =
    let same : n % 10 ≡ n = omega arith in
    rw (lt-leb 10000 n (omega arith), lt-leb 1000 n (omega arith), lt-leb 100 n (omega arith), lt-leb 10 n low, same, decimal_digit n low)

digit_there : (place n : ℕ) → place ≤ n → digit_at place n ≡ digit (n / place % 10) ∷ []
unfolding digit_at
digit_there place n there = rw (le-leb place n there)

no_digit : (place n : ℕ) → n < place → digit_at place n ≡ []
unfolding digit_at
no_digit place n short = rw (lt-leb place n short)

digit_of_tens : (place n : ℕ) → digit_at (10 * place) n ≡ digit_at place (n / 10)
digit_of_tens place n = grind (arith, digit_there, no_digit, div-div-eq-div-mul n 10 place)

last_digit : (n : ℕ) → 10 ≤ n → n < 100000 → decimal n ≡ decimal (n / 10) ++ (digit (n % 10) ∷ [])
unfolding decimal
last_digit n low high =
    rw (digit_of_tens 1000 n, digit_of_tens 100 n, digit_of_tens 10 n, digit_there 10 n low, no_digit 10000 (n / 10) (omega arith))

digit_more : (most : ℕ) → most ≤ 10000 → ((n : ℕ) → n < most → decimal n ≡ fmt.decimal n) →
    (n : ℕ) → n < 10 * most → decimal n ≡ fmt.decimal n
digit_more most few shorter n below =
    grind (arith, one_digit n, last_digit n, shorter (n / 10), decimal_step n)

pub decimal_is : (n : ℕ) → n < 2 ^ 16 → decimal n ≡ fmt.decimal n
decimal_is n small =
    digit_more 10000 (omega arith)
    (digit_more 1000 (omega arith) (digit_more 100 (omega arith) (digit_more 10 (omega arith) one_digit)))
    n (omega arith)
