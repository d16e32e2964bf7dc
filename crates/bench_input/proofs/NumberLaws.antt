-- Laws of numbers read digit by digit.
use Rattle.std.proofs.Common.{◌≡◌, ℕ, ◌<◌, ◌≤◌, cond, ◌&&◌, leb, List, [], ◌∷◌, Option, Some, None, fold, arith, length, get_or, drop, drop-cons, suc}
use Rattle.std.proofs.Math.Nat.{le_refl, le_trans}
use Rattle.std.proofs.Math.Bool.{and-false}
use Rattle.std.proofs.lemmas.Bool.{lt-leb}
use Rattle.bench_input.specs.Numbers.{all_digits, shifted}

-- what is made of the digits that are left, where those before them are worth `value`
abbrev pub value_from : ℕ → List ℕ → Option ℕ
value_from value text = cond (all_digits text && leb (fold shifted value text) 65535) (Some (fold shifted value text)) None

-- no digit makes a value smaller
grows : (value : ℕ) (text : List ℕ) → value ≤ fold shifted value text
grows value [] = le_refl value
grows value (byte ∷ text) = le_trans (omega arith) (grows (shifted value byte) text)

-- a digit that makes the value too large leaves no number, whatever stands behind it
pub too_large : (value : ℕ) (text : List ℕ) (i : ℕ) → i < length text → 65535 < shifted value (get_or text i 0) →
    value_from value (drop i text) ≡ None
too_large value text i h k =
    let behind = drop (suc i) text in
    let next = shifted value (get_or text i 0) in
    rw (drop-cons text i 0 h, lt-leb (fold shifted next behind) 65535 (le_trans k (grows next behind)), and-false _)
