-- Laws that several proofs cite.
use Prim.Native.Nat.{ℕ, ◌≤◌}
use mathlib.Core.Path.{◌≡◌}
use mathlib.Core.Bool.{true, and-eq-true_iff}
use lib.Dec.{leb}
use borrow.Author.Tests.{le-leb, leb-true}
use Rattle.worker.specs.Worker.{within, add, contains, is_key, carries, is_call}

-- a range's test, decided by the bounds
module _ (low high n : ℕ) where
  pub in_range : low ≤ n → n ≤ high → within low high n ≡ true
  in_range h k = rw (le-leb low n h, le-leb n high k)

  -- and the other way round
  pub range_bounds : within low high n ≡ true → (low ≤ n) × (n ≤ high)
  range_bounds e =
      let both = (and-eq-true_iff (leb low n) (leb n high)).0 e in (leb-true low n both.0, leb-true n high both.1)

-- what is known of a call
pub call_parts : (operation key length : ℕ) → is_call operation key length ≡ true →
    (within add contains operation ≡ true) × (is_key key ≡ true) × (carries operation key length ≡ true)
call_parts operation key length call =
    let all = (and-eq-true_iff _ (carries operation key length)).0 call in
    let both = (and-eq-true_iff (within add contains operation) (is_key key)).0 all.0 in
    (both.0, both.1, all.1)
