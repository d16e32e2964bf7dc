-- The first and the last of some times in a row at which a test holds.
use Rattle.std.specs.Prelude.{ℕ, zero, suc, Bool, cond}

-- the first of so many times from `time` on at which a test holds; 0 where it holds at none
unfoldable pub first : (ℕ → Bool) → ℕ → ℕ → ℕ
first test time zero = 0
first test time (suc left) = let onward = first test (suc time) left in cond (test time) time onward

-- the last of the times from 1 to `time` at which a test holds; 0 where it holds at none
unfoldable pub latest : (ℕ → Bool) → ℕ → ℕ
latest test zero = 0
latest test (suc time) = let earlier = latest test time in cond (test (suc time)) (suc time) earlier
