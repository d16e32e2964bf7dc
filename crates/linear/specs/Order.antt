-- The order of the calls that have a point (document 01: in the order of their points, within one moment as above).
use Rattle.std.specs.Prelude.{ℕ, suc, ◌≤◌, ◌<◌, ◌≡◌, ◌⊎◌, Bool, cond, not, ◌&&◌, ◌||◌, leb, ltb, eqb}
use Rattle.std.specs.List.{filter}
use mathlib.Core.List.{List, [], ◌∷◌, Permᴰ}
use Rattle.words.specs.declared.entry.Entry.{Entry}
use Rattle.arena.specs.Lists.{Pairs}
use Rattle.linear.specs.History.{Call, is_late, calls}

abbrev pub has_point : Call → Bool
has_point call = not (eqb call.point 0)

-- in one time the call whose turn it was comes first, then the contains calls that answered no, by worker number
abbrev pub rank : Call → ℕ
rank call = cond (is_late call.operation call.answer) (suc call.worker) 0

-- by point, and within one time by rank
abbrev pub Before : Call → Call → Type 0
Before a b = (a.point < b.point) ⊎ ((a.point ≡ b.point) × (rank a ≤ rank b))

-- the same, tested
unfoldable pub goes_before : Call → Call → Bool
goes_before a b = ltb a.point b.point || (eqb a.point b.point && leb (rank a) (rank b))

-- a sort, by putting each call in its place
unfoldable pub inserted : Call → List Call → List Call
inserted call [] = call ∷ []
inserted call (other ∷ others) = let later = inserted call others in cond (goes_before call other) (call ∷ other ∷ others) (other ∷ later)

unfoldable pub sorted : List Call → List Call
sorted [] = []
sorted (call ∷ others) = inserted call (sorted others)

-- calls without a point are left out
unfoldable pub in_order : List ℕ → List Entry → List Call
in_order initial entries = sorted (filter has_point (calls initial entries))

-- that it is the order (`OrderLaws.ordered`): no call with a point is left out or counted twice, and each is before the later ones
pub record Ordered (initial : List ℕ) (entries : List Entry) : Type 0 where
  pub same_calls : Permᴰ (in_order initial entries) (filter has_point (calls initial entries))
  pub by_point : Pairs Before (in_order initial entries)
