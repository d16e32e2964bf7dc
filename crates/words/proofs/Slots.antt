-- Two slots of nodes differ when node or field differ, whatever the width.
use Prim.Native.Nat.{ℕ, suc, ◌+◌, ◌*◌, ◌<◌, ◌≤◌}
use mathlib.Core.Path.{◌≡◌}
use native.Mathlib.Omega.{arith}
use native.Mathlib.Decide.{dec_lt}
use native.Mathlib.Nat.{mul-le-mul_left, mul-suc}
use Rattle.words.specs.Layout.{slot}

module _ (width : ℕ) where
  slot_below : (n m f g : ℕ) → n < m → f < width → slot width n f < slot width m g
  slot_below n m f g h k =
      let far : width * suc n ≤ width * m = mul-le-mul_left width h in
      let more : width * suc n ≡ width * n + width = mul-suc width n in
      omega arith

  -- a slot of one of so many nodes is among their words
  pub slot_within : (n count f : ℕ) → n < count → f < width → slot width n f < width * count
  slot_within n count f h k = let below = slot_below n count f 0 h k in omega arith

  -- and so are its fields, counted on from its key
  pub words_within : (n count length f : ℕ) → n < count → f < width → width * count ≤ length → slot width n 0 + f < length
  words_within n count length f h k long = let within = slot_within n count f h k in omega arith

  pub slot_same : (n m f g : ℕ) → f < width → g < width → slot width n f ≡ slot width m g → (n ≡ m) × (f ≡ g)
  slot_same n m f g h k e =
      elim (dec_lt n m) [
        | yes l ↦ absurd (omega (arith, slot_below n m f g l h))
        | no l ↦ elim (dec_lt m n) [
          | yes r ↦ absurd (omega (arith, slot_below m n g f r k))
          | no r ↦ let same : n ≡ m = omega arith in (same, let moved = rw same at e in omega arith)
        ]
      ]
