-- Claims over the rows of a table, each with its number.
use Prim.Native.Nat.{ℕ, zero, suc, ◌+◌, ◌≤◌}
use mathlib.Core.List.{List, [], ◌∷◌}
use native.Mathlib.Nat.{zero-add, add-zero, add-suc, suc-add}
use native.Mathlib.Omega.{arith}
use lib.ListN.{get_or, length}

module _ {ℓ} {A : Type ℓ} where
  pub data AllFrom (P : ℕ → A → Type 0) : ℕ → List A → Type ℓ where
    end : {n : ℕ} → AllFrom P n []
    more : {n : ℕ} {row : A} {rows : List A} → P n row → AllFrom P (suc n) rows → AllFrom P n (row ∷ rows)

  -- a row and those after it; a function, so that the proof of a row knows which row it is of
  infixr 5 ◌then◌
  pub ◌then◌ : {P : ℕ → A → Type 0} {n : ℕ} {row : A} {rows : List A} → P n row → AllFrom P (suc n) rows → AllFrom P n (row ∷ rows)
  this then rest = more this rest

  row_from : (P : ℕ → A → Type 0) (n k : ℕ) (rows : List A) (default : A) → AllFrom P n rows →
      ((m : ℕ) → n + length rows ≤ m → P m default) → P (n + k) (get_or rows k default)
  row_from P n k [] default end other = other (n + k) (omega arith)
  row_from P n zero (row ∷ rows) default (more this rest) other = rw add-zero this
  row_from P n (suc k) (row ∷ rows) default (more this rest) other =
      rw (add-suc, ← suc-add) (row_from P (suc n) k rows default rest (λ m out. other m (omega arith)))

  -- a claim of every row, and of what stands past the end, is one of the row at any place
  pub row_at : (P : ℕ → A → Type 0) (k : ℕ) (rows : List A) (default : A) → AllFrom P 0 rows →
      ((m : ℕ) → length rows ≤ m → P m default) → P k (get_or rows k default)
  row_at P k rows default all other = rw zero-add at (row_from P 0 k rows default all (λ m out. other m (omega arith)))
