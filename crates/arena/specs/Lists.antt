-- Numbers in a row, lists of whose elements something holds, and lists in which every two are related.
use Rattle.std.specs.Prelude.{ℕ, zero, suc, List, [], ◌∷◌}

-- so many numbers, from one on
unfoldable pub numbers_from : ℕ → ℕ → List ℕ
numbers_from number zero = []
numbers_from number (suc left) = number ∷ numbers_from (suc number) left

-- what holds of every element of a list
infixr 5 ◌and◌
pub data Each {A : Type 0} (P : A → Type 0) : List A → Type 0 where
  none : Each P []
  ◌and◌ : {x : A} {xs : List A} → P x → Each P xs → Each P (x ∷ xs)

-- a relation between every element of a list and each later one
infixr 5 ◌ahead◌
pub data Pairs {A : Type 0} (R : A → A → Type 0) : List A → Type 0 where
  alone : Pairs R []
  ◌ahead◌ : {x : A} {xs : List A} → Each (R x) xs → Pairs R xs → Pairs R (x ∷ xs)
