-- Records of so many words each, one behind the other in flat words.
use Rattle.std.specs.Prelude.{◌≡◌, ℕ, ◌*◌, ◌<◌, List, ◌++◌, map, length, drop}
use mathlib.Core.List.{flatten}
use Rattle.std.proofs.lemmas.List.Edits.{sets}

-- the words of some records
abbrev pub flat_words : {A : Type 0} → (A → List ℕ) → List A → List ℕ
flat_words words records = flatten (map words records)

-- record i, read where its words begin
unfoldable pub record_in : {A : Type 0} → ℕ → (List ℕ → A) → List ℕ → ℕ → A
record_in width first words i = first (drop (width * i) words)

-- and written there
unfoldable pub with_record : List ℕ → ℕ → List ℕ → List ℕ
with_record words i values = sets words (length values * i) values

-- what holds of each kind of record: all have as many words, and a record is the first of words that begin with its own
pub record IsRecord {A : Type 0} (width : ℕ) (words : A → List ℕ) (first : List ℕ → A) : Type 0 where
  pub narrow : width < 65536
  pub wide : (x : A) → length (words x) ≡ width
  pub read_back : (x : A) (rest : List ℕ) → first (words x ++ rest) ≡ x
