-- stored: how many labels are stored, as the header counts them (document 02, A6).
use Rattle.std.specs.Prelude.{ℕ, List, [], ◌∷◌}
use Rattle.words.specs.Layout.{stored_of}
use Rattle.words.specs.Replies.{Reply, replied}
use Rattle.words.specs.Header.{header_refusals}

-- order: 1, 2, 12
unfoldable pub stored_answer : List ℕ → Reply
stored_answer arena = replied (header_refusals arena) (stored_of arena ∷ [])
