-- Lent slices: what init leaves in one of any sufficient length, and the entries from there on.
use Rattle.std.specs.Prelude.{ℕ, ◌≡◌, List, [], ◌++◌, drop}
use Rattle.words.specs.Layout.{total}
use Rattle.words.specs.Replies.{accepted, replied}
use Rattle.words.specs.Header.{header_refusals}
use Rattle.words.specs.declared.entry.Entry.{Entry}
use Rattle.arena.specs.Init.{fresh_words, init_answer, init_arena}
use Rattle.arena.specs.AtRest.{SoundAtRest}
use Rattle.linear.specs.Entries.{event_of, after}
use Rattle.linear.specs.History.{arena_at, event_at}
use Rattle.linear.specs.Works.{WorksFrom}

-- further words behind an arena: an entry does not look at them, and they stay
pub record Unseen (arena more : List ℕ) (entry : Entry) : Type 0 where
  pub same_event : event_of (arena ++ more) entry ≡ event_of arena entry
  pub same_words : after (arena ++ more) entry ≡ after arena entry ++ more

-- so it is behind every arena that passes the header test (`Longer.more_unseen`)
abbrev pub MoreUnseen : Type 0
MoreUnseen = (arena more : List ℕ) (entry : Entry) → replied (header_refusals arena) [] ≡ accepted [] → Unseen arena more entry

-- what init leaves in a lent slice: a list from there comes to what it comes to from a fresh arena, with the words past the total behind
pub record AsFresh (lent : List ℕ) (workers nodes : ℕ) (entries : List Entry) : Type 0 where
  pub events : (time : ℕ) → event_at (init_arena lent workers nodes) entries time ≡ event_at (fresh_words workers nodes) entries time
  pub words : (time : ℕ) →
      arena_at (init_arena lent workers nodes) entries time
      ≡ arena_at (fresh_words workers nodes) entries time ++ drop (total workers nodes) lent
  -- it is sound and at rest; and demand 3, with all that is claimed beside it, holds of it there
  pub at_rest : SoundAtRest (init_arena lent workers nodes)
  pub works : WorksFrom [] (init_arena lent workers nodes) entries

-- so it is in every slice that init accepts (`LentLaws.as_fresh`)
abbrev pub LaidAsFresh : Type 0
LaidAsFresh =
    (lent : List ℕ) (workers nodes : ℕ) (entries : List Entry) → init_answer lent workers nodes ≡ accepted [] →
    AsFresh lent workers nodes entries
