-- What a snapshot has gathered once it has been shown every label, and what is judged then.
use Prim.Native.Nat.{ℕ, suc, ◌+◌, ◌≤◌, ◌<◌}
use mathlib.Core.Path.{◌≡◌, ap, ◌∙◌}
use mathlib.Core.List.{List, [], ◌∷◌, map}
use mathlib.Core.Bool.{Bool, cond}
use native.Mathlib.Omega.{arith}
use native.Mathlib.Nat.{add-zero, add-suc, suc-add}
use lib.ListN.{length, take, drop, set, length-set, length-map}
use lib.Seq.{sets, sets-eq, take_at}
use borrow.Author.Tests.{lt-ltb, le-ltb}
use Rattle.std.specs.Borrow.{MutBor}
use Rattle.worker.specs.Refusals.{judged}
use Rattle.worker.specs.declared.Node.{Node}
use Rattle.worker.specs.declared.refusal.Refusal.{Refusal}
use Rattle.worker.specs.declared.refusal.Refusal.TheVariants.{NoRoom}
use Rattle.words.specs.Replies.{accepted, refusing, replied}
use Rattle.words.proofs.Judged.{refused_first, accepted_first}
use Rattle.arena.specs.declared.keys.Keys.{Keys}
use Rattle.arena.specs.Sets.{keys_in, label_at, shown, set_nodes, chain_labels}
use Rattle.arena.specs.Snapshot.{chain_keys, chain_broken, chain_too_long, chain_refusals}
use Rattle.arena.specs.Keys.{listed}
use Rattle.arena.proofs.ShortChains.{chain_few}

module _ (nodes : ℕ → Node) (count : ℕ) where
  -- where a row has room, the keys stand in it one behind the other, and are counted
  listed_all : (lent : MutBor (List ℕ)) (places row : List ℕ) (end : ℕ) → length row ≡ 1024 → end + length places ≤ 1024 →
      shown nodes listed (record { row = record lent { now = row }; count = end }) places
      ≡ record { row = record lent { now = sets row end (keys_in (map (label_at nodes) places)) }; count = end + length places }
  listed_all lent [] row end long room = rw add-zero
  listed_all lent (place ∷ places) row end long room =
      let fits : end < 1024 = omega arith in
      rw (lt-ltb _ _ fits, add-suc)
      (rw suc-add at (listed_all lent places (set row end (nodes place).key) (suc end) (rw length-set long) (omega arith)))

  abbrev keys : List ℕ
  keys = chain_keys nodes count

  -- a row of 1,024 words holds the keys of every set
  pub keys_listed : (all : Keys) (lent : MutBor (List ℕ)) → length lent.now ≡ 1024 → count ≤ 1024 →
      all ≡ shown nodes listed (record { row = lent; count = 0 }) (set_nodes nodes count) →
      (all.count ≡ length keys) × (length keys ≤ 1022) × (take all.count all.row.now ≡ keys)
  unfolding chain_keys chain_labels
  keys_listed all lent long few told =
      let places = set_nodes nodes count in
      let row = lent.now in
      let counted : length keys ≡ length places = rw (length-map, length-map) in
      let short = chain_few nodes count in
      let here : all ≡ record { row = record lent { now = sets row 0 keys }; count = 0 + length places } = told ∙ listed_all lent places row 0 long (omega arith) in (
        rw here (omega arith),
        omega arith,
        rw (here, sets-eq keys row 0 (omega arith)) (take_at keys (drop (0 + length keys) row) _ (omega arith)),
      )

  module _ {A : Type 0} (room : ℕ) (refuse : Refusal → A) (accept : A) where
    -- a broken chain refuses whatever the room is
    pub keys_broken : {refusal : Refusal} → refusing refusal ≡ replied (chain_broken nodes count ∷ []) [] →
        judged (chain_refusals nodes count room) refuse accept ≡ refuse refusal
    unfolding chain_refusals
    keys_broken = refused_first (chain_broken nodes count ∷ []) (chain_too_long nodes count room ∷ []) [] refuse accept

    -- and of a whole one the room decides
    module _ (found : accepted [] ≡ replied (chain_broken nodes count ∷ []) []) where
      abbrev judge : Bool → A
      judge short = cond short (refuse NoRoom) accept

      roomy : judged (chain_refusals nodes count room) refuse accept ≡ judged (chain_too_long nodes count room ∷ []) refuse accept
      unfolding chain_refusals
      roomy = accepted_first (chain_broken nodes count ∷ []) (chain_too_long nodes count room ∷ []) [] refuse accept found

      pub keys_fit : length keys ≤ room → judged (chain_refusals nodes count room) refuse accept ≡ accept
      unfolding chain_too_long
      keys_fit h = roomy ∙ ap judge (le-ltb room (length keys) h)

      pub keys_short : room < length keys → judged (chain_refusals nodes count room) refuse accept ≡ refuse NoRoom
      unfolding chain_too_long
      keys_short h = roomy ∙ ap judge (lt-ltb room (length keys) h)
