-- A snapshot lists the set, wherever the header is in order, the chain is whole and there is room.
use Prim.Native.Nat.{ℕ, ◌≤◌}
use mathlib.Core.Path.{◌≡◌, ◌∙◌}
use mathlib.Core.List.{List, [], ◌∷◌}
use borrow.Author.Tests.{le-ltb}
use lib.ListN.{length}
use Rattle.worker.specs.Refusals.{judged}
use Rattle.worker.specs.declared.refusal.Refusal.{Refusal}
use Rattle.worker.proofs.RefusalLaws.{NoneHolds, judged_append, none_accepts}
use Rattle.words.specs.Layout.{nodes_of}
use Rattle.words.specs.Replies.{accepted, refusing}
use Rattle.words.specs.Header.{header_refusals}
use Rattle.arena.specs.Sets.{node_in, ChainWhole, set_of}
use Rattle.arena.specs.Snapshot.{chain_keys, chain_broken, chain_too_long, chain_refusals, keys_of, snapshot_refusals, snapshot_answer, snapshot_words, Listed}

module _ (arena : List ℕ) (header : NoneHolds (header_refusals arena)) (whole : ChainWhole arena) where
  -- then nothing refuses it
  accepts : {A : Type 0} (room : ℕ) (refuse : Refusal → A) (accept : A) → length (keys_of arena) ≤ room →
      judged (snapshot_refusals arena room) refuse accept ≡ accept
  unfolding snapshot_refusals chain_refusals chain_broken chain_too_long keys_of set_of chain_keys
  accepts room refuse accept enough =
      let chain = chain_refusals (node_in arena) (nodes_of arena) room in
      judged_append (header_refusals arena) chain refuse accept
      ∙ none_accepts (header_refusals arena) refuse _ header
      ∙ none_accepts chain refuse accept (whole, (le-ltb room (length (keys_of arena)) enough, tt))

  pub snapshot_lists : (lent : List ℕ) → length (keys_of arena) ≤ length lent → Listed arena lent
  unfolding snapshot_answer snapshot_words
  snapshot_lists lent enough =
      record {
        answer = accepts (length lent) refusing (accepted (length (keys_of arena) ∷ [])) enough;
        words = accepts (length lent) (λ refusal. lent) _ enough;
      }
