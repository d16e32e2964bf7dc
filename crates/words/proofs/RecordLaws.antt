-- Laws of records: a node that there is not, and a worker's record in an arena.
use Prim.Native.Nat.{ℕ, zero, suc, ◌+◌, ◌*◌, ◌≤◌, ◌<◌}
use mathlib.Core.Path.{◌≡◌, refl, sym, subst, ◌∙◌}
use mathlib.Core.Logic.{⊎_elim}
use mathlib.Core.List.{List, [], ◌∷◌}
use mathlib.Core.Bool.{Bool, true, false, cond}
use native.Mathlib.Omega.{arith}
use native.Mathlib.Nat.{add-zero}
use lib.ListN.{length, set, take, drop, get_or-eq_default}
use lib.Seq.{sets, get_or-set_other, get_or-take, get_or-drop}
use lib.Dec.{ltb}
use borrow.Author.Tests.{ltb-false}
use Rattle.std.specs.Prelude.{Some, None}
use Rattle.worker.specs.Node.{unused_node}
use Rattle.worker.specs.declared.Worker.{Worker}
use Rattle.words.specs.Layout.{word, node_width, header_width, worker_width, worker_stage, worker_operation, worker_key, worker_pred, worker_curr, worker_spare, worker_answer, worker_length, worker_from, slot, workers_of, worker_part}
use Rattle.words.specs.Records.{node_read, node_at, found, worker_words, worker_at, with_worker, with_moved, Outside}
use Rattle.words.proofs.Slots.{slot_within}
use Rattle.words.proofs.Runs.{sets_outside, sets_at, run, sets_run, Stands, sets_between}

-- where there are no words for a node, it is read as zeros
pub no_node_there : (l : List ℕ) (at : ℕ) → length l ≤ at → node_read l at ≡ unused_node
no_node_there l at past =
    λ i. record {
      key = zero_at 0 i;
      next = zero_at 1 i;
      mark = zero_at 2 i;
      owner = zero_at 3 i;
      length = zero_at 4 i;
    }
  where
    zero_at : (f : ℕ) → word l (at + f) ≡ 0
    zero_at f = get_or-eq_default l 0 (omega arith)

-- what finding one by its number says
module _ {A : Type 0} (all : ℕ → A) (count number : ℕ) where
  pub found_is : (one : A) → found all count number ≡ Some one → (ltb number count ≡ true) × (one ≡ all number)
  found_is one = go (ltb number count)
    where
      go : (t : Bool) → cond t (Some (all number)) None ≡ Some one → (t ≡ true) × (one ≡ all number)
      go true e = (refl, cc)
      go false e = let z : ◌≡◌ {A = ℕ} 0 1 = cc in absurd (omega arith)

  pub found_none : found all count number ≡ None → ltb number count ≡ false
  found_none = go (ltb number count)
    where
      go : (t : Bool) → cond t (Some (all number)) None ≡ None → t ≡ false
      go true e = let z : ◌≡◌ {A = ℕ} 0 1 = cc in absurd (omega arith)
      go false e = refl

-- where there is no node of that number, its record is read as zeros
pub not_found : (l : List ℕ) (count node : ℕ) → length l ≡ node_width * count → found (node_at l) count node ≡ None →
    node_at l node ≡ unused_node
unfolding node_at
not_found l count node long none =
    let out = ltb-false node count (found_none (node_at l) count node none) in no_node_there l (node_width * node) (omega arith)

-- a worker's record of given words
abbrev pub record_of : (ℕ → ℕ) → Worker
record_of field =
    record {
      stage = field worker_stage;
      operation = field worker_operation;
      key = field worker_key;
      pred = field worker_pred;
      curr = field worker_curr;
      spare = field worker_spare;
      answer = field worker_answer;
      length = field worker_length;
    }

-- that record is read where these words stand
pub record_words : (arena : List ℕ) (worker : ℕ) (field : ℕ → ℕ) →
    ((k : ℕ) → k < worker_width → word arena (worker_from worker + k) ≡ field k) → worker_at arena worker ≡ record_of field
unfolding worker_at
record_words arena worker field same =
    λ i. record {
      stage = same worker_stage (omega arith) i;
      operation = same worker_operation (omega arith) i;
      key = same worker_key (omega arith) i;
      pred = same worker_pred (omega arith) i;
      curr = same worker_curr (omega arith) i;
      spare = same worker_spare (omega arith) i;
      answer = same worker_answer (omega arith) i;
      length = same worker_length (omega arith) i;
    }

-- a worker that there is has its record among the worker records
pub record_in_part : (arena : List ℕ) (worker : ℕ) → worker < workers_of arena →
    worker_at arena worker ≡ record_of (λ k. word (worker_part arena) (slot worker_width worker k))
unfolding worker_part
record_in_part arena worker there =
    record_words arena worker (λ k. word (take (worker_width * workers_of arena) (drop header_width arena)) (slot worker_width worker k))
    (λ k inside.
    let place : worker_from worker + k ≡ header_width + slot worker_width worker k = omega arith in
    rw place
    (sym (get_or-take (worker_width * workers_of arena) (drop header_width arena) (slot worker_width worker k) 0 (slot_within worker_width worker (workers_of arena) k there inside)
    ∙ get_or-drop header_width arena (slot worker_width worker k) 0)))

module _ (arena : List ℕ) (worker : ℕ) (w : Worker) where
  -- the record that was written is read back
  pub read_back : worker_from worker + worker_width ≤ length arena → worker_at (with_worker arena worker w) worker ≡ w
  unfolding worker_at with_worker
  read_back h =
      let field : (k : ℕ) → k < 8 → word (sets arena (worker_from worker) (worker_words w)) (worker_from worker + k) ≡ word (worker_words w) k
      = λ k l. sets_at (worker_words w) arena (worker_from worker) k l h in
      rw (
        field 0 (omega arith),
        field 1 (omega arith),
        field 2 (omega arith),
        field 3 (omega arith),
        field 4 (omega arith),
        field 5 (omega arith),
        field 6 (omega arith),
        field 7 (omega arith),
      )

  -- and nothing else is written
  pub others_stay : (at : ℕ) → Outside worker at → word (with_worker arena worker w) at ≡ word arena at
  unfolding with_worker
  others_stay at outside =
      sets_outside (worker_words w) arena (worker_from worker) at
      (λ k h e. ⊎_elim (λ before. omega arith) (λ behind. omega arith) outside)

-- a record written as it stands changes nothing
pub rewritten : (arena : List ℕ) (worker : ℕ) → with_worker arena worker (worker_at arena worker) ≡ arena
unfolding worker_at with_worker
rewritten arena worker =
    subst (λ at. sets arena at (run arena (worker_from worker) 0 worker_width) ≡ arena) (add-zero (worker_from worker))
    (sets_run worker_width arena (worker_from worker) 0)

-- where the other words of a record stand already, only those that a move may change need be written
pub moved_written : (arena : List ℕ) (worker : ℕ) (w : Worker) → word arena (worker_from worker + worker_operation) ≡ w.operation →
    word arena (worker_from worker + worker_key) ≡ w.key → word arena (worker_from worker + worker_length) ≡ w.length →
    with_moved arena worker w ≡ with_worker arena worker w
unfolding with_moved with_worker
moved_written arena worker w operation key length =
    rw (add-zero, past)
    (sym (sets_between (w.operation ∷ w.key ∷ []) (w.pred ∷ w.curr ∷ w.spare ∷ w.answer ∷ []) (w.length ∷ []) staged (suc from) before after))
  where
    from : ℕ
    from = worker_from worker

    staged : List ℕ
    staged = set arena from w.stage

    past : from + worker_pred ≡ suc from + 2
    past = omega arith

    behind : (at field : ℕ) {v : ℕ} → at ≡ suc from + field → word arena (from + suc field) ≡ v → word staged at ≡ v
    behind at field e stands =
        let place : at ≡ from + suc field = omega arith in
        rw place (get_or-set_other arena from (from + suc field) w.stage 0 (λ same. omega arith) ∙ stands)

    before : Stands staged (suc from) (w.operation ∷ w.key ∷ [])
    before zero h = behind (suc from + 0) 0 refl operation
    before (suc zero) h = behind (suc from + 1) 1 refl key
    before (suc (suc k)) h = absurd (omega arith)

    after : Stands staged (suc from + 2 + 4) (w.length ∷ [])
    after zero h = behind (suc from + 2 + 4 + 0) 6 (omega arith) length
    after (suc k) h = absurd (omega arith)
