-- What is known of a worker at each stage: the places that it holds, and the nodes that stand there.
use Prim.Native.Nat.{ℕ, suc, ◌≤◌, ◌<◌}
use mathlib.Core.Path.{◌≡◌}
use mathlib.Core.Logic.{◌≢◌}
use mathlib.Core.List.{List, [], ◌∷◌}
use mathlib.Core.Bool.{Bool, true, cond, ◌&&◌}
use lib.ListN.{get_or}
use lib.Dec.{eqb}
use Rattle.worker.specs.Worker.{within, is_key}
use Rattle.worker.specs.Turn.{belongs}
use Rattle.worker.specs.declared.Worker.{Worker}
use Rattle.linear.proofs.Reach.{Reach}
use Rattle.linear.proofs.State.{State, Shape, shape_of}

-- a number that a worker's record holds
pub data Holds (w : Worker) (n : ℕ) : Type 0 where
  in_pred : n ≡ w.pred → Holds w n
  in_curr : n ≡ w.curr → Holds w n
  in_spare : n ≡ w.spare → Holds w n

module _ (nodes : ℕ) (s : State) where
  -- where runs of links begin: Head, Tail, and what the workers hold
  pub data Root (n : ℕ) : Type 0 where
    head : n ≡ 0 → Root n
    tail : n ≡ 1 → Root n
    held : (v : ℕ) → Holds (s.worker v) n → n < nodes → Root n

  -- a node that is not free
  pub record Live (n : ℕ) : Type 0 where
    pub from : ℕ
    pub root : Root from
    pub run : Reach s.next from n

  -- a node that nobody but worker v can come to
  pub record Private (v n : ℕ) : Type 0 where
    pub unlinked : (m : ℕ) → Live m → s.next m ≢ n
    pub unheld : (u m : ℕ) → u ≢ v → Holds (s.worker u) m → m ≢ n
    pub not_head : n ≢ 0
    pub not_tail : n ≢ 1

-- The promises, of worker `me` with key e, pred and curr. Each adds to another what one more turn has found out.
module _ (nodes : ℕ) (a : Shape) (me e pred curr : ℕ) where
  -- 3, 5: pred is below the key
  pub record Searching : Type 0 where
    pub pred_in : pred < nodes
    pub curr_in : curr < nodes
    pub below : a.key pred < e

  -- 4: so is curr
  pub record Passing : Type 0 where
    pub searching : Searching
    pub below : a.key curr < e

  -- 6: curr is not
  pub record Found : Type 0 where
    pub searching : Searching
    pub above : e ≤ a.key curr

  -- 7: pred is held
  pub record PredHeld : Type 0 where
    pub found : Found
    pub owns : a.owner pred ≡ suc me

  -- 12, 20: curr is held
  pub record CurrHeld : Type 0 where
    pub found : Found
    pub owns : a.owner curr ≡ suc me

  -- 8, 11, 19: both are held
  pub record BothHeld : Type 0 where
    pub held : PredHeld
    pub owns : a.owner curr ≡ suc me

  -- 9: pred is unmarked
  pub record PredStays : Type 0 where
    pub held : BothHeld
    pub unmarked : a.mark pred ≡ 0

  -- 10: so is curr
  pub record BothStay : Type 0 where
    pub stays : PredStays
    pub unmarked : a.mark curr ≡ 0

  -- 13: and pred leads to curr
  pub record Neighbours : Type 0 where
    pub stay : BothStay
    pub leads : a.next pred ≡ curr

  -- 14: the key is between theirs
  pub record Gap : Type 0 where
    pub neighbours : Neighbours
    pub above : e < a.key curr

  -- 16: curr has the key
  pub record Hit : Type 0 where
    pub neighbours : Neighbours
    pub hit : a.key curr ≡ e

  -- 17: and is marked now
  pub record Removed : Type 0 where
    pub stays : PredStays
    pub leads : a.next pred ≡ curr
    pub hit : a.key curr ≡ e
    pub marked : a.mark curr ≢ 0

  -- 18: spare is where it leads
  pub record Bypassed (spare : ℕ) : Type 0 where
    pub removed : Removed
    pub after : spare ≡ a.next curr

  -- 23: a look-up is at a node; 24: with a key below; 25: with the key
  pub record Looking : Type 0 where
    pub curr_in : curr < nodes

  pub record LookingBelow : Type 0 where
    pub curr_in : curr < nodes
    pub below : a.key curr < e

  pub record LookingAt : Type 0 where
    pub curr_in : curr < nodes
    pub hit : a.key curr ≡ e

-- 15: spare is a new node, with the key, the length and a link to curr, that nobody else can come to
pub record Filled (nodes : ℕ) (s : State) (me e pred curr spare : ℕ) : Type 0 where
  pub gap : Gap nodes (shape_of s) me e pred curr
  pub spare_in : spare < nodes
  pub alone : Private nodes s me spare
  pub not_pred : pred ≢ spare
  pub not_curr : curr ≢ spare
  pub has_key : s.key spare ≡ e
  pub has_next : s.next spare ≡ curr
  pub has_mark : s.mark spare ≡ 0
  pub has_length : s.length spare ≡ (s.worker me).length

-- of number of nodes, state, worker, key, pred, curr and spare
abbrev pub Promise : Type 1
Promise = ℕ → State → ℕ → ℕ → ℕ → ℕ → ℕ → Type 0

-- nothing is known of an idle worker, nor where a call begins and where it ends
abbrev pub NothingKnown : Promise
NothingKnown nodes s me e pred curr spare = Unit {0}

-- a promise that speaks of the nodes alone, and not of spare
abbrev pub plain : (ℕ → Shape → ℕ → ℕ → ℕ → ℕ → Type 0) → Promise
plain P nodes s me e pred curr spare = P nodes (shape_of s) me e pred curr

-- row n is what is promised at stage n
unfoldable pub promises : List Promise
promises =
    NothingKnown
    ∷ NothingKnown
    ∷ (λ nodes s me e pred curr spare. pred ≡ 0)
    ∷ plain Searching
    ∷ plain Passing
    ∷ plain Searching
    ∷ plain Found
    ∷ plain PredHeld
    ∷ plain BothHeld
    ∷ plain PredStays
    ∷ plain BothStay
    ∷ plain BothHeld
    ∷ plain CurrHeld
    ∷ plain Neighbours
    ∷ plain Gap
    ∷ Filled
    ∷ plain Hit
    ∷ plain Removed
    ∷ (λ nodes s. Bypassed nodes (shape_of s))
    ∷ plain BothHeld
    ∷ plain CurrHeld
    ∷ NothingKnown
    ∷ NothingKnown
    ∷ plain Looking
    ∷ plain LookingBelow
    ∷ plain LookingAt
    ∷ []

-- no worker is at a stage above 25
abbrev pub promise_at : ℕ → Promise
promise_at stage = get_or promises stage (λ nodes s me e pred curr spare. ⊥)

-- a busy worker has an answer from 17 to 21
abbrev pub has_answer : ℕ → Bool
has_answer stage = within 17 21 stage

-- of its record: the operation belongs to the stage, the key is a key of calls, and the answer is one of the three or none
abbrev pub sane : ℕ → ℕ → ℕ → ℕ → Bool
sane stage operation key answer =
    belongs stage operation && is_key key && cond (has_answer stage) (within 1 3 answer) (eqb answer 0)

pub record Standing (nodes : ℕ) (s : State) (me : ℕ) (w : Worker) : Type 0 where
  pub promise : promise_at w.stage nodes s me w.key w.pred w.curr w.spare
  pub sane_record : w.stage ≢ 0 → sane w.stage w.operation w.key w.answer ≡ true
