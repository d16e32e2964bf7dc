-- Runs of words: written one after the other, and compared.
use Prim.Native.Nat.{ℕ, zero, suc, ◌+◌, ◌*◌, ◌-◌, ◌≤◌, ◌<◌}
use mathlib.Core.Path.{◌≡◌, refl, sym, ap, subst, ◌∙◌}
use mathlib.Core.List.{List, [], ◌∷◌, ◌++◌, append-nil, append_assoc, flatten}
use mathlib.Core.Bool.{true, false}
use native.Mathlib.Nat.{zero-add, add-zero, add-suc, suc-add, add_comm, mul-zero, mul-suc}
use native.Mathlib.Numerals.{add-one, sub-one}
use native.Mathlib.Omega.{arith}
use lib.ListN.{length, drop, set, replicate, length-append, length-set, replicate-append-replicate, drop_of_length-le}
use lib.Seq.{sets, sets-eq, set_out, get_or-set_same, get_or-set_other, set-get_or, set-append_left, drop-cons, drop-length}
use borrow.Author.Tests.{eq-eqb, ne_eqb}
use borrow.Rule.Slice.PartMut.{put_mid, Post-is}
use Rattle.words.specs.Layout.{word}
use Rattle.words.specs.Header.{agrees}

-- two runs, the second behind the first, are one run
pub sets_append : (vs ws l : List ℕ) (i : ℕ) → sets l i (vs ++ ws) ≡ sets (sets l i vs) (i + length vs) ws
sets_append [] ws l i = rw add-zero
sets_append (v ∷ vs) ws l i = rw (add-suc, ← suc-add) (sets_append vs ws (set l i v) (suc i))

-- the first of some copies, and then the others
pub copies_on : (vs l : List ℕ) (i k : ℕ) → 0 < k →
    sets l i (flatten (replicate k vs)) ≡ sets (sets l i vs) (i + length vs) (flatten (replicate (k - 1) vs))
unfolding flatten
copies_on vs l i zero h = absurd (omega arith)
copies_on vs l i (suc k) h = rw (sub-one) (sets_append vs (flatten (replicate k vs)) l i)

pub length_copies : (k : ℕ) (vs : List ℕ) → length (flatten (replicate k vs)) ≡ length vs * k
unfolding flatten
length_copies zero vs = sym (mul-zero (length vs))
length_copies (suc k) vs = rw (length-append, length_copies k vs, mul-suc) (omega arith)

-- copies of a run of one value are one run of it
pub flat_copies : (k n v : ℕ) → flatten (replicate k (replicate n v)) ≡ replicate (n * k) v
unfolding flatten
flat_copies zero n v = rw mul-zero
flat_copies (suc k) n v = rw (flat_copies k n v, replicate-append-replicate, mul-suc, add_comm (n * k) n)

-- a part that comes back with other words is a run written where it stood
pub part_sets : (vs l : List ℕ) (from end : ℕ) → from ≤ end → end ≤ length l → length vs ≡ end - from →
    put_mid from (end - from) l vs ≡ sets l from vs
part_sets vs l from end h k e =
    let same : from + length vs ≡ end = omega arith in
    rw (sets-eq vs l from (omega arith), same, Post-is from end l h, append_assoc)

-- a run as long as the words is all of them
pub sets_whole : (vs l : List ℕ) → length vs ≡ length l → sets l 0 vs ≡ vs
sets_whole vs l e = rw (sets-eq vs l 0 (omega arith), zero-add, e, drop-length) (append-nil vs)

-- past the end nothing is written
pub sets_out : (vs l : List ℕ) (i : ℕ) → length l ≤ i → sets l i vs ≡ l
sets_out [] l i h = refl
sets_out (v ∷ vs) l i h = rw (set_out l i v h) (sets_out vs l (suc i) (omega arith))

-- a place outside a run keeps its word, and a place in it has the run's
pub sets_outside : (vs l : List ℕ) (i j : ℕ) → ((k : ℕ) → k < length vs → j ≡ i + k → ⊥) → word (sets l i vs) j ≡ word l j
sets_outside [] l i j out = refl
sets_outside (v ∷ vs) l i j out =
    sets_outside vs (set l i v) (suc i) j (λ k h e. out (suc k) (omega arith) (omega arith))
    ∙ get_or-set_other l i j v 0 (λ e. out 0 (omega arith) (omega arith))

pub sets_at : (vs l : List ℕ) (i k : ℕ) → k < length vs → i + length vs ≤ length l → word (sets l i vs) (i + k) ≡ word vs k
sets_at [] l i k h g = absurd (omega arith)
sets_at (v ∷ vs) l i zero h g =
    rw add-zero
    (sets_outside vs (set l i v) (suc i) i (λ k h e. omega arith) ∙ get_or-set_same l i v 0 (omega arith))
sets_at (v ∷ vs) l i (suc k) h g =
    rw (add-suc, ← suc-add) (sets_at vs (set l i v) (suc i) k (omega arith) (rw length-set (omega arith)))

-- the words as they stand, so many from a place on
abbrev pub run : List ℕ → ℕ → ℕ → ℕ → List ℕ
run l i k zero = []
run l i k (suc n) = word l (i + k) ∷ run l i (suc k) n

-- written where they stand they change nothing
pub sets_run : (n : ℕ) (l : List ℕ) (i k : ℕ) → sets l (i + k) (run l i k n) ≡ l
sets_run zero l i k = refl
sets_run (suc n) l i k =
    ap (λ words. sets words (suc (i + k)) (run l i (suc k) n)) (set-get_or l (i + k) 0)
    ∙ subst (λ at. sets l at (run l i (suc k) n) ≡ l) (add-suc i k) (sets_run n l i (suc k))

-- some words stand at a place already, so they need not be written
abbrev pub Stands : List ℕ → ℕ → List ℕ → Type 0
Stands l i vs = (k : ℕ) → k < length vs → word l (i + k) ≡ word vs k

pub sets_standing : (vs l : List ℕ) (i : ℕ) → Stands l i vs → sets l i vs ≡ l
sets_standing [] l i stands = refl
sets_standing (v ∷ vs) l i stands =
    let first : word l i ≡ v = rw add-zero at (stands 0 (omega arith)) in
    ap (λ words. sets words (suc i) vs) (ap (set l i) (sym first) ∙ set-get_or l i 0)
    ∙ sets_standing vs l (suc i) (λ k h. rw (suc-add, ← add-suc) (stands (suc k) (omega arith)))

-- nor do those at both ends of a run
pub sets_between : (before vs after l : List ℕ) (i : ℕ) → Stands l i before → Stands l (i + length before + length vs) after →
    sets l i (before ++ (vs ++ after)) ≡ sets l (i + length before) vs
sets_between before vs after l i stand_before stand_after =
    let from = i + length before in
    sets_append before (vs ++ after) l i
    ∙ ap (λ words. sets words from (vs ++ after)) (sets_standing before l i stand_before)
    ∙ sets_append vs after l from
    ∙ sets_standing after (sets l from vs) (from + length vs)
    (λ k h. sets_outside vs l from (from + length vs + k) (λ j g e. omega arith) ∙ stand_after k h)

-- a run within some words is written there, whatever stands behind them
pub sets_front : (vs l more : List ℕ) (i : ℕ) → i + length vs ≤ length l → sets (l ++ more) i vs ≡ sets l i vs ++ more
sets_front [] l more i h = refl
sets_front (v ∷ vs) l more i h =
    ap (λ words. sets words (suc i) vs) (set-append_left l more i v (omega arith))
    ∙ sets_front vs (set l i v) more (suc i) (rw length-set (omega arith))

-- a comparison past words that agree, at words that differ, and at its end
pub agrees_on : (words vs : List ℕ) (k : ℕ) → k < length vs → word words k ≡ word vs k → agrees words k (drop k vs) ≡ agrees words (k + 1) (drop (k + 1) vs)
agrees_on words vs k h e = rw (add-one, drop-cons vs k 0 h, eq-eqb _ _ e)

pub agrees_not : (words vs : List ℕ) (k : ℕ) → k < length vs → (word words k ≡ word vs k → ⊥) → agrees words k (drop k vs) ≡ false
agrees_not words vs k h e = rw (drop-cons vs k 0 h, ne_eqb _ _ e)

pub agrees_end : (words vs : List ℕ) (k : ℕ) → length vs ≤ k → agrees words k (drop k vs) ≡ true
agrees_end words vs k h = rw (drop_of_length-le vs h)
