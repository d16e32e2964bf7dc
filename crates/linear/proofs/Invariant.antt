-- The invariant: of the nodes, of how each live node stands, and of every worker by its stage.
use Prim.Native.Nat.{ℕ, ◌≤◌, ◌<◌}
use mathlib.Core.Path.{◌≡◌, refl, sym, ap, subst, ◌∙◌}
use mathlib.Core.Logic.{◌⊎◌, inl, inr, ◌≢◌}
use mathlib.Core.Bool.{true}
use native.Mathlib.Omega.{arith}
use Rattle.worker.specs.Worker.{is_key}
use Rattle.worker.proofs.Laws.{range_bounds}
use Rattle.linear.proofs.Reach.{Reach, here, on, one_more, linear, along, rise, same?}
use Rattle.linear.proofs.State.{State}
use Rattle.linear.proofs.Promises.{Holds, Root, head, tail, held, Live, promises, promise_at, sane, Standing}

module _ (s : State) where
  -- a live node is marked, or on the chain, or a new one that nobody else can come to
  pub data Stands (n : ℕ) : Type 0 where
    dead : s.mark n ≢ 0 → Stands n
    chained : Reach s.next 0 n → Stands n
    new : (v : ℕ) → (s.worker v).stage ≡ 15 → n ≡ (s.worker v).spare → Stands n

  -- a key is in the set: an unmarked node on the chain has it, Head and Tail left out
  pub record In (key : ℕ) : Type 0 where
    pub node : ℕ
    pub chain : Reach s.next 0 node
    pub not_head : node ≢ 0
    pub not_tail : node ≢ 1
    pub unmarked : s.mark node ≡ 0
    pub has_key : s.key node ≡ key

  -- and a run of links leads to that node
  pub record Ahead (from key : ℕ) : Type 0 where
    pub inside : In key
    pub run : Reach s.next from inside.node

module _ (nodes : ℕ) (s : State) where
  pub record Nodes : Type 0 where
    pub room : 2 < nodes
    pub cap : nodes ≤ 65535
    pub head_key : s.key 0 ≡ 0
    pub tail_key : s.key 1 ≡ 65535
    pub tail_next : s.next 1 ≡ 1
    pub inside : (n : ℕ) → n < nodes → s.next n < nodes
    pub small : (n : ℕ) → s.key n ≤ 65535
    pub rises : (n : ℕ) → Live nodes s n → n ≢ 1 → s.key n < s.key (s.next n)

  pub record Inv : Type 0 where
    pub shape : Nodes
    pub stands : (n : ℕ) → Live nodes s n → Stands s n
    pub works : (v : ℕ) → Standing nodes s v (s.worker v)

module _ {nodes : ℕ} {s : State} where
  pub live_held : {n : ℕ} (v : ℕ) → Holds (s.worker v) n → n < nodes → Live nodes s n
  live_held {n} v h l = record { from = n; root = held v h l; run = here refl }

  pub live_next : {n : ℕ} → Live nodes s n → Live nodes s (s.next n)
  live_next l = record { from = l.from; root = l.root; run = one_more l.run }

  pub live_chain : {n : ℕ} → Reach s.next 0 n → Live nodes s n
  live_chain r = record { from = 0; root = head refl; run = r }

  pub live_tail : Live nodes s 1
  live_tail = record { from = 1; root = tail refl; run = here refl }

  -- what is promised at a stage that is known
  pub promised : {stage : ℕ} → Inv nodes s → (v : ℕ) → (s.worker v).stage ≡ stage →
      promise_at stage nodes s v (s.worker v).key (s.worker v).pred (s.worker v).curr (s.worker v).spare
  promised inv v e =
      subst (λ (n : ℕ). promise_at n nodes s v (s.worker v).key (s.worker v).pred (s.worker v).curr (s.worker v).spare) e
      (inv.works v).promise

  pub sane_at : {stage : ℕ} → Inv nodes s → (v : ℕ) → (s.worker v).stage ≡ stage → stage ≢ 0 →
      sane stage (s.worker v).operation (s.worker v).key (s.worker v).answer ≡ true
  sane_at inv v e busy =
      subst (λ (n : ℕ). sane n (s.worker v).operation (s.worker v).key (s.worker v).answer ≡ true) e
      ((inv.works v).sane_record (λ idle. busy (sym e ∙ idle)))

-- keys of calls
abbrev pub Range : ℕ → Type 0
Range key = (0 < key) × (key < 65535)

pub key_range : (key : ℕ) → is_key key ≡ true → Range key
key_range key e =
    let bounds = range_bounds 1 65534 key e in (omega arith, omega arith)

module _ {nodes : ℕ} {s : State} (shape : Nodes nodes s) where
  pub not_head : {n : ℕ} → 0 < s.key n → n ≢ 0
  not_head low e = let same : s.key _ ≡ s.key 0 = ap s.key e in omega (arith, shape.head_key)

  pub not_tail : {n : ℕ} → s.key n < 65535 → n ≢ 1
  not_tail high e = let same : s.key _ ≡ s.key 1 = ap s.key e in omega (arith, shape.tail_key)

  -- a live node is one of the nodes
  pub live_in : {n : ℕ} → Live nodes s n → n < nodes
  live_in l = along (λ m. m < nodes) shape.inside (root_in l.root) l.run
    where
      root_in : {m : ℕ} → Root nodes s m → m < nodes
      root_in (head e) = omega (arith, shape.room)
      root_in (tail e) = omega (arith, shape.room)
      root_in (held v h i) = i

  pub rises_to : {a b : ℕ} → Live nodes s a → Reach s.next a b → (a ≡ b) ⊎ (s.key a < s.key b)
  rises_to l r = rise s.key (Live nodes s) (λ n. live_next) shape.rises shape.tail_next l r

  -- on the chain a key stands once
  pub once : {a b : ℕ} → Reach s.next 0 a → Reach s.next 0 b → s.key a ≡ s.key b → a ≡ b
  once {a} {b} p q e = go (linear p q)
    where
      same : {x y : ℕ} → (x ≡ y) ⊎ (s.key x < s.key y) → s.key x ≡ s.key y → x ≡ y
      same (inl h) d = h
      same (inr h) d = absurd (omega arith)

      go : Reach s.next a b ⊎ Reach s.next b a → a ≡ b
      go (inl r) = same (rises_to (live_chain p) r) e
      go (inr r) = sym (same (rises_to (live_chain q) r) (sym e))

  -- a key that would stand between a node of the chain and the next one is not in the set
  pub absent : {p key : ℕ} → Reach s.next 0 p → s.key p < key → key < s.key (s.next p) → In s key → ⊥
  absent {p} {key} c low high i = go (linear c i.chain)
    where
      not_at : {n : ℕ} → n ≡ i.node → s.key n ≢ key → ⊥
      not_at e d = d (ap s.key e ∙ i.has_key)

      behind : Reach s.next p i.node → ⊥
      behind (here e) = not_at e (omega arith)
      behind (on r) = up (rises_to (live_next (live_chain c)) r)
        where
          up : (s.next p ≡ i.node) ⊎ (s.key (s.next p) < s.key i.node) → ⊥
          up (inl e) = not_at e (omega arith)
          up (inr e) = omega (arith, i.has_key)

      go : Reach s.next p i.node ⊎ Reach s.next i.node p → ⊥
      go (inl r) = behind r
      go (inr r) = up (rises_to (live_chain i.chain) r)
        where
          up : (i.node ≡ p) ⊎ (s.key i.node < s.key p) → ⊥
          up (inl e) = not_at (sym e) (omega arith)
          up (inr e) = omega (arith, i.has_key)

  -- a look-up goes past a smaller key; nothing is ahead of a larger key, nor of a marked node with the key
  pub ahead_next : {c key : ℕ} → s.key c < key → Ahead s c key → Ahead s (s.next c) key
  ahead_next {c} {key} l h = go h.run
    where
      go : Reach s.next c h.inside.node → Ahead s (s.next c) key
      go (here e) = let d : s.key c ≡ key = ap s.key e ∙ h.inside.has_key in absurd (omega arith)
      go (on r) = record { inside = h.inside; run = r }

  pub nothing_ahead : {c key : ℕ} → Live nodes s c → (key < s.key c) ⊎ ((s.key c ≡ key) × (s.mark c ≢ 0)) → Ahead s c key → ⊥
  nothing_ahead {c} {key} l past h = go past (rises_to l h.run)
    where
      go : (key < s.key c) ⊎ ((s.key c ≡ key) × (s.mark c ≢ 0)) → (c ≡ h.inside.node) ⊎ (s.key c < s.key h.inside.node) → ⊥
      go (inl a) (inl e) = let d : s.key c ≡ key = ap s.key e ∙ h.inside.has_key in omega arith
      go (inl a) (inr e) = omega (arith, h.inside.has_key)
      go (inr a) (inl e) = a.1 (ap s.mark e ∙ h.inside.unmarked)
      go (inr a) (inr e) = omega (arith, a.0, h.inside.has_key)

module _ {nodes : ℕ} {s : State} (inv : Inv nodes s) where
  -- an unmarked node that a worker holds, and that is not its own new one, is on the chain
  pub on_chain : {n : ℕ} (v : ℕ) → Holds (s.worker v) n → n < nodes → s.mark n ≡ 0 →
      ((s.worker v).stage ≡ 15 → n ≢ (s.worker v).spare) → Reach s.next 0 n
  unfolding promises
  on_chain {n} v h l unmarked own = go (inv.stands n (live_held v h l))
    where
      go : Stands s n → Reach s.next 0 n
      go (dead x) = absurd (x unmarked)
      go (chained r) = r
      go (new u e x) = at_u (same? v u)
        where
          at_u : (v ≡ u) ⊎ (v ≢ u) → Reach s.next 0 n
          at_u (inl p) = absurd (own (ap (λ a. (s.worker a).stage) p ∙ e) (x ∙ ap (λ a. (s.worker a).spare) (sym p)))
          at_u (inr d) = absurd ((promised inv u e).alone.unheld v n d h x)
