-- Runs of next links, over any function from node to node.
use Prim.Native.Nat.{ℕ, ◌<◌}
use mathlib.Core.Path.{◌≡◌, refl, sym, ap, ◌∙◌}
use mathlib.Core.Logic.{◌⊎◌, inl, inr, ◌≢◌}
use native.Mathlib.Omega.{arith}
use native.Mathlib.Decide.{ℕ_discrete}

pub data Reach (next : ℕ → ℕ) : ℕ → ℕ → Type 0 where
  here : {a b : ℕ} → a ≡ b → Reach next a b
  on : {a b : ℕ} → Reach next (next a) b → Reach next a b

-- two numbers are the same or not
pub same? : (a b : ℕ) → (a ≡ b) ⊎ (a ≢ b)
same? a b = elim (ℕ_discrete a b) [ yes e ↦ inl e | no n ↦ inr n ]

module _ {next : ℕ → ℕ} where
  pub starting : {a b c : ℕ} → a ≡ b → Reach next b c → Reach next a c
  starting e r = rw e r

  pub join : {a b c : ℕ} → Reach next a b → Reach next b c → Reach next a c
  join (here e) r = starting e r
  join (on q) r = on (join q r)

  pub one_more : {a b : ℕ} → Reach next a b → Reach next a (next b)
  one_more r = join r (on (here refl))

  -- of two runs from one node, one goes on from where the other ends
  pub linear : {a b c : ℕ} → Reach next a b → Reach next a c → Reach next b c ⊎ Reach next c b
  linear (here e) r = inl (starting (sym e) r)
  linear (on q) (here e) = inr (starting (sym e) (on q))
  linear (on q) (on r) = linear q r

  -- a node that leads to itself leads nowhere else
  pub stuck : {a b t : ℕ} → next t ≡ t → a ≡ t → Reach next a b → b ≡ t
  stuck loops e (here p) = sym p ∙ e
  stuck loops e (on r) = stuck loops (ap next e ∙ loops) r

  -- what every link keeps holds along a run
  pub along : {a b : ℕ} (P : ℕ → Type 0) → ((n : ℕ) → P n → P (next n)) → P a → Reach next a b → P b
  along P keeps h (here e) = rw e at h
  along {a} P keeps h (on r) = along P keeps (keeps a h) r

  -- keys rise along a run, in a part of the nodes that the links do not leave
  pub rise : {a b : ℕ} (key : ℕ → ℕ) (P : ℕ → Type 0) → ((n : ℕ) → P n → P (next n)) →
      ((n : ℕ) → P n → n ≢ 1 → key n < key (next n)) → next 1 ≡ 1 → P a → Reach next a b → (a ≡ b) ⊎ (key a < key b)
  rise key P keeps rises loops h (here e) = inl e
  rise {a} {b} key P keeps rises loops h (on r) = go (same? a 1) (rise key P keeps rises loops (keeps a h) r)
    where
      go : (a ≡ 1) ⊎ (a ≢ 1) → (next a ≡ b) ⊎ (key (next a) < key b) → (a ≡ b) ⊎ (key a < key b)
      go (inl e) _ = inl (e ∙ sym (stuck loops e (on r)))
      go (inr n) (inl e) = inr (rw e at (rises a h n))
      go (inr n) (inr k) = let below : key a < key (next a) = rises a h n in inr (omega arith)

-- the links of `g` are those of `f` along a run, in a part of the nodes that the links do not leave
pub carry : {f g : ℕ → ℕ} {a b : ℕ} (P : ℕ → Type 0) → ((n : ℕ) → P n → P (f n)) → ((n : ℕ) → P n → g n ≡ f n) → P a →
    Reach f a b → Reach g a b
carry P keeps same h (here e) = here e
carry {a = a} P keeps same h (on r) = on (starting (same a h) (carry P keeps same (keeps a h) r))

-- `g` goes past `c`, to which `p` leads in `f`; else they are the same
pub record Skip (f g : ℕ → ℕ) (p c : ℕ) : Type 0 where
  pub to : f p ≡ c
  pub past : g p ≡ f c
  pub apart : p ≢ c
  pub off : (n : ℕ) → n ≢ p → g n ≡ f n

module _ {f g : ℕ → ℕ} {p c : ℕ} (k : Skip f g p c) where
  -- every run past `c` is one through it
  pub skip_back : {a b : ℕ} → Reach g a b → Reach f a b
  skip_back (here e) = here e
  skip_back {a} {b} (on r) = go (same? a p) (skip_back r)
    where
      go : (a ≡ p) ⊎ (a ≢ p) → Reach f (g a) b → Reach f a b
      go (inl e) q = on (on (starting (ap f (ap f e ∙ k.to) ∙ sym k.past ∙ ap g (sym e)) q))
      go (inr n) q = on (starting (sym (k.off a n)) q)

  -- and every run but one to `c` is kept
  pub skip : {a b : ℕ} → Reach f a b → (b ≡ c) ⊎ Reach g a b
  skip (here e) = inr (here e)
  skip {a} {b} (on r) = go (same? a p) (skip r)
    where
      past : Reach g (f a) b → a ≡ p → (b ≡ c) ⊎ Reach g a b
      past (here x) e = inl (cc k.to)
      past (on q) e = let h : g a ≡ g (f a) = cc (k.to, k.past, k.off c (λ x. k.apart (sym x))) in inr (on (starting h q))

      go : (a ≡ p) ⊎ (a ≢ p) → (b ≡ c) ⊎ Reach g (f a) b → (b ≡ c) ⊎ Reach g a b
      go _ (inl e) = inl e
      go (inl e) (inr q) = past q e
      go (inr n) (inr q) = inr (on (starting (k.off a n) q))
