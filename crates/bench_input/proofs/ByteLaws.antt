-- Laws of a text taken apart at its first mark.
use Rattle.std.proofs.Common.{◌≡◌, ℕ, ◌+◌, ◌-◌, ◌≤◌, ◌<◌, ◌==◌, List, [], ◌∷◌, Some, None, length, take, drop, arith, ltb, get_or, map, drop-cons, ap, ◌∙◌, ◌⊎◌, inl, inr, Bool, true, false, eqb, sym, zero, suc, add-one, ◌++◌, min, append_assoc, refl}
use Rattle.std.proofs.Math.ListN.{get_or-append, drop_of_length-le}
use Rattle.std.specs.List.{position, position_or_len, range_with_len, IsFirstMatchOrLen}
use Rattle.std.proofs.Math.Seq.{take_all}
use Rattle.std.proofs.lemmas.Bool.{ltb-true, eq-eqb, eqb-true, cases_lt}
use Rattle.std.proofs.lemmas.List.{length-drop, take-append-drop}
use Rattle.std.proofs.lemmas.List.Splits.{slice_split_first, slice_split_at, slice_split_none}
use Rattle.std.proofs.lemmas.List.Sums.{fails_before_first}
use Rattle.std.proofs.lemmas.Option.{cond_some}
use Rattle.std.proofs.lemmas.Bool.Decides.{nat_tests}
use Rattle.std.specs.Cmp.Lexicographic.{pointwise, same_text, other_text}
use Rattle.bench_input.specs.Bytes.{parts}

module _ (mark : ℕ) (text : List ℕ) where
  first : ℕ
  first = position_or_len (λ byte. byte == mark) text

  -- the part before the mark, and those behind it
  pub parted : (at : ℕ) → position (λ byte. byte == mark) text ≡ Some at →
      parts mark text ≡ take at text ∷ parts mark (take (length text - (at + 1)) (drop (at + 1) text))
  unfolding first parts
  parted at found =
      let both = cond_some (ltb first (length text)) first at found in
      rw (take_all (length text - (at + 1)) (drop (at + 1) text) (omega (arith, length-drop (at + 1) text)), ← both.1)
      (slice_split_first (λ byte. byte == mark) text 0 (ltb-true first (length text) both.0))

  -- no mark, and so one part
  pub unparted : position (λ byte. byte == mark) text ≡ None → parts mark text ≡ text ∷ []
  unfolding first parts
  unparted missing =
      let past : length text ≤ first = grind (arith, nat_tests, missing) in
      slice_split_none (λ byte. byte == mark) text (λ k d h. fails_before_first (λ byte. byte == mark) text k d (omega arith))

-- the first part of a text as `split_inclusive` gives it: up to the first mark, which is its last byte, or up to the end
pub record Cut (mark : ℕ) (text part others : List ℕ) : Type 0 where
  pub at : ℕ
  pub whole : text ≡ part ++ others
  pub until : length part ≡ min (at + 1) (length text)
  pub found : IsFirstMatchOrLen (λ byte. byte == mark) text at
  pub some : 0 < length text

module _ {mark : ℕ} {text part others : List ℕ} (cut : Cut mark text part others) where
  -- whether its last byte is a mark, as `strip_suffix` tells
  abbrev pub ends : Bool
  ends = pointwise eqb (drop (length part - 1) part) (mark ∷ [])

  pub marked : (front : List ℕ) → (ends ≡ true) × (front ≡ take (length part - 1) part) × (length front + 1 ≡ length part) →
      parts mark text ≡ front ∷ parts mark others
  unfolding parts
  marked front h = rw whole (slice_split_at (λ byte. byte == mark) front mark others clean (eq-eqb mark mark refl))
    where
      joined : part ≡ front ++ mark ∷ []
      joined = rw (h.1, ← same_text (drop (length part - 1) part) (mark ∷ []) (sym h.0)) (sym (take-append-drop (length part - 1) part))

      whole : text ≡ front ++ mark ∷ others
      whole = cut.whole ∙ ap (λ p. p ++ others) joined ∙ append_assoc front (mark ∷ []) others

      clean : (k d : ℕ) → k < length front → get_or front k d == mark ≡ false
      clean k d l = rw (whole, get_or-append front (mark ∷ others) d k l) at (cut.found.0 k d (omega arith) (omega (arith, h.2, cut.until)))

  pub unmarked : ends ≡ false → parts mark text ≡ text ∷ []
  unfolding parts
  unmarked h = slice_split_none (λ byte. byte == mark) text (λ k d l. cut.found.0 k d (omega arith) (omega (arith, past (cases_lt cut.at (length text)))))
    where
      past : (cut.at < length text) ⊎ (length text ≤ cut.at) → length text ≤ cut.at
      past (inr l) = l
      past (inl inside) =
          let here : length part - 1 ≡ cut.at = omega arith in
          let same : get_or text cut.at 0 ≡ get_or part cut.at 0 = rw (cut.whole, get_or-append part others 0 cut.at (omega arith)) in
          let last : get_or part cut.at 0 ≡ mark = rw same at (eqb-true (get_or text cut.at 0) mark (cut.found.1 inside 0)) in
          let none : drop (suc cut.at) part ≡ [] = drop_of_length-le part {i = suc cut.at} (omega arith) in
          absurd (other_text (drop (length part - 1) part) (mark ∷ []) (sym h) (rw (here, drop-cons part cut.at 0 (omega arith), last, none)))

-- a text of n bytes is these bytes, one by one
pub bytes_listed : (text : List ℕ) (n : ℕ) → length text ≡ n → text ≡ map (λ k. get_or text k 0) (range_with_len 0 n)
bytes_listed text n long = go 0 n (omega arith)
  where
    go : (i n : ℕ) → i + n ≡ length text → drop i text ≡ map (λ k. get_or text k 0) (range_with_len i n)
    go i zero e = drop_of_length-le text (omega arith)
    go i (suc n) e =
        drop-cons text i 0 (omega arith)
        ∙ ap (λ (rest : List ℕ). get_or text i 0 ∷ rest) (rw (← add-one i) (go (i + 1) n (omega arith)))
