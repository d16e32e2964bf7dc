-- Law of a line's last field.
use Rattle.std.proofs.Common.{◌≡◌, ℕ, ◌==◌, List, [], ◌∷◌, Option, Some, None, Bool, true, false, cond, get_or, length, take, drop, ◌+◌, ◌-◌, ◌<◌, true≢false, refl, sym}
use Rattle.std.specs.List.{position, onto_first}
use Rattle.std.specs.Char.{is_ascii_digit}
use Rattle.std.proofs.lemmas.Bool.{eqb-true}
use Rattle.std.proofs.lemmas.List.Quantifiers.{position-Some}
use Rattle.std.proofs.lemmas.List.Sums.{AllPass-from_list_all}
use Rattle.bench_input.specs.Bytes.{space, parts}
use Rattle.bench_input.specs.Numbers.{all_digits, well_begun, digits_value, number_of}
use Rattle.bench_input.specs.Lines.{long_line, with_number, fields_line}
use Rattle.bench_input.proofs.ByteLaws.{parted, unparted}

-- there is always a part
pub some_part : (mark : ℕ) (text : List ℕ) → (part : List ℕ) × (others : List (List ℕ)) × (parts mark text ≡ part ∷ others)
unfolding parts
some_part mark [] = ([], [], refl)
some_part mark (byte ∷ text) = go (byte == mark) (parts mark text)
  where
    go : (t : Bool) (ps : List (List ℕ)) →
        (part : List ℕ) × (others : List (List ℕ)) × (cond t ([] ∷ ps) (onto_first byte ps) ≡ part ∷ others)
    go true ps = ([], ps, refl)
    go false [] = (byte ∷ [], [], refl)
    go false (part ∷ others) = (byte ∷ part, others, refl)

-- a text with a space in it is no number
spaced : (text : List ℕ) (at : ℕ) → position (λ byte. byte == space) text ≡ Some at → number_of text ≡ None
unfolding number_of digits_value
spaced text at found = go (all_digits text) refl
  where
    here : (at < length text) × ((get_or text at 0 == space) ≡ true) × ((k : ℕ) → k < at → (get_or text k 0 == space) ≡ false)
    here = position-Some (λ byte. byte == space) text at 0 found

    go : (t : Bool) → all_digits text ≡ t → number_of text ≡ None
    go false e = rw e (elim (well_begun text) as (λ t. cond {A = Option ℕ} t None None ≡ None) [ true ↦ refl | false ↦ refl ])
    go true e =
        let digit : is_ascii_digit (get_or text at 0) ≡ true = AllPass-from_list_all is_ascii_digit text e at 0 here.0 in
        absurd (true≢false (sym (rw (eqb-true (get_or text at 0) space here.1) at digit)))

-- behind two numbers, a text that is no number makes the line bad: one with a space in it too
pub last_field : (word first second third : List ℕ) (a b : ℕ) → number_of first ≡ Some a → number_of second ≡ Some b →
    fields_line (word ∷ first ∷ second ∷ parts space third) ≡ with_number third (long_line word a b)
last_field word first second third a b e f = go (position (λ byte. byte == space) third) refl
  where
    go : (o : Option ℕ) → position (λ byte. byte == space) third ≡ o →
        fields_line (word ∷ first ∷ second ∷ parts space third) ≡ with_number third (long_line word a b)
    go None missing = rw (unparted space third missing, e, f)
    go (Some at) found =
        let behind = some_part space (take (length third - (at + 1)) (drop (at + 1) third)) in
        rw (parted space third at found, spaced third at found, behind.2)
