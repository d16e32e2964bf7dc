-- What a plan promises to whoever runs it.
use Rattle.std.proofs.Common.{◌≡◌, ℕ, suc, ◌*◌, ◌≤◌, List, [], ◌∷◌, ◌++◌, Bool, true, false, cond, ltb, Option, Some, None, length, take, length-append, zero-add, refl, subst, arith}
use Rattle.std.specs.Option.{option_and_then, option_map_or}
use Rattle.std.proofs.Math.Seq.{sets-eq, take_at}
use Rattle.words.specs.Layout.{good_counts}
use Rattle.words.specs.Flat.{flat_words}
use Rattle.words.specs.declared.entry.Entry.{Entry}
use Rattle.words.specs.Entries.{entry_width, entry_words, entry_laws, most_entries}
use Rattle.words.proofs.FlatLaws.{flat_length}
use Rattle.bench_input.specs.Bytes.{line_feed, parts}
use Rattle.bench_input.specs.Lines.{line_of}
use Rattle.bench_input.specs.Input.{most_bytes, Reading, planned, bad_line, text_entries, good_board, lines_from, input_lines}
use Rattle.bench_input.specs.Input.{reading_of, scheduled}
use Rattle.bench_input.specs.declared.lines.Line.{Line}
use Rattle.bench_input.specs.declared.lines.Line.TheVariants.{Board, Entries}
use Rattle.bench_input.proofs.InputLaws.{new_fit}

-- good counts, and not too many entries
abbrev pub Sound : Reading → Type 0
Sound (planned workers nodes entries) = (good_counts workers nodes ≡ true) × (length entries ≤ most_entries)
Sound (bad_line line entries) = Unit

few_more : (entries new : List Entry) (text : List ℕ) → text_entries (length entries) text ≡ Some new → length (entries ++ new) ≤ most_entries
few_more entries new text e = rw length-append (new_fit (length entries) (line_of text) new e)

sound_lines : (workers nodes : ℕ) → good_counts workers nodes ≡ true → (line : ℕ) (entries : List Entry) (texts : List (List ℕ)) → length entries ≤ most_entries →
    Sound (lines_from workers nodes line entries texts)
unfolding lines_from
sound_lines workers nodes g line entries [] f = tt
sound_lines workers nodes g line entries ([] ∷ []) f = (g, f)
sound_lines workers nodes g line entries ((byte ∷ text) ∷ []) f = tt
sound_lines workers nodes g line entries (text ∷ next ∷ others) f =
    go (text_entries (length entries) text)
    (λ new e. sound_lines workers nodes g (suc line) (entries ++ new) (next ∷ others) (few_more entries new text e))
  where
    onward : List Entry → Reading
    onward new = lines_from workers nodes (suc line) (entries ++ new) (next ∷ others)

    go : (o : Option (List Entry)) → ((new : List Entry) → o ≡ Some new → Sound (onward new)) →
        Sound (option_map_or onward o (bad_line line entries))
    go None h = tt
    go (Some new) h = h new refl

sound : (input : List ℕ) → Sound (reading_of input)
unfolding reading_of good_board
sound input = go (ltb most_bytes (length input)) (parts line_feed input)
  where
    counted : (workers nodes : ℕ) (others : List (List ℕ)) (t : Bool) → good_counts workers nodes ≡ t →
        Sound (option_map_or (λ (counts : ℕ × ℕ). lines_from counts.0 counts.1 2 [] others) (cond t (Some (workers, nodes)) None) (bad_line 1 []))
    counted workers nodes others true g = sound_lines workers nodes g 2 [] others (omega arith)
    counted workers nodes others false g = tt

    first : (line : Option Line) (others : List (List ℕ)) →
        Sound (option_map_or (λ (counts : ℕ × ℕ). lines_from counts.0 counts.1 2 [] others) (option_and_then good_board line) (bad_line 1 []))
    first (Some (Board workers nodes)) others = counted workers nodes others (good_counts workers nodes) refl
    first (Some (Entries entry count)) others = tt
    first None others = tt

    go : (t : Bool) (texts : List (List ℕ)) → Sound (cond t (bad_line 0 []) (input_lines texts))
    go true texts = tt
    go false [] = tt
    go false (text ∷ []) = tt
    go false (text ∷ next ∷ others) = first (line_of text) (next ∷ others)

-- of a planned input: the counts are good, and the words of its schedule are those of its entries
module _ (input : List ℕ) (workers nodes : ℕ) (entries : List Entry) (plan : reading_of input ≡ planned workers nodes entries) where
  pub planned_sound : (good_counts workers nodes ≡ true) × (length entries ≤ most_entries)
  planned_sound = subst (λ (o : Reading). Sound o) plan (sound input)

  pub planned_words : (schedule : List ℕ) → entry_width * most_entries ≤ length schedule →
      take (entry_width * length entries) (scheduled schedule (reading_of input)) ≡ flat_words entry_words entries
  planned_words schedule h =
      let sized = flat_length entry_laws entries in
      rw (plan, sets-eq (flat_words entry_words entries) schedule 0 (omega (arith, planned_sound.1, sized)), zero-add)
      (take_at (flat_words entry_words entries) _ (entry_width * length entries) sized)
