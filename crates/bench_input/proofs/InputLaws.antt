-- Laws of the input, line by line.
use Rattle.std.proofs.Common.{◌≡◌, ℕ, suc, true, ◌+◌, ◌*◌, ◌<◌, ◌≤◌, List, [], ◌∷◌, ◌++◌, Option, Some, None, Result, Ok, Err, leb, MatchOption, length, replicate, length-append, add-one, zero-add, refl, sym, ap, ◌∙◌, arith}
use mathlib.Core.List.{flatten}
use Rattle.std.specs.Option.{option_and_then, option_map, option_map_or, unwrap_or}
use Rattle.std.proofs.lemmas.Bool.{leb-true, le-ltb, lt-ltb}
use Rattle.std.proofs.lemmas.Grind.{replicate_next}
use Rattle.std.proofs.lemmas.List.{length-replicate}
use Rattle.std.proofs.lemmas.List.Edits.{sets}
use Rattle.std.proofs.lemmas.Option.{none-some, cond_some}
use Rattle.words.specs.Layout.{good_counts}
use Rattle.words.specs.Flat.{flat_words, with_record}
use Rattle.words.specs.declared.entry.Entry.{Entry}
use Rattle.words.specs.Entries.{entry_width, entry_words, entry_laws, most_entries}
use Rattle.words.proofs.Runs.{sets_append}
use Rattle.words.proofs.FlatLaws.{flat_append, flat_length, flat_behind}
use Rattle.bench_input.specs.Bytes.{line_feed, parts}
use Rattle.bench_input.specs.Lines.{line_of}
use Rattle.bench_input.specs.Input.{most_bytes, Reading, planned, good_board, bad_line, new_entries, text_entries, lines_from, board_line}
use Rattle.bench_input.specs.Input.{reading_of, parsed_of, words_of, scheduled}
use Rattle.bench_input.specs.declared.Plan.{Plan}
use Rattle.bench_input.specs.declared.BadLine.{BadLine}
use Rattle.bench_input.specs.declared.lines.Line.{Line}
use Rattle.bench_input.specs.declared.lines.Line.TheVariants.{Board, Entries}
use Rattle.bench_input.proofs.LineLaws.{some_part}

-- no copies, and one more behind some
pub copies_none : (words : List ℕ) (i : ℕ) → sets words i (flat_words entry_words []) ≡ words
unfolding flatten
copies_none words i = refl

pub copies_more : (entry : Entry) (words : List ℕ) (i k : ℕ) →
    with_record (sets words (entry_width * i) (flat_words entry_words (replicate k entry))) (i + k) (entry_words entry)
    ≡ sets words (entry_width * i) (flat_words entry_words (replicate (k + 1) entry))
copies_more entry words i k =
    let counted : length (replicate k entry) ≡ k = length-replicate k entry in
    rw replicate_next (rw counted at (flat_behind entry_laws (replicate k entry) words i entry))

-- the entries of a line are not too many
pub new_fit : (before : ℕ) (line : Option Line) (new : List Entry) → option_and_then (new_entries before) line ≡ Some new →
    before + length new ≤ most_entries
unfolding new_entries
new_fit before None new e = absurd (none-some new e)
new_fit before (Some (Board workers nodes)) new e = absurd (none-some new e)
new_fit before (Some (Entries entry count)) new e =
    let both = cond_some (leb (before + count) most_entries) (replicate count entry) new e in
    let counted : length (replicate count entry) ≡ count = length-replicate count entry in
    rw (← both.1) (omega (arith, counted, leb-true (before + count) most_entries both.0))

-- what `parse` promises
abbrev pub Says : Reading → List ℕ → Result Plan BadLine → List ℕ → Type 0
Says reading schedule answer words = (answer ≡ parsed_of reading) × (words ≡ scheduled schedule reading)

module _ (workers nodes : ℕ) where
  -- what all lines from the second on give
  abbrev pub all_lines : List ℕ → Reading
  all_lines text = lines_from workers nodes 2 [] (parts line_feed text)

  -- what has been read of a text, where `rest` is left of it: the entries so far stand in the schedule
  pub record Read (text schedule rest words : List ℕ) (line count : ℕ) : Type 0 where
    pub entries : List Entry
    pub counted : length entries ≡ count
    pub written : words ≡ sets schedule 0 (flat_words entry_words entries)
    pub onward : all_lines text ≡ lines_from workers nodes line entries (parts line_feed rest)

  pub nothing_read : (text schedule : List ℕ) → Read text schedule text schedule 2 0
  unfolding flatten
  nothing_read text schedule = record { entries = []; counted = refl; written = refl; onward = refl }

  -- the first line of what is left decides
  lines_on : (line : ℕ) (entries : List Entry) (rest first others : List ℕ) → parts line_feed rest ≡ first ∷ parts line_feed others →
      lines_from workers nodes line entries (parts line_feed rest)
      ≡ option_map_or (λ new. lines_from workers nodes (suc line) (entries ++ new) (parts line_feed others))
      (text_entries (length entries) first) (bad_line line entries)
  unfolding lines_from
  lines_on line entries rest first others cut = rw (cut, (some_part line_feed others).2)

  -- behind the last LF stand bytes
  not_ended : (line : ℕ) (entries : List Entry) (rest : List ℕ) → 0 < length rest →
      lines_from workers nodes line entries (rest ∷ []) ≡ bad_line line entries
  unfolding lines_from
  not_ended line entries [] h = absurd (omega arith)
  not_ended line entries (byte ∷ rest) h = refl

  -- or none
  ended : (line : ℕ) (entries : List Entry) (rest : List ℕ) → length rest ≡ 0 →
      lines_from workers nodes line entries (parts line_feed rest) ≡ planned workers nodes entries
  unfolding lines_from parts
  ended line entries [] h = refl
  ended line entries (byte ∷ rest) h = absurd (omega arith)

  module _ {text schedule rest words : List ℕ} {line count : ℕ} (r : Read text schedule rest words line count) where
    -- a reading of the rest is one of the whole
    told : (reading : Reading) → lines_from workers nodes line r.entries (parts line_feed rest) ≡ reading → words_of reading ≡ flat_words entry_words r.entries →
        Says (all_lines text) schedule (parsed_of reading) words
    told reading e w = (sym (ap parsed_of (r.onward ∙ e)), r.written ∙ sym (ap (scheduled schedule) (r.onward ∙ e) ∙ ap (sets schedule 0) w))

    pub read_not_ended : parts line_feed rest ≡ rest ∷ [] → 0 < length rest → Says (all_lines text) schedule (Err (record { 0 = line })) words
    read_not_ended whole h = told (bad_line line r.entries) (rw whole (not_ended line r.entries rest h)) refl

    -- the input ends
    pub read_all : length rest ≡ 0 → Says (all_lines text) schedule (Ok (record { workers = workers; nodes = nodes; entries = count })) words
    read_all h = rw (← r.counted) (told (planned workers nodes r.entries) (ended line r.entries rest h) refl)

    -- a line is read
    pub read_line : (first others after : List ℕ) (answer : Option ℕ) → parts line_feed rest ≡ first ∷ parts line_feed others →
        answer ≡ option_map (λ new. count + length new) (text_entries count first) →
        after ≡ sets words (entry_width * count) (flat_words entry_words (unwrap_or (text_entries count first) [])) →
        MatchOption answer (Says (all_lines text) schedule (Err (record { 0 = line })) after)
        (λ now. (now ≤ most_entries) × Read text schedule others after (line + 1) now)
    unfolding flatten
    read_line first others after answer cut a w = rw a (go (text_entries count first) refl w)
      where
        go : (o : Option (List Entry)) → text_entries count first ≡ o → after ≡ sets words (entry_width * count) (flat_words entry_words (unwrap_or o [])) →
            MatchOption (option_map (λ new. count + length new) o) (Says (all_lines text) schedule (Err (record { 0 = line })) after)
            (λ now. (now ≤ most_entries) × Read text schedule others after (line + 1) now)
        go None e w = rw w (told (bad_line line r.entries) (lines_on line r.entries rest first others cut ∙ rw (r.counted, e)) refl)
        go (Some new) e w =
            let place : length (flat_words entry_words r.entries) ≡ entry_width * count = rw (flat_length entry_laws, r.counted) in (
              new_fit count (line_of first) new e,
              record {
                entries = r.entries ++ new;
                counted = rw (length-append, r.counted);
                written = rw (w, r.written, flat_append entry_words, sets_append, zero-add, place);
                onward = rw add-one (r.onward ∙ lines_on line r.entries rest first others cut ∙ rw (r.counted, e));
              },
            )

-- an input that is bad before any entry leaves the schedule
pub nothing_written : (input schedule : List ℕ) (line : ℕ) → reading_of input ≡ bad_line line [] →
    Says (reading_of input) schedule (Err (record { 0 = line })) schedule
unfolding flatten
nothing_written input schedule line e = (sym (ap parsed_of e), sym (ap (scheduled schedule) e))

pub too_long : (input : List ℕ) → most_bytes < length input → reading_of input ≡ bad_line 0 []
unfolding reading_of
too_long input h = rw (lt-ltb most_bytes (length input) h)

-- line 1
module _ (input : List ℕ) (few : length input ≤ most_bytes) where
  pub no_line : parts line_feed input ≡ input ∷ [] → reading_of input ≡ bad_line 1 []
  unfolding reading_of
  no_line whole = rw (le-ltb most_bytes (length input) few, whole)

  pub first_line : (first others : List ℕ) → parts line_feed input ≡ first ∷ parts line_feed others →
      reading_of input ≡ board_line first (parts line_feed others)
  unfolding reading_of
  first_line first others cut = rw (le-ltb most_bytes (length input) few, cut, (some_part line_feed others).2)

  -- which is `board W N` with good counts, or bad
  pub not_board : (first others : List ℕ) (line : Option Line) → parts line_feed input ≡ first ∷ parts line_feed others → line ≡ line_of first →
      ((workers nodes : ℕ) → line ≡ Some (Board workers nodes) → ⊥) → reading_of input ≡ bad_line 1 []
  unfolding good_board
  not_board first others line cut e t = first_line first others cut ∙ rw (← e) (go line t)
    where
      go : (line : Option Line) → ((workers nodes : ℕ) → line ≡ Some (Board workers nodes) → ⊥) →
          option_map_or (λ (counts : ℕ × ℕ). lines_from counts.0 counts.1 2 [] (parts line_feed others)) (option_and_then good_board line) (bad_line 1 [])
          ≡ bad_line 1 []
      go None t = refl
      go (Some (Board workers nodes)) t = absurd (t workers nodes refl)
      go (Some (Entries entry count)) t = refl

  pub good_counts_lem : (first others : List ℕ) (workers nodes : ℕ) → parts line_feed input ≡ first ∷ parts line_feed others →
      line_of first ≡ Some (Board workers nodes) → good_counts workers nodes ≡ true → reading_of input ≡ all_lines workers nodes others
  unfolding good_board
  good_counts_lem first others workers nodes cut board good = first_line first others cut ∙ rw (board, good)

-- a line that is not one of entries has none
pub not_entries : (before : ℕ) (line : Line) → ((entry : Entry) (count : ℕ) → line ≡ Entries entry count → ⊥) → new_entries before line ≡ None
unfolding new_entries
not_entries before (Board workers nodes) t = refl
not_entries before (Entries entry count) t = absurd (t entry count refl)
