-- How many entries of a schedule pass a test, and what an entry waits for.
use Prim.Native.Nat.{ℕ, zero, suc, ◌+◌, ◌≤◌, ◌/◌}
use mathlib.Core.Path.{◌≡◌, refl, ap}
use mathlib.Core.List.{List, [], ◌∷◌, map}
use mathlib.Core.Bool.{Bool, true, false, cond, not, and-false}
use native.Mathlib.Omega.{arith}
use lib.ListN.{length}
use lib.Dec.{leb, ltb, eqb}
use borrow.Author.Tests.{lt-leb, ne_eqb, lt-ltb, le-ltb, leb-true, leb-false}
use Rattle.std.specs.List.{count_by, filter}
use Rattle.std.proofs.lemmas.List.Recursion.{is_count_by}
use Rattle.std.proofs.lemmas.List.Sums.{length-filter, count_by-le-length}
use Rattle.worker.specs.Worker.{within}
use Rattle.worker.specs.Refusals.{Test, judged}
use Rattle.words.specs.Entries.{entry_width, first_entry, entries_of}
use Rattle.words.proofs.EntryLaws.{entries_quotient}
use Rattle.words.specs.declared.entry.Entry.{Entry}
use Rattle.arena.specs.Start.{start_refusals}
use Rattle.linear.specs.Entries.{call_started, entry_refused, is_turn, is_waits, event_of}
use Rattle.schedule.specs.Run.{count_in}

-- those that pass a test
pub counted : (test : Entry → Bool) (chunks : List (List ℕ)) → count_in test (map first_entry chunks) ≡ count_by (λ words. test (first_entry words)) chunks
unfolding count_in
counted test = is_count_by (λ chunks. count_in test (map first_entry chunks)) (λ words. test (first_entry words)) refl
    (λ words others. go (test (first_entry words)) (first_entry words) (filter test (map first_entry others)))
  where
    go : (is : Bool) (entry : Entry) (others : List Entry) → length (cond is (entry ∷ others) others) ≡ cond is (1 + length others) (length others)
    go true entry others = omega arith
    go false entry others = refl

pub count_few : (test : Entry → Bool) (schedule : List ℕ) → count_in test (entries_of schedule) ≤ length schedule / entry_width
unfolding count_in
count_few test schedule = omega (arith, entries_quotient schedule, length-filter test (entries_of schedule), count_by-le-length test (entries_of schedule))

-- the turns among them are those with acts from 0 to 0
pub turns_within : (entries : List Entry) → count_in (λ entry. within 0 0 entry.act) entries ≡ count_in is_turn entries
unfolding count_in
turns_within [] = refl
turns_within (entry ∷ entries) =
    let same : within 0 0 entry.act ≡ is_turn entry = zero_only entry.act in
    rw same (go (is_turn entry) (turns_within entries))
  where
    zero_only : (act : ℕ) → within 0 0 act ≡ eqb act 0
    zero_only zero = refl
    zero_only (suc act) = rw (lt-leb (suc act) 0 (omega arith), ne_eqb (suc act) 0 (omega arith)) (and-false (leb 0 (suc act)))

    go : (turn : Bool) → count_in (λ entry. within 0 0 entry.act) entries ≡ count_in is_turn entries →
        length (cond turn (entry ∷ filter (λ entry. within 0 0 entry.act) entries) (filter (λ entry. within 0 0 entry.act) entries))
        ≡ length (cond turn (entry ∷ filter is_turn entries) (filter is_turn entries))
    go true same = ap suc same
    go false same = same

-- an entry that is no turn does not wait
not_waits : (refusals : List Test) → is_waits (judged refusals entry_refused call_started) ≡ false
not_waits [] = refl
not_waits ((applies, number) ∷ refusals) = go applies (not_waits refusals)
  where
    go : (applies : Bool) → is_waits (judged refusals entry_refused call_started) ≡ false →
        is_waits (cond applies (entry_refused number) (judged refusals entry_refused call_started)) ≡ false
    go true others = refl
    go false others = others

pub start_silent : (arena : List ℕ) (entry : Entry) → is_turn entry ≡ false → is_waits (event_of arena entry) ≡ false
unfolding event_of
start_silent arena entry starts = rw starts (not_waits (start_refusals arena entry.worker entry.act entry.key entry.length))

-- the room's test, as it is said of a row and as it is said of a count
pub below_or_not : (a b : ℕ) → ltb a b ≡ not (leb b a)
below_or_not a b = go (leb b a) refl
  where
    go : (t : Bool) → leb b a ≡ t → ltb a b ≡ not t
    go true e = le-ltb a b (leb-true b a e)
    go false e = lt-ltb a b (leb-false b a e)
