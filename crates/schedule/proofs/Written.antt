-- What the flat words hold at each time: the records of the calls that have started, as far as they are known.
use Prim.Native.Nat.{ℕ, zero, suc, ◌+◌, ◌≤◌, ◌<◌}
use mathlib.Core.Path.{◌≡◌, refl, sym, ap, subst, ◌∙◌}
use mathlib.Core.Logic.{◌≢◌, inr, ⊎_elim}
use mathlib.Core.List.{List, ◌++◌, Memᴰ, map}
use mathlib.Core.Bool.{true, false}
use native.Mathlib.Omega.{arith}
use native.Mathlib.Decide.{ℕ_discrete}
use lib.ListN.{length, get_or, set, length-map, get_or-map}
use Rattle.arena.proofs.ListLaws.{from_filter}
use Rattle.linear.proofs.TimeLaws.{from_times, pairs_times}
use Rattle.linear.proofs.MoreTimes.{passing_place, map_same, map_set}
use Rattle.linear.proofs.Timeline.{Schedule, Begun, begun_at, entry, run_starts_at, finishing, decisive}
use Rattle.linear.proofs.Phases.{not_decided, not_finished}
use Rattle.linear.proofs.OpenCalls.{only_open, At}
use Rattle.linear.proofs.Waiting.{starts}
use Rattle.schedule.specs.declared.Call.{Call}
use Rattle.schedule.specs.declared.book.Book.{Book}
use Rattle.words.specs.Flat.{flat_words}
use Rattle.schedule.specs.Run.{record_of, call_width, call_words, call_laws}
use Rattle.schedule.specs.Book.{call_in, with_call}
use Rattle.words.proofs.FlatLaws.{held_by, flat_read, flat_write}
use Rattle.schedule.proofs.CallsBy.{finish_by, call_by, call_done, call_quiet, open_or_done}
use Rattle.schedule.proofs.Booked.{Booked}

module _ (r : Schedule) where
  -- the records at a time, in order of start
  abbrev pub record_by : ℕ → ℕ → Call
  record_by now x = record_of (call_by r now x)

  abbrev pub records : ℕ → List Call
  records now = map (record_by now) (starts r now)

  -- the flat words at a time: the records, and behind them what was lent
  abbrev pub held : List ℕ → ℕ → List ℕ
  held lent now = held_by call_words call_width (record_by now) (starts r now) lent

  -- a start is the start of a call
  begun_of : (now x : ℕ) → Memᴰ x (starts r now) → (origin : ℕ) × (x ≡ suc origin) × Begun r origin × (suc origin ≤ now)
  begun_of now x m =
      let found = from_filter (run_starts_at r) m in
      go x (from_times 1 now found.0) found.1
    where
      go : (x : ℕ) → (1 ≤ x) × (x < 1 + now) → run_starts_at r x ≡ true →
          (origin : ℕ) × (x ≡ suc origin) × Begun r origin × (suc origin ≤ now)
      go zero within starting = absurd (omega (arith, within.0))
      go (suc origin) within starting = (origin, refl, begun_at r origin starting, omega (arith, within.1))

  -- with the next entry a call stays as it is that is neither finished nor decided by it
  still : (now origin : ℕ) → suc origin ≤ now → finishing r (entry r origin).worker (suc now) ≡ false →
      decisive r (entry r origin).worker (suc now) ≡ false → call_by r (suc now) (suc origin) ≡ call_by r now (suc origin)
  still now origin begun unfinished undecided =
      elim (ℕ_discrete (finish_by r now (suc origin)) 0) [
        | yes none ↦ call_quiet r now (suc origin) begun none unfinished undecided
        | no done ↦ call_done r now (suc origin) begun done
      ]

  module _ (now : ℕ) where
    -- where no worker's call is finished or decided, all stay
    pub all_still : ((w : ℕ) → finishing r w (suc now) ≡ false) → ((w : ℕ) → decisive r w (suc now) ≡ false) →
        records now ≡ map (record_by (suc now)) (starts r now)
    all_still unfinished undecided =
        map_same (record_by now) (record_by (suc now)) (starts r now)
        (λ x m.
        let b = begun_of now x m in
        rw b.1 (ap record_of (sym (still now b.0 b.3 (unfinished (entry r b.0).worker) (undecided (entry r b.0).worker)))))

    -- the record of the call that the worker of the next entry is at, and no other, may change
    module _ (at : At r now (entry r now).worker) where
      others : (x : ℕ) → Memᴰ x (starts r now) → x ≢ suc at.origin → record_by (suc now) x ≡ record_by now x
      others x m other =
          let b = begun_of now x m in
          rw b.1
          (ap record_of {x = call_by r (suc now) (suc b.0)} {y = call_by r now (suc b.0)}
          (elim (ℕ_discrete (entry r now).worker (entry r b.0).worker) [
            | no d ↦ still now b.0 b.3 (not_finished r _ now (inr d)) (not_decided r _ now (inr d))
            | yes e ↦
                ⊎_elim
                (λ o. absurd (other (b.1 ∙ ap suc
                (only_open r now b.0 at.origin b.2 at.begun (sym e ∙ sym at.own) o at.is_open))))
                (λ done. call_done r now (suc b.0) b.3 done)
                (open_or_done r b.0 b.2 now b.3)
          ]))

      module _ (book : Book) (booked : Booked r now book) where
        -- its number
        abbrev pub number : ℕ
        number = get_or book.opened (entry r now).worker 0

        pub number_is : number ≡ length (starts r at.origin)
        number_is =
            subst (λ v. get_or book.opened v 0 ≡ length (starts r at.origin)) at.own
            (booked.numbered at.origin at.begun at.is_open)

        placed : (number < length (starts r now)) × (get_or (starts r now) number 0 ≡ suc at.origin)
        placed = rw number_is (passing_place (run_starts_at r) 0 at.origin now at.begun.starting at.is_open.begun)

        rewritten : map (record_by (suc now)) (starts r now) ≡ set (records now) number (record_by (suc now) (suc at.origin))
        rewritten =
            map_set (record_by (suc now)) (record_by now) (starts r now) number (suc at.origin)
            (pairs_times (run_starts_at r) (λ a b. a < b) 1 now (λ s t low before high p q. before)) placed.0 placed.1 others

        pub its_record : (rest : List ℕ) → call_in (flat_words call_words (records now) ++ rest) number ≡ record_by now (suc at.origin)
        its_record rest =
            flat_read call_laws (records now) rest number (record_by now 0) (rw length-map placed.0)
            ∙ get_or-map (record_by now) (starts r now) number 0
            ∙ ap (record_by now) placed.1

        -- what is written there is written to the records
        pub written_there : (rest : List ℕ) (call : Call) → call ≡ record_by (suc now) (suc at.origin) →
            with_call (flat_words call_words (records now) ++ rest) number call ≡ flat_words call_words (map (record_by (suc now)) (starts r now)) ++ rest
        written_there rest call is =
            flat_write call_laws (records now) rest number call (rw length-map placed.0)
            ∙ ap (λ calls. flat_words call_words calls ++ rest) (ap (set (records now) number) is ∙ sym rewritten)
