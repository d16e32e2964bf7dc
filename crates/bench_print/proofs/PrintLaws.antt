-- Laws of printing, one text behind the other.
use Prim.Native.Nat.{ℕ, ◌+◌, ◌<◌}
use mathlib.Core.Path.{◌≡◌, refl, ap, ◌∙◌}
use mathlib.Core.List.{List, [], ◌∷◌, ◌++◌}
use native.Mathlib.Omega.{arith}
use Rattle.std.specs.List.{flat_map}
use Rattle.std.proofs.lemmas.List.{take_more, flat_map_more}
use lib.ListN.{length, get_or, take, length-append}
use lib.Seq.{sets, length-sets}
use Rattle.words.proofs.Runs.{sets_append, sets_out}
use Rattle.bench_print.specs.declared.Output.{Output}
use Rattle.bench_print.specs.Print.{place_behind, Printed, Prints}

pub printed_none : (out : List ℕ) (at : ℕ) → Printed [] out at out at
printed_none out at = record { bytes = refl; place = omega arith }

-- a second text behind the first; where the first does not fit, there is no room for the second
second_bytes : (a b out : List ℕ) (at : ℕ) → sets (sets out at a) (place_behind (length out) at (length a)) b ≡ sets out at (a ++ b)
second_bytes a b out at = rw sets_append (grind (arith, sets_out, length-sets))

pub printed_length : {a out out' : List ℕ} {at next : ℕ} → Printed a out at out' next → length out' ≡ length out
printed_length {a} {out} {out'} {at} p = ap length p.bytes ∙ length-sets out at a

pub printed_then : {a b out out' out'' : List ℕ} {at next last : ℕ} → Printed a out at out' next → Printed b out' next out'' last →
    Printed (a ++ b) out at out'' last
printed_then {a} {b} {out} {out'} {out''} {at} {next} {last} p q =
    record {
      bytes = q.bytes ∙ rw (p.bytes, p.place) (second_bytes a b out at);
      place = let e = printed_length p in omega (arith, p.place, q.place, length-append a b);
    }

-- the same of a lent output
pub prints_none : (o : Output) → Prints [] o o
prints_none o = record { same_reference = refl; printed = printed_none _ _ }

pub prints_then : {a b : List ℕ} {before between after : Output} → Prints a before between → Prints b between after → Prints (a ++ b) before after
prints_then p q = record { same_reference = q.same_reference ∙ p.same_reference; printed = printed_then p.printed q.printed }

-- one text more of the texts of a list
pub prints_next : {A : Type 0} (text : A → List ℕ) (xs : List A) (x : A) {before between after : Output} →
    Prints (flat_map text xs) before between → Prints (text x) between after → Prints (flat_map text (xs ++ (x ∷ []))) before after
prints_next text xs x p q = rw (← flat_map_more text [] xs x) (prints_then p q)

pub prints_more : {A : Type 0} (text : A → List ℕ) (xs : List A) (i : ℕ) (default : A) {before between after : Output} → i < length xs →
    Prints (flat_map text (take i xs)) before between → Prints (text (get_or xs i default)) between after →
    Prints (flat_map text (take (i + 1) xs)) before after
prints_more text xs i default there p q =
    rw (take_more xs i default there) (prints_next text (take i xs) (get_or xs i default) p q)
