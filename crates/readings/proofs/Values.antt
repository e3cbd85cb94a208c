-- When a field is a value.
use Rattle.std.proofs.Common.{◌≡◌, ℕ, ◌+◌, ◌-◌, ◌*◌, ◌^◌, ◌<◌, ◌≤◌, true, false, not, ◌&&◌, eqb, ltb, List, length, get_or, drop, fold, ap, arith}
use native.Mathlib.Nat.{pow-le-pow_right}
use Rattle.std.specs.Str.{all_ascii_digits}
use Rattle.std.proofs.lemmas.Bool.{and_from, le-leb}
use Rattle.readings.specs.Formats.{is_value, number_of}

-- what at most twelve digits write
pub small : (n i : ℕ) → n < 10 ^ i → i < 13 → n < 1_000_000_000_000
small n i h k = omega (arith, pow-le-pow_right {n = 10} (omega arith) {i = i} {j = 12} (omega arith))

-- the digits from i on go on to write the number that all of them write
abbrev pub Goes_on : List ℕ → ℕ → ℕ → Type 0
Goes_on bs i n = (fold (λ n c. n * 10 + (c - 48)) n (drop i bs) ≡ number_of bs) × (all_ascii_digits (drop i bs) ≡ all_ascii_digits bs)

-- when bytes are a value
pub valued : (bs : List ℕ) → 0 < length bs → length bs ≤ 13 → all_ascii_digits bs ≡ true → (eqb (get_or bs 0 0) 48 && ltb 1 (length bs)) ≡ false → number_of bs ≤ 1_000_000_000_000 → is_value bs ≡ true
valued bs some few digits lean low =
    and_from _ _ (and_from _ _ (le-leb 1 (length bs) some) (le-leb (length bs) 13 few)) (and_from _ _ digits (and_from _ _ (ap not lean) (le-leb (number_of bs) 1_000_000_000_000 low)))
