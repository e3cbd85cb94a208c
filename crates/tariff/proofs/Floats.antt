-- Temperatures stay within their limit through the rounded operations, and their tenths become whole numbers without loss.
use Rattle.std.proofs.Common.{◌≡◌, ℕ, zero, suc, ◌+◌, ◌-◌, ◌*◌, ◌/◌, ◌^◌, ◌<◌, ◌≤◌, min, Bool, true, false, cond, ◌&&◌, ◌||◌, T, eqb, ltb, pos, neg_ℤ, sym, refl, ap, ◌∙◌, subst, true≢false, lt_of_lt_of_le, mul-le-mul_right, mul_assoc, div-lt_iff_lt-mul, mul-pos, mul-one, mul_right_comm, le_of_mul-le-mul_right, mul-div_cancel, arith, lit≤, pow_mono, shl_lt}
use lib.Ieee.{Float, Format, nan, inf, fin, binary64, prec, low, up, down, odd, units, round, unlike, sum, add, mul, div, lt, eq, le, neg, of_bits, to_signed}
use lib.Ieee.Exact.{HasValue, round_exact}
use lib.Ieee.Order.{round_mono}
use lib.Ieee.Fits.{down_pos}
use Rattle.std.specs.Bool.{beq}
use Rattle.std.proofs.lemmas.Int.{ints}
use Rattle.std.proofs.lemmas.Bool.Decides.{nat_tests}
use Rattle.std.specs.Float.{float_round, float_with_sign, round_with}
use Rattle.tariff.specs.declared.weather.Extremes.{Extremes}
use Rattle.tariff.specs.Weather.{Bounded, two, ten, degree, middle, whole_away, tenths}

-- a number whose size is at most k
abbrev Within : ℕ → Float → Type 0
Within k nan = ⊥
Within k (inf s) = ⊥
Within k (fin s m e) = m * up e ≤ k * down e

-- ---- `degree` says that the size is at most 50

degree-within : (x : Float) → degree x ≡ true → Within 50 x
unfolding of_bits neg le lt eq
degree-within nan h = absurd (true≢false (sym h))
degree-within (inf true) h = absurd (true≢false (sym h))
degree-within (inf false) h = absurd (true≢false (sym h))
degree-within (fin true m e) h = grind (arith, nat_tests)
degree-within (fin false m e) h = grind (arith, nat_tests)

within-degree : (x : Float) → Within 50 x → degree x ≡ true
unfolding of_bits neg le lt eq
within-degree nan h = absurd h
within-degree (inf s) h = absurd h
within-degree (fin true m e) h = grind (arith, nat_tests)
within-degree (fin false m e) h = grind (arith, nat_tests)

-- ---- `round` does not pass a whole number that its fraction does not pass

signed_round : (f : Format) (s : Bool) (a c : ℕ) → float_with_sign s (round f false a c) ≡ round f s a c
unfolding round units odd float_with_sign
signed_round f s a c = go _ _ _
  where
    go : (b : Bool) (q k : ℕ) → float_with_sign s (cond b (odd (suc (prec f)) false q k (low f)) (inf false)) ≡ cond b (odd (suc (prec f)) s q k (low f)) (inf s)
    go true zero k = refl
    go true (suc q) k = refl
    go false q k = refl

whole-value : (s : Bool) (k : ℕ) → k < 2 ^ 53 → HasValue (round binary64 s k 1) s k 1
whole-value s k h = round_exact binary64 s k 1 k (low binary64) (omega arith) h (lt_of_lt_of_le (shl_lt 53 (low binary64) h) (pow_mono {i = 1127} {j = 2098} (lit≤ tt))) (sym (mul-one (k * 2 ^ low binary64)))

le_nat : (a b : ℕ) (x : Bool) → T (ltb a b || (eqb a b && x)) → a ≤ b
le_nat a b x h = grind (arith, nat_tests)

le_within : (s : Bool) (y z : Float) (k : ℕ) → T (le (float_with_sign false y) z) → HasValue z false k 1 → Within k (float_with_sign s y)
unfolding le lt eq float_with_sign
le_within s nan z k h v = absurd h
le_within s (inf t) nan k h v = absurd v
le_within s (inf t) (inf u) k h v = absurd v
le_within s (inf t) (fin u n d) k h v = absurd h
le_within s (fin t m e) nan k h v = absurd v
le_within s (fin t m e) (inf u) k h v = absurd v
le_within s (fin t m e) (fin true n d) k h v = absurd (true≢false v.0)
le_within s (fin t m e) (fin false n d) k h v =
    let c = le_nat (m * up e * down d) (n * up d * down e) _ h in
    let w : n * up d ≡ k * down d = sym (mul-one (n * up d)) ∙ v.1 in
    let r : n * up d * down e ≡ k * down e * down d = ap (λ (x : ℕ). x * down e) w ∙ mul_right_comm k (down d) (down e) in
    le_of_mul-le-mul_right {m = m * up e} {n = k * down e} {k = down d} (omega (arith, c, r)) (down_pos d)

round_within : (s : Bool) (n c k : ℕ) → 0 < c → k < 2 ^ 53 → n ≤ k * c → Within k (round binary64 s n c)
round_within s n c k p small h =
    let mono : T (le (round binary64 false n c) (round binary64 false k 1)) = round_mono binary64 n c k 1 p (omega arith) (omega arith) in
    subst (Within k) (signed_round binary64 s n c)
    (le_within s (round binary64 false n c) (round binary64 false k 1) k
    (subst (λ x. T (le x (round binary64 false k 1))) (sym (signed_round binary64 false n c)) mono) (whole-value false k small))

-- ---- the operations

sum-within : (s t : Bool) (a b c k : ℕ) → 0 < c → k < 2 ^ 53 → a + b ≤ k * c → Within k (sum binary64 s a t b c)
unfolding sum
sum-within s t a b c k p l h = go (beq s t) (ltb a b) (s && ltb b a)
  where
    go : (same x y : Bool) → Within k (cond same (round binary64 s (a + b) c) (cond x (round binary64 t (b - a) c) (round binary64 y (a - b) c)))
    go true x y = round_within s (a + b) c k p l h
    go false true y = round_within t (b - a) c k p l (omega arith)
    go false false y = round_within y (a - b) c k p l (omega arith)

add_within : (x y : Float) → Within 50 x → Within 50 y → Within 100 (add binary64 x y)
unfolding add
add_within nan y h g = absurd h
add_within (inf s) y h g = absurd h
add_within (fin s m e) nan h g = absurd g
add_within (fin s m e) (inf t) h g = absurd g
add_within (fin s m e) (fin t n d) h g =
    let one = mul-le-mul_right (down d) h in
    let two = mul-le-mul_right (down e) g in
    let l : 50 * down e * down d ≡ 50 * (down e * down d) = mul_assoc 50 (down e) (down d) in
    let r : 50 * down d * down e ≡ 50 * (down e * down d) = mul_right_comm 50 (down d) (down e) ∙ l in
    sum-within s t (m * up e * down d) (n * up d * down e) (down e * down d) 100 (mul-pos (down_pos e) (down_pos d)) (omega arith) (omega arith)

half_within : (x : Float) → Within 100 x → Within 50 (div binary64 x two)
unfolding of_bits div
half_within nan h = absurd h
half_within (inf s) h = absurd h
half_within (fin s m e) h = round_within (unlike s false) (m * up e * 1) (2 * down e) 50 (omega (arith, down_pos e)) (omega arith) (omega arith)

tenfold_within : (x : Float) → Within 50 x → Within 500 (mul binary64 x ten)
unfolding of_bits mul
tenfold_within nan h = absurd h
tenfold_within (inf s) h = absurd h
tenfold_within (fin s m e) h = round_within (unlike s false) (m * up e * 10) (down e * 1) 500 (omega (arith, down_pos e)) (omega arith) (omega arith)

-- ---- to a whole number

value_whole : (z : Float) (s : Bool) (n : ℕ) → n < 2147483648 → HasValue z s n 1 → to_signed 31 z ≡ cond s (neg_ℤ (pos n)) (pos n)
unfolding to_signed
value_whole nan s n h v = absurd v
value_whole (inf t) s n h v = absurd v
value_whole (fin t m e) s n h v =
    let w : m * up e ≡ n * down e = sym (mul-one (m * up e)) ∙ v.1 in
    let q : m * up e / down e ≡ n = ap (λ (x : ℕ). x / down e) w ∙ mul-div_cancel n (down_pos e) in
    let a : min n 2147483648 ≡ n = omega arith in
    let b : min n 2147483647 ≡ n = omega arith in
    rw (v.0, q, a, b) refl

abbrev nearest : ℕ → ℕ → ℕ
nearest n d = (2 * n + d) / (2 * d)

few : (n d : ℕ) → 0 < d → n ≤ 500 * d → nearest n d < 501
few n d p h = (div-lt_iff_lt-mul (omega arith)).1 (omega arith)

rounds_whole : (x : Float) → Within 500 x → to_signed 31 (float_round binary64 x) ≡ whole_away x
unfolding round_with
rounds_whole nan h = absurd h
rounds_whole (inf s) h = absurd h
rounds_whole (fin false m e) h =
    let n = nearest (m * up e) (down e) in
    let l : n < 501 = few (m * up e) (down e) (down_pos e) h in
    value_whole (round binary64 false n 1) false n (omega arith) (whole-value false n (omega arith))
rounds_whole (fin true m e) h =
    let n = nearest (m * up e) (down e) in
    let l : n < 501 = few (m * up e) (down e) (down_pos e) h in
    value_whole (round binary64 true n 1) true n (omega arith) (whole-value true n (omega arith))

whole-bounded : (x : Float) → Within 500 x → Bounded (whole_away x)
whole-bounded nan h = absurd h
whole-bounded (inf s) h = absurd h
whole-bounded (fin false m e) h =
    let l : nearest (m * up e) (down e) < 501 = few (m * up e) (down e) (down_pos e) h in
    (omega (arith, ints), omega (arith, ints))
whole-bounded (fin true m e) h =
    let l : nearest (m * up e) (down e) < 501 = few (m * up e) (down e) (down_pos e) h in
    (omega (arith, ints), omega (arith, ints))

-- ---- the facts that the code wants

tenfold : (x : Float) → degree x ≡ true → Within 500 (mul binary64 x ten)
tenfold x h = tenfold_within x (degree-within x h)

pub tenths-whole : (x : Float) → degree x ≡ true → to_signed 31 (float_round binary64 (mul binary64 x ten)) ≡ tenths x
tenths-whole x h = rounds_whole (mul binary64 x ten) (tenfold x h)

pub tenths-bounded : (x : Float) → degree x ≡ true → Bounded (tenths x)
tenths-bounded x h = whole-bounded (mul binary64 x ten) (tenfold x h)

pub middle-degree : (e : Extremes) → degree e.lowest ≡ true → degree e.highest ≡ true → degree (middle e) ≡ true
middle-degree e l h =
    within-degree (middle e) (half_within (add binary64 e.lowest e.highest) (add_within e.lowest e.highest (degree-within e.lowest l) (degree-within e.highest h)))
