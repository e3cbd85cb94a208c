-- The days of a period and their mean.
use Rattle.std.proofs.Common.{◌≡◌, ℕ, suc, ◌+◌, ◌*◌, ◌/◌, ◌<◌, ◌≤◌, Bool, true, false, not, ◌&&◌, List, [], ◌∷◌, length, get_or, drop, ℤ, pos, negsuc, ◌+ℤ◌, neg_ℤ, ◌≤ℤ◌, ◌<ℤ◌, Some, None, Ok, Err, fold, Option, Result, MatchResult, sym, refl, ap, ◌∙◌, subst, div-lt_iff_lt-mul, arith}
use lib.Ieee.{le}
use Rattle.std.specs.Int.{int_div_euclid}
use Rattle.std.proofs.lemmas.List.{at_drop_more}
use Rattle.std.proofs.lemmas.Int.{ints}
use Rattle.std.proofs.lemmas.Bool.{and_parts, cond-true, or_right, not_from_false}
use Rattle.std.specs.List.{cons_option, list_all}
use Rattle.sharing.specs.declared.refusal.Refusal.{Refusal}
use Rattle.sharing.specs.declared.refusal.Refusal.TheVariants.{OutOfRange}
use Rattle.sharing.specs.Refusals.{decided}
use Rattle.sharing.proofs.Passing.{one_fails, one_passes}
use Rattle.sharing.proofs.Picked.{refused}
use Rattle.tariff.specs.Weather.{Bounded, degree, tenths, middle, line_good, line_why, observed, all_observed, halves_up, most_tenths, period_why, period_mean}
use Rattle.tariff.specs.declared.weather.Extremes.{Extremes}
use Rattle.tariff.specs.declared.weather.WeatherLine.{WeatherLine}
use Rattle.tariff.specs.declared.weather.WeatherLine.TheVariants as line
use Rattle.tariff.proofs.Floats.{middle-degree, tenths-bounded}

-- ---- a day

-- the middle of good extremes is within the limit
pub good_middle : (e : Extremes) → line_good (line.Extremes e) ≡ true → degree (middle e) ≡ true
good_middle e good =
    let each = and_parts (degree e.lowest) (degree e.highest && le e.lowest e.highest) good in
    middle-degree e each.0 (and_parts (degree e.highest) (le e.lowest e.highest) each.1).0

-- what the answer for a line tells
day_told : (l : WeatherLine) (r : Result (Option ℤ) Refusal) → r ≡ decided (line_why l) (observed l)
    → MatchResult r (λ o. (line_good l ≡ true) × (o ≡ observed l)) (λ f. (line_good l ≡ false) × (f ≡ OutOfRange))
day_told l r e = subst (λ d. MatchResult d (λ o. (line_good l ≡ true) × (o ≡ observed l)) (λ f. (line_good l ≡ false) × (f ≡ OutOfRange))) (sym e) (told (line_good l))
  where
    told : (good : Bool) → MatchResult (decided ((not good, OutOfRange) ∷ []) (observed l)) (λ o. (good ≡ true) × (o ≡ observed l)) (λ f. (good ≡ false) × (f ≡ OutOfRange))
    told true = (refl, refl)
    told false = (refl, refl)

-- a day's tenths are from -500 to 500
day_bounded : (l : WeatherLine) (t : ℤ) → line_good l ≡ true → Some t ≡ observed l → Bounded t
day_bounded (line.Mean x) t good e = let same : tenths x ≡ t = cc in subst Bounded same (tenths-bounded x good)
day_bounded (line.Extremes x) t good e = let same : tenths (middle x) ≡ t = cc in subst Bounded same (tenths-bounded (middle x) (good_middle x good))
day_bounded line.Missing t good e = let z : ◌≡◌ {A = ℕ} 0 1 = cc in absurd (omega arith)

pub accepted_bounded : (l : WeatherLine) (o : Option ℤ) (t : ℤ) → Ok o ≡ decided (line_why l) (observed l) → o ≡ Some t → Bounded t
accepted_bounded l o t e is = let day = day_told l (Ok o) e in day_bounded l t day.0 (sym is ∙ day.1)

-- ---- a period

-- after i lines, `days` of them observed, with tenths that come to `sum`: the lines that are left decide the rest
pub record Reached (ls : List WeatherLine) (i days : ℕ) (sum : ℤ) : Type 0 where
  pub good : list_all line_good (drop i ls) ≡ list_all line_good ls
  pub count : days + length (all_observed (drop i ls)) ≡ length (all_observed ls)
  pub total : fold ◌+ℤ◌ sum (all_observed (drop i ls)) ≡ fold ◌+ℤ◌ (pos 0) (all_observed ls)
  pub few : days ≤ i
  pub low : neg_ℤ (pos (most_tenths * days)) ≤ℤ sum
  pub high : sum ≤ℤ pos (most_tenths * days)

module _ (ls : List WeatherLine) (i days : ℕ) (sum : ℤ) (r : Reached ls i days sum) (d : WeatherLine) (within : i < length ls) where
  module _ (o : Option ℤ) (e : Ok o ≡ decided (line_why (get_or ls i d)) (observed (get_or ls i d))) where
    -- one line on
    still_good : list_all line_good (drop (i + 1) ls) ≡ list_all line_good ls
    still_good = sym (one_passes line_good ls i d within (day_told (get_or ls i d) (Ok o) e).0) ∙ r.good

    one_more : (p : Option ℤ) → o ≡ p → all_observed (drop i ls) ≡ cons_option p (all_observed (drop (i + 1) ls))
    one_more p is = at_drop_more all_observed ls i d within ∙ ap (λ (x : Option ℤ). cons_option x (all_observed (drop (i + 1) ls))) (sym (day_told (get_or ls i d) (Ok o) e).1 ∙ is)

    -- an observed day
    pub one_day : (t sum' : ℤ) (days' : ℕ) → o ≡ Some t → sum' ≡ sum +ℤ t → days' ≡ days + 1 → Reached ls (i + 1) days' sum'
    one_day t sum' days' is s n =
        let bounded = accepted_bounded (get_or ls i d) o t e is in
        let counts : length (all_observed (drop i ls)) ≡ suc (length (all_observed (drop (i + 1) ls))) = ap length (one_more (Some t) is) in
        record {
          good = still_good;
          count = omega (arith, r.count);
          total = ap (λ (z : ℤ). fold ◌+ℤ◌ z (all_observed (drop (i + 1) ls))) s ∙ sym (ap (fold ◌+ℤ◌ sum) (one_more (Some t) is)) ∙ r.total;
          few = omega (arith, r.few);
          low = omega (arith, ints, r.low);
          high = omega (arith, ints, r.high);
        }

    -- a missing one
    pub no_more : o ≡ None → Reached ls (i + 1) days sum
    no_more is =
        let more = one_more None is in
        record {
          good = still_good;
          count = ap (λ zs. days + length zs) (sym more) ∙ r.count;
          total = ap (fold ◌+ℤ◌ sum) (sym more) ∙ r.total;
          few = omega (arith, r.few);
          low = r.low;
          high = r.high;
        }

  -- a line that is refused
  pub bad_line : (f : Refusal) → Err f ≡ decided (line_why (get_or ls i d)) (observed (get_or ls i d)) → Err f ≡ decided (period_why ls) (period_mean ls)
  bad_line f e =
      let day = day_told (get_or ls i d) (Err f) e in
      let bad = sym r.good ∙ one_fails line_good ls i d within day.0 in
      ap Err day.1 ∙ refused (period_why ls) OutOfRange (period_mean ls) (cond-true _ _ _ (or_right _ _ (not_from_false _ bad)))

-- ---- the mean

quotient_bounded : (z : ℤ) (b : ℕ) → 0 < b → (neg_ℤ (pos (most_tenths * b))) ≤ℤ z → z <ℤ pos (501 * b) → Bounded (int_div_euclid z (pos b))
quotient_bounded (pos a) b p low high =
    let h : a / b < 501 = (div-lt_iff_lt-mul p).1 (omega (arith, ints)) in
    (omega (arith, ints), omega (arith, ints))
quotient_bounded (negsuc a) b p low high =
    let h : a / b < 500 = (div-lt_iff_lt-mul p).1 (omega (arith, ints)) in
    (omega (arith, ints), omega (arith, ints))

-- the mean of numbers from -500 to 500 is one
pub halves_up-bounded : (s : ℤ) (n : ℕ) → 1 ≤ n → (neg_ℤ (pos (most_tenths * n))) ≤ℤ s → s ≤ℤ pos (most_tenths * n) → Bounded (halves_up s n)
halves_up-bounded s n some low high = quotient_bounded (s +ℤ s +ℤ pos n) (2 * n) (omega arith) (omega (arith, ints)) (omega (arith, ints))
