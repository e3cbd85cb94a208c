-- The mean temperature of a period, in tenths of °C, from its weather lines.
use Rattle.std.specs.Float.{nan, inf, fin, binary64}
use Rattle.std.specs.Float.Ieee.{add, mul, div, le, neg, up, down}
use Rattle.std.specs.Prelude.{◌/◌, ℤ, pos, ◌+ℤ◌, neg_ℤ, ◌≤ℤ◌, fold, from_bits, Float, Bool, true, false, not, ◌&&◌, ◌||◌, List, [], ◌∷◌, ℕ, ◌+◌, ◌*◌, eqb, ltb, length, Option, Some, None}
use Rattle.std.specs.Int.{int_div_euclid}
use Rattle.std.specs.List.{filter_map, list_all}
use Rattle.sharing.specs.declared.refusal.Refusal.{Refusal}
use Rattle.sharing.specs.declared.refusal.Refusal.TheVariants.{OutOfRange, NoObservation}
pub use Rattle.tariff.specs.Limits.{most_days, most_degrees, most_tenths}
use Rattle.tariff.specs.declared.weather.Extremes.{Extremes}
use Rattle.tariff.specs.declared.weather.WeatherLine.{WeatherLine}
use Rattle.tariff.specs.declared.weather.WeatherLine.TheVariants as line

-- the float 2
abbrev pub two : Float
two = from_bits binary64 0x4000_0000_0000_0000

-- the float 10
abbrev pub ten : Float
ten = from_bits binary64 0x4024_0000_0000_0000

-- a temperature within its limit: what is no number and the infinities are not
abbrev pub degree : Float → Bool
degree x = le (neg most_degrees) x && le x most_degrees

-- half the sum of the day's lowest and highest, by 64-bit operations
abbrev pub middle : Extremes → Float
middle e = div binary64 (add binary64 e.lowest e.highest) two

-- the nearest whole number, halves away from zero; `fin s m e` is m × 2 ^ e, negative where s is true, and 2 ^ e is up e / down e
abbrev pub whole_away : Float → ℤ
whole_away nan = pos 0
whole_away (inf s) = pos 0
whole_away (fin false m e) = pos ((2 * (m * up e) + down e) / (2 * down e))
whole_away (fin true m e) = neg_ℤ (pos ((2 * (m * up e) + down e) / (2 * down e)))

-- ten times a temperature, a 64-bit product, to the nearest whole number
abbrev pub tenths : Float → ℤ
tenths x = whole_away (mul binary64 x ten)

-- tenths within the limit of temperatures
abbrev pub Bounded : ℤ → Type 0
Bounded z = (neg_ℤ (pos most_tenths) ≤ℤ z) × (z ≤ℤ pos most_tenths)

-- a line's temperatures are within their limit, and its lowest is not above its highest
abbrev pub line_good : WeatherLine → Bool
line_good (line.Mean x) = degree x
line_good (line.Extremes e) = degree e.lowest && (degree e.highest && le e.lowest e.highest)
line_good line.Missing = true

-- why a line is refused
abbrev pub line_why : WeatherLine → List (Bool × Refusal)
line_why l = (not (line_good l), OutOfRange) ∷ []

-- a line's tenths, where the day is observed
abbrev pub observed : WeatherLine → Option ℤ
observed (line.Mean x) = Some (tenths x)
observed (line.Extremes e) = Some (tenths (middle e))
observed line.Missing = None

-- the tenths of the observed days
abbrev pub all_observed : List WeatherLine → List ℤ
all_observed ls = filter_map observed ls

-- s over n to the nearest whole number, halves up
abbrev pub halves_up : ℤ → ℕ → ℤ
halves_up s n = int_div_euclid (s +ℤ s +ℤ pos n) (pos (2 * n))

-- the mean of whole numbers, halves up
abbrev pub mean : List ℤ → ℤ
mean zs = halves_up (fold ◌+ℤ◌ (pos 0) zs) (length zs)

-- why a period is refused: too many lines or one that is not good, then no observed day
abbrev pub period_why : List WeatherLine → List (Bool × Refusal)
period_why ls = (ltb most_days (length ls) || not (list_all line_good ls), OutOfRange) ∷ (eqb (length (all_observed ls)) 0, NoObservation) ∷ []

-- the mean of a period over its observed days
abbrev pub period_mean : List WeatherLine → ℤ
period_mean ls = mean (all_observed ls)
