-- The estimate of heat that no meter counted.
pub use Rattle.tariff.specs.declared.estimate.Estimate.{Estimate}
pub use Rattle.tariff.specs.declared.estimate.Formula.{Formula}
use Rattle.std.specs.Prelude.{ℤ, pos, negsuc, ◌-ℤ◌, neg_ℤ, int_le, Bool, false, not, ◌&&◌, List, [], ◌∷◌, ℕ, ◌+◌, ◌*◌, leb, ltb}
use Rattle.sharing.specs.Limits.{most_quantity}
use Rattle.sharing.specs.Whole.{nearest}
use Rattle.sharing.specs.declared.refusal.Refusal.{Refusal}
use Rattle.sharing.specs.declared.refusal.Refusal.TheVariants.{OutOfRange, NotColder, TooMuchHeat}
use Rattle.tariff.specs.Limits.{most_days, most_tenths}
use Rattle.tariff.specs.declared.estimate.Estimate.TheVariants as estimate

-- tenths of °C within the limit of a temperature
abbrev pub temperature : ℤ → Bool
temperature t = int_le (neg_ℤ (pos most_tenths)) t && int_le t (pos most_tenths)

-- a signed number, and 0 where it is negative
abbrev pub positive : ℤ → ℕ
positive (pos n) = n
positive (negsuc n) = 0

-- how far x is above y, and 0 where it is not
abbrev pub above : ℤ → ℤ → ℕ
above x y = positive (x -ℤ y)

-- [qow × (tw − tb) : (tw − to) + qcwt] × hb : ho as one fraction, rounded once, nearest; where tb is not below tw the first term is 0
abbrev pub formula_heat : Formula → ℕ
formula_heat f =
    nearest ((f.qow.0 * above f.tw f.tb + f.qcwt.0 * above f.tw f.to) * f.hb) (above f.tw f.to * f.ho)

-- the heat that an estimate comes to: an agreed amount, or the formula
abbrev pub estimated : Estimate → ℕ
estimated (estimate.Agreed heat) = heat.0
estimated (estimate.Formula f) = formula_heat f

-- the heats of the formula are within their limits
abbrev pub heats_within : Formula → Bool
heats_within f = leb f.qow.0 most_quantity && leb f.qcwt.0 most_quantity

-- its temperatures
abbrev pub temperatures_within : Formula → Bool
temperatures_within f = temperature f.tw && (temperature f.tb && temperature f.to)

-- its days: a month before has at least one
abbrev pub days_within : Formula → Bool
days_within f = leb f.hb most_days && (leb 1 f.ho && leb f.ho most_days)

-- all its numbers
abbrev pub formula_within : Formula → Bool
formula_within f = heats_within f && (temperatures_within f && days_within f)

-- a number of the estimate is outside its limits
abbrev pub estimate_outside : Estimate → Bool
estimate_outside (estimate.Agreed heat) = ltb most_quantity heat.0
estimate_outside (estimate.Formula f) = not (formula_within f)

-- the outdoor mean of the month before is not below the indoor temperature
abbrev pub estimate_warm : Estimate → Bool
estimate_warm (estimate.Agreed heat) = false
estimate_warm (estimate.Formula f) = int_le f.tw f.to

-- why an estimate is refused
abbrev pub estimate_why : Estimate → List (Bool × Refusal)
estimate_why e = (estimate_outside e, OutOfRange) ∷ (estimate_warm e, NotColder) ∷ (ltb most_quantity (estimated e), TooMuchHeat) ∷ []
