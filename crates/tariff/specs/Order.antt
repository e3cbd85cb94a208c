-- The conditions of every call of this crate stand in the order of their numbers, so that the smallest is answered.
use Rattle.std.specs.Prelude.{List, ℕ}
use Rattle.sharing.specs.Refusals.{Ascending}
use Rattle.tariff.specs.Estimates.{Estimate, estimate_why}
use Rattle.tariff.specs.Rows.{Row, price_why, row_why}
use Rattle.tariff.specs.Uses.{Use, charges_why}
use Rattle.tariff.specs.Weather.{line_why, period_why}
use Rattle.tariff.specs.declared.weather.WeatherLine.{WeatherLine}

-- each call's conditions ascend, whatever it is given
pub record Ascend : Type 0 where
  -- those of a row to be entered
  pub entering : (rows : List Row) (r : Row) → Ascending (row_why rows r)
  -- of a price
  pub pricing : (rows : List Row) (i : ℕ) → Ascending (price_why rows i)
  -- of a charge
  pub charging : (rows : List Row) (uses : List Use) → Ascending (charges_why rows uses)
  -- of an estimate
  pub estimating : (e : Estimate) → Ascending (estimate_why e)
  -- of a day's weather
  pub observing : (l : WeatherLine) → Ascending (line_why l)
  -- of a period's
  pub averaging : (ls : List WeatherLine) → Ascending (period_why ls)
