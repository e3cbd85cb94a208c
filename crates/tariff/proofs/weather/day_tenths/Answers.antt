use Rattle.std.proofs.Common.{sym, ap, ◌∙◌}
use Rattle.tariff.specs.Weather.{degree, line_good}
use Rattle.tariff.proofs.Period.{good_middle}
use Rattle.tariff.proofs.weather.day_tenths.Goals as goal

pub in_tenths-requires-in-Extremes : goal.in_tenths-requires-in-Extremes
in_tenths-requires-in-Extremes c =
    ap degree c.mean.ensures ∙ good_middle c.in-Extremes.extremes (ap line_good (sym c.in-Extremes.is) ∙ sym c.if-not-is_good.ensures)
