use Rattle.tariff.proofs.Period.{Reached}
use Rattle.tariff.proofs.weather.period_mean.Given as goal

abbrev pub invariant-loop-line : goal.invariant-loop-line
invariant-loop-line l = Reached l.lines l.line-index l.days l.sum
