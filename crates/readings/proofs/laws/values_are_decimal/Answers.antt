use Rattle.readings.proofs.Decimal.{values_decimal}
use Rattle.readings.proofs.laws.values_are_decimal.Goals as goal

pub returns : goal.returns
returns c = values_decimal
