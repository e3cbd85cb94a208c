use Rattle.std.proofs.Common.{◌^◌, ◌<◌}
use Rattle.readings.proofs.Values.{Goes_on}
use Rattle.readings.proofs.reading.value.Given as goal

abbrev pub invariant-loop-digit : goal.invariant-loop-digit
invariant-loop-digit l = Goes_on l.digits l.digit-index l.n × (l.n < 10 ^ l.digit-index)
