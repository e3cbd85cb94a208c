use Rattle.std.proofs.Common.{arith, rules}
use Rattle.readings.proofs.Values.{small}
use Rattle.readings.proofs.reading.value.Goals as goal

pub overflow_mul-n : goal.overflow_mul-n
overflow_mul-n c = let s = small c.loop-digit.n c.loop-digit.digit-index c.loop-digit.invariant.1 (omega arith) in search rules

pub overflow_add-n : goal.overflow_add-n
overflow_add-n c = let s = small c.loop-digit.n c.loop-digit.digit-index c.loop-digit.invariant.1 (omega arith) in search rules
