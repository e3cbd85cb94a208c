use Rattle.std.proofs.Common.{arith, rules}
use Rattle.tariff.proofs.Estimates.{heating_low, constant_low, number-low, divisor-low, divisor-some}
use Rattle.tariff.proofs.estimate.Formula.heat.Goals as goal

pub overflow_mul-heating : goal.overflow_mul-heating
overflow_mul-heating c = omega (arith, heating_low c.args.self.now c.requires.within _ _ c.degrees_above.ensures.bound c.degrees_above-colder.ensures.bound)

pub overflow_mul-number : goal.overflow_mul-number
overflow_mul-number c = omega (arith, constant_low c.args.self.now c.requires.within _ _ c.degrees_above.ensures.bound c.degrees_above-colder.ensures.bound)

pub overflow_add-number : goal.overflow_add-number
overflow_add-number c =
    let f = c.args.self.now in
    let x = c.degrees_above.ensures.bound in
    let y = c.degrees_above-colder.ensures.bound in
    omega (arith, heating_low f c.requires.within _ _ x y, constant_low f c.requires.within _ _ x y)

pub overflow_mul-number-2 : goal.overflow_mul-number-2
overflow_mul-number-2 c = omega (arith, number-low c.args.self.now c.requires.within _ _ c.degrees_above.ensures.bound c.degrees_above-colder.ensures.bound)

pub overflow_mul-colder : goal.overflow_mul-colder
overflow_mul-colder c = omega (arith, divisor-low c.args.self.now c.requires.within _ _ c.degrees_above.ensures.bound c.degrees_above-colder.ensures.bound)

pub invariant_of-round : goal.invariant_of-round
invariant_of-round c =
    let f = c.args.self.now in
    let x = c.degrees_above.ensures.bound in
    let y = c.degrees_above-colder.ensures.bound in
    let some = c.degrees_above-colder.ensures.some (search rules) in
    record { within = (omega (arith, number-low f c.requires.within _ _ x y), divisor-some f c.requires.within _ _ x y some, omega (arith, divisor-low f c.requires.within _ _ x y)) }
