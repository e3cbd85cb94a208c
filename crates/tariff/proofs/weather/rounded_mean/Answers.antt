use Rattle.std.proofs.Common.{◌≡◌, ◌*◌, pos, ◌+ℤ◌, ◌*ℤ◌, sym, ◌∙◌, subst, arith, w32, SFits, to_z, of_z, rules}
use Rattle.std.proofs.lemmas.Int.{ints, to_z-of_z}
use Rattle.tariff.specs.Weather.{Bounded, halves_up}
use Rattle.tariff.proofs.Period.{halves_up-bounded}
use Rattle.tariff.proofs.weather.rounded_mean.Goals as goal

pub returns : goal.returns
returns c =
    let s = c.args.sum in
    let n = c.args.days in
    let d = c.from-days.result in
    let r = c.div_euclid.result in
    let fits : SFits w32 r = search rules in
    let above : to_z w32 (of_z w32 (to_z w32 (of_z w32 (pos 2 *ℤ to_z w32 (of_z w32 s))) +ℤ to_z w32 (of_z w32 d))) ≡ s +ℤ s +ℤ pos n = omega (arith, ints) in
    let below : to_z w32 (of_z w32 (pos 2 *ℤ to_z w32 (of_z w32 d))) ≡ pos (2 * n) = omega (arith, ints) in
    let quotient : r ≡ halves_up s n = cc in
    let value = to_z-of_z w32 r fits ∙ quotient in
    record {
      value = value;
      within = subst Bounded (sym value) (halves_up-bounded s n c.requires.few.0 c.requires.low c.requires.high);
    }
