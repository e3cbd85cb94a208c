-- The numbers of the formula are small.
use Rattle.std.proofs.Common.{◌≡◌, ℕ, ◌+◌, ◌*◌, ◌≤◌, true, mul-le-mul, arith}
use Rattle.std.proofs.lemmas.Bool.{and_parts, leb-true}
use Rattle.sharing.specs.Limits.{most_quantity}
use Rattle.tariff.specs.Estimates.{Formula, temperature, heats_within, temperatures_within, days_within, formula_within}
use Rattle.tariff.specs.Limits.{most_days}

pub record Limits (f : Formula) : Type 0 where
  pub qow : f.qow.0 ≤ most_quantity
  pub qcwt : f.qcwt.0 ≤ most_quantity
  pub tw : temperature f.tw ≡ true
  pub tb : temperature f.tb ≡ true
  pub to : temperature f.to ≡ true
  pub hb : f.hb ≤ most_days
  pub some : 1 ≤ f.ho
  pub ho : f.ho ≤ most_days

pub limits : (f : Formula) → formula_within f ≡ true → Limits f
limits f e =
    let all = and_parts (heats_within f) _ e in
    let rest = and_parts (temperatures_within f) (days_within f) all.1 in
    let heats = and_parts _ _ all.0 in
    let first = and_parts (temperature f.tw) _ rest.0 in
    let others = and_parts (temperature f.tb) (temperature f.to) first.1 in
    let days = and_parts _ _ rest.1 in
    let before = and_parts _ _ days.1 in
    record {
      qow = leb-true _ _ heats.0;
      qcwt = leb-true _ _ heats.1;
      tw = first.0;
      tb = others.0;
      to = others.1;
      hb = leb-true _ _ days.0;
      some = leb-true _ _ before.0;
      ho = leb-true _ _ before.1;
    }

-- the numbers of the one fraction
module _ (f : Formula) (within : formula_within f ≡ true) (x y : ℕ) (x_low : x ≤ 1_000) (y_low : y ≤ 1_000) where
  pub heating_low : f.qow.0 * x ≤ most_quantity * 1_000
  heating_low = mul-le-mul (limits f within).qow x_low

  pub constant_low : f.qcwt.0 * y ≤ most_quantity * 1_000
  constant_low = mul-le-mul (limits f within).qcwt y_low

  pub number-low : (f.qow.0 * x + f.qcwt.0 * y) * f.hb ≤ 200_000_000_000 * most_days
  number-low = mul-le-mul {n₁ = f.qow.0 * x + f.qcwt.0 * y} {n₂ = 200_000_000_000} (omega (arith, heating_low, constant_low)) (limits f within).hb

  pub divisor-low : y * f.ho ≤ 1_000 * most_days
  divisor-low = mul-le-mul y_low (limits f within).ho

  pub divisor-some : 1 ≤ y → 1 ≤ y * f.ho
  divisor-some y_some = mul-le-mul {n₁ = 1} {m₁ = 1} y_some (limits f within).some
