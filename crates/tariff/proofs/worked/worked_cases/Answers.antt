use Rattle.std.proofs.Common.{refl, lit<}
use Rattle.sharing.specs.Wholes.{nearest_is}
use Rattle.sharing.proofs.Worked.{worked}
use Rattle.tariff.proofs.worked.worked_cases.Goals as goal

pub returns : goal.returns
returns c = record {
  shares = worked;
  mixes = rw (nearest_is 1_356_000 1_000 (lit< tt)) refl;
  estimates = rw (nearest_is 1_395_000_000 4_500 (lit< tt)) refl;
  rounds_once = rw (nearest_is 15_500 4_200 (lit< tt)) refl;
  mean_above = refl;
  mean_below = refl;
}
