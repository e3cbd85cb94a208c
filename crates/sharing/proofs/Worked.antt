-- The worked cases of sharing, by computation.
use Rattle.std.proofs.Common.{refl, lit<}
use Rattle.sharing.specs.Worked.{Worked}
use Rattle.sharing.specs.Wholes.{down_is, nearest_is}

pub worked : Worked
worked = record {
  thirds_nearest = rw (nearest_is 0 3 (lit< tt), nearest_is 100_000 3 (lit< tt), nearest_is 200_000 3 (lit< tt), nearest_is 300_000 3 (lit< tt)) refl;
  thirds_down = rw (down_is 0 3 (lit< tt), down_is 100_000 3 (lit< tt), down_is 200_000 3 (lit< tt), down_is 300_000 3 (lit< tt)) refl;
}
