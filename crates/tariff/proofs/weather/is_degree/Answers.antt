use Rattle.std.proofs.Common.{◌≡◌, Bool, true, false, cond, ◌||◌, Some, None, Less, Equal, Greater, refl, rules}
use lib.Ieee.{Float, lt, eq, le}
use Rattle.std.specs.Ordering.{float_partial_cmp, is_le, is_some_and, partial_le}
use Rattle.tariff.proofs.weather.is_degree.Goals as goal

by_tests : (a b c : Bool) → is_some_and is_le (cond a (Some Less) (cond b (Some Equal) (cond c (Some Greater) None))) ≡ (a || b)
by_tests true b c = refl
by_tests false true c = refl
by_tests false false true = refl
by_tests false false false = refl

at_most : (x y : Float) → partial_le float_partial_cmp x y ≡ le x y
unfolding le
at_most x y = by_tests (lt x y) (eq x y) (lt y x)

pub returns : goal.returns
returns c = search (rules, at_most)
