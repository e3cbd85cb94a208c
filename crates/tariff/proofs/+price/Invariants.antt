use Rattle.std.proofs.Common.{◌+◌, ◌*◌, max}
use Rattle.tariff.proofs.+price.Given as goal

-- a row comes after the mixing of the rows below it
abbrev pub decreases-mixing::Mixing::price : goal.decreases-mixing::Mixing::price
decreases-mixing::Mixing::price l = 2 * max l.self.now.mix.now.a.row l.self.now.mix.now.b.row + 1

abbrev pub decreases-rows::Rows::price_of : goal.decreases-rows::Rows::price_of
decreases-rows::Rows::price_of l = 2 * l.row
