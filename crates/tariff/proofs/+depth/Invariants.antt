use Rattle.std.proofs.Common.{◌+◌, ◌*◌, max}
use Rattle.tariff.proofs.+depth.Given as goal

-- a row comes after the mixing of the rows below it
abbrev pub decreases-mixing::Mixing::depth : goal.decreases-mixing::Mixing::depth
decreases-mixing::Mixing::depth l = 2 * max l.self.now.mix.now.a.row l.self.now.mix.now.b.row + 1

abbrev pub decreases-rows::Rows::depth_of : goal.decreases-rows::Rows::depth_of
decreases-rows::Rows::depth_of l = 2 * l.row
