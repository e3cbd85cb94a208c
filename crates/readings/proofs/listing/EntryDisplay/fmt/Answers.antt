use Rattle.std.proofs.Common.{refl}
use Rattle.readings.proofs.Listed.{line_put}
use Rattle.readings.proofs.listing.EntryDisplay.fmt.Goals as goal

pub returns-clause-writes : goal.returns-clause-writes
returns-clause-writes g c plain ok =
    let first = c.in_ok-write.ensures.writes plain refl in
    let second = c.in_ok-write-2.ensures.writes first.plain refl in
    line_put c.args.self.now.number c.number-kind.result c.args.self.now.line c.number-kind.ensures g.W.Write.write_str_gives first second (c.write-3.ensures.writes second.plain ok)
