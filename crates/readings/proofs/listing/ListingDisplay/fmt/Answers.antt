use Rattle.std.proofs.Common.{refl}
use Rattle.readings.proofs.Listed.{one_more}
use Rattle.readings.proofs.listing.ListingDisplay.fmt.Goals as goal

pub loop-number-preserved : goal.loop-number-preserved
loop-number-preserved g c plain =
    let before = c.loop-number.invariant plain in
    one_more g.W.Write.write_str_gives c.args.self.now.lines.now c.loop-number.number _ c.loop-number-test.true before (c.in_ok-write.ensures.writes before.plain refl)
