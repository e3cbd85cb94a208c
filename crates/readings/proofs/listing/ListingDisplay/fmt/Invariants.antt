use Rattle.std.proofs.Common.{take}
use Rattle.std.specs.Fmt.{IsPlainFormatter, HasWritten}
use Rattle.readings.specs.Listing.{lines_bytes}
use Rattle.readings.proofs.listing.ListingDisplay.fmt.Given as goal

abbrev pub invariant-loop-number : goal.invariant-loop-number
invariant-loop-number g l = IsPlainFormatter l.initial.f → HasWritten g.W.Write.write_str_gives l.initial.f (lines_bytes 0 (take l.number l.self.lines.now)) l.f
