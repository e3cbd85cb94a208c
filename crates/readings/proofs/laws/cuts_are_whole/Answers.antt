use Rattle.readings.proofs.Whole.{lines-whole, fields_whole}
use Rattle.readings.proofs.laws.cuts_are_whole.Goals as goal

pub returns : goal.returns
returns c = record { lines = lines-whole; fields = fields_whole }
