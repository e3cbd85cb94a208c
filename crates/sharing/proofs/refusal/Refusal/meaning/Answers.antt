use Rattle.std.proofs.Common.{sym, ap}
use Rattle.sharing.specs.Refusals.{words}
use Rattle.sharing.proofs.refusal.Refusal.meaning.Goals as goal

pub returns-in-NotColder : goal.returns-in-NotColder
returns-in-NotColder c = sym (ap words c.in-NotColder.is)

pub returns-in-NotPosted : goal.returns-in-NotPosted
returns-in-NotPosted c = sym (ap words c.in-NotPosted.is)

pub returns-in-Unsound : goal.returns-in-Unsound
returns-in-Unsound c = sym (ap words c.in-Unsound.is)
