use Rattle.agreement.specs.Desks.{state}
use Rattle.agreement.proofs.Turns.{Sofar}
use Rattle.agreement.proofs.run.run.Given as goal

abbrev pub invariant-loop-i : goal.invariant-loop-i
invariant-loop-i g l = Sofar g.K.SharingKey.weight g.R.Rounding.meaning (state l.initial.desk) l.calls l.initial.answers l.i l.answers (state l.desk)
