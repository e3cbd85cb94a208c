use Rattle.book.proofs.Crowds.{Counted}
use Rattle.book.proofs.check.not_crowded.Given as goal

abbrev pub invariant-loop-object : goal.invariant-loop-object
invariant-loop-object l = Counted l.counts l.objects l.object-index
