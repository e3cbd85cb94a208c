use Rattle.std.proofs.Common.{◌≡◌, take}
use Rattle.book.specs.Sound.{crowd}
use Rattle.book.proofs.office.crowd_of.Given as goal

abbrev pub invariant-loop-object : goal.invariant-loop-object
invariant-loop-object l = l.count ≡ crowd l.node (take l.object-index l.objects)
