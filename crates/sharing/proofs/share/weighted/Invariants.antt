use Rattle.std.proofs.Common.{◌≡◌, ◌*◌, map, take}
use Rattle.sharing.proofs.share.weighted.Given as goal

abbrev pub invariant-loop-weight : goal.invariant-loop-weight
invariant-loop-weight l = l.products.items ≡ map (λ w. l.total * w) (take l.weight-index l.weights)
