use Rattle.std.proofs.Common.{◌≡◌, Bool, take, drop, is_some}
use Rattle.std.specs.List.{list_all}
use Rattle.sharing.specs.Keys.{asked, weights_of}
use Rattle.sharing.specs.declared.key.Basis.{Basis}
use Rattle.sharing.proofs.weigh.weights_by.Given as goal

abbrev pub invariant-loop-object : goal.invariant-loop-object
invariant-loop-object g l =
    let has : Basis → Bool = λ o. is_some (asked (g.K.SharingKey.weight l.key) o) in
    (list_all has (drop l.object-index l.objects) ≡ list_all has l.objects)
    × (l.weights.items ≡ weights_of (g.K.SharingKey.weight l.key) (take l.object-index l.objects))
