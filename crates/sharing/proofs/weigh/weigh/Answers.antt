use Rattle.std.proofs.Common.{sym, ◌∙◌}
use Rattle.sharing.proofs.Weighing.{weighed, weights-light}
use Rattle.sharing.proofs.weigh.weigh.Goals as goal

pub returns-clause-small : goal.returns-clause-small
returns-clause-small g c =
    let key = g.K.SharingKey.weight c.args.key.now in
    let told = weighed key c.args.objects.now c.in_ok-weights.weights (sym c.in_ok-weights.was ∙ c.weights_by.ensures) in
    rw told (weights-light key c.args.objects.now (g.K.SharingKey.light c.args.key.now) (sym c.if-not-all_in_range.ensures))
