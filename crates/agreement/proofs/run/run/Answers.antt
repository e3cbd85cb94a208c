use Rattle.std.proofs.Common.{◌∙◌, arith}
use Rattle.std.proofs.lemmas.List.{get_or-take, length-take-le}
use Rattle.agreement.specs.Desks.{state}
use Rattle.agreement.proofs.Turns.{all_made, at_first, one_more}
use Rattle.agreement.proofs.run.run.Goals as goal

pub loop-i-init : goal.loop-i-init
loop-i-init g c = at_first _ _ _ _ _

pub loop-i-preserved : goal.loop-i-preserved
loop-i-preserved g c =
    let long = length-take-le c.min-count.result c.args.calls.now (omega arith) in
    let at = c.call-item.is ∙ get_or-take c.min-count.result c.args.calls.now c.loop-i.i c.call-item.result (omega arith) in
    one_more g.K.SharingKey.weight g.R.Rounding.meaning _ _ _ g.K.SharingKey.light g.met.R.Rounding.laws _ _ _ _ _ _ (omega arith) c.loop-i.desk.book.sound c.loop-i.invariant c.make.ensures at

pub returns : goal.returns
returns g c =
    all_made g.K.SharingKey.weight g.R.Rounding.meaning (state c.args.desk) c.args.calls.now c.args.answers.now c.loop-i.i c.loop-i.answers (state c.loop-i.desk) (omega (arith, length-take-le c.min-count.result c.args.calls.now (omega arith))) c.loop-i.desk.book.sound c.loop-i.invariant
