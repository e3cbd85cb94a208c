use Rattle.std.proofs.Common.{◌≤◌, eqb, length, take, arith, rules}
use Rattle.std.proofs.lemmas.List.{take_all, length-take-le}
use Rattle.std.proofs.lemmas.List.Sums.{count_by-le-length, count_by_more_yes, count_by_more_no}
use Rattle.std.proofs.lemmas.Bool.{eq-eqb, ne_eqb}
use Rattle.book.specs.Records.{Object}
use Rattle.book.specs.Sound.{crowd}
use Rattle.book.specs.World.{no_object}
use Rattle.book.proofs.office.crowd_of.Goals as goal
use Rattle.book.proofs.office.crowd_of.Goals.{then-object-node, else-object-node}

pub overflow_add-count : goal.overflow_add-count
overflow_add-count c =
    let few : crowd c.args.node (take c.loop-object.object-index c.args.objects.now) ≤ length (take c.loop-object.object-index c.args.objects.now) = count_by-le-length _ _ in
    search (rules, length-take-le)

pub loop-object-preserved : goal.loop-object-preserved
loop-object-preserved c =
    let behind = λ (o : Object). eqb o.node c.args.node in
    elim c.if-object-node.branch [
      | then-object-node w ↦
          let more = count_by_more_yes behind c.args.objects.now c.loop-object.object-index no_object c.loop-object-test.true (eq-eqb _ _ w.if-object-node.true) in
          omega (arith, w.count-is, more)
      | else-object-node w ↦
          let more = count_by_more_no behind c.args.objects.now c.loop-object.object-index no_object c.loop-object-test.true (ne_eqb _ _ w.if-object-node.false) in
          omega (arith, w.count-is, more)
    ]

pub returns : goal.returns
returns c = search (rules, take_all)
