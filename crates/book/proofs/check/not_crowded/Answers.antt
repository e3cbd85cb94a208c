use Rattle.std.proofs.Common.{ℕ, sym}
use Rattle.std.proofs.lemmas.List.{length-replicate}
use Rattle.book.specs.Limits.{most_nodes}
use Rattle.book.proofs.Crowds.{counted_none, counted_more, crowded, not_crowded}
use Rattle.book.proofs.check.not_crowded.Goals as goal

pub loop-object-init : goal.loop-object-init
loop-object-init c = (length-replicate {A = ℕ} most_nodes 0, counted_none)

pub returns-then-count-ge-MOST_OBJECTS : goal.returns-then-count-ge-MOST_OBJECTS
returns-then-count-ge-MOST_OBJECTS c =
    let l = c.loop-object in
    sym (crowded l.counts c.args.objects.now l.object-index c.requires l.invariant c.loop-object-test.true c.if-count-ge-MOST_OBJECTS.true)

pub loop-object-preserved : goal.loop-object-preserved
loop-object-preserved c =
    let l = c.loop-object in
    counted_more l.counts c.args.objects.now l.object-index c.requires l.invariant c.loop-object-test.true c.if-count-ge-MOST_OBJECTS.false

pub returns : goal.returns
returns c = let l = c.loop-object in sym (not_crowded l.counts c.args.objects.now l.object-index c.requires l.invariant c.loop-object-test.false)
