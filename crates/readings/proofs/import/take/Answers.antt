use Rattle.std.proofs.Common.{subst, rules}
use Rattle.book.specs.World.{store}
use Rattle.readings.specs.Imports.{TakenLine}
use Rattle.readings.specs.Texts.{text}
use Rattle.readings.proofs.Imported.{booked}
use Rattle.readings.proofs.import.take.Goals as goal

pub returns : goal.returns
returns c =
    let line = text c.args.line in
    let s = store c.args.book.now.tables in
    let next = store c.settle.new.book.tables in
    subst (λ x. TakenLine line x s next c.map_err.result) c.in_ok-reading.ensures
    (booked line c.in_ok-reading.reading s next c.settle.result c.map_err.result _ (λ f g k. search rules) c.settle.ensures c.map_err.ensures.cases)
