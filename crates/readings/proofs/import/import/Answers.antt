use Rattle.std.proofs.Common.{◌+◌, length, sym, ap, subst, arith}
use Rattle.book.specs.World.{store}
use Rattle.readings.specs.Faults.{stopped}
use Rattle.readings.specs.Imports.{Taken}
use Rattle.readings.specs.Formats.{reading_of}
use Rattle.readings.specs.Texts.{text}
use Rattle.readings.proofs.Imported.{taken_few, takes-err, takes-ok}
use Rattle.readings.proofs.import.import.Goals as goal

pub overflow_add-taken : goal.overflow_add-taken
overflow_add-taken c =
    let few = taken_few c.args.file.now _ _ (text c.in-Some.line) _ c.in-Some.ensures.steps c.loop-line.invariant.few in
    omega arith

pub overflow_add-taken-in-Err-take : goal.overflow_add-taken-in-Err-take
overflow_add-taken-in-Err-take c =
    let few = taken_few c.args.file.now _ _ (text c.in-Some.line) _ c.in-Some.ensures.steps c.loop-line.invariant.few in
    omega arith

pub loop-line-preserved : goal.loop-line-preserved
loop-line-preserved c =
    let columns = c.in-Ok.begun.0 in
    let line = text c.in-Some.line in
    let s = store c.loop-line.book.tables in
    let next = store c.take.new.book.tables in
    let read = c.in-Some.ensures.steps in
    record {
      can = tt;
      finite = tt;
      ends = λ a s' rest.
          c.loop-line.invariant.ends a s'
          (subst (λ ls. Taken columns c.loop-line.taken ls s a s') (sym read)
          (takes-ok c.loop-line.taken line _ s next a s' (reading_of columns line) c.in-Ok-take.ensures rest));
      few = omega (arith, ap length read, c.loop-line.invariant.few);
    }

pub returns-in-Err-take : goal.returns-in-Err-take
returns-in-Err-take c =
    let columns = c.in-Ok.begun.0 in
    let line = text c.in-Some.line in
    let s = store c.loop-line.book.tables in
    let next = store c.take.new.book.tables in
    let a = stopped c.loop-line.taken (c.loop-line.taken + 2) c.in-Err-take.fault in
    rw c.stop-in-Err-take.ensures
    (c.loop-line.invariant.ends a next
    (subst (λ ls. Taken columns c.loop-line.taken ls s a next) (sym c.in-Some.ensures.steps)
    (takes-err c.loop-line.taken line _ s next c.in-Err-take.fault (reading_of columns line) c.in-Err-take.ensures)))
