use Rattle.std.proofs.Common.{rules}
use Rattle.book.specs.Office.{row_entry}
use Rattle.book.specs.World.{store}
use Rattle.book.proofs.Keeping.{keeps_row}
use Rattle.book.proofs.Soundness.{outcome_sound}
use Rattle.book.proofs.book.Book.enter_row.Goals as goal

pub invariant_of-self : goal.invariant_of-self
invariant_of-self c =
    let t = c.args.self.now in
    let after = record t.tables { rows = c.add.new.table } in
    record { sound = outcome_sound (row_entry c.args.row) (store t.tables) (store after) c.add.result (search rules) t.sound (keeps_row _ c.args.row) }
