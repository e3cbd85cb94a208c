use Rattle.std.proofs.Common.{rules}
use Rattle.book.specs.Office.{recipient_entry}
use Rattle.book.specs.World.{store}
use Rattle.book.proofs.Keeping.{keeps_recipient}
use Rattle.book.proofs.Soundness.{outcome_sound}
use Rattle.book.proofs.book.Book.enter_recipient.Goals as goal

pub invariant_of-self-2 : goal.invariant_of-self-2
invariant_of-self-2 c =
    let t = c.args.self.now in
    let after = record t.tables { recipients = c.add.new.table } in
    record { sound = outcome_sound recipient_entry (store t.tables) (store after) c.add.result (search rules) t.sound (keeps_recipient _) }
