use Rattle.std.proofs.Common.{rules}
use Rattle.book.specs.Office.{object_entry, object_on}
use Rattle.book.specs.World.{store}
use Rattle.book.proofs.Keeping.{keeps_object}
use Rattle.book.proofs.Soundness.{outcome_sound}
use Rattle.book.proofs.book.Book.enter_object.Goals as goal

pub invariant_of-self : goal.invariant_of-self
invariant_of-self c =
    let t = c.args.self.now in
    let after = record t.tables { objects = c.add.new.table } in
    let object = object_on c.args.node c.args.recipient c.args.terms in
    record { sound = outcome_sound (object_entry object) (store t.tables) (store after) c.add.result (search rules) t.sound (keeps_object _ object) }
