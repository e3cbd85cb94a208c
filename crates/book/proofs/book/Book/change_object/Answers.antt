use Rattle.std.proofs.Common.{arith}
use Rattle.std.proofs.lemmas.Grind.{common_steps}
use Rattle.std.specs.Vec.{with_item}
use Rattle.book.specs.Office.{change_entry}
use Rattle.book.specs.World.{store}
use Rattle.book.proofs.Keeping.{keeps_change}
use Rattle.book.proofs.Soundness.{accepted_sound}
use Rattle.book.proofs.book.Book.change_object.Goals as goal

pub invariant_of-self-2 : goal.invariant_of-self-2
invariant_of-self-2 c =
    let t = c.args.self.now in
    let terms = c.args.terms in
    let entry = change_entry c.args.object terms.row terms.power terms.area in
    let after = record t.tables { objects = with_item t.tables.objects c.args.object c.in_ok-tables.field-0 } in
    record { sound = accepted_sound entry (store t.tables) (store after) tt (grind (arith, common_steps)) t.sound (keeps_change _ c.args.object terms.row terms.power terms.area) }
