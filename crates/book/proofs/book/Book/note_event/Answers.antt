use Rattle.std.proofs.Common.{◌∷◌, ltb, arith}
use Rattle.std.proofs.lemmas.Grind.{common_steps}
use Rattle.std.specs.Vec.{with_item}
use Rattle.sharing.specs.declared.refusal.Refusal.TheVariants.{OutOfRange}
use Rattle.sharing.proofs.Picked.{refusal_is}
use Rattle.book.specs.Limits.{most_register}
use Rattle.book.specs.Meters.{event_why, meter_entry}
use Rattle.book.specs.World.{store}
use Rattle.book.proofs.Keeping.{keeps_event}
use Rattle.book.proofs.Soundness.{accepted_sound}
use Rattle.book.proofs.book.Book.note_event.Goals as goal

pub invariant_of-self-2 : goal.invariant_of-self-2
invariant_of-self-2 c =
    let t = c.args.self.now in
    let entry = meter_entry c.args.event c.args.node c.args.register in
    let after = record t.tables { nodes = with_item t.tables.nodes c.args.node c.in_ok-self.field-0 } in
    record { sound = accepted_sound entry (store t.tables) (store after) tt (grind (arith, common_steps)) t.sound (keeps_event _ c.args.event c.args.node c.args.register) }

pub returns-in_err-self : goal.returns-in_err-self
returns-in_err-self c =
    let why = (ltb most_register c.args.register, OutOfRange) ∷ event_why c.args.event c.index.result.now c.args.register in
    let told = refusal_is why _ _ c.in_err-self.ensures in
    grind (arith, common_steps)
