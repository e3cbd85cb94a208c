use Rattle.std.proofs.Common.{Ok, Err, vec_items, ap, ◌∙◌, sym}
use Rattle.std.proofs.lemmas.List.{map-set}
use Rattle.sharing.specs.Refusals.{unless_refused}
use Rattle.sharing.proofs.Picked.{refused}
use Rattle.clerk.specs.Fixings.{fix_why, fixing_of}
use Rattle.agreement.specs.Desks.{seen, state}
use Rattle.agreement.specs.declared.call.Answer.TheVariants.{Fixed}
use Rattle.agreement.specs.declared.desk.Slot.TheVariants as slot
use Rattle.agreement.proofs.Slots.{held}
use Rattle.agreement.proofs.desk.Desk.fix.Goals as goal

pub returns-in-Ok : goal.returns-in-Ok
returns-in-Ok c =
    let s = state c.args.self.now in
    let xs = vec_items c.args.self.now.papers in
    let slot_is = held xs (λ p. p.now) c.get_mut.ensures.item.0 c.get_mut.ensures.value c.in_ok-slot.ensures.ok_part c.in-Opened.ensures.value in
    let granted = ap (λ o. unless_refused o (fixing_of c.in-Opened.paper c.args.readout.water c.args.readout.closing c.args.readout.estimate s.store.world)) (sym c.in-Ok.ensures.0) in
    rw slot_is.there (Ok c.in-Ok.fixed.fixing, ap Ok c.in-Ok.ensures.1 ∙ granted, ap (λ f. Ok (Fixed f.heat)) c.fixing-heat.ensures, ap (λ ps. record s { papers = ps }) (map-set seen xs c.args.number (slot.Fixed c.in-Ok.fixed)))

pub returns-in-Err : goal.returns-in-Err
returns-in-Err c =
    let s = state c.args.self.now in
    let why = fix_why c.in-Opened.paper c.args.readout.water c.args.readout.closing c.args.readout.estimate s.store.world in
    let slot_is = held (vec_items c.args.self.now.papers) (λ p. p.now) c.get_mut.ensures.item.0 c.get_mut.ensures.value c.in_ok-slot.ensures.ok_part c.in-Opened.ensures.value in
    rw (slot_is.there, c.in-Err.ensures.0) (Err c.in-Err.refused.refusal, refused why c.in-Err.refused.refusal _ c.in-Err.ensures.1, ap Err c.into.ensures, ap (λ ps. record s { papers = ps }) slot_is.back)
