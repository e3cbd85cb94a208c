use Rattle.std.proofs.Common.{Ok, Err, vec_items, ap, refl}
use Rattle.std.proofs.lemmas.List.{map-set}
use Rattle.agreement.specs.Desks.{seen}
use Rattle.agreement.specs.declared.desk.Slot.TheVariants as slot
use Rattle.agreement.proofs.Slots.{held}
use Rattle.agreement.proofs.desk.Desk.post.Goals as goal

pub returns-in-Ok : goal.returns-in-Ok
returns-in-Ok g c =
    let xs = vec_items c.args.self.now.papers in
    let slot_is = held xs (λ p. p.now) c.get_mut.ensures.item.0 c.get_mut.ensures.value c.in_ok-slot.ensures.ok_part c.in-Fixed.ensures.value in
    rw slot_is.there (Ok tt, c.in-Ok.ensures.outcome, refl, rw c.replace.ensures.after (map-set seen xs c.args.number slot.Posted), refl)

pub returns-in-Err : goal.returns-in-Err
returns-in-Err g c =
    let slot_is = held (vec_items c.args.self.now.papers) (λ p. p.now) c.get_mut.ensures.item.0 c.get_mut.ensures.value c.in_ok-slot.ensures.ok_part c.in-Fixed.ensures.value in
    rw (slot_is.there, c.in-Err.ensures.back) (Err c.in-Err.refused.refusal, c.in-Err.ensures.outcome, ap Err c.into.ensures, slot_is.back, refl)
