use Rattle.std.proofs.Common.{◌≡◌, Ok, Err, ◌∷◌, [], ◌++◌, vec_items, vec_capacity, map, length, ◌≤◌, refl, ap, ◌∙◌, inl, inr, arith}
use Rattle.std.proofs.lemmas.List.{length-map, map_push}
use Rattle.std.proofs.lemmas.Result.{err_from_is_err_and}
use Rattle.std.proofs.lemmas.Grind.{common_steps}
use Rattle.sharing.proofs.Picked.{refusal_is}
use Rattle.sharing.specs.declared.refusal.Refusal.TheVariants.{Memory}
use Rattle.book.specs.World.{world}
use Rattle.clerk.specs.Fixings.{open_why, opened}
use Rattle.clerk.proofs.Heats.{granted}
use Rattle.agreement.specs.Desks.{seen}
use Rattle.agreement.specs.Runs.{blank_paper}
use Rattle.agreement.specs.declared.call.Failure.TheVariants.{Refused}
use Rattle.agreement.specs.declared.desk.Slot.TheVariants as slot
use Rattle.agreement.proofs.desk.Desk.open.Goals as goal

pub returns-in_err-paper : goal.returns-in_err-paper
returns-in_err-paper c =
    let w = world c.args.self.now.book.tables in
    let n = c.args.node in
    let told = err_from_is_err_and c.from_residual.result c.from_residual.ensures.1 in
    (Err c.in_err-paper.field-0.0, (inl (refusal_is (open_why n w) c.in_err-paper.field-0.0 (opened n w) c.in_err-paper.ensures), refl), told.1 ∙ ap Err told.2, refl, omega arith)

pub returns-in_err-map_err : goal.returns-in_err-map_err
returns-in_err-map_err c =
    let w = world c.args.self.now.book.tables in
    let n = c.args.node in
    let xs = vec_items c.args.self.now.papers in
    let mine = granted (open_why n w) c.in_ok-paper.paper (opened n w) c.in_ok-paper.ensures in
    let told = err_from_is_err_and c.from_residual-in_err-map_err.result c.from_residual-in_err-map_err.ensures.1 in
    let full : vec_capacity c.args.self.now.papers ≤ length xs = grind (arith, common_steps, c.push.ensures.full, c.in_err-map_err.ensures.variant, c.in_err-map_err.was) in
    let items : vec_items c.push.new.self ≡ xs = grind (arith, common_steps, c.push.ensures.items, c.in_err-map_err.ensures.variant, c.in_err-map_err.was) in
    let memory : c.in_err-map_err.field-0.0 ≡ Memory = grind (arith, common_steps, c.in_err-map_err.ensures.cases, c.in_err-map_err.ensures.variant, c.in_err-map_err.was) in
    (Err Memory, (inr (mine.0, refl, omega (arith, full, length-map xs seen)), ap (map seen) items), told.1 ∙ ap Err (told.2 ∙ ap Refused memory), refl, c.push.ensures.capacity)

pub returns : goal.returns
returns c =
    let w = world c.args.self.now.book.tables in
    let n = c.args.node in
    let xs = vec_items c.args.self.now.papers in
    let told = granted (open_why n w) c.in_ok-paper.paper (opened n w) c.in_ok-paper.ensures in
    let items : vec_items c.push.new.self ≡ xs ++ slot.Opened c.in_ok-paper.paper ∷ [] = rw (← c.in_ok-map_err.ensures.variant) at c.push.ensures.items in
    (Ok c.len-number.result, (told.0, omega (arith, c.len-number.ensures, length-map xs seen), ap (map seen) items ∙ map_push seen xs (slot.Opened c.in_ok-paper.paper) ∙ ap (λ p. map seen xs ++ blank_paper p ∷ []) told.1), refl, refl, c.push.ensures.capacity)
