use Rattle.std.proofs.Common.{◌≡◌, false, Err, sym, ap, ◌∙◌, arith, rules}
use Rattle.std.proofs.lemmas.Bool.{lt-leb, ltb-true}
use Rattle.std.proofs.lemmas.Result.{err_from_is_err_and}
use Rattle.sharing.proofs.Picked.{none_hold, refusal_is, refused}
use Rattle.book.specs.World.{node_at, unused, world}
use Rattle.clerk.specs.Fixings.{estimate_heat, fix_why, fixing_of, rise_to}
use Rattle.clerk.proofs.Heats.{fix_refused, granted, heat-low, heat_why, inside, rise-low, rise_why}
use Rattle.clerk.proofs.paper.Readout.fixing.Goals as goal

pub returns-in_err-estimated : goal.returns-in_err-estimated
returns-in_err-estimated c =
    let w = world c.args.book.now.tables in
    let paper = c.args.paper.now in
    let r = c.args.self.now in
    let n = c.in_ok-node.node.now in
    let f = c.in_err-estimated.field-0.0 in
    let why = fix_why paper r.water r.closing r.estimate w in
    let at : n ≡ node_at paper.node w = search rules in
    let used : unused paper.node w.nodes ≡ false = ap (unused paper.node) (sym c.deref.ensures.value) ∙ lt-leb _ _ (ltb-true _ _ (sym c.get.ensures.lookup.0 ∙ sym c.in_ok-node.ensures.variant)) in
    let up = (granted (rise_why n r.closing) c.in_ok-risen.risen (rise_to n r.closing) c.in_ok-risen.ensures).0 in
    let picked = refusal_is (heat_why r.estimate) f (estimate_heat r.estimate) c.in_err-estimated.ensures in
    let p = err_from_is_err_and c.from_residual-in_err-estimated.result c.from_residual-in_err-estimated.ensures.1 in
    p.1 ∙ ap Err p.2
    ∙ refused why f (fixing_of paper r.water r.closing r.estimate w)
    (fix_refused paper r.water r.closing r.estimate w n f at used (sym c.if-is_outside.ensures) (none_hold (rise_why n r.closing) up).0 (sym c.if-not-is_due.ensures) picked)

pub overflow_add-heat-2 : goal.overflow_add-heat-2
overflow_add-heat-2 c =
    let r = c.args.self.now in
    let little = heat-low r.estimate c.in_ok-estimated.estimated c.in_ok-estimated.ensures in
    omega (arith, little, c.from.ensures, rise-low c.in_ok-node.node.now r.closing c.in_ok-risen.risen (inside r.water r.closing r.estimate (sym c.if-is_outside.ensures)).closing-low c.in_ok-risen.ensures)
