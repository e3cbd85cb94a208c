use Rattle.std.proofs.Common.{sym, ap, ◌∙◌, arith}
use Rattle.tariff.specs.Rows.{depth, depth_over}
use Rattle.tariff.proofs.Prices.{depth_is, depth-within, mixed_at}
use Rattle.tariff.proofs.+depth.Goals as goal

pub mixing::Mixing::depth-overflow_add-result : goal.mixing::Mixing::depth-overflow_add-result
mixing::Mixing::depth-overflow_add-result t c =
    let mixing = c.args.self.now in
    let a = depth-within mixing.rows.rows.now mixing.rows.good _ mixing.known.0 in
    let b = depth-within mixing.rows.rows.now mixing.rows.good _ mixing.known.1 in
    omega (arith, a, b, c.max.ensures, c.depth_of.ensures, c.depth_of-2.ensures)

pub rows::Rows::depth_of-invariant_of-depth : goal.rows::Rows::depth_of-invariant_of-depth
rows::Rows::depth_of-invariant_of-depth t c =
    let at = mixed_at c.args.self.now.rows.now c.args.self.now.good c.args.row c.requires c.in-Mixed.mix _ c.in-Mixed.is in
    record { known = at.known; addend = at.addend; thousand = at.thousand }

pub rows::Rows::depth_of-depth-requires : goal.rows::Rows::depth_of-depth-requires
rows::Rows::depth_of-depth-requires t c =
    let at = mixed_at c.args.self.now.rows.now c.args.self.now.good c.args.row c.requires c.in-Mixed.mix _ c.in-Mixed.is in
    omega (arith, at.lower.0, at.lower.1)

pub rows::Rows::depth_of-returns-in-Plain : goal.rows::Rows::depth_of-returns-in-Plain
rows::Rows::depth_of-returns-in-Plain t c =
    let rows = c.args.self.now in
    sym (depth_is rows.rows.now rows.good c.args.row c.requires _ ∙ ap (depth_over (depth rows.rows.now)) c.in-Plain.is)

pub rows::Rows::depth_of-returns-in-Mixed : goal.rows::Rows::depth_of-returns-in-Mixed
rows::Rows::depth_of-returns-in-Mixed t c =
    let rows = c.args.self.now in
    c.depth.ensures ∙ sym (depth_is rows.rows.now rows.good c.args.row c.requires _ ∙ ap (depth_over (depth rows.rows.now)) c.in-Mixed.is)
