use Rattle.std.proofs.Common.{sym, ap, ◌∙◌, arith}
use Rattle.tariff.specs.Rows.{price, price_over}
use Rattle.tariff.proofs.Prices.{price-is, mixed_at, number_low}
use Rattle.tariff.proofs.+price.Goals as goal

pub mixing::Mixing::price-overflow_mul-number : goal.mixing::Mixing::price-overflow_mul-number
mixing::Mixing::price-overflow_mul-number t c = omega (arith, number_low c.args.self.now c.args.charge _ _ c.price_of-price_a.ensures c.price_of-price_b.ensures)

pub mixing::Mixing::price-overflow_mul-number-2 : goal.mixing::Mixing::price-overflow_mul-number-2
mixing::Mixing::price-overflow_mul-number-2 t c = omega (arith, number_low c.args.self.now c.args.charge _ _ c.price_of-price_a.ensures c.price_of-price_b.ensures)

pub mixing::Mixing::price-overflow_add-number : goal.mixing::Mixing::price-overflow_add-number
mixing::Mixing::price-overflow_add-number t c = omega (arith, number_low c.args.self.now c.args.charge _ _ c.price_of-price_a.ensures c.price_of-price_b.ensures)

pub mixing::Mixing::price-invariant_of-round : goal.mixing::Mixing::price-invariant_of-round
mixing::Mixing::price-invariant_of-round t c =
    let low = number_low c.args.self.now c.args.charge _ _ c.price_of-price_a.ensures c.price_of-price_b.ensures in
    record { within = (omega arith, omega arith, omega arith) }

pub rows::Rows::price_of-invariant_of-price : goal.rows::Rows::price_of-invariant_of-price
rows::Rows::price_of-invariant_of-price t c =
    let at = mixed_at c.args.self.now.rows.now c.args.self.now.good c.args.row c.requires c.in-Mixed.mix _ c.in-Mixed.is in
    record { known = at.known; addend = at.addend; thousand = at.thousand }

pub rows::Rows::price_of-price-requires : goal.rows::Rows::price_of-price-requires
rows::Rows::price_of-price-requires t c =
    let at = mixed_at c.args.self.now.rows.now c.args.self.now.good c.args.row c.requires c.in-Mixed.mix _ c.in-Mixed.is in
    omega (arith, at.lower.0, at.lower.1)

pub rows::Rows::price_of-returns-in-Plain : goal.rows::Rows::price_of-returns-in-Plain
rows::Rows::price_of-returns-in-Plain t c =
    let rows = c.args.self.now in
    let charge = c.args.charge in
    c.of.ensures ∙ sym (price-is rows.rows.now rows.good c.args.row c.requires charge _ ∙ ap (price_over charge (price charge rows.rows.now)) c.in-Plain.is)

pub rows::Rows::price_of-returns-in-Mixed : goal.rows::Rows::price_of-returns-in-Mixed
rows::Rows::price_of-returns-in-Mixed t c =
    let rows = c.args.self.now in
    let charge = c.args.charge in
    c.price.ensures ∙ sym (price-is rows.rows.now rows.good c.args.row c.requires charge _ ∙ ap (price_over charge (price charge rows.rows.now)) c.in-Mixed.is)
