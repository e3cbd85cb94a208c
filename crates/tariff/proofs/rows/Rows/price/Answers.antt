use Rattle.tariff.proofs.Prices.{price-law}
use Rattle.tariff.proofs.rows.Rows.price.Goals as goal

pub returns-then-row-self-clause-law : goal.returns-then-row-self-clause-law
returns-then-row-self-clause-law c = price-law c.args.self.now.rows.now c.args.self.now.good

pub returns-clause-law : goal.returns-clause-law
returns-clause-law c = price-law c.args.self.now.rows.now c.args.self.now.good
