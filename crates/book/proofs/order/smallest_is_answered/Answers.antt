use Rattle.std.proofs.Common.{ℕ, rules}
use Rattle.sharing.specs.Refusals.{Ascending}
use Rattle.tariff.specs.declared.row.Row.{Row}
use Rattle.tariff.specs.declared.row.Row.TheVariants.{Plain, Mixed}
use Rattle.tariff.proofs.Ordered.{row-ascends}
use Rattle.book.specs.Meters.{meter_entry}
use Rattle.book.specs.Office.{row_entry}
use Rattle.book.specs.Records.{MeterEvent, Fault, Repair}
use Rattle.book.specs.World.{World}
use Rattle.book.proofs.order.smallest_is_answered.Goals as goal

row : (r : Row) (w : World) → Ascending (row_entry r w).why
row (Plain p) w = let rest = row-ascends w.rows (Plain p) in search rules
row (Mixed m) w = let rest = row-ascends w.rows (Mixed m) in search rules

meter : (event : MeterEvent) (node register : ℕ) (w : World) → Ascending (meter_entry event node register w).why
meter Fault node register w = search rules
meter Repair node register w = search rules

pub returns : goal.returns
returns c = search (rules, row, meter)
