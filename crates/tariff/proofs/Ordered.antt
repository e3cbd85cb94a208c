-- The order of a row's conditions.
use Rattle.std.proofs.Common.{List, lit<}
use Rattle.sharing.specs.Refusals.{Ascending}
use Rattle.tariff.specs.Rows.{Row, Plain, Mixed, row_why}

pub row-ascends : (rows : List Row) (r : Row) → Ascending (row_why rows r)
row-ascends rows (Plain p) = (tt, tt)
row-ascends rows (Mixed m) = ((lit< tt, (lit< tt, (lit< tt, tt))), ((lit< tt, (lit< tt, tt)), ((lit< tt, tt), (tt, tt))))
