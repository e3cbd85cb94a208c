-- The conditions of every call of this crate stand in the order of their numbers, so that the smallest is answered.
use Rattle.std.specs.Prelude.{ℕ}
use Rattle.sharing.specs.Refusals.{Ascending}
use Rattle.tariff.specs.declared.row.Row.{Row}
use Rattle.book.specs.Meters.{meter_entry}
use Rattle.book.specs.Office.{change_entry, node_entry, object_entry, recipient_entry, row_entry}
use Rattle.book.specs.Records.{MeterEvent, Object}
use Rattle.book.specs.World.{World}

-- each call's conditions ascend, whatever it is given and whatever the tables hold
pub record Ascend : Type 0 where
  -- those of entering a row
  pub row : (r : Row) (w : World) → Ascending (row_entry r w).why
  -- a recipient
  pub recipient : (w : World) → Ascending (recipient_entry w).why
  -- a node
  pub node : (month register : ℕ) (w : World) → Ascending (node_entry month register w).why
  -- an object
  pub object : (o : Object) (w : World) → Ascending (object_entry o w).why
  -- of changing an object
  pub change : (object row power area : ℕ) (w : World) → Ascending (change_entry object row power area w).why
  -- of a fault report or a repair
  pub meter : (event : MeterEvent) (node register : ℕ) (w : World) → Ascending (meter_entry event node register w).why
