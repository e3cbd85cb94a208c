-- The office's calls: entering rows, recipients, nodes and objects, and changing objects.
use Rattle.std.specs.Prelude.{slice_set, ◌||◌, [], ◌∷◌, ◌++◌, ℕ, leb, ltb, length}
use Rattle.sharing.specs.Limits.{most_power, most_area, most_objects}
use Rattle.sharing.specs.declared.refusal.Refusal.TheVariants.{Full, Unknown, OutOfRange, NodeFull}
use Rattle.tariff.specs.Rows.{row_why}
use Rattle.tariff.specs.declared.row.Row.{Row}
use Rattle.book.specs.Calls.{Call}
use Rattle.book.specs.Limits.{month_count, most_register}
use Rattle.book.specs.Records.{Object, Terms}
use Rattle.book.specs.Sound.{crowd}
use Rattle.book.specs.World.{World, allowed, full, new_node, new_recipient, object_at, unused, with_nodes, with_objects, with_recipients, with_rows}

-- a row, above the rows in use
abbrev pub row_entry : Row → World → Call ℕ
row_entry r w = record {
  why = (full (allowed w.places).rows w.rows, Full) ∷ row_why w.rows r;
  answer = length w.rows;
  after = with_rows w (w.rows ++ r ∷ []);
}

-- a recipient
abbrev pub recipient_entry : World → Call ℕ
recipient_entry w = record {
  why = (full (allowed w.places).recipients w.recipients, Full) ∷ [];
  answer = length w.recipients;
  after = with_recipients w (w.recipients ++ new_recipient ∷ []);
}

-- a node with its next month, which may be the one past the last, and its register
abbrev pub node_entry : ℕ → ℕ → World → Call ℕ
node_entry month register w = record {
  why = (full (allowed w.places).nodes w.nodes, Full) ∷ (ltb month_count month || ltb most_register register, OutOfRange) ∷ [];
  answer = length w.nodes;
  after = with_nodes w (w.nodes ++ new_node month register ∷ []);
}

-- an object of a node, a recipient and a row in use
abbrev pub object_entry : Object → World → Call ℕ
object_entry o w = record {
  why = (full (allowed w.places).objects w.objects, Full)
      ∷ (unused o.node w.nodes || (unused o.recipient w.recipients || unused o.row w.rows), Unknown)
      ∷ (ltb most_power o.power || ltb most_area o.area, OutOfRange)
      ∷ (leb most_objects (crowd o.node w.objects), NodeFull)
      ∷ [];
  answer = length w.objects;
  after = with_objects w (w.objects ++ o ∷ []);
}

-- an object of a node and a recipient on terms
abbrev pub object_on : ℕ → ℕ → Terms → Object
object_on node recipient t = record { node = node; recipient = recipient; row = t.row; power = t.power; area = t.area }

-- another row, power and area; node and recipient stay
abbrev pub changed : Object → ℕ → ℕ → ℕ → Object
changed o row power area = record o { row = row; power = power; area = area }

-- an object is changed for the months not yet posted
abbrev pub change_entry : ℕ → ℕ → ℕ → ℕ → World → Call (Unit {0})
change_entry object row power area w = record {
  why = (unused object w.objects || unused row w.rows, Unknown) ∷ (ltb most_power power || ltb most_area area, OutOfRange) ∷ [];
  answer = tt;
  after = with_objects w (slice_set w.objects object (changed (object_at object w) row power area));
}
