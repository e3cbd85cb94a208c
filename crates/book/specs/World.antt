-- What the tables hold, as lists.
pub use Rattle.book.specs.declared.tables.InUse.{InUse}
pub use Rattle.book.specs.declared.tables.Places.{Places}
pub use Rattle.book.specs.declared.tables.Tables.{Tables}
use Rattle.std.specs.Prelude.{min, ℤ, pos, vec_items, vec_capacity, Bool, List, [], ℕ, leb, length, get_or}
use Rattle.tariff.specs.declared.row.Row.{Row}
use Rattle.book.specs.Limits.{most_rows, most_recipients, most_nodes, most_objects_in_all, most_lines}
use Rattle.book.specs.Records.{Line, Node, Object, Recipient, Working}

-- the items of a book's tables, and the places that their owner grants; the memory they take is no part of it
pub record World : Type 0 where
  pub rows : List Row
  pub recipients : List Recipient
  pub nodes : List Node
  pub objects : List Object
  pub lines : List Line
  pub places : Places

-- what the tables hold
abbrev pub world : Tables → World
world t = record {
  rows = vec_items t.rows;
  recipients = vec_items t.recipients;
  nodes = vec_items t.nodes;
  objects = vec_items t.objects;
  lines = vec_items t.lines;
  places = t.places;
}

-- a new book: nothing is in use
abbrev pub empty : Places → World
empty p = record { rows = []; recipients = []; nodes = []; objects = []; lines = []; places = p }

-- how many items that others may name are in use
abbrev pub in_use : World → InUse
in_use w = record { rows = length w.rows; recipients = length w.recipients; nodes = length w.nodes; objects = length w.objects }

-- the places that may be filled: those granted, and no more than a table may have
abbrev pub allowed : Places → Places
allowed p = record {
  rows = min p.rows most_rows;
  recipients = min p.recipients most_recipients;
  nodes = min p.nodes most_nodes;
  objects = min p.objects most_objects_in_all;
  lines = min p.lines most_lines;
}

-- the tables' items, and how many of each they have memory for
pub record Store : Type 0 where
  pub world : World
  pub room : Places

-- what the tables hold and have memory for
abbrev pub store : Tables → Store
store t = record {
  world = world t;
  room = record {
    rows = vec_capacity t.rows;
    recipients = vec_capacity t.recipients;
    nodes = vec_capacity t.nodes;
    objects = vec_capacity t.objects;
    lines = vec_capacity t.lines;
  };
}

-- a table has no place left
abbrev pub full : {A : Type 0} → ℕ → List A → Bool
full places xs = leb places (length xs)

-- the item with this number is not in use
abbrev pub unused : {A : Type 0} → ℕ → List A → Bool
unused i xs = leb (length xs) i

-- a new recipient owes nothing; also what is read past the last
abbrev pub new_recipient : Recipient
new_recipient = record { balance = pos 0 }

-- a new node's meter works, and nothing is carried
abbrev pub new_node : ℕ → ℕ → Node
new_node month register = record { month = month; register = register; carried = 0; events = 0; meter = Working }

-- what is read past the last object
abbrev pub no_object : Object
no_object = record { node = 0; recipient = 0; row = 0; power = 0; area = 0 }

-- the node with this number
abbrev pub node_at : ℕ → World → Node
node_at n w = get_or w.nodes n (new_node 0 0)

-- the object with this number
abbrev pub object_at : ℕ → World → Object
object_at o w = get_or w.objects o no_object

-- the balance of the recipient with this number
abbrev pub balance_of : ℕ → World → ℤ
balance_of q w = (get_or w.recipients q new_recipient).balance

-- the world with other rows
abbrev pub with_rows : World → List Row → World
with_rows w xs = record w { rows = xs }

-- with other recipients
abbrev pub with_recipients : World → List Recipient → World
with_recipients w xs = record w { recipients = xs }

-- with other nodes
abbrev pub with_nodes : World → List Node → World
with_nodes w xs = record w { nodes = xs }

-- with other objects
abbrev pub with_objects : World → List Object → World
with_objects w xs = record w { objects = xs }
