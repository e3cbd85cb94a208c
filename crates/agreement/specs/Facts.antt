-- What happened to a book, newest first, and the facts that this tells. Nothing here is read off a book.
pub use Rattle.book.specs.declared.records.MeterEvent.{MeterEvent}
pub use Rattle.book.specs.declared.records.MeterEvent.TheVariants.{Fault, Repair}
use Rattle.std.specs.Prelude.{sum_by, slice_set, cond, List, [], ◌∷◌, ◌++◌, map, ℕ, ◌+◌, ◌-◌, eqb, get_or, Option, None, unwrap_or}
use Rattle.std.specs.Option.{option_map}
use Rattle.sharing.specs.Keys.{Key, asked}
use Rattle.sharing.specs.Rounds.{Rule}
use Rattle.tariff.specs.declared.row.Row.{Row}
use Rattle.book.specs.Office.{changed}
use Rattle.book.specs.World.{no_object}
use Rattle.book.specs.declared.records.Object.{Object}
use Rattle.clerk.specs.Postings.{basis, behind}

-- an accepted call of the office
pub data OfficeEvent : Type 0 where
  row_entered : Row → OfficeEvent
  recipient_entered : OfficeEvent
  -- its next month and register
  node_entered : ℕ → ℕ → OfficeEvent
  object_entered : Object → OfficeEvent
  -- object, row, power and area
  object_changed : ℕ → ℕ → ℕ → ℕ → OfficeEvent

-- what stands on a paper: its node, and what a fixing took and put on it
pub record Slip : Type 0 where
  pub node : ℕ
  pub heat : ℕ
  pub water : ℕ
  pub estimate : ℕ
  pub closing : Option ℕ

-- a paper on which nothing is fixed
abbrev pub blank : ℕ → Slip
blank n = record { node = n; heat = 0; water = 0; estimate = 0; closing = None }

-- an accepted call of the clerk; an import is the postings of the lines that it took
pub data ClerkEvent : Type 0 where
  -- a paper for a node
  paper_opened : ℕ → ClerkEvent
  -- the paper's number
  paper_fixed : ℕ → Slip → ClerkEvent
  -- by a key and a rounding rule, each by its meaning
  month_posted : Slip → Key → Rule → ClerkEvent

-- an accepted call, by who made it
pub data Event : Type 0 where
  office : OfficeEvent → Event
  -- a fault or a repair of a node's meter, and the register that it names
  meter : MeterEvent → ℕ → ℕ → Event
  clerk : ClerkEvent → Event

-- the rows after a call of the office
abbrev pub rows_with : OfficeEvent → List Row → List Row
rows_with (row_entered r) before = before ++ r ∷ []
rows_with recipient_entered before = before
rows_with (node_entered month register) before = before
rows_with (object_entered o) before = before
rows_with (object_changed object row power area) before = before

-- the rows, as entered
abbrev pub rows : List Event → List Row
rows [] = []
rows (office e ∷ h) = rows_with e (rows h)
rows (meter e n r ∷ h) = rows h
rows (clerk e ∷ h) = rows h

-- the objects after a call of the office
abbrev pub objects_with : OfficeEvent → List Object → List Object
objects_with (row_entered r) before = before
objects_with recipient_entered before = before
objects_with (node_entered month register) before = before
objects_with (object_entered o) before = before ++ o ∷ []
objects_with (object_changed object row power area) before = slice_set before object (changed (get_or before object no_object) row power area)

-- the objects, as entered and changed
abbrev pub objects : List Event → List Object
objects [] = []
objects (office e ∷ h) = objects_with e (objects h)
objects (meter e n r ∷ h) = objects h
objects (clerk e ∷ h) = objects h

-- a node by its next month and the register from which its next rise counts
pub record Named : Type 0 where
  pub month : ℕ
  pub register : ℕ

-- stands for a node that was not entered
abbrev pub nowhere : Named
nowhere = record { month = 0; register = 0 }

-- the nodes after a call of the office
abbrev pub nodes_with : OfficeEvent → List Named → List Named
nodes_with (row_entered r) before = before
nodes_with recipient_entered before = before
nodes_with (node_entered month register) before = before ++ record { month = month; register = register } ∷ []
nodes_with (object_entered o) before = before
nodes_with (object_changed object row power area) before = before

-- after a repair, which names a register; a fault report counts a rise and names none
abbrev pub nodes_metered : MeterEvent → ℕ → ℕ → List Named → List Named
nodes_metered Fault n r before = before
nodes_metered Repair n r before = slice_set before n (record { month = (get_or before n nowhere).month; register = r })

-- after a posting: the month advances, and a closing register is named
abbrev pub advanced : Slip → Named → Named
advanced s n = record { month = n.month + 1; register = unwrap_or s.closing n.register }

-- after a call of the clerk
abbrev pub nodes_clerked : ClerkEvent → List Named → List Named
nodes_clerked (paper_opened n) before = before
nodes_clerked (paper_fixed p s) before = before
nodes_clerked (month_posted s key rule) before = slice_set before s.node (advanced s (get_or before s.node nowhere))

-- each node's next month, and the register last named by its entering, a repair or a posting
abbrev pub nodes : List Event → List Named
nodes [] = []
nodes (office e ∷ h) = nodes_with e (nodes h)
nodes (meter e n r ∷ h) = nodes_metered e n r (nodes h)
nodes (clerk e ∷ h) = nodes_clerked e (nodes h)

-- the next month of a node, and the register last named to it
abbrev pub named : ℕ → List Event → Named
named n h = get_or (nodes h) n nowhere

-- the papers after a call of the clerk
abbrev pub papers_with : ClerkEvent → List Slip → List Slip
papers_with (paper_opened n) before = before ++ blank n ∷ []
papers_with (paper_fixed p s) before = slice_set before p s
papers_with (month_posted s key rule) before = before

-- the papers, as opened, each with what was last fixed on it
abbrev pub papers : List Event → List Slip
papers [] = []
papers (office e ∷ h) = papers h
papers (meter e n r ∷ h) = papers h
papers (clerk e ∷ h) = papers_with e (papers h)

-- an object of a month as it was at the posting, with the weight that the key has for it
pub record Share : Type 0 where
  pub object : ℕ
  pub recipient : ℕ
  pub row : ℕ
  pub kw : ℕ
  pub weight : ℕ

-- the share of the object with a number
abbrev pub share : Key → List Object → ℕ → Share
share key os i = record {
  object = i;
  recipient = (get_or os i no_object).recipient;
  row = (get_or os i no_object).row;
  kw = (get_or os i no_object).power;
  weight = unwrap_or (asked key (basis os i)) 0;
}

-- a posted month
pub record Month : Type 0 where
  pub node : ℕ
  pub month : ℕ
  -- what stood on the paper
  pub slip : Slip
  -- what its closing register rose by over the register last named
  pub rise : ℕ
  pub rule : Rule
  -- the node's objects, in the order of number
  pub shares : List Share

-- a month as it is posted after the history h
abbrev pub posting : Slip → Key → Rule → List Event → Month
posting s key rule h = record {
  node = s.node;
  month = (named s.node h).month;
  slip = s;
  rise = unwrap_or (option_map (λ c. c - (named s.node h).register) s.closing) 0;
  rule = rule;
  shares = map (share key (objects h)) (behind s.node (objects h));
}

-- the months after a call of the clerk that follows the history h
abbrev pub months_with : ClerkEvent → List Event → List Month → List Month
months_with (paper_opened n) h before = before
months_with (paper_fixed p s) h before = before
months_with (month_posted s key rule) h before = before ++ posting s key rule h ∷ []

-- the posted months, in the order of their posting
abbrev pub months : List Event → List Month
months [] = []
months (office e ∷ h) = months h
months (meter e n r ∷ h) = months h
months (clerk e ∷ h) = months_with e h (months h)

-- the rise that a fault report counts, over the register last named
abbrev pub fault_rise : MeterEvent → ℕ → ℕ → ℕ
fault_rise Fault r last = r - last
fault_rise Repair r last = 0

-- the rises that a node's fault reports count
abbrev pub fault_rises : ℕ → List Event → ℕ
fault_rises node [] = 0
fault_rises node (office e ∷ h) = fault_rises node h
fault_rises node (meter e n r ∷ h) = cond (eqb n node) (fault_rise e r (named n h).register) 0 + fault_rises node h
fault_rises node (clerk e ∷ h) = fault_rises node h

-- what a node's posted months come to
abbrev pub over_months : (Month → ℕ) → ℕ → List Event → ℕ
over_months f node h = sum_by (λ x. cond (eqb x.node node) (f x) 0) (months h)

-- the rises that count for a node: those of fault reports and of posted closing registers
abbrev pub rises : ℕ → List Event → ℕ
rises node h = fault_rises node h + over_months (λ x. x.rise) node h
