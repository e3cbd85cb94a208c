-- The records of the tables, and the numbers of the kinds of lines.
pub use Rattle.book.specs.declared.records.Amounts.{Amounts}
pub use Rattle.book.specs.declared.records.Kind.{Kind}
pub use Rattle.book.specs.declared.records.Kind.TheVariants.{Month, Correction, Discount, Extra, Payment}
pub use Rattle.book.specs.declared.records.Line.{Line}
pub use Rattle.book.specs.declared.records.Meter.{Meter}
pub use Rattle.book.specs.declared.records.Meter.TheVariants.{Working, Faulted}
pub use Rattle.book.specs.declared.records.MeterEvent.{MeterEvent}
pub use Rattle.book.specs.declared.records.MeterEvent.TheVariants.{Fault, Repair}
pub use Rattle.book.specs.declared.records.Node.{Node}
pub use Rattle.book.specs.declared.records.Object.{Object}
pub use Rattle.book.specs.declared.records.Recipient.{Recipient}
pub use Rattle.book.specs.declared.records.Terms.{Terms}
use Rattle.std.specs.Prelude.{codes, ℤ, List, [], ◌∷◌, ℕ}

-- the word for a meter's state
abbrev pub meter_word : Meter → List ℕ
meter_word Working = codes "working"
meter_word Faulted = codes "faulted"

-- the number of a kind of line
abbrev pub kind_number : Kind → ℕ
kind_number Month = 1
kind_number Correction = 2
kind_number Discount = 3
kind_number Extra = 4
kind_number Payment = 5

-- the six amounts of a line
abbrev pub amounts_in : Amounts → List ℤ
amounts_in a = a.power ∷ a.fixed ∷ a.energy ∷ a.variable ∷ a.carrier ∷ a.other ∷ []
