-- The faults of a readings file, and what an import answers.
pub use Rattle.readings.specs.declared.answer.ImportAnswer.{ImportAnswer}
pub use Rattle.readings.specs.declared.fault.FieldFault.{FieldFault}
pub use Rattle.readings.specs.declared.fault.ImportFault.{ImportFault}
pub use Rattle.readings.specs.declared.fault.ImportFault.TheVariants.{Line, Book}
pub use Rattle.readings.specs.declared.fault.Layer.{Layer}
pub use Rattle.readings.specs.declared.fault.LineFault.{LineFault}
pub use Rattle.readings.specs.declared.fault.LineFault.TheVariants.{Names, Fields, Field}
use Rattle.readings.specs.declared.fault.Layer.TheVariants as layer
use Rattle.sharing.specs.Refusals.{number}
use Rattle.std.specs.Prelude.{ℕ, Some, None}
use Rattle.sharing.specs.declared.refusal.Refusal.TheVariants.{WrongNames, WrongFieldCount, NotAValue}

-- a fault as it is reported
pub record Report : Type 0 where
  pub number : ℕ
  pub place : ℕ
  pub layer : Layer

-- a field's fault is at the field's start, a line's and a refused call's at the line's start
abbrev pub report : ImportFault → Report
report (Line (Field f)) = record { number = number NotAValue; place = f.place; layer = layer.Field }
report (Line (Names at)) = record { number = number WrongNames; place = at; layer = layer.Line }
report (Line (Fields at)) = record { number = number WrongFieldCount; place = at; layer = layer.Line }
report (Book at f) = record { number = number f; place = at; layer = layer.Book }

-- the number by which a layer is reported
abbrev pub layer_number : Layer → ℕ
layer_number layer.Field = 1
layer_number layer.Line = 2
layer_number layer.Book = 3

-- the answer where every line was taken
abbrev pub went_through : ℕ → ImportAnswer
went_through taken = record { taken = taken; stop = None }

-- the answer where a line has a fault
abbrev pub stopped : ℕ → ℕ → ImportFault → ImportAnswer
stopped taken line f = record { taken = taken; stop = Some (record { line = line; fault = f }) }
