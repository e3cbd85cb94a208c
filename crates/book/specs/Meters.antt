-- The meter staff's calls: faults and repairs.
use Rattle.std.specs.Prelude.{slice_set, Bool, true, false, not, List, [], ◌∷◌, ℕ, ◌+◌, ◌-◌, leb, ltb}
use Rattle.sharing.specs.Limits.{most_quantity}
use Rattle.sharing.specs.declared.refusal.Refusal.{Refusal}
use Rattle.sharing.specs.declared.refusal.Refusal.TheVariants.{Unknown, OutOfRange, WrongMeterState, TooManyEvents, RegisterFalls, TooMuchHeat}
use Rattle.book.specs.Calls.{Call}
use Rattle.book.specs.Limits.{most_register, most_events}
use Rattle.book.specs.Records.{Meter, Working, Faulted, MeterEvent, Fault, Repair, Node}
use Rattle.book.specs.World.{World, node_at, unused, with_nodes}

-- the meter works
abbrev pub works : Meter → Bool
works Working = true
works Faulted = false

-- what the node's register rises by up to r
abbrev pub rise : Node → ℕ → ℕ
rise n r = r - n.register

-- why a node does not take an event that names the register r
abbrev pub event_why : MeterEvent → Node → ℕ → List (Bool × Refusal)
event_why Fault n r =
    (not (works n.meter), WrongMeterState)
    ∷ (leb most_events n.events, TooManyEvents)
    ∷ (ltb r n.register, RegisterFalls)
    ∷ (ltb most_quantity (n.carried + rise n r), TooMuchHeat)
    ∷ []
event_why Repair n r = (works n.meter, WrongMeterState) ∷ (leb most_events n.events, TooManyEvents) ∷ []

-- after a fault the last good register is stored and the rise to it is carried; after a repair the new register is stored, without a rise
abbrev pub node_after : MeterEvent → Node → ℕ → Node
node_after Fault n r = record n { register = r; carried = n.carried + rise n r; events = n.events + 1; meter = Faulted }
node_after Repair n r = record n { register = r; events = n.events + 1; meter = Working }

-- a fault report or a repair
abbrev pub meter_entry : MeterEvent → ℕ → ℕ → World → Call (Unit {0})
meter_entry event node register w = record {
  why = (unused node w.nodes, Unknown) ∷ (ltb most_register register, OutOfRange) ∷ event_why event (node_at node w) register;
  answer = tt;
  after = with_nodes w (slice_set w.nodes node (node_after event (node_at node w) register));
}
