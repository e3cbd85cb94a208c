-- Opening a month and fixing its heat. Neither writes anything.
use Rattle.std.specs.Bool.{beq}
use Rattle.std.specs.Option.{option_map}
use Rattle.std.specs.Prelude.{Bool, not, ◌&&◌, ◌||◌, List, [], ◌∷◌, ℕ, ◌+◌, eqb, leb, ltb, Option, is_some, unwrap_or}
use Rattle.sharing.specs.Limits.{most_quantity}
use Rattle.sharing.specs.declared.refusal.Refusal.{Refusal}
use Rattle.sharing.specs.declared.refusal.Refusal.TheVariants.{Unknown, OutOfRange, RegisterFalls, NotAsDue, NotColder, TooMuchHeat, OutOfDate, NoMonthLeft}
use Rattle.tariff.specs.Estimates.{estimated, estimate_outside, estimate_warm}
use Rattle.tariff.specs.declared.estimate.Estimate.{Estimate}
use Rattle.book.specs.Limits.{month_count, most_register}
use Rattle.book.specs.Meters.{rise, works}
use Rattle.book.specs.World.{World, node_at, unused}
use Rattle.book.specs.declared.records.Node.{Node}
use Rattle.clerk.specs.Papers.{Fixing, OpenedPaper, given}

-- why a month of a node is not opened
abbrev pub open_why : ℕ → World → List (Bool × Refusal)
open_why node w = (unused node w.nodes, Unknown) ∷ (leb month_count (node_at node w).month, NoMonthLeft) ∷ []

-- a paper for the node's next month
abbrev pub opened : ℕ → World → OpenedPaper
opened node w = record { node = node; month = (node_at node w).month }

-- an estimate is due where the meter is faulted or there were events
abbrev pub estimate_due : Node → Bool
estimate_due n = not (works n.meter) || ltb 0 n.events

-- a closing register stands exactly where the meter works, and an estimate exactly where one is due
abbrev pub as_due : Node → Option ℕ → Option Estimate → Bool
as_due n closing estimate = beq (is_some closing) (works n.meter) && beq (is_some estimate) (estimate_due n)

-- what a closing register rises by over the node's
abbrev pub rise_to : Node → Option ℕ → ℕ
rise_to n closing = unwrap_or (option_map (rise n) closing) 0

-- the heat of an estimate, where there is one
abbrev pub estimate_heat : Option Estimate → ℕ
estimate_heat estimate = unwrap_or (option_map estimated estimate) 0

-- a month's heat: what is carried, the rise to the closing register, and the estimate
abbrev pub month_heat : Node → Option ℕ → Option Estimate → ℕ
month_heat n closing estimate = n.carried + rise_to n closing + estimate_heat estimate

-- why a paper's heat is not fixed
abbrev pub fix_why : OpenedPaper → ℕ → Option ℕ → Option Estimate → World → List (Bool × Refusal)
fix_why p water closing estimate w =
    (unused p.node w.nodes, Unknown)
    ∷ (ltb most_quantity water || (given (λ r. ltb most_register r) closing || given estimate_outside estimate), OutOfRange)
    ∷ (given (λ r. ltb r (node_at p.node w).register) closing, RegisterFalls)
    ∷ (not (as_due (node_at p.node w) closing estimate), NotAsDue)
    ∷ (given estimate_warm estimate, NotColder)
    ∷ (ltb most_quantity (month_heat (node_at p.node w) closing estimate), TooMuchHeat)
    ∷ (not (eqb p.month (node_at p.node w).month), OutOfDate)
    ∷ []

-- what a fixing puts on the paper
abbrev pub fixing_of : OpenedPaper → ℕ → Option ℕ → Option Estimate → World → Fixing
fixing_of p water closing estimate w = record {
  node = p.node;
  month = p.month;
  heat = month_heat (node_at p.node w) closing estimate;
  water = water;
  estimate = estimate_heat estimate;
  closing = closing;
  events = (node_at p.node w).events;
}
