-- What a desk holds.
use Rattle.std.specs.Prelude.{vec_items, vec_capacity, map}
use Rattle.book.specs.World.{store}
use Rattle.agreement.specs.Runs.{Paper, State, blank_paper, fixed_paper, posted_paper}
use Rattle.agreement.specs.declared.desk.Desk.{Desk}
use Rattle.agreement.specs.declared.desk.Slot.{Slot}
use Rattle.agreement.specs.declared.desk.Slot.TheVariants as slot

-- a paper by what it says
abbrev pub seen : Slot → Paper
seen (slot.Opened p) = blank_paper p
seen (slot.Fixed p) = fixed_paper p.fixing
seen slot.Posted = posted_paper

-- the state of a desk
abbrev pub state : Desk → State
state d = record { store = store d.book.tables; papers = map seen (vec_items d.papers); room = vec_capacity d.papers }
