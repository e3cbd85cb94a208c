-- The history of a list of calls with its answers: the accepted calls, newest first.
use Rattle.std.specs.Prelude.{drop, vec_items, List, [], ◌∷◌, ℕ, ◌-◌, get_or, take, Some, Result, Ok, Err}
use Rattle.sharing.specs.Keys.{Key, by_power}
use Rattle.sharing.specs.Rounds.{Rule}
use Rattle.sharing.specs.Whole.{nearest}
use Rattle.book.specs.Office.{object_on}
use Rattle.clerk.specs.Fixings.{estimate_heat}
use Rattle.clerk.specs.declared.paper.Readout.{Readout}
use Rattle.readings.specs.Formats.{columns_by, reading_of}
use Rattle.readings.specs.Texts.{Text, first, lines_from}
use Rattle.readings.specs.declared.columns.Columns.{Columns}
use Rattle.readings.specs.declared.fault.LineFault.{LineFault}
use Rattle.readings.specs.declared.reading.Reading.{Reading}
use Rattle.agreement.specs.Facts.{Event, Fault, Repair, Slip, blank, clerk, meter, month_posted, named, node_entered, object_changed, object_entered, office, paper_fixed, paper_opened, papers, recipient_entered, row_entered}
use Rattle.agreement.specs.declared.call.Answer.{Answer}
use Rattle.agreement.specs.declared.call.Answer.TheVariants.{Done, Entered, Opened, Fixed, Imported}
use Rattle.agreement.specs.declared.call.Failure.{Failure}
use Rattle.agreement.specs.declared.call.Call.{Call}
use Rattle.agreement.specs.declared.call.Call.TheVariants.{EnterRow, EnterRecipient, EnterNode, EnterObject, ChangeObject, ReportFault, Repair as RepairMeter, Open, Fix, Post, Import}

-- a paper of a node on which a heat is fixed by a readout
abbrev pub slip_with : ℕ → ℕ → Readout → Slip
slip_with node heat r = record { node = node; heat = heat; water = r.water; estimate = estimate_heat r.estimate; closing = r.closing }

-- what an imported line posts: no estimate is due, so nothing is carried, and the heat is the rise
abbrev pub read_slip : Reading → List Event → Slip
read_slip r h = record { node = r.node; heat = r.closing - (named r.node h).register; water = r.water; estimate = 0; closing = Some r.closing }

-- a line that was taken is posted by power and nearest
abbrev pub after_reading : Columns → List Event → Result Reading LineFault → List Event
after_reading c h (Ok r) = clerk (month_posted (read_slip r h) by_power nearest) ∷ h
after_reading c h (Err f) = h

-- so are all that were
abbrev pub after_readings : Columns → List Text → List Event → List Event
after_readings c [] h = h
after_readings c (l ∷ rest) h = after_readings c rest (after_reading c h (reading_of c l))

-- the lines of a file that were taken
abbrev pub after_import : ℕ → List Text → List Event → Result Columns LineFault → List Event
after_import taken rest h (Ok c) = after_readings c (take taken rest) h
after_import taken rest h (Err f) = h

module _ {K R : Type 0} (weight : K → Key) (meaning : R → Rule) where
  -- the history h with an accepted call, whose answer tells the number t
  abbrev pub happened : List Event → Call K R → ℕ → List Event
  happened h (EnterRow row) t = office (row_entered row) ∷ h
  happened h EnterRecipient t = office recipient_entered ∷ h
  happened h (EnterNode month register) t = office (node_entered month register) ∷ h
  happened h (EnterObject node recipient terms) t = office (object_entered (object_on node recipient terms)) ∷ h
  happened h (ChangeObject object terms) t = office (object_changed object terms.row terms.power terms.area) ∷ h
  happened h (ReportFault node register) t = meter Fault node register ∷ h
  happened h (RepairMeter node register) t = meter Repair node register ∷ h
  happened h (Open node) t = clerk (paper_opened node) ∷ h
  happened h (Fix paper r) t = clerk (paper_fixed paper (slip_with (get_or (papers h) paper (blank 0)).node t r)) ∷ h
  happened h (Post paper key rule) t = clerk (month_posted (get_or (papers h) paper (blank 0)) (weight key) (meaning rule)) ∷ h
  happened h (Import file) t = after_import t (drop 1 (lines_from 0 (vec_items file))) h (columns_by (first (lines_from 0 (vec_items file))))

  -- the history h with a call that was answered so; an import is accepted with the lines that it took
  abbrev pub noted : List Event → Call K R → Result Answer Failure → List Event
  noted h c (Ok Done) = happened h c 0
  noted h c (Ok (Entered n)) = happened h c n
  noted h c (Ok (Opened n)) = happened h c n
  noted h c (Ok (Fixed heat)) = happened h c heat
  noted h c (Ok (Imported x)) = happened h c x.taken
  noted h c (Err why) = h

  -- the calls and their answers, in order, after the history h
  abbrev pub history_after : List Event → List (Call K R) → List (Result Answer Failure) → List Event
  history_after h [] rest = h
  history_after h (c ∷ cs) [] = h
  history_after h (c ∷ cs) (a ∷ rest) = history_after (noted h c a) cs rest

  -- the history of a whole list from new
  abbrev pub history : List (Call K R) → List (Result Answer Failure) → List Event
  history cs answers = history_after [] cs answers
