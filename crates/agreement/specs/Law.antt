-- Meter and accounts agree.
use Rattle.std.specs.Prelude.{min, drop, ℤ, pos, ◌≢◌, unsigned_abs, List, [], map, ◌≡◌, ℕ, ◌+◌, ◌≤◌, ◌<◌, eqb, length, get_or, take, sum, unwrap_or, Result, Ok, Err}
use Rattle.std.specs.List.{range_with_len, All}
use Rattle.std.specs.Option.{option_map}
use Rattle.sharing.specs.Amounts.{litres, megajoules}
use Rattle.sharing.specs.Cuts.{shared}
use Rattle.sharing.specs.Keys.{Key}
use Rattle.sharing.specs.Refusals.{number}
use Rattle.sharing.specs.Rounds.{Rule}
use Rattle.sharing.specs.Sharings.{Close}
use Rattle.sharing.specs.declared.refusal.Refusal.TheVariants.{Memory}
use Rattle.tariff.specs.Charges.{five}
use Rattle.tariff.specs.Uses.{charged, charged_together}
use Rattle.tariff.specs.declared.charge.Charge.{Charge}
use Rattle.tariff.specs.declared.charges.Use.{Use}
use Rattle.tariff.specs.declared.row.Row.{Row}
use Rattle.book.specs.Calls.{Ample}
use Rattle.book.specs.Journal.{charge_of, heat_of, standing, summed, summed_where, water_of}
use Rattle.book.specs.World.{World, balance_of, empty, node_at}
use Rattle.book.specs.declared.records.Line.{Line}
use Rattle.readings.specs.Faults.{report}
use Rattle.readings.specs.declared.answer.ImportAnswer.{ImportAnswer}
use Rattle.agreement.specs.Facts.{Event, Month, Share, months, over_months, rises, rows}
use Rattle.agreement.specs.History.{history}
use Rattle.agreement.specs.Runs.{Ran, State}
use Rattle.agreement.specs.declared.call.Answer.{Answer}
use Rattle.agreement.specs.declared.call.Answer.TheVariants.{Done, Entered, Opened, Fixed, Imported}
use Rattle.agreement.specs.declared.call.Failure.{Failure}
use Rattle.agreement.specs.declared.call.Failure.TheVariants.{Refused, NoPaper}
use Rattle.agreement.specs.declared.call.Call.{Call}

-- what stands in the journal to one object of a month
abbrev pub stands : (Line → ℤ) → List Line → Month → Share → ℤ
stands f lines x s = standing f x.node x.month s.object lines

-- and to each of them, in order
abbrev pub all_stand : (Line → ℤ) → List Line → Month → List ℤ
all_stand f lines x = map (stands f lines x) x.shares

-- the weights of a month's objects at the posting
abbrev pub weights : Month → List ℕ
weights x = map (λ s. s.weight) x.shares

-- the heat standing to a month's objects
pub record HeatAgrees (lines : List Line) (x : Month) : Type 0 where
  -- is, object by object, the heat posted, shared by the weights at the posting and cut by its rule, so that none is negative
  pub parts : all_stand heat_of lines x ≡ map pos (shared x.rule x.slip.heat (weights x))
  -- adds up to the heat posted
  pub adds_up : summed (λ z. z) (all_stand heat_of lines x) ≡ pos x.slip.heat
  -- and is less than 2 MJ from the exact part by weight
  pub near : (i : ℕ) → i < length x.shares → Close x.slip.heat (sum (weights x)) (get_or (weights x) i 0) (unsigned_abs (get_or (all_stand heat_of lines x) i (pos 0)))

-- the water standing to a month's objects is the water posted, shared by the same weights under the same rule
pub record WaterAgrees (lines : List Line) (x : Month) : Type 0 where
  pub parts : all_stand water_of lines x ≡ map pos (shared x.rule x.slip.water (weights x))
  pub adds_up : summed (λ z. z) (all_stand water_of lines x) ≡ pos x.slip.water

-- stands for an object past the last
abbrev pub no_share : Share
no_share = record { object = 0; recipient = 0; row = 0; kw = 0; weight = 0 }

-- what objects are charged for: the kW and the row at the posting, so much heat and so much water
abbrev pub uses_of : List Share → List ℕ → List ℕ → List Use
uses_of shares heat water =
    map (λ i. record { kw = (get_or shares i no_share).kw; heat = megajoules (get_or heat i 0); water = litres (get_or water i 0); row = (get_or shares i no_share).row }) (range_with_len 0 (length shares))

-- with the heat and the water that stand
abbrev pub standing_uses : List Line → Month → List Use
standing_uses lines x = uses_of x.shares (map unsigned_abs (all_stand heat_of lines x)) (map unsigned_abs (all_stand water_of lines x))

-- one charge standing to a month's objects
pub record ChargeAgrees (rs : List Row) (lines : List Line) (c : Charge) (x : Month) : Type 0 where
  -- is, object by object, the part of the nearest cut of quantity times price
  pub parts : all_stand (charge_of c) lines x ≡ map pos (charged c rs (standing_uses lines x))
  -- and adds up to the exact sum, rounded once
  pub adds_up : summed (λ z. z) (all_stand (charge_of c) lines x) ≡ pos (charged_together c rs (standing_uses lines x))

-- the five charges that stand to one object of a month
abbrev pub charges_stand : List Line → Month → Share → ℤ
charges_stand lines x s = summed (λ c. stands (charge_of c) lines x s) five

-- what stands to a recipient's objects over all posted months
abbrev pub charges_standing : ℕ → List Line → List Month → ℤ
charges_standing q lines xs = summed (λ x. summed_where (λ s. eqb s.recipient q) (charges_stand lines x) x.shares) xs

-- the world w agrees with the history h
pub record Law (h : List Event) (w : World) : Type 0 where
  pub heat : All (HeatAgrees w.lines) (months h)
  pub water : All (WaterAgrees w.lines) (months h)
  pub charges : (c : Charge) → All (ChargeAgrees (rows h) w.lines c) (months h)
  -- a balance is the charges standing to the recipient's objects
  pub balances : (q : ℕ) → balance_of q w ≡ charges_standing q w.lines (months h)
  -- heat fixed for a node's posted months, plus heat carried, is counted rises plus posted estimates
  pub meter : (n : ℕ) → over_months (λ x. x.slip.heat) n h + (node_at n w).carried ≡ rises n h + over_months (λ x. x.slip.estimate) n h

-- the number of the fault that stopped an import, and 0 where it went through
abbrev pub number_stopped : ImportAnswer → ℕ
number_stopped x = unwrap_or (option_map (λ s. (report s.fault).number) x.stop) 0

-- the number of the refusal that an answer tells, and 0 where it tells none
abbrev pub number_told : Result Answer Failure → ℕ
number_told (Ok Done) = 0
number_told (Ok (Entered n)) = 0
number_told (Ok (Opened n)) = 0
number_told (Ok (Fixed heat)) = 0
number_told (Ok (Imported x)) = number_stopped x
number_told (Err (Refused f)) = number f
number_told (Err NoPaper) = 0

-- how many calls are made: as many as there are places for answers
abbrev pub made : {C : Type 0} → List C → List (Result Answer Failure) → ℕ
made calls answers = min (length calls) (length answers)

-- the promise of a run, for every list of calls: from s it ends at s', and the answers stand in the places lent for them
pub record Agreement {K R : Type 0} (weight : K → Key) (meaning : R → Rule) (s : State) (calls : List (Call K R)) (before answers : List (Result Answer Failure)) (s' : State) : Type 0 where
  -- each answer and the book are the outcomes of the calls made, one after the other
  pub ran : Ran weight meaning s (take (made calls before) calls) (take (made calls before) answers) s'
  -- the places past the last answer are as they were
  pub rest : drop (made calls before) answers ≡ drop (made calls before) before
  -- where the book was new and there was no paper yet, meter and accounts agree
  pub law : s.store.world ≡ empty s.store.world.places → s.papers ≡ [] → Law (history weight meaning (take (made calls before) calls) (take (made calls before) answers)) s'.store.world
  -- where there was memory for every place and for a paper for each call, no call wanted any
  pub memory : Ample s.store → length s.papers + made calls before ≤ s.room → All (λ a. number_told a ≢ number Memory) (take (made calls before) answers)
