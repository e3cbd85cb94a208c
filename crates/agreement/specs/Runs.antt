-- A run of a list of calls: every answer, and what it leaves, is the outcome of the call's definition, one after the other.
use Rattle.std.specs.Prelude.{vec_items, slice_set, List, [], ◌∷◌, ◌++◌, ◌≡◌, ◌⊎◌, ℕ, ◌≤◌, length, get_or, None, Some, Result, Ok, Err}
use Rattle.sharing.specs.Keys.{Key}
use Rattle.sharing.specs.Refusals.{decided, refusal}
use Rattle.sharing.specs.Rounds.{Rule}
use Rattle.sharing.specs.declared.refusal.Refusal.{Refusal}
use Rattle.sharing.specs.declared.refusal.Refusal.TheVariants.{Memory}
use Rattle.book.specs.Meters.{meter_entry}
use Rattle.book.specs.Office.{change_entry, node_entry, object_entry, object_on, recipient_entry, row_entry}
use Rattle.book.specs.World.{Store, World}
use Rattle.book.specs.declared.records.MeterEvent.TheVariants.{Fault, Repair as Repaired}
use Rattle.clerk.specs.Fixings.{fix_why, fixing_of, open_why, opened}
use Rattle.clerk.specs.Postings.{post_entry}
use Rattle.clerk.specs.declared.paper.Fixing.{Fixing}
use Rattle.clerk.specs.declared.paper.OpenedPaper.{OpenedPaper}
use Rattle.clerk.specs.declared.paper.Readout.{Readout}
use Rattle.readings.specs.Imports.{Imported}
use Rattle.readings.specs.declared.answer.ImportAnswer.{ImportAnswer}
use Rattle.agreement.specs.declared.call.Answer.{Answer}
use Rattle.agreement.specs.declared.call.Answer.TheVariants.{Done, Entered, Opened, Fixed, Imported as Answered}
use Rattle.agreement.specs.declared.call.Failure.{Failure}
use Rattle.agreement.specs.declared.call.Failure.TheVariants.{Refused, NoPaper}
use Rattle.agreement.specs.declared.call.Call.{Call}
use Rattle.agreement.specs.declared.call.Call.TheVariants.{EnterRow, EnterRecipient, EnterNode, EnterObject, ChangeObject, ReportFault, Repair, Open, Fix, Post, Import}
use Rattle.book.specs.Calls as calls

-- a paper of a list: opened, fixed, or used up by its posting
pub data Paper : Type 0 where
  blank_paper : OpenedPaper → Paper
  fixed_paper : Fixing → Paper
  posted_paper : Paper

-- the book, the papers in the order in which the list opened them, and how many papers there is memory for
pub record State : Type 0 where
  pub store : Store
  pub papers : List Paper
  pub room : ℕ

-- the answer to a result
abbrev pub told : {A : Type 0} → (A → Answer) → Result A Refusal → Result Answer Failure
told f (Ok x) = Ok (f x)
told f (Err why) = Err (Refused why)

-- the papers stay
abbrev pub SamePapers : State → State → Type 0
SamePapers s s' = (s'.papers ≡ s.papers) × (s'.room ≡ s.room)

-- a call that enters an item and tells its number
abbrev pub Enters : (World → calls.Call ℕ) → State → Result Answer Failure → State → Type 0
Enters call s a s' = (r : Result ℕ Refusal) × calls.Outcome call s.store s'.store r × (a ≡ told Entered r) × SamePapers s s'

-- a call that does its work and wants no memory
abbrev pub Does : (World → calls.Call (Unit {0})) → State → Result Answer Failure → State → Type 0
Does call s a s' = (r : Result (Unit {0}) Refusal) × calls.Sure call s.store s'.store r × (a ≡ told (λ _. Done) r) × SamePapers s s'

-- a paper is opened under the next number, or there is no memory for it; the book stays
abbrev pub OpenResult : ℕ → State → State → Result ℕ Refusal → Type 0
OpenResult node s s' (Ok n) =
    (refusal (open_why node s.store.world) ≡ None) × (n ≡ length s.papers) × (s'.papers ≡ s.papers ++ blank_paper (opened node s.store.world) ∷ [])
OpenResult node s s' (Err f) =
    ((refusal (open_why node s.store.world) ≡ Some f) ⊎ ((refusal (open_why node s.store.world) ≡ None) × (f ≡ Memory) × (s.room ≤ length s.papers)))
    × (s'.papers ≡ s.papers)

-- opening a month
abbrev pub Opens : ℕ → State → Result Answer Failure → State → Type 0
Opens node s a s' = (r : Result ℕ Refusal) × OpenResult node s s' r × (a ≡ told Opened r) × (s'.store ≡ s.store) × (s.room ≤ s'.room)

-- the papers after a fixing: the one with the number carries what was fixed
abbrev pub papers_fixed : ℕ → List Paper → Result Fixing Refusal → List Paper
papers_fixed i ps (Ok f) = slice_set ps i (fixed_paper f)
papers_fixed i ps (Err why) = ps

-- the paper named does not exist, or is not in the state that the call needs: nothing happens
abbrev pub Nothing : State → Result Answer Failure → State → Type 0
Nothing s a s' = (a ≡ Err NoPaper) × (s' ≡ s)

-- fixing a paper's heat: it must be blank; the book stays, and the heat is told
abbrev pub Fixes : ℕ → Readout → Paper → State → Result Answer Failure → State → Type 0
Fixes i r (blank_paper p) s a s' =
    (x : Result Fixing Refusal)
    × (x ≡ decided (fix_why p r.water r.closing r.estimate s.store.world) (fixing_of p r.water r.closing r.estimate s.store.world))
    × (a ≡ told (λ f. Fixed f.heat) x)
    × (s' ≡ record { store = s.store; papers = papers_fixed i s.papers x; room = s.room })
Fixes i r (fixed_paper f) s a s' = Nothing s a s'
Fixes i r posted_paper s a s' = Nothing s a s'

-- the papers after a posting: the one with the number is used up
abbrev pub papers_posted : ℕ → List Paper → Result (Unit {0}) Refusal → List Paper
papers_posted i ps (Ok x) = slice_set ps i posted_paper
papers_posted i ps (Err why) = ps

-- posting a paper: it must be fixed
abbrev pub Posts : ℕ → Key → Rule → Paper → State → Result Answer Failure → State → Type 0
Posts i key rule (blank_paper p) s a s' = Nothing s a s'
Posts i key rule (fixed_paper f) s a s' =
    (r : Result (Unit {0}) Refusal)
    × calls.Outcome (post_entry key rule f) s.store s'.store r
    × (a ≡ told (λ _. Done) r)
    × (s'.papers ≡ papers_posted i s.papers r)
    × (s'.room ≡ s.room)
Posts i key rule posted_paper s a s' = Nothing s a s'

-- an import: the calls of its lines, up to the first fault
abbrev pub Imports : List ℕ → State → Result Answer Failure → State → Type 0
Imports file s a s' = (x : ImportAnswer) × Imported file s.store x s'.store × (a ≡ Ok (Answered x)) × SamePapers s s'

-- the paper with a number; past the last there is none
abbrev pub paper_at : ℕ → State → Paper
paper_at i s = get_or s.papers i posted_paper

module _ {K R : Type 0} (weight : K → Key) (meaning : R → Rule) where
  -- one call at s answers a and leaves s'
  abbrev pub Stepped : State → Call K R → Result Answer Failure → State → Type 0
  Stepped s (EnterRow row) a s' = Enters (row_entry row) s a s'
  Stepped s EnterRecipient a s' = Enters recipient_entry s a s'
  Stepped s (EnterNode month register) a s' = Enters (node_entry month register) s a s'
  Stepped s (EnterObject node recipient terms) a s' = Enters (object_entry (object_on node recipient terms)) s a s'
  Stepped s (ChangeObject object terms) a s' = Does (change_entry object terms.row terms.power terms.area) s a s'
  Stepped s (ReportFault node register) a s' = Does (meter_entry Fault node register) s a s'
  Stepped s (Repair node register) a s' = Does (meter_entry Repaired node register) s a s'
  Stepped s (Open node) a s' = Opens node s a s'
  Stepped s (Fix paper readout) a s' = Fixes paper readout (paper_at paper s) s a s'
  Stepped s (Post paper key rule) a s' = Posts paper (weight key) (meaning rule) (paper_at paper s) s a s'
  Stepped s (Import file) a s' = Imports (vec_items file) s a s'

  -- the calls from s on, one after the other: as many answers as calls, and s' at the end
  abbrev pub Ran : State → List (Call K R) → List (Result Answer Failure) → State → Type 0
  Ran s [] [] s' = s' ≡ s
  Ran s [] (a ∷ rest) s' = ⊥
  Ran s (c ∷ cs) [] s' = ⊥
  Ran s (c ∷ cs) (a ∷ rest) s' = (next : State) × Stepped s c a next × Ran next cs rest s'
