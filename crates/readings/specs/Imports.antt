-- The import of a readings file: each line opens, fixes and posts, up to the first fault.
use Rattle.std.specs.Prelude.{◌≡◌, List, [], ◌∷◌, ◌++◌, ℕ, ◌+◌, Some, None, Result, Ok, Err}
use Rattle.std.specs.Prelude.{drop}
use Rattle.sharing.specs.Keys.{by_power}
use Rattle.sharing.specs.Whole.{nearest}
use Rattle.sharing.specs.declared.refusal.Refusal.{Refusal}
use Rattle.book.specs.Calls.{Call, Outcome}
use Rattle.book.specs.World.{Store, World}
use Rattle.clerk.specs.Fixings.{fix_why, fixing_of, open_why, opened}
use Rattle.clerk.specs.Postings.{post_entry}
use Rattle.clerk.specs.declared.paper.Fixing.{Fixing}
use Rattle.readings.specs.Faults.{Book, ImportAnswer, ImportFault, Line, LineFault, stopped, went_through}
use Rattle.readings.specs.Formats.{Columns, Reading, columns_by, reading_of}
use Rattle.readings.specs.Texts.{Text, first, lines_from}

-- what a reading fixes for its node's next month: no estimate
abbrev pub reading_fixing : Reading → World → Fixing
reading_fixing r w = fixing_of (opened r.node w) r.water (Some r.closing) None w

-- the calls of a reading, one after the other: its node's month is opened, fixed, and posted by power and nearest
abbrev pub reading_entry : Reading → World → Call (Unit {0})
reading_entry r w = record {
  why = open_why r.node w ++ (fix_why (opened r.node w) r.water (Some r.closing) None w ++ (post_entry by_power nearest (reading_fixing r w) w).why);
  answer = tt;
  after = (post_entry by_power nearest (reading_fixing r w) w).after;
}

-- an import that ends here
abbrev pub Ends : ImportAnswer → Store → ImportAnswer → Store → Type 0
Ends x s a s' = (a ≡ x) × (s' ≡ s)

-- an accepted line is followed by the next ones, a refused one ends the import
abbrev pub Goes : ℕ → Text → (Store → Type 0) → Store → ImportAnswer → Store → Result (Unit {0}) Refusal → Type 0
Goes k l later next a s' (Ok x) = later next
Goes k l later next a s' (Err f) = Ends (stopped k (k + 2) (Book l.place f)) next a s'

-- a line that says something makes its calls, one with a fault ends the import
abbrev pub TakesLine : ℕ → Text → (Store → Type 0) → Store → ImportAnswer → Store → Result Reading LineFault → Type 0
TakesLine k l later s a s' (Ok r) = (next : Store) × (x : Result (Unit {0}) Refusal) × Outcome (reading_entry r) s next x × Goes k l later next a s' x
TakesLine k l later s a s' (Err f) = Ends (stopped k (k + 2) (Line f)) s a s'

-- the lines of values in their order, after k lines taken, up to the first fault
abbrev pub Taken : Columns → ℕ → List Text → Store → ImportAnswer → Store → Type 0
Taken c k [] s a s' = Ends (went_through k) s a s'
Taken c k (l ∷ rest) s a s' = TakesLine k l (λ next. Taken c (k + 1) rest next a s') s a s' (reading_of c l)

-- the names line comes first
abbrev pub Begins : List Text → Store → ImportAnswer → Store → Result Columns LineFault → Type 0
Begins rest s a s' (Ok c) = Taken c 0 rest s a s'
Begins rest s a s' (Err f) = Ends (stopped 0 1 (Line f)) s a s'

-- an import of the file at s answers a and leaves s'
abbrev pub Imported : List ℕ → Store → ImportAnswer → Store → Type 0
Imported file s a s' = Begins (drop 1 (lines_from 0 file)) s a s' (columns_by (first (lines_from 0 file)))

-- one line: its fault, or the outcome of its calls
abbrev pub TakenLine : Text → Result Reading LineFault → Store → Store → Result (Unit {0}) ImportFault → Type 0
TakenLine l (Ok r) s s' (Ok x) = Outcome (reading_entry r) s s' (Ok x)
TakenLine l (Ok r) s s' (Err f) = (why : Refusal) × (f ≡ Book l.place why) × Outcome (reading_entry r) s s' (Err why)
TakenLine l (Err g) s s' (Ok x) = ⊥
TakenLine l (Err g) s s' (Err f) = (f ≡ Line g) × (s' ≡ s)
