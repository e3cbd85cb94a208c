-- The numbers of the refusals, and which of several is answered.
pub use Rattle.sharing.specs.declared.refusal.Refusal.{Refusal}
pub use Rattle.sharing.specs.declared.refusal.Refusal.TheVariants.{Full, Unknown, OutOfRange, WrongMix, NodeFull, PriceTooHigh, WrongMeterState, TooManyEvents, RegisterFalls, NotAsDue, NotColder, TooMuchHeat, NoObservation, OutOfDate, NoObjects, NoWeight, NotPosted, NoMonthLeft, WrongNames, WrongFieldCount, NotAValue, Unsound, Memory}
use Rattle.std.specs.Prelude.{codes, ◌≡◌, Bool, true, false, cond, ◌⊎◌, List, [], ◌∷◌, ℕ, ◌≤◌, ◌<◌, Option, Some, None, Result, Ok, Err}
use Rattle.std.specs.List.{AllByRecursion}

-- the number of a refusal
abbrev pub number : Refusal → ℕ
number Full = 1
number Unknown = 2
number OutOfRange = 3
number WrongMix = 4
number NodeFull = 5
number PriceTooHigh = 6
number WrongMeterState = 7
number TooManyEvents = 8
number RegisterFalls = 9
number NotAsDue = 10
number NotColder = 11
number TooMuchHeat = 12
number NoObservation = 13
number OutOfDate = 14
number NoObjects = 15
number NoWeight = 16
number NotPosted = 17
number NoMonthLeft = 18
number WrongNames = 19
number WrongFieldCount = 20
number NotAValue = 21
number Unsound = 22
number Memory = 255

-- the words by which it is reported
abbrev pub words : Refusal → List ℕ
words Full = codes "table full"
words Unknown = codes "number not in use"
words OutOfRange = codes "outside its limits"
words WrongMix = codes "wrong mix of rows"
words NodeFull = codes "node full"
words PriceTooHigh = codes "mixed price past its limit"
words WrongMeterState = codes "meter already in that state"
words TooManyEvents = codes "too many faults and repairs"
words RegisterFalls = codes "register falls"
words NotAsDue = codes "closing register or estimate not as due"
words NotColder = codes "month before not colder than indoors"
words TooMuchHeat = codes "too much heat"
words NoObservation = codes "no day observed"
words OutOfDate = codes "paper out of date"
words NoObjects = codes "node without objects"
words NoWeight = codes "no weight"
words NotPosted = codes "month not posted"
words NoMonthLeft = codes "no month left"
words WrongNames = codes "wrong line of names"
words WrongFieldCount = codes "not three fields"
words NotAValue = codes "not a value"
words Unsound = codes "tables disagree or a number past its limit"
words Memory = codes "want of memory"

-- conditions with their refusals: the first that holds is answered
abbrev pub refusal : List (Bool × Refusal) → Option Refusal
refusal [] = None
refusal (p ∷ rest) = cond p.0 (Some p.1) (refusal rest)

-- a value, unless there is a refusal
abbrev pub unless_refused : {A : Type 0} → Option Refusal → A → Result A Refusal
unless_refused None x = Ok x
unless_refused (Some f) x = Err f

-- a value, unless a condition holds
abbrev pub decided : {A : Type 0} → List (Bool × Refusal) → A → Result A Refusal
decided why x = unless_refused (refusal why) x

-- the condition of f holds
abbrev pub Holds : List (Bool × Refusal) → Refusal → Type 0
Holds [] f = ⊥
Holds (p ∷ ps) f = ((p.0 ≡ true) × (p.1 ≡ f)) ⊎ Holds ps f

-- what is answered has the smallest number of all whose condition holds, and nothing is answered where none holds
abbrev pub Least : List (Bool × Refusal) → Option Refusal → Type 0
Least why None = AllByRecursion (λ p. p.0 ≡ false) why
Least why (Some f) = Holds why f × AllByRecursion (λ p. p.0 ≡ true → number f ≤ number p.1) why

-- each refusal has a smaller number than those after it
abbrev pub Ascending : List (Bool × Refusal) → Type 0
Ascending [] = Unit {0}
Ascending (p ∷ ps) = AllByRecursion (λ q. number p.1 < number q.1) ps × Ascending ps

-- so the smallest number is answered
abbrev pub Smallest : Type 0
Smallest = (why : List (Bool × Refusal)) → Ascending why → Least why (refusal why)
