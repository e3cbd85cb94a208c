-- What papers say.
pub use Rattle.clerk.specs.declared.paper.Fixing.{Fixing}
pub use Rattle.clerk.specs.declared.paper.OpenedPaper.{OpenedPaper}
use Rattle.std.specs.Prelude.{◌≡◌, Bool, false, not, ◌&&◌, leb, ltb, Option, Some, None, Result, Ok, Err}
use Rattle.sharing.specs.declared.refusal.Refusal.{Refusal}
use Rattle.sharing.specs.declared.refusal.Refused.{Refused}
use Rattle.sharing.specs.Limits.{most_quantity}
use Rattle.book.specs.Limits.{most_register}

-- what is given passes the test
abbrev pub given : {A : Type 0} → (A → Bool) → Option A → Bool
given p None = false
given p (Some x) = p x

-- the numbers of a fixing are within their limits; its month needs no limit here, since a line past the last month is not writable
abbrev pub fixing_good : Fixing → Bool
fixing_good f = leb f.heat most_quantity && (leb f.water most_quantity && not (given (λ r. ltb most_register r) f.closing))

-- a refused call gives the paper back as it was
abbrev pub GivesBack : {A P : Type 0} → P → Result A (Refused P) → Type 0
GivesBack p (Ok x) = Unit {0}
GivesBack p (Err e) = e.given ≡ p

-- what it answers besides
abbrev pub bare : {A P : Type 0} → Result A (Refused P) → Result A Refusal
bare (Ok x) = Ok x
bare (Err e) = Err e.refusal
