-- Why the definitions of lines, fields and values are right.
use Rattle.std.specs.Prelude.{decimal, ◌==◌, ◌≡◌, false, cond, List, [], ◌∷◌, ◌++◌, ℕ, ◌+◌, ◌≤◌, length, Ok}
use Rattle.std.specs.List.{AllByRecursion}
use Rattle.readings.specs.Formats.{value_of}
use Rattle.readings.specs.Texts.{Text, fields_of, lines_from}

-- the texts follow one another from the place `at` on, with one byte after each
abbrev pub Follow : ℕ → List Text → Type 0
Follow at [] = Unit {0}
Follow at (t ∷ ts) = (t.place ≡ at) × Follow (at + length t.bytes + 1) ts

-- no text has the byte `stop`
abbrev pub Lack : ℕ → List Text → Type 0
Lack stop ts = AllByRecursion (λ t. AllByRecursion (λ c. (c == stop) ≡ false) t.bytes) ts

-- the texts, with the byte `stop` after each
abbrev pub ended : ℕ → List Text → List ℕ
ended stop [] = []
ended stop (t ∷ ts) = t.bytes ++ (stop ∷ ended stop ts)

-- the texts are what the bytes `stop` end in these bytes, which stand from the place `at` on
pub record Cut (stop at : ℕ) (bs : List ℕ) (ts : List Text) : Type 0 where
  pub follow : Follow at ts
  pub lack : Lack stop ts
  pub whole : ended stop ts ≡ bs

-- a file with LF at its end
abbrev pub closed : List ℕ → List ℕ
closed [] = []
closed (c ∷ []) = cond (c == 10) (c ∷ []) (c ∷ 10 ∷ [])
closed (c ∷ d ∷ cs) = c ∷ closed (d ∷ cs)

-- a file is its lines, each with LF after it
abbrev pub LinesWhole : Type 0
LinesWhole = (file : List ℕ) → Cut 10 0 (closed file) (lines_from 0 file)

-- a line is its fields, with ";" after each but the last
abbrev pub FieldsWhole : Type 0
FieldsWhole = (l : Text) → Cut 59 l.place (l.bytes ++ 59 ∷ []) (fields_of l)

-- a field is a value where it is a number up to 10^12 as the listing writes it
abbrev pub ValuesDecimal : Type 0
ValuesDecimal = (f : Text) (n : ℕ) → (value_of f ≡ Ok n → (f.bytes ≡ decimal n) × (n ≤ 1_000_000_000_000)) × (f.bytes ≡ decimal n → n ≤ 1_000_000_000_000 → value_of f ≡ Ok n)
