-- A file in lines, and a line in fields. Bytes are numbers: 10 is LF, 59 is ";".
pub use Rattle.readings.specs.declared.lines.Lines.{Lines}
pub use Rattle.readings.specs.declared.piece.Piece.{Piece}
use Rattle.std.specs.Prelude.{Bool, true, false, ◌||◌, cond, List, [], ◌∷◌, ℕ, ◌+◌, eqb, nat_lt, length, Option, Some, None}

-- some bytes and the place of the first in the file
pub record Text : Type 0 where
  pub place : ℕ
  pub bytes : List ℕ

-- what a piece of the file says
abbrev pub text : Piece → Text
text p = record { place = p.place; bytes = p.bytes.now }

-- the byte c in front of the first of the texts
abbrev pub led : ℕ → ℕ → List Text → List Text
led at c [] = record { place = at; bytes = c ∷ [] } ∷ []
led at c (t ∷ ts) = record { place = at; bytes = c ∷ t.bytes } ∷ ts

-- a text that nothing ends: one without bytes counts only if `blank`
abbrev pub uncut : Bool → Text → List Text
uncut blank t = cond (blank || nat_lt 0 (length t.bytes)) (t ∷ []) []

-- the bytes that stand from the place `at` on as texts, each ended by the byte `stop` but for what is behind the last
abbrev pub cut_from : ℕ → Bool → ℕ → List ℕ → List Text
cut_from stop blank at [] = uncut blank (record { place = at; bytes = [] })
cut_from stop blank at (c ∷ cs) = cond (eqb c stop) (record { place = at; bytes = [] } ∷ cut_from stop blank (at + 1) cs) (led at c (cut_from stop blank (at + 1) cs))

-- a text cut in the same way
abbrev pub cut_up : ℕ → Bool → Text → List Text
cut_up stop blank t = cut_from stop blank t.place t.bytes

-- the lines of the bytes that stand from the place `at` on: each ends in LF, and the last LF may be absent
abbrev pub lines_from : ℕ → List ℕ → List Text
lines_from at bs = cut_from 10 false at bs

-- the first of the texts, if there is one
abbrev pub first : List Text → Option Text
first [] = None
first (t ∷ ts) = Some t

-- the lines that are still to come
abbrev pub lines_left : Lines → List Text
lines_left l = cut_up 10 false (text l.rest)

-- the fields of a line, with their places in the file: one more than there are semicolons
abbrev pub fields_of : Text → List Text
fields_of l = cut_up 59 true l

-- there are three of them
abbrev pub three : List Text → Bool
three fields = eqb (length fields) 3
