-- The journal listing, as bytes.
use Rattle.std.specs.Prelude.{codes, decimal, List, [], ◌∷◌, ◌++◌, ℕ, ◌+◌}
use Rattle.book.specs.Records.{kind_number}
use Rattle.book.specs.declared.records.Amounts.{Amounts}
use Rattle.book.specs.declared.records.Line.{Line}
use Rattle.std.specs.Fmt.{signed_decimal}

-- fields with ";" between them
abbrev pub joined : List (List ℕ) → List ℕ
joined [] = []
joined (x ∷ []) = x
joined (x ∷ y ∷ rest) = x ++ (codes ";" ++ joined (y ∷ rest))

-- the kind of a line by its number, and what the line names
abbrev pub named : Line → List (List ℕ)
named l = decimal (kind_number l.kind) ∷ decimal l.node ∷ decimal l.month ∷ decimal l.object ∷ decimal l.recipient ∷ decimal l.row ∷ []

-- its power, weight, heat and water
abbrev pub measured : Line → List (List ℕ)
measured l = decimal l.kw ∷ decimal l.weight ∷ signed_decimal l.heat ∷ decimal l.water ∷ []

-- its amounts
abbrev pub charged : Amounts → List (List ℕ)
charged a = signed_decimal a.power ∷ signed_decimal a.fixed ∷ signed_decimal a.energy ∷ signed_decimal a.variable ∷ signed_decimal a.carrier ∷ signed_decimal a.other ∷ []

-- a line with its number in the journal, in decimal, "-" before negatives, and LF
abbrev pub line_bytes : ℕ → Line → List ℕ
line_bytes i l = joined (decimal i ∷ (named l ++ (measured l ++ charged l.amounts))) ++ codes "\n"

-- lines of which the first has the number i
abbrev pub lines_bytes : ℕ → List Line → List ℕ
lines_bytes i [] = []
lines_bytes i (l ∷ rest) = line_bytes i l ++ lines_bytes (i + 1) rest

-- the names of the fields
abbrev pub names : List ℕ
names = codes "line;kind;node;month;object;recipient;row;kw;weight;heat;water;power;fixed;energy;variable;carrier;other\n"

-- the whole listing
abbrev pub listing : List Line → List ℕ
listing lines = names ++ lines_bytes 0 lines
