-- The readings file: a line of names, then lines of values. The byte 48 is "0".
pub use Rattle.readings.specs.declared.columns.Column.{Column}
pub use Rattle.readings.specs.declared.columns.Column.TheVariants.{First, Second, Third}
pub use Rattle.readings.specs.declared.columns.Columns.{Columns}
pub use Rattle.readings.specs.declared.reading.Reading.{Reading}
use Rattle.std.specs.Prelude.{codes, fold, Bool, cond, not, ◌&&◌, List, [], ◌∷◌, map, ℕ, suc, zero, ◌+◌, ◌-◌, ◌*◌, eqb, leb, ltb, length, get_or, Option, Some, None, Result, Ok, Err}
use Rattle.std.specs.List.{list_all, position_or_len}
use Rattle.std.specs.Str.{all_ascii_digits, bytes_eq}
use Rattle.readings.specs.Faults.{FieldFault, LineFault, Names, Fields, Field}
use Rattle.readings.specs.Texts.{Text, fields_of, three}

-- which of the fields has these bytes, counted from 0; as many as there are fields where none has them
abbrev pub index : List ℕ → List Text → ℕ
index name fields = position_or_len (λ f. bytes_eq f.bytes name) fields

-- the names line has three fields, with node, closing and water among them
abbrev pub names_good : List Text → Bool
names_good fields = three fields && list_all (λ name. ltb (index name fields) 3) (codes "node" ∷ codes "closing" ∷ codes "water" ∷ [])

-- a column by its number
abbrev pub column_at : ℕ → Column
column_at zero = First
column_at (suc zero) = Second
column_at (suc (suc n)) = Third

-- the columns that a names line gives
abbrev pub columns_of : Text → Result Columns LineFault
columns_of l =
    cond (names_good (fields_of l))
    (Ok (record { node = column_at (index (codes "node") (fields_of l)); closing = column_at (index (codes "closing") (fields_of l)); water = column_at (index (codes "water") (fields_of l)) }))
    (Err (Names l.place))

-- the columns by the first line of a file; a file without lines has no names
abbrev pub columns_by : Option Text → Result Columns LineFault
columns_by None = Err (Names 0)
columns_by (Some l) = columns_of l

-- the number that digits write
abbrev pub number_of : List ℕ → ℕ
number_of bs = fold (λ n c. n * 10 + (c - 48)) 0 bs

-- 1 to 13 digits without needless leading zeros, at most 10^12
abbrev pub is_value : List ℕ → Bool
is_value bs =
    (leb 1 (length bs) && leb (length bs) 13)
    && (all_ascii_digits bs && (not (eqb (get_or bs 0 0) 48 && ltb 1 (length bs)) && leb (number_of bs) 1_000_000_000_000))

-- the value that a field holds
abbrev pub value_of : Text → Result ℕ FieldFault
value_of f = cond (is_value f.bytes) (Ok (number_of f.bytes)) (Err (record { place = f.place }))

-- the first field that is not a value
abbrev pub first_fault : List Text → Option LineFault
first_fault [] = None
first_fault (f ∷ rest) = cond (is_value f.bytes) (first_fault rest) (Some (Field (record { place = f.place })))

-- why a line of values cannot be read: it has not three fields, or one that is not a value
abbrev pub line_fault : Text → Option LineFault
line_fault l = cond (three (fields_of l)) (first_fault (fields_of l)) (Some (Fields l.place))

-- the number of a column
abbrev pub column_number : Column → ℕ
column_number First = 0
column_number Second = 1
column_number Third = 2

-- what the fields hold in a column
abbrev pub value_in : Column → List Text → ℕ
value_in c fields = get_or (map (λ f. number_of f.bytes) fields) (column_number c) 0

-- what fields of values say
abbrev pub said : Columns → List Text → Reading
said c fields = record { node = value_in c.node fields; closing = value_in c.closing fields; water = value_in c.water fields }

-- a value, unless there is a fault
abbrev pub unless_faulty : {A : Type 0} → Option LineFault → A → Result A LineFault
unless_faulty None x = Ok x
unless_faulty (Some f) x = Err f

-- what a line of values says under the columns
abbrev pub reading_of : Columns → Text → Result Reading LineFault
reading_of c l = unless_faulty (line_fault l) (said c (fields_of l))
