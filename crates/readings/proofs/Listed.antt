-- The lines of a listing, one after another.
use Rattle.std.proofs.Common.{◌≡◌, ℕ, suc, ◌+◌, ◌<◌, List, [], ◌∷◌, ◌++◌, length, get_or, take, drop, codes, decimal, refl, sym, ap, ◌∙◌, append_assoc, append-nil, arith}
use Rattle.std.specs.Fmt.{HasWritten, signed_decimal}
use Rattle.std.specs.declared.fmt.Formatter.{Formatter}
use Rattle.std.proofs.Output.{has_written_of_eq, has_written_append}
use Rattle.std.proofs.lemmas.List.{length-take-le, take_more}
use Rattle.book.specs.Records.{kind_number}
use Rattle.book.specs.declared.records.Line.{Line}
use Rattle.readings.specs.Listing.{charged, joined, line_bytes, lines_bytes, measured, named}

-- fields with ";" between them and an end, one after another
abbrev spread : List (List ℕ) → List ℕ → List ℕ
spread [] end = end
spread (x ∷ []) end = x ++ end
spread (x ∷ y ∷ rest) end = x ++ (codes ";" ++ spread (y ∷ rest) end)

joined-end : (xs : List (List ℕ)) (end : List ℕ) → spread xs end ≡ joined xs ++ end
joined-end [] end = refl
joined-end (x ∷ []) end = refl
joined-end (x ∷ y ∷ rest) end = ap (λ (bs : List ℕ). x ++ (codes ";" ++ bs)) (joined-end (y ∷ rest) end) ∙ sym (append_assoc x (codes ";" ++ joined (y ∷ rest)) end)

-- fields in two parts
spread-append : (x : List ℕ) (xs ys : List (List ℕ)) (end : List ℕ) → 0 < length ys → spread (x ∷ xs) (codes ";") ++ spread ys end ≡ spread (x ∷ (xs ++ ys)) end
spread-append x xs [] end h = absurd (omega arith)
spread-append x [] (y ∷ ys) end h = append_assoc x (codes ";") (spread (y ∷ ys) end)
spread-append x (z ∷ xs) (y ∷ ys) end h = append_assoc x (codes ";" ++ spread (z ∷ xs) (codes ";")) (spread (y ∷ ys) end) ∙ ap (λ (bs : List ℕ). x ++ (codes ";" ++ bs)) (spread-append z xs (y ∷ ys) end h)

-- a line in three parts, its kind by its number
module _ (i kind : ℕ) (l : Line) (e : kind ≡ kind_number l.kind) where
  abbrev front : List (List ℕ)
  front = decimal kind ∷ decimal l.node ∷ decimal l.month ∷ decimal l.object ∷ decimal l.recipient ∷ []

  abbrev middle : List (List ℕ)
  middle = decimal l.kw ∷ decimal l.weight ∷ signed_decimal l.heat ∷ decimal l.water ∷ []

  line_parts : spread (decimal i ∷ front) (codes ";") ++ (spread (decimal l.row ∷ middle) (codes ";") ++ spread (charged l.amounts) (codes "\n")) ≡ line_bytes i l
  line_parts =
      ap (λ (bs : List ℕ). spread (decimal i ∷ front) (codes ";") ++ bs) (spread-append (decimal l.row) middle (charged l.amounts) (codes "\n") (omega arith))
      ∙ spread-append (decimal i) front (decimal l.row ∷ (middle ++ charged l.amounts)) (codes "\n") (omega arith)
      ∙ joined-end (decimal i ∷ (front ++ decimal l.row ∷ (middle ++ charged l.amounts))) (codes "\n")
      ∙ ap (λ (n : ℕ). joined (decimal i ∷ decimal n ∷ drop 1 (named l ++ (measured l ++ charged l.amounts))) ++ codes "\n") e

  pub line_put : {W : Type 0} (took : W → List ℕ → W → Type 0) {f g h k : Formatter W} → HasWritten took f (spread (decimal i ∷ front) (codes ";")) g → HasWritten took g (spread (decimal l.row ∷ middle) (codes ";")) h
      → HasWritten took h (spread (charged l.amounts) (codes "\n")) k → HasWritten took f (line_bytes i l) k
  line_put took p q r = has_written_of_eq took _ _ _ _ line_parts (has_written_append took _ _ _ _ _ p (has_written_append took _ _ _ _ _ q r))

lines-push : (i : ℕ) (ls : List Line) (l : Line) → lines_bytes i (ls ++ l ∷ []) ≡ lines_bytes i ls ++ line_bytes (i + length ls) l
lines-push i [] l = let none : i ≡ i + 0 = omega arith in append-nil (line_bytes i l) ∙ ap (λ (k : ℕ). line_bytes k l) none
lines-push i (x ∷ xs) l =
    let more : i + 1 + length xs ≡ i + suc (length xs) = omega arith in
    ap (λ (bs : List ℕ). line_bytes i x ++ bs) (lines-push (i + 1) xs l ∙ ap (λ (k : ℕ). lines_bytes (i + 1) xs ++ line_bytes k l) more)
    ∙ sym (append_assoc (line_bytes i x) (lines_bytes (i + 1) xs) (line_bytes (i + suc (length xs)) l))

lines_more : (ls : List Line) (i : ℕ) (d : Line) → i < length ls → lines_bytes 0 (take i ls) ++ line_bytes i (get_or ls i d) ≡ lines_bytes 0 (take (i + 1) ls)
lines_more ls i d h =
    let at : 0 + length (take i ls) ≡ i = omega (arith, length-take-le i ls (omega arith)) in
    sym (ap (lines_bytes 0) (take_more ls i d h) ∙ lines-push 0 (take i ls) (get_or ls i d) ∙ ap (λ (k : ℕ). lines_bytes 0 (take i ls) ++ line_bytes k (get_or ls i d)) at)

-- a formatter that wrote i of the lines, then one more
module _ {W : Type 0} (took : W → List ℕ → W → Type 0) {f g h : Formatter W} (ls : List Line) (i : ℕ) where
  pub one_more : (d : Line) → i < length ls → HasWritten took f (lines_bytes 0 (take i ls)) g → HasWritten took g (line_bytes i (get_or ls i d)) h → HasWritten took f (lines_bytes 0 (take (i + 1) ls)) h
  one_more d few p q = has_written_of_eq took f (lines_bytes 0 (take i ls) ++ line_bytes i (get_or ls i d)) (lines_bytes 0 (take (i + 1) ls)) h (lines_more ls i d few) (has_written_append took f (lines_bytes 0 (take i ls)) g (line_bytes i (get_or ls i d)) h p q)
