-- Values are numbers in decimal.
use Rattle.std.proofs.Common.{◌≡◌, ℕ, ◌+◌, ◌-◌, ◌*◌, ◌<◌, ◌≤◌, Bool, true, false, not, ◌&&◌, eqb, ltb, List, length, get_or, Ok, decimal, fold, sym, ap, ◌∙◌, ⊎_elim, arith, rules}
use Rattle.std.specs.Str.{all_ascii_digits}
use Rattle.std.proofs.lemmas.Fmt.{decimal-digits_value, decimal_nonempty, digits_decimal, first_decimal, length-decimal-le, digits_value-decimal}
use Rattle.std.proofs.lemmas.Str.Parse.{IsNumeralModel, numerals_by_fold, tells_all_ascii_digits}
use Rattle.std.proofs.lemmas.Bool.{and_left, and_parts, and_right, cases_lt, cond-true, eq-eqb, le-ltb, leb-true, ltb-false, ne_eqb, not-true}
use Rattle.readings.specs.Formats.{is_value, number_of, value_of}
use Rattle.readings.specs.Laws.{ValuesDecimal}
use Rattle.readings.proofs.Saying.{good}
use Rattle.readings.proofs.Values.{valued}

own : IsNumeralModel (λ ds. all_ascii_digits ds ≡ true) number_of
own = numerals_by_fold _ tells_all_ascii_digits (λ n ds. fold (λ m c. m * 10 + (c - 48)) n ds) (search rules)

lean : (first long : ℕ) → not (eqb first 48 && ltb 1 long) ≡ true → 0 < long → first ≡ 48 → long ≡ 1
lean first long h some zero = let less = ltb-false 1 long (sym (ap (λ (b : Bool). b && ltb 1 long) (eq-eqb first 48 zero)) ∙ not-true _ h) in omega arith

read_back : (bs : List ℕ) → is_value bs ≡ true → (decimal (number_of bs) ≡ bs) × (number_of bs ≤ 1_000_000_000_000)
read_back bs h =
    let p = and_parts _ _ h in
    let q = and_parts _ _ p.1 in
    let r = and_parts _ _ q.1 in
    let some : 0 < length bs = leb-true 1 (length bs) (and_parts _ _ p.0).0 in
    let low = leb-true (number_of bs) 1_000_000_000_000 r.1 in
    (decimal-digits_value own bs q.0 some (lean (get_or bs 0 0) (length bs) r.0 some) (omega arith), low)

unpadded : (n : ℕ) → n ≤ 1_000_000_000_000 → (eqb (get_or (decimal n) 0 0) 48 && ltb 1 (length (decimal n))) ≡ false
unpadded n low =
    ⊎_elim
    (λ (h : 0 < n). let first = first_decimal n h (omega arith) in and_left _ _ (ne_eqb (get_or (decimal n) 0 0) 48 (λ e. omega arith)))
    (λ (h : n ≤ 0). and_right _ _ (le-ltb 1 (length (decimal n)) (omega (arith, length-decimal-le 1 n (omega arith) (omega arith) (omega arith)))))
    (cases_lt 0 n)

written : (n : ℕ) → n ≤ 1_000_000_000_000 → is_value (decimal n) ≡ true
written n low =
    valued (decimal n) (decimal_nonempty n (omega arith)) (length-decimal-le 13 n (omega arith) (omega arith) (omega arith)) (digits_decimal own n (omega arith)) (unpadded n low) (omega (arith, digits_value-decimal own n (omega arith)))

pub values_decimal : ValuesDecimal
values_decimal f n = (reads, writes)
  where
    reads : value_of f ≡ Ok n → (f.bytes ≡ decimal n) × (n ≤ 1_000_000_000_000)
    reads e =
        let g = good f n (sym e) in
        let b = read_back f.bytes g.0 in
        (sym b.0 ∙ ap decimal (sym g.1), omega (arith, b.1, g.1))

    writes : f.bytes ≡ decimal n → n ≤ 1_000_000_000_000 → value_of f ≡ Ok n
    writes e low = cond-true _ _ _ (ap is_value e ∙ written n low) ∙ ap Ok (ap number_of e ∙ digits_value-decimal own n (omega arith))
