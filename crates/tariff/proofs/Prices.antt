-- The prices of rows that keep the rules.
use Rattle.std.proofs.Common.{◌≡◌, ℕ, zero, suc, ◌+◌, ◌*◌, ◌<◌, ◌≤◌, max, Bool, true, false, not, ◌&&◌, leb, List, [], ◌∷◌, ◌++◌, length, get_or, take, drop, is_some, Some, None, Option, sym, refl, ap, ◌∙◌, mul-le-mul_left, arith}
use Rattle.std.specs.List.{list_all, AllByRecursion}
use Rattle.std.proofs.lemmas.List.{append_assoc, append-nil, at_drop_more, length-take-le, take_more}
use Rattle.std.proofs.lemmas.Bool.{and_from, and_parts, false≢true, eqb-true, leb-true, ltb-true, ltb-false, not-false, or_parts}
use Rattle.std.proofs.Math.Bool.{and_assoc, and-true}
use Rattle.sharing.specs.Refusals.{refusal}
use Rattle.sharing.specs.declared.refusal.Refusal.{Refusal}
use Rattle.sharing.proofs.Passing.{all_from_pass}
use Rattle.sharing.proofs.Picked.{none_hold}
use Rattle.tariff.specs.declared.mixing.Mixing.{Mixing}
use Rattle.tariff.specs.Charges.{Charge, Power, Fixed, Energy, Variable, Carrier, five, most_price}
use Rattle.tariff.specs.Rows.{Row, Plain, Mixed, Mix, Prices, price_in, price_over, depth_over, price, depth, most_depth, prices_within, row_why, keeps_rules, mixed_price, worked_out, no_row, rows_good_above, rows_good, whole, PriceLaw}
use Rattle.tariff.proofs.WorkedOut.{worked_out-below, worked_out-at}

none_is : (o : Option Refusal) → not (is_some o) ≡ true → o ≡ None
none_is None e = refl
none_is (Some f) e = absurd (false≢true e)

each_of_five : (p : Charge → Bool) → list_all p five ≡ true → AllByRecursion (λ c. p c ≡ true) five
each_of_five p e = all_from_pass p (λ c. p c ≡ true) (λ c h. h) five e

-- a test of all five is a test of each
pub of_five : (p : Charge → Bool) → list_all p five ≡ true → (c : Charge) → p c ≡ true
of_five p e Power = (each_of_five p e).0
of_five p e Fixed = (each_of_five p e).1.0
of_five p e Energy = (each_of_five p e).1.1.0
of_five p e Variable = (each_of_five p e).1.1.1.0
of_five p e Carrier = (each_of_five p e).1.1.1.1.0

pub price-low : (p : Prices) → prices_within p ≡ true → (c : Charge) → price_in c p ≤ most_price c
price-low p e c = leb-true _ _ (of_five (λ c. leb (price_in c p) (most_price c)) e c)

-- no price passes 100 million
pub most_low : (c : Charge) → most_price c ≤ most_price Power
most_low Power = omega arith
most_low Fixed = omega arith
most_low Energy = omega arith
most_low Variable = omega arith
most_low Carrier = omega arith

-- what a mixed row that keeps the rules has above the given rows
pub record Kept (rows : List Row) (m : Mix) : Type 0 where
  pub a_low : m.a.row < length rows
  pub b_low : m.b.row < length rows
  pub addend : prices_within m.addend ≡ true
  pub thousand : m.a.thousandths + m.b.thousandths ≡ whole
  pub shallow : depth_over (depth rows) (Mixed m) ≤ most_depth
  pub limit : (c : Charge) → price_over c (price c rows) (Mixed m) ≤ most_price c

pub kept_plain : (rows : List Row) (p : Prices) → keeps_rules rows (Plain p) ≡ true → prices_within p ≡ true
kept_plain rows p e = not-false _ (none_hold (row_why rows (Plain p)) (none_is _ e)).0

first-fails : (x y : Bool) → x ≡ true → (x && y) ≡ false → y ≡ false
first-fails true y e h = h
first-fails false y e h = absurd (false≢true e)

pub kept_mixed : (rows : List Row) (m : Mix) → keeps_rules rows (Mixed m) ≡ true → Kept rows m
kept_mixed rows m e =
    let fails = none_hold (row_why rows (Mixed m)) (none_is _ e) in
    let known = not-false _ fails.0 in
    let mix = or_parts _ _ fails.1.1.0 in
    record {
      a_low = ltb-true _ _ (and_parts _ _ known).0;
      b_low = ltb-true _ _ (and_parts _ _ known).1;
      addend = not-false _ fails.1.0;
      thousand = eqb-true _ _ (not-false _ mix.0);
      shallow = ltb-false _ _ (first-fails _ _ known mix.1);
      limit = λ c. leb-true _ _ (of_five (λ c. leb (price_over c (price c rows) (Mixed m)) (most_price c)) (not-false _ (first-fails _ _ known fails.1.1.1.0)) c);
    }

good_above : (below rows : List Row) → rows_good_above below rows ≡ true → (i : ℕ) (d : Row) → i < length rows → keeps_rules (below ++ take i rows) (get_or rows i d) ≡ true
good_above below [] e i d within = absurd (omega arith)
good_above below (r ∷ rows) e zero d within = ap (λ rs. keeps_rules rs r) (append-nil below) ∙ (and_parts _ _ e).0
good_above below (r ∷ rows) e (suc i) d within =
    ap (λ rs. keeps_rules rs (get_or rows i d)) (sym (append_assoc below (r ∷ []) (take i rows)))
    ∙ good_above (below ++ r ∷ []) rows (and_parts _ _ e).1 i d (omega arith)

-- what a mixed row in place i has among the rows
pub record MixedAt (rows : List Row) (i : ℕ) (m : Mix) : Type 0 where
  pub lower : (m.a.row < i) × (m.b.row < i)
  pub known : (m.a.row < length rows) × (m.b.row < length rows)
  pub addend : prices_within m.addend ≡ true
  pub thousand : m.a.thousandths + m.b.thousandths ≡ whole

module _ (rows : List Row) (good : rows_good rows ≡ true) (i : ℕ) (d : Row) (within : i < length rows) where
  pub row_kept : keeps_rules (take i rows) (get_or rows i d) ≡ true
  row_kept = good_above [] rows good i d within

-- rows below i suffice for what a row that names only lower rows is worked out to
module _ (rows : List Row) (good : rows_good rows ≡ true) (i : ℕ) (within : i < length rows) where
  lower : (over : (ℕ → ℕ) → Row → ℕ) (j : ℕ) → j < length (take i rows) → get_or (worked_out over (take i rows)) j 0 ≡ get_or (worked_out over rows) j 0
  lower over j low = worked_out-below over rows i j (omega arith) (omega (arith, length-take-le i rows (omega arith)))

  over_rows : (c : Charge) (r : Row) → keeps_rules (take i rows) r ≡ true → price_over c (price c (take i rows)) r ≡ price_over c (price c rows) r
  over_rows c (Plain p) e = refl
  over_rows c (Mixed m) e =
      let k = kept_mixed (take i rows) m e in
      ap (λ x. mixed_price m.a.thousandths x m.b.thousandths (price c (take i rows) m.b.row) (price_in c m.addend)) (lower (price_over c) m.a.row k.a_low)
      ∙ ap (λ y. mixed_price m.a.thousandths (price c rows m.a.row) m.b.thousandths y (price_in c m.addend)) (lower (price_over c) m.b.row k.b_low)

  depth-rows : (r : Row) → keeps_rules (take i rows) r ≡ true → depth_over (depth (take i rows)) r ≡ depth_over (depth rows) r
  depth-rows (Plain p) e = refl
  depth-rows (Mixed m) e =
      let k = kept_mixed (take i rows) m e in
      ap (λ x. max x (depth (take i rows) m.b.row) + 1) (lower depth_over m.a.row k.a_low)
      ∙ ap (λ y. max (depth rows m.a.row) y + 1) (lower depth_over m.b.row k.b_low)

  -- a row's price is the one that its parts' prices give
  pub price-is : (c : Charge) (d : Row) → price c rows i ≡ price_over c (price c rows) (get_or rows i d)
  price-is c d = worked_out-at (price_over c) rows i d within ∙ over_rows c (get_or rows i d) (row_kept rows good i d within)

  pub depth_is : (d : Row) → depth rows i ≡ depth_over (depth rows) (get_or rows i d)
  depth_is d = worked_out-at depth_over rows i d within ∙ depth-rows (get_or rows i d) (row_kept rows good i d within)

  limit_at : (c : Charge) (r : Row) → keeps_rules (take i rows) r ≡ true → price_over c (price c (take i rows)) r ≤ most_price c
  limit_at c (Plain p) e = price-low p (kept_plain (take i rows) p e) c
  limit_at c (Mixed m) e = (kept_mixed (take i rows) m e).limit c

  shallow-at : (r : Row) → keeps_rules (take i rows) r ≡ true → depth_over (depth (take i rows)) r ≤ most_depth
  shallow-at (Plain p) e = omega arith
  shallow-at (Mixed m) e = (kept_mixed (take i rows) m e).shallow

  -- and is within its limit
  pub price-within : (c : Charge) → price c rows i ≤ most_price c
  price-within c = let r = get_or rows i no_row in omega (arith, worked_out-at (price_over c) rows i no_row within, limit_at c r (row_kept rows good i no_row within))

  pub depth-within : depth rows i ≤ most_depth
  depth-within = let r = get_or rows i no_row in omega (arith, worked_out-at depth_over rows i no_row within, shallow-at r (row_kept rows good i no_row within))

  -- a mixed row among the rows below it
  pub mixed_at : (m : Mix) (d : Row) → get_or rows i d ≡ Mixed m → MixedAt rows i m
  mixed_at m d is =
      let k = kept_mixed (take i rows) m (ap (keeps_rules (take i rows)) (sym is) ∙ row_kept rows good i d within) in
      let long = length-take-le i rows (omega arith) in
      record {
        lower = (omega (arith, k.a_low, long), omega (arith, k.b_low, long));
        known = (omega (arith, k.a_low, long), omega (arith, k.b_low, long));
        addend = k.addend;
        thousand = k.thousand;
      }

pub price-law : (rows : List Row) → rows_good rows ≡ true → PriceLaw rows
price-law rows good = record {
  mixes = λ c i within. price-is rows good i within c no_row;
  within = λ c i within. price-within rows good i within c;
  shallow = λ i within. depth-within rows good i within;
}

-- the prices of two rows by thousandths, before these are divided out
pub number_low : (mixing : Mixing) (c : Charge) (x y : ℕ) → x ≡ price c mixing.rows.rows.now mixing.mix.now.a.row → y ≡ price c mixing.rows.rows.now mixing.mix.now.b.row
    → mixing.mix.now.a.thousandths * x + mixing.mix.now.b.thousandths * y ≤ whole * most_price Power
number_low mixing c x y x_is y_is =
    let m = mixing.mix.now in
    let x_low : x ≤ most_price Power = omega (arith, most_low c, price-within mixing.rows.rows.now mixing.rows.good m.a.row mixing.known.0 c) in
    let y_low : y ≤ most_price Power = omega (arith, most_low c, price-within mixing.rows.rows.now mixing.rows.good m.b.row mixing.known.1 c) in
    omega (arith, mul-le-mul_left m.a.thousandths x_low, mul-le-mul_left m.b.thousandths y_low, mixing.thousand)

-- one row more
good_push : (below rows : List Row) (r : Row) → rows_good_above below (rows ++ r ∷ []) ≡ (rows_good_above below rows && keeps_rules (below ++ rows) r)
good_push below [] r = and-true (keeps_rules below r) ∙ ap (λ rs. keeps_rules rs r) (sym (append-nil below))
good_push below (x ∷ rows) r =
    ap (λ b. keeps_rules below x && b) (good_push (below ++ x ∷ []) rows r ∙ ap (λ rs. rows_good_above (below ++ x ∷ []) rows && keeps_rules rs r) (append_assoc below (x ∷ []) rows))
    ∙ sym (and_assoc (keeps_rules below x) (rows_good_above (below ++ x ∷ []) rows) (keeps_rules (below ++ x ∷ rows) r))

-- a row that is not refused may be entered above rows that keep the rules
pub good_entered : (rows : List Row) (r : Row) → rows_good rows ≡ true → refusal (row_why rows r) ≡ None → rows_good (rows ++ r ∷ []) ≡ true
good_entered rows r good granted = good_push [] rows r ∙ and_from _ _ good (ap (λ o. not (is_some o)) granted)

module _ (rows : List Row) (i : ℕ) (d : Row) (within : i < length rows) where
  pub good_more : rows_good (take i rows) ≡ true → keeps_rules (take i rows) (get_or rows i d) ≡ true → rows_good (take (i + 1) rows) ≡ true
  good_more good kept = ap rows_good (take_more rows i d within) ∙ good_push [] (take i rows) (get_or rows i d) ∙ and_from _ _ good kept

  pub good_next : rows_good_above (take i rows) (drop i rows) ≡ (keeps_rules (take i rows) (get_or rows i d) && rows_good_above (take (i + 1) rows) (drop (i + 1) rows))
  good_next =
      at_drop_more (rows_good_above (take i rows)) rows i d within
      ∙ ap (λ rs. keeps_rules (take i rows) (get_or rows i d) && rows_good_above rs (drop (i + 1) rows)) (sym (take_more rows i d within))
