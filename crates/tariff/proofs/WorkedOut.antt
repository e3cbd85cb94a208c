-- A number for each row, worked out from those of the rows below it.
use Rattle.std.proofs.Common.{◌≡◌, ℕ, ◌+◌, ◌<◌, ◌≤◌, List, [], ◌∷◌, ◌++◌, length, get_or, take, drop, fold, sym, refl, ap, ◌∙◌, arith}
use Rattle.std.proofs.lemmas.List.{get_or_append_left, get_or_push, length_push, length-take-le, take-append-drop, take_more}
use Rattle.std.proofs.lemmas.List.Sums.{fold-append, fold_push}
use Rattle.tariff.specs.Rows.{Row, worked_out}

-- a step of the work
abbrev step : ((ℕ → ℕ) → Row → ℕ) → List ℕ → Row → List ℕ
step over below r = below ++ over (λ j. get_or below j 0) r ∷ []

module _ (over : (ℕ → ℕ) → Row → ℕ) where
  -- what is worked out stays when rows are added
  stays : (below : List ℕ) (rows : List Row) (j : ℕ) → j < length below → get_or (fold (step over) below rows) j 0 ≡ get_or below j 0
  stays below [] j low = refl
  stays below (r ∷ rows) j low =
      stays (step over below r) rows j (omega (arith, length_push below (over (λ k. get_or below k 0) r)))
      ∙ get_or_append_left below (over (λ k. get_or below k 0) r ∷ []) 0 j low

  longs : (below : List ℕ) (rows : List Row) → length (fold (step over) below rows) ≡ length below + length rows
  longs below [] = omega arith
  longs below (r ∷ rows) = omega (arith, longs (step over below r) rows, length_push below (over (λ k. get_or below k 0) r))

  pub worked_out-push : (rows : List Row) (r : Row) → worked_out over (rows ++ r ∷ []) ≡ step over (worked_out over rows) r
  worked_out-push rows r = fold_push (step over) [] rows r

  pub length-worked_out : (rows : List Row) → length (worked_out over rows) ≡ length rows
  length-worked_out rows = omega (arith, longs [] rows)

  -- a lower row has the same number among fewer rows
  pub worked_out-below : (rows : List Row) (i j : ℕ) → i ≤ length rows → j < i → get_or (worked_out over (take i rows)) j 0 ≡ get_or (worked_out over rows) j 0
  worked_out-below rows i j within low =
      sym (stays (worked_out over (take i rows)) (drop i rows) j (omega (arith, length-worked_out (take i rows), length-take-le i rows within)))
      ∙ ap (λ ns. get_or ns j 0) (sym (fold-append (step over) [] (take i rows) (drop i rows)) ∙ ap (worked_out over) (take-append-drop i rows))

  -- the number of row i, from those below it
  pub worked_out-at : (rows : List Row) (i : ℕ) (d : Row) → i < length rows
      → get_or (worked_out over rows) i 0 ≡ over (λ j. get_or (worked_out over (take i rows)) j 0) (get_or rows i d)
  worked_out-at rows i d within =
      let below = worked_out over (take i rows) in
      let long : length below ≡ i = length-worked_out (take i rows) ∙ length-take-le i rows (omega arith) in
      sym (worked_out-below rows (i + 1) i (omega arith) (omega arith))
      ∙ ap (λ rs. get_or (worked_out over rs) i 0) (take_more rows i d within)
      ∙ ap (λ ns. get_or ns i 0) (worked_out-push (take i rows) (get_or rows i d))
      ∙ get_or_push below _ 0 i long
