-- Every sharing is fair.
use Rattle.std.proofs.Common.{◌≡◌, ℕ, ◌+◌, ◌*◌, ◌/◌, ◌<◌, ◌≤◌, false, not, leb, List, [], ◌∷◌, map, length, get_or, None, sum, sym, ap, ◌∙◌, ⊎_elim, mul-le-mul_right, add-mul, mul-le-mul, mul-zero, mul-add, div-mul-le_self, arith}
use native.Mathlib.Nat.{lt-div-mul-add}
use Rattle.std.specs.List.{AllByRecursion}
use Rattle.std.proofs.lemmas.List.{get_or-map, length-map}
use Rattle.std.proofs.ByRecursion.{sum_by_le}
use Rattle.std.proofs.lemmas.Bool.{cases_lt, false≢true, eqb-false, le-ltb, leb-true, ltb-false, ne_eqb, not-false, or_from, or_parts}
use Rattle.sharing.specs.Cuts.{running, cut, Cuts, no_divisor, shared}
use Rattle.sharing.specs.Limits.{most_quantity, most_objects, most_dividend, most_divisor}
use Rattle.sharing.specs.Refusals.{refusal}
use Rattle.sharing.specs.Rounds.{Rule, Rounds}
use Rattle.sharing.specs.Sharings.{sharing_why, Fair}
use Rattle.sharing.proofs.Parts.{sum-cons, running_more, running-le, cuts}
use Rattle.sharing.proofs.Passing.{all_from_pass}
use Rattle.sharing.proofs.Picked.{none_hold}

-- what is shared, where nothing is refused
pub record Shareable (total : ℕ) (weights : List ℕ) : Type 0 where
  pub few : length weights ≤ most_objects
  pub small : AllByRecursion (λ w. w ≤ most_quantity) weights
  pub some : 1 ≤ sum weights
  pub limit : total ≤ most_quantity

pub shareable : (total : ℕ) (weights : List ℕ) → refusal (sharing_why total weights) ≡ None → Shareable total weights
shareable total weights none =
    let fails = none_hold (sharing_why total weights) none in
    let range = or_parts _ _ fails.0 in
    record {
      few = ltb-false _ _ fails.1.0;
      small = all_from_pass (λ w. leb w most_quantity) (λ w. w ≤ most_quantity) (λ w e. leb-true w most_quantity e) weights (not-false _ range.1);
      some = ⊎_elim (λ h. h) (λ h. absurd (eqb-false _ _ fails.1.1.0 (omega arith))) (cases_lt 0 (sum weights));
      limit = ltb-false _ _ range.0;
    }

module _ (f : Rule) (laws : Rounds f) (d : ℕ) (pos : 1 ≤ d) (low : d ≤ most_divisor) where
  -- a rounded fraction is less than 1 away from it
  rounds_near : (n : ℕ) → n + d ≤ most_dividend → (n < f n d * d + d) × (f n d * d < n + d)
  rounds_near n room =
      let q = n / d in
      let under : q * d ≤ n = div-mul-le_self n d in
      let over : n < q * d + d = lt-div-mul-add pos in
      let next : (q + 1) * d ≡ q * d + d = omega (arith, add-mul q 1 d) in
      let at_q : f (q * d) d ≡ q = laws.exact q d pos low (omega arith) in
      let at_next : f ((q + 1) * d) d ≡ q + 1 = laws.exact (q + 1) d pos low (omega arith) in
      let least : q ≤ f n d = omega (arith, at_q, laws.monotone (q * d) n d pos low under (omega arith)) in
      let most : f n d ≤ q + 1 = omega (arith, at_next, laws.monotone n ((q + 1) * d) d pos low (omega arith) (omega arith)) in
      let a : q * d ≤ f n d * d = mul-le-mul_right d least in
      let b : f n d * d ≤ (q + 1) * d = mul-le-mul_right d most in (
        omega arith,
        ⊎_elim
            (λ (h : q * d < n). omega (arith, b, next))
            (λ (h : n ≤ q * d). let same : n ≡ q * d = omega arith in omega (arith, ap (λ k. k * d) (ap (λ k. f k d) same ∙ at_q)))
            (cases_lt (q * d) n),
      )

  -- so a part is less than 2 away from its addend over the divisor
  part-near : (xs ps : List ℕ) → Cuts (λ n. f n d) xs ps → sum xs + d ≤ most_dividend → (i : ℕ) → i < length xs
      → (get_or ps i 0 * d < get_or xs i 0 + 2 * d) × (get_or xs i 0 < get_or ps i 0 * d + 2 * d)
  part-near xs ps cut room i within =
      let s = running xs i in
      let s' = running xs (i + 1) in
      let p = get_or ps i 0 in
      let more = running_more xs i within in
      let up = running-le xs (i + 1) in
      let before = rounds_near s (omega arith) in
      let after = rounds_near s' (omega arith) in
      let whole : f s d * d + p * d ≡ f s' d * d = sym (add-mul (f s d) p d) ∙ ap (λ n. n * d) (cut.rises i within) in
      (omega (arith, before.0, before.1, after.0, after.1, whole, more), omega (arith, before.0, before.1, after.0, after.1, whole, more))

-- a factor comes out of a sum
sum-times : (t : ℕ) (xs : List ℕ) → sum (map (λ w. t * w) xs) ≡ t * sum xs
sum-times t [] = sym (mul-zero t)
sum-times t (x ∷ xs) =
    omega (arith, sum-cons (t * x) (map (λ w. t * w) xs), sum-times t xs, mul-add t x (sum xs), ap (λ n. t * n) (sum-cons x xs))

module _ (total : ℕ) (weights : List ℕ) (may : Shareable total weights) where
  pub weights-low : sum weights ≤ most_objects * most_quantity
  weights-low = omega (arith, may.few, sum_by_le (λ w. w) most_quantity weights may.small)

  -- the sum of the weights is a divisor
  divisor-taken : no_divisor (sum weights) ≡ false
  divisor-taken = or_from _ _ (ne_eqb (sum weights) 0 (λ (e : sum weights ≡ 0). omega (arith, may.some))) (le-ltb _ _ (omega (arith, weights-low)))

  pub cut_taken : (d : ℕ) → d ≡ sum weights → false ≡ not (no_divisor d) → ⊥
  cut_taken d is refused = false≢true (refused ∙ ap (λ n. not (no_divisor n)) is ∙ ap not divisor-taken)

  addends_low : total * sum weights ≤ most_quantity * (most_objects * most_quantity)
  addends_low = mul-le-mul may.limit weights-low

  pub addends_room : sum (map (λ w. total * w) weights) ≤ most_dividend
  addends_room = omega (arith, addends_low, sum-times total weights)

  pub fair : (f : Rule) → Rounds f → Fair f total weights (shared f total weights)
  fair f laws =
      let W = sum weights in
      let xs = map (λ w. total * w) weights in
      let low : W ≤ most_divisor = omega (arith, weights-low) in
      let made = cuts f laws W may.some low xs addends_room in
      let exact = laws.exact total W may.some low (omega (arith, addends_low)) in
      record {
        cuts = made;
        adds = made.adds ∙ ap (λ n. f n W) (sum-times total weights) ∙ exact;
        near = λ i within.
            let close = part-near f laws W may.some low xs (shared f total weights) made (omega (arith, addends_low, weights-low, sum-times total weights)) i (omega (arith, within, length-map weights (λ w. total * w))) in
            let exactly = get_or-map (λ w. total * w) weights i 0 0 within in
            (omega (arith, close.0, exactly), omega (arith, close.1, exactly));
      }
