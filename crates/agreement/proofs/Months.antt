-- Posted months whose parts stand in the journal.
use Rattle.std.proofs.Common.{◌≡◌, ℕ, ◌*◌, ◌<◌, ◌≤◌, Bool, true, ltb, List, map, length, get_or, pos, nat_abs, sum, sym, ap, ◌∙◌, arith, lit≤}
use Rattle.std.specs.List.{list_all, All}
use Rattle.std.proofs.lemmas.List.FromFn.{length-map-range_with_len}
use Rattle.std.proofs.lemmas.List.{get_or-map, length-map}
use Rattle.std.proofs.lemmas.List.Sums.{get_or-le-sum_by}
use Rattle.std.proofs.lemmas.Bool.{and_from, le-leb, lt-ltb}
use Rattle.sharing.specs.Amounts.{litres, megajoules}
use Rattle.sharing.specs.Cuts.{shared}
use Rattle.sharing.specs.Limits.{most_divisor, most_power, most_quantity}
use Rattle.sharing.specs.Rounds.{Rounds}
use Rattle.sharing.specs.Whole.{nearest}
use Rattle.sharing.proofs.Fairness.{Shareable, fair}
use Rattle.sharing.proofs.Parts.{cuts, length_cut}
use Rattle.sharing.proofs.Passing.{pass_from_each}
use Rattle.sharing.specs.Wholes.{nearest_exact, nearest_rises}
use Rattle.tariff.specs.Charges.{divisor}
use Rattle.tariff.specs.Rows.{rows_good}
use Rattle.tariff.specs.Uses.{charged, charged_together, use_within, worth}
use Rattle.tariff.specs.declared.charge.Charge.{Charge}
use Rattle.tariff.specs.declared.charge.Charge.TheVariants.{Power, Fixed, Energy, Variable, Carrier}
use Rattle.tariff.specs.declared.charges.Use.{Use}
use Rattle.tariff.specs.declared.row.Row.{Row}
use Rattle.tariff.proofs.Worth.{no_use, worth-low}
use Rattle.book.specs.Journal.{charge_of, heat_of, summed, water_of}
use Rattle.book.specs.declared.records.Line.{Line}
use Rattle.agreement.specs.Facts.{Month, Share}
use Rattle.agreement.specs.Law.{ChargeAgrees, HeatAgrees, WaterAgrees, all_stand, no_share, standing_uses, uses_of, weights}
use Rattle.agreement.proofs.Lists.{abs_pos, all_made_below, summed-pos}

-- the parts of a month's heat and water
abbrev pub heat_parts : Month → List ℕ
heat_parts x = shared x.rule x.slip.heat (weights x)

abbrev pub water_parts : Month → List ℕ
water_parts x = shared x.rule x.slip.water (weights x)

-- what its objects are charged for
abbrev pub month_used : Month → List Use
month_used x = uses_of x.shares (heat_parts x) (water_parts x)

-- what may be said of a posted month by itself
pub record Fit (rs : List Row) (x : Month) : Type 0 where
  pub heat-may : Shareable x.slip.heat (weights x)
  pub water-may : Shareable x.slip.water (weights x)
  pub rounds : Rounds x.rule
  pub known : All (λ s. (s.row < length rs) × (s.kw ≤ most_power)) x.shares

-- and what stands for it in the journal
pub record MonthStands (rs : List Row) (lines : List Line) (x : Month) : Type 0 where
  pub heat : all_stand heat_of lines x ≡ map pos (heat_parts x)
  pub water : all_stand water_of lines x ≡ map pos (water_parts x)
  pub charge : (c : Charge) → all_stand (charge_of c) lines x ≡ map pos (charged c rs (month_used x))

pub nearest-rounds : Rounds nearest
nearest-rounds = record {
  exact = λ k d some low room. nearest_exact k d (omega arith);
  monotone = λ n m d some low more room. nearest_rises n m d (omega arith) more;
}

divisor-fits : (c : Charge) → (1 ≤ divisor c) × (divisor c ≤ most_divisor)
divisor-fits Power = (lit≤ tt, lit≤ tt)
divisor-fits Fixed = (lit≤ tt, lit≤ tt)
divisor-fits Energy = (lit≤ tt, lit≤ tt)
divisor-fits Variable = (lit≤ tt, lit≤ tt)
divisor-fits Carrier = (lit≤ tt, lit≤ tt)

module _ (rs : List Row) (lines : List Line) (x : Month) (fit : Fit rs x) (s : MonthStands rs lines x) where
  long : (total : ℕ) → length (shared x.rule total (weights x)) ≡ length x.shares
  long total = length_cut (λ n. x.rule n (sum (weights x))) 0 (map (λ w. total * w) (weights x)) ∙ length-map (weights x) _ ∙ length-map x.shares _

  pub heat-agrees : HeatAgrees lines x
  heat-agrees =
      let shares = fair x.slip.heat (weights x) fit.heat-may x.rule fit.rounds in
      record {
        parts = s.heat;
        adds_up = ap (summed (λ z. z)) s.heat ∙ summed-pos (heat_parts x) ∙ ap pos shares.adds;
        near = λ i within.
            let at = ap (λ zs. nat_abs (get_or zs i (pos 0))) s.heat ∙ ap nat_abs (get_or-map pos (heat_parts x) i 0 (pos 0) (omega (arith, within, long x.slip.heat))) in
            rw at (shares.near i (omega (arith, within, length-map x.shares (λ (s : Share). s.weight))));
      }

  pub water-agrees : WaterAgrees lines x
  water-agrees =
      let shares = fair x.slip.water (weights x) fit.water-may x.rule fit.rounds in
      record { parts = s.water; adds_up = ap (summed (λ z. z)) s.water ∙ summed-pos (water_parts x) ∙ ap pos shares.adds }

  part_low : (total : ℕ) → Shareable total (weights x) → (i : ℕ) → i < length x.shares → get_or (shared x.rule total (weights x)) i 0 ≤ most_quantity
  part_low total may i within =
      let shares = fair total (weights x) may x.rule fit.rounds in
      omega (arith, get_or-le-sum_by (λ n. n) (shared x.rule total (weights x)) i 0 (omega (arith, within, long total)), shares.adds, may.limit)

  -- what a test asks of each use
  uses_pass : (p : Use → Bool) → ((i : ℕ) → i < length x.shares → p (record { kw = (get_or x.shares i no_share).kw; heat = megajoules (get_or (heat_parts x) i 0); water = litres (get_or (water_parts x) i 0); row = (get_or x.shares i no_share).row }) ≡ true)
      → list_all p (month_used x) ≡ true
  uses_pass p each = let all = all_made_below (λ u. p u ≡ true) _ (length x.shares) each in pass_from_each p no_use (month_used x) (λ i low. all i no_use low)

  uses_within : list_all use_within (month_used x) ≡ true
  uses_within =
      uses_pass use_within
      (λ i within.
      and_from _ _ (le-leb _ _ (fit.known i no_share within).1)
      (and_from _ _ (le-leb _ _ (part_low x.slip.heat fit.heat-may i within)) (le-leb _ _ (part_low x.slip.water fit.water-may i within))))

  uses_known : list_all (λ u. ltb u.row (length rs)) (month_used x) ≡ true
  uses_known = uses_pass (λ u. ltb u.row (length rs)) (λ i within. lt-ltb _ _ (fit.known i no_share within).0)

  -- the charges add up to the exact sum, rounded once
  together : rows_good rs ≡ true → (c : Charge) → sum (charged c rs (month_used x)) ≡ charged_together c rs (month_used x)
  together good c =
      let few : length (month_used x) ≡ length x.shares = length-map-range_with_len _ 0 (length x.shares) in
      let room = worth-low c rs good (month_used x) uses_known uses_within (omega (arith, few, fit.heat-may.few, length-map x.shares (λ (s : Share). s.weight))) in
      (cuts nearest nearest-rounds (divisor c) (divisor-fits c).0 (divisor-fits c).1 (worth c rs (month_used x)) room).adds

  used_stands : standing_uses lines x ≡ month_used x
  used_stands =
      ap (λ hs. uses_of x.shares hs (map nat_abs (all_stand water_of lines x))) (ap (map nat_abs) s.heat ∙ abs_pos (heat_parts x))
      ∙ ap (uses_of x.shares (heat_parts x)) (ap (map nat_abs) s.water ∙ abs_pos (water_parts x))

  pub charge_agrees : rows_good rs ≡ true → (c : Charge) → ChargeAgrees rs lines c x
  charge_agrees good c = record {
    parts = s.charge c ∙ ap (λ us. map pos (charged c rs us)) (sym used_stands);
    adds_up = ap (summed (λ z. z)) (s.charge c) ∙ summed-pos (charged c rs (month_used x)) ∙ ap pos (together good c) ∙ ap (λ us. pos (charged_together c rs us)) (sym used_stands);
  }
