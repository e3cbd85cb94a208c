-- A posting keeps the agreement.
use Rattle.std.proofs.Common.{◌≡◌, ℕ, ◌+◌, ◌-◌, ◌<◌, ◌≤◌, true, false, cond, not, eqb, List, [], ◌∷◌, ◌++◌, map, length, get_or, set, ℤ, pos, is_some, IfSome, Some, None, Option, unwrap_or, sym, refl, ap, ◌∙◌, inl, inr, arith}
use Rattle.std.specs.List.{range_with_len, list_all, All, AllByRecursion}
use Rattle.std.specs.Option.{option_map}
use Rattle.std.proofs.lemmas.List.Elements.{All-append, All-filter, All-from_recursion, All-map, All-push, recursion_from_All}
use Rattle.std.proofs.lemmas.List.{get_or-set_same, length-set}
use Rattle.std.proofs.lemmas.Bool.Decides.{nat_tests}
use Rattle.std.proofs.lemmas.Int.{ints}
use Rattle.std.proofs.lemmas.List.Sums.{sum_by_push}
use Rattle.std.proofs.lemmas.Bool.{and_parts, cond-false, cond-true, eq-eqb, eqb-false, false_from_ne_true, ne_eqb, not-false, or_parts}
use Rattle.sharing.specs.Keys.{Key, asked}
use Rattle.sharing.specs.Limits.{most_area, most_power, most_quantity}
use Rattle.sharing.specs.Refusals.{refusal}
use Rattle.sharing.specs.Rounds.{Rounds, Rule}
use Rattle.sharing.proofs.Fairness.{Shareable}
use Rattle.sharing.proofs.Passing.{all_from_pass}
use Rattle.sharing.proofs.Picked.{none_hold}
use Rattle.book.specs.Sound.{line_good, object_good, of_a_month}
use Rattle.book.specs.World.{World, in_use, no_object}
use Rattle.book.proofs.Soundness.{Sound}
use Rattle.book.specs.Journal.{charge_of, heat_of, standing, summed, summed_where, water_of}
use Rattle.book.specs.World.{new_node}
use Rattle.book.specs.declared.records.Line.{Line}
use Rattle.book.specs.declared.records.Node.{Node}
use Rattle.clerk.specs.Fixings.{rise_to}
use Rattle.clerk.specs.Postings.{basis, behind, month_lines, node_weights, post_entry, posted_node}
use Rattle.clerk.specs.Writing.{after_lines, owed, together}
use Rattle.clerk.specs.declared.paper.Fixing.{Fixing}
use Rattle.clerk.proofs.MonthLines.{behind-few}
use Rattle.tariff.specs.Charges.{five}
use Rattle.tariff.specs.Uses.{charged}
use Rattle.tariff.specs.declared.charge.Charge.{Charge}
use Rattle.agreement.specs.Facts.{Event, Month, Share, Slip, advanced, blank, clerk, month_posted, months, named, nodes, objects, over_months, papers, posting, share}
use Rattle.agreement.specs.Law.{all_stand, charges_stand, charges_standing, stands, uses_of, weights}
use Rattle.agreement.specs.Runs.{Paper, fixed_paper, posted_paper}
use Rattle.agreement.proofs.Agrees.{Agrees, Later, LineBefore, MeterFits, MonthFits, later_set, lines-later}
use Rattle.agreement.proofs.Balances.{balance_after, balance_in}
use Rattle.agreement.proofs.Months.{Fit, MonthStands}
use Rattle.agreement.proofs.Nodes.{nodes-set}
use Rattle.agreement.proofs.Papers.{Current, Dated, Written, moves_set, node_in, paper_among, papers-move, papers-spent}
use Rattle.agreement.proofs.Places.{set_cases}
use Rattle.agreement.proofs.Standing.{of_another, of_it, standing-append, standing-none}
use Rattle.agreement.proofs.Lists.{all_below, map_same, summed-append, summed-map, summed_same}
use Rattle.agreement.proofs.MonthLines.{all_stand-new, are_month-lines, heats, length-weights, line_charges, line_heats, line_objects, line_recipients, line_stands, line_waters, shares, shares-weigh, waters}

-- an object in use is within its limits
object-parts : (w : World) (s : Sound w) (i : ℕ) → i < length w.objects
    → ((get_or w.objects i no_object).row < length w.rows) × ((get_or w.objects i no_object).power ≤ most_power) × ((get_or w.objects i no_object).area ≤ most_area)
object-parts w s i within =
    let good = All-from_recursion (λ o. object_good (in_use w) o ≡ true) w.objects s.objects i no_object within in
    (grind (arith, nat_tests), grind (arith, nat_tests), grind (arith, nat_tests))

found_low : (o : Option ℕ) → IfSome o (λ w. w ≤ most_quantity) → unwrap_or o 0 ≤ most_quantity
found_low None low = omega arith
found_low (Some n) low = low

-- what stands on a fixed paper
abbrev pub slip_of : Fixing → Slip
slip_of f = record { node = f.node; heat = f.heat; water = f.water; estimate = f.estimate; closing = f.closing }

rises-same : (closing : Option ℕ) (a b : ℕ) → (is_some closing ≡ true → a ≡ b) → unwrap_or (option_map (λ c. c - a) closing) 0 ≡ unwrap_or (option_map (λ c. c - b) closing) 0
rises-same None a b same = refl
rises-same (Some c) a b same = ap (λ n. c - n) (same refl)

module _ (key : Key) (light : (o p a : ℕ) → p ≤ most_power → a ≤ most_area → IfSome (key o p a) (λ w. w ≤ most_quantity)) (rule : Rule) (rounds : Rounds rule) (f : Fixing)
    (h : List Event) (w : World) (ps : List Paper) (a : Agrees h w ps) (sound : Sound w) (granted : refusal (post_entry key rule f w).why ≡ None)
    (fits : Written w.nodes f (slip_of f)) where
  abbrev n : Node
  n = node_in w.nodes f.node

  abbrev lines : List Line
  lines = month_lines key rule f w

  abbrev x : Month
  x = posting (slip_of f) key rule h

  abbrev ns : List Node
  ns = set w.nodes f.node (posted_node f n)

  none : AllByRecursion (λ p. p.0 ≡ false) (post_entry key rule f w).why
  none = none_hold (post_entry key rule f w).why granted

  within : f.node < length w.nodes
  within = fits.used

  dates : (f.month ≡ n.month) × (f.events ≡ n.events)
  dates = let both = not-false _ none.1.1.0 in (grind (arith, nat_tests), grind (arith, nat_tests))

  -- the paper is current
  current : Current f n
  current = by fits.dated
    where
      by : Dated f n → Current f n
      by (inl early) = absurd (omega (arith, dates.0))
      by (inr (inl fewer)) = absurd (omega (arith, dates.1))
      by (inr (inr now)) = now.2

  -- the month that the history has is the one posted
  month-is : x.month ≡ f.month
  month-is = sym (a.named-are.each f.node).month ∙ sym dates.0

  shares-are : x.shares ≡ shares key rule f w
  shares-are = ap (λ os. map (share key os) (behind f.node os)) (sym a.objects-are)

  weights-are : weights x ≡ node_weights key f.node w.objects
  weights-are = ap (map (λ s. s.weight)) shares-are ∙ shares-weigh key w.objects f.node

  in_behind : All (λ i. i < length w.objects) (behind f.node w.objects)
  in_behind = All-filter _ (λ i. i < length w.objects) (range_with_len 0 (length w.objects)) (all_below (length w.objects))

  weights-may : (total : ℕ) → total ≤ most_quantity → Shareable total (weights x)
  weights-may total low = rw weights-are (record {
    few = omega (arith, length-weights key w.objects f.node, behind-few w f.node sound);
    small = recursion_from_All (λ z. z ≤ most_quantity) _ (All-map (λ z. z ≤ most_quantity) _ (map (basis w.objects) (behind f.node w.objects))
        (All-map (λ b. unwrap_or (asked key b) 0 ≤ most_quantity) (basis w.objects) (behind f.node w.objects)
        (λ k d low. let o = object-parts w sound _ (in_behind k d low) in found_low _ (light _ _ _ o.1 o.2))));
    some =
        let some = eqb-false _ _ (or_parts (not (list_all (λ b. is_some (asked key b)) (map (basis w.objects) (behind f.node w.objects)))) _ none.1.1.1.1.0).1 in
        omega arith;
    limit = low;
  })

  new_fit : Fit w.rows x
  new_fit = record {
    heat-may = weights-may f.heat fits.heat-low;
    water-may = weights-may f.water fits.water-low;
    rounds = rounds;
    known = rw shares-are (All-map (λ (s : Share). (s.row < length w.rows) × (s.kw ≤ most_power)) _ (behind f.node w.objects) (λ k d low. let o = object-parts w sound _ (in_behind k d low) in (o.0, o.1)));
  }

  -- no line of the month stands yet
  new_month : (o : ℕ) → All (λ l. of_it f.node f.month o l ≡ false) w.lines
  new_month o k d low = absent (get_or w.lines k d) (a.lines_are k d low) o
    where
      absent : (l : Line) → LineBefore w.nodes l → (o : ℕ) → of_it f.node f.month o l ≡ false
      absent l before o =
          false_from_ne_true (of_it f.node f.month o l) (λ is.
          let kind : of_a_month l.kind ≡ true = grind (arith, nat_tests) in
          let node : l.node ≡ f.node = grind (arith, nat_tests) in
          let month : l.month ≡ f.month = grind (arith, nat_tests) in
          let low = before kind in
          let same = ap (λ k. (node_in w.nodes k).month) node in
          omega (arith, dates.0))

  stand : (g : Line → ℤ) → all_stand g (w.lines ++ lines) x ≡ map g lines
  stand g = all_stand-new key rule f w w.lines new_month g x refl month-is shares-are

  new_stands : MonthStands w.rows (w.lines ++ lines) x
  new_stands = record {
    heat = rw weights-are (stand heat_of ∙ line_heats key rule f w);
    water = rw weights-are (stand water_of ∙ line_waters key rule f w);
    charge = λ c.
        rw weights-are
        (stand (charge_of c) ∙ line_charges key rule f w c
        ∙ ap (λ ss. map pos (charged c w.rows (uses_of ss (heats key rule f w) (waters key rule f w)))) (sym shares-are));
  }

  later : Later w.nodes ns
  later = later_set w.nodes f.node (posted_node f n) within (omega arith)

  -- the other months stand as they did
  stays : (y : Month) → y.month < (node_in w.nodes y.node).month → (g : Line → ℤ) (o : ℕ) → standing g y.node y.month o (w.lines ++ lines) ≡ standing g y.node y.month o w.lines
  stays y before g o =
      let both = standing-append g y.node y.month o w.lines lines in
      let nothing = standing-none g y.node y.month o lines
      (λ k d low. of_another f.node f.month y.node y.month o (λ node month. let same = ap (λ k. (node_in w.nodes k).month) node in omega (arith, month, dates.0, before, same)) (get_or lines k d) (are_month-lines key rule f w k d low)) in
      omega (arith, ints)

  all_stays : (y : Month) → y.month < (node_in w.nodes y.node).month → (g : Line → ℤ) → all_stand g (w.lines ++ lines) y ≡ all_stand g w.lines y
  all_stays y before g = map_same _ _ y.shares (λ k d low. stays y before g (get_or y.shares k d).object)

  month-stays : (y : Month) → MonthFits w.rows w.lines w.nodes y → MonthFits w.rows (w.lines ++ lines) ns y
  month-stays y m = record {
    fit = m.fit;
    stands = record {
      heat = all_stays y m.before heat_of ∙ m.stands.heat;
      water = all_stays y m.before water_of ∙ m.stands.water;
      charge = λ c. all_stays y m.before (charge_of c) ∙ m.stands.charge c;
    };
    before = let more = later y.node in omega (arith, m.before);
  }

  advanced-month : (node_in ns f.node).month ≡ f.month + 1
  advanced-month = ap (λ (k : Node). k.month) (get_or-set_same w.nodes f.node (posted_node f n) (new_node 0 0) within) ∙ ap (λ m. m + 1) (sym dates.0)

  lines-before : All (LineBefore ns) (w.lines ++ lines)
  lines-before =
      All-append (LineBefore ns) w.lines lines (lines-later w.nodes ns later w.lines a.lines_are)
      (λ k d low _. let is = are_month-lines key rule f w k d low in let node = ap (λ k. (node_in ns k).month) is.node in omega (arith, is.month, node, advanced-month))

  -- what a line adds to a balance is what stands to its object
  line_owes : (l : Line) → l.amounts.other ≡ pos 0 → ((g : Line → ℤ) → standing g f.node f.month l.object (w.lines ++ lines) ≡ g l)
      → charges_stand (w.lines ++ lines) x (share key (objects h) l.object) ≡ together l.amounts
  line_owes l other told =
      let stand = λ (c : Charge). stands (charge_of c) (w.lines ++ lines) x (share key (objects h) l.object) in
      summed_same stand (λ c. charge_of c l) five (λ k d low. let g = charge_of (get_or five k d) in ap (λ m. standing g f.node m l.object (w.lines ++ lines)) month-is ∙ told g)
      ∙ omega (arith, ints)

  new_owed : (q : ℕ) → summed_where (λ s. eqb s.recipient q) (charges_stand (w.lines ++ lines) x) x.shares ≡ owed q lines
  new_owed q =
      let each = λ (s : Share). cond (eqb s.recipient q) (charges_stand (w.lines ++ lines) x s) (pos 0) in
      ap (λ os. summed each (map (share key (objects h)) (behind f.node os))) (sym a.objects-are)
      ∙ ap (λ is. summed each (map (share key (objects h)) is)) (sym (line_objects key rule f w))
      ∙ summed-map each (share key (objects h)) (map (λ l. l.object) lines)
      ∙ summed-map (λ i. each (share key (objects h) i)) (λ (l : Line). l.object) lines
      ∙ summed_same _ _ lines
      (λ k d low.
      let l = get_or lines k d in
      let are = line_recipients key rule f w k d low in
      rw (line_owes l are.1 (line_stands key rule f w w.lines new_month k d low), ← a.objects-are, ← are.0))

  old_owed : (q : ℕ) → charges_standing q (w.lines ++ lines) (months h) ≡ charges_standing q w.lines (months h)
  old_owed q = summed_same _ _ (months h) (λ k d low. same (get_or (months h) k d) (a.months-are k d low).before)
    where
      one : (y : Month) → y.month < (node_in w.nodes y.node).month → (s : Share) → charges_stand (w.lines ++ lines) y s ≡ charges_stand w.lines y s
      one y before s =
          let stand = λ (ls : List Line) (c : Charge). stands (charge_of c) ls y s in
          summed_same (stand (w.lines ++ lines)) (stand w.lines) five (λ k d low. stays y before (charge_of (get_or five k d)) s.object)

      same : (y : Month) → y.month < (node_in w.nodes y.node).month
          → summed_where (λ s. eqb s.recipient q) (charges_stand (w.lines ++ lines) y) y.shares ≡ summed_where (λ s. eqb s.recipient q) (charges_stand w.lines y) y.shares
      same y before = summed_same _ _ y.shares (λ k d low. let s = get_or y.shares k d in ap (λ z. cond (eqb s.recipient q) z (pos 0)) (one y before s))

  recipients-known : All (λ l. l.recipient < length w.recipients) lines
  recipients-known =
      let good = and_parts (list_all (line_good (in_use w)) lines) _ (not-false _ none.1.1.1.1.1.0) in
      All-from_recursion (λ l. l.recipient < length w.recipients) lines
      (all_from_pass (line_good (in_use w)) (λ l. l.recipient < length w.recipients) (λ l e. grind (arith, nat_tests)) lines good.0)

  balances-after : (q : ℕ) → balance_in (after_lines w.recipients lines) q ≡ charges_standing q (w.lines ++ lines) (months h ++ x ∷ [])
  balances-after q =
      let raised = balance_after q lines w.recipients recipients-known in
      let was = a.balances q in
      let both = summed-append (λ y. summed_where (λ s. eqb s.recipient q) (charges_stand (w.lines ++ lines) y) y.shares) (months h) (x ∷ []) in
      let old = old_owed q in
      let new = new_owed q in
      omega (arith, ints)

  -- the meter: what was carried, the rise and the estimate are posted
  rise-is : x.rise ≡ rise_to n f.closing
  rise-is = rises-same f.closing (named f.node h).register n.register (λ some. sym ((a.named-are.each f.node).register (sym current.closing ∙ some)))

  metered_here : MeterFits (clerk (month_posted (slip_of f) key rule) ∷ h) f.node (posted_node f n)
  metered_here =
      let mine : (g : Month → ℕ) → over_months g f.node (clerk (month_posted (slip_of f) key rule) ∷ h) ≡ over_months g f.node h + g x = λ g.
      sum_by_push (λ y. cond (eqb y.node f.node) (g y) 0) (months h) x ∙ ap (λ k. over_months g f.node h + k) (cond-true {A = ℕ} (eqb f.node f.node) (g x) 0 (eq-eqb _ _ refl)) in
      (omega (arith, mine (λ y. y.slip.heat), mine (λ y. y.rise), mine (λ y. y.slip.estimate), (a.metered f.node).0, current.heat, rise-is), λ _. refl)

  metered_elsewhere : (k : ℕ) → (k ≡ f.node → ⊥) → MeterFits (clerk (month_posted (slip_of f) key rule) ∷ h) k (node_in w.nodes k)
  metered_elsewhere k other =
      let same : (g : Month → ℕ) → over_months g k (clerk (month_posted (slip_of f) key rule) ∷ h) ≡ over_months g k h + 0 = λ g.
      sum_by_push (λ y. cond (eqb y.node k) (g y) 0) (months h) x ∙ ap (λ i. over_months g k h + i) (cond-false {A = ℕ} (eqb f.node k) (g x) 0 (ne_eqb _ _ (λ e. other (sym e)))) in
      (omega (arith, same (λ y. y.slip.heat), same (λ y. y.rise), same (λ y. y.slip.estimate), (a.metered k).0), (a.metered k).1)

  -- all of it
  pub agrees_posted : Agrees (clerk (month_posted (slip_of f) key rule) ∷ h) (post_entry key rule f w).after ps
  agrees_posted =
      let fits_now = a.named-are.each f.node in
      record {
        rows_are = a.rows_are;
        objects-are = a.objects-are;
        named-are = nodes-set w.nodes (nodes h) a.named-are f.node (posted_node f n) (advanced (slip_of f) (named f.node h)) within
            (record { month = ap (λ m. m + 1) fits_now.month; register = λ working. ap (unwrap_or f.closing) (fits_now.register working) });
        metered = set_cases (new_node 0 0) w.nodes (posted_node f n) (λ k m. MeterFits (clerk (month_posted (slip_of f) key rule) ∷ h) k m) f.node within metered_here metered_elsewhere;
        papers-are = papers-move w.nodes ns (omega (arith, length-set w.nodes f.node (posted_node f n))) (moves_set w.nodes f.node (posted_node f n) within (inl (omega arith))) ps (papers h) a.papers-are;
        lines_are = lines-before;
        months-are = All-push (MonthFits w.rows (w.lines ++ lines) ns) (months h) x (λ k d low. month-stays _ (a.months-are k d low))
            (record { fit = new_fit; stands = new_stands; before = omega (arith, month-is, advanced-month) });
        balances = balances-after;
      }

-- a paper is used up
agrees_spent : (h : List Event) (w : World) (ps : List Paper) → Agrees h w ps → (i : ℕ) → i < length ps → Agrees h w (set ps i posted_paper)
agrees_spent h w ps a i low = record {
  rows_are = a.rows_are;
  objects-are = a.objects-are;
  named-are = a.named-are;
  metered = a.metered;
  papers-are = papers-spent w.nodes ps (papers h) a.papers-are i low;
  lines_are = a.lines_are;
  months-are = a.months-are;
  balances = a.balances;
}

-- a posting of the paper with the number i
pub agrees_post : (key : Key) → ((o p a : ℕ) → p ≤ most_power → a ≤ most_area → IfSome (key o p a) (λ w. w ≤ most_quantity)) → (rule : Rule) → Rounds rule → (f : Fixing) (h : List Event) (w : World) (ps : List Paper)
    → Agrees h w ps → Sound w → refusal (post_entry key rule f w).why ≡ None → (i : ℕ) → get_or ps i posted_paper ≡ fixed_paper f
    → Agrees (clerk (month_posted (get_or (papers h) i (blank 0)) key rule) ∷ h) (post_entry key rule f w).after (set ps i posted_paper)
agrees_post key light rule rounds f h w ps a sound granted i at =
    let s = get_or (papers h) i (blank 0) in
    let fits : Written w.nodes f s = rw at at (a.papers-are.each i) in
    let same : slip_of f ≡ s = λ j. record { node = fits.node j; heat = fits.heat j; water = fits.water j; estimate = fits.estimate j; closing = fits.closing j } in
    let low : i < length ps = paper_among ps i (λ used. cc) in
    rw (← same) (agrees_spent _ _ ps (agrees_posted key light rule rounds f h w ps a sound granted (rw same fits)) i low)
