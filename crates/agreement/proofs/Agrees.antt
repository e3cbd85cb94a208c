-- What a run from new keeps: the book and the papers agree with the history.
use Rattle.std.proofs.Common.{◌≡◌, ℕ, ◌+◌, ◌-◌, ◌*◌, ◌<◌, ◌≤◌, true, cond, eqb, List, [], ◌∷◌, ◌++◌, map, length, get_or, set, pos, sym, refl, ap, ◌∙◌, inl, inr, arith}
use Rattle.std.specs.List.{All}
use Rattle.std.proofs.lemmas.List.{places, get_or_past, length_push, length-set, take-append-le, take_all}
use Rattle.std.proofs.lemmas.Bool.{cond_both, cond-true, cond-false, eq-eqb, false≢true, ne_eqb}
use Rattle.sharing.specs.Cuts.{cut}
use Rattle.sharing.specs.Whole.{nearest}
use Rattle.tariff.specs.Charges.{divisor}
use Rattle.tariff.specs.Rows.{price, price_over, rows_good}
use Rattle.tariff.specs.Uses.{charged, quantity}
use Rattle.tariff.specs.declared.charge.Charge.{Charge}
use Rattle.tariff.specs.declared.charges.Use.{Use}
use Rattle.tariff.specs.declared.row.Row.{Row}
use Rattle.tariff.proofs.WorkedOut.{worked_out-below}
use Rattle.book.specs.Meters.{meter_entry, node_after, works}
use Rattle.book.specs.Sound.{of_a_month}
use Rattle.book.specs.Office.{changed}
use Rattle.book.specs.World.{World, empty, new_node, new_recipient, no_object, node_at, with_nodes, with_objects, with_recipients, with_rows}
use Rattle.book.specs.declared.records.Line.{Line}
use Rattle.book.specs.declared.records.Node.{Node}
use Rattle.book.specs.declared.records.Object.{Object}
use Rattle.book.specs.declared.records.Recipient.{Recipient}
use Rattle.agreement.specs.Facts.{Event, Month, Fault, Repair, meter, months, named, node_entered, nodes, object_changed, object_entered, objects, office, over_months, papers, recipient_entered, rises, row_entered, rows}
use Rattle.agreement.specs.Law.{Law, charges_standing, no_share}
use Rattle.agreement.specs.Runs.{Paper}
use Rattle.agreement.proofs.Balances.{balance_in}
use Rattle.agreement.proofs.Lists.{all_made_below, map_same}
use Rattle.agreement.proofs.Months.{Fit, MonthStands, charge_agrees, heat-agrees, month_used, water-agrees}
use Rattle.agreement.proofs.Nodes.{NodesFit, nodes-keep, nodes-push, nodes-set}
use Rattle.agreement.proofs.Papers.{Moves, PapersFit, moves_push, moves_set, node_in, papers-move}
use Rattle.agreement.proofs.Places.{push_cases, set_cases}

-- heat fixed and carried are rises and estimates, and a node without events carries nothing
abbrev pub MeterFits : List Event → ℕ → Node → Type 0
MeterFits h k n = (over_months (λ x. x.slip.heat) k h + n.carried ≡ rises k h + over_months (λ x. x.slip.estimate) k h) × (n.events ≡ 0 → n.carried ≡ 0)

-- a line of a month is of a month before the node's next
abbrev pub LineBefore : List Node → Line → Type 0
LineBefore ns l = of_a_month l.kind ≡ true → l.month < (node_in ns l.node).month

-- a posted month stands in the journal, and is before the node's next
pub record MonthFits (rs : List Row) (lines : List Line) (ns : List Node) (x : Month) : Type 0 where
  pub fit : Fit rs x
  pub stands : MonthStands rs lines x
  pub before : x.month < (node_in ns x.node).month

pub record Agrees (h : List Event) (w : World) (ps : List Paper) : Type 0 where
  pub rows_are : w.rows ≡ rows h
  pub objects-are : w.objects ≡ objects h
  pub named-are : NodesFit w.nodes (nodes h)
  pub metered : (k : ℕ) → MeterFits h k (node_in w.nodes k)
  pub papers-are : PapersFit w.nodes ps (papers h)
  pub lines_are : All (LineBefore w.nodes) w.lines
  pub months-are : All (MonthFits w.rows w.lines w.nodes) (months h)
  pub balances : (q : ℕ) → balance_in w.recipients q ≡ charges_standing q w.lines (months h)

pub none_yet : (w : World) → w ≡ empty w.places → (ps : List Paper) → ps ≡ [] → Agrees [] w ps
none_yet w new ps none = rw (new, none) (record {
  rows_are = refl;
  objects-are = refl;
  named-are = record { count = refl; each = λ n. record { month = refl; register = λ _. refl } };
  metered = λ k. (refl, λ _. refl);
  papers-are = record { count = refl; each = λ i. tt };
  lines_are = λ k d low. absurd (omega arith);
  months-are = λ k d low. absurd (omega arith);
  balances = λ q. refl;
})

-- where rows are sound, the law follows
pub lawful : (h : List Event) (w : World) (ps : List Paper) → rows_good w.rows ≡ true → Agrees h w ps → Law h w
lawful h w ps good a = record {
  heat = λ k d low. let f = a.months-are k d low in heat-agrees w.rows w.lines _ f.fit f.stands;
  water = λ k d low. let f = a.months-are k d low in water-agrees w.rows w.lines _ f.fit f.stands;
  charges = λ c k d low. let f = a.months-are k d low in rw (← a.rows_are) (charge_agrees w.rows w.lines _ f.fit f.stands good c);
  balances = a.balances;
  meter = λ n. (a.metered n).0;
}

-- ---- rows

-- prices stay when a row is added
price-stays : (rs : List Row) (r : Row) (c : Charge) (i : ℕ) → i < length rs → price c (rs ++ r ∷ []) i ≡ price c rs i
price-stays rs r c i low =
    sym (worked_out-below (price_over c) (rs ++ r ∷ []) (length rs) i (omega (arith, length_push rs r)) low)
    ∙ ap (λ xs. price c xs i) (take-append-le (length rs) rs (r ∷ []) (omega arith) ∙ take_all (length rs) rs (omega arith))

charged-stays : (rs : List Row) (r : Row) (c : Charge) (us : List Use) → All (λ u. u.row < length rs) us → charged c (rs ++ r ∷ []) us ≡ charged c rs us
charged-stays rs r c us known =
    ap (cut (λ n. nearest n (divisor c))) (map_same _ _ us (λ k d low. ap (λ p. quantity c (get_or us k d) * p) (price-stays rs r c (get_or us k d).row (known k d low))))

used_known : (rs : List Row) (x : Month) → Fit rs x → All (λ u. u.row < length rs) (month_used x)
used_known rs x fit = all_made_below (λ u. u.row < length rs) _ (length x.shares) (λ i within. (fit.known i no_share within).0)

month-with_row : (rs : List Row) (r : Row) (lines : List Line) (ns : List Node) (x : Month) → MonthFits rs lines ns x → MonthFits (rs ++ r ∷ []) lines ns x
month-with_row rs r lines ns x f =
    let more = length_push rs r in
    record {
      fit = record {
        heat-may = f.fit.heat-may;
        water-may = f.fit.water-may;
        rounds = f.fit.rounds;
        known = λ k d low. let was = f.fit.known k d low in (omega (arith, was.0), was.1);
      };
      stands = record {
        heat = f.stands.heat;
        water = f.stands.water;
        charge = λ c. f.stands.charge c ∙ ap (map pos) (sym (charged-stays rs r c (month_used x) (used_known rs x f.fit)));
      };
      before = f.before;
    }

-- ---- nodes

-- months do not fall
abbrev pub Later : List Node → List Node → Type 0
Later ns ns' = (n : ℕ) → (node_in ns n).month ≤ (node_in ns' n).month

later_push : (ns : List Node) (m r : ℕ) → Later ns (ns ++ new_node m r ∷ [])
later_push ns m r n = grind (arith, places, get_or_past {X = Node}, length_push {X = Node})

pub later_set : (ns : List Node) (k : ℕ) (new : Node) → k < length ns → (node_in ns k).month ≤ new.month → Later ns (set ns k new)
later_set ns k new within more = set_cases (new_node 0 0) ns new (λ n x. (node_in ns n).month ≤ x.month) k within more (λ n other. omega arith)

module _ (ns ns' : List Node) (later : Later ns ns') where
  pub lines-later : (ls : List Line) → All (LineBefore ns) ls → All (LineBefore ns') ls
  lines-later ls before k d low is = let more = later (get_or ls k d).node in let was = before k d low is in omega arith

  pub month-later : (rs : List Row) (ls : List Line) (x : Month) → MonthFits rs ls ns x → MonthFits rs ls ns' x
  month-later rs ls x f = record { fit = f.fit; stands = f.stands; before = let more = later x.node in omega (arith, f.before) }

module _ (h : List Event) (w : World) (ps : List Paper) (a : Agrees h w ps) where
  pub agrees_row : (r : Row) → Agrees (office (row_entered r) ∷ h) (with_rows w (w.rows ++ r ∷ [])) ps
  agrees_row r = record {
    rows_are = ap (λ rs. rs ++ r ∷ []) a.rows_are;
    objects-are = a.objects-are;
    named-are = a.named-are;
    metered = a.metered;
    papers-are = a.papers-are;
    lines_are = a.lines_are;
    months-are = λ k d low. month-with_row w.rows r w.lines w.nodes _ (a.months-are k d low);
    balances = a.balances;
  }

  pub agrees_recipient : Agrees (office recipient_entered ∷ h) (with_recipients w (w.recipients ++ new_recipient ∷ [])) ps
  agrees_recipient = record {
    rows_are = a.rows_are;
    objects-are = a.objects-are;
    named-are = a.named-are;
    metered = a.metered;
    papers-are = a.papers-are;
    lines_are = a.lines_are;
    months-are = a.months-are;
    balances = push_cases new_recipient w.recipients new_recipient (λ q r. r.balance ≡ charges_standing q w.lines (months h))
        (sym (ap (λ (r : Recipient). r.balance) (get_or_past w.recipients (length w.recipients) new_recipient (omega arith))) ∙ a.balances (length w.recipients))
        a.balances;
  }

  pub agrees_object : (o : Object) → Agrees (office (object_entered o) ∷ h) (with_objects w (w.objects ++ o ∷ [])) ps
  agrees_object o = record {
    rows_are = a.rows_are;
    objects-are = ap (λ os. os ++ o ∷ []) a.objects-are;
    named-are = a.named-are;
    metered = a.metered;
    papers-are = a.papers-are;
    lines_are = a.lines_are;
    months-are = a.months-are;
    balances = a.balances;
  }

  pub agrees_change : (o row power area : ℕ) → Agrees (office (object_changed o row power area) ∷ h) (with_objects w (set w.objects o (changed (get_or w.objects o no_object) row power area))) ps
  agrees_change o row power area = record {
    rows_are = a.rows_are;
    objects-are = ap (λ os. set os o (changed (get_or os o no_object) row power area)) a.objects-are;
    named-are = a.named-are;
    metered = a.metered;
    papers-are = a.papers-are;
    lines_are = a.lines_are;
    months-are = a.months-are;
    balances = a.balances;
  }

  pub agrees_node : (m r : ℕ) → Agrees (office (node_entered m r) ∷ h) (with_nodes w (w.nodes ++ new_node m r ∷ [])) ps
  agrees_node m r =
      let later = later_push w.nodes m r in
      record {
        rows_are = a.rows_are;
        objects-are = a.objects-are;
        named-are = nodes-push w.nodes (nodes h) a.named-are m r;
        metered = push_cases (new_node 0 0) w.nodes (new_node m r) (λ k n. MeterFits h k n)
            (let none = get_or_past w.nodes (length w.nodes) (new_node 0 0) (omega arith) in (ap (λ (x : Node). over_months (λ x. x.slip.heat) (length w.nodes) h + x.carried) (sym none) ∙ (a.metered (length w.nodes)).0, λ _. refl))
            a.metered;
        papers-are = papers-move w.nodes _ (omega (arith, length_push w.nodes (new_node m r))) (moves_push w.nodes (new_node m r)) ps (papers h) a.papers-are;
        lines_are = lines-later w.nodes _ later w.lines a.lines_are;
        months-are = λ k d low. month-later w.nodes _ later w.rows w.lines _ (a.months-are k d low);
        balances = a.balances;
      }

  -- a node changes, and the history with it
  module _ (k : ℕ) (new : Node) (within : k < length w.nodes) (e : Event) (same_rows : rows (e ∷ h) ≡ rows h) (same_objects : objects (e ∷ h) ≡ objects h) (same_papers : papers (e ∷ h) ≡ papers h) (same_months : months (e ∷ h) ≡ months h)
      (named-are : NodesFit (set w.nodes k new) (nodes (e ∷ h))) (moved : Moves (node_in w.nodes k) new) (month : (node_in w.nodes k).month ≤ new.month)
      (here : MeterFits (e ∷ h) k new) (elsewhere : (n : ℕ) → (n ≡ k → ⊥) → MeterFits (e ∷ h) n (node_in w.nodes n)) where
    agrees_set : Agrees (e ∷ h) (with_nodes w (set w.nodes k new)) ps
    agrees_set =
        let later = later_set w.nodes k new within month in
        record {
          rows_are = a.rows_are ∙ sym same_rows;
          objects-are = a.objects-are ∙ sym same_objects;
          named-are = named-are;
          metered = set_cases (new_node 0 0) w.nodes new (λ n x. MeterFits (e ∷ h) n x) k within here elsewhere;
          papers-are = rw same_papers (papers-move w.nodes _ (omega (arith, length-set w.nodes k new)) (moves_set w.nodes k new within moved) ps (papers h) a.papers-are);
          lines_are = lines-later w.nodes _ later w.lines a.lines_are;
          months-are = rw same_months (λ k d low. month-later w.nodes _ later w.rows w.lines _ (a.months-are k d low));
          balances = rw same_months a.balances;
        }

  module _ (k r : ℕ) (within : k < length w.nodes) where
    -- a fault on a working meter counts the rise over the register last named
    pub agrees_fault : works (node_at k w).meter ≡ true → (node_at k w).register ≤ r → Agrees (meter Fault k r ∷ h) (meter_entry Fault k r w).after ps
    agrees_fault working rises-to =
        let fits = a.named-are.each k in
        agrees_set k (node_after Fault (node_at k w) r) within (meter Fault k r) refl refl refl refl
        (nodes-keep w.nodes (nodes h) a.named-are k _ within (record { month = fits.month; register = λ works_now. absurd (false≢true works_now) }))
        (inr (inl (refl, omega arith))) (omega arith)
        (let one = cond-true {A = ℕ} (eqb k k) (r - (named k h).register) 0 (eq-eqb _ _ refl) in
        (omega (arith, one, fits.register working, (a.metered k).0), λ e. absurd (omega arith)))
        (λ n other. let none = cond-false {A = ℕ} (eqb k n) (r - (named k h).register) 0 (ne_eqb _ _ (λ e. other (sym e))) in (omega (arith, none, (a.metered n).0), (a.metered n).1))

    -- a repair names a register, and counts nothing
    pub agrees_repair : Agrees (meter Repair k r ∷ h) (meter_entry Repair k r w).after ps
    agrees_repair =
        let fits = a.named-are.each k in
        let none : (n : ℕ) → cond {A = ℕ} (eqb k n) 0 0 ≡ 0 = λ n. cond_both (eqb k n) 0 0 (λ x. x ≡ 0) (λ _. refl) (λ _. refl) in
        agrees_set k (node_after Repair (node_at k w) r) within (meter Repair k r) refl refl refl refl
        (nodes-set w.nodes (nodes h) a.named-are k _ _ within (record { month = fits.month; register = λ _. refl }))
        (inr (inl (refl, omega arith))) (omega arith)
        (omega (arith, none k, (a.metered k).0), λ e. absurd (omega arith))
        (λ n other. (omega (arith, none n, (a.metered n).0), (a.metered n).1))
