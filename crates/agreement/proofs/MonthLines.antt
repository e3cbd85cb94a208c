-- The lines that a posting writes, and what they make stand.
use Rattle.std.proofs.Common.{◌≡◌, ℕ, ◌*◌, ◌<◌, false, List, ◌++◌, map, length, get_or, ℤ, pos, sum, sym, refl, ap, ◌∙◌, arith}
use Rattle.std.specs.List.{range_with_len, All, AllPairs}
use Rattle.std.proofs.lemmas.List.FromFn.{length-map-range_with_len}
use Rattle.std.proofs.lemmas.List.{get_or-map, length-map, map-id}
use Rattle.std.proofs.lemmas.List.Kept.{AllPairs-filter}
use Rattle.std.proofs.lemmas.Int.{ints}
use Rattle.sharing.specs.Amounts.{litres, megajoules}
use Rattle.sharing.specs.Cuts.{shared}
use Rattle.sharing.specs.Keys.{Key}
use Rattle.sharing.specs.Rounds.{Rule}
use Rattle.sharing.specs.Whole.{nearest}
use Rattle.sharing.proofs.Parts.{length_cut}
use Rattle.tariff.specs.Charges.{divisor}
use Rattle.tariff.specs.Uses.{charged, worth}
use Rattle.tariff.specs.declared.charge.Charge.{Charge}
use Rattle.tariff.specs.declared.charge.Charge.TheVariants.{Power, Fixed, Energy, Variable, Carrier}
use Rattle.tariff.specs.declared.charges.Use.{Use}
use Rattle.book.specs.Journal.{charge_of, heat_of, standing, water_of}
use Rattle.book.specs.World.{World, no_object}
use Rattle.book.specs.declared.records.Line.{Line}
use Rattle.book.specs.declared.records.Object.{Object}
use Rattle.clerk.specs.Postings.{behind, month_line, month_lines, month_uses, node_weights}
use Rattle.clerk.specs.declared.paper.Fixing.{Fixing}
use Rattle.agreement.specs.Facts.{Month, Share, share}
use Rattle.agreement.specs.Law.{all_stand, no_share, stands, uses_of}
use Rattle.agreement.proofs.Lists.{all_below, all_made_below, ascending, by_place, map_same, map-twice}
use Rattle.agreement.proofs.Standing.{MonthLine, of_it, own, standing-append, standing-none}

module _ (key : Key) (objects : List Object) (node : ℕ) where
  -- the shares of a node's objects, and the weights they have
  pub shares-weigh : map (λ s. s.weight) (map (share key objects) (behind node objects)) ≡ node_weights key node objects
  shares-weigh = map-twice (λ (s : Share). s.weight) (share key objects) (behind node objects) ∙ sym (map-twice _ _ (behind node objects))

  pub length-weights : length (node_weights key node objects) ≡ length (behind node objects)
  length-weights = length-map _ _ ∙ length-map (behind node objects) _

module _ (key : Key) (rule : Rule) (f : Fixing) (w : World) where
  abbrev numbers : List ℕ
  numbers = behind f.node w.objects

  abbrev ws : List ℕ
  ws = node_weights key f.node w.objects

  abbrev lines : List Line
  lines = month_lines key rule f w

  abbrev pub shares : List Share
  shares = map (share key w.objects) (behind f.node w.objects)

  abbrev pub heats : List ℕ
  heats = shared rule f.heat (node_weights key f.node w.objects)

  abbrev pub waters : List ℕ
  waters = shared rule f.water (node_weights key f.node w.objects)

  abbrev uses : List Use
  uses = month_uses rule f.heat f.water ws w.objects numbers

  shared_long : (total : ℕ) → length (shared rule total ws) ≡ length numbers
  shared_long total = length_cut (λ n. rule n (sum ws)) 0 (map (λ x. total * x) ws) ∙ length-map ws _ ∙ length-weights key w.objects f.node

  charged-long : (c : Charge) → length (charged c w.rows uses) ≡ length numbers
  charged-long c = length_cut (λ n. nearest n (divisor c)) 0 (worth c w.rows uses) ∙ length-map uses _ ∙ length-map-range_with_len _ 0 (length numbers)

  -- what the lines say, field by field
  pub line_objects : map (λ l. l.object) lines ≡ numbers
  line_objects = map-twice (λ (l : Line). l.object) _ (range_with_len 0 (length numbers)) ∙ by_place (λ i. i) numbers 0 (length numbers) refl ∙ map-id numbers

  pub line_heats : map heat_of lines ≡ map pos heats
  line_heats = map-twice heat_of _ (range_with_len 0 (length numbers)) ∙ by_place pos heats 0 (length numbers) (shared_long f.heat)

  pub line_waters : map water_of lines ≡ map pos waters
  line_waters = map-twice water_of _ (range_with_len 0 (length numbers)) ∙ by_place pos waters 0 (length numbers) (shared_long f.water)

  charge_in : (c : Charge) (i : ℕ) → charge_of c (month_line rule f ws numbers w i) ≡ pos (get_or (charged c w.rows uses) i 0)
  charge_in Power i = refl
  charge_in Fixed i = refl
  charge_in Energy i = refl
  charge_in Variable i = refl
  charge_in Carrier i = refl

  line_charges-of : (c : Charge) → map (charge_of c) lines ≡ map pos (charged c w.rows uses)
  line_charges-of c =
      map-twice (charge_of c) _ (range_with_len 0 (length numbers))
      ∙ map_same _ _ (range_with_len 0 (length numbers)) (λ k d low. charge_in c (get_or (range_with_len 0 (length numbers)) k d))
      ∙ by_place pos (charged c w.rows uses) 0 (length numbers) (charged-long c)

  -- what the objects are charged for is what their shares have
  uses_are : uses ≡ uses_of shares heats waters
  uses_are =
      map_same _ _ (range_with_len 0 (length numbers))
      (λ k d low.
      let i = get_or (range_with_len 0 (length numbers)) k d in
      let at = get_or-map (share key w.objects) numbers i 0 no_share (all_below (length numbers) k d low) in
      ap (λ (s : Share). record { kw = s.kw; heat = megajoules (get_or heats i 0); water = litres (get_or waters i 0); row = s.row }) (sym at))
      ∙ ap (λ n. map (λ i. record { kw = (get_or shares i no_share).kw; heat = megajoules (get_or heats i 0); water = litres (get_or waters i 0); row = (get_or shares i no_share).row }) (range_with_len 0 n)) (sym (length-map numbers (share key w.objects)))

  pub line_charges : (c : Charge) → map (charge_of c) lines ≡ map pos (charged c w.rows (uses_of shares heats waters))
  line_charges c = line_charges-of c ∙ ap (λ us. map pos (charged c w.rows us)) uses_are

  pub are_month-lines : All (MonthLine f.node f.month) lines
  are_month-lines = all_made_below (MonthLine f.node f.month) _ (length numbers) (λ i within. record { kind = refl; node = refl; month = refl })

  apart : AllPairs (λ i j. i < j) (map (λ l. l.object) lines)
  apart = rw line_objects (AllPairs-filter (λ i j. i < j) _ _ (ascending (length w.objects)))

  -- each line carries its object's recipient, and nothing under other
  pub line_recipients : All (λ l. (l.recipient ≡ (get_or w.objects l.object no_object).recipient) × (l.amounts.other ≡ pos 0)) lines
  line_recipients = all_made_below (λ l. (l.recipient ≡ (get_or w.objects l.object no_object).recipient) × (l.amounts.other ≡ pos 0)) _ (length numbers) (λ i within. (refl, refl))

  module _ (before : List Line) (new : (o : ℕ) → All (λ l. of_it f.node f.month o l ≡ false) before) where
    -- to each object just its line stands, where the month is new to the journal
    pub line_stands : All (λ l. (g : Line → ℤ) → standing g f.node f.month l.object (before ++ lines) ≡ g l) lines
    line_stands k d low g =
        let o = (get_or lines k d).object in
        let both = standing-append g f.node f.month o before lines in
        let none = standing-none g f.node f.month o before (new o) in
        let here = own f.node f.month lines are_month-lines apart k d low g in
        omega (arith, ints)

    pub all_stand-new : (g : Line → ℤ) (x : Month) → x.node ≡ f.node → x.month ≡ f.month → x.shares ≡ shares → all_stand g (before ++ lines) x ≡ map g lines
    all_stand-new g x node month same =
        ap (λ ss. map (stands g (before ++ lines) x) ss) same
        ∙ map-twice _ _ numbers
        ∙ ap (λ n. map (λ i. standing g n x.month i (before ++ lines)) numbers) node
        ∙ ap (λ m. map (λ i. standing g f.node m i (before ++ lines)) numbers) month
        ∙ ap (map (λ i. standing g f.node f.month i (before ++ lines))) (sym line_objects)
        ∙ map-twice _ _ lines
        ∙ map_same _ _ lines (λ k d low. line_stands k d low g)
