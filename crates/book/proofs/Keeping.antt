-- Every call keeps the tables sound.
use Rattle.std.proofs.Common.{◌≡◌, ℕ, ◌<◌, ◌≤◌, true, false, List, [], ◌∷◌, ◌++◌, length, None, refl, arith, rules}
use Rattle.std.specs.List.{AllByRecursion}
use Rattle.std.proofs.ByRecursion.{All-get_or, All-push, All-set, All-weaker}
use Rattle.std.proofs.lemmas.List.{length_push, length-set}
use Rattle.std.proofs.lemmas.Bool.Decides.{nat_tests}
use Rattle.sharing.specs.Limits.{most_objects}
use Rattle.sharing.specs.Refusals.{refusal}
use Rattle.sharing.proofs.Picked.{no_refusal, none_hold}
use Rattle.tariff.specs.Rows.{rows_good}
use Rattle.tariff.specs.declared.row.Row.{Row}
use Rattle.tariff.proofs.Prices.{good_entered}
use Rattle.book.specs.Limits.{most_register}
use Rattle.book.specs.Meters.{meter_entry, node_after, event_why}
use Rattle.book.specs.Office.{changed, change_entry, node_entry, object_entry, recipient_entry, row_entry}
use Rattle.book.specs.Records.{Line, MeterEvent, Fault, Repair, Node, Object, Recipient}
use Rattle.book.specs.Sound.{crowd, line_good, node_good, object_good, recipient_good}
use Rattle.book.specs.World.{InUse, World, allowed, full, in_use, new_node, new_recipient, no_object, node_at, object_at, with_nodes, with_objects, with_recipients, with_rows}
use Rattle.book.proofs.Crowds.{crowds_push, crowds_set}
use Rattle.book.proofs.Soundness.{Sound}

-- more items are in use
pub record Grows (u u' : InUse) : Type 0 where
  pub rows : u.rows ≤ u'.rows
  pub recipients : u.recipients ≤ u'.recipients
  pub nodes : u.nodes ≤ u'.nodes
  pub objects : u.objects ≤ u'.objects

module _ (u u' : InUse) (more : Grows u u') where
  object-stays : (o : Object) → object_good u o ≡ true → object_good u' o ≡ true
  object-stays o good = grind (arith, nat_tests)

  line_stays : (l : Line) → line_good u l ≡ true → line_good u' l ≡ true
  line_stays l good = grind (arith, nat_tests)

  pub objects-stay : (xs : List Object) → AllByRecursion (λ o. object_good u o ≡ true) xs → AllByRecursion (λ o. object_good u' o ≡ true) xs
  objects-stay xs good = All-weaker _ _ object-stays xs good

  pub lines_stay : (xs : List Line) → AllByRecursion (λ l. line_good u l ≡ true) xs → AllByRecursion (λ l. line_good u' l ≡ true) xs
  lines_stay xs good = All-weaker _ _ line_stays xs good

-- tables with other items in one of them
module _ (w : World) (s : Sound w) where
  pub sound-with_rows : (xs : List Row) → length xs ≤ (allowed w.places).rows → length w.rows ≤ length xs → rows_good xs ≡ true → Sound (with_rows w xs)
  sound-with_rows xs few more good =
      let grows : Grows (in_use w) (in_use (with_rows w xs)) = search rules in
      let objects = objects-stay _ _ grows w.objects s.objects in
      let lines = lines_stay _ _ grows w.lines s.lines in
      search rules

  pub sound-with_recipients : (xs : List Recipient) → length xs ≤ (allowed w.places).recipients → length w.recipients ≤ length xs
      → AllByRecursion (λ r. recipient_good r ≡ true) xs → Sound (with_recipients w xs)
  sound-with_recipients xs few more good =
      let grows : Grows (in_use w) (in_use (with_recipients w xs)) = search rules in
      let objects = objects-stay _ _ grows w.objects s.objects in
      let lines = lines_stay _ _ grows w.lines s.lines in
      search rules

  pub sound-with_nodes : (xs : List Node) → length xs ≤ (allowed w.places).nodes → length w.nodes ≤ length xs
      → AllByRecursion (λ n. node_good n ≡ true) xs → Sound (with_nodes w xs)
  sound-with_nodes xs few more good =
      let grows : Grows (in_use w) (in_use (with_nodes w xs)) = search rules in
      let objects = objects-stay _ _ grows w.objects s.objects in
      let lines = lines_stay _ _ grows w.lines s.lines in
      search rules

  pub sound-with_objects : (xs : List Object) → length xs ≤ (allowed w.places).objects → length w.objects ≤ length xs
      → AllByRecursion (λ o. object_good (in_use w) o ≡ true) xs → AllByRecursion (λ o. crowd o.node xs ≤ most_objects) xs → Sound (with_objects w xs)
  sound-with_objects xs few more good crowds =
      let grows : Grows (in_use w) (in_use (with_objects w xs)) = search rules in
      let objects = objects-stay _ _ grows xs good in
      let lines = lines_stay _ _ grows w.lines s.lines in
      search rules

-- one item more, where the table is not full
pushed : {A : Type 0} (places : ℕ) (xs : List A) (x : A) → full places xs ≡ false → (length (xs ++ x ∷ []) ≤ places) × (length xs ≤ length (xs ++ x ∷ []))
pushed places xs x free = let one = length_push xs x in grind (arith, nat_tests)

-- a node after a fault or a repair
after-good : (event : MeterEvent) (n : Node) (r : ℕ) → r ≤ most_register → AllByRecursion (λ p. p.0 ≡ false) (event_why event n r) → node_good n ≡ true → node_good (node_after event n r) ≡ true
after-good Fault n r low none good = grind (arith, nat_tests)
after-good Repair n r low none good = grind (arith, nat_tests)

module _ (w : World) where
  pub keeps_row : (r : Row) → refusal (row_entry r w).why ≡ None → Sound w → Sound (row_entry r w).after
  keeps_row r granted s =
      let none = none_hold (row_entry r w).why granted in
      let fits = pushed _ w.rows r none.0 in
      sound-with_rows w s _ fits.0 fits.1 (good_entered w.rows r s.rows (no_refusal _ none.1))

  pub keeps_recipient : refusal (recipient_entry w).why ≡ None → Sound w → Sound (recipient_entry w).after
  keeps_recipient granted s =
      let fits = pushed _ w.recipients new_recipient (none_hold (recipient_entry w).why granted).0 in
      sound-with_recipients w s _ fits.0 fits.1 (All-push _ w.recipients new_recipient s.recipients refl)

  pub keeps_node : (month register : ℕ) → refusal (node_entry month register w).why ≡ None → Sound w → Sound (node_entry month register w).after
  keeps_node month register granted s =
      let none = none_hold (node_entry month register w).why granted in
      let fits = pushed _ w.nodes (new_node month register) none.0 in
      let good : node_good (new_node month register) ≡ true = grind (arith, nat_tests) in
      sound-with_nodes w s _ fits.0 fits.1 (All-push _ w.nodes (new_node month register) s.nodes good)

  pub keeps_object : (o : Object) → refusal (object_entry o w).why ≡ None → Sound w → Sound (object_entry o w).after
  keeps_object o granted s =
      let none = none_hold (object_entry o w).why granted in
      let fits = pushed _ w.objects o none.0 in
      let good : object_good (in_use w) o ≡ true = grind (arith, nat_tests) in
      let room : crowd o.node w.objects < most_objects = grind (arith, nat_tests) in
      sound-with_objects w s _ fits.0 fits.1 (All-push _ w.objects o s.objects good) (crowds_push w.objects o room s.crowds)

  pub keeps_change : (object row power area : ℕ) → refusal (change_entry object row power area w).why ≡ None → Sound w → Sound (change_entry object row power area w).after
  keeps_change object row power area granted s =
      let none = none_hold (change_entry object row power area w).why granted in
      let old = object_at object w in
      let new = changed old row power area in
      let within : object < length w.objects = grind (arith, nat_tests) in
      let was = All-get_or _ w.objects object no_object within s.objects in
      let good : object_good (in_use w) new ≡ true = grind (arith, nat_tests) in
      let same = length-set w.objects object new in
      let fit = s.objects-fit in
      sound-with_objects w s _ (omega arith) (omega arith) (All-set _ w.objects object new good s.objects) (crowds_set w.objects object new within refl s.crowds)

  pub keeps_event : (event : MeterEvent) (node register : ℕ) → refusal (meter_entry event node register w).why ≡ None → Sound w → Sound (meter_entry event node register w).after
  keeps_event event node register granted s =
      let none = none_hold (meter_entry event node register w).why granted in
      let old = node_at node w in
      let new = node_after event old register in
      let within : node < length w.nodes = grind (arith, nat_tests) in
      let was = All-get_or _ w.nodes node (new_node 0 0) within s.nodes in
      let low : register ≤ most_register = grind (arith, nat_tests) in
      let same = length-set w.nodes node new in
      let fit = s.nodes-fit in
      sound-with_nodes w s _ (omega arith) (omega arith) (All-set _ w.nodes node new (after-good event old register low none.1.1 was) s.nodes)
