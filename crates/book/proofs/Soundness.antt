-- Soundness by its parts.
use Rattle.std.proofs.Common.{◌≡◌, ◌≤◌, true, ◌&&◌, leb, ltb, length, None, Ok, Err, Result, sym, refl, ap, ◌∙◌, arith}
use Rattle.std.specs.List.{list_all, AllByRecursion}
use Rattle.std.proofs.ByRecursion.{All-weaker}
use Rattle.std.proofs.lemmas.Bool.{le-leb, leb-true}
use Rattle.std.proofs.lemmas.Bool.Decides.{nat_tests}
use Rattle.sharing.specs.Limits.{most_objects}
use Rattle.sharing.specs.Refusals.{refusal}
use Rattle.sharing.specs.declared.refusal.Refusal.{Refusal}
use Rattle.sharing.proofs.Passing.{all_from_pass, pass_from_all}
use Rattle.tariff.specs.Rows.{rows_good}
use Rattle.book.specs.Calls.{Accepted, Call, Outcome}
use Rattle.book.specs.Limits.{most_nodes}
use Rattle.book.specs.Records.{Object}
use Rattle.book.specs.Sound.{counts_good, crowd, line_good, node_good, object_good, recipient_good, records_good, sound}
use Rattle.book.specs.World.{Places, Store, World, allowed, empty, in_use}
use Rattle.book.proofs.Crowds.{uncrowded}

-- what `sound` tests, one after the other
pub sound-is : (w : World) → (counts_good w && rows_good w.rows && records_good w && uncrowded w.objects) ≡ sound w
unfolding sound
sound-is w = refl

-- the nodes of good counts are few, and objects name those in use
pub nodes-low : (w : World) → counts_good w ≡ true → records_good w ≡ true → list_all (λ o. ltb o.node most_nodes) w.objects ≡ true
nodes-low w counts records =
    let objects : list_all (object_good (in_use w)) w.objects ≡ true = grind (arith, nat_tests) in
    let few : length w.nodes ≤ most_nodes = grind (arith, nat_tests) in
    let low : (o : Object) → object_good (in_use w) o ≡ true → ltb o.node most_nodes ≡ true = λ o good. grind (arith, nat_tests) in
    pass_from_all (λ o. ltb o.node most_nodes) w.objects (all_from_pass (object_good (in_use w)) (λ o. ltb o.node most_nodes ≡ true) low w.objects objects)

-- sound tables, part by part
pub record Sound (w : World) : Type 0 where
  pub rows_fit : length w.rows ≤ (allowed w.places).rows
  pub recipients-fit : length w.recipients ≤ (allowed w.places).recipients
  pub nodes-fit : length w.nodes ≤ (allowed w.places).nodes
  pub objects-fit : length w.objects ≤ (allowed w.places).objects
  pub lines_fit : length w.lines ≤ (allowed w.places).lines
  pub rows : rows_good w.rows ≡ true
  pub recipients : AllByRecursion (λ r. recipient_good r ≡ true) w.recipients
  pub nodes : AllByRecursion (λ n. node_good n ≡ true) w.nodes
  pub objects : AllByRecursion (λ o. object_good (in_use w) o ≡ true) w.objects
  pub lines : AllByRecursion (λ l. line_good (in_use w) l ≡ true) w.lines
  pub crowds : AllByRecursion (λ o. crowd o.node w.objects ≤ most_objects) w.objects

-- the test says all of it
pub parts : (w : World) → sound w ≡ true → Sound w
parts w s =
    let all = sound-is w ∙ s in
    let recipients : list_all recipient_good w.recipients ≡ true = grind (arith, nat_tests) in
    let nodes : list_all node_good w.nodes ≡ true = grind (arith, nat_tests) in
    let objects : list_all (object_good (in_use w)) w.objects ≡ true = grind (arith, nat_tests) in
    let lines : list_all (line_good (in_use w)) w.lines ≡ true = grind (arith, nat_tests) in
    let crowds : uncrowded w.objects ≡ true = grind (arith, nat_tests) in
    record {
      rows_fit = grind (arith, nat_tests);
      recipients-fit = grind (arith, nat_tests);
      nodes-fit = grind (arith, nat_tests);
      objects-fit = grind (arith, nat_tests);
      lines_fit = grind (arith, nat_tests);
      rows = grind (arith, nat_tests);
      recipients = all_from_pass recipient_good _ (λ r e. e) w.recipients recipients;
      nodes = all_from_pass node_good _ (λ n e. e) w.nodes nodes;
      objects = all_from_pass (object_good (in_use w)) _ (λ o e. e) w.objects objects;
      lines = all_from_pass (line_good (in_use w)) _ (λ l e. e) w.lines lines;
      crowds = all_from_pass (λ o. leb (crowd o.node w.objects) most_objects) _ (λ o e. leb-true _ _ e) w.objects crowds;
    }

-- and says no more
pub whole : (w : World) → Sound w → sound w ≡ true
whole w s =
    let recipients = pass_from_all recipient_good w.recipients s.recipients in
    let nodes = pass_from_all node_good w.nodes s.nodes in
    let objects = pass_from_all (object_good (in_use w)) w.objects s.objects in
    let lines = pass_from_all (line_good (in_use w)) w.lines s.lines in
    let crowds : uncrowded w.objects ≡ true = pass_from_all _ w.objects (All-weaker _ _ (λ o few. le-leb _ _ few) w.objects s.crowds) in
    sym (sound-is w) ∙ grind (arith, nat_tests)

-- a new book is sound
pub sound_empty : (p : Places) → sound (empty p) ≡ true
unfolding sound
sound_empty p = grind (arith, nat_tests)

-- what is left after a call is sound, where what it would leave if accepted is
pub accepted_sound : {A : Type 0} (call : World → Call A) (s s' : Store) (x : A) → Accepted (call s.world) s s' x → sound s.world ≡ true
    → (refusal (call s.world).why ≡ None → Sound s.world → Sound (call s.world).after) → sound s'.world ≡ true
accepted_sound call s s' x o good keeps = ap sound o.left ∙ whole _ (keeps o.granted (parts _ good))

pub outcome_sound : {A : Type 0} (call : World → Call A) (s s' : Store) (r : Result A Refusal) → Outcome call s s' r → sound s.world ≡ true
    → (refusal (call s.world).why ≡ None → Sound s.world → Sound (call s.world).after) → sound s'.world ≡ true
outcome_sound call s s' (Ok x) o good keeps = accepted_sound call s s' x o good keeps
outcome_sound call s s' (Err f) o good keeps = ap sound o.unchanged ∙ good
