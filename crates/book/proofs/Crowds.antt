-- Objects counted node by node.
use Rattle.std.proofs.Common.{◌≡◌, ℕ, Bool, ◌+◌, ◌<◌, ◌≤◌, true, false, cond, eqb, ltb, leb, List, [], ◌∷◌, ◌++◌, length, get_or, take, set, replicate, sym, ap, ◌∙◌, subst, arith}
use Rattle.std.specs.List.{list_all, AllByRecursion}
use Rattle.std.proofs.ByRecursion.{All-get_or, All-push, All-set, All-weaker}
use Rattle.std.proofs.lemmas.List.Folds.{list_all_at}
use Rattle.std.proofs.lemmas.List.{get_or-replicate, get_or-set_other, length-set, take_all}
use Rattle.std.proofs.lemmas.List.Sums.{sum_by_more, sum_by_more_le, sum_by_push, sum_by-set}
use Rattle.std.proofs.lemmas.Bool.{ltb-true}
use Rattle.std.proofs.lemmas.Bool.Decides.{nat_tests}
use Rattle.std.proofs.lemmas.Grind.{get_or-set_at}
use Rattle.sharing.specs.Limits.{most_objects}
use Rattle.sharing.proofs.Passing.{pass_at, pass_from_each}
use Rattle.book.specs.Limits.{most_nodes}
use Rattle.book.specs.Records.{Object}
use Rattle.book.specs.Sound.{crowd}
use Rattle.book.specs.World.{no_object}

-- no node has too many objects
abbrev pub uncrowded : List Object → Bool
uncrowded objects = list_all (λ o. leb (crowd o.node objects) most_objects) objects

-- an object's node, where all nodes are few
pub node_low : (objects : List Object) (i : ℕ) → i < length objects → list_all (λ o. ltb o.node most_nodes) objects ≡ true → (get_or objects i no_object).node < most_nodes
node_low objects i within known = ltb-true _ _ (pass_at (λ o. ltb o.node most_nodes) objects i no_object within known)

-- the first i objects are counted, and no node has too many of them
abbrev pub Counted : List ℕ → List Object → ℕ → Type 0
Counted counts objects i =
    (length counts ≡ most_nodes) × ((n : ℕ) → n < most_nodes → (get_or counts n 0 ≡ crowd n (take i objects)) × (get_or counts n 0 ≤ most_objects))

pub counted_none : (n : ℕ) → n < most_nodes → (◌≡◌ {A = ℕ} (get_or (replicate most_nodes 0) n 0) 0) × (get_or (replicate most_nodes 0) n 0 ≤ most_objects)
counted_none n low = let none = get_or-replicate most_nodes n 0 0 low in (none, omega (arith, none))

module _ (counts : List ℕ) (objects : List Object) (i : ℕ) (known : list_all (λ o. ltb o.node most_nodes) objects ≡ true) (so_far : Counted counts objects i) where
  -- one object more at its node
  pub counted_more : i < length objects → get_or counts (get_or objects i no_object).node 0 < most_objects
      → Counted (set counts (get_or objects i no_object).node (get_or counts (get_or objects i no_object).node 0 + 1)) objects (i + 1)
  counted_more within room = (
    length-set counts (get_or objects i no_object).node (get_or counts (get_or objects i no_object).node 0 + 1) ∙ so_far.0,
    λ n n_low.
        let more = sum_by_more (λ o. cond {A = ℕ} (eqb o.node n) 1 0) objects i no_object within in
        let before = so_far.1 n n_low in
        let here = so_far.1 (get_or objects i no_object).node (node_low objects i within known) in
        grind (arith, nat_tests, get_or-set_at, get_or-set_other),
  )

  -- a full node gets no more
  pub crowded : i < length objects → most_objects ≤ get_or counts (get_or objects i no_object).node 0 → uncrowded objects ≡ false
  crowded within full =
      let node = (get_or objects i no_object).node in
      let more = sum_by_more_le (λ o. cond {A = ℕ} (eqb o.node node) 1 0) objects i no_object within in
      let here = so_far.1 node (node_low objects i within known) in
      let over : leb (crowd node objects) most_objects ≡ false = grind (arith, nat_tests) in
      list_all_at (λ o. leb (crowd o.node objects) most_objects) objects i no_object within over

  -- all are counted, and no node has too many
  pub not_crowded : length objects ≤ i → uncrowded objects ≡ true
  not_crowded past =
      pass_from_each (λ o. leb (crowd o.node objects) most_objects) no_object objects
      (λ k within.
      let node = (get_or objects k no_object).node in
      let told = so_far.1 node (node_low objects k within known) in
      let whole : crowd node (take i objects) ≡ crowd node objects = ap (crowd node) (take_all i objects past) in
      grind (arith, nat_tests))

-- one object more behind its node
module _ (objects : List Object) (o : Object) (room : crowd o.node objects < most_objects) where
  still_room : (n : ℕ) → crowd n objects ≤ most_objects → crowd n (objects ++ o ∷ []) ≤ most_objects
  still_room n few =
      let more = sum_by_push (λ x. cond {A = ℕ} (eqb x.node n) 1 0) objects o in
      let here : o.node ≡ n → crowd o.node objects ≡ crowd n objects = λ same. ap (λ k. crowd k objects) same in
      grind (arith, nat_tests)

  -- no node has too many, where the one that the object comes to had room
  pub crowds_push : AllByRecursion (λ x. crowd x.node objects ≤ most_objects) objects → AllByRecursion (λ x. crowd x.node (objects ++ o ∷ []) ≤ most_objects) (objects ++ o ∷ [])
  crowds_push few = All-push _ objects o (All-weaker _ _ (λ x h. still_room x.node h) objects few) (still_room o.node (omega arith))

-- an object that stays behind its node
crowd-set : (n : ℕ) (objects : List Object) (i : ℕ) (o : Object) → i < length objects → o.node ≡ (get_or objects i no_object).node → crowd n (set objects i o) ≡ crowd n objects
crowd-set n objects i o within same = let counted = sum_by-set (λ (x : Object). cond {A = ℕ} (eqb x.node n) 1 0) objects i o no_object within in grind (arith, nat_tests)

pub crowds_set : (objects : List Object) (i : ℕ) (o : Object) → i < length objects → o.node ≡ (get_or objects i no_object).node
    → AllByRecursion (λ x. crowd x.node objects ≤ most_objects) objects → AllByRecursion (λ x. crowd x.node (set objects i o) ≤ most_objects) (set objects i o)
crowds_set objects i o within same few =
    let stays : (n : ℕ) → crowd n objects ≤ most_objects → crowd n (set objects i o) ≤ most_objects = λ n h. let e = crowd-set n objects i o within same in omega arith in
    All-set _ objects i o (stays o.node (subst (λ n. crowd n objects ≤ most_objects) (sym same) (All-get_or _ objects i no_object within few)))
    (All-weaker _ _ (λ x h. stays x.node h) objects few)
