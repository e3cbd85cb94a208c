-- Nodes agree with the history: their next months, and the registers of working meters.
use Rattle.std.proofs.Common.{◌≡◌, ℕ, ◌<◌, true, List, [], ◌∷◌, ◌++◌, length, get_or, set, sym, refl, ◌∙◌, arith}
use Rattle.std.proofs.lemmas.List.{length_push, length-set, set-get_or}
use Rattle.book.specs.Meters.{works}
use Rattle.book.specs.World.{new_node}
use Rattle.book.specs.declared.records.Node.{Node}
use Rattle.agreement.specs.Facts.{Named, nowhere}
use Rattle.agreement.proofs.Papers.{node_in}
use Rattle.agreement.proofs.Places.{push_both, set_both}

-- one node
pub record NodeFits (n : Node) (m : Named) : Type 0 where
  pub month : n.month ≡ m.month
  pub register : works n.meter ≡ true → n.register ≡ m.register

-- all of them
pub record NodesFit (ns : List Node) (ms : List Named) : Type 0 where
  pub count : length ns ≡ length ms
  pub each : (n : ℕ) → NodeFits (node_in ns n) (get_or ms n nowhere)

module _ (ns : List Node) (ms : List Named) (fit : NodesFit ns ms) where
  pub nodes-push : (month register : ℕ) → NodesFit (ns ++ new_node month register ∷ []) (ms ++ record { month = month; register = register } ∷ [])
  nodes-push month register = record {
    count = omega (arith, length_push ns (new_node month register), length_push ms (record { month = month; register = register }), fit.count);
    each = push_both (new_node 0 0) nowhere ns ms fit.count (new_node month register) (record { month = month; register = register }) NodeFits (record { month = refl; register = λ _. refl }) fit.each;
  }

  pub nodes-set : (k : ℕ) (new : Node) (m : Named) → k < length ns → NodeFits new m → NodesFit (set ns k new) (set ms k m)
  nodes-set k new m within fits = record {
    count = length-set ns k new ∙ fit.count ∙ sym (length-set ms k m);
    each = set_both (new_node 0 0) nowhere ns ms fit.count new m NodeFits fits fit.each k within;
  }

  -- a node that changes without a word of the history
  pub nodes-keep : (k : ℕ) (new : Node) → k < length ns → NodeFits new (get_or ms k nowhere) → NodesFit (set ns k new) ms
  nodes-keep k new within fits = rw (set-get_or ms k nowhere) at (nodes-set k new (get_or ms k nowhere) within fits)
