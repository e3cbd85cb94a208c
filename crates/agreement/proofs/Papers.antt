-- The papers of a list agree with the history, and a fixed one with its node for as long as it may be posted.
use Rattle.std.proofs.Common.{◌≡◌, ℕ, ◌+◌, ◌<◌, ◌≤◌, ◌⊎◌, List, [], ◌∷◌, ◌++◌, length, get_or, set, is_some, sym, refl, ◌∙◌, inr, arith}
use Rattle.std.proofs.lemmas.List.{places, get_or_past, length_push, length-set, set-get_or}
use Rattle.sharing.specs.Limits.{most_quantity}
use Rattle.book.specs.Meters.{works}
use Rattle.book.specs.World.{new_node}
use Rattle.book.specs.declared.records.Node.{Node}
use Rattle.clerk.specs.Fixings.{rise_to}
use Rattle.clerk.specs.declared.paper.Fixing.{Fixing}
use Rattle.clerk.specs.declared.paper.OpenedPaper.{OpenedPaper}
use Rattle.agreement.specs.Facts.{Slip, blank}
use Rattle.agreement.specs.Runs.{Paper, blank_paper, fixed_paper, posted_paper}
use Rattle.agreement.proofs.Places.{push_both, set_both, set_cases}

-- the node with a number in a list
abbrev pub node_in : List Node → ℕ → Node
node_in ns n = get_or ns n (new_node 0 0)

-- the heat on a paper is that of the node as it is
pub record Current (f : Fixing) (n : Node) : Type 0 where
  pub heat : f.heat ≡ n.carried + rise_to n f.closing + f.estimate
  pub closing : is_some f.closing ≡ works n.meter

-- a fixed paper is of an earlier month, or of fewer events, or current
abbrev pub Dated : Fixing → Node → Type 0
Dated f n = (f.month < n.month) ⊎ (((f.month ≡ n.month) × (f.events < n.events)) ⊎ ((f.month ≡ n.month) × (f.events ≡ n.events) × Current f n))

-- a fixed paper says what the history has
pub record Written (ns : List Node) (f : Fixing) (s : Slip) : Type 0 where
  pub node : f.node ≡ s.node
  pub heat : f.heat ≡ s.heat
  pub water : f.water ≡ s.water
  pub estimate : f.estimate ≡ s.estimate
  pub closing : f.closing ≡ s.closing
  pub used : f.node < length ns
  pub heat-low : f.heat ≤ most_quantity
  pub water-low : f.water ≤ most_quantity
  pub dated : Dated f (node_in ns f.node)

-- a paper agrees with the history
abbrev pub PaperFits : List Node → Paper → Slip → Type 0
PaperFits ns (blank_paper p) s = p.node ≡ s.node
PaperFits ns (fixed_paper f) s = Written ns f s
PaperFits ns posted_paper s = Unit {0}

-- all do
pub record PapersFit (ns : List Node) (ps : List Paper) (ss : List Slip) : Type 0 where
  pub count : length ps ≡ length ss
  pub each : (i : ℕ) → PaperFits ns (get_or ps i posted_paper) (get_or ss i (blank 0))

-- a number under which a paper is that is not used up
pub paper_among : (ps : List Paper) (i : ℕ) → (get_or ps i posted_paper ≡ posted_paper → ⊥) → i < length ps
paper_among ps i other = grind (arith, get_or_past {X = Paper})

-- the nodes may change so that no paper becomes current again
abbrev pub Moves : Node → Node → Type 0
Moves n n' = (n.month < n'.month) ⊎ (((n.month ≡ n'.month) × (n.events < n'.events)) ⊎ (n ≡ n'))

dated_moves : (f : Fixing) (n n' : Node) → Moves n n' → Dated f n → Dated f n'
dated_moves f n n' moved dated = grind arith

module _ (ns ns' : List Node) (long : length ns ≤ length ns') (moves : (n : ℕ) → n < length ns → Moves (node_in ns n) (node_in ns' n)) where
  paper_moves : (p : Paper) (s : Slip) → PaperFits ns p s → PaperFits ns' p s
  paper_moves (blank_paper p) s fits = fits
  paper_moves (fixed_paper f) s fits = record {
    node = fits.node;
    heat = fits.heat;
    water = fits.water;
    estimate = fits.estimate;
    closing = fits.closing;
    used = omega (arith, fits.used);
    heat-low = fits.heat-low;
    water-low = fits.water-low;
    dated = dated_moves f _ _ (moves f.node fits.used) fits.dated;
  }
  paper_moves posted_paper s fits = tt

  -- papers fit the nodes after them
  pub papers-move : (ps : List Paper) (ss : List Slip) → PapersFit ns ps ss → PapersFit ns' ps ss
  papers-move ps ss fit = record { count = fit.count; each = λ i. paper_moves _ _ (fit.each i) }

-- one node more
pub moves_push : (ns : List Node) (new : Node) (n : ℕ) → n < length ns → Moves (node_in ns n) (node_in (ns ++ new ∷ []) n)
moves_push ns new n within = grind (arith, places)

-- one node changed
pub moves_set : (ns : List Node) (k : ℕ) (new : Node) → k < length ns → Moves (node_in ns k) new → (n : ℕ) → n < length ns → Moves (node_in ns n) (node_in (set ns k new) n)
moves_set ns k new within moved n low = set_cases (new_node 0 0) ns new (λ n x. Moves (node_in ns n) x) k within moved (λ n other. inr (inr refl)) n

module _ (ns : List Node) (ps : List Paper) (ss : List Slip) (fit : PapersFit ns ps ss) where
  -- one paper more
  pub papers-push : (p : OpenedPaper) (n : ℕ) → p.node ≡ n → PapersFit ns (ps ++ blank_paper p ∷ []) (ss ++ blank n ∷ [])
  papers-push p n same = record {
    count = omega (arith, length_push ps (blank_paper p), length_push ss (blank n), fit.count);
    each = push_both posted_paper (blank 0) ps ss fit.count (blank_paper p) (blank n) (PaperFits ns) same fit.each;
  }

  -- one paper changed, and its slip
  pub papers-set : (k : ℕ) (p : Paper) (s : Slip) → k < length ps → PaperFits ns p s → PapersFit ns (set ps k p) (set ss k s)
  papers-set k p s within fits = record {
    count = length-set ps k p ∙ fit.count ∙ sym (length-set ss k s);
    each = set_both posted_paper (blank 0) ps ss fit.count p s (PaperFits ns) fits fit.each k within;
  }

  -- a paper used up
  pub papers-spent : (k : ℕ) → k < length ps → PapersFit ns (set ps k posted_paper) ss
  papers-spent k within = rw (set-get_or ss k (blank 0)) at (papers-set k posted_paper (get_or ss k (blank 0)) within tt)
