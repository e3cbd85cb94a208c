-- The shape of every call: why it is refused, and what it answers and leaves otherwise.
use Rattle.std.specs.Prelude.{vec_items, vec_capacity, Vec, MatchResult, ◌≡◌, ◌⊎◌, Bool, false, ◌&&◌, List, [], ◌∷◌, ◌++◌, ℕ, ◌≤◌, ◌<◌, leb, length, Some, None, Result, Ok, Err}
use Rattle.sharing.specs.Refusals.{refusal}
use Rattle.sharing.specs.declared.refusal.Refusal.{Refusal}
use Rattle.sharing.specs.declared.refusal.Refusal.TheVariants.{Memory}
use Rattle.book.specs.World.{Places, Store, World, allowed}

-- a call at a world: every condition to refuse it, in the order in which they are looked at, and what it answers and leaves where none holds
pub record Call (A : Type 0) : Type 0 where
  pub why : List (Bool × Refusal)
  pub answer : A
  pub after : World

-- the memory that the tables have takes what a world holds
abbrev pub takes : Places → World → Bool
takes room w =
    leb (length w.rows) room.rows
    && (leb (length w.recipients) room.recipients
    && (leb (length w.nodes) room.nodes
    && (leb (length w.objects) room.objects
    && leb (length w.lines) room.lines)))

-- no table gives memory back
pub record Keeps (room room' : Places) : Type 0 where
  pub rows : room.rows ≤ room'.rows
  pub recipients : room.recipients ≤ room'.recipients
  pub nodes : room.nodes ≤ room'.nodes
  pub objects : room.objects ≤ room'.objects
  pub lines : room.lines ≤ room'.lines

-- an accepted call answers and leaves what its definition says
pub record Accepted {A : Type 0} (k : Call A) (s s' : Store) (x : A) : Type 0 where
  pub granted : refusal k.why ≡ None
  pub answer : x ≡ k.answer
  pub left : s'.world ≡ k.after
  pub memory : Keeps s.room s'.room

-- a refused one leaves everything as it was
pub record Rejected (Reason : Refusal → Type 0) (s s' : Store) (f : Refusal) : Type 0 where
  pub reason : Reason f
  pub unchanged : s'.world ≡ s.world
  pub memory : Keeps s.room s'.room

-- the refusal is the one that the conditions pick
abbrev pub Picked : {A : Type 0} → Call A → Refusal → Type 0
Picked k f = refusal k.why ≡ Some f

-- or no condition holds, and the memory that the tables have does not take what the call would leave
abbrev pub Wanting : {A : Type 0} → Call A → Places → Refusal → Type 0
Wanting k room f = (refusal k.why ≡ None) × (f ≡ Memory) × (takes room k.after ≡ false)

-- a call that may want memory answers r at s, and leaves s'
abbrev pub Outcome : {A : Type 0} → (World → Call A) → Store → Store → Result A Refusal → Type 0
Outcome call s s' (Ok x) = Accepted (call s.world) s s' x
Outcome call s s' (Err f) = Rejected (λ f. Picked (call s.world) f ⊎ Wanting (call s.world) s.room f) s s' f

-- and one that never does
abbrev pub Sure : {A : Type 0} → (World → Call A) → Store → Store → Result A Refusal → Type 0
Sure call s s' (Ok x) = Accepted (call s.world) s s' x
Sure call s s' (Err f) = Rejected (Picked (call s.world)) s s' f

-- a table got one item more, whose number is answered, or wants memory for it
abbrev pub Added : {A Z : Type 0} → Vec A Z → A → Vec A Z → Result ℕ Refusal → Type 0
Added v x v' (Ok n) = (n ≡ length (vec_items v)) × (vec_items v' ≡ vec_items v ++ x ∷ []) × (vec_capacity v ≤ vec_capacity v')
Added v x v' (Err f) = (f ≡ Memory) × (vec_items v' ≡ vec_items v) × (vec_capacity v ≤ vec_capacity v') × (vec_capacity v < length (vec_items v ++ x ∷ []))

-- the tables have memory for every place that they may fill
pub record Ample (s : Store) : Type 0 where
  pub rows : (allowed s.world.places).rows ≤ s.room.rows
  pub recipients : (allowed s.world.places).recipients ≤ s.room.recipients
  pub nodes : (allowed s.world.places).nodes ≤ s.room.nodes
  pub objects : (allowed s.world.places).objects ≤ s.room.objects
  pub lines : (allowed s.world.places).lines ≤ s.room.lines

-- memory was got for every place, or there was not enough; what the tables hold stays
pub record Provided (s s' : Store) (r : Result (Unit {0}) Refusal) : Type 0 where
  pub unchanged : s'.world ≡ s.world
  pub memory : Keeps s.room s'.room
  pub cases : MatchResult r (λ _. Ample s') (λ f. (f ≡ Memory) × (Ample s → ⊥))
