-- The calls of a reading, and the lines of an import.
use Rattle.std.proofs.Common.{◌≡◌, ℕ, ◌+◌, ◌≤◌, ltb, List, ◌∷◌, ◌++◌, length, drop, Some, None, Ok, Err, Result, MatchResult, sym, refl, ap, ◌∙◌, subst, inl, arith}
use Rattle.std.specs.Result.{IsErrAnd}
use Rattle.std.proofs.lemmas.List.{length-drop}
use Rattle.std.proofs.lemmas.Bool.{and_from, le-leb, ltb-false, not_from_false, or_parts}
use Rattle.sharing.specs.Keys.{by_power}
use Rattle.sharing.specs.Limits.{most_quantity}
use Rattle.sharing.specs.Refusals.{refusal}
use Rattle.sharing.specs.Whole.{nearest}
use Rattle.sharing.specs.declared.refusal.Refusal.{Refusal}
use Rattle.sharing.proofs.Picked.{none_hold}
use Rattle.book.specs.Calls.{Outcome}
use Rattle.book.specs.Limits.{most_register}
use Rattle.book.specs.World.{Store, World}
use Rattle.book.proofs.Soundness.{Sound}
use Rattle.clerk.specs.Fixings.{fix_why, open_why, opened}
use Rattle.clerk.specs.Postings.{post_entry}
use Rattle.clerk.proofs.Chained.{refused_first, refused_later, refused_nowhere}
use Rattle.clerk.proofs.Posted.{keeps_post}
use Rattle.readings.specs.Faults.{Book, ImportAnswer, ImportFault, LineFault, stopped}
use Rattle.readings.specs.Imports.{TakenLine, TakesLine, reading_entry, reading_fixing}
use Rattle.readings.specs.Texts.{Text, lines_from}
use Rattle.readings.specs.declared.reading.Reading.{Reading}
use Rattle.readings.proofs.Cutting.{lines-few}

-- a reading that is not refused is not refused by any of its calls
pub reading_granted : (r : Reading) (w : World) → refusal (reading_entry r w).why ≡ None
    → (refusal (fix_why (opened r.node w) r.water (Some r.closing) None w) ≡ None) × (refusal (post_entry by_power nearest (reading_fixing r w) w).why ≡ None)
reading_granted r w granted =
    let fixing = fix_why (opened r.node w) r.water (Some r.closing) None w in
    let posting = (post_entry by_power nearest (reading_fixing r w) w).why in
    refused_nowhere fixing posting (refused_nowhere (open_why r.node w) (fixing ++ posting) granted).1

pub keeps_reading : (r : Reading) (w : World) → refusal (reading_entry r w).why ≡ None → Sound w → Sound (reading_entry r w).after
keeps_reading r w granted s =
    let later = reading_granted r w granted in
    let none = none_hold (fix_why (opened r.node w) r.water (Some r.closing) None w) later.0 in
    let range = or_parts (ltb most_quantity r.water) _ none.1.0 in
    let closing = or_parts (ltb most_register r.closing) _ range.1 in
    keeps_post by_power nearest (reading_fixing r w) w
    (and_from _ _ (le-leb _ _ (ltb-false _ _ none.1.1.1.1.1.0)) (and_from _ _ (le-leb _ _ (ltb-false _ _ range.0)) (not_from_false _ closing.0)))
    later.1 s

-- a refused fixing refuses the reading, and alters nothing
pub fix_refused : (r : Reading) (s : Store) (f : Refusal) → refusal (open_why r.node s.world) ≡ None → refusal (fix_why (opened r.node s.world) r.water (Some r.closing) None s.world) ≡ Some f → Outcome (reading_entry r) s s (Err f)
fix_refused r s f none e =
    let opening = open_why r.node s.world in
    let fixing = fix_why (opened r.node s.world) r.water (Some r.closing) None s.world in
    let posting = (post_entry by_power nearest (reading_fixing r s.world) s.world).why in
    record {
      reason = inl (refused_later opening (fixing ++ posting) none ∙ refused_first fixing posting f e);
      unchanged = refl;
      memory = record { rows = omega arith; recipients = omega arith; nodes = omega arith; objects = omega arith; lines = omega arith };
    }

-- a line that was taken is followed by the rest
pub takes-ok : (k : ℕ) (l : Text) (later : Store → Type 0) (s next : Store) (a : ImportAnswer) (s' : Store) (x : Result Reading LineFault) → TakenLine l x s next (Ok tt) → later next → TakesLine k l later s a s' x
takes-ok k l later s next a s' (Ok r) o rest = (next, Ok tt, o, rest)
takes-ok k l later s next a s' (Err f) o rest = absurd o

-- one that was not ends the import
pub takes-err : (k : ℕ) (l : Text) (later : Store → Type 0) (s next : Store) (f : ImportFault) (x : Result Reading LineFault) → TakenLine l x s next (Err f) → TakesLine k l later s (stopped k (k + 2) f) next x
takes-err k l later s next f (Ok r) o = (next, Err o.0, o.2, (ap (stopped k (k + 2)) o.1, refl))
takes-err k l later s next f (Err g) o = (ap (stopped k (k + 2)) o.0, o.1)

-- a line's calls end as it does
pub booked : (l : Text) (r : Reading) (s next : Store) (o : Result (Unit {0}) Refusal) (x : Result (Unit {0}) ImportFault) (P : Refusal → ImportFault → Type 0) → ((f : Refusal) (g : ImportFault) → P f g → g ≡ Book l.place f)
    → Outcome (reading_entry r) s next o → MatchResult o (λ y. x ≡ Ok y) (λ f. IsErrAnd x (P f)) → TakenLine l (Ok r) s next x
booked l r s next (Ok y) x P says o e = subst (TakenLine l (Ok r) s next) (sym e) o
booked l r s next (Err f) (Ok y) P says o e = absurd e
booked l r s next (Err f) (Err g) P says o e = (f, says f g e, o)

-- the lines taken before one are fewer than the bytes of the file
pub taken_few : (file : List ℕ) (ls rest : List Text) (t : Text) (k : ℕ) → ls ≡ t ∷ rest → k + length ls ≤ length (drop 1 (lines_from 0 file)) → k + 2 ≤ length file
taken_few file ls rest t k is low = omega (arith, ap length is, length-drop 1 (lines_from 0 file), lines-few 0 file)
