-- An import keeps the agreement: it is the postings of the lines that it took.
use Rattle.std.proofs.Common.{true, ◌≡◌, ℕ, suc, ◌+◌, ◌-◌, ◌≤◌, false, not, ltb, List, [], ◌∷◌, take, drop, Some, None, Ok, Err, Result, sym, refl, ap, ◌∙◌, subst, le_trans, arith, lit≤}
use Rattle.std.specs.Bool.{beq}
use Rattle.std.proofs.lemmas.Bool.{and_parts, ltb-false, not-false, or_parts}
use Rattle.sharing.specs.Keys.{by_power}
use Rattle.sharing.specs.Refusals.{refusal}
use Rattle.sharing.specs.Whole.{nearest}
use Rattle.sharing.specs.declared.refusal.Refusal.{Refusal}
use Rattle.sharing.proofs.Picked.{none_hold}
use Rattle.book.specs.Calls.{Outcome}
use Rattle.book.specs.Meters.{works}
use Rattle.book.specs.World.{Store, World, node_at}
use Rattle.book.proofs.Soundness.{Sound}
use Rattle.clerk.specs.Fixings.{estimate_due, fix_why, opened}
use Rattle.readings.specs.Formats.{columns_by, reading_of}
use Rattle.readings.specs.Imports.{Begins, Ends, Goes, Imported, Taken, TakesLine, reading_entry, reading_fixing}
use Rattle.readings.specs.Texts.{Text, first, lines_from}
use Rattle.readings.specs.declared.answer.ImportAnswer.{ImportAnswer}
use Rattle.readings.specs.declared.columns.Columns.{Columns}
use Rattle.readings.specs.declared.fault.LineFault.{LineFault}
use Rattle.readings.specs.declared.reading.Reading.{Reading}
use Rattle.readings.proofs.Imported.{keeps_reading, reading_granted}
use Rattle.agreement.specs.Facts.{Event, clerk, month_posted, named}
use Rattle.agreement.specs.History.{after_import, after_reading, after_readings, read_slip}
use Rattle.agreement.specs.Runs.{Paper}
use Rattle.agreement.proofs.Agrees.{Agrees}
use Rattle.agreement.proofs.Fixing.{fixing-written, same_bool}
use Rattle.agreement.proofs.Months.{nearest-rounds}
use Rattle.agreement.proofs.Posting.{agrees_posted}

-- one line
module _ (h : List Event) (w : World) (ps : List Paper) (a : Agrees h w ps) (sound : Sound w) (r : Reading) (granted : refusal (reading_entry r w).why ≡ None) where
  agrees_reading : Agrees (clerk (month_posted (read_slip r h) by_power nearest) ∷ h) (reading_entry r w).after ps
  agrees_reading =
      let granted_later = reading_granted r w granted in
      let f = reading_fixing r w in
      let n = node_at r.node w in
      let none = none_hold (fix_why (opened r.node w) r.water (Some r.closing) None w) granted_later.0 in
      let due : (beq true (works n.meter) ≡ true) × (beq false (estimate_due n) ≡ true) = and_parts _ _ (not-false _ none.1.1.1.0) in
      let no_estimate : false ≡ estimate_due n = same_bool _ _ due.1 in
      let events = ltb-false 0 n.events (or_parts (not (works n.meter)) (ltb 0 n.events) (sym no_estimate)).1 in
      let carried = (a.metered r.node).1 (omega arith) in
      let register = (a.named-are.each r.node).register (sym (same_bool _ _ due.0)) in
      let fits = fixing-written w (opened r.node w) (record { water = r.water; closing = Some r.closing; estimate = None }) granted_later.0 r.node refl in
      let heat : f.heat ≡ r.closing - (named r.node h).register = omega (arith, carried, register) in
      rw (← heat)
      (agrees_posted by_power (λ o p a low _. le_trans low (lit≤ tt)) nearest nearest-rounds f h w ps a sound granted_later.1 fits)

ends_agrees : (h : List Event) (ps : List Paper) (x : ImportAnswer) (s : Store) (a : ImportAnswer) (s' : Store) (c : Columns) (k : ℕ) (ls : List Text) → x.taken ≡ k → Agrees h s.world ps → Ends x s a s'
    → (k ≤ a.taken) × Agrees (after_readings c (take (a.taken - k) ls) h) s'.world ps
ends_agrees h ps x s a s' c k ls here old e =
    let taken : a.taken ≡ k = ap (λ (y : ImportAnswer). y.taken) e.0 ∙ here in
    let none : a.taken - k ≡ 0 = omega arith in
    (omega arith, rw (none, e.1) old)

-- the lines taken
taken_agrees : (c : Columns) (ps : List Paper) (k : ℕ) (ls : List Text) (h : List Event) (s : Store) (a : ImportAnswer) (s' : Store) → Agrees h s.world ps → Sound s.world → Taken c k ls s a s'
    → (k ≤ a.taken) × Agrees (after_readings c (take (a.taken - k) ls) h) s'.world ps
taken_agrees c ps k [] h s a s' old sound t = ends_agrees h ps _ s a s' c k [] refl old t
taken_agrees c ps k (l ∷ rest) h s a s' old sound t = line (reading_of c l) refl t (λ g next. taken_agrees c ps (k + 1) rest g next a s')
  where
    more : (g : List Event) → (k + 1 ≤ a.taken) × Agrees (after_readings c (take (a.taken - (k + 1)) rest) g) s'.world ps → after_reading c h (reading_of c l) ≡ g
        → (k ≤ a.taken) × Agrees (after_readings c (take (a.taken - k) (l ∷ rest)) h) s'.world ps
    more g told same =
        let one : a.taken - k ≡ suc (a.taken - (k + 1)) = let low = told.0 in omega arith in (
          let low = told.0 in omega arith,
          rw one (subst (λ h. Agrees (after_readings c (take (a.taken - (k + 1)) rest) h) s'.world ps) (sym same) told.1),
        )

    goes : (r : Reading) → reading_of c l ≡ Ok r → (next : Store) (x : Result (Unit {0}) Refusal) → Outcome (reading_entry r) s next x → Goes k l (λ next. Taken c (k + 1) rest next a s') next a s' x
        → ((g : List Event) (next : Store) → Agrees g next.world ps → Sound next.world → Taken c (k + 1) rest next a s' → (k + 1 ≤ a.taken) × Agrees (after_readings c (take (a.taken - (k + 1)) rest) g) s'.world ps)
        → (k ≤ a.taken) × Agrees (after_readings c (take (a.taken - k) (l ∷ rest)) h) s'.world ps
    goes r is next (Ok y) o g later =
        let new = clerk (month_posted (read_slip r h) by_power nearest) ∷ h in
        more new
        (later new next (rw o.left (agrees_reading h s.world ps old sound r o.granted)) (rw o.left (keeps_reading r s.world o.granted sound)) g)
        (ap (after_reading c h) is)
    goes r is next (Err f) o g later = ends_agrees h ps _ next a s' c k (l ∷ rest) refl (rw o.unchanged old) g

    line : (x : Result Reading LineFault) → reading_of c l ≡ x → TakesLine k l (λ next. Taken c (k + 1) rest next a s') s a s' x
        → ((g : List Event) (next : Store) → Agrees g next.world ps → Sound next.world → Taken c (k + 1) rest next a s' → (k + 1 ≤ a.taken) × Agrees (after_readings c (take (a.taken - (k + 1)) rest) g) s'.world ps)
        → (k ≤ a.taken) × Agrees (after_readings c (take (a.taken - k) (l ∷ rest)) h) s'.world ps
    line (Ok r) is e later = goes r is e.0 e.1 e.2 e.3 later
    line (Err f) is e later = ends_agrees h ps _ s a s' c k (l ∷ rest) refl old e

-- a whole file
pub agrees_import : (file : List ℕ) (h : List Event) (ps : List Paper) (s : Store) (a : ImportAnswer) (s' : Store) → Agrees h s.world ps → Sound s.world → Imported file s a s'
    → Agrees (after_import a.taken (drop 1 (lines_from 0 file)) h (columns_by (first (lines_from 0 file)))) s'.world ps
agrees_import file h ps s a s' old sound e = begins (columns_by (first (lines_from 0 file))) e
  where
    begins : (x : Result Columns LineFault) → Begins (drop 1 (lines_from 0 file)) s a s' x → Agrees (after_import a.taken (drop 1 (lines_from 0 file)) h x) s'.world ps
    begins (Ok c) t =
        let told = taken_agrees c ps 0 (drop 1 (lines_from 0 file)) h s a s' old sound t in
        let all : a.taken - 0 ≡ a.taken = omega arith in
        rw (← all) told.1
    begins (Err f) t = rw t.1 old
