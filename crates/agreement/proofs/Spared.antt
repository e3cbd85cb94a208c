-- Where the tables have memory for every place, no call wants any.
use Rattle.std.proofs.Common.{◌≡◌, ℕ, ◌+◌, ◌<◌, ◌≤◌, ltb, Bool, true, List, [], ◌∷◌, length, drop, Some, None, Ok, Err, vec_items, Result, refl, ap, ◌∙◌, inl, ⊎_elim, arith}
use Rattle.std.specs.List.{list_all}
use Rattle.std.proofs.lemmas.List.FromFn.{length-map-range_with_len}
use Rattle.std.proofs.lemmas.List.{length-append, length_push, length-set}
use Rattle.std.proofs.lemmas.Bool.Decides.{nat_tests}
use Rattle.std.proofs.lemmas.Bool.{both_ways, ltb-false, ltb-true}
use Rattle.sharing.specs.Refusals.{decided, number, refusal}
use Rattle.sharing.specs.declared.refusal.Refusal.{Refusal}
use Rattle.sharing.specs.declared.refusal.Refusal.TheVariants.{Memory}
use Rattle.sharing.proofs.Passing.{all_from_pass}
use Rattle.sharing.proofs.Picked.{none_hold, picked_from, refusal_is}
use Rattle.tariff.specs.Rows.{row_why}
use Rattle.tariff.specs.declared.row.Row.{Row}
use Rattle.tariff.specs.declared.row.Row.TheVariants.{Plain, Mixed}
use Rattle.book.specs.Calls.{Ample, Call, Keeps, Outcome, Sure, takes}
use Rattle.book.specs.Meters.{event_why, meter_entry}
use Rattle.book.specs.Office.{change_entry, node_entry, object_entry, object_on, recipient_entry, row_entry}
use Rattle.book.specs.World.{Store, World, allowed, node_at}
use Rattle.book.specs.declared.records.MeterEvent.{MeterEvent}
use Rattle.book.specs.declared.records.MeterEvent.TheVariants.{Fault, Repair}
use Rattle.book.specs.declared.records.Node.{Node}
use Rattle.book.proofs.Keeping.{keeps_node, keeps_object, keeps_recipient, keeps_row}
use Rattle.book.proofs.Soundness.{Sound}
use Rattle.sharing.specs.Keys.{Key}
use Rattle.sharing.specs.Rounds.{Rule}
use Rattle.book.specs.declared.records.Line.{Line as JournalLine}
use Rattle.book.specs.declared.records.Recipient.{Recipient}
use Rattle.clerk.specs.Fixings.{fix_why, fixing_of, open_why, opened}
use Rattle.clerk.specs.Postings.{behind, month_line, month_lines, node_weights, post_entry, posted_node}
use Rattle.clerk.specs.Writing.{after_lines, charged_to}
use Rattle.clerk.specs.declared.paper.Fixing.{Fixing}
use Rattle.clerk.specs.declared.paper.Readout.{Readout}
use Rattle.readings.specs.Faults.{report}
use Rattle.readings.specs.Formats.{columns_by, reading_of}
use Rattle.readings.specs.Imports.{Begins, Ends, Goes, Imported, Taken, TakesLine, reading_entry}
use Rattle.readings.specs.Texts.{Text, first, lines_from}
use Rattle.readings.specs.declared.answer.ImportAnswer.{ImportAnswer}
use Rattle.readings.specs.declared.columns.Columns.{Columns}
use Rattle.readings.specs.declared.fault.ImportFault.TheVariants.{Line}
use Rattle.readings.specs.declared.fault.LineFault.{LineFault}
use Rattle.readings.specs.declared.fault.LineFault.TheVariants.{Names, Fields, Field}
use Rattle.readings.specs.declared.reading.Reading.{Reading}
use Rattle.readings.proofs.Imported.{keeps_reading}
use Rattle.agreement.specs.Law.{number_stopped, number_told}
use Rattle.agreement.specs.Runs.{Does, Enters, Fixes, Nothing, OpenResult, Opens, Paper, Posts, SamePapers, State, Stepped, blank_paper, fixed_paper, paper_at, papers_fixed, papers_posted, posted_paper, told}
use Rattle.agreement.specs.declared.call.Answer.{Answer}
use Rattle.agreement.specs.declared.call.Failure.{Failure}
use Rattle.agreement.specs.declared.call.Answer.TheVariants.{Done, Entered, Opened, Fixed}
use Rattle.agreement.specs.declared.call.Call.TheVariants.{EnterRow, EnterRecipient, EnterNode, EnterObject, ChangeObject, ReportFault, Repair as RepairMeter, Open, Fix, Post, Import}
use Rattle.agreement.specs.declared.call.Call.{Call as ListCall}

-- no condition of a call speaks of memory
abbrev pub Unspoken : List (Bool × Refusal) → Type 0
Unspoken why = list_all (λ p. ltb (number p.1) (number Memory)) why ≡ true

unpicked : (why : List (Bool × Refusal)) (f : Refusal) → Unspoken why → refusal why ≡ Some f → number f ≡ number Memory → ⊥
unpicked why f unspoken e wants =
    let each = all_from_pass (λ p. ltb (number p.1) (number Memory)) (λ p. number p.1 < number Memory) (λ p. ltb-true _ _) why unspoken in
    let low = picked_from (λ f. number f < number Memory) why f each e in
    omega arith

-- no table of a world has more items than places
pub record Fitting (w : World) : Type 0 where
  pub rows : length w.rows ≤ (allowed w.places).rows
  pub recipients : length w.recipients ≤ (allowed w.places).recipients
  pub nodes : length w.nodes ≤ (allowed w.places).nodes
  pub objects : length w.objects ≤ (allowed w.places).objects
  pub lines : length w.lines ≤ (allowed w.places).lines

fitting : (w : World) → Sound w → Fitting w
fitting w s = record { rows = s.rows_fit; recipients = s.recipients-fit; nodes = s.nodes-fit; objects = s.objects-fit; lines = s.lines_fit }

-- the memory that there is takes it
enough : (s : Store) (w : World) → w.places ≡ s.world.places → Ample s → Fitting w → takes s.room w ≡ true
enough s w same ample fits = grind (arith, nat_tests)

-- memory is kept, and places stay
stays_ample : (s s' : Store) → s'.world.places ≡ s.world.places → Keeps s.room s'.room → Ample s → Ample s'
stays_ample s s' same keeps ample = record { rows = grind arith; recipients = grind arith; nodes = grind arith; objects = grind arith; lines = grind arith }

-- a call that may want no memory is one that may want some, and does not
pub sure_outcome : {A : Type 0} (call : World → Call A) (s s' : Store) (r : Result A Refusal) → Sure call s s' r → Outcome call s s' r
sure_outcome call s s' (Ok x) o = o
sure_outcome call s s' (Err f) o = record { reason = inl o.reason; unchanged = o.unchanged; memory = o.memory }

module _ {A : Type 0} (call : World → Call A) (s s' : Store) (ample : Ample s) (same : (call s.world).after.places ≡ s.world.places) where
  pub outcome_ample : (r : Result A Refusal) → Outcome call s s' r → Ample s'
  outcome_ample (Ok x) o = stays_ample s s' (ap (λ (w : World). w.places) o.left ∙ same) o.memory ample
  outcome_ample (Err f) o = stays_ample s s' (ap (λ (w : World). w.places) o.unchanged) o.memory ample

  -- a call that may want memory wants none
  pub outcome_refused : Unspoken (call s.world).why → (refusal (call s.world).why ≡ None → Fitting (call s.world).after) → (g : Refusal) → Outcome call s s' (Err g) → number g ≡ number Memory → ⊥
  outcome_refused unspoken keeps g o wants =
      ⊎_elim (λ picked. unpicked (call s.world).why g unspoken picked wants)
      (λ wanting. both_ways _ wanting.2 (enough s _ same ample (keeps wanting.0)))
      o.reason

  module _ (unspoken : Unspoken (call s.world).why) (f : A → Answer) (accepts : (x : A) → number_told (Ok (f x)) ≡ number Memory → ⊥) where
    pub outcome_spared : (refusal (call s.world).why ≡ None → Fitting (call s.world).after) → (r : Result A Refusal) → Outcome call s s' r → number_told (told f r) ≡ number Memory → ⊥
    outcome_spared keeps (Ok x) o wants = accepts x wants
    outcome_spared keeps (Err g) o wants = outcome_refused unspoken keeps g o wants

    -- and one that may not want any does not
    pub sure_spared : (r : Result A Refusal) → Sure call s s' r → number_told (told f r) ≡ number Memory → ⊥
    sure_spared (Ok x) o wants = accepts x wants
    sure_spared (Err g) o wants = unpicked (call s.world).why g unspoken o.reason wants

row-unspoken : (rows : List Row) (r : Row) → Unspoken (row_why rows r)
row-unspoken rows (Plain p) = refl
row-unspoken rows (Mixed m) = refl

event_unspoken : (e : MeterEvent) (n : Node) (r : ℕ) → Unspoken (event_why e n r)
event_unspoken Fault n r = refl
event_unspoken Repair n r = refl

-- memory for so many papers more, and for every place
pub record Spare (left : ℕ) (s : State) : Type 0 where
  pub tables : Ample s.store
  pub papers : length s.papers + left ≤ s.room

length-after : (rs : List Recipient) (ls : List JournalLine) → length (after_lines rs ls) ≡ length rs
length-after rs [] = refl
length-after rs (l ∷ ls) = length-after (charged_to rs l) ls ∙ length-set rs l.recipient _

-- a posting fits where there are places for its lines
post_fits : (key : Key) (rule : Rule) (f : Fixing) (w : World) → Sound w → refusal (post_entry key rule f w).why ≡ None → Fitting (post_entry key rule f w).after
post_fits key rule f w s granted =
    let none = none_hold (post_entry key rule f w).why granted in
    let ls = month_lines key rule f w in
    record {
      rows = s.rows_fit;
      recipients = omega (arith, length-after w.recipients ls, s.recipients-fit);
      nodes = omega (arith, length-set w.nodes f.node (posted_node f (node_at f.node w)), s.nodes-fit);
      objects = s.objects-fit;
      lines = omega (arith, length-append w.lines ls, length-map-range_with_len (month_line rule f (node_weights key f.node w.objects) (behind f.node w.objects) w) 0 (length (behind f.node w.objects)), ltb-false _ _ none.0);
    }

-- there is memory for what comes, and this answer wanted none
abbrev pub Spares : ℕ → State → Result Answer Failure → Type 0
Spares left s' a = Spare left s' × (number_told a ≡ number Memory → ⊥)

module _ (left : ℕ) (s s' : State) (a : Result Answer Failure) (spare : Spare (left + 1) s) where
  stays_spare : Ample s'.store → SamePapers s s' → Spare left s'
  stays_spare ample same = record { tables = ample; papers = omega (arith, spare.papers, ap length same.0, same.1) }

  enters : (call : World → Call ℕ) → (call s.store.world).after.places ≡ s.store.world.places → Unspoken (call s.store.world).why
      → (refusal (call s.store.world).why ≡ None → Sound (call s.store.world).after) → Enters call s a s' → Spares left s' a
  enters call same unspoken keeps e = (
    stays_spare (outcome_ample call s.store s'.store spare.tables same e.0 e.1) e.3,
    rw e.2 (outcome_spared call s.store s'.store spare.tables same unspoken Entered (λ n e. omega arith) (λ granted. fitting _ (keeps granted)) e.0 e.1),
  )

  does : (call : World → Call (Unit {0})) → (call s.store.world).after.places ≡ s.store.world.places → Unspoken (call s.store.world).why → Does call s a s' → Spares left s' a
  does call same unspoken e = (
    stays_spare (outcome_ample call s.store s'.store spare.tables same e.0 (sure_outcome call s.store s'.store e.0 e.1)) e.3,
    rw e.2 (sure_spared call s.store s'.store spare.tables same unspoken (λ _. Done) (λ _ e. omega arith) e.0 e.1),
  )

  opens : (node : ℕ) → Opens node s a s' → Spares left s' a
  opens node e = (record { tables = rw e.3 spare.tables; papers = room e.0 e.1 }, rw e.2 (none e.0 e.1))
    where
      room : (r : Result ℕ Refusal) → OpenResult node s s' r → length s'.papers + left ≤ s'.room
      room (Ok n) o = omega (arith, ap length o.2, length_push s.papers (blank_paper (opened node s.store.world)), spare.papers, e.4)
      room (Err f) o = omega (arith, ap length o.1, spare.papers, e.4)

      none : (r : Result ℕ Refusal) → OpenResult node s s' r → number_told (told Opened r) ≡ number Memory → ⊥
      none (Ok n) o wants = omega arith
      none (Err f) o wants =
          ⊎_elim (λ picked. unpicked (open_why node s.store.world) f refl picked wants) (λ wanting. omega (arith, wanting.2, spare.papers)) o.0

  nothing : Nothing s a s' → Spares left s' a
  nothing e = (rw e.1 (record { tables = spare.tables; papers = omega (arith, spare.papers) }), rw e.0 (λ wants. omega arith))

  length-fixed : (i : ℕ) (ps : List Paper) (r : Result Fixing Refusal) → length (papers_fixed i ps r) ≡ length ps
  length-fixed i ps (Ok f) = length-set ps i (fixed_paper f)
  length-fixed i ps (Err why) = refl

  length-posted : (i : ℕ) (ps : List Paper) (r : Result (Unit {0}) Refusal) → length (papers_posted i ps r) ≡ length ps
  length-posted i ps (Ok x) = length-set ps i posted_paper
  length-posted i ps (Err why) = refl

  fixes : (i : ℕ) (r : Readout) (p : Paper) → Fixes i r p s a s' → Spares left s' a
  fixes i r (blank_paper p) e = (
    rw e.3 (record { tables = spare.tables; papers = omega (arith, length-fixed i s.papers e.0, spare.papers) }),
    rw e.2 (none e.0 e.1),
  )
    where
      none : (x : Result Fixing Refusal) → x ≡ decided (fix_why p r.water r.closing r.estimate s.store.world) (fixing_of p r.water r.closing r.estimate s.store.world) → number_told (told (λ f. Fixed f.heat) x) ≡ number Memory → ⊥
      none (Ok f) is wants = omega arith
      none (Err g) is wants =
          unpicked (fix_why p r.water r.closing r.estimate s.store.world) g refl (refusal_is (fix_why p r.water r.closing r.estimate s.store.world) g _ is) wants
  fixes i r (fixed_paper f) e = nothing e
  fixes i r posted_paper e = nothing e

  posts : Sound s.store.world → (i : ℕ) (key : Key) (rule : Rule) (p : Paper) → Posts i key rule p s a s' → Spares left s' a
  posts sound i key rule (blank_paper p) e = nothing e
  posts sound i key rule (fixed_paper f) e = (
    record {
      tables = outcome_ample (post_entry key rule f) s.store s'.store spare.tables refl e.0 e.1;
      papers = omega (arith, ap length e.3, length-posted i s.papers e.0, e.4, spare.papers);
    },
    rw e.2 (outcome_spared (post_entry key rule f) s.store s'.store spare.tables refl refl (λ _. Done) (λ _ e. omega arith) (post_fits key rule f s.store.world sound) e.0 e.1),
  )
  posts sound i key rule posted_paper e = nothing e

-- an import keeps ample memory, and wants none
reading_unspoken : (r : Reading) (w : World) → Unspoken (reading_entry r w).why
reading_unspoken r w = refl

line_spared : (f : LineFault) → (report (Line f)).number ≡ number Memory → ⊥
line_spared (Names at) wants = omega arith
line_spared (Fields at) wants = omega arith
line_spared (Field f) wants = omega arith

-- the memory stays, and the import wanted none
abbrev Paid : Store → ImportAnswer → Type 0
Paid s' a = Ample s' × (number_stopped a ≡ number Memory → ⊥)

ends_spared : (x : ImportAnswer) (s : Store) (a : ImportAnswer) (s' : Store) → Ample s → (number_stopped x ≡ number Memory → ⊥) → Ends x s a s' → Paid s' a
ends_spared x s a s' ample none e = (rw e.1 ample, rw e.0 none)

taken_spared : (c : Columns) (k : ℕ) (ls : List Text) (s : Store) (a : ImportAnswer) (s' : Store) → Ample s → Sound s.world → Taken c k ls s a s' → Paid s' a
taken_spared c k [] s a s' ample sound t = ends_spared _ s a s' ample (λ wants. omega arith) t
taken_spared c k (l ∷ rest) s a s' ample sound t = line (reading_of c l) t (λ next. taken_spared c (k + 1) rest next a s')
  where
    goes : (next : Store) (x : Result (Unit {0}) Refusal) (r : Reading) → Outcome (reading_entry r) s next x → Goes k l (λ next. Taken c (k + 1) rest next a s') next a s' x
        → ((next : Store) → Ample next → Sound next.world → Taken c (k + 1) rest next a s' → Paid s' a) → Paid s' a
    goes next (Ok y) r o g later =
        later next (outcome_ample (reading_entry r) s next ample refl (Ok y) o) (rw o.left (keeps_reading r s.world o.granted sound)) g
    goes next (Err f) r o g later =
        ends_spared _ next a s' (outcome_ample (reading_entry r) s next ample refl (Err f) o)
        (outcome_refused (reading_entry r) s next ample refl (reading_unspoken r s.world) (λ granted. fitting _ (keeps_reading r s.world granted sound)) f o) g

    line : (x : Result Reading LineFault) → TakesLine k l (λ next. Taken c (k + 1) rest next a s') s a s' x
        → ((next : Store) → Ample next → Sound next.world → Taken c (k + 1) rest next a s' → Paid s' a) → Paid s' a
    line (Ok r) e later = goes e.0 e.1 r e.2 e.3 later
    line (Err f) e later = ends_spared _ s a s' ample (line_spared f) e

imported_spared : (file : List ℕ) (s : Store) (a : ImportAnswer) (s' : Store) → Ample s → Sound s.world → Imported file s a s' → Paid s' a
imported_spared file s a s' ample sound e = begins (columns_by (first (lines_from 0 file))) e
  where
    begins : (x : Result Columns LineFault) → Begins (drop 1 (lines_from 0 file)) s a s' x → Paid s' a
    begins (Ok c) t = taken_spared c 0 (drop 1 (lines_from 0 file)) s a s' ample sound t
    begins (Err f) t = ends_spared _ s a s' ample (line_spared f) t

-- one call keeps ample memory, and wants none
module _ {K R : Type 0} (weight : K → Key) (meaning : R → Rule) (left : ℕ) (s s' : State) (a : Result Answer Failure) (spare : Spare (left + 1) s) where
  pub spared : (c : ListCall K R) → Sound s.store.world → Stepped weight meaning s c a s' → Spares left s' a
  spared (EnterRow row) sound e = enters left s s' a spare (row_entry row) refl (row-unspoken s.store.world.rows row) (λ granted. keeps_row s.store.world row granted sound) e
  spared EnterRecipient sound e = enters left s s' a spare recipient_entry refl refl (λ granted. keeps_recipient s.store.world granted sound) e
  spared (EnterNode month register) sound e = enters left s s' a spare (node_entry month register) refl refl (λ granted. keeps_node s.store.world month register granted sound) e
  spared (EnterObject node recipient terms) sound e =
      let o = object_on node recipient terms in
      enters left s s' a spare (object_entry o) refl refl (λ granted. keeps_object s.store.world o granted sound) e
  spared (ChangeObject object terms) sound e = does left s s' a spare (change_entry object terms.row terms.power terms.area) refl refl e
  spared (ReportFault node register) sound e = does left s s' a spare (meter_entry Fault node register) refl (event_unspoken Fault (node_at node s.store.world) register) e
  spared (RepairMeter node register) sound e = does left s s' a spare (meter_entry Repair node register) refl (event_unspoken Repair (node_at node s.store.world) register) e
  spared (Open node) sound e = opens left s s' a spare node e
  spared (Fix paper r) sound e = fixes left s s' a spare paper r (paper_at paper s) e
  spared (Post paper key rule) sound e = posts left s s' a spare sound paper (weight key) (meaning rule) (paper_at paper s) e
  spared (Import file) sound e =
      let told = imported_spared (vec_items file) s.store e.0 s'.store spare.tables sound e.1 in
      (stays_spare left s s' a spare told.0 e.3, rw e.2 told.1)
