-- Each call of a list keeps the agreement of book and history.
use Rattle.std.proofs.Common.{◌≡◌, ℕ, List, Some, None, Ok, Err, vec_items, Option, Result, refl}
use Rattle.std.proofs.lemmas.Bool.{leb-false, ltb-false, not-false}
use Rattle.sharing.specs.Keys.{Key, Light}
use Rattle.sharing.specs.Refusals.{refusal, unless_refused}
use Rattle.sharing.specs.Rounds.{Rounds, Rule}
use Rattle.sharing.specs.declared.refusal.Refusal.{Refusal}
use Rattle.sharing.proofs.Picked.{none_hold}
use Rattle.book.specs.Calls.{Call, Outcome}
use Rattle.book.specs.Meters.{meter_entry}
use Rattle.book.specs.Office.{change_entry, node_entry, object_entry, object_on, recipient_entry, row_entry}
use Rattle.book.specs.World.{Store, World}
use Rattle.book.proofs.Soundness.{Sound}
use Rattle.clerk.specs.Fixings.{fix_why, fixing_of}
use Rattle.clerk.specs.Postings.{post_entry}
use Rattle.clerk.specs.declared.paper.Readout.{Readout}
use Rattle.agreement.specs.Facts.{Event, Fault, Repair}
use Rattle.agreement.specs.History.{happened, noted}
use Rattle.agreement.specs.Runs.{Does, Enters, Fixes, Nothing, OpenResult, Opens, Paper, Posts, State, Stepped, blank_paper, fixed_paper, paper_at, papers_fixed, papers_posted, posted_paper, told}
use Rattle.agreement.specs.declared.call.Answer.{Answer}
use Rattle.agreement.specs.declared.call.Failure.{Failure}
use Rattle.agreement.specs.declared.call.Answer.TheVariants.{Done, Entered, Opened, Fixed}
use Rattle.agreement.specs.declared.call.Call.TheVariants.{EnterRow, EnterRecipient, EnterNode, EnterObject, ChangeObject, ReportFault, Repair as RepairMeter, Open, Fix, Post, Import}
use Rattle.agreement.specs.declared.call.Call.{Call as ListCall}
use Rattle.agreement.proofs.Agrees.{Agrees, agrees_change, agrees_fault, agrees_node, agrees_object, agrees_recipient, agrees_repair, agrees_row}
use Rattle.agreement.proofs.Fixing.{agrees_fix, agrees_open}
use Rattle.agreement.proofs.Importing.{agrees_import}
use Rattle.agreement.proofs.Posting.{agrees_post}
use Rattle.agreement.proofs.Spared.{sure_outcome}

-- a call left what its definition says, or everything as it was
abbrev Went : {A : Type 0} → (World → Call A) → Store → Store → Result A Refusal → Type 0
Went call s s' (Ok x) = (refusal (call s.world).why ≡ None) × (s'.world ≡ (call s.world).after)
Went call s s' (Err f) = s'.world ≡ s.world

outcome_went : {A : Type 0} (call : World → Call A) (s s' : Store) (r : Result A Refusal) → Outcome call s s' r → Went call s s' r
outcome_went call s s' (Ok x) o = (o.granted, o.left)
outcome_went call s s' (Err f) o = o.unchanged

module _ {K R : Type 0} (weight : K → Key) (meaning : R → Rule) (h : List Event) (s s' : State) (old : Agrees h s.store.world s.papers) (c : ListCall K R) where
  went : {A : Type 0} (call : World → Call A) (f : A → Answer) → ((x : A) → noted weight meaning h c (Ok (f x)) ≡ happened weight meaning h c 0) → (s'.papers ≡ s.papers)
      → (refusal (call s.store.world).why ≡ None → Agrees (happened weight meaning h c 0) (call s.store.world).after s.papers)
      → (r : Result A Refusal) → Went call s.store s'.store r → Agrees (noted weight meaning h c (told f r)) s'.store.world s'.papers
  went call f accepts same new (Ok x) left = rw (accepts x, same, left.1) (new left.0)
  went call f accepts same new (Err g) left = rw (same, left) old

  enters : (a : Result Answer Failure) (call : World → Call ℕ) → ((n : ℕ) → happened weight meaning h c n ≡ happened weight meaning h c 0)
      → (refusal (call s.store.world).why ≡ None → Agrees (happened weight meaning h c 0) (call s.store.world).after s.papers) → Enters call s a s' → Agrees (noted weight meaning h c a) s'.store.world s'.papers
  enters a call any new e = rw e.2 (went call Entered any e.3.0 new e.0 (outcome_went call s.store s'.store e.0 e.1))

  does : (a : Result Answer Failure) (call : World → Call (Unit {0})) → (refusal (call s.store.world).why ≡ None → Agrees (happened weight meaning h c 0) (call s.store.world).after s.papers) → Does call s a s'
      → Agrees (noted weight meaning h c a) s'.store.world s'.papers
  does a call new e = rw e.2 (went call (λ _. Done) (λ _. refl) e.3.0 new e.0 (outcome_went call s.store s'.store e.0 (sure_outcome call s.store s'.store e.0 e.1)))

  nothing : (a : Result Answer Failure) → Nothing s a s' → Agrees (noted weight meaning h c a) s'.store.world s'.papers
  nothing a e = rw (e.0, e.1) old

-- the calls on papers
module _ {K R : Type 0} (weight : K → Key) (meaning : R → Rule) (light : Light weight) (rounds : (r : R) → Rounds (meaning r))
    (h : List Event) (s s' : State) (old : Agrees h s.store.world s.papers) (a : Result Answer Failure) where
  opens : (node : ℕ) → Opens node s a s' → Agrees (noted weight meaning h (Open node) a) s'.store.world s'.papers
  opens node e = rw (e.2, e.3) (by e.0 e.1)
    where
      by : (r : Result ℕ Refusal) → OpenResult node s s' r → Agrees (noted weight meaning h (Open node) (told Opened r)) s.store.world s'.papers
      by (Ok n) o = rw o.2 (agrees_open h s.store.world s.papers old node)
      by (Err f) o = rw o.1 old

  fixes : (i : ℕ) (r : Readout) (p : Paper) → paper_at i s ≡ p → Fixes i r p s a s'
      → Agrees (noted weight meaning h (Fix i r) a) s'.store.world s'.papers
  fixes i r (blank_paper p) at e =
      rw (e.2, e.3, e.1) (by (refusal (fix_why p r.water r.closing r.estimate s.store.world)) refl)
    where
      by : (o : Option Refusal) → refusal (fix_why p r.water r.closing r.estimate s.store.world) ≡ o
          → Agrees (noted weight meaning h (Fix i r) (told (λ f. Fixed f.heat) (unless_refused o (fixing_of p r.water r.closing r.estimate s.store.world)))) s.store.world
          (papers_fixed i s.papers (unless_refused o (fixing_of p r.water r.closing r.estimate s.store.world)))
      by None granted = agrees_fix h s.store.world s.papers old i p at r granted
      by (Some f) refused = old
  fixes i r (fixed_paper f) at e = nothing weight meaning h s s' old (Fix i r) a e
  fixes i r posted_paper at e = nothing weight meaning h s s' old (Fix i r) a e

  posts : Sound s.store.world → (i : ℕ) (key : K) (rule : R) (p : Paper) → paper_at i s ≡ p → Posts i (weight key) (meaning rule) p s a s'
      → Agrees (noted weight meaning h (Post i key rule) a) s'.store.world s'.papers
  posts sound i key rule (blank_paper p) at e = nothing weight meaning h s s' old (Post i key rule) a e
  posts sound i key rule (fixed_paper f) at e =
      rw (e.2, e.3) (by e.0 (outcome_went (post_entry (weight key) (meaning rule) f) s.store s'.store e.0 e.1))
    where
      by : (r : Result (Unit {0}) Refusal) → Went (post_entry (weight key) (meaning rule) f) s.store s'.store r
          → Agrees (noted weight meaning h (Post i key rule) (told (λ _. Done) r)) s'.store.world (papers_posted i s.papers r)
      by (Ok x) left =
          rw left.1 (agrees_post (weight key) (light key) (meaning rule) (rounds rule) f h s.store.world s.papers old sound left.0 i at)
      by (Err g) left = rw left old
  posts sound i key rule posted_paper at e = nothing weight meaning h s s' old (Post i key rule) a e

  -- one call, whatever it answers
  pub step : Sound s.store.world → (c : ListCall K R) → Stepped weight meaning s c a s' → Agrees (noted weight meaning h c a) s'.store.world s'.papers
  step sound (EnterRow row) e = enters weight meaning h s s' old (EnterRow row) a (row_entry row) (λ _. refl) (λ _. agrees_row h s.store.world s.papers old row) e
  step sound EnterRecipient e = enters weight meaning h s s' old EnterRecipient a recipient_entry (λ _. refl) (λ _. agrees_recipient h s.store.world s.papers old) e
  step sound (EnterNode month register) e =
      enters weight meaning h s s' old (EnterNode month register) a (node_entry month register) (λ _. refl) (λ _. agrees_node h s.store.world s.papers old month register) e
  step sound (EnterObject node recipient terms) e =
      let o = object_on node recipient terms in
      enters weight meaning h s s' old (EnterObject node recipient terms) a (object_entry o) (λ _. refl) (λ _. agrees_object h s.store.world s.papers old o) e
  step sound (ChangeObject object terms) e =
      does weight meaning h s s' old (ChangeObject object terms) a (change_entry object terms.row terms.power terms.area) (λ _. agrees_change h s.store.world s.papers old object terms.row terms.power terms.area) e
  step sound (ReportFault node register) e =
      does weight meaning h s s' old (ReportFault node register) a (meter_entry Fault node register)
      (λ granted.
      let none = none_hold (meter_entry Fault node register s.store.world).why granted in
      agrees_fault h s.store.world s.papers old node register (leb-false _ _ none.0) (not-false _ none.1.1.0) (ltb-false _ _ none.1.1.1.1.0)) e
  step sound (RepairMeter node register) e =
      does weight meaning h s s' old (RepairMeter node register) a (meter_entry Repair node register)
      (λ granted. agrees_repair h s.store.world s.papers old node register (leb-false _ _ (none_hold (meter_entry Repair node register s.store.world).why granted).0)) e
  step sound (Open node) e = opens node e
  step sound (Fix paper r) e = fixes paper r (paper_at paper s) refl e
  step sound (Post paper key rule) e = posts sound paper key rule (paper_at paper s) refl e
  step sound (Import file) e =
      rw (e.2, e.3.0) (agrees_import (vec_items file) h s.papers s.store e.0 s'.store old sound e.1)
