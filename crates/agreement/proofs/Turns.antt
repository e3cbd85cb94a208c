-- A run, turn by turn.
use Rattle.std.proofs.Common.{◌≡◌, ℕ, ◌+◌, ◌-◌, ◌<◌, ◌≤◌, true, List, [], ◌∷◌, ◌++◌, length, get_or, take, drop, set, Result, sym, refl, ap, ◌∙◌, arith}
use Rattle.std.specs.List.{All}
use Rattle.std.proofs.lemmas.List.Elements.{All-push}
use Rattle.std.proofs.lemmas.List.{drop-drop, drop-set-lt, length-set, length-take-le, take_more, take_more_set}
use Rattle.sharing.specs.Keys.{Key, Light}
use Rattle.sharing.specs.Refusals.{number}
use Rattle.sharing.specs.Rounds.{Rounds, Rule}
use Rattle.sharing.specs.declared.refusal.Refusal.TheVariants.{Memory}
use Rattle.book.specs.Calls.{Ample}
use Rattle.book.specs.Sound.{sound}
use Rattle.book.specs.World.{empty}
use Rattle.book.proofs.Soundness.{parts}
use Rattle.agreement.specs.Facts.{Event}
use Rattle.agreement.specs.History.{history, history_after, noted}
use Rattle.agreement.specs.Law.{Agreement, made, number_told}
use Rattle.agreement.specs.Runs.{Ran, State, Stepped}
use Rattle.agreement.specs.declared.call.Answer.{Answer}
use Rattle.agreement.specs.declared.call.Failure.{Failure}
use Rattle.agreement.specs.declared.call.Call.{Call}
use Rattle.agreement.proofs.Agrees.{Agrees, lawful, none_yet}
use Rattle.agreement.proofs.Spared.{Spare, spared}
use Rattle.agreement.proofs.Steps.{step}

module _ {K R : Type 0} (weight : K → Key) (meaning : R → Rule) where
  ran-push : (s : State) (cs : List (Call K R)) (rs : List (Result Answer Failure)) (s₁ : State) (c : Call K R) (a : Result Answer Failure) (s₂ : State) → Ran weight meaning s cs rs s₁ → Stepped weight meaning s₁ c a s₂ → Ran weight meaning s (cs ++ c ∷ []) (rs ++ a ∷ []) s₂
  ran-push s [] [] s₁ c a s₂ ran next = (s₂, rw ran at next, refl)
  ran-push s [] (r ∷ rs) s₁ c a s₂ ran next = absurd ran
  ran-push s (d ∷ cs) [] s₁ c a s₂ ran next = absurd ran
  ran-push s (d ∷ cs) (r ∷ rs) s₁ c a s₂ ran next = (ran.0, ran.1, ran-push ran.0 cs rs s₁ c a s₂ ran.2 next)

  history-push : (h : List Event) (cs : List (Call K R)) (rs : List (Result Answer Failure)) (c : Call K R) (a : Result Answer Failure) → length rs ≡ length cs
      → history_after weight meaning h (cs ++ c ∷ []) (rs ++ a ∷ []) ≡ noted weight meaning (history_after weight meaning h cs rs) c a
  history-push h [] [] c a e = refl
  history-push h [] (r ∷ rs) c a e = absurd (omega arith)
  history-push h (d ∷ cs) [] c a e = absurd (omega arith)
  history-push h (d ∷ cs) (r ∷ rs) c a e = history-push (noted weight meaning h d r) cs rs c a (omega arith)

module _ {K R : Type 0} (weight : K → Key) (meaning : R → Rule) (s₀ : State) (calls : List (Call K R)) (before : List (Result Answer Failure)) where
  -- after i calls
  pub record Sofar (i : ℕ) (answers : List (Result Answer Failure)) (s : State) : Type 0 where
    pub within : i ≤ made calls before
    pub long : length answers ≡ length before
    pub ran : Ran weight meaning s₀ (take i calls) (take i answers) s
    pub rest : drop i answers ≡ drop i before
    pub agrees : s₀.store.world ≡ empty s₀.store.world.places → s₀.papers ≡ [] → Agrees (history weight meaning (take i calls) (take i answers)) s.store.world s.papers
    pub memory : Ample s₀.store → length s₀.papers + made calls before ≤ s₀.room → Spare (made calls before - i) s × All (λ a. number_told a ≡ number Memory → ⊥) (take i answers)

  pub at_first : Sofar 0 before s₀
  at_first = record {
    within = omega arith;
    long = refl;
    ran = refl;
    rest = refl;
    agrees = λ new none. none_yet s₀.store.world new s₀.papers none;
    memory = λ ample room. (record { tables = ample; papers = omega arith }, λ k d low. absurd (omega arith));
  }

  further : (i : ℕ) (answers : List (Result Answer Failure)) → drop i answers ≡ drop i before → drop (i + 1) answers ≡ drop (i + 1) before
  further i answers same = sym (drop-drop 1 i answers) ∙ ap (drop 1) same ∙ drop-drop 1 i before

  pub one_more : Light weight → ((r : R) → Rounds (meaning r)) → (i : ℕ) (answers : List (Result Answer Failure)) (s s' : State) (d : Call K R) (a : Result Answer Failure) → i < made calls before
      → sound s.store.world ≡ true → Sofar i answers s → Stepped weight meaning s d a s' → d ≡ get_or calls i d → Sofar (i + 1) (set answers i a) s'
  one_more light rounds i answers s s' d a low good old stepped this =
      let c = get_or calls i d in
      let next = rw this at stepped in
      let calls_more = take_more calls i d (omega arith) in
      let answers_more = take_more_set answers i a (omega (arith, old.long)) in
      let level : length (take i answers) ≡ length (take i calls) = length-take-le i answers (omega (arith, old.long)) ∙ sym (length-take-le i calls (omega arith)) in
      let is_sound = parts s.store.world good in
      record {
        within = omega arith;
        long = length-set answers i a ∙ old.long;
        ran = rw (calls_more, answers_more) (ran-push weight meaning s₀ (take i calls) (take i answers) s c a s' old.ran next);
        rest = drop-set-lt (i + 1) answers i a (omega arith) ∙ further i answers old.rest;
        agrees = λ new none.
            rw (calls_more, answers_more, history-push weight meaning [] (take i calls) (take i answers) c a level)
            (step weight meaning light rounds (history weight meaning (take i calls) (take i answers)) s s' (old.agrees new none) a is_sound c next);
        memory = λ ample room.
            let was = old.memory ample room in
            let left : made calls before - i ≡ made calls before - (i + 1) + 1 = omega arith in
            let now = spared weight meaning (made calls before - (i + 1)) s s' a (rw left at was.0) c is_sound next in
            (now.0, rw answers_more (All-push (λ x. number_told x ≡ number Memory → ⊥) (take i answers) a was.1 now.1));
      }

  pub all_made : (i : ℕ) (answers : List (Result Answer Failure)) (s : State) → made calls before ≤ i → sound s.store.world ≡ true → Sofar i answers s → Agreement weight meaning s₀ calls before answers s
  all_made i answers s past good so =
      let e : i ≡ made calls before = omega (arith, so.within) in
      record {
        ran = rw e at so.ran;
        rest = rw e at so.rest;
        law = λ new none. lawful _ s.store.world s.papers (parts s.store.world good).rows (rw e at (so.agrees new none));
        memory = λ ample room. rw e at (so.memory ample room).1;
      }
