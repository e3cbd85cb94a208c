-- How bytes are cut at a byte, into lines or into fields, one after another.
use Rattle.std.proofs.Common.{◌≡◌, ℕ, suc, ◌+◌, ◌<◌, ◌≤◌, Bool, true, false, cond, not, eqb, ltb, List, [], ◌∷◌, length, take, drop, Some, None, Option, is_some, MatchOption, refl, ap, ◌∙◌, arith}
use Rattle.std.specs.List.{position, position_or_len}
use Rattle.std.proofs.lemmas.Bool.{lt-ltb, ltb-false, ltb-true}
use Rattle.readings.specs.Texts.{Piece, Text, cut_from, cut_up, fields_of, led, text, uncut}

-- how many bytes stand before the first `stop`
abbrev upto : ℕ → List ℕ → ℕ
upto stop bs = position_or_len (λ c. eqb c stop) bs

found : (b : Bool) (k n : ℕ) → Some n ≡ cond b (Some k) None → (b ≡ true) × (n ≡ k)
found true k n e = (refl, cc)
found false k n e = absurd cc

missed : (b : Bool) (k : ℕ) → None ≡ cond b (Some k) None → b ≡ false
missed true k e = absurd cc
missed false k e = refl

module _ (stop : ℕ) (blank : Bool) where
  -- the first text, of n bytes, and the others
  abbrev cut_at : ℕ → List ℕ → ℕ → List Text
  cut_at at bs n = record { place = at; bytes = take n bs } ∷ cut_from stop blank (at + n + 1) (drop (n + 1) bs)

  -- one more byte in front of the first text
  longer : (at c : ℕ) (cs : List ℕ) (n : ℕ) → cut_from stop blank (at + 1) cs ≡ cut_at (at + 1) cs n → led at c (cut_from stop blank (at + 1) cs) ≡ cut_at at (c ∷ cs) (1 + n)
  longer at c cs n h =
      let one : 1 + n ≡ suc n = omega arith in
      let more : 1 + n + 1 ≡ suc (n + 1) = omega arith in
      let place : at + (1 + n) + 1 ≡ at + 1 + n + 1 = omega arith in
      rw (more, place, one) (ap (led at c) h)

  step : (at c : ℕ) (cs : List ℕ) (b : Bool) → (upto stop cs < length cs → cut_from stop blank (at + 1) cs ≡ cut_at (at + 1) cs (upto stop cs)) → cond (not b) (1 + upto stop cs) 0 < suc (length cs)
      → cond b (record { place = at; bytes = [] } ∷ cut_from stop blank (at + 1) cs) (led at c (cut_from stop blank (at + 1) cs)) ≡ cut_at at (c ∷ cs) (cond (not b) (1 + upto stop cs) 0)
  step at c cs true h s = let none : at + 0 + 1 ≡ at + 1 = omega arith in rw none refl
  step at c cs false h s = longer at c cs (upto stop cs) (h (omega arith))

  first_cut : (at : ℕ) (bs : List ℕ) → upto stop bs < length bs → cut_from stop blank at bs ≡ cut_at at bs (upto stop bs)
  first_cut at [] h = absurd (omega arith)
  first_cut at (c ∷ cs) h = step at c cs (eqb c stop) (first_cut (at + 1) cs) h

  -- a byte in front of bytes that nothing ends
  led_uncut : (b : Bool) (at c : ℕ) (cs : List ℕ) → led at c (uncut b (record { place = at + 1; bytes = cs })) ≡ uncut b (record { place = at; bytes = c ∷ cs })
  led_uncut true at c cs = refl
  led_uncut false at c [] = refl
  led_uncut false at c (x ∷ xs) = rw (lt-ltb 0 (suc (length xs)) (omega arith), lt-ltb 0 (suc (suc (length xs))) (omega arith)) refl

  no_step : (at c : ℕ) (cs : List ℕ) (b : Bool) → (length cs ≤ upto stop cs → cut_from stop blank (at + 1) cs ≡ uncut blank (record { place = at + 1; bytes = cs })) → suc (length cs) ≤ cond (not b) (1 + upto stop cs) 0
      → cond b (record { place = at; bytes = [] } ∷ cut_from stop blank (at + 1) cs) (led at c (cut_from stop blank (at + 1) cs)) ≡ uncut blank (record { place = at; bytes = c ∷ cs })
  no_step at c cs true h s = absurd (omega arith)
  no_step at c cs false h s = ap (led at c) (h (omega arith)) ∙ led_uncut blank at c cs

  no_cut : (at : ℕ) (bs : List ℕ) → length bs ≤ upto stop bs → cut_from stop blank at bs ≡ uncut blank (record { place = at; bytes = bs })
  no_cut at [] h = refl
  no_cut at (c ∷ cs) h = no_step at c cs (eqb c stop) (no_cut (at + 1) cs) h

  pub cut-at : (t : Text) (n : ℕ) → Some n ≡ position (λ c. eqb c stop) t.bytes
      → cut_up stop blank t ≡ record { place = t.place; bytes = take n t.bytes } ∷ cut_up stop blank (record { place = t.place + n + 1; bytes = drop (n + 1) t.bytes })
  cut-at t n e =
      let k = upto stop t.bytes in
      let f = found (ltb k (length t.bytes)) k n e in
      rw f.1 (first_cut t.place t.bytes (ltb-true k (length t.bytes) f.0))

  pub cut-nowhere : (t : Text) → None ≡ position (λ c. eqb c stop) t.bytes → cut_up stop blank t ≡ uncut blank t
  cut-nowhere t e = let k = upto stop t.bytes in no_cut t.place t.bytes (ltb-false k (length t.bytes) (missed (ltb k (length t.bytes)) k e))

led-some : (at c : ℕ) (ts : List Text) → 0 < length (led at c ts)
led-some at c [] = omega arith
led-some at c (t ∷ ts) = omega arith

some_step : (at c : ℕ) (ts : List Text) (b : Bool) → 0 < length (cond b (record { place = at; bytes = [] } ∷ ts) (led at c ts))
some_step at c ts true = omega arith
some_step at c ts false = led-some at c ts

-- some bytes are some texts
pub some_cut : (stop : ℕ) (blank : Bool) (at c : ℕ) (cs : List ℕ) → 0 < length (cut_from stop blank at (c ∷ cs))
some_cut stop blank at c cs = some_step at c (cut_from stop blank (at + 1) cs) (eqb c stop)

-- there is always a field
pub fields-some : (stop at : ℕ) (bs : List ℕ) → 0 < length (cut_from stop true at bs)
fields-some stop at [] = omega arith
fields-some stop at (c ∷ cs) = some_cut stop true at c cs

few_step : (at c : ℕ) (ts : List Text) (b : Bool) (n : ℕ) → length ts ≤ n → length (cond b (record { place = at; bytes = [] } ∷ ts) (led at c ts)) ≤ suc n
few_step at c ts true n h = omega arith
few_step at c [] false n h = omega arith
few_step at c (t ∷ ts) false n h = omega arith

-- there are no more lines than bytes
pub lines-few : (at : ℕ) (bs : List ℕ) → length (cut_from 10 false at bs) ≤ length bs
lines-few at [] = omega arith
lines-few at (c ∷ cs) = few_step at c (cut_from 10 false (at + 1) cs) (eqb c 10) (length cs) (lines-few (at + 1) cs)

-- a text with a semicolon is more than one field
pub more_fields : (t : Text) (o : Option (Piece × Piece)) → MatchOption o (fields_of t ≡ t ∷ []) (λ p. fields_of t ≡ text p.0 ∷ fields_of (text p.1)) → true ≡ is_some o → 1 < length (fields_of t)
more_fields t None f e = absurd cc
more_fields t (Some p) f e = omega (arith, ap length f, fields-some 59 (text p.1).place (text p.1).bytes)
