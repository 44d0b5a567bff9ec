-- How the walk goes over a number, and over a line, as they are written.
--
--   number-walk   a number of at most five digits
--   line_walk     a line of three such numbers: it is judged as a whole
--
-- Assumes nothing.
use Prim.Native.Nat.{ℕ, zero, suc, ◌+◌, ◌-◌, ◌*◌, ◌/◌, ◌%◌, ◌^◌, ◌<◌}
use native.Mathlib.Nat.{pow-suc}
use native.Mathlib.Omega.{arith}
use native.Mathlib.Decide.{dec_le}
use mathlib.Core.Path.{◌≡◌, refl, sym, ap, ◌∙◌}
use mathlib.Core.Bool.{true, false}
use mathlib.Core.List.{List, [], ◌∷◌, ◌++◌, append_assoc}
use lib.ListN.{length, length-append}
use borrow.Author.Tests.{le-leb, lt-ltb}
use Rattle.rules.specs.State.{Setting}
use Rattle.plan.specs.declared.judge.Seen.{Seen}
use Rattle.text.specs.Decimal.{decimal}
use Rattle.text.proofs.Widths.{decimal-one}
use Rattle.sheet.specs.Form.{is_digit, extends, stop, no_digits, new_line, number_closed, line_step}
use Rattle.sheet.specs.Judge.{verdict}
use Rattle.sheet.specs.Read.{sheet_walk}
use Rattle.sheet.specs.Text.{line_bytes}
use Rattle.sheet.specs.Promises.{place₁, place₂, place₃, row_at}
use Rattle.sheet.specs.declared.form.Part.{Part}
use Rattle.sheet.specs.declared.form.Part.TheVariants.{Lane, Weight, Longest}
use Rattle.sheet.specs.declared.form.Line.{Line}
use Rattle.sheet.specs.declared.form.Step.{Step}
use Rattle.sheet.proofs.Turn.{after_line, after-byte}
use Rattle.sheet.proofs.Decimals.{decimal-more}
use Rattle.sheet.proofs.Answers.{step-digit, step-stop}

-- one byte of the walk
pub walk-byte : (seen : Seen) (gs : List Setting) (f : Line) (at b : ℕ) (bs : List ℕ) (s : Step) → s ≡ line_step f at b
    → sheet_walk seen gs f at (b ∷ bs) ≡ after-byte seen gs at s (λ seen₁ gs₁ f₁. sheet_walk seen₁ gs₁ f₁ (at + 1) bs)
unfolding sheet_walk
walk-byte seen gs f at b bs s e = ap (λ (t : Step). after-byte seen gs at t (λ seen₁ gs₁ f₁. sheet_walk seen₁ gs₁ f₁ (at + 1) bs)) (sym e)

pub digit-of : (d : ℕ) → d < 10 → is_digit (48 + d) ≡ true
digit-of d h = rw (le-leb 48 (48 + d) (omega arith), le-leb (48 + d) 57 (omega arith))

stop-digit : (p : Part) → is_digit (stop p) ≡ false
stop-digit Lane = refl
stop-digit Weight = refl
stop-digit Longest = refl

-- a line with a number more that is read so far
abbrev pub numbered : Line → ℕ → Line
numbered f n = record { part = f.part; lane = f.lane; weight = f.weight; begun = true; last = record { value = n; place = f.last.place } }

module _ (seen : Seen) (gs : List Setting) (f : Line) where
  more-digit : (q d at : ℕ) (bs : List ℕ) → 0 < q → q < 10000 → d < 10
      → sheet_walk seen gs (numbered f q) at ((48 + d) ∷ bs) ≡ sheet_walk seen gs (numbered f (q * 10 + d)) (at + 1) bs
  more-digit q d at bs lo hi h =
      let x : extends true q ≡ true = rw (lt-ltb 0 q lo, lt-ltb q 10000 hi) in
      let v : q * 10 + (48 + d - 48) ≡ q * 10 + d = omega arith in
      walk-byte seen gs (numbered f q) at (48 + d) bs _ (step-digit (numbered f q) at (48 + d) (digit-of d h) x)
      ∙ ap (λ (n : ℕ). sheet_walk seen gs (numbered f n) (at + 1) bs) v

  module _ (fresh : f.begun ≡ false) (none : f.last.value ≡ 0) where
    one-digit : (n at : ℕ) (bs : List ℕ) → n < 10 → sheet_walk seen gs f at (decimal n ++ bs) ≡ sheet_walk seen gs (numbered f n) (at + length (decimal n)) bs
    one-digit n at bs h =
        let x : extends f.begun f.last.value ≡ true = rw fresh in
        let v : f.last.value * 10 + (48 + n - 48) ≡ n = omega arith in
        ap (λ (l : List ℕ). sheet_walk seen gs f at (l ++ bs)) (decimal-one n h)
        ∙ walk-byte seen gs f at (48 + n) bs _ (step-digit f at (48 + n) (digit-of n h) x)
        ∙ ap (λ (m : ℕ). sheet_walk seen gs (numbered f m) (at + 1) bs) v
        ∙ ap (λ (l : List ℕ). sheet_walk seen gs (numbered f n) (at + length l) bs) (sym (decimal-one n h))

    -- a number with a digit more
    longer : (q d at : ℕ) (bs : List ℕ) → 0 < q → q < 10000 → d < 10
        → ((cs : List ℕ) → sheet_walk seen gs f at (decimal q ++ cs) ≡ sheet_walk seen gs (numbered f q) (at + length (decimal q)) cs)
        → sheet_walk seen gs f at (decimal (q * 10 + d) ++ bs) ≡ sheet_walk seen gs (numbered f (q * 10 + d)) (at + length (decimal (q * 10 + d))) bs
    longer q d at bs lo hi h shorter =
        let e = decimal-more q d h lo (omega arith) in
        let place : at + length (decimal q) + 1 ≡ at + length (decimal (q * 10 + d)) = omega (arith, ap length e, length-append (decimal q) ((48 + d) ∷ [])) in
        ap (λ (l : List ℕ). sheet_walk seen gs f at (l ++ bs)) e
        ∙ ap (sheet_walk seen gs f at) (append_assoc (decimal q) ((48 + d) ∷ []) bs)
        ∙ shorter ((48 + d) ∷ bs)
        ∙ more-digit q d (at + length (decimal q)) bs lo hi h
        ∙ ap (λ (p : ℕ). sheet_walk seen gs (numbered f (q * 10 + d)) p bs) place

    digits-walk : (k n at : ℕ) (bs : List ℕ) → n < 10 ^ suc k → n < 100000 → sheet_walk seen gs f at (decimal n ++ bs) ≡ sheet_walk seen gs (numbered f n) (at + length (decimal n)) bs
    digits-walk zero n at bs h few = one-digit n at bs (omega arith)
    digits-walk (suc k) n at bs h few =
        elim (dec_le 10 n) [
          | yes b ↦
              let e : n / 10 * 10 + n % 10 ≡ n = omega arith in
              let l = longer (n / 10) (n % 10) at bs (omega arith) (omega arith) (omega arith) (λ cs. digits-walk k (n / 10) at cs (omega (arith, pow-suc 10 (suc k))) (omega arith)) in
              ap (λ (m : ℕ). sheet_walk seen gs f at (decimal m ++ bs)) (sym e) ∙ l ∙ ap (λ (m : ℕ). sheet_walk seen gs (numbered f m) (at + length (decimal m)) bs) e
          | no b ↦ one-digit n at bs (omega arith)
        ]

    pub number-walk : (n at : ℕ) (bs : List ℕ) → n < 100000 → sheet_walk seen gs f at (decimal n ++ bs) ≡ sheet_walk seen gs (numbered f n) (at + length (decimal n)) bs
    number-walk n at bs few = digits-walk 4 n at bs (omega arith) few

    -- and the byte that ends it
    pub word-walk : (n at : ℕ) (bs : List ℕ) → n < 100000
        → sheet_walk seen gs f at (decimal n ++ stop f.part ∷ bs)
        ≡ after-byte seen gs (at + length (decimal n)) (number_closed f.part (numbered f n) (at + length (decimal n) + 1)) (λ seen₁ gs₁ f₁. sheet_walk seen₁ gs₁ f₁ (at + length (decimal n) + 1) bs)
    word-walk n at bs few =
        number-walk n at (stop f.part ∷ bs) few
        ∙ walk-byte seen gs (numbered f n) (at + length (decimal n)) (stop f.part) bs _
        (step-stop (numbered f n) (at + length (decimal n)) (stop f.part) (stop-digit f.part) refl refl)

module _ (a b c at : ℕ) where
  pub length-line : at + length (line_bytes a b c) ≡ place₃ a b c at
  length-line = omega (arith, length-append (decimal a) (32 ∷ (decimal b ++ 32 ∷ (decimal c ++ 10 ∷ []))), length-append (decimal b) (32 ∷ (decimal c ++ 10 ∷ [])), length-append (decimal c) (10 ∷ []))

  parted : (bs : List ℕ) → line_bytes a b c ++ bs ≡ decimal a ++ 32 ∷ (decimal b ++ 32 ∷ (decimal c ++ 10 ∷ bs))
  parted bs =
      append_assoc (decimal a) (32 ∷ (decimal b ++ 32 ∷ (decimal c ++ 10 ∷ []))) bs
      ∙ ap (λ (l : List ℕ). decimal a ++ 32 ∷ l) (append_assoc (decimal b) (32 ∷ (decimal c ++ 10 ∷ [])) bs ∙ ap (λ (l : List ℕ). decimal b ++ 32 ∷ l) (append_assoc (decimal c) (10 ∷ []) bs))

  abbrev line₁ : Line
  line₁ = record { part = Weight; lane = record { value = a; place = at }; weight = no_digits at; begun = false; last = no_digits (place₁ a b c at) }

  abbrev line₂ : Line
  line₂ = record { part = Longest; lane = record { value = a; place = at }; weight = record { value = b; place = place₁ a b c at }; begun = false; last = no_digits (place₂ a b c at) }

  pub line_walk : (seen : Seen) (gs : List Setting) (bs : List ℕ) → a < 100000 → b < 100000 → c < 100000
      → sheet_walk seen gs (new_line at) at (line_bytes a b c ++ bs) ≡ after_line seen gs (place₃ a b c at) (row_at a b c at) (verdict seen (row_at a b c at)) (λ seen₁ gs₁ f₁. sheet_walk seen₁ gs₁ f₁ (place₃ a b c at) bs)
  line_walk seen gs bs ha hb hc =
      ap (sheet_walk seen gs (new_line at) at) (parted bs)
      ∙ word-walk seen gs (new_line at) refl refl a at (decimal b ++ 32 ∷ (decimal c ++ 10 ∷ bs)) ha
      ∙ word-walk seen gs line₁ refl refl b (place₁ a b c at) (decimal c ++ 10 ∷ bs) hb
      ∙ word-walk seen gs line₂ refl refl c (place₂ a b c at) bs hc
