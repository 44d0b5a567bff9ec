-- Laws of writing a sheet.
--
--   line-length   how long a line is
--   line-stores   three numbers, each with the byte that ends it, one behind the other are a line
--   Writing       how the writing of the lanes stands before lane k: the invariant of `put_lanes`
--   Sizing        and how the counting of the bytes does: the invariant of `sheet_size`
--
-- Assumes nothing.
use Prim.Native.Nat.{ℕ, suc, ◌+◌, ◌*◌, ◌^◌, ◌≤◌, ◌<◌}
use native.Mathlib.Omega.{arith}
use mathlib.Core.Path.{◌≡◌, refl, sym, ap, subst, ◌∙◌}
use mathlib.Core.List.{List, [], ◌∷◌, ◌++◌, append_assoc, append-nil}
use mathlib.Core.Logic.{⊎_elim}
use lib.ListN.{length, get_or, drop, length-append, drop_of_length-le}
use lib.Seq.{sets, drop-cons}
use Rattle.rules.specs.State.{Setting, no_setting}
use Rattle.rules.specs.Setup.{Setup, InNumbers}
use Rattle.text.specs.Decimal.{decimal}
use Rattle.text.proofs.Stores.{sets-append}
use Rattle.text.proofs.Widths.{written-width, ten-mono, decimal-one}
use Rattle.sheet.specs.Text.{line_bytes, lane_line, sheet_from, sheet_bytes}
use Rattle.sheet.proofs.Numbers.{length-line}
use Rattle.sheet.proofs.Sheets.{line-there}

pub line-length : (a b c : ℕ) → length (line_bytes a b c) ≡ length (decimal a) + 1 + length (decimal b) + 1 + length (decimal c) + 1
line-length a b c = omega (arith, length-line a b c 0)

pub line-stores : (l : List ℕ) (at a b c : ℕ)
    → sets (sets (sets l at (decimal a ++ 32 ∷ [])) (at + length (decimal a) + 1) (decimal b ++ 32 ∷ [])) (at + length (decimal a) + 1 + length (decimal b) + 1) (decimal c ++ 10 ∷ [])
    ≡ sets l at (line_bytes a b c)
line-stores l at a b c =
    let x = decimal a ++ 32 ∷ [] in
    let y = decimal b ++ 32 ∷ [] in
    let z = decimal c ++ 10 ∷ [] in
    let p : at + length (decimal a) + 1 ≡ at + length x = omega (arith, length-append (decimal a) (32 ∷ [])) in
    let q : at + length (decimal a) + 1 + length (decimal b) + 1 ≡ at + length (x ++ y) =
    omega (arith, length-append (decimal a) (32 ∷ []), length-append (decimal b) (32 ∷ []), length-append x y)
    in
    ap (λ (i : ℕ). sets (sets (sets l at x) i y) (at + length (decimal a) + 1 + length (decimal b) + 1) z) p
    ∙ ap (λ (m : List ℕ). sets m (at + length (decimal a) + 1 + length (decimal b) + 1) z) (sets-append l at x y)
    ∙ ap (λ (i : ℕ). sets (sets l at (x ++ y)) i z) q
    ∙ sets-append l at (x ++ y) z
    ∙ ap (sets l at)
    (append_assoc x y z ∙ append_assoc (decimal a) (32 ∷ []) (y ++ z) ∙ ap (λ (m : List ℕ). decimal a ++ 32 ∷ m) (append_assoc (decimal b) (32 ∷ []) z))

-- ---- the lanes from k on

abbrev pub lane_at : List Setting → ℕ → Setting
lane_at gs k = get_or gs k no_setting

pub rest-next : (gs : List Setting) (k : ℕ) → k < length gs → sheet_from k (drop k gs) ≡ lane_line k (lane_at gs k) ++ sheet_from (k + 1) (drop (k + 1) gs)
unfolding sheet_from
rest-next gs k h =
    let e : suc k ≡ k + 1 = omega arith in
    ap (sheet_from k) (drop-cons gs k no_setting h) ∙ ap (λ (i : ℕ). lane_line k (lane_at gs k) ++ sheet_from i (drop i gs)) e

pub rest-none : (gs : List Setting) (k : ℕ) → length gs ≤ k → sheet_from k (drop k gs) ≡ []
unfolding sheet_from
rest-none gs k h = ap (sheet_from k) (drop_of_length-le gs h)

pub line-absent : (k : ℕ) (g : Setting) → g.weight ≡ 0 → lane_line k g ≡ []
line-absent k g e = rw e

pub record Writing (gs : List Setting) (buf₀ buf : List ℕ) (at k : ℕ) : Type 0 where
  pub low : k ≤ 64
  pub front : List ℕ
  pub stored : buf ≡ sets buf₀ 0 front
  pub past : at ≡ length front
  pub whole : front ++ sheet_from k (drop k gs) ≡ sheet_bytes gs

module _ (gs : List Setting) (size : length gs ≡ 64) (buf₀ : List ℕ) where
  pub writing-first : Writing gs buf₀ buf₀ 0 0
  unfolding sheet_bytes
  writing-first = record { low = omega arith; front = []; stored = refl; past = refl; whole = refl }

  module _ (buf : List ℕ) (at k : ℕ) (w : Writing gs buf₀ buf at k) where
    pub writing-done : 64 ≤ k → buf ≡ sets buf₀ 0 (sheet_bytes gs)
    writing-done h =
        w.stored ∙ ap (sets buf₀ 0) (sym (append-nil w.front) ∙ ap (λ (l : List ℕ). w.front ++ l) (sym (rest-none gs k (omega arith))) ∙ w.whole)

    module _ (h : k < 64) where
      next : (w.front ++ lane_line k (lane_at gs k)) ++ sheet_from (k + 1) (drop (k + 1) gs) ≡ sheet_bytes gs
      next =
          append_assoc w.front (lane_line k (lane_at gs k)) (sheet_from (k + 1) (drop (k + 1) gs))
          ∙ ap (λ (l : List ℕ). w.front ++ l) (sym (rest-next gs k (omega arith)))
          ∙ w.whole

      pub writing-skip : (lane_at gs k).weight ≡ 0 → Writing gs buf₀ buf at (k + 1)
      writing-skip e = record {
        low = omega arith;
        front = w.front;
        stored = w.stored;
        past = w.past;
        whole = ap (λ (l : List ℕ). l ++ sheet_from (k + 1) (drop (k + 1) gs)) (sym (ap (λ (l : List ℕ). w.front ++ l) (line-absent k (lane_at gs k) e) ∙ append-nil w.front)) ∙ next;
      }

      abbrev line : List ℕ
      line = line_bytes k (lane_at gs k).weight (lane_at gs k).longest

      module _ (some : 1 ≤ (lane_at gs k).weight) where
        with-line : (w.front ++ line) ++ sheet_from (k + 1) (drop (k + 1) gs) ≡ sheet_bytes gs
        with-line = ap (λ (l : List ℕ). (w.front ++ l) ++ sheet_from (k + 1) (drop (k + 1) gs)) (sym (line-there k (lane_at gs k) some)) ∙ next

        pub line-fits : at + length line ≤ length (sheet_bytes gs)
        line-fits = omega (arith, w.past, ap length with-line, length-append (w.front ++ line) (sheet_from (k + 1) (drop (k + 1) gs)), length-append w.front line)

        pub writing-line : Writing gs buf₀ (sets buf at line) (at + length line) (k + 1)
        writing-line = record {
          low = omega arith;
          front = w.front ++ line;
          stored = ap (λ (b : List ℕ). sets b at line) w.stored ∙ ap (λ (i : ℕ). sets (sets buf₀ 0 w.front) i line) (w.past ∙ omega arith) ∙ sets-append buf₀ 0 w.front line;
          past = omega (arith, w.past, length-append w.front line);
          whole = with-line;
        }

      -- the same of a lane as the code reads it
      module _ (g : Setting) (e : lane_at gs k ≡ g) where
        pub skip_read : g.weight ≡ 0 → Writing gs buf₀ buf at (k + 1)
        skip_read z = writing-skip (ap (λ (x : Setting). x.weight) e ∙ z)

        some_read : (g.weight ≡ 0 → ⊥) → 1 ≤ (lane_at gs k).weight
        some_read z = let s : 1 ≤ g.weight = omega (arith, z) in subst (λ (x : Setting). 1 ≤ x.weight) (sym e) s

        pub fits_read : (g.weight ≡ 0 → ⊥) → at + length (line_bytes k g.weight g.longest) ≤ length (sheet_bytes gs)
        fits_read z = subst (λ (x : Setting). at + length (line_bytes k x.weight x.longest) ≤ length (sheet_bytes gs)) e (line-fits (some_read z))

        pub line_read : (g.weight ≡ 0 → ⊥) → Writing gs buf₀ (sets buf at (line_bytes k g.weight g.longest)) (at + length (line_bytes k g.weight g.longest)) (k + 1)
        line_read z =
            subst (λ (x : Setting). Writing gs buf₀ (sets buf at (line_bytes k x.weight x.longest)) (at + length (line_bytes k x.weight x.longest)) (k + 1)) e (writing-line (some_read z))

-- ---- the size

pub record Sizing (gs : List Setting) (n k : ℕ) : Type 0 where
  pub low : k ≤ 64
  pub few : n ≤ 18 * k
  pub whole : n + length (sheet_from k (drop k gs)) ≡ length (sheet_bytes gs)

module _ (gs : List Setting) (ok : Setup gs) where
  pub sizing-first : Sizing gs 0 0
  unfolding sheet_bytes
  sizing-first = record { low = omega arith; few = omega arith; whole = omega arith }

  module _ (n k : ℕ) (w : Sizing gs n k) where
    pub sizing-done : 64 ≤ k → n ≡ length (sheet_bytes gs)
    sizing-done h = omega (arith, w.whole, ap length (rest-none gs k (omega (arith, ok.size))))

    module _ (h : k < 64) where
      step-length : length (sheet_from k (drop k gs)) ≡ length (lane_line k (lane_at gs k)) + length (sheet_from (k + 1) (drop (k + 1) gs))
      step-length = ap length (rest-next gs k (omega (arith, ok.size))) ∙ length-append (lane_line k (lane_at gs k)) (sheet_from (k + 1) (drop (k + 1) gs))

      pub sizing-skip : (lane_at gs k).weight ≡ 0 → Sizing gs n (k + 1)
      sizing-skip e = record { low = omega arith; few = omega (arith, w.few); whole = omega (arith, w.whole, step-length, ap length (line-absent k (lane_at gs k) e)) }

      -- a lane that is there has small numbers
      pub small : ((lane_at gs k).weight ≡ 0 → ⊥) → InNumbers (lane_at gs k)
      small e = ⊎_elim (λ i. i) (λ z. absurd (e (ap (λ (g : Setting). g.weight) z))) (ok.each k)

      pub sizing-line : (x y z : ℕ) → 1 ≤ (lane_at gs k).weight → x ≡ length (decimal k) → y ≡ length (decimal (lane_at gs k).weight) → z ≡ length (decimal (lane_at gs k).longest)
          → x ≤ 5 → y ≤ 5 → z ≤ 5 → Sizing gs (n + (x + y + z + 3)) (k + 1)
      sizing-line x y z some ex ey ez lx ly lz = record {
        low = omega arith;
        few = omega (arith, w.few);
        whole = omega (arith, w.whole, step-length, ap length (line-there k (lane_at gs k) some), line-length k (lane_at gs k).weight (lane_at gs k).longest);
      }

      module _ (g : Setting) (e : lane_at gs k ≡ g) where
        pub sized-skip : g.weight ≡ 0 → Sizing gs n (k + 1)
        sized-skip z = sizing-skip (ap (λ (x : Setting). x.weight) e ∙ z)

        module _ (z : g.weight ≡ 0 → ⊥) where
          pub sized-small : InNumbers g
          sized-small = subst InNumbers e (small (λ q. z (sym (ap (λ (x : Setting). x.weight) e) ∙ q)))

          pub sized-line : (x y w : ℕ) → x ≡ length (decimal k) → y ≡ length (decimal g.weight) → w ≡ length (decimal g.longest) → x ≤ 5 → y ≤ 5 → w ≤ 5 → Sizing gs (n + (x + y + w + 3)) (k + 1)
          sized-line x y w ex ey ew lx ly lw =
              let some : 1 ≤ (lane_at gs k).weight = subst (λ (q : Setting). 1 ≤ q.weight) (sym e) sized-small.weight_low in
              sizing-line x y w some ex (ey ∙ ap (λ (q : Setting). length (decimal q.weight)) (sym e)) (ew ∙ ap (λ (q : Setting). length (decimal q.longest)) (sym e)) lx ly lw

-- ---- how many digits a number has

pub width_one : (n : ℕ) → n < 10 → 1 ≡ length (decimal n)
width_one n h = sym (ap length (decimal-one n h))

pub width-by : (n k : ℕ) → 10 ^ k ≤ n → n < 10 ^ suc k → n < 100000 → suc k ≡ length (decimal n)
width-by n k lo hi few = sym (written-width n {k = suc k} (omega arith) (record { some = omega arith; enough = hi; none_below = λ j p q. ten-mono n k j lo q }))
