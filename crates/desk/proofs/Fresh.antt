-- A train that is on no line: one of the numbers 0 to 64, since 64 lines cannot hold 65 trains. Assumes nothing.
use Prim.Native.Nat.{ℕ, zero, suc, ◌+◌, ◌≤◌, ◌<◌}
use native.Mathlib.Omega.{arith}
use mathlib.Core.Path.{◌≡◌, refl}
use mathlib.Core.Bool.{Bool, true, false}
use mathlib.Core.Logic.{◌⊎◌, inl, inr, ⊎_elim}
use mathlib.Core.List.{[], ◌∷◌}
use mathlib.Core.Option.{Option, none, some}
use lib.ListN.{length}
use borrow.Author.Tests.{eq-eqb, ne_eqb}
use Rattle.units.specs.Plain.{count}
use Rattle.words.proofs.Runs.{le-or-lt, eq-or-ne}
use Rattle.desk.specs.Board.{Handover, Board, line_at, is_of}

-- the lines of train t, and the lines of the trains below m
abbrev lines_of : ℕ → Board → ℕ
lines_of t [] = 0
lines_of t (x ∷ xs) = count (is_of t x) + lines_of t xs

abbrev below : ℕ → Board → ℕ
below zero b = 0
below (suc m) b = lines_of m b + below m b

abbrev one : ℕ → Option Handover → ℕ
one zero x = 0
one (suc m) x = count (is_of m x) + one m x

one-some : (m : ℕ) (r : Handover) → (one m (some r) ≤ 1) × (m ≤ r.train → one m (some r) ≡ 0)
one-some zero r = (omega arith, λ h. refl)
one-some (suc m) r =
    let i = one-some m r in
    ⊎_elim
    (λ (e : r.train ≡ m). rw (eq-eqb r.train m e) (omega (arith, i.1 (omega arith)), λ h. absurd (omega arith)))
    (λ (n : r.train ≡ m → ⊥). rw (ne_eqb r.train m n) (omega (arith, i.0), λ h. omega (arith, i.1 (omega arith))))
    (eq-or-ne r.train m)

one-le : (m : ℕ) (x : Option Handover) → one m x ≤ 1
one-le m (some r) = (one-some m r).0
one-le zero none = omega arith
one-le (suc m) none = omega (arith, one-le m none)

below-nil : (m : ℕ) → below m [] ≡ 0
below-nil zero = refl
below-nil (suc m) = omega (arith, below-nil m)

below-cons : (m : ℕ) (x : Option Handover) (xs : Board) → below m (x ∷ xs) ≡ one m x + below m xs
below-cons zero x xs = refl
below-cons (suc m) x xs = omega (arith, below-cons m x xs)

below-le : (m : ℕ) (b : Board) → below m b ≤ length b
below-le m [] = omega (arith, below-nil m)
below-le m (x ∷ xs) = omega (arith, below-cons m x xs, one-le m x, below-le m xs)

-- each of the trains below m has a line, or one has none
search-free : (m : ℕ) (b : Board) → (m ≤ below m b) ⊎ ((t : ℕ) × (t < m) × (lines_of t b ≡ 0))
search-free zero b = inl (omega arith)
search-free (suc m) b =
    ⊎_elim
    (λ (h : m ≤ below m b). ⊎_elim (λ (q : lines_of m b ≤ 0). inr (m, omega arith, omega arith)) (λ (q : 0 < lines_of m b). inl (omega arith)) (le-or-lt (lines_of m b) 0))
    (λ (f : (t : ℕ) × (t < m) × (lines_of t b ≡ 0)). inr (f.0, omega (arith, f.1), f.2))
    (search-free m b)

no_lines : (t : ℕ) (b : Board) → lines_of t b ≡ 0 → (j : ℕ) → is_of t (line_at b j) ≡ false
no_lines t [] e j = refl
no_lines t (x ∷ xs) e zero = go (is_of t x) e
  where
    go : (v : Bool) → count v + lines_of t xs ≡ 0 → v ≡ false
    go true e = absurd (omega arith)
    go false e = refl
no_lines t (x ∷ xs) e (suc j) = no_lines t xs (omega arith) j

pub fresh : (b : Board) → (t : ℕ) × (t ≤ length b) × ((j : ℕ) → is_of t (line_at b j) ≡ false)
fresh b =
    ⊎_elim
    (λ (h : suc (length b) ≤ below (suc (length b)) b). absurd (omega (arith, below-le (suc (length b)) b)))
    (λ (f : (t : ℕ) × (t < suc (length b)) × (lines_of t b ≡ 0)). (f.0, omega (arith, f.1), no_lines f.0 b f.2))
    (search-free (suc (length b)) b)
