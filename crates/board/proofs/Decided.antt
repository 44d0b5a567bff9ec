-- Bytes show a board or none, whatever they are. Assumes nothing.
use Prim.Native.Nat.{ℕ, zero, suc, ◌+◌, ◌*◌, ◌^◌, ◌≤◌, ◌<◌}
use native.Mathlib.Numerals.{add-one}
use native.Mathlib.Omega.{arith}
use mathlib.Core.Path.{◌≡◌, refl, sym, ◌∙◌}
use mathlib.Core.Bool.{Bool, true, false, false≢true}
use mathlib.Core.Logic.{◌⊎◌, inl, inr, ⊎_elim}
use mathlib.Core.List.{List}
use mathlib.Core.Option.{Option, none, some}
use lib.Dec.{eqb}
use lib.ListN.{length}
use borrow.Author.Tests.{eqb-true, eq-eqb}
use Rattle.words.specs.Words.{word_at}
use Rattle.words.proofs.Runs.{le-or-lt, eq-or-ne}
use Rattle.desk.specs.Board.{Handover, Board, line_at, is_of}
use Rattle.board.specs.Layout.{board_of, well_formed, NoBoard, Parted, Decided}
use Rattle.board.proofs.Means.{Passed, passed_none, passed-more, passed-all, fails-room, fails-formed, fails-parted}
use Rattle.board.proofs.Stores.{words-fit}

-- two lines of one train
clash : Option Handover → Option Handover → Bool
clash none y = false
clash (some r) none = false
clash (some r) (some q) = eqb r.train q.train

clash-train : (x y : Option Handover) → clash x y ≡ true → (u : ℕ) × (is_of u x ≡ true) × (is_of u y ≡ true)
unfolding clash
clash-train none y e = absurd (false≢true e)
clash-train (some r) none e = absurd (false≢true e)
clash-train (some r) (some q) e = (q.train, e, eq-eqb q.train q.train refl)

clash-none : (x y : Option Handover) (u : ℕ) → is_of u x ≡ true → is_of u y ≡ true → clash x y ≡ true
unfolding clash
clash-none none y u e f = absurd (false≢true e)
clash-none (some r) none u e f = absurd (false≢true f)
clash-none (some r) (some q) u e f = eq-eqb r.train q.train (eqb-true r.train u e ∙ sym (eqb-true q.train u f))

-- the first n lines against one
parted-below : (b : Board) (x : Option Handover) (n : ℕ)
    → ((j u : ℕ) → j < n → is_of u (line_at b j) ≡ true → is_of u x ≡ true → ⊥) ⊎ ((j : ℕ) × (u : ℕ) × (j < n) × (is_of u (line_at b j) ≡ true) × (is_of u x ≡ true))
parted-below b x zero = inl (λ j u h. absurd (omega arith))
parted-below b x (suc n) = go (clash (line_at b n) x) refl (parted-below b x n)
  where
    go : (v : Bool) → clash (line_at b n) x ≡ v
        → ((j u : ℕ) → j < n → is_of u (line_at b j) ≡ true → is_of u x ≡ true → ⊥) ⊎ ((j : ℕ) × (u : ℕ) × (j < n) × (is_of u (line_at b j) ≡ true) × (is_of u x ≡ true))
        → ((j u : ℕ) → j < suc n → is_of u (line_at b j) ≡ true → is_of u x ≡ true → ⊥) ⊎ ((j : ℕ) × (u : ℕ) × (j < suc n) × (is_of u (line_at b j) ≡ true) × (is_of u x ≡ true))
    go true e r = let c = clash-train (line_at b n) x e in inr (n, c.0, omega arith, c.1, c.2)
    go false e (inr r) = inr (r.0, r.1, omega (arith, r.2), r.3, r.4)
    go false e (inl r) = inl (λ j u h p q. ⊎_elim
        (λ (z : j ≡ n). false≢true (sym e ∙ clash-none (line_at b n) x u (rw z at p) q))
        (λ (z : j ≡ n → ⊥). r j u (omega arith) p q)
        (eq-or-ne j n))

-- a first word over 64 bits is no line's
fails-wide : (t : List ℕ) (k : ℕ) → k < 64 → 2 ^ 64 ≤ word_at t (k * 2) → NoBoard t
fails-wide t k h w b s =
    let f = words-fit (line_at b k) (s.makeable.fine k) in
    omega (arith, w, f.0, s.trains k h)

passes : (t : List ℕ) (n : ℕ) → n ≤ 64 → Passed t n ⊎ NoBoard t
passes t zero h = inl (passed_none t)
passes t (suc n) h = go (passes t n (omega arith)) (well_formed (word_at t (n * 2)) (word_at t (n * 2 + 1))) refl (le-or-lt (2 ^ 64) (word_at t (n * 2))) (parted-below (board_of t) (line_at (board_of t) n) n)
  where
    go : Passed t n ⊎ NoBoard t → (v : Bool) → well_formed (word_at t (n * 2)) (word_at t (n * 2 + 1)) ≡ v → (2 ^ 64 ≤ word_at t (n * 2)) ⊎ (word_at t (n * 2) < 2 ^ 64)
        → Parted true (board_of t) n ⊎ Parted false (board_of t) n → Passed t (suc n) ⊎ NoBoard t
    go (inr f) v e w d = inr f
    go (inl p) false e w d = inr (fails-formed t n (omega arith) e)
    go (inl p) true e (inl w) d = inr (fails-wide t n (omega arith) w)
    go (inl p) true e (inr w) (inr d) = inr (fails-parted t n d)
    go (inl p) true e (inr w) (inl d) = inl (rw add-one at (passed-more t n p (omega arith) w e d))

pub decided : Decided
decided t =
    ⊎_elim
    (λ (h : 1024 ≤ length t). ⊎_elim (λ (p : Passed t 64). inl (passed-all t h p)) (λ (n : NoBoard t). inr n) (passes t 64 (omega arith)))
    (λ (h : length t < 1024). inr (fails-room t h))
    (le-or-lt 1024 (length t))
