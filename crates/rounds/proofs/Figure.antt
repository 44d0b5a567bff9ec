-- The figure of two trains a and b in a shared lane: the deficits' difference, with L taken off the train in turn (its turn counts when it ends) and L for the
-- train whose turn comes first of the two. Assumes nothing.
use Prim.Native.Nat.{ℕ, ◌+◌, ◌<◌, ◌*◌, ◌≤◌}
use native.Mathlib.Omega.{arith}
use mathlib.Core.Path.{◌≡◌, refl, sym, ◌∙◌}
use mathlib.Core.Bool.{Bool, true, false, false≢true}
use mathlib.Core.List.{List, [], ◌∷◌, ◌++◌}
use lib.Dec.{eqb}
use lib.ListN.{length, get_or}
use borrow.Author.Tests.{eq-eqb, ne_eqb}
use Rattle.std.specs.Prelude.{if◌then◌else◌}
use Rattle.units.specs.Plain.{times}
use Rattle.units.proofs.Bools.{if-ind}
use Rattle.units.proofs.Lists.{same_or, set_cases}
use Rattle.rounds.specs.Round.{BareRec, Train, Shared, no_train, queued?, in_turn, raised, begin}
use Rattle.rounds.specs.Good.{Deficit, Lengths}
use Rattle.rounds.specs.Runs.{bytes}

-- ---- the figure

-- a comes before b in the round
unfoldable pub ahead : ℕ → ℕ → List ℕ → Bool
ahead a b [] = false
ahead a b (k ∷ ks) = if eqb k a then true else if eqb k b then false else ahead a b ks

abbrev pub deficit_of : List Train → ℕ → ℕ
deficit_of ts k = (get_or ts k no_train).deficit

abbrev pub worth : Bool → ℕ → ℕ
worth b n = if b then n else 0

module _ (L a b : ℕ) where
  abbrev pub up : Shared → ℕ
  up s = deficit_of s.trains a + worth (in_turn b s.round) L + worth (ahead a b s.round) L

  abbrev pub down : Shared → ℕ
  down s = deficit_of s.trains b + worth (in_turn a s.round) L

  -- x bytes of a and y of b are sent between s and u, and no more of b than the figure tells
  abbrev pub Under : Shared → Shared → ℕ → ℕ → Type 0
  Under s u x y = y + down u + up s ≤ x + up u + down s

-- ---- a turn begins

abbrev pub Inside : List Train → List ℕ → Type 0
Inside ts [] = Unit {0}
Inside ts (k ∷ ks) = k < length ts

begin-deficit : (L : ℕ) (ts : List Train) (ks : List ℕ) → Inside ts ks → (j : ℕ) → deficit_of (begin L ts ks).trains j ≡ deficit_of ts j + worth (in_turn j ks) L
unfolding begin raised
begin-deficit L ts [] i j = omega arith
begin-deficit L ts (k ∷ ks) i j =
    set_cases (λ (m : Train). m.deficit ≡ deficit_of ts j + worth (eqb k j) L) ts k j (raised L (get_or ts k no_train)) no_train i
    (λ e. rw (← e, eq-eqb k k refl) refl) (λ n. rw (ne_eqb k j n) (omega arith))

begin-round : (L : ℕ) (ts : List Train) (ks : List ℕ) → (begin L ts ks).round ≡ ks
unfolding begin
begin-round L ts [] = refl
begin-round L ts (k ∷ ks) = refl

pub begin-level : (L a b : ℕ) (ts : List Train) (ks : List ℕ) → Inside ts ks
    → up L a b (begin L ts ks) + deficit_of ts b ≡ down L a b (begin L ts ks) + deficit_of ts a + worth (ahead a b ks) L
begin-level L a b ts ks i = rw (begin-round L ts ks) (omega (arith, begin-deficit L ts ks i a, begin-deficit L ts ks i b))

-- ---- who comes first

pub before : (a b k : ℕ) (ks : List ℕ) → times b ks ≡ 0 → 0 < times a ks → ahead a b (ks ++ (k ∷ [])) ≡ true
unfolding ahead
before a b k [] h p = absurd (omega arith)
before a b k (j ∷ js) h p =
    same_or j a (λ e. simp (eq-eqb j a e))
    (λ n. same_or j b (λ e. absurd (omega (arith, simp (eq-eqb j b e) at h)))
    (λ m. simp (ne_eqb j a n, ne_eqb j b m, before a b k js (omega (arith, simp (ne_eqb j b m) at h)) (omega (arith, simp (ne_eqb j a n) at p)))))

pub ahead-end : (a b k : ℕ) (ks : List ℕ) → (k ≡ a → ⊥) → ahead a b (ks ++ (k ∷ [])) ≡ ahead a b ks
unfolding ahead
ahead-end a b k [] n = simp (ne_eqb k a n) (if-ind (λ (x : Bool). x ≡ false) (eqb k b) _ _ (λ e. refl) (λ e. refl))
ahead-end a b k (j ∷ js) n = simp (ahead-end a b k js n)

-- a is in the round and b is not
pub alone : (a b : ℕ) (ks : List ℕ) → times b ks ≡ 0 → 0 < times a ks → ahead a b ks ≡ true
unfolding ahead
alone a b [] h p = absurd (omega arith)
alone a b (j ∷ js) h p =
    same_or j a (λ e. simp (eq-eqb j a e))
    (λ n. same_or j b (λ e. absurd (omega (arith, simp (eq-eqb j b e) at h)))
    (λ m. simp (ne_eqb j a n, ne_eqb j b m, alone a b js (omega (arith, simp (ne_eqb j b m) at h)) (omega (arith, simp (ne_eqb j a n) at p)))))

-- ---- bytes of one record

pub of_train-bytes : (j k : ℕ) (r : BareRec) → bytes (if eqb k j then r ∷ [] else []) ≡ worth (eqb k j) r.len
of_train-bytes j k r = go (eqb k j)
  where
    go : (c : Bool) → bytes (if c then r ∷ [] else []) ≡ worth c r.len
    go true = omega arith
    go false = refl

-- ---- the range of a deficit, and of the figure

module _ (L : ℕ) where
  -- a holding train's deficit
  abbrev pub Size : Bool → ℕ → Type 0
  Size true d = (1 ≤ d) × (d < 2 * L)
  Size false d = d < L

  pub size : (turn : Bool) (d : ℕ) (q : List BareRec) → queued? q ≡ true → Lengths L q → Deficit L turn d q → Size turn d
  size turn d [] e l h = absurd (false≢true e)
  size true d (r ∷ rs) e l h = (omega (arith, l.0, h.0), h.1)
  size false d (r ∷ rs) e l h = omega (arith, l.1)

  pub ranged : (da db : ℕ) (ta tb h : Bool) → Size ta da → Size tb db → (ta ≡ true → h ≡ true) → (tb ≡ true → h ≡ false)
      → (db + worth ta L < da + worth tb L + worth h L + L) × (da + worth tb L + worth h L < db + worth ta L + 2 * L)
  ranged da db true true h sa sb p q = absurd (false≢true (sym (q refl) ∙ p refl))
  ranged da db true false true sa sb p q = (omega arith, omega arith)
  ranged da db true false false sa sb p q = absurd (false≢true (p refl))
  ranged da db false true true sa sb p q = absurd (false≢true (sym (q refl)))
  ranged da db false true false sa sb p q = (omega arith, omega arith)
  ranged da db false false true sa sb p q = (omega arith, omega arith)
  ranged da db false false false sa sb p q = (omega arith, omega arith)

  pub some-length : (q : List BareRec) → queued? q ≡ true → Lengths L q → 1 ≤ L
  some-length [] e l = absurd (false≢true e)
  some-length (r ∷ rs) e l = omega (arith, l.0, l.1)
