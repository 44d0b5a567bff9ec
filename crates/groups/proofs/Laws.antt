-- Laws of the pass over the groups. Assumes nothing.
use mathlib.Core.Path.{◌≡◌, refl, sym, ap, subst, ◌∙◌}
use mathlib.Core.Option.{Option, none, some}
use mathlib.Core.Logic.{inl, inr, ⊎_elim}
use Prim.Native.Nat.{ℕ, ◌+◌, ◌*◌, ◌^◌, ◌≤◌, ◌<◌, min}
use lib.Pow.{pow_mono}
use native.Mathlib.Omega.{arith}
use native.Mathlib.Decide.{dec_lt}
use borrow.Author.Tests.{ltb-true, ltb-false}
use lib.Dec.{ltb}
use Rattle.units.proofs.Bools.{if-ind}
use Rattle.words.proofs.Runs.{eq-or-ne}
use Rattle.groups.specs.declared.Front.{Front}
use Rattle.filing.specs.Filing.{never}
use Rattle.groups.specs.Front.{front, preferred, LeadsAt, Leads, Earliest, Settles, none_starts, jumps}

same_start : (o : Option ℕ) (r q : ℕ) → o ≡ some r → o ≡ some q → r ≡ q
same_start o r q a b = cc

pub no_start : (o : Option ℕ) (q : ℕ) → o ≡ none → o ≡ some q → ⊥
no_start o q a b = let z : ◌≡◌ {A = ℕ} 0 1 = cc in omega arith

module _ (starts : ℕ → Option ℕ) where
  -- what is so of the starts of the groups below n is so of more, where those between have none
  below_on : (P : ℕ → ℕ → Type 0) (n m : ℕ) → ((i : ℕ) → n ≤ i → i < m → starts i ≡ none)
      → ((i q : ℕ) → 16 ≤ i → i ≤ 31 → i < n → starts i ≡ some q → P i q) → (i q : ℕ) → 16 ≤ i → i ≤ 31 → i < m → starts i ≡ some q → P i q
  below_on P n m nil h i q x y lt e = elim (dec_lt i n) [ yes d ↦ h i q x y d e | no d ↦ absurd (no_start (starts i) q (nil i (omega arith) lt) e) ]

  module _ (v : ℕ) where
    pub leads-none : (f : Front) → f.finish ≡ never → Leads starts v 0 f
    leads-none f e = inl (e, λ i q x y h p. absurd (omega arith))

    -- the group in the lead, of more groups
    still : (n m : ℕ) (f : Front) → n ≤ m → LeadsAt starts v n f → ((i q : ℕ) → 16 ≤ i → i ≤ 31 → i < m → starts i ≡ some q → q ≤ v → f.finish ≤ q + 2 * 2 ^ i)
        → ((i q : ℕ) → 16 ≤ i → i ≤ 31 → i < m → starts i ≡ some q → q ≤ v → f.finish ≡ q + 2 * 2 ^ i → f.group ≤ i) → Leads starts v m f
    still n m f le l finish lowest =
        inr (record {
          low = l.low;
          high = l.high;
          below = omega (arith, l.below);
          from = l.from;
          start = l.start;
          small = l.small;
          sum = l.sum;
          reached = l.reached;
          finish = finish;
          lowest = lowest;
        })

    -- groups without a start change nothing
    pub leads-on : (n m : ℕ) (f : Front) → ((i : ℕ) → n ≤ i → i < m → starts i ≡ none) → n ≤ m → Leads starts v n f → Leads starts v m f
    leads-on n m f nil le (inl (e, h)) = inl (e, below_on (λ i q. v < q) n m nil h)
    leads-on n m f nil le (inr h) =
        still n m f le h (below_on (λ i q. q ≤ v → f.finish ≤ q + 2 * 2 ^ i) n m nil h.finish) (below_on (λ i q. q ≤ v → f.finish ≡ q + 2 * 2 ^ i → f.group ≤ i) n m nil h.lowest)

    -- one group more
    module _ (g r : ℕ) (lo : 16 ≤ g) (hi : g ≤ 31) (small : r < 2 ^ 63) (here : starts g ≡ some r) where
      -- what is so of the groups below g, and of g, is so of those below g + 1
      one_more : (P : ℕ → ℕ → Type 0) → P g r → ((i q : ℕ) → 16 ≤ i → i ≤ 31 → i < g → starts i ≡ some q → P i q) → (i q : ℕ) → 16 ≤ i → i ≤ 31 → i < g + 1 → starts i ≡ some q → P i q
      one_more P now old i q x y lt e =
          ⊎_elim
          (λ (p : i ≡ g).
          let same : r ≡ q = same_start (starts g) r q here (ap starts (sym p) ∙ e) in
          subst (λ (j : ℕ). P j q) (sym p) (subst (λ (z : ℕ). P g z) same now))
          (λ (ne : i ≡ g → ⊥). old i q x y (omega (arith, ne)) e)
          (eq-or-ne i g)

      -- the lead stays where it is, over g too
      passes : (f : Front) → (l : LeadsAt starts v g f) → (r ≤ v → f.finish ≤ r + 2 * 2 ^ g) → Leads starts v (g + 1) f
      passes f l le =
          still g (g + 1) f (omega arith) l (one_more (λ i q. q ≤ v → f.finish ≤ q + 2 * 2 ^ i) le l.finish)
          (one_more (λ i q. q ≤ v → f.finish ≡ q + 2 * 2 ^ i → f.group ≤ i) (λ s z. omega (arith, l.below)) l.lowest)

      late : (f : Front) → v < r → Leads starts v g f → Leads starts v (g + 1) f
      late f h (inl (e, l)) = inl (e, one_more (λ i q. v < q) h l)
      late f h (inr l) = passes f l (λ s. absurd (omega arith))

      -- it takes the lead
      lead : r ≤ v → ((i q : ℕ) → 16 ≤ i → i ≤ 31 → i < g → starts i ≡ some q → q ≤ v → r + 2 * 2 ^ g < q + 2 * 2 ^ i) → Leads starts v (g + 1) (front g r)
      lead h l =
          inr (record {
            low = lo;
            high = hi;
            below = omega arith;
            from = r;
            start = here;
            small = small;
            sum = refl;
            reached = h;
            finish = λ i q x y lt e. one_more (λ i q. q ≤ v → r + 2 * 2 ^ g ≤ q + 2 * 2 ^ i) (λ s. omega arith) (λ i q x y lt e s. omega (arith, l i q x y lt e s)) i q x y lt e;
            lowest = λ i q x y lt e. one_more (λ i q. q ≤ v → r + 2 * 2 ^ g ≡ q + 2 * 2 ^ i → g ≤ i) (λ s z. omega arith) (λ i q x y lt e s z. absurd (omega (arith, l i q x y lt e s))) i q x y lt e;
          })

      far : r + 2 * 2 ^ g < never
      far = omega (arith, pow_mono {i = g} {j = 31} hi)

      pub leads-more : (f : Front) → Leads starts v g f → Leads starts v (g + 1) (preferred f g r v)
      leads-more f l =
          if-ind (Leads starts v (g + 1)) (ltb v r) f _
          (λ e. late f (ltb-true v r e) l)
          (λ e.
          if-ind (Leads starts v (g + 1)) (ltb (r + 2 * 2 ^ g) f.finish) (front g r) f
          (λ d. lead (ltb-false v r e) (less (ltb-true (r + 2 * 2 ^ g) f.finish d) l))
          (λ d. stay (ltb-false (r + 2 * 2 ^ g) f.finish d) l))
        where
          less : r + 2 * 2 ^ g < f.finish → Leads starts v g f → (i q : ℕ) → 16 ≤ i → i ≤ 31 → i < g → starts i ≡ some q → q ≤ v → r + 2 * 2 ^ g < q + 2 * 2 ^ i
          less d (inl (e, h)) i q x y lt p s = absurd (omega (arith, h i q x y lt p))
          less d (inr h) i q x y lt p s = omega (arith, h.finish i q x y lt p s)

          stay : f.finish ≤ r + 2 * 2 ^ g → Leads starts v g f → Leads starts v (g + 1) f
          stay d (inl (e, h)) = absurd (omega (arith, e, far))
          stay d (inr h) = passes f h (λ s. d)

  -- ---- the least start

  pub earliest-none : Earliest starts 0 never
  earliest-none = inl (refl, λ i q x y h e. omega arith)

  pub earliest-on : (n m r : ℕ) → ((i : ℕ) → n ≤ i → i < m → starts i ≡ none) → n ≤ m → Earliest starts n r → Earliest starts m r
  earliest-on n m r nil le (inl (e, h)) =
      inl (e, below_on (λ i q. ⊥) n m nil h)
  earliest-on n m r nil le (inr h) =
      inr (record {
        at = h.at;
        low = h.low;
        high = h.high;
        start = h.start;
        small = h.small;
        bound = below_on (λ i q. r ≤ q) n m nil h.bound;
      })

  module _ (g r : ℕ) (lo : 16 ≤ g) (hi : g ≤ 31) (small : r < 2 ^ 63) (here : starts g ≡ some r) where
    pub earliest-more : (z : ℕ) → Earliest starts g z → Earliest starts (g + 1) (min r z)
    earliest-more z (inl (e, h)) =
        let is : min r z ≡ r = omega (arith, e) in
        subst (Earliest starts (g + 1)) (sym is)
        (inr (record { at = g; low = lo; high = hi; start = here; small = small; bound = one_more 0 g r lo hi small here (λ i q. r ≤ q) (omega arith) (λ i q x y lt p. absurd (h i q x y lt p)) }))
    earliest-more z (inr h) =
        elim (dec_lt r z) [
          | yes d ↦
              let is : min r z ≡ r = omega arith in
              subst (Earliest starts (g + 1)) (sym is)
              (inr (record { at = g; low = lo; high = hi; start = here; small = small; bound = one_more 0 g r lo hi small here (λ i q. r ≤ q) (omega arith) (λ i q x y lt p. omega (arith, h.bound i q x y lt p)) }))
          | no d ↦
              let is : min r z ≡ z = omega arith in
              subst (Earliest starts (g + 1)) (sym is)
              (inr (record { at = h.at; low = h.low; high = h.high; start = h.start; small = h.small; bound = one_more 0 g r lo hi small here (λ i q. z ≤ q) (omega arith) (λ i q x y lt p. h.bound i q x y lt p) }))
        ]

-- ---- where the clock settles

-- every start of the groups below n is after v
abbrev pub Late : (ℕ → Option ℕ) → ℕ → ℕ → Type 0
Late starts v n = (i q : ℕ) → 16 ≤ i → i ≤ 31 → i < n → starts i ≡ some q → v < q

module _ (starts : ℕ → Option ℕ) (v : ℕ) where
  pub late-none : Late starts v 0
  late-none i q x y h e = absurd (omega arith)

  pub late-on : (n m : ℕ) → ((i : ℕ) → n ≤ i → i < m → starts i ≡ none) → n ≤ m → Late starts v n → Late starts v m
  late-on n m nil le h = below_on starts (λ i q. v < q) n m nil h

  pub late-more : (g r : ℕ) → starts g ≡ some r → v < r → Late starts v g → Late starts v (g + 1)
  late-more g r here h l i q x y lt e =
      ⊎_elim
      (λ (p : i ≡ g). let same : r ≡ q = same_start (starts g) r q here (ap starts (sym p) ∙ e) in omega arith)
      (λ (ne : i ≡ g → ⊥). l i q x y (omega (arith, ne)) e)
      (eq-or-ne i g)

  pub settles-none : (r : ℕ) → r ≡ never → Earliest starts 64 r → Settles starts v v
  settles-none r e (inl (z, h)) = none_starts (λ i x y. none-at i x y (starts i) refl) refl
    where
      none-at : (i : ℕ) → 16 ≤ i → i ≤ 31 → (o : Option ℕ) → starts i ≡ o → starts i ≡ none
      none-at i x y none q = q
      none-at i x y (some p) q = absurd (h i p x y (omega arith) q)
  settles-none r e (inr h) = absurd (omega (arith, h.small, e))

  pub settles-some : (r : ℕ) → (r ≡ never → ⊥) → Earliest starts 64 r → Late starts v 64 → Settles starts v r
  settles-some r ne (inl (z, h)) l = absurd (ne z)
  settles-some r ne (inr h) l =
      jumps (record { at = h.at; low = h.low; high = h.high; start = h.start; bound = λ i q x y e. h.bound i q x y (omega arith) e })
      (l h.at r h.low h.high (omega (arith, h.high)) h.start)
