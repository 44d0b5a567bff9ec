-- Laws of runs and of lists made by a rule. Assumes nothing.
use mathlib.Core.Path.{◌≡◌, refl, ap, ◌∙◌}
use mathlib.Core.Logic.{◌⊎◌, inl, inr, ⊎_elim}
use Prim.Native.Nat.{ℕ, zero, suc, ◌+◌, ◌≤◌, ◌<◌, zero-le, suc-le-suc}
use mathlib.Core.List.{List, [], ◌∷◌, ◌++◌}
use native.Mathlib.Nat.{add-suc, suc-add, zero-add, add-zero}
use native.Mathlib.Numerals.{add-one}
use native.Mathlib.Omega.{arith}
use lib.ListN.{length, drop, get_or, set, length-set}
use lib.Seq.{sets, drop-set-lt, get_or-set_same, get_or-set_other}
use Rattle.words.specs.Runs.{elements_from, tab_from, tab}

-- ---- cases

pub le-or-lt : (a b : ℕ) → (a ≤ b) ⊎ (b < a)
le-or-lt zero b = inl zero-le
le-or-lt (suc a) zero = inr (suc-le-suc zero-le)
le-or-lt (suc a) (suc b) = ⊎_elim (λ p. inl (suc-le-suc p)) (λ q. inr (suc-le-suc q)) (le-or-lt a b)

pub eq-or-ne : (a b : ℕ) → (a ≡ b) ⊎ (a ≡ b → ⊥)
eq-or-ne a b = ⊎_elim (λ (p : a ≤ b). ⊎_elim (λ (q : b ≤ a). inl (omega arith)) (λ (q : a < b). inr (λ e. omega arith)) (le-or-lt b a)) (λ (p : b < a). inr (λ e. omega arith)) (le-or-lt a b)

-- ---- a run of stores, and the elements that it leaves

pub get_d-sets-below : (vs l : List ℕ) (a j d : ℕ) → j < a → get_or (sets l a vs) j d ≡ get_or l j d
get_d-sets-below [] l a j d h = refl
get_d-sets-below (v ∷ vs) l a j d h =
    get_d-sets-below vs (set l a v) (suc a) j d (omega arith) ∙ get_or-set_other l a j v d (omega arith)

pub get_d-sets-above : (vs l : List ℕ) (a j d : ℕ) → a + length vs ≤ j → get_or (sets l a vs) j d ≡ get_or l j d
get_d-sets-above [] l a j d h = refl
get_d-sets-above (v ∷ vs) l a j d h =
    get_d-sets-above vs (set l a v) (suc a) j d (omega arith) ∙ get_or-set_other l a j v d (omega arith)

pub drop-sets-lt : (n : ℕ) (vs l : List ℕ) (a : ℕ) → a + length vs ≤ n → drop n (sets l a vs) ≡ drop n l
drop-sets-lt n [] l a h = refl
drop-sets-lt n (v ∷ vs) l a h = drop-sets-lt n vs (set l a v) (suc a) (omega arith) ∙ drop-set-lt n l a v (omega arith)

pub reads-below : (vs l : List ℕ) (a b n : ℕ) → b + n ≤ a → elements_from (sets l a vs) b n ≡ elements_from l b n
reads-below vs l a b zero h = refl
reads-below vs l a b (suc n) h = rw (get_d-sets-below vs l a b 0 (omega arith), reads-below vs l a (suc b) n (omega arith))

pub reads-above : (vs l : List ℕ) (a b n : ℕ) → a + length vs ≤ b → elements_from (sets l a vs) b n ≡ elements_from l b n
reads-above vs l a b zero h = refl
reads-above vs l a b (suc n) h = rw (get_d-sets-above vs l a b 0 h, reads-above vs l a (suc b) n (omega arith))

pub reads_same : (vs l : List ℕ) (a : ℕ) → a + length vs ≤ length l → elements_from (sets l a vs) a (length vs) ≡ vs
reads_same [] l a h = refl
reads_same (v ∷ vs) l a h =
    let e : get_or (sets (set l a v) (suc a) vs) a 0 ≡ v = get_d-sets-below vs (set l a v) (suc a) a 0 (omega arith) ∙ get_or-set_same l a v 0 (omega arith) in
    let m : suc a + length vs ≤ length (set l a v) = rw length-set (omega arith) in
    rw (e, reads_same vs (set l a v) (suc a) m)

-- ---- a run, by its elements

-- lists that agree there have the same run
pub reads-ext : (l m : List ℕ) (a n : ℕ) → ((i : ℕ) → a ≤ i → i < a + n → get_or m i 0 ≡ get_or l i 0) → elements_from m a n ≡ elements_from l a n
reads-ext l m a zero h = refl
reads-ext l m a (suc n) h =
    rw (h a (omega arith) (omega arith), reads-ext l m (suc a) n (λ i p q. h i (omega arith) (omega arith)))

pub length-reads : (l : List ℕ) (a n : ℕ) → length (elements_from l a n) ≡ n
length-reads l a zero = refl
length-reads l a (suc n) = ap suc (length-reads l (suc a) n)

-- ---- lists made by a rule

module _ {A : Type 0} where
  length-tab_from : (n a : ℕ) (f : ℕ → A) → length (tab_from a n f) ≡ n
  unfolding tab_from
  length-tab_from zero a f = refl
  length-tab_from (suc n) a f = ap suc (length-tab_from n (suc a) f)

  get_d-tab_from : (n a k : ℕ) (f : ℕ → A) (d : A) → k < n → get_or (tab_from a n f) k d ≡ f (a + k)
  unfolding tab_from
  get_d-tab_from zero a k f d h = absurd (omega arith)
  get_d-tab_from (suc n) a zero f d h = rw add-zero
  get_d-tab_from (suc n) a (suc k) f d h = rw (add-suc, ← suc-add) (get_d-tab_from n (suc a) k f d (omega arith))

  tab_from-ext : (n a : ℕ) (f g : ℕ → A) → ((i : ℕ) → a ≤ i → i < a + n → f i ≡ g i) → tab_from a n f ≡ tab_from a n g
  unfolding tab_from
  tab_from-ext zero a f g h = refl
  tab_from-ext (suc n) a f g h =
      rw (h a (omega arith) (omega arith), tab_from-ext n (suc a) f g (λ i p q. h i (omega arith) (omega arith)))

  tab_from-set : (n a k : ℕ) (f g : ℕ → A) → k < n → ((i : ℕ) → i < a + n → (i ≡ a + k → ⊥) → g i ≡ f i) → tab_from a n g ≡ set (tab_from a n f) k (g (a + k))
  unfolding tab_from
  tab_from-set zero a k f g lt h = absurd (omega arith)
  tab_from-set (suc n) a zero f g lt h =
      rw (add-zero, tab_from-ext n (suc a) g f (λ i p q. h i (omega arith) (omega arith)))
  tab_from-set (suc n) a (suc k) f g lt h =
      rw (h a (omega arith) (omega arith), tab_from-set n (suc a) k f g (omega arith) (λ i p q. h i (omega arith) (omega arith)), add-suc, suc-add)

  pub length-tab : (n : ℕ) (f : ℕ → A) → length (tab n f) ≡ n
  unfolding tab
  length-tab n f = length-tab_from n 0 f

  pub get_d-tab : (n k : ℕ) (f : ℕ → A) (d : A) → k < n → get_or (tab n f) k d ≡ f k
  unfolding tab
  get_d-tab n k f d h = get_d-tab_from n 0 k f d h ∙ rw zero-add

  pub tab-ext : (n : ℕ) (f g : ℕ → A) → ((i : ℕ) → i < n → f i ≡ g i) → tab n f ≡ tab n g
  unfolding tab
  tab-ext n f g h = tab_from-ext n 0 f g (λ i p q. h i (omega arith))

  -- two rules that agree but at k make lists that agree but at k
  pub tab-set : (n k : ℕ) (f g : ℕ → A) → k < n → ((i : ℕ) → i < n → (i ≡ k → ⊥) → g i ≡ f i) → tab n g ≡ set (tab n f) k (g k)
  unfolding tab
  tab-set n k f g lt h = rw zero-add at (tab_from-set n 0 k f g lt (λ i p q. h i (omega arith) (λ e. q (omega arith))))

  -- one more at the end
  tab_from-suc : (n a : ℕ) (f : ℕ → A) → tab_from a (suc n) f ≡ tab_from a n f ++ f (a + n) ∷ []
  unfolding tab_from
  tab_from-suc zero a f = rw add-zero
  tab_from-suc (suc n) a f = rw (add-suc, ← suc-add) (ap (λ (l : List A). f a ∷ l) (tab_from-suc n (suc a) f))

  pub tab-snoc : (n : ℕ) (f : ℕ → A) → tab (n + 1) f ≡ tab n f ++ f n ∷ []
  unfolding tab
  tab-snoc n f = ap (λ (m : ℕ). tab_from 0 m f) (add-one n) ∙ (rw zero-add at (tab_from-suc n 0 f))

  -- the first, and the rest by the rule one further on
  tab_from-shift : (n a b : ℕ) (f g : ℕ → A) → ((i : ℕ) → f (a + i) ≡ g (b + i)) → tab_from a n f ≡ tab_from b n g
  unfolding tab_from
  tab_from-shift zero a b f g h = refl
  tab_from-shift (suc n) a b f g h =
      let first : f a ≡ g b = (rw (add-zero, add-zero) at (h 0)) in
      rw (first, tab_from-shift n (suc a) (suc b) f g (λ i. rw (suc-add, suc-add, ← add-suc, ← add-suc) (h (suc i))))

  pub tab-cons : (n : ℕ) (f g : ℕ → A) → ((i : ℕ) → f (suc i) ≡ g i) → tab (suc n) f ≡ f 0 ∷ tab n g
  unfolding tab tab_from
  tab-cons n f g h = ap (λ (l : List A). f 0 ∷ l) (tab_from-shift n 1 0 f g (λ i. rw (zero-add, suc-add, zero-add) (h i)))
