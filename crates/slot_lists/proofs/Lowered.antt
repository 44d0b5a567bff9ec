-- What it leaves that the groups' starts were made earlier, one after another. Assumes nothing.
use mathlib.Core.Path.{◌≡◌, refl, sym, ap, subst, ◌∙◌}
use mathlib.Core.Bool.{Bool, true, false}
use mathlib.Core.Logic.{⊎_elim}
use Prim.Native.Nat.{ℕ, ◌+◌, ◌-◌, ◌%◌, ◌^◌, ◌≤◌, ◌<◌}
use mathlib.Core.List.{List}
use mathlib.Core.Option.{none, some}
use native.Mathlib.Omega.{arith}
use lib.Dec.{eqb}
use lib.ListN.{drop}
use Rattle.std.specs.Prelude.{if◌then◌else◌}
use Rattle.words.specs.Bits.{bit}
use Rattle.words.specs.Words.{word_at, put_word}
use Rattle.words.proofs.Laws.{word_at-put_word-same, word_at-put_word-other}
use Rattle.words.proofs.Runs.{eq-or-ne}
use Rattle.rings.specs.Rings.{Long, rings_end, ring_at}
use Rattle.slot_lists.specs.Lists.{groups_word, back_word, start_word, map_word, ring_number, groups_at, back_at, map_of, list_at, start_at, Solid}
use Rattle.slot_lists.specs.Changes.{earlier_by, Lowered}
use Rattle.slot_lists.proofs.Laws.{ring-word, rest-word, map_same, list_same}

-- the starts of the groups below k were made earlier
pub record SoFar (before after : List ℕ) (d k : ℕ) : Type 0 where
  pub done : (g : ℕ) → 16 ≤ g → g < k → word_at after (start_word g) ≡ word_at before (start_word g) - d
  pub others : (j : ℕ) → ((start_word 16 ≤ j) → (j < start_word k) → ⊥) → word_at after j ≡ word_at before j
  pub rings : (i : ℕ) → ring_at after i ≡ ring_at before i
  pub rest : drop rings_end after ≡ drop rings_end before

pub none_yet : (t : List ℕ) (d : ℕ) → SoFar t t d 16
none_yet t d = record { done = λ g p q. absurd (omega arith); others = λ j p. refl; rings = λ i. refl; rest = refl }

pub one_more : (t u : List ℕ) (d k x : ℕ) → SoFar t u d k → Long u → 16 ≤ k → k < 32 → x < 2 ^ 64 → x ≡ word_at u (start_word k) - d → SoFar t (put_word u (start_word k) x) d (k + 1)
one_more t u d k x s long lo hi fits e = record {
  done = λ g p q. ⊎_elim (λ (z : g ≡ k). here g z) (λ (ne : g ≡ k → ⊥). word_at-put_word-other u (start_word k) (start_word g) x (λ z. ne (omega arith)) ∙ s.done g p (omega arith)) (eq-or-ne g k);
  others = λ j p. word_at-put_word-other u (start_word k) j x (λ z. p (omega arith) (omega arith)) ∙ s.others j (λ a b. p a (omega arith));
  rings = λ i. ring-word u (start_word k) x i (omega arith) ∙ s.rings i;
  rest = rest-word u (start_word k) x (omega arith) ∙ s.rest;
}
  where
    at : word_at (put_word u (start_word k) x) (start_word k) ≡ word_at t (start_word k) - d
    at = word_at-put_word-same u (start_word k) x (omega arith) fits ∙ e ∙ ap (λ (y : ℕ). y - d) (s.others (start_word k) (λ a b. omega arith))

    here : (g : ℕ) → g ≡ k → word_at (put_word u (start_word k) x) (start_word g) ≡ word_at t (start_word g) - d
    here g z = subst (λ (i : ℕ). word_at (put_word u (start_word k) x) (start_word i) ≡ word_at t (start_word i) - d) (sym z) at

start-less : (t u : List ℕ) (g d : ℕ) → groups_at u ≡ groups_at t → word_at u (start_word g) ≡ word_at t (start_word g) - d → start_at u g ≡ earlier_by d (start_at t g)
unfolding start_at
start-less t u g d e f = rw (e, f) (go (eqb (bit g (groups_at t)) 1))
  where
    go : (b : Bool) → (if b then some (word_at t (start_word g) - d) else none) ≡ earlier_by d (if b then some (word_at t (start_word g)) else none)
    go true = refl
    go false = refl

-- all of them, and then what was taken off
pub lowered-as : (t u : List ℕ) (d x : ℕ) → SoFar t u d 32 → Long u → x < 2 ^ 64 → x ≡ (back_at t + d) % 2 ^ 36 → Lowered t (put_word u back_word x) d
lowered-as t u d x s long fits e =
    let w = put_word u back_word x in
    let last : (j : ℕ) → (j ≡ back_word → ⊥) → word_at w j ≡ word_at u j = λ j ne. word_at-put_word-other u back_word j x ne in
    let groups : groups_at w ≡ groups_at t = last groups_word (omega arith) ∙ s.others groups_word (λ a b. omega arith) in
    record {
      below = λ j h. last j (omega arith) ∙ s.others j (λ a b. omega arith);
      groups = groups;
      back = word_at-put_word-same u back_word x (omega arith) fits ∙ e;
      maps = λ g lo hi. map_same t w g (ap (bit g) groups) (last (map_word g) (omega arith) ∙ s.others (map_word g) (λ a b. omega arith));
      starts = λ g lo hi. start-less t w g d groups (last (start_word g) (omega arith) ∙ s.done g lo (omega arith));
      rings = λ i h. ring-word u back_word x i (omega arith) ∙ s.rings i;
      rest = rest-word u back_word x (omega arith) ∙ s.rest;
    }

-- ---- what is stored agrees with itself again, and no list moved

module _ (t u : List ℕ) (d : ℕ) (l : Lowered t u d) where
  pub lowered-lists : (g b : ℕ) → 16 ≤ g → g ≤ 31 → b < 32 → list_at u g b ≡ list_at t g b
  lowered-lists g b lo hi hb = list_same t u g (map_of t g) (map_of u g) b (ap (bit b) (l.maps g lo hi)) (l.rings (ring_number g b) (omega arith))

  pub lowered-solid : Solid t → d % 2 ^ 31 ≡ 0 → Solid u
  lowered-solid s whole = record {
    fills = λ g lo hi. rw (l.maps g lo hi) (record { narrow = (s.fills g lo hi).narrow; filled = λ b hb e. rw (l.rings (ring_number g b) (omega arith)) ((s.fills g lo hi).filled b hb e) });
    groups = λ g e. s.groups g (marked g e);
    some_list = λ g e. let b = s.groups g (marked g e) in rw (l.maps g b.0 b.1) (s.some_list g (marked g e));
    high = rw l.groups s.high;
    back_whole = omega (arith, l.back, s.back_whole, whole);
    back_small = omega (arith, l.back);
  }
    where
      marked : (g : ℕ) → bit g (groups_at u) ≡ 1 → bit g (groups_at t) ≡ 1
      marked g e = ap (bit g) (sym l.groups) ∙ e
