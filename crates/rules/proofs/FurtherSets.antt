-- A clock d further on: no set sees it, if each holding lane's R is d further on too. Assumes nothing.
use Prim.Native.Nat.{ℕ, zero, suc, ◌+◌, ◌*◌, ◌^◌}
use native.Mathlib.Omega.{arith}
use mathlib.Core.Path.{◌≡◌, refl, ap, ◌∙◌}
use mathlib.Core.Bool.{Bool, true, false, ◌&&◌}
use mathlib.Core.List.{List}
use mathlib.Core.Option.{Option, none, some}
use lib.Dec.{ltb, eqb}
use lib.ListN.{length, get_or}
use borrow.Author.Tests.{le-ltb}
use Rattle.units.specs.Plain.{any_below, word_of}
use Rattle.rules.specs.State.{Lane, no_lane, group, holds}
use Rattle.rules.specs.Sets.{groups, in_group, group_start, held_start, reached, finish_from, group_holds, group_eligible, group_finish, blocks, blocked, ready, ineligible_ready, eligible_blocked, ineligible_blocked}
use Rattle.rules.proofs.Further.{ByPlace, least-further, leb-further, ltb-further, mapped, plus}

-- ---- the sets

any-below-same : (p q : ℕ → Bool) (n : ℕ) → ((i : ℕ) → p i ≡ q i) → any_below p n ≡ any_below q n
unfolding any_below
any-below-same p q zero h = refl
any-below-same p q (suc n) h = rw (h n, any-below-same p q n h)

pub word_same : (p q : ℕ → Bool) (n : ℕ) → ((i : ℕ) → p i ≡ q i) → word_of p n ≡ word_of q n
unfolding word_of
word_same p q zero h = refl
word_same p q (suc n) h = rw (h n, word_same p q n h)

module _ (d v : ℕ) (ls ms : List Lane) (z : length ms ≡ length ls) (h : ByPlace d ls ms) where
  in-group-same : (i k : ℕ) → in_group i (get_or ms k no_lane) ≡ in_group i (get_or ls k no_lane)
  unfolding in_group
  in-group-same i k = rw ((h k).waiting, (h k).given)

  pub start-further : (i : ℕ) → group_start ms i ≡ mapped (plus d) (group_start ls i)
  unfolding group_start in_group
  start-further i = least-further d (in_group i) ls ms z (in-group-same i) (λ k e. (h k).start (left (holds (get_or ls k no_lane)) (eqb (group (get_or ls k no_lane).given) i) e))
    where
      left : (a b : Bool) → (a && b) ≡ true → a ≡ true
      left true b e = refl
      left false b e = e

  holds-group : (i : ℕ) → group_holds ms i ≡ group_holds ls i
  unfolding group_holds held_start
  holds-group i = ap held_start (start-further i) ∙ go (group_start ls i)
    where
      go : (o : Option ℕ) → held_start (mapped (plus d) o) ≡ held_start o
      go none = refl
      go (some r) = refl

  reached-further : (o : Option ℕ) → reached (v + d) (mapped (plus d) o) ≡ reached v o
  unfolding reached
  reached-further none = refl
  reached-further (some r) = leb-further r v d

  eligible-group : (i : ℕ) → group_eligible (v + d) ms i ≡ group_eligible v ls i
  unfolding group_eligible
  eligible-group i = ap (reached (v + d)) (start-further i) ∙ reached-further (group_start ls i)

  -- a group that holds nothing has the finish 0, and blocks as little as before
  blocks-same : (i k : ℕ) → blocks (v + d) ms i k ≡ blocks v ls i k
  unfolding blocks group_eligible group_finish finish_from reached
  blocks-same i k = rw (start-further i, start-further k) (ap (λ (b : Bool). ltb i k && b) (go (group_start ls k) (group_start ls i)))
    where
      go : (a b : Option ℕ)
          → (reached (v + d) (mapped (plus d) a) && ltb (finish_from k (mapped (plus d) a)) (finish_from i (mapped (plus d) b))) ≡ (reached v a && ltb (finish_from k a) (finish_from i b))
      go none b = refl
      go (some r) none =
          let far : ltb (r + d + 2 * 2 ^ k) 0 ≡ false = le-ltb (r + d + 2 * 2 ^ k) 0 (omega arith) in
          let near : ltb (r + 2 * 2 ^ k) 0 ≡ false = le-ltb (r + 2 * 2 ^ k) 0 (omega arith) in
          rw (far, near, leb-further r v d)
      go (some r) (some x) =
          let a : r + d + 2 * 2 ^ k ≡ r + 2 * 2 ^ k + d = omega arith in
          let b : x + d + 2 * 2 ^ i ≡ x + 2 * 2 ^ i + d = omega arith in
          rw (a, b, leb-further r v d, ltb-further (r + 2 * 2 ^ k) (x + 2 * 2 ^ i) d)

  blocked-same : (i : ℕ) → blocked (v + d) ms i ≡ blocked v ls i
  unfolding blocked
  blocked-same i = any-below-same (blocks (v + d) ms i) (blocks v ls i) groups (blocks-same i)

  pub ready-same : (i : ℕ) → ready (v + d) ms i ≡ ready v ls i
  unfolding ready
  ready-same i = rw (eligible-group i, blocked-same i)

  pub ineligible-ready-same : (i : ℕ) → ineligible_ready (v + d) ms i ≡ ineligible_ready v ls i
  unfolding ineligible_ready
  ineligible-ready-same i = rw (holds-group i, eligible-group i, blocked-same i)

  pub eligible-blocked-same : (i : ℕ) → eligible_blocked (v + d) ms i ≡ eligible_blocked v ls i
  unfolding eligible_blocked
  eligible-blocked-same i = rw (eligible-group i, blocked-same i)

  pub ineligible-blocked-same : (i : ℕ) → ineligible_blocked (v + d) ms i ≡ ineligible_blocked v ls i
  unfolding ineligible_blocked
  ineligible-blocked-same i = rw (holds-group i, eligible-group i, blocked-same i)
