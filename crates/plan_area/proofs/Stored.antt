-- The loop of `store`.
--
--   Stored   the first word and those of the lanes below k are the plan's
--   store-none, store-more, store-all   before the loop, after a lane, and after all
--
-- Assumes nothing.
use Prim.Native.Nat.{ℕ, suc, ◌+◌, ◌*◌, ◌≤◌, ◌<◌}
use mathlib.Core.Bool.{Bool, true, false}
use mathlib.Core.Path.{◌≡◌, refl, ap, subst, ◌∙◌}
use mathlib.Core.Logic.{◌⊎◌, ⊎_elim}
use mathlib.Core.List.{List, map}
use native.Mathlib.Decide.{dec_le}
use native.Mathlib.Omega.{arith}
use lib.ListN.{length, drop, get_or, get_or-map}
use Rattle.words.specs.Words.{word_at, put_word}
use Rattle.words.proofs.Laws.{length-put_word, word_at-put_word-same, word_at-put_word-other, drop-put_word}
use Rattle.rules.specs.State.{Setting, no_setting, setting_at}
use Rattle.rules.specs.Setup.{InNumbers, Setup, framing_of}
use Rattle.plan.specs.Read.{setting_of}
use Rattle.plan.specs.declared.Lane as plan
use Rattle.plan_writer.specs.Write.{numbered, Either}
use Rattle.plan_writer.proofs.Numbered.{numbered-all, none}
use Rattle.plan_area.specs.Area.{AreaRoom, shared_part, plan_lane_word, ShowsPlan}

-- a lane's word fits
pub shared-most : (b : Bool) → shared_part b ≤ 4294967296
shared-most true = omega arith
shared-most false = omega arith

pub word_small : (g : Setting) → Either g → (g.weight ≤ 1024) × (g.longest ≤ 1500)
word_small g e =
    ⊎_elim
    (λ (n : InNumbers g). (n.weight_high, n.longest_high))
    (λ (q : g ≡ no_setting). (omega (arith, ap (λ (x : Setting). x.weight) q), omega (arith, ap (λ (x : Setting). x.longest) q)))
    e

pub record Stored (v : ℕ) (gs : List Setting) (a₀ a : List ℕ) (k : ℕ) : Type 0 where
  pub low : k ≤ 64
  pub size : length a ≡ length a₀
  pub head : word_at a 0 ≡ v + 65536 * framing_of gs
  pub lane : (j : ℕ) → j < k → word_at a (j + 1) ≡ plan_lane_word (setting_at gs j)
  pub rest : drop (65 * 8) a ≡ drop (65 * 8) a₀

-- the line's framing bytes, as they are found
pub line-is : (lanes : List plan.Lane) → Setup (map setting_of lanes) → (h : ℕ) → h ≡ framing_of (numbered (map setting_of lanes)) → h ≡ framing_of (map setting_of lanes)
line-is lanes s h e = e ∙ ap framing_of (numbered-all (map setting_of lanes) s.size)

-- the first word stored in b
module _ (b a : List ℕ) (v h : ℕ) (e : a ≡ put_word b 0 (v + 65536 * h)) where
  pub store-none : (gs : List Setting) → AreaRoom b → h ≡ framing_of gs → h ≤ 64 → v ≤ 2 → Stored v gs a a 0 × AreaRoom a
  store-none gs room h-is small known = (
    record {
      low = omega arith;
      size = refl;
      head = ap (λ (x : List ℕ). word_at x 0) e ∙ word_at-put_word-same b 0 (v + 65536 * h) (omega arith) (omega arith) ∙ ap (λ (i : ℕ). v + 65536 * i) h-is;
      lane = λ j l. absurd (omega (arith, l));
      rest = refl;
    },
    omega (arith, ap length e, length-put_word b 0 (v + 65536 * h), room),
  )

  pub rest-first : drop (65 * 8) a ≡ drop (65 * 8) b
  rest-first = ap (drop (65 * 8)) e ∙ drop-put_word 65 b 0 (v + 65536 * h) (omega arith)

-- lane k of the array
pub lane-is : (lanes : List plan.Lane) (k : ℕ) → setting_at (map setting_of lanes) k ≡ setting_of (get_or lanes k none)
lane-is lanes k = get_or-map setting_of lanes k none

module _ (v : ℕ) (gs : List Setting) (a₀ a : List ℕ) (k : ℕ) (so : Stored v gs a₀ a k) (room : AreaRoom a₀) where
  pub store-more : k < 64 → Either (setting_at gs k) → (b : List ℕ) → b ≡ put_word a (k + 1) (plan_lane_word (setting_at gs k)) → Stored v gs a₀ b (k + 1)
  store-more l ok b e =
      let w = plan_lane_word (setting_at gs k) in
      let fits = word_small (setting_at gs k) ok in
      let other : (j : ℕ) → (j ≡ k + 1 → ⊥) → word_at b j ≡ word_at a j = λ j ne. ap (λ (x : List ℕ). word_at x j) e ∙ word_at-put_word-other a (k + 1) j w ne in
      let here : word_at b (k + 1) ≡ w = ap (λ (x : List ℕ). word_at x (k + 1)) e ∙ word_at-put_word-same a (k + 1) w (omega (arith, so.size, room, l)) (omega (arith, fits.0, fits.1, shared-most (setting_at gs k).shared)) in
      record {
        low = omega arith;
        size = ap length e ∙ length-put_word a (k + 1) w ∙ so.size;
        head = other 0 (λ q. omega (arith, q)) ∙ so.head;
        lane = λ j h.
            elim (dec_le (suc j) k) [
              | yes q ↦ other (j + 1) (λ r. omega (arith, r, q)) ∙ so.lane j q
              | no q ↦ let is : k ≡ j = omega arith in subst (λ (i : ℕ). word_at b (i + 1) ≡ plan_lane_word (setting_at gs i)) is here
            ];
        rest = ap (drop (65 * 8)) e ∙ drop-put_word 65 a (k + 1) w (omega arith) ∙ so.rest;
      }

  pub store-all : (n : ℕ) → 64 ≤ k → (b : List ℕ) → drop (65 * 8) a₀ ≡ drop (65 * 8) b → ShowsPlan (record { format = v; lanes = gs; count = n }) a × (drop (65 * 8) a ≡ drop (65 * 8) b)
  store-all n done b e = (record { head = so.head; lane = λ j h. so.lane j (omega (arith, h, done)) }, so.rest ∙ e)
