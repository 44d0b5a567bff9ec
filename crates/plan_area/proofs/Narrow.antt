-- What a plan of the code has of an area's: numbers that are too great for it count as the greatest that fit.
--
--   narrowed_lanes, had_of   the area's lanes and its plan, as they are had
--   narrow_gives           within the numbers nothing is lost, and what is outside them stays outside
--
-- Assumes nothing.
use Prim.Native.Nat.{ℕ, ◌≤◌, ◌<◌}
use mathlib.Core.Path.{◌≡◌, refl, sym, ap, subst, ◌∙◌}
use mathlib.Core.Bool.{Bool, true, false}
use mathlib.Core.Logic.{⊎_elim}
use mathlib.Core.List.{List}
use native.Mathlib.Omega.{arith}
use borrow.Author.Tests.{le-ltb}
use lib.Dec.{ltb}
use lib.Seq.{ext_get_or}
use Rattle.std.specs.Prelude.{if◌then◌else◌}
use Rattle.words.specs.Runs.{tab}
use Rattle.words.proofs.Runs.{length-tab, get_d-tab}
use Rattle.rules.specs.State.{Setting, no_setting, setting_at}
use Rattle.rules.specs.Setup.{InNumbers, Setup, framing_of}
use Rattle.plan.specs.Accepted.{present}
use Rattle.plan_writer.specs.Write.{Planned, Within}
use Rattle.plan_writer.proofs.Framing.{fitting-line}
use Rattle.plan_area.specs.Area.{format_in, lane_in, lanes_in, plan_in, fitted, narrowed, Gives}

-- ---- one number

fits_whole : (most n : ℕ) → n ≤ most → fitted most n ≡ n
fits_whole most n h = rw (le-ltb most n h)

-- one that is had below the greatest was not too great
had-whole : (most n : ℕ) → fitted most n < most → fitted most n ≡ n
had-whole most n h = go (ltb most n) h
  where
    go : (b : Bool) → (if b then most else n) < most → (if b then most else n) ≡ n
    go true h = absurd (omega (arith, h))
    go false h = refl

-- ---- one lane

abbrev Small : Setting → Type 0
Small g = (g.longest ≤ 1500) × (g.framing ≤ 64)

small-lane : (gs : List Setting) → Setup gs → (k : ℕ) → Small (setting_at gs k)
small-lane gs s k =
    ⊎_elim
    (λ (n : InNumbers (setting_at gs k) × ((setting_at gs k).framing ≡ framing_of gs)). (n.0.longest_high, omega (arith, n.1, s.framing_high)))
    (λ (q : setting_at gs k ≡ no_setting). (omega (arith, ap (λ (g : Setting). g.longest) q), omega (arith, ap (λ (g : Setting). g.framing) q)))
    (fitting-line gs s k)

lane_whole : (g : Setting) → fitted 65535 g.longest ≡ g.longest → fitted 255 g.framing ≡ g.framing → narrowed g ≡ g
lane_whole g e f = rw (e, f)

-- ---- all of them

module _ (a : List ℕ) where
  abbrev pub narrowed_lanes : List Setting
  narrowed_lanes = tab 64 (λ k. narrowed (lane_in a k))

  abbrev pub had_of : Planned
  had_of = record { format = format_in a; lanes = narrowed_lanes; count = present (lanes_in a) }

  all_whole : ((k : ℕ) → k < 64 → narrowed (lane_in a k) ≡ lane_in a k) → had_of ≡ plan_in a
  all_whole f =
      ap (λ (gs : List Setting). record { format = format_in a; lanes = gs; count = present (lanes_in a) })
      (ext_get_or no_setting narrowed_lanes (lanes_in a) (length-tab 64 (λ k. narrowed (lane_in a k)) ∙ sym (length-tab 64 (lane_in a)))
      (λ k h.
      let b : k < 64 = omega (arith, h, length-tab 64 (λ k. narrowed (lane_in a k))) in
      get_d-tab 64 k (λ k. narrowed (lane_in a k)) no_setting b ∙ f k b ∙ sym (get_d-tab 64 k (lane_in a) no_setting b)))

  words-within : Within (plan_in a) → had_of ≡ plan_in a
  words-within w =
      all_whole
      (λ k b.
      let s : Small (lane_in a k) = subst Small (get_d-tab 64 k (lane_in a) no_setting b) (small-lane (lanes_in a) w.setup k) in
      lane_whole (lane_in a k) (fits_whole 65535 (lane_in a k).longest (omega (arith, s.0))) (fits_whole 255 (lane_in a k).framing (omega (arith, s.1))))

  had-within : Within had_of → had_of ≡ plan_in a
  had-within w =
      all_whole
      (λ k b.
      let s : Small (narrowed (lane_in a k)) = subst Small (get_d-tab 64 k (λ k. narrowed (lane_in a k)) no_setting b) (small-lane narrowed_lanes w.setup k) in
      lane_whole (lane_in a k) (had-whole 65535 (lane_in a k).longest (omega (arith, s.0))) (had-whole 255 (lane_in a k).framing (omega (arith, s.1))))

  pub narrow_gives : Gives (plan_in a) had_of
  narrow_gives = record { same = words-within; within = λ w. subst Within (had-within w) w }
