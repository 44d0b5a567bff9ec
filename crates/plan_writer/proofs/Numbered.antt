-- A plan's lanes by number.
--
--   numbered-size, numbered-at   there are 64, and each is the plan's own
--   numbered-all                 a list of 64 is the same by number
--   lane-next                    the lanes from k on: lane k, and those behind it
--
-- Assumes nothing.
use Prim.Native.Nat.{ℕ, zero, suc, ◌+◌, ◌<◌}
use mathlib.Core.Path.{◌≡◌, refl, sym, ap, ◌∙◌}
use mathlib.Core.Bool.{false}
use mathlib.Core.List.{List, ◌∷◌, map}
use native.Mathlib.Omega.{arith}
use lib.ListN.{length, drop, get_or, get_or-map}
use lib.Seq.{ext_get_or, drop-cons}
use Rattle.rules.specs.State.{Setting, no_setting, setting_at}
use Rattle.plan.specs.Read.{setting_of}
use Rattle.plan.specs.declared.Lane as plan
use Rattle.plan_writer.specs.Write.{numbered_from, numbered}

from-size : (k n : ℕ) (gs : List Setting) → length (numbered_from k n gs) ≡ n
unfolding numbered_from
from-size k zero gs = refl
from-size k (suc n) gs = ap suc (from-size (suc k) n gs)

pub numbered-size : (gs : List Setting) → length (numbered gs) ≡ 64
numbered-size gs = from-size 0 64 gs

from_at : (k n : ℕ) (gs : List Setting) (i : ℕ) → i < n → setting_at (numbered_from k n gs) i ≡ setting_at gs (k + i)
unfolding numbered_from
from_at k zero gs i h = absurd (omega (arith, h))
from_at k (suc n) gs zero h = ap (setting_at gs) (let e : k ≡ k + 0 = omega arith in e)
from_at k (suc n) gs (suc i) h = from_at (suc k) n gs i (omega (arith, h)) ∙ ap (setting_at gs) (let e : suc k + i ≡ k + suc i = omega arith in e)

pub numbered-at : (gs : List Setting) (i : ℕ) → i < 64 → setting_at (numbered gs) i ≡ setting_at gs i
numbered-at gs i h = from_at 0 64 gs i h ∙ ap (setting_at gs) (let e : 0 + i ≡ i = omega arith in e)

pub numbered-all : (gs : List Setting) → length gs ≡ 64 → numbered gs ≡ gs
numbered-all gs e = ext_get_or no_setting (numbered gs) gs (numbered-size gs ∙ sym e) (λ i h. numbered-at gs i (omega (arith, h, numbered-size gs)))

-- an absent lane, as the code's struct has it
abbrev pub none : plan.Lane
none = record { weight = 0; longest = 0; framing = 0; shared = false }

module _ (lanes : List plan.Lane) (k : ℕ) (h : k < 64) where
  pub lane-at : setting_at (numbered (map setting_of lanes)) k ≡ setting_of (get_or lanes k none)
  lane-at = numbered-at (map setting_of lanes) k h ∙ get_or-map setting_of lanes k none

  pub lane-next : drop k (numbered (map setting_of lanes)) ≡ setting_of (get_or lanes k none) ∷ drop (suc k) (numbered (map setting_of lanes))
  lane-next =
      drop-cons (numbered (map setting_of lanes)) k no_setting (omega (arith, h, numbered-size (map setting_of lanes)))
      ∙ ap (λ (g : Setting). g ∷ drop (suc k) (numbered (map setting_of lanes))) lane-at
