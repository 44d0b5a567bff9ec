-- Whether a lane is shared, and which trains it has. Assumes nothing.
use Prim.Native.Nat.{ℕ, ◌<◌}
use native.Mathlib.Omega.{arith}
use mathlib.Core.Path.{◌≡◌, refl, sym, ap}
use mathlib.Core.Bool.{Bool, true, false, false≢true}
use mathlib.Core.List.{[], ◌∷◌}
use mathlib.Core.Option.{some}
use borrow.Author.Tests.{leb-true, ltb-true}
use Rattle.units.proofs.Lists.{some_inj}
use Rattle.rounds.specs.Round as round
use Rattle.rounds.specs.Round.{train_count}
use Rattle.rounds.proofs.Held as held_laws
use Rattle.waiting.specs.Waiting.{Rec, Waiting, plain, shared, none_waiting, is_shared, first, enter, hand_out, known, GoodWaiting}
use Rattle.waiting.proofs.Laws.{clash, moved, item-some}

-- ---- a lane is shared or not for good

pub shared-nothing : (b : Bool) → is_shared (none_waiting b) ≡ b
unfolding is_shared
shared-nothing false = refl
shared-nothing true = refl

pub shared-enter : (L : ℕ) (w : Waiting) (r : Rec) → is_shared (enter L w r) ≡ is_shared w
unfolding is_shared enter
shared-enter L (plain q) r = refl
shared-enter L (shared s) r = refl

pub shared-hand : (L : ℕ) (w : Waiting) → is_shared (hand_out L w) ≡ is_shared w
unfolding is_shared hand_out
shared-hand L (plain q) = refl
shared-hand L (shared s) = refl

-- ---- a lane that is not shared has the train 0 alone

pub first-train : (w : Waiting) (x : Rec) → is_shared w ≡ false → first w ≡ some x → x.train ≡ 0
unfolding is_shared
first-train (plain []) x u e = clash x e
first-train (plain (y ∷ ys)) x u e = sym (ap (λ (z : Rec). z.train) (some_inj _ x e))
first-train (shared s) x u e = absurd (false≢true (sym u))

pub known-train : (w : Waiting) (t : ℕ) → is_shared w ≡ false → known w t ≡ true → t ≡ 0
unfolding is_shared known
known-train (plain q) t u e = omega (arith, leb-true t 0 e)
known-train (shared s) t u e = absurd (false≢true (sym u))

-- and a shared one those of its number
pub first-known : (L : ℕ) (w : Waiting) (x : Rec) → GoodWaiting L w → first w ≡ some x → x.train < train_count
unfolding GoodWaiting is_shared
first-known L (plain q) x g e = omega (arith, first-train (plain q) x refl e)
first-known L (shared s) x g e = held_laws.first-inside L s (moved x) g (item-some (round.shared_first s) x e)

pub known-inside : (w : Waiting) (t : ℕ) → known w t ≡ true → t < train_count
unfolding known
known-inside (plain q) t e = omega (arith, leb-true t 0 e)
known-inside (shared s) t e = ltb-true t train_count e
