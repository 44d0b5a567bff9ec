-- What a lane may still claim of the line up to a deadline D, and the invariant of every state that calls make from a fresh one.
-- The claim of a lane is its weight times the clock units from its next start to D, none where its first record is due after D. The invariant says, for
-- every D by which some record is due, that the clock and all claims fit before D, up to M. Assumes nothing.
use Prim.Native.Nat.{ℕ, zero, suc, ◌+◌, ◌-◌, ◌*◌, ◌≤◌, ◌<◌, max}
use native.Mathlib.Nat.{le_refl, mul-le-mul_left, mul-le-mul_right, sub-le-sub_left, zero-lt-suc, lt_irrefl}
use native.Mathlib.Omega.{arith}
use mathlib.Core.Path.{◌≡◌}
use mathlib.Core.Bool.{Bool, true, false}
use mathlib.Core.List.{List, [], ◌∷◌}
use mathlib.Core.Option.{Option, none, some}
use lib.Dec.{leb}
use lib.ListN.{length, get_or, set}
use borrow.Author.Tests.{leb-true, le-leb}
use Rattle.std.specs.Prelude.{if◌then◌else◌}
use Rattle.units.specs.Plain.{sum}
use Rattle.units.proofs.Bools.{if-ind}
use Rattle.units.proofs.Lists.{sum-set}
use Rattle.waiting.specs.Waiting.{GoodWaiting}
use Rattle.rules.specs.State.{Setting, Lane, Rec, rate, slot, charge, finish_r, first_of, holds, no_lane}
use Rattle.rules.proofs.Lists.{sum_mono, sum-scale}

-- a later start claims no more
pub claim-falls : (w D a b : ℕ) → a ≤ b → w * (D - b) ≤ w * (D - a)
claim-falls w D a b h = mul-le-mul_left w (sub-le-sub_left h D)

-- a start that rises by n * c or more, with w * c at least u, claims less by at least u * n
pub claim-drops : (u w c n D a b : ℕ) → u ≤ w * c → a + n * c ≤ b → a + n * c ≤ D → w * (D - b) + u * n ≤ w * (D - a)
claim-drops u w c n D a b hu hb hd =
    let step : D - b + n * c ≤ D - a = omega arith in
    omega (arith, mul-le-mul_right n hu, mul-le-mul_left w step)

-- where the lane's next start can be, cut at D: S if its first record is due by D, D if it is due later, the greater of F and V if the lane is idle
unfoldable pub from : ℕ → ℕ → Lane → ℕ
from v D l = if holds l then (if leb (finish_r l) D then l.start else D) else max l.finish v

abbrev pub weight_of : Lane → ℕ
weight_of l = l.given.weight

abbrev pub claim : ℕ → ℕ → Lane → ℕ
claim v D l = weight_of l * (D - from v D l)

pub from-ge : (v D a : ℕ) (l : Lane) → (holds l ≡ true → finish_r l ≤ D → a ≤ l.start) → a ≤ D → (holds l ≡ false → a ≤ max l.finish v) → a ≤ from v D l
unfolding from
from-ge v D a l hs hd hi =
    if-ind (λ (x : ℕ). a ≤ x) (holds l) _ _
    (λ e. if-ind (λ (x : ℕ). a ≤ x) (leb (finish_r l) D) _ _ (λ q. hs e (leb-true (finish_r l) D q)) (λ q. hd)) hi

pub from-due : (v D : ℕ) (l : Lane) → holds l ≡ true → finish_r l ≤ D → from v D l ≡ l.start
unfolding from
from-due v D l e h = simp (e, le-leb (finish_r l) D h)

pub from-held : (v D : ℕ) (l : Lane) → holds l ≡ true → from v D l ≡ (if leb (finish_r l) D then l.start else D)
unfolding from
from-held v D l e = simp e

pub from-mono : (v v' D : ℕ) (l : Lane) → v ≤ v' → from v D l ≤ from v' D l
unfolding from
from-mono v v' D l h =
    go (holds l)
  where
    go : (b : Bool) → (if b then (if leb (finish_r l) D then l.start else D) else max l.finish v) ≤ (if b then (if leb (finish_r l) D then l.start else D) else max l.finish v')
    go true = le_refl _
    go false = omega arith

-- (H) if no lane starts before v, the lanes together claim at most the line from v on
pub spread : (v D a : ℕ) (ls : List Lane) → sum weight_of ls ≤ 1024 → ((k : ℕ) → a ≤ from v D (get_or ls k no_lane)) → sum (claim v D) ls ≤ 1024 * (D - a)
spread v D a ls w h =
    omega (
      arith,
      sum_mono (claim v D) (λ (l : Lane). weight_of l * (D - a)) ls no_lane (λ k. claim-falls (weight_of (get_or ls k no_lane)) D a (from v D (get_or ls k no_lane)) (h k)),
      sum-scale weight_of (D - a) ls,
      mul-le-mul_right (D - a) w,
    )

-- a later clock lets no lane claim more
pub claims-mono : (v v' D : ℕ) (ls : List Lane) → v ≤ v' → sum (claim v' D) ls ≤ sum (claim v D) ls
claims-mono v v' D ls h =
    sum_mono (claim v' D) (claim v D) ls no_lane (λ k. claim-falls (weight_of (get_or ls k no_lane)) D (from v D (get_or ls k no_lane)) (from v' D (get_or ls k no_lane)) (from-mono v v' D (get_or ls k no_lane) h))

-- ---- the invariant

-- a holding lane has a weight, its F is its first record's, and that is not too long
abbrev pub Queued : Setting → ℕ → ℕ → Option Rec → Type 0
Queued g S F none = Unit {0}
Queued g S F (some r) = (0 < g.weight) × (F ≡ S + charge g r.len * rate g) × (r.len ≤ g.longest)

pub record LaneOk (M v : ℕ) (l : Lane) : Type 0 where
  pub queued : Queued l.given l.start l.finish (first_of l)
  pub waiting : GoodWaiting l.given.longest l.waiting
  pub below : (if holds l then l.start else l.finish) < v + 2 * slot l.given
  pub short : 1024 * charge l.given l.given.longest ≤ M

pub record Inv (M v : ℕ) (ls : List Lane) : Type 0 where
  pub weights : sum weight_of ls ≤ 1024
  pub ok : (k : ℕ) → LaneOk M v (get_or ls k no_lane)
  pub due : (D k : ℕ) → holds (get_or ls k no_lane) ≡ true → finish_r (get_or ls k no_lane) ≤ D → 1024 * v + sum (claim v D) ls ≤ 1024 * (D + M)

-- a lane with a weight is in the list
pub in-range : (ls : List Lane) (j : ℕ) → 0 < weight_of (get_or ls j no_lane) → j < length ls
in-range [] j h = absurd (lt_irrefl 0 h)
in-range (l ∷ ls) zero h = zero-lt-suc (length ls)
in-range (l ∷ ls) (suc j) h = omega (arith, in-range ls j h)

-- the weights' sum does not see a lane that is replaced by one of the same setting
pub same-weights : (ls : List Lane) (j : ℕ) (l : Lane) → j < length ls → weight_of l ≡ weight_of (get_or ls j no_lane) → sum weight_of (set ls j l) ≡ sum weight_of ls
same-weights ls j l h e = omega (arith, sum-set weight_of ls j l no_lane h)
