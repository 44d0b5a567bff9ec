-- Once the chosen lane's first record is taken out, the slot lists stand as they stood, and have room for the lane. Assumes nothing.
use mathlib.Core.Path.{◌≡◌, ap, ◌∙◌}
use mathlib.Core.Bool.{Bool, false}
use mathlib.Core.Option.{some}
use Prim.Native.Nat.{ℕ, ◌+◌, ◌/◌, ◌%◌, ◌^◌, ◌<◌}
use mathlib.Core.List.{List, [], ◌∷◌}
use native.Mathlib.Omega.{arith}
use lib.ListN.{length}
use Rattle.units.specs.Plain.{times, without}
use Rattle.rules.specs.State.{State, lane_at}
use Rattle.table.specs.Layout.{Behind}
use Rattle.table.proofs.Few.{few-good, room-held}
use Rattle.queue.specs.Queue.{Takes}
use Rattle.queue.specs.declared.Item.{Item}
use Rattle.slot_lists.specs.Lists.{back_at, list_at, start_at, list_of, Solid}
use Rattle.filing.specs.Filing.{front_of, sift, in_list, Agrees}
use Rattle.filing.proofs.Sift.{length-sift, sift-without, without-none, times-sift}
use Rattle.filing.proofs.Moves.{elsewhere}
use Rattle.filing.proofs.KeepsTake.{old-in}
use Rattle.lane_moves.specs.Moves.{Rooms}
use Rattle.table.proofs.Lists.{back-stays, lists-stay, starts-stay, solid-stays, agrees-stay}
use Rattle.engine.proofs.Serving.{At, x, is_first, holds-k}

-- lane k is chosen, and its first record is taken out of the table
module _ (t : List ℕ) (s : State) (g r k : ℕ) (a : At t s g r k) (t₁ : List ℕ) (e : Item) (taken : Takes t t₁ k e) (len : length t₁ ≡ length t) where
  bytes-stay : Behind t t₁
  bytes-stay = taken.leaves.rest

  pub solid-after : Solid t₁
  solid-after = solid-stays t t₁ bytes-stay a.holds.solid

  pub agrees₁ : Agrees (back_at t₁) (list_at t₁) (start_at t₁) s
  agrees₁ = agrees-stay t t₁ bytes-stay s a.holds.agrees

  same-list : list_of t₁ g r ≡ list_of t g r
  same-list = ap (λ (b : ℕ). (r + b) / 2 ^ g % 32) (back-stays t t₁ bytes-stay)

  pub first₁ : front_of (list_at t₁ g (list_of t₁ g r)) ≡ some k
  first₁ = ap (λ (b : ℕ). front_of (list_at t₁ g b)) same-list ∙ ap front_of (lists-stay t t₁ bytes-stay g (list_of t g r) a.high (omega arith)) ∙ a.first

  pub start₁ : start_at t₁ g ≡ some r
  start₁ = starts-stay t t₁ bytes-stay g a.high ∙ a.start

  pub some_after : 0 < length (list_at t₁ g (list_of t₁ g r))
  some_after = go (list_at t₁ g (list_of t₁ g r)) first₁
    where
      go : (l : List ℕ) → front_of l ≡ some k → 0 < length l
      go [] q = let z : ◌≡◌ {A = ℕ} 0 1 = cc in absurd (omega arith)
      go (y ∷ ys) q = omega arith

  pub rooms-after : (c : ℕ) → c < 32 → Rooms t₁ g (list_of t₁ g r) c
  rooms-after c hc = (
    omega (arith, ap length (agrees₁.filed g (list_of t₁ g r) a.low a.high (omega arith)), length-sift (λ j. in_list (back_at t₁) g (list_of t₁ g r) (lane_at s j)) s.order, few-good s a.good),
    λ ne.
        let p : ℕ → Bool = λ j. in_list (back_at t₁) g c (lane_at s j) in
        let out : p k ≡ false = elsewhere (back_at t₁) g (list_of t₁ g r) g c (lane_at s k) (old-in (back_at t₁) solid-after.back_whole s a.good (list_at t₁) (start_at t₁) agrees₁ k g r a.low a.high start₁ first₁ (x t s g r k a) (is_first t s g r k a)) (λ u v. ne v) in
        let none-k : times k (sift p s.order) ≡ 0 = times-sift p k s.order ∙ simp out in
        let same : sift p (without k s.order) ≡ sift p s.order = sift-without p k s.order ∙ without-none k (sift p s.order) none-k in
        omega (arith, ap length (agrees₁.filed g c a.low a.high hc), ap length same, length-sift p (without k s.order), room-held s a.good k (holds-k t s g r k a)),
  )
