-- When a table is the halt's, by what its words say. Assumes nothing.
use Prim.Native.Nat.{ℕ, ◌<◌}
use native.Mathlib.Omega.{arith}
use mathlib.Core.Path.{◌≡◌, refl, sym, ap, ◌∙◌}
use mathlib.Core.Bool.{Bool, true, false}
use mathlib.Core.List.{List}
use mathlib.Core.Option.{none, some}
use lib.Dec.{eqb}
use borrow.Author.Tests.{eq-eqb, eqb-true}
use Rattle.std.specs.Prelude.{if◌then◌else◌}
use Rattle.rules.specs.State.{Setting, Lane, setting_at, lane_at, setup_of}
use Rattle.rules.proofs.SameSetup.{setting-lane}
use Rattle.pages.specs.Device.{Page}
use Rattle.editions.specs.Part.{new_in, plan_of, waiting_in}
use Rattle.table.specs.Layout.{cells, row_at}
use Rattle.table.specs.Means.{present_at, given_of, meant}
use Rattle.table.specs.declared.LaneRow.{LaneRow}
use Rattle.table.proofs.Footprint.{lane-is}
use Rattle.table.proofs.Rows.{given-row}
use Rattle.lane_test.specs.Says.{Says}
use Rattle.good.proofs.Whole.{says-iff}
use Rattle.engine.proofs.RowIs.{absent-lane}
use Rattle.paged.specs.Paged.{part_of, GoodUnit}
use Rattle.halt.specs.Halt.{halt_lane, HaltTable}
use Rattle.halt.proofs.Setups.{four-say}

-- ---- a lane

module _ (t : List ℕ) (k w : ℕ) where
  -- a lane that is not in the setup has weight 0
  pub absent-says : k < 64 → 0 < w → present_at (cells t) k ≡ false → Says false ((lane_at (meant t) k).given ≡ halt_lane w)
  absent-says h pos e = λ same. absurd (omega (arith, pos, ap (λ (g : Setting). g.weight) (sym (ap (λ (l : Lane). l.given) (absent-lane t k h e)) ∙ same)))

  pub row-says : k < 64 → present_at (cells t) k ≡ true → (l : LaneRow) → l ≡ row_at (cells t) k → (b : Bool) → Says b (given_of l ≡ halt_lane w)
      → Says b ((lane_at (meant t) k).given ≡ halt_lane w)
  row-says h e l r b s =
      let at : (lane_at (meant t) k).given ≡ given_of l = ap (λ (x : Lane). x.given) (lane-is (cells t) _ k h) ∙ given-row (cells t) k e ∙ ap given_of (sym r) in
      says-iff b (λ q. at ∙ q) (λ q. sym at ∙ q) s

  pub table-lane : (b : Bool) → Says b ((lane_at (meant t) k).given ≡ halt_lane w) → Says b (setting_at (setup_of (meant t)) k ≡ halt_lane w)
  table-lane b s = says-iff b (λ e. setting-lane (meant t) k ∙ e) (λ e. sym (setting-lane (meant t) k) ∙ e) s

-- ---- the page that waits

waits_by : (p : Page) (b : Bool) → (if b then none else some p) ≡ none → b ≡ true
waits_by p true e = refl
waits_by p false e = let z : ◌≡◌ {A = ℕ} 0 1 = cc in absurd (omega arith)

pub waits-not : (t : List ℕ) → waiting_in (part_of t) ≡ none → new_in (part_of t) ≡ 0
unfolding waiting_in
waits-not t e = eqb-true (new_in (part_of t)) 0 (waits_by (record { edition = new_in (part_of t); settings = (plan_of (part_of t)).lanes }) (eqb (new_in (part_of t)) 0) e)

not-waits : (t : List ℕ) → new_in (part_of t) ≡ 0 → waiting_in (part_of t) ≡ none
unfolding waiting_in
not-waits t e = rw (eq-eqb (new_in (part_of t)) 0 e)

-- ---- the whole table

pub table-say : (t : List ℕ) → GoodUnit t → new_in (part_of t) ≡ 0 → setting_at (setup_of (meant t)) 0 ≡ halt_lane 512 → setting_at (setup_of (meant t)) 1 ≡ halt_lane 256
    → setting_at (setup_of (meant t)) 2 ≡ halt_lane 128 → (b : Bool) → Says b (setting_at (setup_of (meant t)) 3 ≡ halt_lane 128) → Says b (HaltTable t)
table-say t g n e f h b s =
    says-iff b (λ same. record { good = g; setup = same; free = not-waits t n }) (λ is. is.setup) (four-say (setup_of (meant t)) g.core.good.setup e f h b s)
