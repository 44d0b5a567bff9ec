-- The jump: the clock moves up to u, and no holding lane has its rounded start before u. Assumes nothing.
use Prim.Native.Nat.{ℕ, ◌≤◌}
use native.Mathlib.Omega.{arith}
use mathlib.Core.Path.{◌≡◌}
use mathlib.Core.Bool.{true}
use mathlib.Core.List.{List}
use lib.ListN.{get_or}
use Rattle.rules.specs.State.{Lane, slot, start_r, holds, no_lane}
use Rattle.units.proofs.Round.{round-le}
use Rattle.rules.proofs.Claim.{from, from-ge, spread, Inv}
use Rattle.rules.proofs.Serve.{later-ok}

module _ (M v : ℕ) (ls : List Lane) (inv : Inv M v ls) (u : ℕ) (up : v ≤ u)
    (behind : (k : ℕ) → holds (get_or ls k no_lane) ≡ true → u ≤ start_r (get_or ls k no_lane))
  where
    jump-starts : (D k : ℕ) → u ≤ D → u ≤ from u D (get_or ls k no_lane)
    jump-starts D k p =
        from-ge u D u (get_or ls k no_lane)
        (λ e d. omega (arith, behind k e, round-le (slot (get_or ls k no_lane).given) (get_or ls k no_lane).start))
        p (λ e. omega arith)

    pub jump : Inv M u ls
    jump = record {
      weights = inv.weights;
      ok = λ k. later-ok M v u (get_or ls k no_lane) up (inv.ok k);
      due = λ D k e h.
          let p : u ≤ D = omega (arith, behind k e) in
          omega (arith, spread u D u ls inv.weights (λ i. jump-starts D i p));
    }
