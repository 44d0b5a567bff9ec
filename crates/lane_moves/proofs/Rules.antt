-- What `add` and `refile` leave agrees with the rules' own states after put and take: the lists and the starts are those of `accept` and `serve`.
-- Assumes nothing.
use mathlib.Core.Path.{◌≡◌, refl, sym, ap, ◌∙◌}
use mathlib.Core.Bool.{Bool, true, false}
use mathlib.Core.Option.{some}
use Prim.Native.Nat.{ℕ, ◌≤◌, ◌<◌}
use mathlib.Core.List.{List}
use lib.ListN.{length}
use Rattle.units.proofs.Round.{round-div}
use Rattle.rules.specs.State.{Rec, State, group, slot, first_of, holds, lane_at}
use Rattle.rules.specs.Choice.{least}
use Rattle.rules.specs.Calls.{woken, served, accept, serve}
use Rattle.rules.specs.Good.{Good}
use Rattle.rules.proofs.Moves.{Sound, MayEnter}
use Rattle.slot_lists.specs.Lists.{back_at, list_at, start_at}
use Rattle.filing.specs.Filing.{front_of, Whole, Agrees, Filing}
use Rattle.filing.proofs.Starts.{Named}
use Rattle.filing.proofs.KeepsPut.{put-agrees}
use Rattle.filing.proofs.KeepsTake.{last-filed, again-filed, serve-agrees, serve-agrees-none}
use Rattle.lane_moves.specs.Moves.{slot_of, list_of, Added, Onward, nowhere, onto, Refiled}

-- put to an idle lane
pub add-agrees : (s : State) (t t' : List ℕ) (k : ℕ) (r : Rec) → Agrees (back_at t) (list_at t) (start_at t) s → Named s → k < length s.lanes → holds (lane_at s k) ≡ false
    → Sound (lane_at s k) → MayEnter (lane_at s k) r → 16 ≤ group (lane_at s k).given → group (lane_at s k).given ≤ 31
    → Added t t' (group (lane_at s k).given) (woken s.clock (lane_at s k) r).start k → Agrees (back_at t) (list_at t') (start_at t') (accept s k r)
unfolding woken slot
add-agrees s t t' k r ag named inside idle sound may lo hi a =
    put-agrees (back_at t) s (list_at t) (list_at t') (start_at t) (start_at t') ag named k inside idle r sound may lo hi a.lists
    (a.start ∙ ap (λ (x : ℕ). least x (start_at t (group (lane_at s k).given))) (sym (round-div (slot (lane_at s k).given) (woken s.clock (lane_at s k) r).start)))
    a.starts

-- take from the first lane of the list of a group's start
module _ (s : State) (good : Good s) (t t' : List ℕ) (whole : Whole (back_at t)) (ag : Agrees (back_at t) (list_at t) (start_at t) s)
    (k g r : ℕ) (lo : 16 ≤ g) (hi : g ≤ 31) (start : start_at t g ≡ some r) (first : front_of (list_at t g (list_of t g r)) ≡ some k)
    (x : Rec) (is_first : first_of (lane_at s k) ≡ some x) (named : Named (serve s k x))
    (more : Bool) (em : more ≡ holds (served (lane_at s k))) (y : ℕ) (a : Refiled t t' g r (lane_at s k).finish k more y) where
  filed_after : (b : Bool) → more ≡ b → Filing (back_at t) (list_at t') (serve s k x)
  filed_after true e = again-filed (back_at t) whole s good (list_at t) (start_at t) ag k g r lo hi start first x is_first a.between (list_at t') (sym em ∙ e) a.off (a.again e)
  filed_after false e = last-filed (back_at t) whole s good (list_at t) (start_at t) ag k g r lo hi start first x is_first (list_at t') (sym em ∙ e) (a.last e)

  onward : Onward t' g r (slot_of t g r) → Agrees (back_at t) (list_at t') (start_at t') (serve s k x)
  onward (nowhere none_left e) = serve-agrees-none (back_at t) whole s good (list_at t) (start_at t) ag k g r lo hi start first x is_first (list_at t') (start_at t') (filed_after more refl) named a.starts none_left e
  onward (onto d n e) = serve-agrees (back_at t) whole s good (list_at t) (start_at t) ag k g r lo hi start first x is_first (list_at t') (start_at t') (filed_after more refl) named a.starts d n e

  pub refile-agrees : Agrees (back_at t) (list_at t') (start_at t') (serve s k x)
  refile-agrees = onward a.onward
