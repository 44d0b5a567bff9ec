-- From the words that a function leaves to the state that it leaves. Assumes nothing.
use mathlib.Core.Path.{◌≡◌, ap, ◌∙◌}
use mathlib.Core.Bool.{true}
use Prim.Native.Nat.{ℕ, ◌<◌}
use mathlib.Core.List.{List}
use lib.ListN.{length}
use native.Mathlib.Omega.{arith}
use Rattle.rules.specs.State.{Lane, State}
use Rattle.slot_lists.specs.Lists.{list_at}
use Rattle.filing.specs.Filing.{in_aRow}
use Rattle.table.specs.Layout.{Now, cells, row_at}
use Rattle.table.specs.Means.{present_at, Housed, RowsFit, lane_of, state_of, meant, Sound, Leaves, with_lane}
use Rattle.table.proofs.Stores.{behind-then}
use Rattle.table.proofs.Footprint.{Outside, lane-changed, beside-changed}
use Rattle.table.proofs.Lists.{row_stays}

-- one function after another
pub leaves-then : {t u v : List ℕ} {s s' : State} → Leaves t u s → Leaves u v s' → Leaves t v s'
leaves-then a b = record { state = b.state; beside = λ x. b.beside (a.beside x); rest = behind-then a.rest b.rest }

-- the words u were left, and no list moved
pub meant-now : (t t' u : List ℕ) → Now t t' u → meant t' ≡ state_of u (in_aRow (list_at t))
meant-now t t' u n = ap (λ (w : List ℕ). state_of w (in_aRow (list_at t'))) n.words ∙ ap (state_of u) (row_stays t t' n.rest)

-- a lane's words were changed, and the lane is now l
pub leave-lane : (t t' u : List ℕ) (k : ℕ) (l : Lane) → k < 64 → Now t t' u → Outside (cells t) u k → lane_of u k ≡ l
    → (RowsFit (cells t) → present_at u k ≡ true → 0 < (row_at u k).count → Housed u k (row_at u k))
    → Leaves t t' (with_lane (meant t) k l)
leave-lane t t' u k l hk n o e f =
    record {
      state = meant-now t t' u n ∙ lane-changed (cells t) u k hk o (in_aRow (list_at t)) ∙ ap (with_lane (meant t) k) e;
      beside = λ b. rw n.words (beside-changed (cells t) u k hk o f b);
      rest = n.rest;
    }

-- what the next function rests on
pub sound-after : {t t' : List ℕ} {s : State} → Sound t → Leaves t t' s → length t' ≡ length t → Sound t'
sound-after a l e = record { room = omega (arith, a.room); beside = l.beside a.beside }
