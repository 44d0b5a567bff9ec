-- What every reply on a table known to be good is: its four words have 32 bits, and a record that it hands out or shows waits in a lane of the setup. Then
-- its line can be written: `told`, by the table after the call. Assumes nothing.
use Prim.Native.Nat.{ℕ, ◌<◌}
use mathlib.Core.Path.{◌≡◌, sym, ap, subst}
use mathlib.Core.Bool.{Bool, true, false}
use mathlib.Core.List.{List}
use mathlib.Core.Option.{Option, none, some}
use lib.Dec.{ltb}
use Rattle.std.specs.Prelude.{if◌then◌else◌}
use Rattle.rules.specs.State.{Rec, Setting, State, some?, first_of, lane_at, any_holds, setup_of, setting_at}
use Rattle.rules.specs.Sets.{groups, ready, ineligible_ready, eligible_blocked, ineligible_blocked}
use Rattle.rules.specs.Calls.{Call, put, take, look, sets, lag, restart, Reply, lagged, restarted, Outcome, Pick, no, put_refusal, put_of, do_put, picked, take_of, do_take, look_of, do_look, do_sets, lag_of, do_lag, fresh, do_restart, step}
use Rattle.rules.specs.Reads.{reads}
use Rattle.rules.specs.declared.Answer.{Answer}
use Rattle.std.specs.Prelude.{Result}
use Rattle.rules.specs.declared.Refusal.{Refusal}
use Rattle.rules.proofs.Keep.{PickIs, pick_is}
use Rattle.rules.proofs.SameSetup.{setting-lane}
use Rattle.rules.proofs.Word.{word_lt}
use Rattle.table.specs.Layout.{cells}
use Rattle.table.specs.Means.{meant, Sound}
use Rattle.table.specs.Encodes.{Encodes}
use Rattle.table.proofs.Rows.{holds-present}
use Rattle.choice.proofs.Held.{held_small}
use Rattle.engine.proofs.RowIs.{row_is, row-weighs}
use Rattle.lines.specs.Line.{Words32}
use Rattle.answers.specs.Lines.{InSetup}
use Rattle.answers.proofs.Shared.{kept-setup}

abbrev Told : List Setting → Reply → Type 0
Told gs r = Words32 r × InSetup gs r

module _ (t : List ℕ) (sound : Sound t) where
  abbrev s : State
  s = meant t

  holding-weighs : (k : ℕ) (r : Rec) → first_of (lane_at s k) ≡ some r → 0 < (setting_at (setup_of s) k).weight
  holding-weighs k r e =
      let holding = ap some? e in
      let small = held_small t k holding in
      subst (λ (g : Setting). 0 < g.weight) (sym (setting-lane s k)) (row-weighs _ _ (row_is t sound k small (holds-present (cells t) _ k small holding)))

  put-told : (j : ℕ) (r : Rec) (o : Option ℕ) → Told (setup_of s) (put_of s j r o).reply
  unfolding put_of
  put-told j r none = (tt, tt)
  put-told j r (some n) = (tt, tt)

  take-told : (o : Option Pick) → PickIs s o → Told (setup_of s) (take_of s o).reply
  unfolding take_of
  take-told none h = (tt, tt)
  take-told (some p) h = (tt, holding-weighs p.lane p.first h.is_first)

  look-told : (o : Option Pick) → PickIs s o → Told (setup_of s) (look_of s o).reply
  unfolding look_of
  look-told none h = (tt, tt)
  look-told (some p) h = (tt, holding-weighs p.lane p.first h.is_first)

  either-told : (b : Bool) (x y : Outcome) → Told (setup_of s) x.reply → Told (setup_of s) y.reply → Told (setup_of s) (if b then x else y).reply
  either-told true x y p q = p
  either-told false x y p q = q

  step-told : (c : Call) → Told (setup_of s) (step s c).reply
  unfolding step do_put do_take do_look do_sets do_lag do_restart
  step-told (put j k m n) = put-told j (record { train = k; mark = m; len = n }) (put_refusal s j (record { train = k; mark = m; len = n }))
  step-told take = take-told (picked s) (pick_is s)
  step-told look = look-told (picked s) (pick_is s)
  step-told sets = (
    (
      word_lt (ready s.clock s.lanes) groups,
      word_lt (ineligible_ready s.clock s.lanes) groups,
      word_lt (eligible_blocked s.clock s.lanes) groups,
      word_lt (ineligible_blocked s.clock s.lanes) groups,
    ),
    tt,
  )
  step-told (lag j) = either-told (ltb (lane_at s j).given.weight 1) (no 11 s) (record { reply = lagged (lag_of s.clock (lane_at s j)); state = s }) (tt, tt) (tt, tt)
  step-told restart = either-told (any_holds s.lanes) (no 15 s) (record { reply = restarted; state = fresh (setup_of s) }) (tt, tt) (tt, tt)

  -- no call changes the setup, so the table after the call has the lane too
  pub told : (t' : List ℕ) (c : Call) (x : Result Answer Refusal) → Encodes t' (step s c).state → reads x ≡ (step s c).reply → Words32 (reads x) × InSetup (setup_of (meant t')) (reads x)
  told t' c x e says = subst (λ (gs : List Setting). Told gs (reads x)) (sym (kept-setup t t' c e)) (subst (Told (setup_of s)) (sym says) (step-told c))
