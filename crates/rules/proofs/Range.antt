-- The clock stays below 2 ^ 61 + 2 ^ 44. The potential: V and 2 ^ 32 for each record held. A put finds V below 2 ^ 61, or takes it back; a take moves V by less
-- than 2 ^ 32, and one record fewer is held then. Assumes nothing.
use Prim.Native.Nat.{ℕ, suc, ◌+◌, ◌*◌, ◌^◌, ◌≤◌, ◌<◌, max}
use native.Mathlib.Omega.{arith}
use mathlib.Core.Path.{◌≡◌, refl, sym, ap, subst, ◌∙◌}
use mathlib.Core.Bool.{Bool, true, false, not, ◌&&◌, false≢true}
use mathlib.Core.Option.{Option, none, some}
use mathlib.Core.List.{List, [], ◌∷◌, ◌++◌, map}
use lib.Dec.{ltb, leb}
use lib.ListN.{length, get_or, set, length-set, length-map}
use borrow.Author.Tests.{leb-false}
use Rattle.std.specs.Prelude.{if◌then◌else◌}
use Rattle.units.specs.Plain.{sum}
use Rattle.waiting.specs.Waiting.{held}
use Rattle.waiting.proofs.Laws.{held-nothing, held-enter, held_none, held-most, good-enter}
use Rattle.rules.specs.State.{clock_far, lane_depth, Setting, no_setting, setup_of, Lane, Rec, State, slot, start_r, first_of, holds, no_lane, lane_at, any_holds}
use Rattle.rules.specs.Calls.{Pick, Call, Outcome, put, take, look, sets, lag, restart, entered, woken, appended, take_of, picked, do_take, put_refusal, accept, put_of, do_put, do_look, do_sets, do_restart, idle, fresh, step, lower_all, shifted}
use Rattle.units.proofs.Round.{round-le}
use Rattle.units.proofs.Bools.{if-ind}
use Rattle.units.proofs.Lists.{sum-set, sum_bound, sum-zero}
use Rattle.rules.proofs.Lists.{set_all, get_d_map}
use Rattle.rules.proofs.Lane.{slot-pos}
use Rattle.rules.proofs.Claim.{in-range}
use Rattle.rules.proofs.Moves.{MayEnter, idle-first}
use Rattle.rules.proofs.Bounds.{idle-at}
use Rattle.rules.proofs.Lowest.{none-holds}
use Rattle.rules.proofs.Keep.{PickIs, pick_is, Allowed, allowed-enters, PutOk, put-ok, look-same, lag-same}
use Rattle.rules.proofs.Shift.{shifted-given, shifted-waiting, shifted-size, shifted-allowed, taken_off-most}
pub use Rattle.rules.proofs.RangeTake.{held_in, LaneRange, Range, LanesOk}
use Rattle.rules.proofs.RangeTake.{take_range}

-- ---- put

-- a put on a state whose clock is below 2 ^ 61
module _ (M : ℕ) (s : State) (j : ℕ) (x : Rec) (ok : LanesOk M s) (a : Allowed s j x) (early : s.clock < clock_far) (each : (k : ℕ) → LaneRange (lane_at s k)) (most : length s.lanes ≤ 64) where
  put-inside : j < length s.lanes
  put-inside = in-range s.lanes j a.has

  enters : MayEnter (lane_at s j) x
  enters = allowed-enters s j x a

  entered-held : held (entered (lane_at s j) x) ≡ suc (held_in (lane_at s j))
  entered-held = held-enter (lane_at s j).given.longest (lane_at s j).waiting x (ok j).waiting enters

  entered-room : held (entered (lane_at s j) x) ≤ lane_depth
  entered-room = held-most (lane_at s j).given.longest (entered (lane_at s j) x) (good-enter (lane_at s j).given.longest (lane_at s j).waiting x (ok j).waiting enters)

  room : (l : Lane) → l.given ≡ (lane_at s j).given → held_in l ≡ suc (held_in (lane_at s j)) → held_in l ≤ lane_depth
  room l g n = omega (arith, entered-held, entered-room)

  -- one record more, in a lane that has room for it
  one_more : (l : Lane) (v : ℕ) (order : List ℕ) → l.given ≡ (lane_at s j).given → held_in l ≡ suc (held_in (lane_at s j))
      → (v ≡ s.clock) → Range (record { clock = v; lanes = set s.lanes j l; order = order })
  one_more l v order g n c =
      let lanes : (k : ℕ) → LaneRange (get_or (set s.lanes j l) k no_lane)
      = set_all LaneRange s.lanes j l no_lane (record { slot = rw g (each j).slot; room = room l g n }) each in
      let few : length (set s.lanes j l) ≤ 64 = omega (arith, length-set s.lanes j l, most) in
      record {
        lane = lanes;
        few = few;
        clock = omega (arith, early, sum_bound held_in lane_depth (set s.lanes j l) no_lane (λ k. (lanes k).room));
      }

  -- the first record of all, and the clock at its rounded start
  first-of-all : (l : Lane) (order : List ℕ) → l.given ≡ (lane_at s j).given → held_in l ≡ suc (held_in (lane_at s j)) → sum held_in s.lanes ≡ 0
      → start_r l < s.clock + 2 ^ 32 → Range (record { clock = start_r l; lanes = set s.lanes j l; order = order })
  first-of-all l order g n z up =
      let base = one_more l s.clock order g n refl in
      record {
        lane = base.lane;
        few = base.few;
        clock = omega (arith, early, up, sum-set held_in s.lanes j l no_lane put-inside);
      }

  woken-start : holds (lane_at s j) ≡ false → start_r (woken s.clock (lane_at s j) x) < s.clock + 2 ^ 32
  unfolding woken
  woken-start e =
      omega (
        arith,
        round-le (slot (lane_at s j).given) (max (lane_at s j).finish s.clock),
        (each j).slot,
        slot-pos (lane_at s j).given,
        subst (λ (b : Bool). (if b then (lane_at s j).start else (lane_at s j).finish) < s.clock + 2 * slot (lane_at s j).given) e (ok j).below,
      )

  woken-held : holds (lane_at s j) ≡ false → held_in (woken s.clock (lane_at s j) x) ≡ suc (held_in (lane_at s j))
  unfolding woken
  woken-held e = entered-held

  woken-given : (woken s.clock (lane_at s j) x).given ≡ (lane_at s j).given
  unfolding woken
  woken-given = refl

  appended-held : held_in (appended (lane_at s j) x) ≡ suc (held_in (lane_at s j))
  unfolding appended
  appended-held = entered-held

  appended-given : (appended (lane_at s j) x).given ≡ (lane_at s j).given
  unfolding appended
  appended-given = refl

  none_held : any_holds s.lanes ≡ false → sum held_in s.lanes ≡ 0
  none_held e = sum-zero held_in s.lanes no_lane (λ k. held_none (lane_at s k).given.longest (lane_at s k).waiting (ok k).waiting (idle-first (first_of (lane_at s k)) (none-holds s.lanes e k)))

  accept-range : Range (accept s j x)
  unfolding accept
  accept-range =
      if-ind Range (holds (lane_at s j)) _ _
      (λ e. one_more (appended (lane_at s j) x) s.clock s.order appended-given appended-held refl)
      (λ e.
      let l = woken s.clock (lane_at s j) x in
      if-ind (λ (v : ℕ). Range (record { clock = v; lanes = set s.lanes j l; order = s.order ++ (j ∷ []) })) (not (any_holds s.lanes) && ltb s.clock (start_r l)) _ _
      (λ b. first-of-all l _ woken-given (woken-held e) (none_held (alone (any_holds s.lanes) (ltb s.clock (start_r l)) b)) (woken-start e))
      (λ b. one_more l s.clock _ woken-given (woken-held e) refl))
    where
      alone : (a b : Bool) → (not a && b) ≡ true → a ≡ false
      alone true b e = absurd (false≢true e)
      alone false b e = refl

-- the shift leaves a clock below 2 ^ 61
pub shifted-early : (s : State) → (shifted s).clock < clock_far
unfolding shifted lower_all
shifted-early s =
    if-ind (λ (x : State). x.clock < clock_far) (leb clock_far s.clock) _ _ (λ e. omega (arith, taken_off-most s.clock)) (λ e. leb-false clock_far s.clock e)

put-range : (M : ℕ) (s : State) (j : ℕ) (x : Rec) (o : Option ℕ) → LanesOk M (shifted s) → PutOk s j x o → Range s → Range (put_of s j x o).state
unfolding put_of
put-range M s j x none ok a r =
    accept-range M (shifted s) j x ok (shifted-allowed s j x a) (shifted-early s)
    (λ k. record { slot = rw (shifted-given s k) (r.lane k).slot; room = rw (shifted-waiting s k) (r.lane k).room })
    (omega (arith, shifted-size s, r.few))
put-range M s j x (some c) ok a r = r

take-of-range : (M : ℕ) → M < 2 ^ 32 → (s : State) (o : Option Pick) → LanesOk M s → PickIs s o → Range s → Range (take_of s o).state
unfolding take_of
take-of-range M small s none ok h r = r
take-of-range M small s (some p) ok h r = take_range M small s p ok h r

-- ---- a fresh table

pub fresh-range : (gs : List Setting) → length gs ≤ 64 → ((k : ℕ) → slot (get_or gs k no_setting) ≤ 2 ^ 31) → Range (fresh gs)
unfolding fresh idle
fresh-range gs few h = record {
  lane = λ k. subst LaneRange (sym (idle-at gs k)) (record { slot = h k; room = omega (arith, held-nothing (get_or gs k no_setting).shared) });
  few = omega (arith, length-map gs idle);
  clock = omega (arith, sum-zero held_in (map idle gs) no_lane (λ k. ap held_in (idle-at gs k) ∙ held-nothing (get_or gs k no_setting).shared));
}

restart-range : (s : State) → Range s → Range (do_restart s).state
unfolding do_restart
restart-range s r =
    if-ind (λ (o : Outcome). Range o.state) (any_holds s.lanes) _ _ (λ e. r)
    (λ e. fresh-range (setup_of s) (omega (arith, length-map s.lanes (λ (l : Lane). l.given), r.few))
    (λ k. subst (λ (g : Setting). slot g ≤ 2 ^ 31) (sym (get_d_map (λ (l : Lane). l.given) s.lanes k no_lane no_setting refl)) (r.lane k).slot))

-- ---- every call

pub step_range : (M : ℕ) → M < 2 ^ 32 → (s : State) (c : Call) → LanesOk M s → LanesOk M (shifted s) → Range s → Range (step s c).state
unfolding step do_put do_take do_look do_sets
step_range M small s (put j k m n) ok ok' r = put-range M s j (record { train = k; mark = m; len = n }) (put_refusal s j (record { train = k; mark = m; len = n })) ok' (put-ok s j (record { train = k; mark = m; len = n })) r
step_range M small s take ok ok' r = take-of-range M small s (picked s) ok (pick_is s) r
step_range M small s look ok ok' r = subst Range (sym (look-same s (picked s))) r
step_range M small s sets ok ok' r = r
step_range M small s (lag j) ok ok' r = subst Range (sym (lag-same s j)) r
step_range M small s restart ok ok' r = restart-range s r
