-- The stores of `put_first` come to the rules' `accept`. Assumes nothing.
use mathlib.Core.Path.{◌≡◌, sym, ap, subst, ◌∙◌}
use mathlib.Core.Bool.{false}
use mathlib.Core.Option.{none}
use Prim.Native.Nat.{ℕ, ◌-◌, ◌^◌, ◌≤◌, ◌<◌, max}
use mathlib.Core.List.{List}
use native.Mathlib.Omega.{arith}
use lib.ListN.{length, get_or, drop, set}
use Rattle.units.specs.Numbers.{round_down}
use Rattle.waiting.specs.Waiting.{GoodWaiting}
use Rattle.waiting.proofs.Laws.{Enters}
use Rattle.rules.specs.State.{Rec, Lane, State, no_lane, group, start_r, holds, lane_at}
use Rattle.rules.specs.Calls.{woken, accept}
use Rattle.rules.specs.Good.{Good}
use Rattle.rules.proofs.Claim.{in-range}
use Rattle.rules.proofs.Keep.{Allowed, allowed-enters}
use Rattle.rules.proofs.Figures.{slot_at}
use Rattle.table.specs.Layout.{SIZE, cells, row_at}
use Rattle.rules.specs.Good.{Times}
use Rattle.rules.proofs.Moves.{idle-first}
use Rattle.rules.specs.State.{first_of}
use Rattle.table.specs.Means.{meant, Sound, Leaves, with_lane, with_clock}
use Rattle.table.specs.declared.LaneRow.{LaneRow}
use Rattle.table.proofs.Few.{room-idle}
use Rattle.table.proofs.Rows.{weight-present}
use Rattle.queue.specs.Queue.{waiting}
use Rattle.queue.specs.declared.Item.{Item}
use Rattle.engine.specs.Does.{Idle}
use Rattle.engine.proofs.RowIs.{RowIs, row_is}
use Rattle.engine.proofs.Waking.{accept-beside, accept-alone, woken-start}
use Rattle.slot_lists.specs.Lists.{groups_at, back_at, list_at, start_at, Solid}
use Rattle.filing.specs.Filing.{in_list, Agrees}
use Rattle.filing.proofs.Sift.{length-sift}
use Rattle.lane_moves.specs.Moves.{Added}
use Rattle.lane_moves.proofs.Rules.{add-agrees}
use Rattle.engine.specs.Turns.{Holds, Turns}
use Rattle.engine.proofs.Ends.{lanes-same, clock-same, nobody, somebody}
use Rattle.table.proofs.Lists.{cells-apart, solid-stays, agrees-stay, past-stays, past-rings}
use Rattle.table.proofs.Footprint.{lanes-many}

module _ (t : List ℕ) (s : State) (h : Holds t s) (good : Good s) (k : ℕ) (e : Item) (a : Allowed s k (waiting e)) (idle : Idle s k) where
  abbrev pub x : Rec
  x = waiting e

  same-lane : lane_at (meant t) k ≡ lane_at s k
  same-lane = ap (λ (ls : List Lane). get_or ls k no_lane) h.lanes

  inside : k < length s.lanes
  inside = in-range s.lanes k a.has

  pub small : k < 64
  small = omega (arith, inside, lanes-many t, ap length h.lanes)

  pub weight : 0 < (lane_at (meant t) k).given.weight
  weight = rw same-lane a.has

  pub idle-t : holds (lane_at (meant t) k) ≡ false
  idle-t = rw same-lane idle

  pub lane-good : GoodWaiting (lane_at (meant t) k).given.longest (lane_at (meant t) k).waiting
  lane-good = rw same-lane (good.waiting k)

  pub lane-enters : Enters (lane_at (meant t) k).given.longest (lane_at (meant t) k).waiting x
  lane-enters = rw same-lane (allowed-enters s k x a)

  pub row : (l : LaneRow) → l ≡ row_at (cells t) k → RowIs (lane_at s k) l
  row l el = subst (λ (m : Lane). RowIs m l) same-lane (subst (RowIs (lane_at (meant t) k)) (sym el) (row_is t h.sound k small (weight-present (cells t) _ k small weight)))

  -- S as the code computes it
  pub start_is : (l : LaneRow) → l ≡ row_at (cells t) k → (v y : ℕ) → v ≡ (meant t).clock → y ≡ max l.time.0 v → y ≡ max (lane_at (meant t) k).finish (meant t).clock
  start_is l el v y ev ey = ey ∙ ap (λ (z : ℕ). max z v) (sym ((row l el).idle idle) ∙ ap (λ (m : Lane). m.finish) (sym same-lane)) ∙ ap (λ (z : ℕ). max (lane_at (meant t) k).finish z) ev

  -- and it is small
  pub start_small : (y : ℕ) → y ≡ max (lane_at (meant t) k).finish (meant t).clock → y < 2 ^ 63
  start_small y ey =
      let n : Times s.clock (lane_at s k) none = subst (Times s.clock (lane_at s k)) (idle-first (first_of (lane_at s k)) idle) (good.numbers k) in
      omega (arith, ey, ap (λ (m : Lane). m.finish) same-lane, h.clock, n, good.clock, slot_at s good.setup k)

  woken-is : (y : ℕ) → y ≡ max (lane_at (meant t) k).finish (meant t).clock → y ≡ (woken s.clock (lane_at s k) x).start
  unfolding woken
  woken-is y ey = ey ∙ ap (λ (m : Lane). max m.finish (meant t).clock) same-lane ∙ ap (λ (z : ℕ). max (lane_at s k).finish z) h.clock

  module _ (t₁ : List ℕ) (len : length t₁ ≡ length t) (woke : Leaves t t₁ (with_lane (meant t) k (woken (meant t).clock (lane_at (meant t) k) x))) where
    abbrev pub new : Lane
    new = woken s.clock (lane_at s k) x

    lanes-after : (meant t₁).lanes ≡ set s.lanes k new
    lanes-after =
        ap (λ (y : State). y.lanes) woke.state ∙ ap (λ (v : ℕ). set (meant t).lanes k (woken v (lane_at (meant t) k) x)) h.clock
        ∙ ap (λ (m : Lane). set (meant t).lanes k (woken s.clock m x)) same-lane ∙ ap (λ (ls : List Lane). set ls k new) h.lanes

    sound-after : Sound t₁
    sound-after = record { room = omega (arith, h.sound.room, len); beside = woke.beside h.sound.beside }

    pub solid-after : Solid t₁
    solid-after = solid-stays t t₁ woke.rest h.solid

    agrees₁ : Agrees (back_at t₁) (list_at t₁) (start_at t₁) s
    agrees₁ = agrees-stay t t₁ woke.rest s h.agrees

    pub room_after : (g b : ℕ) → 16 ≤ g → g ≤ 31 → b < 32 → length (list_at t₁ g b) < 64
    room_after g b lo hi hb = omega (arith, ap length (agrees₁.filed g b lo hi hb), length-sift (λ j. in_list (back_at t₁) g b (lane_at s j)) s.order, room-idle s good k small idle)

    module _ (t₂ : List ℕ) (len₂ : length t₂ ≡ length t₁) (l : LaneRow) (el : l ≡ row_at (cells t) k) (y : ℕ) (ey : y ≡ max (lane_at (meant t) k).finish (meant t).clock) (i : ℕ) (woke-group : (i ≡ group (lane_at (meant t) k).given) × (16 ≤ i) × (i ≤ 31)) (added : Added t₁ t₂ i y k) where
      grouped : i ≡ group (lane_at s k).given
      grouped = woke-group.0 ∙ ap (λ (m : Lane). group m.given) same-lane

      cs : cells t₂ ≡ cells t₁
      cs = cells-apart t₁ t₂ added.apart

      agrees₂ : Agrees (back_at t₂) (list_at t₂) (start_at t₂) (accept s k x)
      agrees₂ =
          let g : i ≡ group (lane_at s k).given = grouped in
          let added' : Added t₁ t₂ (group (lane_at s k).given) (woken s.clock (lane_at s k) x).start k = subst (λ (z : ℕ). Added t₁ t₂ z (woken s.clock (lane_at s k) x).start k) g (subst (λ (z : ℕ). Added t₁ t₂ i z k) (woken-is y ey) added) in
          subst (λ (b : ℕ). Agrees b (list_at t₂) (start_at t₂) (accept s k x)) (sym added.apart.back)
          (add-agrees s t₁ t₂ k x agrees₁ good.order inside idle (good.waiting k) (allowed-enters s k x a) (omega (arith, g, woke-group.1)) (omega (arith, g, woke-group.2)) added')

      pub sound₂ : Sound t₂
      sound₂ = record { room = omega (arith, sound-after.room, len₂); beside = rw cs sound-after.beside }

      lanes₂ : (meant t₂).lanes ≡ set s.lanes k new
      lanes₂ = lanes-same t₁ t₂ cs ∙ lanes-after

      clock₂ : (meant t₂).clock ≡ s.clock
      clock₂ = clock-same t₁ t₂ cs ∙ ap (λ (z : State). z.clock) woke.state ∙ h.clock

      past₂ : drop SIZE t₂ ≡ drop SIZE t
      past₂ = past-rings t₁ t₂ added.apart.rest ∙ past-stays t t₁ woke.rest

      -- others hold records
      pub put-beside : (groups_at t ≡ 0 → ⊥) → Turns t t₂ (accept s k x)
      put-beside ne =
          let j = accept-beside s k x idle (somebody t s h ne) in
          record {
            holds = record {
              sound = sound₂;
              clock = clock₂ ∙ sym (ap (λ (z : State). z.clock) j);
              lanes = lanes₂ ∙ sym (ap (λ (z : State). z.lanes) j);
              solid = added.solid;
              agrees = agrees₂;
            };
            rest = past₂;
          }

      -- none does
      pub put_alone : (t₃ : List ℕ) (v z : ℕ) → length t₃ ≡ length t₂ → groups_at t ≡ 0 → z ≡ max v (round_down (2 ^ i) y) → v ≡ (meant t).clock → Leaves t₂ t₃ (with_clock (meant t₂) z) → Turns t t₃ (accept s k x)
      put_alone t₃ v z len₃ zero_word ez ev lv =
          let ro = row l el in
          let top : z ≡ max s.clock (start_r new) = ez ∙ ap (λ (w : ℕ). max w (round_down (2 ^ i) y)) (ev ∙ h.clock) ∙ ap (λ (w : ℕ). max s.clock w) (ap (round_down (2 ^ i)) (start-row ro) ∙ sym (woken-start s.clock (lane_at s k) l x i ro grouped idle)) in
          let j = accept-alone s k x idle z (nobody t s h good zero_word) top in
          record {
            holds = record {
              sound = record { room = omega (arith, sound₂.room, len₃); beside = lv.beside sound₂.beside };
              clock = ap (λ (w : State). w.clock) lv.state ∙ sym (ap (λ (w : State). w.clock) j);
              lanes = ap (λ (w : State). w.lanes) lv.state ∙ lanes₂ ∙ sym (ap (λ (w : State). w.lanes) j);
              solid = solid-stays t₂ t₃ lv.rest added.solid;
              agrees = agrees-stay t₂ t₃ lv.rest (accept s k x) agrees₂;
            };
            rest = past-stays t₂ t₃ lv.rest ∙ past₂;
          }
        where
          start-row : RowIs (lane_at s k) l → y ≡ max l.time.0 s.clock
          start-row ro = ey ∙ ap (λ (m : Lane). max m.finish (meant t).clock) same-lane ∙ ap (λ (w : ℕ). max w (meant t).clock) (ro.idle idle) ∙ ap (λ (w : ℕ). max l.time.0 w) h.clock
