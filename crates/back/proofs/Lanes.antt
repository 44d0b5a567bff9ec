-- From the store of `lower_lane`, and the loop over it, to the state that they leave. Assumes nothing.
use mathlib.Core.Path.{◌≡◌, refl, sym, ap, subst, ◌∙◌}
use mathlib.Core.Bool.{true}
use Prim.Native.Nat.{ℕ, ◌+◌, ◌-◌, ◌*◌, ◌≤◌, ◌<◌}
use mathlib.Core.List.{List}
use mathlib.Core.Option.{Option, none, some}
use native.Mathlib.Omega.{arith}
use lib.ListN.{length, get_or, set}
use lib.Seq.{get_or-set_same, get_or-set_other}
use Rattle.words.specs.Bits.{bit}
use Rattle.waiting.specs.Waiting.{Waiting, first}
use Rattle.rules.specs.State.{Rec, Setting, Lane, State, lane_at, some?, charge, rate}
use Rattle.rules.specs.Calls as rules
use Rattle.rules.specs.Calls.{lowered}
use Rattle.slot_lists.specs.Lists.{list_at}
use Rattle.filing.specs.Filing.{in_aRow}
use Rattle.table.specs.Layout.{CELLS, Now, cells, present_word, framing_word, lane_word, round_word, row_at}
use Rattle.table.specs.Means.{Next, present_at, given_of, waiting_of, timed_by_word, row_lane, lane_of, Housed, RowsFit, meant, Leaves, with_lane}
use Rattle.table.specs.declared.LaneRow.{LaneRow}
use Rattle.table.proofs.Stores.{length-cells, behind-refl}
use Rattle.table.proofs.Footprint.{Outside, lane-is, present-kept, waiting_kept, housed-kept, lanes-many}
use Rattle.table.proofs.Leave.{leave-lane, leaves-then}
use Rattle.table.proofs.Agrees.{paced-retimed}
use Rattle.table.proofs.Rows.{retimed, lane-present, weight-present}
use Rattle.table.proofs.Timed.{timed-waiting, timed-start}
use Rattle.fresh.proofs.Leaves.{unnamed-lane}
use Rattle.back.specs.Back.{NotBelow, lowered_to}
use Rattle.back.proofs.States.{lowered-first, lowered-here, lowered-more, lowered-next}

-- ---- a lane by its one clock word

lowered_by : (d : ℕ) (g : Setting) (x : ℕ) (q : Waiting) (o : Option Rec) → (some? o ≡ true → d ≤ x) → lowered d (rules.timed g x q o) ≡ rules.timed g (x - d) q o
unfolding rules.timed lowered
lowered_by d g x q none h =
    let z : 0 - d ≡ 0 = omega arith in
    rw z
lowered_by d g x q (some r) h =
    let le = h refl in
    let e : x + charge g r.len * rate g - d ≡ x - d + charge g r.len * rate g = omega arith in
    rw e

timed-lowered : (d : ℕ) (g : Setting) (x : ℕ) (q : Waiting) → (some? (first q) ≡ true → d ≤ x) → lowered d (timed_by_word g x q) ≡ timed_by_word g (x - d) q
unfolding timed_by_word
timed-lowered d g x q h = lowered_by d g x q (first q) h

timed-above : (g : Setting) (x d : ℕ) (q : Waiting) → NotBelow d (timed_by_word g x q) → some? (first q) ≡ true → d ≤ x
timed-above g x d q h e = omega (arith, h (ap (λ (z : Waiting). some? (first z)) (timed-waiting g x q) ∙ e), timed-start g x q e)

-- ---- a store to it

module _ (w : List ℕ) (k x : ℕ) (len : length w ≡ CELLS) (hk : k < 64) where
  abbrev u : List ℕ
  u = set w (lane_word k + 1) x

  other : (i : ℕ) → (i ≡ lane_word k + 1 → ⊥) → get_or u i 0 ≡ get_or w i 0
  other i ne = get_or-set_other w (lane_word k + 1) i x 0 ne

  outside : Outside w u k
  outside = record { kept = λ i p q r y. other i (λ e. p (omega arith) (omega arith)) }

  row-clock : row_at u k ≡ retimed (row_at w k) x (row_at w k).head (row_at w k).count
  unfolding row_at
  row-clock = rw (other framing_word (omega arith), other (lane_word k) (omega arith), get_or-set_same w (lane_word k + 1) x 0 (omega arith), other (lane_word k + 2) (omega arith))

  waiting-clock : waiting_of u k (retimed (row_at w k) x (row_at w k).head (row_at w k).count) ≡ waiting_of w k (row_at w k)
  unfolding waiting_of
  waiting-clock =
      waiting_kept w u k (λ j a b. other j (omega arith)) (λ j a b. other j (omega arith)) (λ j a b. other j (omega arith)) (other (round_word k) (omega arith))
      (retimed (row_at w k) x (row_at w k).head (row_at w k).count)

  lane-clock : present_at w k ≡ true → lane_of u k ≡ timed_by_word (given_of (row_at w k)) x (waiting_of w k (row_at w k))
  unfolding lane_of row_lane
  lane-clock p = rw (present-kept w u k (other present_word (omega arith)), p, row-clock, waiting-clock)

  housed-clock : RowsFit w → present_at u k ≡ true → 0 < (row_at u k).count → Housed u k (row_at u k)
  housed-clock b p n =
      let held : 0 < (row_at w k).count = omega (arith, n, ap (λ (l : LaneRow). l.count) row-clock) in
      let before = b.housed k hk (sym (present-kept w u k (other present_word (omega arith))) ∙ p) held in
      let h = housed-kept w u k (λ j a b. other j (omega arith)) (λ j a b. other j (omega arith)) (λ j a b. other j (omega arith)) (other (round_word k) (omega arith)) (row_at w k) before in
      rw row-clock (record { paced = paced-retimed (row_at w k) x (row_at w k).head (row_at w k).count h.paced; places = h.places; trains = λ e. record { counted = (h.trains e).counted; ordered = (h.trains e).ordered } })

pub lower-leaves : (t t' : List ℕ) (k d y x : ℕ) → k < 64 → 0 < (lane_at (meant t) k).given.weight → NotBelow d (lane_at (meant t) k) → y ≡ get_or (cells t) (lane_word k + 1) 0 → x ≡ y - d
    → Now t t' (set (cells t) (lane_word k + 1) x) → Leaves t t' (with_lane (meant t) k (lowered d (lane_at (meant t) k)))
unfolding row_at
lower-leaves t t' k d y x hk weight above ey ex n =
    let w = cells t in
    let o = in_aRow (list_at t) in
    let l = row_at w k in
    let p = weight-present w o k hk weight in
    let q = waiting_of w k l in
    let lane : lane_at (meant t) k ≡ timed_by_word (given_of l) l.time.0 q = lane-is w o k hk ∙ lane-present w k p in
    let low : some? (first q) ≡ true → d ≤ l.time.0 = timed-above (given_of l) l.time.0 d q (subst (NotBelow d) lane above) in
    let time : x ≡ l.time.0 - d = ex ∙ ap (λ (z : ℕ). z - d) ey in
    leave-lane t t' (set w (lane_word k + 1) x) k (lowered d (lane_at (meant t) k)) hk n (outside w k x (length-cells t) hk)
    (lane-clock w k x (length-cells t) hk p ∙ ap (λ (z : ℕ). timed_by_word (given_of l) z q) time ∙ sym (timed-lowered d (given_of l) l.time.0 q low) ∙ ap (lowered d) (sym lane))
    (housed-clock w k x (length-cells t) hk)

-- ---- the loop

pub lower-none : (t : List ℕ) (d : ℕ) → Leaves t t (lowered_to 0 d (meant t))
lower-none t d = record { state = sym (lowered-first d (meant t) (lanes-many t)); beside = λ b. b; rest = behind-refl }

module _ (t₀ : List ℕ) (d lanes : ℕ) (word : lanes ≡ get_or (cells t₀) present_word 0) where
  passed : (n k : ℕ) → Next lanes n k → lowered_to n d (meant t₀) ≡ lowered_to k d (meant t₀)
  passed n k x =
      lowered-next d (meant t₀) (lanes-many t₀) n k x.on x.ends (λ i p q. unnamed-lane t₀ i (omega (arith, x.ends)) (subst (λ (m : ℕ). bit i m ≡ 0) word (x.absent i p q)))

  pub lower_skip : {t : List ℕ} (n k : ℕ) → Next lanes n k → Leaves t₀ t (lowered_to n d (meant t₀)) → Leaves t₀ t (lowered_to k d (meant t₀))
  lower_skip n k x l = record { state = l.state ∙ passed n k x; beside = l.beside; rest = l.rest }

  module _ (t : List ℕ) (k : ℕ) (hk : k < 64) (l : Leaves t₀ t (lowered_to k d (meant t₀))) where
    pub lower-same : lane_at (meant t) k ≡ lane_at (meant t₀) k
    lower-same = ap (λ (u : State). lane_at u k) l.state ∙ lowered-here d (meant t₀) (lanes-many t₀) k hk

    pub lower-above : ((i : ℕ) → NotBelow d (lane_at (meant t₀) i)) → NotBelow d (lane_at (meant t) k)
    lower-above a = subst (NotBelow d) (sym lower-same) (a k)

    pub lower-more : (t' : List ℕ) → Leaves t t' (with_lane (meant t) k (lowered d (lane_at (meant t) k))) → Leaves t₀ t' (lowered_to (k + 1) d (meant t₀))
    lower-more t' r =
        let step : with_lane (meant t) k (lowered d (lane_at (meant t) k)) ≡ lowered_to (k + 1) d (meant t₀)
        = ap (λ (u : State). with_lane u k (lowered d (lane_at u k))) l.state ∙ ap (λ (y : Lane). with_lane (lowered_to k d (meant t₀)) k (lowered d y)) (lowered-here d (meant t₀) (lanes-many t₀) k hk)
        ∙ lowered-more d (meant t₀) (lanes-many t₀) k hk in
        leaves-then l (record { state = r.state ∙ step; beside = r.beside; rest = r.rest })
