-- The chosen lane before and after its first record is taken out of its ring. Assumes nothing.
use mathlib.Core.Path.{◌≡◌, refl, sym, ap, subst, ◌∙◌}
use mathlib.Core.Bool.{true}
use mathlib.Core.Option.{Option, none, some}
use Prim.Native.Nat.{ℕ, suc, ◌+◌, ◌*◌, ◌^◌, ◌≤◌, ◌<◌}
use mathlib.Core.List.{List}
use native.Mathlib.Omega.{arith}
use lib.Dec.{ltb}
use lib.ListN.{length, get_or, set}
use borrow.Author.Tests.{lt-ltb, le-ltb}
use Rattle.units.specs.Numbers.{line_rate}
use Rattle.waiting.specs.Waiting.{Waiting, GoodWaiting, first, held}
use Rattle.waiting.proofs.Laws.{first_fits, good-hand, held-hand, held_none}
use Rattle.rules.specs.State.{Rec, Setting, Lane, State, no_lane, charge, rate, start_r, some?, first_of, holds, lane_at}
use Rattle.rules.specs.Choice.{choose}
use Rattle.rules.specs.Calls.{behind, served}
use Rattle.rules.specs.Good.{Times, Good}
use Rattle.rules.specs.BySets.{candidate_lane}
use Rattle.rules.specs.Sets.{in_group}
use Rattle.rules.proofs.Lowest.{LowOf, LowestOf}
use Rattle.rules.proofs.GroupRule.{is-in-group, group-low}
use Rattle.rules.proofs.Lane.{charge-slot}
use Rattle.rules.proofs.Figures.{longest-at, slot_at}
use Rattle.rules.proofs.Queues.{held-inside, served-waiting}
use Rattle.table.specs.Layout.{cells, row_at}
use Rattle.table.specs.Means.{given_of, meant, Sound}
use Rattle.table.specs.declared.LaneRow.{LaneRow}
use Rattle.table.proofs.Rows.{holds-present}
use Rattle.queue.specs.Queue.{waiting, First, Takes}
use Rattle.queue.specs.declared.Item.{Item}
use Rattle.choice.proofs.Held.{held_small}
use Rattle.engine.proofs.RowIs.{RowIs, row_is}
use Rattle.engine.proofs.Replies.{Found, found}
use Rattle.slot_lists.specs.Lists.{back_at, list_at, start_at, list_of}
use Rattle.filing.specs.Filing.{front_of}
use Rattle.filing.proofs.Moves.{stands}
use Rattle.filing.proofs.KeepsTake.{old-in}
use Rattle.engine.specs.Turns.{Holds}

pub record At (t : List ℕ) (s : State) (g r k : ℕ) : Type 0 where
  pub holds : Holds t s
  pub good : Good s
  pub low : 16 ≤ g
  pub high : g ≤ 31
  pub start : start_at t g ≡ some r
  pub first : front_of (list_at t g (list_of t g r)) ≡ some k
  pub lane : candidate_lane (choose s) ≡ some k

module _ (t : List ℕ) (s : State) (g r k : ℕ) (a : At t s g r k) where
  abbrev h : Holds t s
  h = a.holds

  pub f : Found s k
  f = found s k a.lane

  abbrev pub x : Rec
  x = f.pick.first

  pub is_first : first_of (lane_at s k) ≡ some x
  is_first = subst (λ (j : ℕ). first_of (lane_at s j) ≡ some x) f.lane f.is.is_first

  pub holds-k : holds (lane_at s k) ≡ true
  holds-k = ap some? is_first

  same-lane : lane_at (meant t) k ≡ lane_at s k
  same-lane = ap (λ (ls : List Lane). get_or ls k no_lane) h.lanes

  pub lane-holds : holds (lane_at (meant t) k) ≡ true
  lane-holds = ap holds same-lane ∙ holds-k

  pub lane-small : k < 64
  lane-small = held_small t k lane-holds

  pub lane-good : GoodWaiting (lane_at (meant t) k).given.longest (lane_at (meant t) k).waiting
  lane-good = rw same-lane (a.good.waiting k)

  -- what is read of its queue is its first record
  pub seen-is : (e : Item) → First (lane_at (meant t) k) e → waiting e ≡ x
  seen-is e h = let q : some (waiting e) ≡ some x = sym h ∙ ap first_of same-lane ∙ is_first in cc

  -- V has reached the start of its group
  pub start-reached : r ≤ s.clock
  start-reached =
      let in-it = old-in (back_at t) h.solid.back_whole s a.good (list_at t) (start_at t) h.agrees k g r a.low a.high a.start a.first x is_first in
      let st = stands (back_at t) g (list_of t g r) (lane_at s k) in-it in
      let low : LowestOf (in_group g) s.lanes r = subst (LowOf (in_group g) s.lanes) (sym (h.agrees.started g a.low a.high) ∙ a.start) (group-low s.lanes g) in
      let mine : in_group g (lane_at s k) ≡ true = subst (λ (i : ℕ). in_group i (lane_at s k) ≡ true) st.grp (is-in-group (lane_at s k) st.held) in
      let may : start_r (lane_at s k) ≤ s.clock = subst (λ (j : ℕ). start_r (lane_at s j) ≤ s.clock) f.lane f.is.start in
      omega (arith, low.bound k mine)

  fits : x.len ≤ (lane_at s k).given.longest
  fits = (first_fits (lane_at s k).given.longest (lane_at s k).waiting x (a.good.waiting k) is_first).1

  times-is : Times s.clock (lane_at s k) (some x)
  times-is = subst (Times s.clock (lane_at s k)) is_first (a.good.numbers k)

  -- F of the chosen lane is small
  pub finish-small : (lane_at s k).finish < 2 ^ 63
  finish-small = omega (arith, times-is.0, times-is.1, a.good.clock, charge-slot (lane_at s k).given x.len fits, slot_at s a.good.setup k)

  pub lane-finish : (lane_at (meant t) k).finish < 2 ^ 64
  lane-finish = subst (λ (l : Lane). l.finish < 2 ^ 64) (sym same-lane) (omega (arith, finish-small))

  pub lane_row : (l : LaneRow) → l ≡ row_at (cells t) k → RowIs (lane_at (meant t) k) l
  lane_row l el = subst (RowIs (lane_at (meant t) k)) (sym el) (row_is t h.sound k lane-small (holds-present (cells t) _ k lane-small lane-holds))

  -- ---- once its first record is taken out

  module _ (t₁ : List ℕ) (e : Item) (taken : Takes t t₁ k e) (len : length t₁ ≡ length t) where
    pub entry-is : waiting e ≡ x
    entry-is = seen-is e taken.first

    pub short : e.length.0 ≤ 1500
    short = omega (arith, ap (λ (z : Rec). z.len) entry-is, fits, longest-at s a.good.setup k)

    -- what it is charged, by its row
    paid : (l : LaneRow) → l ≡ row_at (cells t) k → (c : ℕ) → c ≡ charge (given_of l) e.length.0 → c ≡ charge (lane_at s k).given x.len
    paid l el c ec =
        let given : given_of l ≡ (lane_at s k).given = sym (lane_row l el).given ∙ ap (λ (y : Lane). y.given) same-lane in
        ec ∙ ap (λ (y : Setting). charge y e.length.0) given ∙ ap (λ (y : Rec). charge (lane_at s k).given y.len) entry-is

    -- V after it, before it settles
    pub time-is : (l : LaneRow) → l ≡ row_at (cells t) k → (v c z : ℕ) → v ≡ (meant t).clock → c ≡ charge (given_of l) e.length.0 → z ≡ v + line_rate * c → z ≡ s.clock + line_rate * charge (lane_at s k).given x.len
    time-is l el v c z ev ec ez = ez ∙ ap (λ (y : ℕ). y + line_rate * c) (ev ∙ h.clock) ∙ ap (λ (y : ℕ). s.clock + line_rate * y) (paid l el c ec)

    abbrev pub new : Lane
    new = served (lane_at s k)

    pub lanes-after : (meant t₁).lanes ≡ set s.lanes k new
    lanes-after =
        ap (λ (y : State). y.lanes) taken.leaves.state ∙ ap (λ (l : Lane). set (meant t).lanes k (served l)) same-lane
        ∙ ap (λ (ls : List Lane). set ls k new) h.lanes

    pub sound-after : Sound t₁
    sound-after =
        record {
          room = omega (arith, h.sound.room, len);
          beside = taken.leaves.beside h.sound.beside;
        }

    pub inside : k < length s.lanes
    inside = held-inside s.lanes k x is_first

    -- its F, by its row
    pub finish-is : (l : LaneRow) → l ≡ row_at (cells t) k → (c z : ℕ) → c ≡ charge (given_of l) e.length.0 → z ≡ l.time.0 + c * l.rate.0 → z ≡ (lane_at s k).finish
    finish-is l el c z ec ez =
        let row = lane_row l el in
        let time : l.time.0 ≡ (lane_at s k).start = sym (row.busy lane-holds) ∙ ap (λ (y : Lane). y.start) same-lane in
        let rated : l.rate.0 ≡ rate (lane_at s k).given = row.rated lane-holds ∙ ap (λ (y : Lane). rate y.given) same-lane in
        ez ∙ ap (λ (y : ℕ). y + c * l.rate.0) time ∙ ap (λ (y : ℕ). (lane_at s k).start + c * y) rated ∙ ap (λ (y : ℕ). (lane_at s k).start + y * rate (lane_at s k).given) (paid l el c ec) ∙ sym times-is.0

    -- whether it holds more, by its row
    pub more-is : (l : LaneRow) → l ≡ row_at (cells t) k → ltb 1 l.count ≡ holds new
    more-is l el = go (first (behind (lane_at s k))) refl
      where
        n : ℕ
        n = l.count

        many : n ≡ suc (held (behind (lane_at s k)))
        many = sym (lane_row l el).held ∙ ap (λ (y : Lane). held y.waiting) same-lane ∙ held-hand (lane_at s k).given.longest (lane_at s k).waiting x (a.good.waiting k) is_first

        more : holds new ≡ some? (first (behind (lane_at s k)))
        more = ap (λ (w : Waiting). some? (first w)) (served-waiting (lane_at s k))

        good : GoodWaiting (lane_at s k).given.longest (behind (lane_at s k))
        good = good-hand (lane_at s k).given.longest (lane_at s k).waiting (a.good.waiting k)

        go : (o : Option Rec) → first (behind (lane_at s k)) ≡ o → ltb 1 n ≡ holds new
        go none q = le-ltb 1 n (omega (arith, many, held_none (lane_at s k).given.longest (behind (lane_at s k)) good q)) ∙ sym (more ∙ ap some? q)
        go (some y) q = lt-ltb 1 n (omega (arith, many, held-hand (lane_at s k).given.longest (behind (lane_at s k)) y good q)) ∙ sym (more ∙ ap some? q)
