-- What the first record of a lane is, and from the stores of `take_first` to the lane that it leaves. Assumes nothing.
use mathlib.Core.Path.{◌≡◌, sym, ap, subst, ◌∙◌, refl}
use mathlib.Core.Bool.{true, false, false≢true}
use Prim.Native.Nat.{ℕ, ◌+◌, ◌-◌, ◌*◌, ◌^◌, ◌≤◌, ◌<◌, ◌%◌}
use mathlib.Core.List.{List}
use mathlib.Core.Option.{some, Option, none}
use native.Mathlib.Omega.{arith}
use Rattle.units.proofs.PerByte.{rate-le}
use Rattle.rounds.specs.Round as round
use Rattle.rounds.specs.Good.{GoodShared}
use Rattle.rounds.proofs.Held.{hand-held}
use Rattle.rounds.proofs.KeepHand.{hand-out-good}
use Rattle.turns.specs.Turns as turns
use Rattle.turns.specs.Turns.{named_of, Ordered, head_of, turn_of}
use Rattle.waiting.specs.Waiting.{first, hand_out, tail, GoodWaiting, with_train, item_of}
use Rattle.waiting.proofs.Laws.{moved, item-some, held-most}
use Rattle.rules.specs.State.{Rec, Lane, lane_at, lane_depth, first_of, holds, some?, charge}
use Rattle.rules.specs.Calls.{served}
use Rattle.slot_lists.specs.Lists.{list_at}
use Rattle.filing.specs.Filing.{in_aRow}
use Rattle.table.specs.Layout.{Now, cells, round_at, row_at, put_row, place_in_lane, entry_at, train_number}
use Rattle.table.specs.Means.{lane_ring, shared_at, waiting_of, given_of, timed_by_word, meant, PlacesFit, Sound, Leaves, with_lane, rec_at}
use Rattle.table.specs.declared.LaneRow.{LaneRow}
use Rattle.table.proofs.Rows.{retimed, waiting-shared, waiting-held, waiting-plain}
use Rattle.table.proofs.Timed.{timed-some, timed-served}
use Rattle.queue.specs.Queue.{waiting, First, Takes, QueueMoved, Fronts, Chosen, Turned}
use Rattle.queue.specs.declared.Item.{Item}
use Rattle.queue.proofs.Moves.{left-waits, left-housed, moved_none}
use Rattle.queue.proofs.Lane.{rewritten, lane_row, first-of, good-shared, shared-named}
use Rattle.turns.proofs.Good.{turn-known, chosen_is}
use Rattle.table.specs.declared.Entry.{Entry}
use Rattle.queue.specs.declared.FirstPlace.{FirstPlace}
use Rattle.queue.proofs.Ring.{ring-head, ring-tail}
use Rattle.queue.proofs.Held.{RowBusy, row-busy}

module _ (t : List ℕ) (k : ℕ) (s : Sound t) (hk : k < 64) (g : GoodWaiting (lane_at (meant t) k).given.longest (lane_at (meant t) k).waiting) (busy : holds (lane_at (meant t) k) ≡ true) where
  abbrev w : List ℕ
  w = cells t

  abbrev o : List ℕ
  o = in_aRow (list_at t)

  abbrev r : LaneRow
  r = row_at w k

  held : RowBusy t k
  held = row-busy t k s hk g busy

  pub take-room : r.count ≤ lane_depth
  take-room = omega (arith, waiting-held w k r (λ n. held.housed), held-most r.longest.0 (waiting_of w k r) held.here.good)

  pub take_places : PlacesFit w k r
  take_places = held.housed.places

  pub take-rate : r.rate.0 ≤ 2 ^ 20
  take-rate = omega (arith, held.housed.paced.rated, rate-le r.weight)

  pub front-shared : r.shared ≡ true → GoodShared r.longest.0 (shared_at w k) × Ordered (round_at w k) × (0 < named_of (round_at w k))
  front-shared q = (good-shared w k r q held.some held.here.good, (held.housed.trains q).ordered, shared-named w k r q held.some (sym (ap some? (first-of w o k hk held.here.present)) ∙ busy))

  pub first-here : (x : Rec) → first (waiting_of w k r) ≡ some x → first_of (lane_at (meant t) k) ≡ some x
  first-here x e = first-of w o k hk held.here.present ∙ e

  pub first_back : (x : Rec) → first_of (lane_at (meant t) k) ≡ some x → first (waiting_of w k r) ≡ some x
  first_back x e = sym (first-of w o k hk held.here.present) ∙ e

  module _ (e : Item) (is : First (lane_at (meant t) k) e) where
    -- what the code computes is F
    pub finish-is : r.time.0 + charge (given_of r) e.length.0 * r.rate.0 ≡ (lane_at (meant t) k).finish
    finish-is =
        ap (λ (y : ℕ). r.time.0 + charge (given_of r) e.length.0 * y) held.housed.paced.rated
        ∙ sym (ap (λ (y : Lane). y.finish) (lane_row w o k hk held.here.present ∙ timed-some (given_of r) r.time.0 (waiting_of w k r) (waiting e) (first_back (waiting e) is)))

    pub take-leaves : (t₁ t' : List ℕ) (h : ℕ) → h < lane_depth → QueueMoved t t₁ k → PlacesFit (cells t₁) k r
        → (r.shared ≡ false → lane_ring (cells t₁) k h (r.count - 1) ≡ tail (lane_ring w k r.head r.count))
        → (r.shared ≡ true → shared_at (cells t₁) k ≡ round.shared_hand_out r.longest.0 (shared_at w k)) → (r.shared ≡ true → Ordered (round_at (cells t₁) k))
        → Now t₁ t' (put_row (cells t₁) k (retimed r (lane_at (meant t) k).finish h (r.count - 1))) → Takes t t' k e
    take-leaves t₁ t' h top m f pl sh or b =
        let f₀ = (lane_at (meant t) k).finish in
        let chosen = first_back (waiting e) is in
        let good_left : r.shared ≡ true → GoodShared r.longest.0 (shared_at (cells t₁) k) = λ q. subst (GoodShared r.longest.0) (sym (sh q)) (hand-out-good r.longest.0 (shared_at w k) (good-shared w k r q held.some held.here.good)) in
        let counted : r.shared ≡ true → round.shared_held (shared_at (cells t₁) k) ≡ r.count - 1
        = λ q. omega (arith, ap round.shared_held (sh q), hand-held r.longest.0 (shared_at w k) (moved (waiting e)) (good-shared w k r q held.some held.here.good) (item-some (round.shared_first (shared_at w k)) (waiting e) (sym (ap first (waiting-shared w k r q held.some)) ∙ chosen)), (held.housed.trains q).counted) in
        let same : timed_by_word (given_of r) f₀ (waiting_of (cells t₁) k (retimed r f₀ h (r.count - 1))) ≡ served (lane_at (meant t) k)
        = ap (timed_by_word (given_of r) f₀) (left-waits t t₁ k h r held.some pl sh good_left counted f₀)
        ∙ ap (λ (y : ℕ). timed_by_word (given_of r) y (hand_out r.longest.0 (waiting_of w k r))) (sym finish-is ∙ ap (λ (y : ℕ). r.time.0 + charge (given_of r) e.length.0 * y) held.housed.paced.rated)
        ∙ sym (timed-served (given_of r) r.time.0 (waiting_of w k r) (waiting e) chosen)
        ∙ ap served (sym (lane_row w o k hk held.here.present)) in
        record {
          first = is;
          leaves = subst (λ (y : Lane). Leaves t t' (with_lane (meant t) k y)) same
              (rewritten t t₁ t' k f₀ h (r.count - 1) hk top held.here.present m (λ beside n. left-housed t t₁ k h r held.some pl sh good_left counted f₀ held.housed.paced f or) b);
        }

  pub first-item : (l : LaneRow) (f : FirstPlace) (x : Entry) → l ≡ r → Fronts w k l f → x ≡ entry_at w (place_in_lane k f.place) → First (lane_at (meant t) k) (record { train = f.train; mark = x.mark; length = x.length })
  unfolding rec_at
  first-item l f x q fr e =
      subst (λ (y : Entry). First (lane_at (meant t) k) (record { train = f.train; mark = y.mark; length = y.length })) (sym e)
      (first-here _ (subst (λ (y : LaneRow). first (waiting_of w k y) ≡ some (with_train f.train (rec_at w k f.place))) q fr.first))

-- ---- where the first record stands

pub front-plain : (w : List ℕ) (k : ℕ) (l : LaneRow) → l.shared ≡ false → 0 < l.count → first (waiting_of w k l) ≡ some (with_train 0 (rec_at w k l.head))
front-plain w k l q n = ap first (waiting-plain w k l q) ∙ ring-head w k l.head l.count n

pub front-train : (w : List ℕ) (k : ℕ) (l : LaneRow) → l.shared ≡ true → 0 < l.count → GoodShared l.longest.0 (shared_at w k) → Ordered (round_at w k) → 0 < named_of (round_at w k)
    → (r n p : ℕ) → r ≡ round_at w k → n ≡ train_number w k (turn_of r) → p ≡ turns.place_in_train (turn_of r) (head_of n) → first (waiting_of w k l) ≡ some (with_train (turn_of r) (rec_at w k p))
unfolding shared_at
front-train w k l q some-held g o named r n p er en ep =
    let ts = train_number w k in
    let base : (r : ℕ) → r ≡ round_at w k → first (waiting_of w k l) ≡ some (with_train (turn_of r) (rec_at w k (turns.place_in_train (turn_of r) (head_of (ts (turn_of r))))))
    = λ r er. subst (λ (r : ℕ). first (waiting_of w k l) ≡ some (with_train (turn_of r) (rec_at w k (turns.place_in_train (turn_of r) (head_of (ts (turn_of r))))))) (sym er)
    (ap first (waiting-shared w k l q some-held) ∙ ap item_of (chosen_is l.longest.0 (round_at w k) (rec_at w k) ts g o named)) in
    base r er ∙ ap (λ (y : ℕ). some (with_train (turn_of r) (rec_at w k (turns.place_in_train (turn_of r) (head_of y))))) (sym en) ∙ ap (λ (y : ℕ). some (with_train (turn_of r) (rec_at w k y))) (sym ep)

pub turn_below : (w : List ℕ) (k L r : ℕ) → GoodShared L (shared_at w k) → Ordered (round_at w k) → 0 < named_of (round_at w k) → r ≡ round_at w k → turn_of r < 8
unfolding shared_at
turn_below w k L r g o named e = subst (λ (y : ℕ). turn_of y < 8) (sym e) (turn-known L (round_at w k) (rec_at w k) (train_number w k) g o named)

-- ---- the first record taken

len_of : Option Rec → ℕ
len_of none = 0
len_of (some x) = x.len

module _ (t : List ℕ) (k : ℕ) (s : Sound t) (hk : k < 64) (g : GoodWaiting (lane_at (meant t) k).given.longest (lane_at (meant t) k).waiting) (busy : holds (lane_at (meant t) k) ≡ true)
    (e : Item) (is : First (lane_at (meant t) k) e) where
  abbrev v : List ℕ
  v = cells t

  abbrev l : LaneRow
  l = row_at v k

  pub finish-row : (y : LaneRow) → y ≡ l → y.time.0 + charge (given_of y) e.length.0 * y.rate.0 ≡ (lane_at (meant t) k).finish
  finish-row y q = subst (λ (y : LaneRow). y.time.0 + charge (given_of y) e.length.0 * y.rate.0 ≡ (lane_at (meant t) k).finish) (sym q) (finish-is t k s hk g busy e is)

  pub take-chosen : l.shared ≡ true → Chosen v k l.longest.0 e.length.0
  unfolding len_of
  take-chosen q =
      let x = front-shared t k s hk g busy q in
      let R = round_at v k in
      record {
        good = x.0;
        ordered = x.1;
        named = x.2;
        length = ap len_of (sym (front-train v k l q (row-busy t k s hk g busy).some x.0 x.1 x.2 R (train_number v k (turn_of R)) (turns.place_in_train (turn_of R) (head_of (train_number v k (turn_of R)))) refl refl refl) ∙ first_back t k s hk g busy (waiting e) is);
      }

  pub take-plain : (t' : List ℕ) (x : ℕ) → x ≡ (lane_at (meant t) k).finish → l.shared ≡ false → Now t t' (put_row v k (retimed l x ((l.head + 1) % lane_depth) (l.count - 1))) → Takes t t' k e
  take-plain t' x ex q b =
      take-leaves t k s hk g busy e is t t' ((l.head + 1) % lane_depth) (omega arith) (moved_none t k) (take_places t k s hk g busy)
      (λ p. ring-tail v k l.head l.count (row-busy t k s hk g busy).some) (λ p. absurd (false≢true (sym q ∙ p))) (λ p. absurd (false≢true (sym q ∙ p)))
      (subst (λ (y : ℕ). Now t t' (put_row v k (retimed l y ((l.head + 1) % lane_depth) (l.count - 1)))) ex b)

  pub take-shared : (t₁ t' : List ℕ) (x : ℕ) → x ≡ (lane_at (meant t) k).finish → l.head < lane_depth → l.shared ≡ true → Turned t t₁ k l.longest.0 → Now t₁ t' (put_row (cells t₁) k (retimed l x l.head (l.count - 1))) → Takes t t' k e
  take-shared t₁ t' x ex top q u b =
      take-leaves t k s hk g busy e is t₁ t' l.head top u.moved (λ i hi. rw (u.places i) (take_places t k s hk g busy i hi))
      (λ p. absurd (false≢true (sym p ∙ q))) (λ p. u.shared) (λ p. u.ordered)
      (subst (λ (y : ℕ). Now t₁ t' (put_row (cells t₁) k (retimed l y l.head (l.count - 1)))) ex b)
