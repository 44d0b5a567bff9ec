-- Where a train's record stands. Assumes nothing.
use Prim.Native.Nat.{ℕ, ◌+◌, ◌*◌, ◌%◌, ◌≤◌, ◌<◌}
use native.Mathlib.Omega.{arith}
use mathlib.Core.Path.{◌≡◌, refl, sym, ap, subst, ◌∙◌}
use mathlib.Core.Bool.{true, false, false≢true}
use mathlib.Core.List.{List, []}
use mathlib.Core.Logic.{inl, inr}
use lib.Dec.{leb, ltb}
use lib.ListN.{length, get_or}
use borrow.Author.Tests.{lt-ltb, le-ltb, lt-leb}
use Rattle.std.specs.Prelude.{Ok, Err}
use Rattle.words.proofs.Runs.{get_d-tab}
use Rattle.rounds.specs.Round as round
use Rattle.rounds.specs.Round.{no_rec}
use Rattle.turns.specs.Turns as turns
use Rattle.turns.specs.Turns.{head_of, count_of, train_of, shared_of}
use Rattle.turns.proofs.Train as train
use Rattle.turns.proofs.Train.{train-is}
use Rattle.waiting.specs.Waiting.{Waiting, plain, shared, queue_of, known, is_shared}
use Rattle.waiting.specs.Waiting.{with_train}
use Rattle.waiting.proofs.Laws.{held-most, queue-nothing}
use Rattle.rules.specs.State.{Lane, lane_at, lane_depth}
use Rattle.rules.specs.declared.Refusal.{Refusal}
use Rattle.rules.specs.declared.Refusal.TheVariants.{NothingHeld, NoTrain}
use Rattle.table.specs.Layout.{cells, place_in_lane, entry_at, train_number}
use Rattle.table.specs.Means.{rec_of, rec_at, lane_ring, shared_at, waiting_of, meant}
use Rattle.table.specs.declared.LaneRow.{LaneRow}
use Rattle.table.specs.declared.Entry.{Entry}
use Rattle.table.proofs.Footprint.{lane-is}
use Rattle.table.proofs.Rows.{waiting-row, waiting-plain, waiting_none, waiting-shared, waiting-kind, length-ring}
use Rattle.paged.specs.Paged.{device_of}
use Rattle.show.specs.Views.{waits, record_is, view}
use Rattle.show.specs.Shows.{view_reply, RowFound, SpotIs}
use Rattle.show.proofs.Shows.{weighs, found}

-- which trains a lane knows, by its kind
known_shared : (w : Waiting) (j : ℕ) → is_shared w ≡ true → known w j ≡ ltb j 8
unfolding is_shared known
known_shared (plain q) j e = absurd (false≢true e)
known_shared (shared s) j e = refl

known-plain : (w : Waiting) (j : ℕ) → is_shared w ≡ false → known w j ≡ leb j 0
unfolding is_shared known
known-plain (plain q) j e = refl
known-plain (shared s) j e = absurd (false≢true (sym e))

module _ (t : List ℕ) (k : ℕ) (l : LaneRow) (f : RowFound t k l) where
  abbrev q : Waiting
  q = (lane_at (meant t) k).waiting

  waits-is : q ≡ waiting_of (cells t) k l
  waits-is = ap (λ (x : Lane). x.waiting) (lane-is (cells t) _ k f.1) ∙ waiting-row (cells t) k f.2 ∙ ap (waiting_of (cells t) k) (sym f.3)

  kind : is_shared q ≡ l.shared
  kind = ap is_shared waits-is ∙ waiting-kind (cells t) k l

  -- no more than a lane has room for
  pub few : l.count ≤ lane_depth
  few = omega (arith, (found t k l f).held, held-most (lane_at (meant t) k).given.longest q (f.0.core.good.waiting k))

  -- ---- a shared lane

  module _ (is : l.shared ≡ true) (j i : ℕ) where
    knows : j < 8 → known q j ≡ true
    knows h = known_shared q j (kind ∙ is) ∙ lt-ltb j 8 h

    pub spot-no-train : 8 ≤ j → SpotIs t k j i (Err NoTrain)
    spot-no-train h = inl (known_shared q j (kind ∙ is) ∙ le-ltb j 8 h, refl)

    pub spot-idle : j < 8 → l.count ≡ 0 → SpotIs t k j i (Err NothingHeld)
    spot-idle h e =
        let nothing-there : queue_of q j ≡ [] = ap (λ (w : Waiting). queue_of w j) (waits-is ∙ waiting_none (cells t) k l e) ∙ queue-nothing l.shared j in
        inr (knows h, omega (arith, ap length nothing-there), refl)

    module _ (h : j < 8) (some-held : 0 < l.count) where
      abbrev n : ℕ
      n = train_number (cells t) k j

      train-queue : queue_of q j ≡ turns.train_ring (rec_at (cells t) k) j (head_of n) (count_of n)
      unfolding queue_of shared_at shared_of train_of
      train-queue =
          ap (λ (w : Waiting). queue_of w j) (waits-is ∙ waiting-shared (cells t) k l is some-held)
          ∙ ap (λ (x : round.Train). x.queue) (train-is (train_number (cells t) k) (rec_at (cells t) k) j h)

      size : length (queue_of q j) ≡ count_of n
      size = ap length train-queue ∙ train.length-ring (rec_at (cells t) k) j (head_of n) (count_of n)

      -- m is the train's number, as it was read
      module _ (m : ℕ) (e : m ≡ n) where
        pub spot_past : count_of m ≤ i → SpotIs t k j i (Err NothingHeld)
        spot_past p = inr (knows h, omega (arith, size, ap count_of e), refl)

        pub spot-train : i < count_of m → SpotIs t k j i (Ok (8 * j + (head_of m + i) % 8))
        unfolding turns.train_ring rec_at
        spot-train p = rw e (
          knows h,
          omega (arith, size, ap count_of e),
          ap (λ (x : List round.BareRec). get_or x i no_rec) train-queue ∙ get_d-tab (count_of n) i (λ a. rec_at (cells t) k (turns.place_in_train j (head_of n + a))) no_rec (omega (arith, ap count_of e)),
        )

  -- ---- a lane that is not shared

  module _ (is : l.shared ≡ false) (i : ℕ) where
    pub spot-other : (j : ℕ) → (j ≡ 0 → ⊥) → SpotIs t k j i (Err NoTrain)
    spot-other j n = inl (known-plain q j (kind ∙ is) ∙ lt-leb j 0 (omega arith), refl)

    queue-is : queue_of q 0 ≡ lane_ring (cells t) k l.head l.count
    unfolding queue_of
    queue-is = ap (λ (w : Waiting). queue_of w 0) (waits-is ∙ waiting-plain (cells t) k l is)

    size-plain : length (queue_of q 0) ≡ l.count
    size-plain = ap length queue-is ∙ length-ring (cells t) k l.head l.count

    knows-0 : known q 0 ≡ true
    knows-0 = known-plain q 0 (kind ∙ is)

    pub spot-none : (j : ℕ) → j ≡ 0 → l.count ≤ i → SpotIs t k j i (Err NothingHeld)
    spot-none j e p = subst (λ (x : ℕ). SpotIs t k x i (Err NothingHeld)) (sym e) (inr (knows-0, omega (arith, size-plain), refl))

    pub spot-plain : (j : ℕ) → j ≡ 0 → i < l.count → SpotIs t k j i (Ok (l.head + i))
    unfolding lane_ring
    spot-plain j e p =
        subst (λ (x : ℕ). SpotIs t k x i (Ok (l.head + i))) (sym e)
        (knows-0, omega (arith, size-plain), ap (λ (x : List round.BareRec). get_or x i no_rec) queue-is ∙ get_d-tab l.count i _ no_rec p)

  -- ---- what the lane shows by it

  module _ (j i : ℕ) where
    pub shows-missing : (x : Refusal) → SpotIs t k j i (Err x) → view_reply (Err x) ≡ view (device_of t) (waits k j i)
    unfolding view device_of
    shows-missing x (inl (unknown, e)) = rw (e, weighs t k l f, unknown)
    shows-missing x (inr (knows-j, past, e)) = rw (e, weighs t k l f, knows-j, le-ltb i (length (queue_of q j)) past)

    pub shows-record : (p : ℕ) → SpotIs t k j i (Ok p) → (e : Entry) → e ≡ entry_at (cells t) (place_in_lane k p) → record_is k (with_train j (rec_of e)) ≡ view (device_of t) (waits k j i)
    unfolding view device_of
    shows-record p at x read =
        rw (weighs t k l f, at.0, lt-ltb i (length (queue_of q j)) at.1, at.2) (ap (λ (y : Entry). record_is k (with_train j (rec_of y))) read)
