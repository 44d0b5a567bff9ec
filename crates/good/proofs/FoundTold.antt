-- What the pass finds, and a good state: each gives the other, however the table keeps its lanes. Assumes nothing.
use mathlib.Core.Path.{◌≡◌, refl, sym, ap, subst, ◌∙◌}
use mathlib.Core.Logic.{◌⊎◌, inl, inr}
use mathlib.Core.Bool.{true, false, false≢true}
use Prim.Native.Nat.{ℕ, ◌≤◌, ◌<◌}
use mathlib.Core.List.{List}
use mathlib.Core.Option.{Option, none, some}
use native.Mathlib.Omega.{arith}
use native.Mathlib.Decide.{dec_lt}
use lib.ListN.{get_or}
use Rattle.words.specs.Bits.{bit}
use Rattle.std.specs.Prelude.{if◌then◌else◌}
use Rattle.units.specs.Plain.{any_below}
use Rattle.units.proofs.Lists.{any_at}
use Rattle.waiting.specs.Waiting.{GoodWaiting, first, held, is_shared}
use Rattle.waiting.proofs.Laws.{good-nothing, held-hand}
use Rattle.waiting.proofs.Sharing.{shared-nothing}
use Rattle.rules.specs.State.{Rec, Setting, setting_at, clock_edge, Lane, State, group, lane_at, some?, first_of, holds, eligible, no_setting, setup_of}
use Rattle.rules.specs.Setup.{InNumbers, Setup, weights}
use Rattle.rules.specs.Good.{Times}
use Rattle.rules.proofs.Lane.{slot-pos}
use Rattle.rules.proofs.Figures.{framing-bound, framed-by}
use Rattle.rules.proofs.SameSetup.{setting-lane}
use Rattle.slot_lists.proofs.Laws.{some-bit}
use Rattle.table.specs.Layout.{cells, framing_word}
use Rattle.table.specs.Means.{present_at}
use Rattle.table.proofs.Timed.{timed-start}
use Rattle.lists_test.specs.Stored.{ListsStored}
use Rattle.lists_test.proofs.InARow.{RowSays}
use Rattle.lists_test.proofs.Meaning.{stored-solid, stored-named, stored-agrees}
use Rattle.lists_test.proofs.Exact.{agrees-stored}
use Rattle.lane_test.specs.Says.{LaneFine}
use Rattle.good.specs.Pass.{FoundSays, holds_at, eligible_at}
use Rattle.good.specs.declared.Found.{Found}
use Rattle.good.specs.Kept.{Kept, given-kept, waiting_kept}
use Rattle.good.proofs.Sums.{any_some, word_some}
use Rattle.good.proofs.Told.{Told, Means, one, lane_of, far-lane, each_lane, by-holds, weights-are, setup-size, held-bit}

-- ---- from the test to a good state

module _ {t : List ℕ} {x : Kept (cells t)} {s : State} (m : Means t x s) where
  module _ (P : ℕ → Type 0) (v : ℕ) (clock : v ≡ s.clock) (fine : (k : ℕ) → P k → LaneFine v (x.row k) (x.lane k)) (f : Found) (found : FoundSays v (cells t) x.lane P 64 f) where
    lane-fine : (k : ℕ) → k < 64 → present_at (cells t) k ≡ true → LaneFine v (x.row k) (x.lane k)
    lane-fine k h p = fine k (found.lanes k h p)

    bit-held : (k : ℕ) → bit k f.held ≡ (if holds (lane_at s k) then 1 else 0)
    bit-held k = ap (bit k) found.held ∙ held-bit m k

    weight-sum : weights (setup_of s) ≡ f.weights
    weight-sum = weights-are m ∙ sym found.weights

    some-held : (k : ℕ) (b : k < 64) (p : present_at (cells t) k ≡ true) → holds (lane_at s k) ≡ true → 0 < (x.row k).count
    some-held k b p h = go (first_of (lane_at s k)) refl
      where
        go : (o : Option Rec) → first_of (lane_at s k) ≡ o → 0 < (x.row k).count
        go none e = absurd (false≢true (sym (ap some? e) ∙ h))
        go (some r) e = let f = lane-fine k b p in omega (arith, held-hand _ _ r f.waiting (ap first_of (sym (lane_of m k b)) ∙ e), f.counted)

    -- what a holding lane's own words say, as the test of the lists reads them
    row-says : (k : ℕ) → holds (lane_at s k) ≡ true → RowSays t s k
    row-says k h =
        elim (dec_lt k 64) [
          | yes b ↦
              let e = lane_of m k b in
              let p = by-holds m k (present_at (cells t) k) refl (sym (ap holds e) ∙ h) in
              record {
                small = b;
                group = sym (x.group k) ∙ ((lane-fine k b p).paced (some-held k b p h)).grouped ∙ ap group (sym (ap (λ (l : Lane). l.given) e ∙ given-kept (cells t) x k p));
                time = sym (ap (λ (l : Lane). l.start) (e ∙ x.present k p) ∙ timed-start _ _ _ (sym (ap some? (ap first (ap (λ (l : Lane). l.waiting) e ∙ waiting_kept (cells t) x k p))) ∙ h) ∙ x.time k);
              }
          | no b ↦ absurd (false≢true (sym (ap holds (far-lane m k (omega arith))) ∙ h))
        ]

    module _ (end : v < clock_edge) (framed : get_or (cells t) framing_word 0 ≤ 64) (some : 0 < f.weights) (total : f.weights ≤ 1024) (live : 0 < f.held → f.eligible ≡ true) (stored : ListsStored t f.held) where
      in-setup : (k : ℕ) → k < 64 → present_at (cells t) k ≡ true → InNumbers (x.lane k).given ⊎ ((x.lane k).given ≡ no_setting)
      in-setup k h p = inl (subst InNumbers (sym (given-kept (cells t) x k p)) (lane-fine k h p).agrees.numbers)

      abbrev h : ℕ
      h = get_or (cells t) framing_word 0

      present-framing : (k : ℕ) → present_at (cells t) k ≡ true → (x.lane k).given.framing ≡ h
      present-framing k p = ap (λ (g : Setting). g.framing) (given-kept (cells t) x k p) ∙ x.framed k

      most-framing : (k : ℕ) → (setting_at (setup_of s) k).framing ≤ h
      most-framing k = subst (λ (g : Setting). g.framing ≤ h) (sym (setting-lane s k)) (each_lane m (λ (l : Lane). l.given.framing ≤ h) (omega arith) (λ k b p. omega (arith, present-framing k p)) k)

      same-framing : (k : ℕ) → 0 < (setting_at (setup_of s) k).weight → (setting_at (setup_of s) k).framing ≡ h
      same-framing k =
          subst (λ (g : Setting). 0 < g.weight → g.framing ≡ h) (sym (setting-lane s k)) (each_lane m (λ (l : Lane). 0 < l.given.weight → l.given.framing ≡ h) (λ w. absurd (omega arith)) (λ k b p w. present-framing k p) k)

      setup : Setup (setup_of s)
      setup =
          record {
            size = setup-size m;
            each = λ k. subst (λ (g : Setting). InNumbers g ⊎ (g ≡ no_setting)) (sym (setting-lane s k)) (each_lane m (λ (l : Lane). InNumbers l.given ⊎ (l.given ≡ no_setting)) (inr refl) in-setup k);
            some_lane = omega (arith, weight-sum);
            total = omega (arith, weight-sum);
            framing_high = omega (arith, framing-bound h (setup_of s) most-framing);
            framed = framed-by h (setup_of s) most-framing same-framing;
          }

      kept-kind : (k : ℕ) → k < 64 → present_at (cells t) k ≡ true → is_shared (x.lane k).waiting ≡ (x.lane k).given.shared
      kept-kind k b p = ap is_shared (waiting_kept (cells t) x k p) ∙ x.kind k ∙ ap (λ (g : Setting). g.shared) (sym (given-kept (cells t) x k p))

      eligible-lane : (k : ℕ) → holds (lane_at s k) ≡ true → (i : ℕ) × (eligible v (lane_at s i) ≡ true)
      eligible-lane k h =
          let bit-set : bit k f.held ≡ 1 = bit-held k ∙ ap one h in
          let held : 0 < f.held = some-bit k f.held bit-set in
          let y = any_some (eligible_at v x.lane) 64 (sym found.eligible ∙ live held) in
          (y.0, ap (eligible v) (lane_of m y.0 y.1) ∙ y.2)

      pub found-told : Told t x.row s
      found-told =
          record {
            rows = λ k h p. (lane-fine k h p).agrees;
            paced = λ k h p. (lane-fine k h p).paced;
            counted = λ k h p. ap (λ (l : Lane). held l.waiting) (lane_of m k h) ∙ (lane-fine k h p).counted;
            solid = stored-solid t s f.held row-says bit-held m.order stored;
            agrees = stored-agrees t s f.held row-says bit-held m.order stored;
            good = record {
              setup = setup;
              waiting = each_lane m (λ (l : Lane). GoodWaiting l.given.longest l.waiting) (good-nothing 0 false) (λ k h p. (lane-fine k h p).waiting);
              kind = each_lane m (λ (l : Lane). is_shared l.waiting ≡ l.given.shared) (shared-nothing false) kept-kind;
              clock = omega (arith, clock);
              numbers = λ k. subst (λ (v : ℕ). Times v (lane_at s k) (first_of (lane_at s k))) clock (each_lane m (λ (l : Lane). Times v l (first_of l)) (omega (arith, slot-pos no_setting)) (λ k h p. (lane-fine k h p).numbers) k);
              live = λ k h. subst (λ (v : ℕ). (i : ℕ) × (eligible v (lane_at s i) ≡ true)) clock (eligible-lane k h);
              order = stored-named t s f.held row-says bit-held m.order stored;
            };
          }

    -- ---- and back

    module _ (g : Told t x.row s) where
      eligible-below : (i : ℕ) → eligible v (lane_at s i) ≡ true → any_below (eligible_at v x.lane) 64 ≡ true
      unfolding eligible
      eligible-below i e =
          elim (dec_lt i 64) [
            | yes h ↦ any_at (eligible_at v x.lane) 64 i h (ap (eligible v) (sym (lane_of m i h)) ∙ e)
            | no h ↦ absurd (false≢true (ap (eligible v) (sym (far-lane m i (omega arith))) ∙ e))
          ]

      told-live : 0 < f.held → f.eligible ≡ true
      told-live h =
          let y = word_some (holds_at x.lane) 64 (subst (λ (m : ℕ). 0 < m) found.held h) in
          let z = g.good.live y.0 (ap holds (lane_of m y.0 y.1) ∙ y.2) in
          found.eligible ∙ eligible-below z.0 (subst (λ (v : ℕ). eligible v (lane_at s z.0) ≡ true) (sym clock) z.1)

      pub told-found : (0 < f.weights) × (f.weights ≤ 1024) × (0 < f.held → f.eligible ≡ true) × ListsStored t f.held
      told-found = (
        omega (arith, weight-sum, g.good.setup.some_lane),
        omega (arith, weight-sum, g.good.setup.total),
        told-live,
        agrees-stored t s f.held row-says bit-held m.order g.good g.solid g.agrees,
      )
