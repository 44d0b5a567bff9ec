-- Laws of the pass: a lane that is not in the setup adds nothing, and one that is adds what `note` notes. Assumes nothing.
use mathlib.Core.Path.{◌≡◌, refl, sym, ap, subst, ◌∙◌}
use mathlib.Core.Logic.{⊎_elim}
use mathlib.Core.Bool.{true, false, ◌&&◌, false≢true}
use Prim.Native.Nat.{ℕ, zero, suc, ◌+◌, ◌-◌, ◌^◌, ◌≤◌, ◌<◌}
use mathlib.Core.List.{List}
use mathlib.Core.Option.{Option, none, some}
use native.Mathlib.Nat.{add-zero, add-suc}
use native.Mathlib.Numerals.{add-one}
use native.Mathlib.Omega.{arith}
use borrow.Author.Tests.{lt-ltb, le-ltb}
use lib.Dec.{leb, ltb}
use lib.ListN.{get_or}
use Rattle.words.proofs.Runs.{eq-or-ne}
use Rattle.units.specs.Numbers.{round_down}
use Rattle.waiting.specs.Waiting.{Waiting, first, held, GoodWaiting}
use Rattle.waiting.proofs.Laws.{held_none, held-hand}
use Rattle.rules.specs.State.{Rec, Setting, Lane, holds, some?, eligible, slot, no_lane}
use Rattle.rules.specs.Calls as rules
use Rattle.units.specs.Plain.{any_below, word_of}
use Rattle.table.specs.Layout.{present_word}
use Rattle.table.specs.Means.{present_at, Next, given_of, timed_by_word}
use Rattle.table.specs.declared.LaneRow.{LaneRow}
use Rattle.table.proofs.Next.{bit-absent}
use Rattle.lane_test.specs.Says.{LaneFine}
use Rattle.table.proofs.Agrees.{paced-group}
use Rattle.good.specs.Pass.{Noted, FoundSays, sum_to, holds_at, eligible_at}
use Rattle.good.specs.declared.Found.{Found}
use Rattle.good.specs.Kept.{Kept, given-kept, waiting_kept}

pub found_none : (v : ℕ) (w : List ℕ) (lane : ℕ → Lane) (P : ℕ → Type 0) → FoundSays v w lane P 0 (record { weights = 0; held = 0; eligible = false })
unfolding sum_to word_of any_below
found_none v w lane P = record { lanes = λ k h. absurd (omega arith); weights = refl; held = refl; eligible = refl }

-- ---- a lane that is not in the setup

module _ (v : ℕ) (w : List ℕ) (x : Kept w) (P : ℕ → Type 0) where
  found-absent : (n : ℕ) (f : Found) → present_at w n ≡ false → FoundSays v w x.lane P n f → FoundSays v w x.lane P (suc n) f
  unfolding sum_to word_of any_below eligible
  found-absent n f a s =
      let e : x.lane n ≡ no_lane = x.absent n a in
      let idle : holds_at x.lane n ≡ false = ap holds e in
      let late : eligible_at v x.lane n ≡ false = ap (eligible v) e in
      record {
        lanes = λ k h p.
            ⊎_elim
            (λ (q : k ≡ n). absurd (false≢true (sym a ∙ subst (λ (j : ℕ). present_at w j ≡ true) q p)))
            (λ (q : k ≡ n → ⊥). s.lanes k (omega arith) p)
            (eq-or-ne k n);
        weights = omega (arith, s.weights, ap (λ (l : Lane). l.given.weight) e);
        held = rw idle (omega (arith, s.held));
        eligible = rw late s.eligible;
      }

  -- nor are those up to the next one
  skip : (d n : ℕ) (f : Found) → ((i : ℕ) → n ≤ i → i < n + d → present_at w i ≡ false) → FoundSays v w x.lane P n f → FoundSays v w x.lane P (n + d) f
  skip zero n f a s = rw add-zero s
  skip (suc d) n f a s =
      rw add-suc (found-absent (n + d) f (a (n + d) (omega arith) (omega arith)) (skip d n f (λ i p q. a i p (omega arith)) s))

  pub found-next : (lanes n k : ℕ) (f : Found) → lanes ≡ get_or w present_word 0 → Next lanes n k → FoundSays v w x.lane P n f → FoundSays v w x.lane P k f
  found-next lanes n k f e next s =
      let d : n + (k - n) ≡ k = omega (arith, next.on) in
      subst (λ (m : ℕ). FoundSays v w x.lane P m f) d (skip (k - n) n f (λ i p q. bit-absent w i (rw (← e) (next.absent i p (omega (arith, next.on))))) s)

  -- ---- a lane in the setup

  module _ (fine : (k : ℕ) → P k → LaneFine v (x.row k) (x.lane k)) (k : ℕ) (p : present_at w k ≡ true) (g : P k) where
    abbrev row : LaneRow
    row = x.row k

    abbrev waits : Waiting
    waits = x.waiting k

    abbrev longest : ℕ
    longest = (x.lane k).given.longest

    good-waits : GoodWaiting longest waits
    good-waits = subst (GoodWaiting longest) (waiting_kept w x k p) (fine k g).waiting

    size : held waits ≡ row.count
    size = sym (ap held (waiting_kept w x k p)) ∙ (fine k g).counted

    -- the row's count tells whether there is a first record
    some-count : (o : Option Rec) → first waits ≡ o → ltb 0 row.count ≡ some? o
    some-count none e = le-ltb 0 row.count (omega (arith, held_none longest waits good-waits e, size))
    some-count (some r) e = lt-ltb 0 row.count (omega (arith, held-hand longest waits r good-waits e, size))

    holds-is : holds_at x.lane k ≡ ltb 0 row.count
    holds-is = ap (λ (l : Waiting). some? (first l)) (waiting_kept w x k p) ∙ sym (some-count (first waits) refl)

    slot_is : 0 < row.count → slot (given_of row) ≡ 2 ^ row.group
    unfolding slot
    slot_is h = ap (λ (i : ℕ). 2 ^ i) (sym ((fine k g).paced h).grouped)

    eligible-of : (o : Option Rec) → first waits ≡ o → eligible v (rules.timed (given_of row) row.time.0 waits o) ≡ (ltb 0 row.count && leb (round_down (2 ^ row.group) row.time.0) v)
    unfolding eligible rules.timed
    eligible-of none e = rw (some-count none e, e)
    eligible-of (some r) e = rw (some-count (some r) e, e, slot_is (omega (arith, held-hand longest waits r good-waits e, size)))

    eligible-is : eligible_at v x.lane k ≡ (ltb 0 row.count && leb (round_down (2 ^ row.group) row.time.0) v)
    unfolding timed_by_word
    eligible-is = ap (eligible v) (x.present k p) ∙ eligible-of (first waits) refl

    found-row : (f r : Found) → FoundSays v w x.lane P k f → Noted f k row v r → FoundSays v w x.lane P (suc k) r
    unfolding sum_to word_of any_below
    found-row f r s n =
        record {
          lanes = λ j h q.
              ⊎_elim
              (λ (e : j ≡ k). subst P (sym e) g)
              (λ (ne : j ≡ k → ⊥). s.lanes j (omega arith) q)
              (eq-or-ne j k);
          weights = omega (arith, n.weights, s.weights, ap (λ (g : Setting). g.weight) (given-kept w x k p));
          held = rw (holds-is, ← s.held) n.held;
          eligible = rw (eligible-is, ← s.eligible) n.eligible;
        }

    module _ (l : LaneRow) (e : l ≡ x.row k) where
      pub found-noted : (f r : Found) → FoundSays v w x.lane P k f → Noted f k l v r → FoundSays v w x.lane P (k + 1) r
      found-noted f r s n = rw add-one (found-row f r s (subst (λ (l : LaneRow). Noted f k l v r) e n))

      pub note-weight : l.weight ≤ 1024
      note-weight = subst (λ (l : LaneRow). l.weight ≤ 1024) (sym e) (fine k g).agrees.numbers.weight_high

      pub note-group : 0 < l.count → l.group ≤ 31
      note-group = subst (λ (l : LaneRow). 0 < l.count → l.group ≤ 31) (sym e) (λ h. (paced-group (x.row k) (fine k g).agrees ((fine k g).paced h)).1)
