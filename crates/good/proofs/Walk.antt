-- The pass so far: the lanes below some number have passed, and the rest of the word of present lanes is left. It is the same pass however a table keeps
-- its lanes, and whatever else its test asks of one. Assumes nothing.
use mathlib.Core.Path.{◌≡◌, refl, sym, ap, subst, ◌∙◌}
use mathlib.Core.Bool.{Bool, true, false, not}
use mathlib.Core.List.{List}
use Prim.Native.Nat.{ℕ, ◌+◌, ◌*◌, ◌^◌, ◌≤◌, ◌<◌}
use native.Mathlib.Omega.{arith}
use lib.ListN.{get_or}
use Rattle.rules.proofs.Word.{word_lt}
use Rattle.words.specs.Bits.{Lowest}
use Rattle.words.proofs.Walk.{Left, left-all, left-after}
use Rattle.table.specs.Layout.{present_word, framing_word}
use Rattle.table.specs.Means.{present_at, Next}
use Rattle.table.specs.declared.LaneRow.{LaneRow}
use Rattle.table.proofs.Next.{next-bit, next-end, bit-present}
use Rattle.lane_test.specs.Says.{Says, LaneFine}
use Rattle.lane_test.proofs.Setting.{says-yes, says-no}
use Rattle.good.specs.Pass.{Noted, FoundSays}
use Rattle.good.specs.declared.Found.{Found}
use Rattle.good.specs.Kept.{Kept}
use Rattle.good.proofs.Lanes.{found_none, found-next, found-noted, note-weight, note-group}

-- how a table keeps its lanes, and its test of one
pub record Tested (v : ℕ) (w : List ℕ) : Type 1 where
  pub kept : Kept w
  pub Passes : ℕ → Type 0
  pub fine : (k : ℕ) → Passes k → LaneFine v (kept.row k) (kept.lane k)

pub record Walked {v : ℕ} {w : List ℕ} (x : Tested v w) (rest : ℕ) (f : Found) : Type 0 where
  pub n : ℕ
  pub left : Left (get_or w present_word 0) rest n
  pub found : FoundSays v w x.kept.lane x.Passes n f
  pub weights : f.weights ≤ 1024 * n

pub walked_none : {v : ℕ} {w : List ℕ} (x : Tested v w) (rest : ℕ) → rest ≡ get_or w present_word 0 → Walked x rest (record { weights = 0; held = 0; eligible = false })
walked_none {v} {w} x rest e = record { n = 0; left = subst (λ (r : ℕ). Left (get_or w present_word 0) r 0) (sym e) (left-all (get_or w present_word 0)); found = found_none v w x.kept.lane x.Passes; weights = omega arith }

module _ {v : ℕ} {w : List ℕ} {x : Tested v w} {rest : ℕ} {f : Found} (walked : Walked x rest f) where
  -- all lanes are passed
  pub walked_all : rest ≡ 0 → FoundSays v w x.kept.lane x.Passes 64 f
  walked_all e = found-next v w x.kept x.Passes (get_or w present_word 0) walked.n 64 f refl (next-end walked.left e) walked.found

  -- the next lane
  module _ {k rest' : ℕ} (b : Lowest rest k rest') where
    next : Next (get_or w present_word 0) walked.n k
    next = next-bit walked.left b

    pub lane_here : present_at w k ≡ true
    lane_here = bit-present w k (next.present b.small)

    found : FoundSays v w x.kept.lane x.Passes k f
    found = found-next v w x.kept x.Passes (get_or w present_word 0) walked.n k f refl next walked.found

    -- its test and its row, as they are read
    module _ (r : Bool) (says : Says r (x.Passes k)) where
      pub lane-stops : not r ≡ true → ((k : ℕ) → k < 64 → present_at w k ≡ true → x.Passes k) → ⊥
      lane-stops failed all = says-no r says failed (all k b.small lane_here)

      module _ (passed : not r ≡ false) (l : LaneRow) (e : l ≡ x.kept.row k) where
        weight : l.weight ≤ 1024
        weight = note-weight v w x.kept x.Passes x.fine k lane_here (says-yes r says passed) l e

        pub note-takes : (k < 64) × (f.weights + l.weight < 2 ^ 64) × (f.held < 2 ^ k) × (0 < l.count → l.group ≤ 31)
        note-takes = (b.small, omega (arith, weight, walked.weights, walked.left.ends), rw found.held (word_lt _ k), note-group v w x.kept x.Passes x.fine k lane_here (says-yes r says passed) l e)

        pub walked_on : (g : Found) → Noted f k l v g → Walked x rest' g
        walked_on g n = record {
          n = k + 1;
          left = left-after walked.left b;
          found = found-noted v w x.kept x.Passes x.fine k lane_here (says-yes r says passed) l e f g found n;
          weights = omega (arith, weight, walked.weights, n.weights, next.on);
        }

-- a row has the table's framing
pub row-framed : {w : List ℕ} (x : Kept w) {k : ℕ} {l : LaneRow} → l ≡ x.row k → get_or w framing_word 0 ≤ 64 → l.framing.0 ≤ 64
row-framed x {k} e h = omega (arith, ap (λ (l : LaneRow). l.framing.0) e ∙ x.framed k)
