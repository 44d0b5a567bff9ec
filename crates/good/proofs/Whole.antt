-- What the test finds, and a good table: each gives the other. Assumes nothing.
use mathlib.Core.Path.{◌≡◌, refl, sym, ap, subst, ◌∙◌}
use mathlib.Core.Bool.{Bool, true, false, false≢true}
use Prim.Native.Nat.{ℕ, ◌≤◌, ◌<◌}
use mathlib.Core.List.{List}
use lib.ListN.{get_or}
use Rattle.waiting.specs.Waiting.{held}
use Rattle.rules.specs.State.{Lane, clock_edge, lane_depth}
use Rattle.table.specs.Layout.{Room, cells, depth_word, framing_word, row_at}
use Rattle.table.specs.Means.{present_at, lane_of, state_of, meant}
use Rattle.table.proofs.Rows.{count-row}
use Rattle.table.proofs.Footprint.{lane-is}
use Rattle.lists_test.specs.Stored.{ListsStored}
use Rattle.lane_test.specs.Says.{Says, LaneFine, LaneGood}
use Rattle.good.specs.Pass.{FoundSays}
use Rattle.good.specs.Table.{GoodTable}
use Rattle.good.specs.declared.Found.{Found}
use Rattle.good.specs.Kept.{today}
use Rattle.good.proofs.Told.{Told, Means, told-fine, told-framing}
use Rattle.good.proofs.FoundTold.{found-told, told-found}

module _ (t : List ℕ) where
  means : Means t (today (cells t)) (meant t)
  unfolding state_of
  means = record { lanes = refl; order = refl }

  told : GoodTable t → Told t (row_at (cells t)) (meant t)
  told g = record { good = g.good; rows = g.beside.rows; paced = λ k h p n. (g.beside.housed k h p n).paced; counted = λ k h p. ap (λ (l : Lane). held l.waiting) (lane-is (cells t) _ k h) ∙ count-row (cells t) k p (g.beside.housed k h p); solid = g.listed.solid; agrees = g.listed.agrees }

  module _ (v : ℕ) (f : Found) (clock : v ≡ (meant t).clock) (s : FoundSays v (cells t) (lane_of (cells t)) (LaneGood v (cells t)) 64 f) where
    pub whole-good : Room t → v < clock_edge → get_or (cells t) depth_word 0 ≡ lane_depth → get_or (cells t) framing_word 0 ≤ 64
        → (0 < f.weights) × (f.weights ≤ 1024) × (0 < f.held → f.eligible ≡ true) × ListsStored t f.held → GoodTable t
    whole-good room end deep framed q =
        let x = found-told means (LaneGood v (cells t)) v clock (λ k g. g.fine) f s end framed q.0 q.1 q.2 q.3 in
        record {
          room = room;
          good = x.good;
          beside = record { depth = deep; housed = λ k h p. (s.lanes k h p).housed; rows = x.rows };
          listed = record { solid = x.solid; agrees = x.agrees };
        }

    pub good-found : GoodTable t → (0 < f.weights) × (f.weights ≤ 1024) × (0 < f.held → f.eligible ≡ true) × ListsStored t f.held
    good-found g = told-found means (LaneGood v (cells t)) v clock (λ k g. g.fine) f s (told g)

  -- a good table's lanes are good
  pub good-lanes : (v : ℕ) → v ≡ (meant t).clock → GoodTable t → (k : ℕ) → k < 64 → present_at (cells t) k ≡ true → LaneGood v (cells t) k
  good-lanes v clock g k h p =
      record {
        fine = subst (λ (v : ℕ). LaneFine v (row_at (cells t) k) (lane_of (cells t) k)) (sym clock) (told-fine means (told g) k h p);
        housed = g.beside.housed k h p;
      }

  pub good-framing : GoodTable t → get_or (cells t) framing_word 0 ≤ 64
  good-framing g = told-framing means (told g)

pub says-iff : {P Q : Type 0} (b : Bool) → (P → Q) → (Q → P) → Says b P → Says b Q
says-iff true f g s = f s
says-iff false f g s = λ q. s (g q)

pub says-live : (b : Bool) (h : ℕ) → 0 < h → Says b (0 < h → b ≡ true)
says-live true h p = λ q. refl
says-live false h p = λ f. false≢true (f p)
