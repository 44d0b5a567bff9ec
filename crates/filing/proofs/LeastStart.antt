-- The least R of all lanes is the least start of a group. Assumes nothing.
use Prim.Native.Nat.{ℕ, ◌≤◌}
use native.Mathlib.Omega.{arith}
use mathlib.Core.Path.{◌≡◌, refl, sym, ◌∙◌}
use mathlib.Core.Bool.{true, false, false≢true}
use mathlib.Core.Option.{Option, none, some}
use Rattle.units.proofs.Bools.{not-passed}
use Rattle.rules.specs.State.{State, group, start_r, holds, lane_at}
use Rattle.rules.specs.Choice.{least_of}
use Rattle.rules.specs.Sets.{in_group, group_start}
use Rattle.rules.proofs.Lowest.{LowOf, LowestOf, lowest}
use Rattle.rules.proofs.GroupRule.{in_group_lem, is-in-group, group-low}
use Rattle.filing.specs.Filing.{Starting}
use Rattle.filing.proofs.Slots.{low-unique}

pub record LeastStart (starts : ℕ → Option ℕ) (r : ℕ) : Type 0 where
  pub at : ℕ
  pub low : 16 ≤ at
  pub high : at ≤ 31
  pub start : starts at ≡ some r
  pub bound : (i q : ℕ) → 16 ≤ i → i ≤ 31 → starts i ≡ some q → r ≤ q

module _ (s : State) (starts : ℕ → Option ℕ) (st : Starting starts s) (grouped : (k : ℕ) → holds (lane_at s k) ≡ true → (16 ≤ group (lane_at s k).given) × (group (lane_at s k).given ≤ 31)) where
  -- a holding lane's group has a start that is no later than its R
  pub group_of : (k : ℕ) → holds (lane_at s k) ≡ true → (q : ℕ) × (starts (group (lane_at s k).given) ≡ some q) × (q ≤ start_r (lane_at s k))
  group_of k h = go (group_start s.lanes g) refl (group-low s.lanes g)
    where
      g : ℕ
      g = group (lane_at s k).given

      go : (o : Option ℕ) → group_start s.lanes g ≡ o → LowOf (in_group g) s.lanes o → (q : ℕ) × (starts g ≡ some q) × (q ≤ start_r (lane_at s k))
      go none e low = absurd (false≢true (sym (low k) ∙ is-in-group (lane_at s k) h))
      go (some q) e low = (q, st g (grouped k h).0 (grouped k h).1 ∙ e, low.bound k (is-in-group (lane_at s k) h))

  pub least-all : (r : ℕ) → LeastStart starts r → least_of holds s.lanes ≡ some r
  least-all r n =
      low-unique holds s.lanes _ (some r) (lowest s.lanes) (go (group_start s.lanes n.at) (sym (st n.at n.low n.high) ∙ n.start) (group-low s.lanes n.at))
    where
      go : (o : Option ℕ) → o ≡ some r → LowOf (in_group n.at) s.lanes o → LowestOf holds s.lanes r
      go none e low = let z : ◌≡◌ {A = ℕ} 0 1 = cc in absurd (omega arith)
      go (some x) e low =
          let same : x ≡ r = cc in
          record {
            at = low.at;
            is = (in_group_lem n.at (lane_at s low.at) low.is).0;
            start = low.start ∙ same;
            bound = λ k h. let q = group_of k h in omega (arith, q.2, n.bound (group (lane_at s k).given) q.0 (grouped k h).0 (grouped k h).1 q.1);
          }

  pub none_held : ((i : ℕ) → 16 ≤ i → i ≤ 31 → starts i ≡ none) → (k : ℕ) → holds (lane_at s k) ≡ false
  none_held f k = not-passed (holds (lane_at s k)) (λ h.
      let q = group_of k h in
      let e : starts (group (lane_at s k).given) ≡ none = f (group (lane_at s k).given) (grouped k h).0 (grouped k h).1 in
      let z : ◌≡◌ {A = ℕ} 0 1 = clash (starts (group (lane_at s k).given)) q.0 e q.1 in
      omega arith)
    where
      clash : (o : Option ℕ) (x : ℕ) → o ≡ none → o ≡ some x → ◌≡◌ {A = ℕ} 0 1
      clash o x a b = cc
