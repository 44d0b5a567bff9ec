-- A take of any eligible lane of least rounded finish keeps the invariant. Which of several such lanes is served plays no part, so tie rules do not matter.
-- Step 1: for a deadline D by which the lane is due, the clock rises by what the lane's claim falls. Step 2: for an earlier D no due lane is eligible, so
-- every claim starts at the clock or later. Assumes nothing.
use Prim.Native.Nat.{ℕ, ◌+◌, ◌-◌, ◌*◌, ◌^◌, ◌≤◌, ◌<◌}
use native.Mathlib.Omega.{arith}
use native.Mathlib.Decide.{dec_le}
use native.Mathlib.Nat.{mul-le-mul_left}
use mathlib.Core.Path.{◌≡◌, refl, sym, subst, ap, ◌∙◌}
use mathlib.Core.Bool.{true, false≢true}
use mathlib.Core.List.{List}
use mathlib.Core.Option.{Option, none, some}
use lib.ListN.{get_or, set}
use Rattle.units.specs.Plain.{sum}
use Rattle.rules.specs.State.{Lane, Rec, rate, slot, charge, start_r, finish_r, first_of, holds, some?, no_lane}
use Rattle.rules.specs.Calls.{timed, behind, served}
use Rattle.waiting.specs.Waiting.{first}
use Rattle.waiting.proofs.Laws.{good-hand, first_fits}
use Rattle.units.proofs.Round.{round-le, lt-round-slot, round_mono}
use Rattle.units.proofs.Lists.{sum-set}
use Rattle.rules.proofs.Lists.{set_all}
use Rattle.rules.proofs.Lane.{weight-rate, charge-mono, charge-slot, slot-pos}
use Rattle.rules.proofs.Claim.{claim-drops, from, from-ge, from-due, claim, claims-mono, spread, weight_of, Queued, LaneOk, Inv, in-range, same-weights}

-- a served lane is idle, or its next record's turn has come. Nothing else knows how it is made.
pub served-ind : (P : Lane → Type 0) (l : Lane)
    → (first (behind l) ≡ none → P (record { given = l.given; start = 0; finish = l.finish; waiting = behind l }))
    → ((r : Rec) → first (behind l) ≡ some r → P (record { given = l.given; start = l.finish; finish = l.finish + charge l.given r.len * rate l.given; waiting = behind l }))
    → P (served l)
unfolding served timed
served-ind P l f g = go (first (behind l)) refl
  where
    go : (o : Option Rec) → first (behind l) ≡ o → P (timed l.given l.finish (behind l) o)
    go none e = f e
    go (some r) e = g r e

idle-holds {ℓ} : {P : Type ℓ} (o : Option Rec) → o ≡ none → some? o ≡ true → P
idle-holds o e t = absurd (false≢true (sym (ap some? e) ∙ t))

-- after a take the lane starts at F or later
served-from : (v D : ℕ) (l : Lane) → l.finish ≤ D → l.finish ≤ from v D (served l)
served-from v D l h =
    served-ind (λ (m : Lane). l.finish ≤ from v D m) l
    (λ e. from-ge v D l.finish _ (λ t d. idle-holds (first (behind l)) e t) h (λ t. omega arith))
    (λ r e. from-ge v D l.finish _ (λ t d. omega arith) h (λ t. omega arith))

-- after a take of a lane that was due after D, it still is, or it is idle
served-late : (D : ℕ) (l : Lane) → D < finish_r l → l.start ≤ l.finish → holds (served l) ≡ true → finish_r (served l) ≤ D → ⊥
served-late D l h o =
    served-ind (λ (m : Lane). holds m ≡ true → finish_r m ≤ D → ⊥) l
    (λ e t d. idle-holds (first (behind l)) e t)
    (λ r e t d. omega (arith, round_mono (slot l.given) l.start l.finish (slot-pos l.given) o))

served-later : (v v' D : ℕ) (l : Lane) → D < finish_r l → l.start ≤ l.finish → v ≤ v' → v ≤ D → v ≤ from v' D (served l)
served-later v v' D l h o p q = from-ge v' D v (served l) (λ e d. absurd (served-late D l h o e d)) q (λ e. omega arith)

-- the exact finish is below the rounded finish (C), so below v + 2s for an eligible lane
finish-lt : (l : Lane) (r : Rec) → Queued l.given l.start l.finish (some r) → l.finish < finish_r l
finish-lt l r q = omega (arith, lt-round-slot (slot l.given) l.start (slot-pos l.given), charge-slot l.given r.len q.2)

pub served-ok : (M v v' : ℕ) (l : Lane) (r : Rec) → LaneOk M v l → Queued l.given l.start l.finish (some r) → start_r l ≤ v → v ≤ v' → LaneOk M v' (served l)
served-ok M v v' l r k q el h =
    let g = good-hand l.given.longest l.waiting k.waiting in
    served-ind (LaneOk M v') l
    (λ e. record { queued = rw e tt; waiting = g; below = rw e (omega (arith, finish-lt l r q)); short = k.short })
    (λ r' e. record { queued = rw e (q.0, refl, (first_fits l.given.longest (behind l) r' g e).1); waiting = g; below = rw e (omega (arith, finish-lt l r q)); short = k.short })

pub later-ok : (M v v' : ℕ) (l : Lane) → v ≤ v' → LaneOk M v l → LaneOk M v' l
later-ok M v v' l h k = record { queued = k.queued; waiting = k.waiting; below = omega (arith, k.below); short = k.short }

served-given : (l : Lane) → weight_of (served l) ≡ weight_of l
served-given l = served-ind (λ (m : Lane). weight_of m ≡ weight_of l) l (λ e. refl) (λ r e. refl)

module _ (M v : ℕ) (ls : List Lane) (inv : Inv M v ls) (j : ℕ) (r : Rec)
    (hq : first_of (get_or ls j no_lane) ≡ some r)
    (el : start_r (get_or ls j no_lane) ≤ v)
    (least : (k : ℕ) → holds (get_or ls k no_lane) ≡ true → start_r (get_or ls k no_lane) ≤ v → finish_r (get_or ls j no_lane) ≤ finish_r (get_or ls k no_lane))
  where
    abbrev l : Lane
    l = get_or ls j no_lane

    abbrev v' : ℕ
    v' = v + 1024 * charge l.given r.len

    abbrev ls' : List Lane
    ls' = set ls j (served l)

    q : Queued l.given l.start l.finish (some r)
    q = subst (Queued l.given l.start l.finish) hq (inv.ok j).queued

    weights' : sum weight_of ls' ≤ 1024
    weights' = omega (arith, inv.weights, same-weights ls j (served l) (in-range ls j q.0) (served-given l))

    -- step 1
    due-now : (D : ℕ) → finish_r l ≤ D → 1024 * v' + sum (claim v' D) ls' ≤ 1024 * (D + M)
    due-now D d =
        omega (
          arith,
          inv.due D j (ap some? hq) d,
          claims-mono v v' D ls (omega arith),
          sum-set (claim v' D) ls j (served l) no_lane (in-range ls j q.0),
          ap (λ (x : ℕ). weight_of l * (D - x)) (from-due v' D l (ap some? hq) d),
          ap (λ (x : ℕ). x * (D - from v' D (served l))) (served-given l),
          claim-drops (2 ^ 20) (weight_of l) (rate l.given) (charge l.given r.len) D l.start (from v' D (served l)) (weight-rate l.given q.0)
              (omega (arith, q.1, served-from v' D l (omega (arith, finish-lt l r q))))
              (omega (arith, q.1, finish-lt l r q)),
        )

    -- step 2: every lane that is due by D starts at v or later
    starts : (D k : ℕ) → D < finish_r l → v ≤ D → v ≤ from v' D (get_or ls' k no_lane)
    starts D k d p =
        set_all (λ (m : Lane). v ≤ from v' D m) ls j (served l) no_lane
        (served-later v v' D l d (omega (arith, q.1)) (omega arith) p)
        (λ i. from-ge v' D v (get_or ls i no_lane)
        (λ e h. elim (dec_le (start_r (get_or ls i no_lane)) v) [
          | yes s ↦ absurd (omega (arith, least i e s))
          | no s ↦ omega (arith, round-le (slot (get_or ls i no_lane).given) (get_or ls i no_lane).start)
        ])
        p (λ e. omega arith))
        k

    -- the deadline of a lane that is due by D is not before v
    ahead_of : (D k : ℕ) → D < finish_r l → holds (get_or ls' k no_lane) ≡ true → finish_r (get_or ls' k no_lane) ≤ D → v ≤ D
    ahead_of D k d =
        set_all (λ (m : Lane). holds m ≡ true → finish_r m ≤ D → v ≤ D) ls j (served l) no_lane
        (λ e h. absurd (served-late D l d (omega (arith, q.1)) e h))
        (λ i e h. elim (dec_le (start_r (get_or ls i no_lane)) v) [ yes s ↦ absurd (omega (arith, least i e s)) | no s ↦ omega arith ])
        k

    due-late : (D k : ℕ) → D < finish_r l → holds (get_or ls' k no_lane) ≡ true → finish_r (get_or ls' k no_lane) ≤ D → 1024 * v' + sum (claim v' D) ls' ≤ 1024 * (D + M)
    due-late D k d e h =
        let p : v ≤ D = ahead_of D k d e h in
        omega (arith, spread v' D v ls' weights' (λ i. starts D i d p), (inv.ok j).short, mul-le-mul_left 1024 (charge-mono l.given r.len l.given.longest q.2))

    pub serve-inv : Inv M v' ls'
    serve-inv = record {
      weights = weights';
      ok = set_all (LaneOk M v') ls j (served l) no_lane (served-ok M v v' l r (inv.ok j) q el (omega arith)) (λ k. later-ok M v v' (get_or ls k no_lane) (omega arith) (inv.ok k));
      due = λ D k e h. elim (dec_le (finish_r l) D) [ yes d ↦ due-now D d | no d ↦ due-late D k (omega arith) e h ];
    }
