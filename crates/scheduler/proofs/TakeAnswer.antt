-- What the record that take hands out is, proved. Assumes nothing.
use Prim.Native.Nat.{ℕ, ◌+◌}
use native.Mathlib.Omega.{arith}
use mathlib.Core.Path.{◌≡◌, refl, sym, ap, subst, ◌∙◌}
use mathlib.Core.Bool.{true}
use mathlib.Core.Option.{Option, none, some}
use Rattle.units.specs.Plain.{place}
use Rattle.rules.specs.State.{Rec, State, group, finish_r, first_of, eligible, lane_at}
use Rattle.rules.specs.Choice.{Candidate, choose, choose_from}
use Rattle.rules.specs.Calls.{Pick, take, look, taken, seen, refused, step, do_take, do_look, picked, pick_first, pick_of, take_of, look_of}
use Rattle.rules.specs.Reads.{reads}
use Rattle.rules.proofs.Chosen.{Chosen, Choice, chosen}
use Rattle.table.specs.Means.{meant}
use Rattle.scheduler.proofs.Steps.{step-says}
use Rattle.scheduler.specs.TakeAnswer.{Served, TakeCall, LookTakes}

module _ (s : State) (j k m n : ℕ) where
  rec-is : (r : Rec) → r.train ≡ k → r.mark ≡ m → r.len ≡ n → some r ≡ some (record { train = k; mark = m; len = n })
  rec-is r e f g = rw (sym e, sym f, sym g) refl

  served-by : (c : Candidate) → Chosen s.clock s.order 0 s.lanes c → (o : Option Rec) → first_of (lane_at s c.lane) ≡ o
      → (take_of s (pick_first c.lane o)).reply ≡ taken j k m n → Served s j k m n
  unfolding take_of pick_first
  served-by c h none p e = let z : ◌≡◌ {A = ℕ} 0 1 = cc in absurd (omega arith)
  served-by c h (some r) p e =
      let l : c.lane ≡ j = cc in
      let tr : r.train ≡ k = cc in
      let mk : r.mark ≡ m = cc in
      let ln : r.len ≡ n = cc in
      let at : h.at ≡ j = omega (arith, h.num) in
      let turn : c.turn ≡ place j s.order = h.trn ∙ ap (λ (x : ℕ). place x s.order) (let e₀ : 0 + h.at ≡ j = omega arith in e₀) in
      let fin : c.finish ≡ finish_r (lane_at s j) = h.fin ∙ ap (λ (x : ℕ). finish_r (lane_at s x)) at in
      let grp : c.group ≡ group (lane_at s j).given = h.grp ∙ ap (λ (x : ℕ). group (lane_at s x).given) at in
      record {
        may = subst (λ (x : ℕ). eligible s.clock (lane_at s x) ≡ true) at h.is;
        first = subst (λ (x : ℕ). first_of (lane_at s x) ≡ some r) l p ∙ rec-is r tr mk ln;
        least = λ i t. omega (arith, (h.least i t).fin, fin);
        lowest = λ i t f. omega (arith, (h.least i t).grp (omega (arith, fin)), grp);
        earliest = λ i t f g.
            let here : place (0 + i) s.order ≡ place i s.order = ap (λ (x : ℕ). place x s.order) (let e₀ : 0 + i ≡ i = omega arith in e₀) in
            omega (arith, (h.least i t).trn (omega (arith, fin)) (omega (arith, grp)), turn, here);
      }

  take-served : (step s take).reply ≡ taken j k m n → Served s j k m n
  unfolding step do_take picked pick_of choose take_of
  take-served e = go (choose_from s.clock s.order 0 s.lanes) (chosen s.clock s.order 0 s.lanes) e
    where
      go : (o : Option Candidate) → Choice s.clock s.order 0 s.lanes o → (take_of s (pick_of s o)).reply ≡ taken j k m n → Served s j k m n
      go none h e = let z : ◌≡◌ {A = ℕ} 0 1 = cc in absurd (omega arith)
      go (some c) h e = served-by c h (first_of (lane_at s c.lane)) refl e

pub take-call : TakeCall
unfolding TakeCall
take-call t u a j k m n g p e = take-served (meant t) j k m n (sym (step-says take t _ u g p) ∙ e)

look-of : (s : State) (o : Option Pick) (j k m n : ℕ) → (take_of s o).reply ≡ taken j k m n → (look_of s o).reply ≡ seen j k m n
unfolding take_of look_of
look-of s none j k m n e = let z : ◌≡◌ {A = ℕ} 0 1 = cc in absurd (omega arith)
look-of s (some p) j k m n e =
    let l : p.lane ≡ j = cc in
    let tr : p.first.train ≡ k = cc in
    let mk : p.first.mark ≡ m = cc in
    let ln : p.first.len ≡ n = cc in
    cc

look_none : (s : State) (o : Option Pick) → (take_of s o).reply ≡ refused 16 none → (look_of s o).reply ≡ refused 16 none
unfolding take_of look_of
look_none s none e = refl
look_none s (some p) e = let z : ◌≡◌ {A = ℕ} 0 1 = cc in absurd (omega arith)

pub look-takes : LookTakes
unfolding LookTakes step do_take do_look
look-takes t u a b g p q =
    let s = meant t in
    let taking = step-says take t (reads a) u g p in
    let looking = step-says look t (reads b) t g q in (
      λ j k m n h. looking ∙ look-of s (picked s) j k m n (sym taking ∙ h),
      λ h. looking ∙ look_none s (picked s) (sym taking ∙ h),
    )
