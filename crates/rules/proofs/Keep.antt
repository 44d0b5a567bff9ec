-- Every call of the endless rules keeps the invariant. Assumes nothing.
use Prim.Native.Nat.{ℕ, ◌+◌, ◌*◌, ◌≤◌, ◌<◌}
use native.Mathlib.Omega.{arith}
use native.Mathlib.Nat.{le_refl}
use mathlib.Core.Path.{◌≡◌, refl, sym, ap, subst, ◌∙◌}
use mathlib.Core.Bool.{Bool, true, false, not, ◌&&◌, ◌||◌, false≢true}
use mathlib.Core.Option.{Option, none, some}
use mathlib.Core.List.{List, [], ◌∷◌, map}
use lib.Dec.{leb, ltb}
use lib.ListN.{set}
use borrow.Author.Tests.{le-leb, leb-true, ltb-true, ltb-false, not-true, not-false}
use Rattle.units.specs.Plain.{sum}
use Rattle.units.proofs.Bools.{if-ind, and_parts, or_parts}
use Rattle.waiting.specs.Waiting.{full, known}
use Rattle.rules.specs.State.{Setting, no_setting, setup_of, Lane, Rec, State, charge, start_r, finish_r, first_of, holds, some?, eligible, no_lane, lane_at, any_holds}
use Rattle.rules.specs.Choice.{Candidate, choose, choose_from, least_of}
use Rattle.rules.specs.Calls.{Pick, Call, Outcome, put, take, look, sets, lag, restart, served, woken, settled, settled_at, serve, pick_first, pick_of, take_of, look_of, picked, do_take, put_refusal, accept, do_look, do_lag, do_sets, do_restart, fresh}
use Rattle.rules.specs.Endless.{endless_put_of, endless_put, endless, after_by, endless_after}
use Rattle.rules.proofs.Lists.{set_all, get_d_map}
use Rattle.rules.proofs.Claim.{Inv, weight_of}
use Rattle.rules.proofs.Serve.{serve-inv}
use Rattle.rules.proofs.Jump.{jump}
use Rattle.rules.proofs.Moves.{Sound, MayEnter, wake, append}
use Rattle.rules.proofs.Bounds.{SetupOk, fresh-inv}
use Rattle.rules.proofs.Lowest.{Low, lowest, none-holds}
use Rattle.rules.proofs.Chosen.{Choice, chosen}

abbrev pub Kept : ℕ → State → Type 0
Kept M s = Inv M s.clock s.lanes

-- what waits is good, in every lane
abbrev pub AllSound : State → Type 0
AllSound s = (k : ℕ) → Sound (lane_at s k)

-- ---- take

settle : (M v : ℕ) (ls : List Lane) → Inv M v ls → Inv M (settled v ls) ls
unfolding settled settled_at
settle M v ls inv = go (least_of holds ls) (lowest ls)
  where
    go : (o : Option ℕ) → Low ls o → Inv M (settled_at v o) ls
    go none h = inv
    go (some r) h = if-ind (λ (u : ℕ). Inv M u ls) (ltb v r) r v (λ e. jump M v ls inv r (omega (arith, ltb-true v r e)) h.bound) (λ e. inv)

-- what a pick is: the lane's first record and the rest, of an eligible lane of least rounded finish
pub record Picked (s : State) (p : Pick) : Type 0 where
  pub is_first : first_of (lane_at s p.lane) ≡ some p.first
  pub start : start_r (lane_at s p.lane) ≤ s.clock
  pub least : (k : ℕ) → holds (lane_at s k) ≡ true → start_r (lane_at s k) ≤ s.clock → finish_r (lane_at s p.lane) ≤ finish_r (lane_at s k)

abbrev pub PickIs : State → Option Pick → Type 0
PickIs s none = (k : ℕ) → eligible s.clock (lane_at s k) ≡ false
PickIs s (some p) = Picked s p

pub eligible-is : (v : ℕ) (l : Lane) → eligible v l ≡ true → (holds l ≡ true) × (start_r l ≤ v)
unfolding eligible
eligible-is v l e = go (holds l) refl e
  where
    go : (b : Bool) → holds l ≡ b → (b && leb (start_r l) v) ≡ true → (holds l ≡ true) × (start_r l ≤ v)
    go true p e = (p, leb-true (start_r l) v e)
    go false p e = absurd (false≢true e)

pub is-eligible : (v : ℕ) (l : Lane) → holds l ≡ true → start_r l ≤ v → eligible v l ≡ true
unfolding eligible
is-eligible v l e h = simp (e, le-leb (start_r l) v h)

first-is : (s : State) (n : ℕ) → eligible s.clock (lane_at s n) ≡ true
    → ((k : ℕ) → eligible s.clock (lane_at s k) ≡ true → finish_r (lane_at s n) ≤ finish_r (lane_at s k))
    → PickIs s (pick_first n (first_of (lane_at s n)))
unfolding pick_first
first-is s n e h = go (first_of (lane_at s n)) refl
  where
    go : (o : Option Rec) → first_of (lane_at s n) ≡ o → PickIs s (pick_first n o)
    go none p = absurd (false≢true (sym (ap some? p) ∙ (eligible-is s.clock (lane_at s n) e).0))
    go (some r) p = record {
      is_first = p;
      start = (eligible-is s.clock (lane_at s n) e).1;
      least = λ k a b. h k (is-eligible s.clock (lane_at s k) a b);
    }

pub pick_is : (s : State) → PickIs s (picked s)
unfolding picked pick_of choose
pick_is s = go (choose_from s.clock s.order 0 s.lanes) (chosen s.clock s.order 0 s.lanes)
  where
    go : (o : Option Candidate) → Choice s.clock s.order 0 s.lanes o → PickIs s (pick_of s o)
    go none h = h
    go (some c) h =
        let e : h.at ≡ c.lane = omega (arith, h.num) in
        first-is s c.lane
        (subst (λ (n : ℕ). eligible s.clock (lane_at s n) ≡ true) e h.is)
        (λ k t. subst (λ (x : ℕ). x ≤ finish_r (lane_at s k)) (h.fin ∙ ap (λ (n : ℕ). finish_r (lane_at s n)) e) (h.least k t).fin)

served-kept : (M : ℕ) (s : State) (p : Pick) → Kept M s → Picked s p → Kept M (serve s p.lane p.first)
unfolding serve
served-kept M s p inv h =
    settle M (s.clock + 1024 * charge (lane_at s p.lane).given p.first.len) (set s.lanes p.lane (served (lane_at s p.lane)))
    (serve-inv M s.clock s.lanes inv p.lane p.first h.is_first h.start h.least)

take-kept : (M : ℕ) (s : State) (o : Option Pick) → Kept M s → PickIs s o → Kept M (take_of s o).state
unfolding take_of
take-kept M s none inv h = inv
take-kept M s (some p) inv h = served-kept M s p inv h

-- ---- put

-- what an accepted put has: a lane of the setup with room for a record of the train, and a length that fits
pub record Allowed (s : State) (j : ℕ) (r : Rec) : Type 0 where
  pub has : 0 < weight_of (lane_at s j)
  pub train : known (lane_at s j).waiting r.train ≡ true
  pub some_bytes : 0 < r.len
  pub fits : r.len ≤ (lane_at s j).given.longest
  pub room : full (lane_at s j).waiting r.train ≡ false

pub allowed-enters : (s : State) (j : ℕ) (r : Rec) → Allowed s j r → MayEnter (lane_at s j) r
allowed-enters s j r a = record { train = a.train; some_bytes = a.some_bytes; fits = a.fits; room = a.room }

abbrev pub PutOk : State → ℕ → Rec → Option ℕ → Type 0
PutOk s j r none = Allowed s j r
PutOk s j r (some c) = Unit {0}

pub put-ok : (s : State) (j : ℕ) (r : Rec) → PutOk s j r (put_refusal s j r)
unfolding put_refusal
put-ok s j r =
    let n = r.len in
    if-ind (PutOk s j r) (ltb (weight_of (lane_at s j)) 1) _ _ (λ e. tt) λ e₁.
    if-ind (PutOk s j r) (not (known (lane_at s j).waiting r.train)) _ _ (λ e. tt) λ e₀.
    if-ind (PutOk s j r) (ltb n 1 || ltb (lane_at s j).given.longest n) _ _ (λ e. tt) λ e₂.
    if-ind (PutOk s j r) (full (lane_at s j).waiting r.train) _ _ (λ e. tt) λ e₃.
    let b = or_parts (ltb n 1) (ltb (lane_at s j).given.longest n) e₂ in
    record {
      has = ltb-false (weight_of (lane_at s j)) 1 e₁;
      train = not-false (known (lane_at s j).waiting r.train) e₀;
      some_bytes = ltb-false n 1 b.0;
      fits = ltb-false (lane_at s j).given.longest n b.1;
      room = e₃;
    }

accept-kept : (M : ℕ) (s : State) (j : ℕ) (r : Rec) → Kept M s → Allowed s j r → Kept M (accept s j r)
unfolding accept
accept-kept M s j r inv a =
    if-ind (Kept M) (holds (lane_at s j)) _ _
    (λ e. append M s.clock s.lanes inv j r e a.has (allowed-enters s j r a))
    (λ e.
    let l = lane_at s j in
    let l' = woken s.clock l r in
    let w = wake M s.clock s.lanes inv j r e a.has (allowed-enters s j r a) in
    if-ind (λ (u : ℕ). Inv M u (set s.lanes j l')) (not (any_holds s.lanes) && ltb s.clock (start_r l')) _ _
    (λ b.
    let p = and_parts (not (any_holds s.lanes)) (ltb s.clock (start_r l')) b in
    jump M s.clock (set s.lanes j l') w (start_r l') (omega (arith, ltb-true s.clock (start_r l') p.1))
    (set_all (λ (m : Lane). holds m ≡ true → start_r l' ≤ start_r m) s.lanes j l' no_lane (λ h. le_refl (start_r l'))
    (λ k h. absurd (false≢true (sym (none-holds s.lanes (not-true (any_holds s.lanes) p.0) k) ∙ h)))))
    (λ b. w))

put-kept : (M : ℕ) (s : State) (j : ℕ) (r : Rec) (o : Option ℕ) → Kept M s → PutOk s j r o → Kept M (endless_put_of s j r o).state
unfolding endless_put_of
put-kept M s j r none inv a = accept-kept M s j r inv a
put-kept M s j r (some c) inv a = inv

-- ---- the calls that change nothing, and restart

pub look-same : (s : State) (o : Option Pick) → (look_of s o).state ≡ s
unfolding look_of
look-same s none = refl
look-same s (some p) = refl

pub lag-same : (s : State) (j : ℕ) → (do_lag s j).state ≡ s
unfolding do_lag
lag-same s j = if-ind (λ (o : Outcome). o.state ≡ s) (ltb (weight_of (lane_at s j)) 1) _ _ (λ e. refl) (λ e. refl)

setting-weights : (ls : List Lane) → sum (λ (g : Setting). g.weight) (map (λ (l : Lane). l.given) ls) ≡ sum weight_of ls
setting-weights [] = refl
setting-weights (l ∷ ls) = omega (arith, setting-weights ls)

setup_kept : (M : ℕ) (s : State) → Kept M s → SetupOk M (setup_of s)
setup_kept M s inv = record {
  weights = omega (arith, setting-weights s.lanes, inv.weights);
  short = λ k. subst (λ (g : Setting). 1024 * charge g g.longest ≤ M) (sym (get_d_map (λ (l : Lane). l.given) s.lanes k no_lane no_setting refl)) (inv.ok k).short;
}

restart-kept : (M : ℕ) (s : State) → Kept M s → Kept M (do_restart s).state
unfolding do_restart fresh
restart-kept M s inv =
    if-ind (λ (o : Outcome). Kept M o.state) (any_holds s.lanes) _ _ (λ e. inv) (λ e. fresh-inv M (setup_of s) (setup_kept M s inv))

-- ---- every call, and every list of calls

pub step_kept : (M : ℕ) (s : State) (c : Call) → Kept M s → Kept M (endless s c).state
unfolding endless endless_put do_take do_look do_sets
step_kept M s (put j k m n) inv = put-kept M s j (record { train = k; mark = m; len = n }) (put_refusal s j (record { train = k; mark = m; len = n })) inv (put-ok s j (record { train = k; mark = m; len = n }))
step_kept M s take inv = take-kept M s (picked s) inv (pick_is s)
step_kept M s look inv = subst (Kept M) (sym (look-same s (picked s))) inv
step_kept M s sets inv = inv
step_kept M s (lag j) inv = subst (Kept M) (sym (lag-same s j)) inv
step_kept M s restart inv = restart-kept M s inv

pub kept : (M : ℕ) (s : State) (cs : List Call) → Kept M s → Kept M (endless_after s cs)
unfolding after_by
kept M s [] inv = inv
kept M s (c ∷ cs) inv = kept M (endless s c).state cs (step_kept M s c inv)
