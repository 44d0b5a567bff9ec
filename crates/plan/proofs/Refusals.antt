-- Whatever `read_plan` refuses has a number of `setup_refusals` and a place in the input, where the wrong number begins.
--
--   refused-place   the theorem
--
-- Assumes nothing.
use Prim.Native.Nat.{ℕ, zero, suc, ◌+◌, ◌-◌, ◌≤◌, ◌<◌}
use mathlib.Core.Path.{◌≡◌, refl, subst}
use mathlib.Core.Bool.{Bool, true, false}
use mathlib.Core.List.{List}
use mathlib.Core.Option.{Option, some}
use native.Mathlib.Omega.{arith}
use lib.ListN.{length}
use Rattle.fields.specs.Item.{whole_field, bad_field}
use Rattle.fields.proofs.Item.{Broken, none_left, cut, unknown, wrong, broken, Stands, stands}
use Rattle.std.specs.Prelude as core
use Rattle.std.specs.Prelude.{Some, None, if◌then◌else◌}
use Rattle.rules.specs.State.{Setting}
use Rattle.plan.specs.Fields.{SetupItem, setup_kinds, ends, setup_item_at}
use Rattle.plan.specs.Judge.{misplaced, outside, over, offset, faulted, judged, judged_at, seen_after}
use Rattle.plan.specs.Read.{setup_read, setup_refused, nothing_seen, no_lanes, placed, setup_walk, read_plan}
use Rattle.plan.specs.Accepted.{setup_refusals, among, wrong_at, RefusedSetup}
use Rattle.plan.specs.declared.judge.Fault.{Fault}
use Rattle.plan.specs.declared.judge.Fault.TheVariants.{BadFormat, BadLane, BadWeight, BadLongest, BadFraming, TotalOver}
use Rattle.plan.specs.declared.judge.Seen.{Seen}
use Rattle.plan.specs.declared.parse.SetupField.{SetupField}
use Rattle.plan.proofs.Turn.{turned}
use Rattle.plan.proofs.Taken.{is-taken}
use Rattle.plan.proofs.Offsets.{outside-in, over-in}
use Rattle.plan.proofs.Shown.{Shows, shows, over-shows}

module _ (s : List ℕ) (at : ℕ) where
  -- a refusal k at a place p from `at` on, before the end
  inside : (k p : ℕ) → among setup_refusals k ≡ true → (at ≤ length s → at ≤ p) → p < length s → wrong_at s k p ≡ true → RefusedSetup s at k (some p)
  inside k p a c d w = record { listed = a; place = p; is = refl; from = c; within = omega arith; at_the_end = λ z. absurd (omega (arith, d, z)); shows = w }

  at_tag : (k : ℕ) → among setup_refusals k ≡ true → wrong_at s k at ≡ true → at < length s → RefusedSetup s at k (some at)
  at_tag k a w l = inside k at a (λ r. omega arith) l w

  at_the_end : RefusedSetup s at 1 (some (length s))
  at_the_end = record { listed = refl; place = length s; is = refl; from = λ l. l; within = omega arith; at_the_end = λ z. refl; shows = refl }

  item-bad : {n : ℕ} {q : Option ℕ} → Broken s at n q → RefusedSetup s at n q
  item-bad none_left = at_the_end
  item-bad (cut l) = at_tag 1 refl refl l
  item-bad (unknown l) = at_tag 2 refl refl l
  item-bad (wrong l) = at_tag 3 refl refl l

  -- where it is a refusal, it is one of these
  abbrev Listed : SetupItem → Type 0
  Listed (whole_field f m) = Unit
  Listed (bad_field n q) = RefusedSetup s at n q

  -- a fault's number and place
  row-bad : (x : core.Option Fault) → at + offset x < length s → Shows s at x → (rest : SetupItem) → Listed rest → Listed (faulted at x rest)
  row-bad None l w rest r = r
  row-bad (Some BadFormat) l w rest r = inside 50 (at + 3) refl (λ z. omega arith) l w
  row-bad (Some BadLane) l w rest r = inside 51 (at + 3) refl (λ z. omega arith) l w
  row-bad (Some BadWeight) l w rest r = inside 52 (at + 4) refl (λ z. omega arith) l w
  row-bad (Some BadLongest) l w rest r = inside 53 (at + 6) refl (λ z. omega arith) l w
  row-bad (Some BadFraming) l w rest r = inside 54 (at + 3) refl (λ z. omega arith) l w
  row-bad (Some TotalOver) l w rest r = inside 6 (at + 4) refl (λ z. omega arith) l w

  field-bad : (seen : Seen) (a : Bool) (f : SetupField) (m : ℕ) → Stands setup_kinds s at f m → Listed (if a then bad_field 4 (some at) else faulted at (outside f) (faulted at (over seen f) (whole_field f m)))
  field-bad seen true f m k = at_tag 4 refl refl (omega (arith, k.fits))
  field-bad seen false f m k =
      let end : m ≤ length s = omega (arith, k.after, k.fits) in
      row-bad (outside f) (omega (arith, outside-in s at f m k)) (shows s at f m k) _ (row-bad (over seen f) (omega (arith, over-in s at f m k seen)) (over-shows s at seen f) (whole_field f m) tt)

  judge-bad : (seen : Seen) (i : SetupItem) → setup_item_at s at ≡ i → Listed (judged seen at i)
  judge-bad seen (bad_field n q) e = item-bad (broken setup_kinds s at e)
  judge-bad seen (whole_field f m) e = field-bad seen (misplaced seen f) f m (stands e)

  judged-bad : (seen : Seen) (n : ℕ) (q : Option ℕ) → judged_at seen s at ≡ bad_field n q → RefusedSetup s at n q
  unfolding judged_at
  judged-bad seen n q h = subst Listed h (judge-bad seen (setup_item_at s at) refl)

-- what is refused further on is refused from here on
earlier : (s : List ℕ) (at m n : ℕ) (q : Option ℕ) → at ≤ m → m ≤ length s → RefusedSetup s m n q → RefusedSetup s at n q
earlier s at m n q l b r = record {
  listed = r.listed;
  place = r.place;
  is = r.is;
  from = λ k. omega (arith, r.from b);
  within = r.within;
  at_the_end = r.at_the_end;
  shows = r.shows;
}

pub read-refused : {A : Type 0} {v : ℕ} {gs : List Setting} {k m n : ℕ} {p : Option ℕ} → setup_read v gs k m ≡ setup_refused n p → A
read-refused h = absurd (let z : ◌≡◌ {A = ℕ} 0 1 = cc in omega arith)

same-refused : (s : List ℕ) (at : ℕ) {k n : ℕ} {p q : Option ℕ} → setup_refused k p ≡ setup_refused n q → RefusedSetup s at k p → RefusedSetup s at n q
same-refused s at {k} {n} {p} {q} h r =
    let a : k ≡ n = cc in
    let b : p ≡ q = cc in
    rw (← a, ← b) r

module _ (s : List ℕ) (n : ℕ) (q : Option ℕ) where
  turn-refused : (turns : ℕ) (seen : Seen) (gs : List Setting) (at : ℕ)
      → (more : (seen₁ : Seen) (gs₁ : List Setting) (m : ℕ) → setup_walk turns s seen₁ gs₁ m ≡ setup_refused n q → RefusedSetup s m n q)
      → (i : SetupItem) → judged_at seen s at ≡ i → turned turns s seen gs i ≡ setup_refused n q → RefusedSetup s at n q
  turn-refused turns seen gs at more (bad_field k p) e h = same-refused s at h (judged-bad s at seen k p e)
  turn-refused turns seen gs at more (whole_field f m) e h = field-refused (ends f) h
    where
      field-refused : (b : Bool) → (if b then setup_read seen.format gs seen.count m else setup_walk turns s (seen_after seen f) (placed seen.format seen.framing gs f) m) ≡ setup_refused n q → RefusedSetup s at n q
      field-refused true h = read-refused h
      field-refused false h =
          let k = (is-taken seen s at f m e).stand in
          earlier s at m n q (omega (arith, k.after)) (omega (arith, k.after, k.fits)) (more (seen_after seen f) (placed seen.format seen.framing gs f) m h)

  walk_refused : (turns : ℕ) (seen : Seen) (gs : List Setting) (at : ℕ) → setup_walk turns s seen gs at ≡ setup_refused n q → RefusedSetup s at n q
  unfolding setup_walk
  walk_refused zero seen gs at h = same-refused s at h (at_the_end s at)
  walk_refused (suc turns) seen gs at h =
      turn-refused turns seen gs at (λ seen₁ gs₁ m h₁. walk_refused turns seen₁ gs₁ m h₁) (judged_at seen s at) refl h

  pub refused-place : (at : ℕ) → read_plan s at ≡ setup_refused n q → RefusedSetup s at n q
  unfolding read_plan
  refused-place at h = walk_refused (length s - at) nothing_seen no_lanes at h
