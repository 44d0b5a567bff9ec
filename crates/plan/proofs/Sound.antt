-- The fields so far are a setup within the numbers, and each field that is taken keeps it so.
-- Assumes nothing.
use Prim.Native.Nat.{ℕ, ◌+◌, ◌≤◌, ◌<◌}
use mathlib.Core.Path.{◌≡◌, refl, sym, ap, subst, ◌∙◌}
use mathlib.Core.Bool.{true, false}
use mathlib.Core.List.{List}
use mathlib.Core.Logic.{◌⊎◌, inl, inr}
use native.Mathlib.Omega.{arith}
use borrow.Author.Tests.{lt-ltb, not-false}
use lib.ListN.{length, set, length-set}
use lib.Seq.{get_or-set_same}
use Rattle.units.specs.Plain.{sum}
use Rattle.units.proofs.Bools.{true-false}
use Rattle.units.proofs.Lists.{set_cases, sum-set}
use Rattle.std.specs.Prelude.{None}
use Rattle.rules.specs.State.{Setting, no_setting, setting_at}
use Rattle.rules.specs.Setup.{InNumbers, weights}
use Rattle.plan.specs.Judge.{given, misplaced, Inside, Numbered, over, seen_after}
use Rattle.plan.specs.Read.{nothing_seen, no_lanes, as_shared, placed}
use Rattle.plan.specs.Accepted.{there, present}
use Rattle.plan.specs.declared.judge.Seen.{Seen}
use Rattle.plan.specs.declared.parse.LaneField.{LaneField}
use Rattle.plan.specs.declared.parse.SetupField.{SetupField}
use Rattle.plan.specs.declared.parse.SetupField.TheVariants.{Format, Lane, Framing, Shared, End}
use Rattle.plan.proofs.Lists.{replicate-at}
use Rattle.plan.proofs.Inside.{framing-small, lane-number, in-numbers, is-rising, is-under, is-laned, is_last}

pub record Sound (seen : Seen) (gs : List Setting) : Type 0 where
  pub size : length gs ≡ 64
  pub each : (k : ℕ) → InNumbers (setting_at gs k) ⊎ (setting_at gs k ≡ no_setting)
  pub framed : (k : ℕ) → 0 < (setting_at gs k).weight → (setting_at gs k).framing ≡ seen.framing
  pub most : (k : ℕ) → (setting_at gs k).framing ≤ seen.framing
  pub bytes : seen.framing ≤ 64
  pub none_yet : seen.opening ≡ true → seen.floor ≡ 0
  pub begin : seen.begun ≡ false → seen.floor ≡ 0
  pub above : (k : ℕ) → seen.floor ≤ k → setting_at gs k ≡ no_setting
  pub sum_is : weights gs ≡ seen.total
  pub there_are : present gs ≡ seen.count
  pub total : seen.total ≤ 1024
  pub few : seen.count ≤ seen.total
  pub count : seen.count ≤ seen.floor
  pub floor : seen.floor ≤ 64
  pub last : seen.laned ≡ true → (k : ℕ) → k + 1 ≡ seen.floor → InNumbers (setting_at gs k)

pub sound-first : Sound nothing_seen no_lanes
sound-first = record {
  size = refl;
  each = λ k. inr (replicate-at 64 k no_setting);
  framed = λ k w. ap (λ (g : Setting). g.framing) (replicate-at 64 k no_setting);
  most = λ k. omega (arith, ap (λ (g : Setting). g.framing) (replicate-at 64 k no_setting));
  bytes = omega arith;
  none_yet = λ o. refl;
  begin = λ o. refl;
  above = λ k h. replicate-at 64 k no_setting;
  sum_is = refl;
  there_are = refl;
  total = omega arith;
  few = omega arith;
  count = omega arith;
  floor = omega arith;
  last = λ o. true-false (sym o);
}

module _ (seen : Seen) (gs : List Setting) (ok : Sound seen gs) (l : LaneField) (m : misplaced seen (Lane l) ≡ false) (o : Inside (Lane l)) (w : over seen (Lane l) ≡ None) where
  abbrev v : ℕ
  v = seen.format

  abbrev h : ℕ
  h = seen.framing

  low : l.lane ≤ 63
  low = lane-number l o

  lane_inside : l.lane < length gs
  lane_inside = omega (arith, low, ok.size)

  free : setting_at gs l.lane ≡ no_setting
  free = ok.above l.lane (is-rising seen l m)

  -- a figure of the settings grows by the lane's own
  grown : (f : Setting → ℕ) → f no_setting ≡ 0 → sum f (set gs l.lane (given v h l)) ≡ sum f gs + f (given v h l)
  grown f z = omega (arith, sum-set f gs l.lane (given v h l) no_setting lane_inside, ap f free, z)

  one : there (given v h l) ≡ 1
  one = rw (lt-ltb 0 l.weight (in-numbers l o v h).weight_low)

  lane-kept : Sound (seen_after seen (Lane l)) (placed v h gs (Lane l))
  lane-kept = record {
    size = length-set gs l.lane (given v h l) ∙ ok.size;
    each = λ k. set_cases (λ (g : Setting). InNumbers g ⊎ (g ≡ no_setting)) gs l.lane k (given v h l) no_setting lane_inside (λ e. inl (in-numbers l o v h)) (λ e. ok.each k);
    framed = λ k. set_cases (λ (g : Setting). 0 < g.weight → g.framing ≡ seen.framing) gs l.lane k (given v h l) no_setting lane_inside (λ e w. refl) (λ e. ok.framed k);
    most = λ k. set_cases (λ (g : Setting). g.framing ≤ seen.framing) gs l.lane k (given v h l) no_setting lane_inside (λ e. omega arith) (λ e. ok.most k);
    bytes = ok.bytes;
    none_yet = λ o. true-false (sym o);
    begin = λ o. true-false o;
    above = λ k b. set_cases (λ (g : Setting). g ≡ no_setting) gs l.lane k (given v h l) no_setting lane_inside (λ e. absurd (omega (arith, e, b))) (λ e. ok.above k (omega (arith, is-rising seen l m, b)));
    sum_is = omega (arith, grown (λ (g : Setting). g.weight) refl, ok.sum_is);
    there_are = omega (arith, grown there refl, ok.there_are, one);
    total = is-under seen l w;
    few = omega (arith, ok.few, (in-numbers l o v h).weight_low);
    count = omega (arith, ok.count, is-rising seen l m);
    floor = omega (arith, low);
    last = λ e k q.
        let is : l.lane ≡ k = omega arith in
        subst (λ (i : ℕ). InNumbers (setting_at (set gs l.lane (given v h l)) i)) is
        (subst InNumbers (sym (get_or-set_same gs l.lane (given v h l) no_setting lane_inside)) (in-numbers l o v h));
  }

module _ (seen : Seen) (gs : List Setting) (ok : Sound seen gs) (k : ℕ) (m : misplaced seen (Shared k) ≡ false) where
  abbrev was : Setting
  was = setting_at gs k

  numbers : InNumbers was
  numbers = ok.last (is-laned seen k m) k (is_last seen k m)

  numbers-shared : InNumbers (as_shared was)
  numbers-shared = record { weight_low = numbers.weight_low; weight_high = numbers.weight_high; longest_low = numbers.longest_low; longest_high = numbers.longest_high }

  shared-inside : k < length gs
  shared-inside = omega (arith, is_last seen k m, ok.floor, ok.size)

  -- a figure that does not ask whether a lane is shared stays
  stays : (f : Setting → ℕ) → f (as_shared was) ≡ f was → sum f (set gs k (as_shared was)) ≡ sum f gs
  stays f e = omega (arith, sum-set f gs k (as_shared was) no_setting shared-inside, e)

  shared_kept : Sound (seen_after seen (Shared k)) (placed seen.format seen.framing gs (Shared k))
  shared_kept = record {
    size = length-set gs k (as_shared was) ∙ ok.size;
    each = λ i. set_cases (λ (g : Setting). InNumbers g ⊎ (g ≡ no_setting)) gs k i (as_shared was) no_setting shared-inside (λ e. inl numbers-shared) (λ e. ok.each i);
    framed = λ i. set_cases (λ (g : Setting). 0 < g.weight → g.framing ≡ seen.framing) gs k i (as_shared was) no_setting shared-inside (λ e b. ok.framed k b) (λ e. ok.framed i);
    most = λ i. set_cases (λ (g : Setting). g.framing ≤ seen.framing) gs k i (as_shared was) no_setting shared-inside (λ e. ok.most k) (λ e. ok.most i);
    bytes = ok.bytes;
    none_yet = λ e. true-false (sym e);
    begin = λ e. true-false e;
    above = λ i b. set_cases (λ (g : Setting). g ≡ no_setting) gs k i (as_shared was) no_setting shared-inside (λ e. absurd (omega (arith, is_last seen k m, e, b))) (λ e. ok.above i b);
    sum_is = stays (λ (g : Setting). g.weight) refl ∙ ok.sum_is;
    there_are = stays there refl ∙ ok.there_are;
    total = ok.total;
    few = ok.few;
    count = ok.count;
    floor = ok.floor;
    last = λ e. true-false (sym e);
  }

pub sound-after : (seen : Seen) (gs : List Setting) (f : SetupField) → Sound seen gs → misplaced seen f ≡ false → Inside f → over seen f ≡ None
    → Sound (seen_after seen f) (placed seen.format seen.framing gs f)
sound-after seen gs (Format v) ok m o w = record {
  size = ok.size;
  each = ok.each;
  framed = ok.framed;
  most = ok.most;
  bytes = ok.bytes;
  none_yet = λ e. ok.begin m;
  begin = λ e. true-false e;
  above = ok.above;
  sum_is = ok.sum_is;
  there_are = ok.there_are;
  total = ok.total;
  few = ok.few;
  count = ok.count;
  floor = ok.floor;
  last = λ e. true-false (sym e);
}
sound-after seen gs (Lane l) ok m o w = lane-kept seen gs ok l m o w
sound-after seen gs (Framing v) ok m o w =
    let none : (k : ℕ) → setting_at gs k ≡ no_setting = λ k. ok.above k (omega (arith, ok.none_yet (not-false seen.opening m))) in
    record {
      size = ok.size;
      each = ok.each;
      framed = λ k b. absurd (omega (arith, ap (λ (g : Setting). g.weight) (none k)));
      most = λ k. omega (arith, ap (λ (g : Setting). g.framing) (none k));
      bytes = framing-small v o;
      none_yet = λ e. true-false (sym e);
      above = ok.above;
      sum_is = ok.sum_is;
      there_are = ok.there_are;
      total = ok.total;
      few = ok.few;
      count = ok.count;
      floor = ok.floor;
      begin = λ e. true-false e;
      last = λ e. true-false (sym e);
    }
sound-after seen gs (Shared k) ok m o w = shared_kept seen gs ok k m
sound-after seen gs End ok m o w = ok

-- a lane that 0x12 names in its place is one of the 64
pub numbered : (seen : Seen) (gs : List Setting) → Sound seen gs → (f : SetupField) → misplaced seen f ≡ false → Numbered f
numbered seen gs ok (Format v) m = tt
numbered seen gs ok (Lane l) m = tt
numbered seen gs ok (Framing h) m = tt
numbered seen gs ok (Shared k) m = omega (arith, is_last seen k m, ok.floor)
numbered seen gs ok End m = tt
