-- A take keeps the lists and the starts in agreement with the rules' own state after it. Assumes nothing.
use Prim.Native.Nat.{ℕ, ◌+◌, ◌*◌, ◌/◌, ◌%◌, ◌^◌, ◌≤◌, ◌<◌}
use native.Mathlib.Nat.{le_trans, div-mul-le_self, le-div_iff_mul-le, div-lt_iff_lt-mul}
use native.Mathlib.Omega.{arith}
use mathlib.Core.Path.{◌≡◌, refl, sym, ap, subst, ◌∙◌}
use mathlib.Core.Bool.{Bool, true, false, false≢true}
use mathlib.Core.List.{List, [], ◌∷◌, ◌++◌, append-nil}
use mathlib.Core.Option.{Option, none, some}
use lib.ListN.{length, set, drop, length-set}
use lib.Seq.{set-set}
use Rattle.std.specs.Prelude.{if◌then◌else◌}
use Rattle.units.specs.Plain.{without}
use Rattle.units.proofs.Round.{lt-round-slot, round-div}
use Rattle.units.proofs.Lists.{set_cases, same_or}
use Rattle.waiting.proofs.Laws.{first_fits}
use Rattle.rules.specs.State.{Rec, Lane, State, no_lane, group, slot, some?, first_of, holds, lane_at}
use Rattle.rules.specs.Calls.{served, serve}
use Rattle.rules.specs.Sets.{in_group, group_start}
use Rattle.rules.specs.Good.{Times, Good}
use Rattle.rules.proofs.Lane.{charge-slot, slot-pos}
use Rattle.rules.proofs.Serve.{served-ind}
use Rattle.rules.proofs.Queues.{held-inside, served-given}
use Rattle.rules.proofs.GroupRule.{in_group_lem, is-in-group}
use Rattle.rules.proofs.Ties.{times-same}
use Rattle.filing.specs.Filing.{sift, front_of, Whole, slot_at, in_list, Lists, Filing, Agrees, Window}
use Rattle.filing.proofs.Moves.{Stands, stands, is-standing, Changed, insert-filed, remove-filed}
use Rattle.filing.proofs.Slots.{window}
use Rattle.filing.proofs.Starts.{Named, NextList, next_start, no_start, start-other}
use Rattle.filing.proofs.KeepsPut.{other-out}

head_first : (l : List ℕ) (k : ℕ) → front_of l ≡ some k → l ≡ k ∷ drop 1 l
head_first [] k e = let z : ◌≡◌ {A = ℕ} 0 1 = cc in absurd (omega arith)
head_first (x ∷ xs) k e = let q : x ≡ k = cc in ap (λ (y : ℕ). y ∷ xs) q

head_in : (p : ℕ → Bool) (xs : List ℕ) (k : ℕ) → front_of (sift p xs) ≡ some k → p k ≡ true
unfolding sift
head_in p [] k e = let z : ◌≡◌ {A = ℕ} 0 1 = cc in absurd (omega arith)
head_in p (x ∷ xs) k e = go (p x) refl e (head_in p xs k)
  where
    go : (b : Bool) → p x ≡ b → front_of (if b then x ∷ sift p xs else sift p xs) ≡ some k → (front_of (sift p xs) ≡ some k → p k ≡ true) → p k ≡ true
    go true q e r = let same : x ≡ k = cc in subst (λ (y : ℕ). p y ≡ true) same q
    go false q e r = r e

-- a time at most one slot later lies in the same slot or in the next one
next-slot : (z x y : ℕ) → 0 < z → x ≤ y → y ≤ x + z → (x / z ≤ y / z) × (y / z ≤ x / z + 1)
next-slot z x y pos a b = (
  (le-div_iff_mul-le {k = z} {x = x / z} {y = y} pos).1 (le_trans (div-mul-le_self x z) a),
  slack ((div-lt_iff_lt-mul {k = z} {x = y} {y = x / z + 2} pos).1 (omega (arith, lt-round-slot z x pos, round-div z x))),
)
  where
    slack : y / z < x / z + 2 → y / z ≤ x / z + 1
    slack h = omega arith

module _ (B : ℕ) (w : Whole B) (s : State) (good : Good s) (lists : Lists) (starts : ℕ → Option ℕ) (ag : Agrees B lists starts s)
    (k g r : ℕ) (lo : 16 ≤ g) (hi : g ≤ 31) (start : starts g ≡ some r) (first : front_of (lists g ((r + B) / 2 ^ g % 32)) ≡ some k) (x : Rec) (is_first : first_of (lane_at s k) ≡ some x) where
  abbrev from-slot : ℕ
  from-slot = (r + B) / 2 ^ g

  abbrev from_list : ℕ
  from_list = from-slot % 32

  abbrev old : Lane
  old = lane_at s k

  abbrev new : Lane
  new = served old

  group-start : group_start s.lanes g ≡ some r
  group-start = sym (ag.started g lo hi) ∙ start

  old-window : Window B s g from-slot
  old-window = (window s good B g r w group-start).0

  -- the start's slot is whole
  start-whole : r + B ≡ from-slot * 2 ^ g
  start-whole = (window s good B g r w group-start).1

  pub old-in : in_list B g from_list old ≡ true
  old-in = head_in (λ j. in_list B g from_list (lane_at s j)) s.order k (ap front_of (sym (ag.filed g from_list lo hi (omega arith))) ∙ first)

  old-stands : Stands B g from_list old
  old-stands = stands B g from_list old old-in

  old-group : in_group g old ≡ true
  old-group = subst (λ (i : ℕ). in_group i old ≡ true) old-stands.grp (is-in-group old old-stands.held)

  -- it stands in the start's own slot
  old-slot : slot_at B old ≡ from-slot
  old-slot = omega (arith, old-stands.at, old-window.from k old-group, old-window.to k old-group)

  inside : k < length s.lanes
  inside = held-inside s.lanes k x is_first

  new-group : group new.given ≡ g
  new-group = ap group (served-given old) ∙ old-stands.grp

  -- the slot of F
  abbrev to-slot : ℕ
  to-slot = (old.finish + B) / slot old.given

  -- F is at most one slot after S
  finish-near : (slot_at B old ≤ to-slot) × (to-slot ≤ slot_at B old + 1)
  finish-near =
      let t : Times s.clock old (some x) = subst (Times s.clock old) is_first (good.numbers k) in
      let fits = first_fits old.given.longest old.waiting x (good.waiting k) is_first in
      next-slot (slot old.given) (old.start + B) (old.finish + B) (slot-pos old.given) (omega (arith, t.0)) (omega (arith, t.0, charge-slot old.given x.len fits.1))

  new-slot : holds new ≡ true → slot_at B new ≡ to-slot
  new-slot =
      served-ind (λ (m : Lane). holds m ≡ true → slot_at B m ≡ to-slot) old
      (λ e t. absurd (false≢true (sym (ap some? e) ∙ t)))
      (λ r e t. refl)

  -- the state after the lane left, before it came back
  abbrev away : State
  away = record { clock = s.clock; lanes = set s.lanes k no_lane; order = without k s.order }

  abbrev after : State
  after = serve s k x

  after-lanes : after.lanes ≡ set s.lanes k new
  unfolding serve
  after-lanes = refl

  after-order : after.order ≡ without k s.order ++ (if holds new then k ∷ [] else [])
  unfolding serve
  after-order = refl

  away-filed : (lists₁ : Lists) → Changed lists lists₁ g from_list (drop 1 (lists g from_list)) → Filing B lists₁ away
  away-filed lists₁ ch =
      remove-filed B s away lists lists₁ k g from_list no_lane (drop 1 (lists g from_list)) ag.filed inside (good.order k ∙ simp old-stands.held) old-in (head_first (lists g from_list) k first) refl refl ch lo hi (omega arith)

  -- it holds no more
  pub last-filed : (lists₁ : Lists) → holds new ≡ false → Changed lists lists₁ g from_list (drop 1 (lists g from_list)) → Filing B lists₁ after
  last-filed lists₁ e ch =
      remove-filed B s after lists lists₁ k g from_list new (drop 1 (lists g from_list)) ag.filed inside (good.order k ∙ simp old-stands.held) old-in (head_first (lists g from_list) k first) after-lanes (after-order ∙ simp (e, append-nil)) ch lo hi (omega arith)

  -- it holds more: it goes to the end of the list of F
  pub again-filed : (lists₁ lists' : Lists) → holds new ≡ true → Changed lists lists₁ g from_list (drop 1 (lists g from_list))
      → Changed lists₁ lists' g ((old.finish + B) / 2 ^ g % 32) (lists₁ g ((old.finish + B) / 2 ^ g % 32) ++ (k ∷ [])) → Filing B lists' after
  unfolding slot
  again-filed lists₁ lists' e ch ch' =
      let b = (old.finish + B) / 2 ^ g % 32 in
      let at : slot_at B new % 32 ≡ b = ap (λ (y : ℕ). y % 32) (new-slot e ∙ ap (λ (i : ℕ). (old.finish + B) / 2 ^ i) old-stands.grp) in
      let is : in_list B g b new ≡ true = is-standing B g b new (record { held = e; grp = new-group; at = at }) in
      insert-filed B away after lists₁ lists' k g b new (away-filed lists₁ ch) (rw length-set inside) (times-same k s.order) is
      (after-lanes ∙ sym (set-set s.lanes k no_lane new)) (after-order ∙ simp e) ch' lo hi (omega arith)

  -- ---- the starts

  pub after-window : Window B after g from-slot
  after-window = record { from = λ j h. (both j h).0; to = λ j h. (both j h).1 }
    where
      fine : in_group g new ≡ true → (from-slot ≤ slot_at B new) × (slot_at B new < from-slot + 32)
      fine h =
          let e = new-slot (in_group_lem g new h).0 in
          (omega (arith, e, finish-near.0, old-slot), omega (arith, e, finish-near.1, old-slot))

      both : (j : ℕ) → in_group g (lane_at after j) ≡ true → (from-slot ≤ slot_at B (lane_at after j)) × (slot_at B (lane_at after j) < from-slot + 32)
      both j =
          rw after-lanes
          (set_cases (λ (m : Lane). in_group g m ≡ true → (from-slot ≤ slot_at B m) × (slot_at B m < from-slot + 32)) s.lanes k j new no_lane inside
          (λ e h. fine h)
          (λ ne h. (old-window.from j h, old-window.to j h)))

  after-other : (i : ℕ) → (i ≡ g → ⊥) → group_start after.lanes i ≡ group_start s.lanes i
  after-other i ne =
      ap (λ (ls : List Lane). group_start ls i) after-lanes
      ∙ start-other s.lanes k i new inside (other-out i old (λ e. ne (e ∙ old-stands.grp))) (other-out i new (λ e. ne (e ∙ new-group)))

  module _ (lists' : Lists) (starts' : ℕ → Option ℕ) (filed : Filing B lists' after) (named : Named after)
      (others : (i : ℕ) → 16 ≤ i → i ≤ 31 → (i ≡ g → ⊥) → starts' i ≡ starts i) where
    agrees-with : starts' g ≡ group_start after.lanes g → Agrees B lists' starts' after
    agrees-with here =
        record {
          filed = filed;
          started = λ i y z.
              same_or {P = starts' i ≡ group_start after.lanes i} i g
              (λ e. subst (λ (i : ℕ). starts' i ≡ group_start after.lanes i) (sym e) here)
              (λ ne. others i y z ne ∙ ag.started i y z ∙ sym (after-other i ne));
        }

    -- the group still has lanes: its start is the next list that has
    pub serve-agrees : (d : ℕ) → NextList lists' g from-slot d → starts' g ≡ some (r + d * 2 ^ g) → Agrees B lists' starts' after
    serve-agrees d n e = agrees-with (e ∙ sym (next_start B w after lists' g filed named lo hi r from-slot d start-whole after-window n))

    -- or it has none
    pub serve-agrees-none : ((b : ℕ) → b < 32 → lists' g b ≡ []) → starts' g ≡ none → Agrees B lists' starts' after
    serve-agrees-none n e = agrees-with (e ∙ sym (no_start B w after lists' g filed named lo hi n))
