-- A jump of the clock to the least R, a put on an idle lane and a put on a holding lane keep the invariant. Assumes nothing.
use Prim.Native.Nat.{ℕ, ◌+◌, ◌-◌, ◌*◌, ◌≤◌, ◌<◌, max}
use native.Mathlib.Omega.{arith}
use native.Mathlib.Nat.{le_of_eq, sub_self}
use mathlib.Core.Path.{◌≡◌, refl, sym, subst, ap, ◌∙◌}
use mathlib.Core.Bool.{Bool, true, false, not, ◌&&◌, false≢true}
use mathlib.Core.Logic.{◌⊎◌, inl, inr}
use mathlib.Core.List.{List}
use mathlib.Core.Option.{Option, none, some}
use lib.Dec.{T, leb}
use lib.ListN.{get_or, set}
use borrow.Author.Tests.{leb-true, le-leb}
use Rattle.std.specs.Prelude.{if◌then◌else◌}
use Rattle.units.specs.Plain.{sum}
use Rattle.waiting.specs.Waiting.{GoodWaiting}
use Rattle.waiting.proofs.Laws.{Enters, first-enter, first-stays, good-enter}
use Rattle.rules.specs.State.{Lane, Rec, slot, finish_r, first_of, holds, some?, no_lane}
use Rattle.rules.specs.Calls.{woken, appended}
use Rattle.units.proofs.Round.{lt-round-slot}
use Rattle.units.proofs.Bools.{if-ind}
use Rattle.units.proofs.Lists.{sum-set}
use Rattle.rules.proofs.Lists.{set_all, any-or-none}
use Rattle.rules.proofs.Lane.{slot-pos}
use Rattle.rules.proofs.Claim.{from, from-ge, from-held, claim, spread, weight_of, LaneOk, Inv, in-range, same-weights}

-- ---- a put on an idle lane

pub idle-first : (o : Option Rec) → some? o ≡ false → o ≡ none
idle-first none e = refl
idle-first (some r) e = absurd (false≢true (sym e))

pub busy-first : (o : Option Rec) → some? o ≡ true → (r : Rec) × (o ≡ some r)
busy-first none e = absurd (false≢true e)
busy-first (some r) e = (r, refl)

-- a lane that cannot be idle holds a record
pub not-idle : (l : Lane) → (first_of l ≡ none → ⊥) → holds l ≡ true
not-idle l h = go (first_of l) refl
  where
    go : (o : Option Rec) → first_of l ≡ o → holds l ≡ true
    go none e = absurd (h e)
    go (some r) e = ap some? e

-- what waits in a lane is good, and the record may enter
abbrev pub Sound : Lane → Type 0
Sound l = GoodWaiting l.given.longest l.waiting

abbrev pub MayEnter : Lane → Rec → Type 0
MayEnter l r = Enters l.given.longest l.waiting r

pub woken-first : (v : ℕ) (l : Lane) (r : Rec) → Sound l → MayEnter l r → holds l ≡ false → first_of (woken v l r) ≡ some r
unfolding woken
woken-first v l r g a e = first-enter l.given.longest l.waiting r g a (idle-first (first_of l) e)

pub woken-holds : (v : ℕ) (l : Lane) (r : Rec) → Sound l → MayEnter l r → holds l ≡ false → holds (woken v l r) ≡ true
woken-holds v l r g a e = ap some? (woken-first v l r g a e)

-- the woken lane claims no more than it did when idle
woken-claim : (v D : ℕ) (l : Lane) (r : Rec) → Sound l → MayEnter l r → holds l ≡ false → claim v D (woken v l r) ≤ claim v D l
unfolding woken from
woken-claim v D l r g a e =
    subst (λ (x : ℕ). weight_of l * (D - x) ≤ claim v D l) (sym (from-held v D (woken v l r) (woken-holds v l r g a e)))
    (if-ind (λ (x : ℕ). weight_of l * (D - x) ≤ claim v D l) (leb (finish_r (woken v l r)) D) _ _
    (λ q. le_of_eq (ap (λ (x : ℕ). weight_of l * (D - x)) (sym (idle-from))))
    (λ q. omega (arith, ap (λ (x : ℕ). weight_of l * x) (sub_self D))))
  where
    idle-from : from v D l ≡ max l.finish v
    idle-from = simp e

module _ (M v : ℕ) (ls : List Lane) (inv : Inv M v ls) (j : ℕ) (r : Rec)
    (idle : holds (get_or ls j no_lane) ≡ false)
    (has : 0 < weight_of (get_or ls j no_lane))
    (enters : MayEnter (get_or ls j no_lane) r)
  where
    abbrev wl : Lane
    wl = get_or ls j no_lane

    abbrev wls : List Lane
    wls = set ls j (woken v wl r)

    woken-weights : sum weight_of wls ≤ 1024
    unfolding woken
    woken-weights = omega (arith, inv.weights, same-weights ls j (woken v wl r) (in-range ls j has) refl)

    woken-ok : LaneOk M v (woken v wl r)
    unfolding woken
    woken-ok = record {
      queued = rw (woken-first v wl r (inv.ok j).waiting enters idle) (has, refl, enters.fits);
      waiting = good-enter wl.given.longest wl.waiting r (inv.ok j).waiting enters;
      below = rw (woken-first v wl r (inv.ok j).waiting enters idle) (omega (arith, slot-pos wl.given, subst (λ (b : Bool). (if b then wl.start else wl.finish) < v + 2 * slot wl.given) idle (inv.ok j).below));
      short = (inv.ok j).short;
    }

    abbrev is_due : ℕ → Lane → Bool
    is_due D m = holds m && leb (finish_r m) D

    both_true : (a b : Bool) → T (a && b) → (a ≡ true) × (b ≡ true)
    both_true true true t = (refl, refl)
    both_true false b t = elim t [ ]
    both_true true false t = elim t [ ]

    not-both : (a b : Bool) → T (not (a && b)) → a ≡ true → b ≡ true → ⊥
    not-both true true t p q = t
    not-both true false t p q = false≢true q
    not-both false b t p q = false≢true p

    abbrev Never : ℕ → Type 0
    Never D = (i : ℕ) → holds (get_or ls i no_lane) ≡ true → finish_r (get_or ls i no_lane) ≤ D → ⊥

    -- only the woken lane is due by D: so D is not before v, and no lane starts before v
    reaches : (D : ℕ) → Never D → (k : ℕ) → holds (get_or wls k no_lane) ≡ true → finish_r (get_or wls k no_lane) ≤ D → v ≤ D
    unfolding woken
    reaches D never =
        set_all (λ (m : Lane). holds m ≡ true → finish_r m ≤ D → v ≤ D) ls j (woken v wl r) no_lane
        (λ e h. omega (arith, lt-round-slot (slot wl.given) (max wl.finish v) (slot-pos wl.given)))
        (λ i e h. absurd (never i e h))

    starts : (D : ℕ) → Never D → v ≤ D → (k : ℕ) → v ≤ from v D (get_or wls k no_lane)
    unfolding woken
    starts D never p =
        set_all (λ (m : Lane). v ≤ from v D m) ls j (woken v wl r) no_lane
        (from-ge v D v (woken v wl r) (λ e h. omega arith) p (λ e. omega arith))
        (λ i. from-ge v D v (get_or ls i no_lane) (λ e h. absurd (never i e h)) p (λ e. omega arith))

    woken-due : (D k : ℕ) → holds (get_or wls k no_lane) ≡ true → finish_r (get_or wls k no_lane) ≤ D → 1024 * v + sum (claim v D) wls ≤ 1024 * (D + M)
    woken-due D k e h = go (any-or-none (is_due D) ls no_lane tt)
      where
        go : ((i : ℕ) × T (is_due D (get_or ls i no_lane))) ⊎ ((i : ℕ) → T (not (is_due D (get_or ls i no_lane)))) → 1024 * v + sum (claim v D) wls ≤ 1024 * (D + M)
        go (inl (i, t)) =
            let b = both_true (holds (get_or ls i no_lane)) (leb (finish_r (get_or ls i no_lane)) D) t in
            omega (
              arith,
              inv.due D i b.0 (leb-true (finish_r (get_or ls i no_lane)) D b.1),
              sum-set (claim v D) ls j (woken v wl r) no_lane (in-range ls j has),
              woken-claim v D wl r (inv.ok j).waiting enters idle,
            )
        go (inr f) =
            let never : Never D = λ i p q. not-both (holds (get_or ls i no_lane)) (leb (finish_r (get_or ls i no_lane)) D) (f i) p (le-leb (finish_r (get_or ls i no_lane)) D q) in
            let p : v ≤ D = reaches D never k e h in
            omega (arith, spread v D v wls woken-weights (starts D never p))

    pub wake : Inv M v wls
    wake = record {
      weights = woken-weights;
      ok = set_all (LaneOk M v) ls j (woken v wl r) no_lane woken-ok inv.ok;
      due = woken-due;
    }

-- ---- a put on a holding lane

pub appended-first : (l : Lane) (r : Rec) → Sound l → MayEnter l r → holds l ≡ true → first_of (appended l r) ≡ first_of l
unfolding appended
appended-first l r g a e =
    let x = busy-first (first_of l) e in first-stays l.given.longest l.waiting r x.0 g a x.1 ∙ sym x.1

pub appended-holds : (l : Lane) (r : Rec) → Sound l → MayEnter l r → holds l ≡ true → holds (appended l r) ≡ true
appended-holds l r g a e = ap some? (appended-first l r g a e) ∙ e

appended-from : (v D : ℕ) (l : Lane) (r : Rec) → Sound l → MayEnter l r → holds l ≡ true → from v D (appended l r) ≡ from v D l
unfolding from appended
appended-from v D l r g a e = simp (e, appended-holds l r g a e)

module _ (M v : ℕ) (ls : List Lane) (inv : Inv M v ls) (j : ℕ) (r : Rec)
    (busy : holds (get_or ls j no_lane) ≡ true)
    (has : 0 < weight_of (get_or ls j no_lane))
    (enters : MayEnter (get_or ls j no_lane) r)
  where
    abbrev al : Lane
    al = get_or ls j no_lane

    abbrev als : List Lane
    als = set ls j (appended al r)

    appended-ok : LaneOk M v (appended al r)
    unfolding appended
    appended-ok = record {
      queued = rw (appended-first al r (inv.ok j).waiting enters busy) (inv.ok j).queued;
      waiting = good-enter al.given.longest al.waiting r (inv.ok j).waiting enters;
      below = rw (appended-holds al r (inv.ok j).waiting enters busy) (subst (λ (b : Bool). (if b then al.start else al.finish) < v + 2 * slot al.given) busy (inv.ok j).below);
      short = (inv.ok j).short;
    }

    same-claims : (D : ℕ) → sum (claim v D) als ≡ sum (claim v D) ls
    unfolding appended
    same-claims D = omega (arith, sum-set (claim v D) ls j (appended al r) no_lane (in-range ls j has), ap (λ (x : ℕ). weight_of al * (D - x)) (appended-from v D al r (inv.ok j).waiting enters busy))

    pub append : Inv M v als
    unfolding appended
    append = record {
      weights = omega (arith, inv.weights, same-weights ls j (appended al r) (in-range ls j has) refl);
      ok = set_all (LaneOk M v) ls j (appended al r) no_lane appended-ok inv.ok;
      due = λ D. set_all (λ (m : Lane). holds m ≡ true → finish_r m ≤ D → 1024 * v + sum (claim v D) als ≤ 1024 * (D + M)) ls j (appended al r) no_lane
          (λ e h. omega (arith, same-claims D, inv.due D j busy h))
          (λ k e h. omega (arith, same-claims D, inv.due D k e h));
    }
