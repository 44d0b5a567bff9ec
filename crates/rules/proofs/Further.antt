-- A clock d further on: no test, no choice and no set sees it, if each holding lane's R is d further on too. Assumes nothing.
use Prim.Native.Nat.{ℕ, suc, ◌+◌, ◌-◌, ◌*◌, ◌/◌, ◌^◌, ◌≤◌}
use native.Mathlib.Omega.{arith}
use native.Mathlib.Nat.{le_dest, add-mul, add-mul-div_right}
use mathlib.Core.Path.{◌≡◌, refl, sym, ap, ◌∙◌}
use mathlib.Core.Bool.{Bool, true, false, ◌&&◌}
use mathlib.Core.List.{List, [], ◌∷◌, map}
use mathlib.Core.Option.{Option, none, some}
use lib.Dec.{leb, ltb, eqb}
use lib.IntN.{sub_ℕ}
use lib.ListN.{length, get_or}
use lib.Pow.{pow-add, pow_pos}
use borrow.Author.Tests.{leb-true, leb-false, le-leb, lt-leb, ltb-true, ltb-false, lt-ltb, le-ltb, eqb-true, eqb-false, eq-eqb, ne_eqb}
use Rattle.units.specs.Numbers.{round_down}
use Rattle.std.specs.Prelude.{if◌then◌else◌}
use Rattle.units.specs.Plain.{place}
use Rattle.units.proofs.Round.{round-div}
use Rattle.waiting.specs.Waiting.{Waiting, first}
use Rattle.rules.specs.State.{clock_step, Setting, Lane, no_lane, group, slot, start_r, finish_r, some?, holds, eligible, any_holds}
use Rattle.rules.specs.Choice.{Candidate, before, best, choose_from, least, least_of}
use Rattle.rules.specs.Calls.{settled_at, settled}

-- ---- numbers

-- a multiple of 2 ^ 31 goes through the rounding of every slot
pub round-further : (i x n : ℕ) → i ≤ 31 → round_down (2 ^ i) (x + n * clock_step) ≡ round_down (2 ^ i) x + n * clock_step
round-further i x n h =
    let e = le_dest h in
    let q : ℕ = n * 2 ^ e.0 in
    let whole : n * clock_step ≡ q * 2 ^ i = omega (arith, ap (λ (m : ℕ). n * 2 ^ m) (sym e.1), ap (λ (m : ℕ). n * m) (pow-add 2 i e.0)) in
    rw (whole, round-div, round-div (2 ^ i) x, add-mul-div_right x q (pow_pos i)) (add-mul (x / 2 ^ i) q (2 ^ i))

pub leb-further : (a b d : ℕ) → leb (a + d) (b + d) ≡ leb a b
leb-further a b d = go (leb a b) refl
  where
    go : (x : Bool) → leb a b ≡ x → leb (a + d) (b + d) ≡ x
    go true e = le-leb (a + d) (b + d) (omega (arith, leb-true a b e))
    go false e = lt-leb (a + d) (b + d) (omega (arith, leb-false a b e))

pub ltb-further : (a b d : ℕ) → ltb (a + d) (b + d) ≡ ltb a b
ltb-further a b d = go (ltb a b) refl
  where
    go : (x : Bool) → ltb a b ≡ x → ltb (a + d) (b + d) ≡ x
    go true e = lt-ltb (a + d) (b + d) (omega (arith, ltb-true a b e))
    go false e = le-ltb (a + d) (b + d) (omega (arith, ltb-false a b e))

eqb-further : (a b d : ℕ) → eqb (a + d) (b + d) ≡ eqb a b
eqb-further a b d = go (eqb a b) refl
  where
    go : (x : Bool) → eqb a b ≡ x → eqb (a + d) (b + d) ≡ x
    go true e = eq-eqb (a + d) (b + d) (omega (arith, eqb-true a b e))
    go false e = ne_eqb (a + d) (b + d) (λ q. eqb-false a b e (omega arith))

pub sub-further : (a b d : ℕ) → sub_ℕ (a + d) (b + d) ≡ sub_ℕ a b
sub-further a b d =
    let under : b + d - suc (a + d) ≡ b - suc a = omega arith in
    let over : a + d - (b + d) ≡ a - b = omega arith in
    rw (ltb-further, under, over)

-- ---- what a lane shows of itself

pub record Sees (d : ℕ) (l m : Lane) : Type 0 where
  pub given : m.given ≡ l.given
  pub waiting : m.waiting ≡ l.waiting
  pub start : holds l ≡ true → start_r m ≡ start_r l + d

pub holds_same : (d : ℕ) (l m : Lane) → Sees d l m → holds m ≡ holds l
holds_same d l m h = ap (λ (w : Waiting). some? (first w)) h.waiting

pub eligible-same : (d v : ℕ) (l m : Lane) → Sees d l m → eligible (v + d) m ≡ eligible v l
unfolding eligible
eligible-same d v l m h = go (holds l) refl
  where
    go : (b : Bool) → holds l ≡ b → (holds m && leb (start_r m) (v + d)) ≡ (holds l && leb (start_r l) v)
    go true e = rw (holds_same d l m h, e, h.start e) (leb-further (start_r l) v d)
    go false e = rw (holds_same d l m h, e)

finish-same : (d : ℕ) (l m : Lane) → Sees d l m → holds l ≡ true → finish_r m ≡ finish_r l + d
finish-same d l m h e = omega (arith, h.start e, ap slot h.given)

abbrev pub mapped : {A B : Type 0} → (A → B) → Option A → Option B
mapped f none = none
mapped f (some x) = some (f x)

abbrev pub ByPlace : ℕ → List Lane → List Lane → Type 0
ByPlace d ls ms = (k : ℕ) → Sees d (get_or ls k no_lane) (get_or ms k no_lane)

pub any_same : (d : ℕ) (ls ms : List Lane) → length ms ≡ length ls → ByPlace d ls ms → any_holds ms ≡ any_holds ls
unfolding any_holds
any_same d [] [] z h = refl
any_same d [] (m ∷ ms) z h = absurd (omega arith)
any_same d (l ∷ ls) [] z h = absurd (omega arith)
any_same d (l ∷ ls) (m ∷ ms) z h = rw (holds_same d l m (h 0), any_same d ls ms (omega arith) (λ k. h (suc k)))

pub setup-same : (d : ℕ) (ls ms : List Lane) → length ms ≡ length ls → ByPlace d ls ms → map (λ (l : Lane). l.given) ms ≡ map (λ (l : Lane). l.given) ls
setup-same d [] [] z h = refl
setup-same d [] (m ∷ ms) z h = absurd (omega arith)
setup-same d (l ∷ ls) [] z h = absurd (omega arith)
setup-same d (l ∷ ls) (m ∷ ms) z h = let r = setup-same d ls ms (omega arith) (λ k. h (suc k)) in rw ((h 0).given, r)

-- ---- the choice

abbrev pub further : ℕ → Candidate → Candidate
further d c = record { lane = c.lane; finish = c.finish + d; group = c.group; turn = c.turn }

before-further : (d : ℕ) (a b : Candidate) → before (further d a) (further d b) ≡ before a b
unfolding before
before-further d a b = rw (ltb-further a.finish b.finish d, eqb-further a.finish b.finish d)

best-further : (d : ℕ) (a : Candidate) (o : Option Candidate) → best (further d a) (mapped (further d) o) ≡ mapped (further d) (best a o)
unfolding best
best-further d a none = refl
best-further d a (some b) = rw (before-further d b a) (push (before b a))
  where
    push : (x : Bool) → some (if x then further d b else further d a) ≡ mapped (further d) (some (if x then b else a))
    push true = refl
    push false = refl

module _ (d v : ℕ) (order : List ℕ) where
  abbrev cand : ℕ → Lane → Candidate
  cand j l = record { lane = j; finish = finish_r l; group = group l.given; turn = place j order }

  cand-further : (j : ℕ) (l m : Lane) → Sees d l m → holds l ≡ true → cand j m ≡ further d (cand j l)
  cand-further j l m h e =
      ap (λ (x : ℕ). record { lane = j; finish = x; group = group m.given; turn = place j order }) (finish-same d l m h e)
      ∙ ap (λ (g : Setting). record { lane = j; finish = finish_r l + d; group = group g; turn = place j order }) h.given

  eligible-holds : (l : Lane) → eligible v l ≡ true → holds l ≡ true
  unfolding eligible
  eligible-holds l e = go (holds l) e
    where
      go : (b : Bool) → (b && leb (start_r l) v) ≡ true → b ≡ true
      go true q = refl
      go false q = q

  pub choose-further : (j : ℕ) (ls ms : List Lane) → length ms ≡ length ls → ByPlace d ls ms → choose_from (v + d) order j ms ≡ mapped (further d) (choose_from v order j ls)
  unfolding choose_from
  choose-further j [] [] z h = refl
  choose-further j [] (m ∷ ms) z h = absurd (omega arith)
  choose-further j (l ∷ ls) [] z h = absurd (omega arith)
  choose-further j (l ∷ ls) (m ∷ ms) z h =
      rw (eligible-same d v l m (h 0), choose-further (suc j) ls ms (omega arith) (λ k. h (suc k))) (go (eligible v l) refl)
    where
      rest : Option Candidate
      rest = choose_from v order (suc j) ls

      go : (b : Bool) → eligible v l ≡ b → (if b then best (cand j m) (mapped (further d) rest) else mapped (further d) rest) ≡ mapped (further d) (if b then best (cand j l) rest else rest)
      go true e = ap (λ (c : Candidate). best c (mapped (further d) rest)) (cand-further j l m (h 0) (eligible-holds l e)) ∙ best-further d (cand j l) rest
      go false e = refl

-- ---- the least R

abbrev pub plus : ℕ → ℕ → ℕ
plus d r = r + d

least-plus : (d a : ℕ) (o : Option ℕ) → least (a + d) (mapped (plus d) o) ≡ mapped (plus d) (least a o)
least-plus d a none = refl
least-plus d a (some b) = rw (leb-further a b d) (push (leb a b))
  where
    push : (x : Bool) → some (if x then a + d else b + d) ≡ some ((if x then a else b) + d)
    push true = refl
    push false = refl

pub least-further : (d : ℕ) (p : Lane → Bool) (ls ms : List Lane) → length ms ≡ length ls → ((k : ℕ) → p (get_or ms k no_lane) ≡ p (get_or ls k no_lane))
    → ((k : ℕ) → p (get_or ls k no_lane) ≡ true → start_r (get_or ms k no_lane) ≡ start_r (get_or ls k no_lane) + d)
    → least_of p ms ≡ mapped (plus d) (least_of p ls)
unfolding least_of
least-further d p [] [] z t h = refl
least-further d p [] (m ∷ ms) z t h = absurd (omega arith)
least-further d p (l ∷ ls) [] z t h = absurd (omega arith)
least-further d p (l ∷ ls) (m ∷ ms) z t h =
    rw (t 0, least-further d p ls ms (omega arith) (λ k. t (suc k)) (λ k. h (suc k))) (go (p l) refl)
  where
    rest : Option ℕ
    rest = least_of p ls

    go : (b : Bool) → p l ≡ b → (if b then least (start_r m) (mapped (plus d) rest) else mapped (plus d) rest) ≡ mapped (plus d) (if b then least (start_r l) rest else rest)
    go true e = ap (λ (x : ℕ). least x (mapped (plus d) rest)) (h 0 e) ∙ least-plus d (start_r l) rest
    go false e = refl

pub settled-further : (d v : ℕ) (ls ms : List Lane) → length ms ≡ length ls → ByPlace d ls ms → settled (v + d) ms ≡ settled v ls + d
unfolding settled settled_at
settled-further d v ls ms z h =
    rw (least-further d holds ls ms z (λ k. holds_same d (get_or ls k no_lane) (get_or ms k no_lane) (h k)) (λ k. (h k).start)) (go (least_of holds ls))
  where
    go : (o : Option ℕ) → settled_at (v + d) (mapped (plus d) o) ≡ settled_at v o + d
    go none = refl
    go (some r) = rw (ltb-further v r d) (push (ltb v r))
      where
        push : (x : Bool) → (if x then r + d else v + d) ≡ (if x then r else v) + d
        push true = refl
        push false = refl
