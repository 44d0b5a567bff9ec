-- The groups' starts: after a list was emptied the next one that has lanes, in circular order; after a lane was put the earlier of two. Assumes nothing.
use Prim.Native.Nat.{ℕ, ◌+◌, ◌-◌, ◌*◌, ◌%◌, ◌^◌, ◌≤◌, ◌<◌}
use native.Mathlib.Nat.{mul-le-mul_right}
use native.Mathlib.Omega.{arith}
use native.Mathlib.Decide.{dec_le}
use mathlib.Core.Path.{◌≡◌, refl, sym, ap, subst, ◌∙◌}
use mathlib.Core.Bool.{Bool, true, false, false≢true}
use mathlib.Core.List.{List, [], ◌∷◌}
use mathlib.Core.Option.{Option, none, some}
use lib.Dec.{leb}
use lib.ListN.{length, get_or, set}
use borrow.Author.Tests.{leb-true, leb-false}
use Rattle.std.specs.Prelude.{if◌then◌else◌}
use Rattle.units.specs.Plain.{times}
use Rattle.units.proofs.Bools.{if-ind, not-passed}
use Rattle.units.proofs.Lists.{set_cases}
use Rattle.rules.specs.State.{Lane, State, no_lane, group, start_r, holds, lane_at}
use Rattle.rules.specs.Choice.{least}
use Rattle.rules.specs.Sets.{in_group, group_start}
use Rattle.rules.proofs.Lowest.{LowOf, LowestOf}
use Rattle.rules.proofs.GroupRule.{in_group_lem, is-in-group, group-low}
use Rattle.filing.specs.Filing.{sift, Whole, slot_at, in_list, Lists, Filing, Window}
use Rattle.filing.proofs.Sift.{times-sift}
use Rattle.filing.proofs.Moves.{Stands, stands, is-standing}
use Rattle.filing.proofs.Slots.{low-unique, start-slot}

abbrev pub Named : State → Type 0
Named s = (k : ℕ) → times k s.order ≡ (if holds (lane_at s k) then 1 else 0)

-- a lane that holds records is of one of the sixteen groups
abbrev pub Grouped : State → Type 0
Grouped s = (k : ℕ) → holds (lane_at s k) ≡ true → (16 ≤ group (lane_at s k).given) × (group (lane_at s k).given ≤ 31)

sift-head : (p : ℕ → Bool) (xs : List ℕ) → 0 < length (sift p xs) → p (get_or (sift p xs) 0 0) ≡ true
unfolding sift
sift-head p [] h = absurd (omega arith)
sift-head p (x ∷ xs) h = go (p x) refl h (sift-head p xs)
  where
    go : (b : Bool) → p x ≡ b → 0 < length (if b then x ∷ sift p xs else sift p xs) → (0 < length (sift p xs) → p (get_or (sift p xs) 0 0) ≡ true)
        → p (get_or (if b then x ∷ sift p xs else sift p xs) 0 0) ≡ true
    go true e h r = e
    go false e h r = r h

-- the first list of group g that has lanes, d slots from slot a on
pub record NextList (lists : Lists) (g a d : ℕ) : Type 0 where
  pub near : d < 32
  pub some_lane : 0 < length (lists g ((a + d) % 32))
  pub none_before : (j : ℕ) → j < d → lists g ((a + j) % 32) ≡ []

module _ (B : ℕ) (w : Whole B) (s : State) (lists : Lists) (g : ℕ) (filed : Filing B lists s) (named : Named s) (lo : 16 ≤ g) (hi : g ≤ 31) where
  -- a lane of the group stands in the list of its slot
  pub in_list_lem : (k : ℕ) → in_group g (lane_at s k) ≡ true → times k (lists g (slot_at B (lane_at s k) % 32)) ≡ 1
  in_list_lem k h =
      let i = in_group_lem g (lane_at s k) h in
      let b = slot_at B (lane_at s k) % 32 in
      let is = is-standing B g b (lane_at s k) (record { held = i.0; grp = i.1; at = refl }) in
      ap (times k) (filed g b lo hi (omega arith)) ∙ times-sift (λ k. in_list B g b (lane_at s k)) k s.order ∙ simp is (named k ∙ simp i.0)

  pub no_start : ((b : ℕ) → b < 32 → lists g b ≡ []) → group_start s.lanes g ≡ none
  no_start empty =
      low-unique (in_group g) s.lanes (group_start s.lanes g) none (group-low s.lanes g)
      (λ k. not-passed (in_group g (lane_at s k)) (λ h. omega (arith, in_list_lem k h, ap (times k) (empty (slot_at B (lane_at s k) % 32) (omega arith)))))

  -- r is the old start, in slot a
  pub next_start : (r a d : ℕ) → r + B ≡ a * 2 ^ g → Window B s g a → NextList lists g a d → group_start s.lanes g ≡ some (r + d * 2 ^ g)
  next_start r a d e v n =
      low-unique (in_group g) s.lanes (group_start s.lanes g) (some (r + d * 2 ^ g)) (group-low s.lanes g)
      (record {
        at = j;
        is = of-j;
        start =
            let at : slot_at B l ≡ a + d = omega (arith, st.at, v.from j of-j, v.to j of-j, n.near) in
            omega (arith, e, start-slot B g l w hi st.grp, ap (λ (x : ℕ). x * 2 ^ g) at);
        bound = λ k h.
            let i = in_group_lem g (lane_at s k) h in
            let le : a + d ≤ slot_at B (lane_at s k) = later k h in
            omega (arith, e, mul-le-mul_right (2 ^ g) le, start-slot B g (lane_at s k) w hi i.1);
      })
    where
      b : ℕ
      b = (a + d) % 32

      small : b < 32
      small = omega arith

      p : ℕ → Bool
      p = λ k. in_list B g b (lane_at s k)

      j : ℕ
      j = get_or (sift p s.order) 0 0

      l : Lane
      l = lane_at s j

      st : Stands B g b l
      st = stands B g b l (sift-head p s.order (subst (λ (x : List ℕ). 0 < length x) (filed g b lo hi small) n.some_lane))

      of-j : in_group g l ≡ true
      of-j = subst (λ (i : ℕ). in_group i l ≡ true) st.grp (is-in-group l st.held)

      later : (k : ℕ) → in_group g (lane_at s k) ≡ true → a + d ≤ slot_at B (lane_at s k)
      later k h =
          elim (dec_le (a + d) (slot_at B (lane_at s k))) [
            | yes q ↦ q
            | no q ↦
                let x = slot_at B (lane_at s k) in
                let f = v.from k h in
                let e : (a + (x - a)) % 32 ≡ x % 32 = omega arith in
                let empty : lists g (x % 32) ≡ [] = subst (λ (y : ℕ). lists g y ≡ []) e (n.none_before (x - a) (omega arith)) in
                absurd (omega (arith, in_list_lem k h, ap (times k) empty))
          ]

-- ---- one lane changed

module _ (p : Lane → Bool) (ls : List Lane) (k : ℕ) (l : Lane) (inside : k < length ls) (out : p (get_or ls k no_lane) ≡ false) where
  -- the changed lanes at i
  changed : (i : ℕ) → p (get_or (set ls k l) i no_lane) ≡ true → (p l ≡ true → start_r (get_or (set ls k l) i no_lane) ≡ start_r l → ⊥) → (p (get_or ls i no_lane) ≡ true) × (start_r (get_or (set ls k l) i no_lane) ≡ start_r (get_or ls i no_lane))
  changed i = set_cases (λ (m : Lane). p m ≡ true → (p l ≡ true → start_r m ≡ start_r l → ⊥) → (p (get_or ls i no_lane) ≡ true) × (start_r m ≡ start_r (get_or ls i no_lane))) ls k i l no_lane inside
      (λ e h ne. absurd (ne h refl))
      (λ ne h x. (h, refl))

  kept : (i : ℕ) → p (get_or ls i no_lane) ≡ true → (p (get_or (set ls k l) i no_lane) ≡ true) × (start_r (get_or (set ls k l) i no_lane) ≡ start_r (get_or ls i no_lane))
  kept i h = set_cases (λ (m : Lane). (p m ≡ true) × (start_r m ≡ start_r (get_or ls i no_lane))) ls k i l no_lane inside
      (λ e. absurd (false≢true (sym out ∙ ap (λ (j : ℕ). p (get_or ls j no_lane)) e ∙ h)))
      (λ ne. (h, refl))

  -- a lane that does not pass either way
  pub low-other : (o : Option ℕ) → p l ≡ false → LowOf p ls o → LowOf p (set ls k l) o
  low-other none e low = λ i. set_cases (λ (m : Lane). p m ≡ false) ls k i l no_lane inside (λ q. e) (λ ne. low i)
  low-other (some r) e low =
      record {
        at = low.at;
        is = (kept low.at low.is).0;
        start = (kept low.at low.is).1 ∙ low.start;
        bound = λ i h.
            let c = changed i h (λ t q. false≢true (sym e ∙ t)) in
            rw c.1 (low.bound i c.0);
      }

  -- one that passes now
  pub low-insert : (o : Option ℕ) → p l ≡ true → LowOf p ls o → LowOf p (set ls k l) (least (start_r l) o)
  low-insert o e low = go o low
    where
      here : (P : Lane → Type 0) → P l → P (get_or (set ls k l) k no_lane)
      here P x = set_cases P ls k k l no_lane inside (λ q. x) (λ ne. absurd (ne refl))

      go : (o : Option ℕ) → LowOf p ls o → LowOf p (set ls k l) (least (start_r l) o)
      go none low =
          record {
            at = k;
            is = here (λ (m : Lane). p m ≡ true) e;
            start = here (λ (m : Lane). start_r m ≡ start_r l) refl;
            bound = λ i. set_cases (λ (m : Lane). p m ≡ true → start_r l ≤ start_r m) ls k i l no_lane inside (λ q t. omega arith) (λ ne t. absurd (false≢true (sym (low i) ∙ t)));
          }
      go (some r) low =
          if-ind (LowestOf p (set ls k l)) (leb (start_r l) r) (start_r l) r
          (λ b. record {
            at = k;
            is = here (λ (m : Lane). p m ≡ true) e;
            start = here (λ (m : Lane). start_r m ≡ start_r l) refl;
            bound = λ i. set_cases (λ (m : Lane). p m ≡ true → start_r l ≤ start_r m) ls k i l no_lane inside (λ q t. omega arith) (λ ne t. omega (arith, low.bound i t, leb-true (start_r l) r b));
          })
          (λ b. record {
            at = low.at;
            is = (kept low.at low.is).0;
            start = (kept low.at low.is).1 ∙ low.start;
            bound = λ i. set_cases (λ (m : Lane). p m ≡ true → r ≤ start_r m) ls k i l no_lane inside (λ q t. omega (arith, leb-false (start_r l) r b)) (λ ne t. low.bound i t);
          })

module _ (ls : List Lane) (k g : ℕ) (l : Lane) (inside : k < length ls) (out : in_group g (get_or ls k no_lane) ≡ false) where
  pub start-other : in_group g l ≡ false → group_start (set ls k l) g ≡ group_start ls g
  start-other e = low-unique (in_group g) (set ls k l) _ _ (group-low (set ls k l) g) (low-other (in_group g) ls k l inside out (group_start ls g) e (group-low ls g))

  pub start-insert : in_group g l ≡ true → group_start (set ls k l) g ≡ least (start_r l) (group_start ls g)
  start-insert e = low-unique (in_group g) (set ls k l) _ _ (group-low (set ls k l) g) (low-insert (in_group g) ls k l inside out (group_start ls g) e (group-low ls g))
