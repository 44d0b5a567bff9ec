-- Put to a lane that holds records, and a fresh table: the lists and the starts stay, or are empty. Assumes nothing.
use Prim.Native.Nat.{ℕ, ◌%◌, ◌≤◌, ◌<◌}
use mathlib.Core.Path.{◌≡◌, refl, sym, ap, subst, ◌∙◌}
use mathlib.Core.Bool.{Bool, true, false, ◌&&◌, false≢true}
use mathlib.Core.List.{List, [], map}
use mathlib.Core.Option.{Option, none, some}
use lib.Dec.{eqb}
use lib.ListN.{length, get_or, set}
use Rattle.units.proofs.Bools.{not-passed}
use Rattle.units.proofs.Lists.{set_cases}
use Rattle.rules.specs.State.{Rec, Setting, Lane, State, no_lane, group, start_r, holds, lane_at}
use Rattle.rules.specs.Calls.{appended, accept, idle, fresh}
use Rattle.rules.specs.Sets.{in_group, group_start}
use Rattle.rules.proofs.Lowest.{LowOf}
use Rattle.rules.proofs.Moves.{Sound, MayEnter, appended-holds}
use Rattle.rules.proofs.Bounds.{fresh-free}
use Rattle.rules.proofs.GroupRule.{in_group_lem, group-low}
use Rattle.filing.specs.Filing.{sift, slot_at, in_list, Lists, Agrees}
use Rattle.filing.proofs.Sift.{sift-ext}
use Rattle.filing.proofs.Slots.{low-unique}

-- a lane replaced by one that passes the same test B and has the same R
module _ (p : Lane → Bool) (ls : List Lane) (k : ℕ) (l : Lane) (inside : k < length ls) (same : p l ≡ p (get_or ls k no_lane)) (start : start_r l ≡ start_r (get_or ls k no_lane)) where
  at : (i : ℕ) → (p (get_or (set ls k l) i no_lane) ≡ p (get_or ls i no_lane)) × (start_r (get_or (set ls k l) i no_lane) ≡ start_r (get_or ls i no_lane))
  at i = set_cases (λ (m : Lane). (p m ≡ p (get_or ls i no_lane)) × (start_r m ≡ start_r (get_or ls i no_lane))) ls k i l no_lane inside
      (λ e. (same ∙ ap (λ (j : ℕ). p (get_or ls j no_lane)) e, start ∙ ap (λ (j : ℕ). start_r (get_or ls j no_lane)) e))
      (λ ne. (refl, refl))

  pub low_same : (o : Option ℕ) → LowOf p ls o → LowOf p (set ls k l) o
  low_same none low = λ i. (at i).0 ∙ low i
  low_same (some r) low =
      record { at = low.at; is = (at low.at).0 ∙ low.is; start = (at low.at).1 ∙ low.start; bound = λ i h. rw (at i).1 (low.bound i (sym (at i).0 ∙ h)) }

-- put to a lane that holds records
pub append-agrees : (B : ℕ) (s : State) (lists : Lists) (starts : ℕ → Option ℕ) (k : ℕ) (r : Rec) → Sound (lane_at s k) → MayEnter (lane_at s k) r → Agrees B lists starts s → k < length s.lanes → holds (lane_at s k) ≡ true → Agrees B lists starts (accept s k r)
unfolding accept appended in_list in_group
append-agrees B s lists starts k r sound may ag inside held =
    subst (Agrees B lists starts) (sym made)
    (record {
      filed = λ g b lo hi hb. ag.filed g b lo hi hb ∙ sift-ext (λ j. in_list B g b (lane_at s j)) (λ j. in_list B g b (get_or (set s.lanes k new) j no_lane)) s.order (λ j h. sym (test B g b j));
      started = λ g lo hi. ag.started g lo hi ∙ low-unique (in_group g) (set s.lanes k new) (group_start s.lanes g) (group_start (set s.lanes k new) g) (low_same (in_group g) s.lanes k new inside (same-group g) refl (group_start s.lanes g) (group-low s.lanes g)) (group-low (set s.lanes k new) g);
    })
  where
    new : Lane
    new = appended (lane_at s k) r

    made : accept s k r ≡ record { clock = s.clock; lanes = set s.lanes k new; order = s.order }
    made = simp held

    same-group : (g : ℕ) → in_group g new ≡ in_group g (lane_at s k)
    same-group g = ap (λ (b : Bool). b && eqb (group (lane_at s k).given) g) (appended-holds (lane_at s k) r sound may held ∙ sym held)

    test : (B : ℕ) (g b j : ℕ) → in_list B g b (get_or (set s.lanes k new) j no_lane) ≡ in_list B g b (lane_at s j)
    test B g b j =
        set_cases (λ (m : Lane). in_list B g b m ≡ in_list B g b (lane_at s j)) s.lanes k j new no_lane inside
        (λ e. ap (λ (x : Bool). x && eqb (slot_at B (lane_at s k) % 32) b) (same-group g) ∙ ap (λ (i : ℕ). in_list B g b (lane_at s i)) e)
        (λ ne. refl)

-- a fresh state, also after restart
pub fresh-agrees : (B : ℕ) (gs : List Setting) (lists : Lists) (starts : ℕ → Option ℕ) → ((g b : ℕ) → 16 ≤ g → g ≤ 31 → b < 32 → lists g b ≡ []) → ((g : ℕ) → 16 ≤ g → g ≤ 31 → starts g ≡ none) → Agrees B lists starts (fresh gs)
unfolding fresh idle sift
fresh-agrees B gs lists starts empty nothing =
    record {
      filed = λ g b lo hi hb. empty g b lo hi hb;
      started = λ g lo hi. nothing g lo hi ∙ low-unique (in_group g) (map idle gs) none (group_start (map idle gs) g) (λ j. not-passed (in_group g (get_or (map idle gs) j no_lane)) (λ h. false≢true (sym (none_held j) ∙ (in_group_lem g (get_or (map idle gs) j no_lane) h).0))) (group-low (map idle gs) g);
    }
  where
    none_held : (j : ℕ) → holds (get_or (map idle gs) j no_lane) ≡ false
    none_held j = fresh-free gs j
