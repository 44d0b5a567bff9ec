-- A put to an idle lane keeps the lists and the starts in agreement with the rules' own state after it. Assumes nothing.
use Prim.Native.Nat.{ℕ, ◌+◌, ◌%◌, ◌≤◌, ◌<◌}
use native.Mathlib.Omega.{arith}
use mathlib.Core.Path.{◌≡◌, refl, sym, ap, subst, ◌∙◌}
use mathlib.Core.Bool.{true, false, false≢true}
use mathlib.Core.List.{List, [], ◌∷◌, ◌++◌}
use mathlib.Core.Option.{Option}
use lib.ListN.{length, set}
use Rattle.units.proofs.Bools.{not-passed}
use Rattle.units.proofs.Lists.{same_or}
use Rattle.rules.specs.State.{Rec, Lane, State, group, start_r, holds, lane_at}
use Rattle.rules.specs.Choice.{least}
use Rattle.rules.specs.Calls.{woken, accept}
use Rattle.rules.specs.Sets.{in_group, group_start}
use Rattle.rules.proofs.Moves.{Sound, MayEnter, woken-holds}
use Rattle.rules.proofs.GroupRule.{in_group_lem, is-in-group}
use Rattle.filing.specs.Filing.{slot_at, in_list, Lists, Agrees}
use Rattle.filing.proofs.Moves.{is-standing, Changed, insert-filed}
use Rattle.filing.proofs.Starts.{Named, start-other, start-insert}

pub idle-out : (i : ℕ) (l : Lane) → holds l ≡ false → in_group i l ≡ false
idle-out i l h = not-passed (in_group i l) (λ e. false≢true (sym h ∙ (in_group_lem i l e).0))

pub other-out : (i : ℕ) (l : Lane) → (i ≡ group l.given → ⊥) → in_group i l ≡ false
other-out i l ne = not-passed (in_group i l) (λ e. ne (sym (in_group_lem i l e).1))

module _ (B : ℕ) (s : State) (lists lists' : Lists) (starts starts' : ℕ → Option ℕ) (ag : Agrees B lists starts s) (named : Named s)
    (k : ℕ) (inside : k < length s.lanes) (idle : holds (lane_at s k) ≡ false) (r : Rec) (sound : Sound (lane_at s k)) (may : MayEnter (lane_at s k) r) where
  abbrev put_lane : Lane
  put_lane = woken s.clock (lane_at s k) r

  abbrev put-group : ℕ
  put-group = group (lane_at s k).given

  put-given : put_lane.given ≡ (lane_at s k).given
  unfolding woken
  put-given = refl

  put_holds : holds put_lane ≡ true
  put_holds = woken-holds s.clock (lane_at s k) r sound may idle

  put_in : in_group put-group put_lane ≡ true
  put_in = subst (λ (i : ℕ). in_group i put_lane ≡ true) (ap group put-given) (is-in-group put_lane put_holds)

  put-stands : in_list B put-group (slot_at B put_lane % 32) put_lane ≡ true
  put-stands = is-standing B put-group (slot_at B put_lane % 32) put_lane (record { held = put_holds; grp = ap group put-given; at = refl })

  accepted : ((accept s k r).lanes ≡ set s.lanes k put_lane) × ((accept s k r).order ≡ s.order ++ (k ∷ []))
  unfolding accept
  accepted = (simp idle, simp idle)

  pub put-agrees : 16 ≤ put-group → put-group ≤ 31 → Changed lists lists' put-group (slot_at B put_lane % 32) (lists put-group (slot_at B put_lane % 32) ++ (k ∷ []))
      → starts' put-group ≡ least (start_r put_lane) (starts put-group) → ((i : ℕ) → 16 ≤ i → i ≤ 31 → (i ≡ put-group → ⊥) → starts' i ≡ starts i)
      → Agrees B lists' starts' (accept s k r)
  put-agrees lo hi ch here others =
      record {
        filed = insert-filed B s (accept s k r) lists lists' k put-group (slot_at B put_lane % 32) put_lane ag.filed inside (named k ∙ simp idle) put-stands accepted.0 accepted.1 ch lo hi (omega arith);
        started = λ i x y.
            same_or {P = starts' i ≡ group_start (accept s k r).lanes i} i put-group
            (λ e. subst (λ (i : ℕ). starts' i ≡ group_start (accept s k r).lanes i) (sym e)
            (here ∙ ap (least (start_r put_lane)) (ag.started put-group lo hi) ∙ sym (ap (λ (ls : List Lane). group_start ls put-group) accepted.0 ∙ start-insert s.lanes k put-group put_lane inside (idle-out put-group (lane_at s k) idle) put_in)))
            (λ ne.
            others i x y ne ∙ ag.started i x y
            ∙ sym (ap (λ (ls : List Lane). group_start ls i) accepted.0 ∙ start-other s.lanes k i put_lane inside (idle-out i (lane_at s k) idle) (other-out i put_lane (λ e. ne (e ∙ ap group put-given)))));
      }
