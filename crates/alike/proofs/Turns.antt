-- Every call respects the turns of lanes that tie: from two states that have the same clock, lanes and turns a call gives the same reply, and two such states again.
-- Assumes nothing.
use Prim.Native.Nat.{ℕ, ◌<◌}
use mathlib.Core.Path.{◌≡◌, refl, sym, ap, ◌∙◌}
use mathlib.Core.Bool.{Bool, true, false, false≢true}
use mathlib.Core.Option.{Option, none, some}
use mathlib.Core.List.{List, [], ◌∷◌, ◌++◌, append-nil}
use lib.Dec.{ltb}
use lib.ListN.{length, get_or, set}
use Rattle.std.specs.Prelude.{if◌then◌else◌}
use Rattle.units.specs.Plain.{place, without}
use Rattle.units.proofs.Lists.{set_cases}
use Rattle.rules.specs.State.{Rec, Lane, no_lane, State, group, start_r, holds, setup_of, any_holds, lane_at}
use Rattle.rules.specs.Calls.{Call, put, take, look, sets, lag, restart, Outcome, no, put_refusal, appended, woken, accept, put_of, do_put, served, serve, Pick, picked, take_of, do_take, look_of, do_look, do_sets, lag_of, lagged, do_lag, fresh, restarted, do_restart, step, shifted}
use Rattle.alike.specs.Alike.{Ties}
use Rattle.rules.proofs.Claim.{weight_of, in-range}
use Rattle.rules.proofs.Moves.{Sound, appended-holds}
use Rattle.rules.proofs.Keep.{PickIs, pick_is, Allowed, allowed-enters, PutOk, put-ok}
use Rattle.rules.proofs.Queues.{held-inside}
use Rattle.rules.proofs.Ties.{times-same, times-other}
use Rattle.alike.proofs.Places.{place-without}
use Rattle.alike.proofs.SameChoice.{Names, Agree, same-picked, tied-before, agree-last}

-- alike but for the names, which the tie orders of two good states share anyway
pub record Turns (s t : State) : Type 0 where
  pub clock : s.clock ≡ t.clock
  pub lanes : s.lanes ≡ t.lanes
  pub turns : (j k : ℕ) → Ties (lane_at s j) (lane_at s k) → ltb (place j s.order) (place k s.order) ≡ ltb (place j t.order) (place k t.order)

-- the same reply, and states alike
pub record Same (x y : Outcome) : Type 0 where
  pub reply : x.reply ≡ y.reply
  pub state : Turns x.state y.state

same_refl : (x : Outcome) → Same x x
same_refl x = record { reply = refl; state = record { clock = refl; lanes = refl; turns = λ j k h. refl } }

appended-given : (l : Lane) (r : Rec) → (appended l r).given ≡ l.given
unfolding appended
appended-given l r = refl

appended-start : (l : Lane) (r : Rec) → start_r (appended l r) ≡ start_r l
unfolding appended
appended-start l r = refl

module _ (v : ℕ) (ls : List Lane) (o o' : List ℕ) (n : Names ls o) (n' : Names ls o') (same : Agree ls o o') (w : (k : ℕ) → Sound (get_or ls k no_lane)) where
  abbrev s : State
  s = record { clock = v; lanes = ls; order = o }

  abbrev t : State
  t = record { clock = v; lanes = ls; order = o' }

  unmoved : Turns s t
  unmoved = record { clock = refl; lanes = refl; turns = same }

  -- ---- take and look

  -- lane j is served and holds more: it goes to the end of the tie order; or it holds nothing, and is in no tie
  serve-order : (j : ℕ) (more : Bool) → holds (served (get_or ls j no_lane)) ≡ more → j < length ls
      → Agree (set ls j (served (get_or ls j no_lane))) (without j o ++ (if more then j ∷ [] else [])) (without j o' ++ (if more then j ∷ [] else []))
  serve-order j true m inside a b h =
      agree-last v ls o o' n n' same j (served (get_or ls j no_lane)) (without j o) (without j o') inside (times-same j o) (times-same j o')
      (λ k ne. (times-other j k o ne, times-other j k o' ne))
      (λ a b na nb. (place-without j a b o na nb, place-without j a b o' na nb)) a b h
  serve-order j false m inside a b h =
      let idle : (k : ℕ) → holds (get_or (set ls j (served (get_or ls j no_lane))) k no_lane) ≡ true → j ≡ k → ⊥
      = λ k p e. false≢true (sym (gone k e) ∙ p) in
      let na = idle a h.first in
      let nb = idle b h.second in
      rw (append-nil, append-nil) (place-without j a b o na nb ∙ same a b (tied-before v ls o o' n n' same j _ a b inside h na nb) ∙ sym (place-without j a b o' na nb))
    where
      gone : (k : ℕ) → j ≡ k → holds (get_or (set ls j (served (get_or ls j no_lane))) k no_lane) ≡ false
      gone k e = set_cases (λ (x : Lane). holds x ≡ false) ls j k (served (get_or ls j no_lane)) no_lane inside (λ q. m) (λ q. absurd (q e))

  take_same : (p : Option Pick) → PickIs s p → Same (take_of s p) (take_of t p)
  unfolding take_of serve
  take_same none h = record { reply = refl; state = unmoved }
  take_same (some p) h = record {
    reply = refl;
    state = record { clock = refl; lanes = refl; turns = serve-order p.lane (holds (served (get_or ls p.lane no_lane))) refl (held-inside ls p.lane p.first h.is_first) };
  }

  look-same : (p : Option Pick) → Same (look_of s p) (look_of t p)
  unfolding look_of
  look-same none = record { reply = refl; state = unmoved }
  look-same (some p) = record { reply = refl; state = unmoved }

  -- ---- put

  module _ (j : ℕ) (r : Rec) (a : Allowed s j r) where
    abbrev l : Lane
    l = get_or ls j no_lane

    inside : j < length ls
    inside = in-range ls j a.has

    -- a record behind others changes nothing that a tie looks at
    append-like : holds l ≡ true → (k : ℕ)
        → (holds (get_or (set ls j (appended l r)) k no_lane) ≡ holds (get_or ls k no_lane))
        × (group (get_or (set ls j (appended l r)) k no_lane).given ≡ group (get_or ls k no_lane).given)
        × (start_r (get_or (set ls j (appended l r)) k no_lane) ≡ start_r (get_or ls k no_lane))
    append-like e k =
        set_cases
        (λ (x : Lane). (holds x ≡ holds (get_or ls k no_lane)) × (group x.given ≡ group (get_or ls k no_lane).given) × (start_r x ≡ start_r (get_or ls k no_lane)))
        ls j k (appended l r) no_lane inside (λ q. rw (← q) (appended-holds l r (w j) (allowed-enters s j r a) e ∙ sym e, ap group (appended-given l r), appended-start l r)) (λ q. (refl, refl, refl))

    append-order : holds l ≡ true → Agree (set ls j (appended l r)) o o'
    append-order e a b h =
        let x = append-like e a in
        let y = append-like e b in
        same a b (record { first = sym x.0 ∙ h.first; second = sym y.0 ∙ h.second; group = sym x.1 ∙ h.group ∙ y.1; start = sym x.2 ∙ h.start ∙ y.2 })

    wake-order : holds l ≡ false → Agree (set ls j (woken v l r)) (o ++ (j ∷ [])) (o' ++ (j ∷ []))
    wake-order e =
        agree-last v ls o o' n n' same j (woken v l r) o o' inside (simp e at (n j)) (simp e at (n' j)) (λ k ne. (refl, refl)) (λ a b na nb. (refl, refl))

    pub accept-same : Turns (accept s j r) (accept t j r)
    unfolding accept
    accept-same = go (holds l) refl
      where
        go : (b : Bool) → holds l ≡ b → Turns (accept s j r) (accept t j r)
        go true e = simp e (record { clock = refl; lanes = refl; turns = append-order e })
        go false e = simp e (record { clock = refl; lanes = refl; turns = wake-order e })

  -- a put puts into the shifted states
  abbrev After : Type 0
  After = (j : ℕ) (r : Rec) → Allowed s j r → Turns (accept (shifted s) j r) (accept (shifted t) j r)

  put_same : After → (j : ℕ) (r : Rec) (p : Option ℕ) → PutOk s j r p → Same (put_of s j r p) (put_of t j r p)
  unfolding put_of
  put_same after j r none a = record { reply = refl; state = after j r a }
  put_same after j r (some c) a = record { reply = refl; state = unmoved }

  -- ---- every call

  lag-same : (j : ℕ) → Same (do_lag s j) (do_lag t j)
  unfolding do_lag
  lag-same j = go (ltb (weight_of (get_or ls j no_lane)) 1)
    where
      go : (b : Bool) → Same (if b then no 11 s else record { reply = lagged (lag_of v (get_or ls j no_lane)); state = s }) (if b then no 11 t else record { reply = lagged (lag_of v (get_or ls j no_lane)); state = t })
      go true = record { reply = refl; state = unmoved }
      go false = record { reply = refl; state = unmoved }

  restart-same : Same (do_restart s) (do_restart t)
  unfolding do_restart
  restart-same = go (any_holds ls)
    where
      go : (b : Bool) → Same (if b then no 15 s else record { reply = restarted; state = fresh (setup_of s) }) (if b then no 15 t else record { reply = restarted; state = fresh (setup_of t) })
      go true = record { reply = refl; state = unmoved }
      go false = same_refl _

  pub step_same : After → (c : Call) → Same (step s c) (step t c)
  unfolding step do_put do_take do_look do_sets put_refusal
  step_same after (put j k m n) = put_same after j (record { train = k; mark = m; len = n }) (put_refusal s j (record { train = k; mark = m; len = n })) (put-ok s j (record { train = k; mark = m; len = n }))
  step_same after take = rw (← same-picked v ls o o' n n' same) (take_same (picked s) (pick_is s))
  step_same after look = rw (← same-picked v ls o o' n n' same) (look-same (picked s))
  step_same after sets = record { reply = refl; state = unmoved }
  step_same after (lag j) = lag-same j
  step_same after restart = restart-same
