-- The fair share (R15.8), proved: for any M that no record's charge exceeds; so with 1,024 times the setup's greatest charge, and with 1,024 (1,500 + h).
-- Over a stretch the endless clock moves by 1,024 T or more and the lane's S by c O. S is below V + 2s where the stretch begins, and V below S + 2s + M where
-- it ends. Assumes nothing.
use Prim.Native.Nat.{ℕ, ◌+◌, ◌*◌, ◌≤◌, ◌<◌}
use native.Mathlib.Omega.{arith}
use mathlib.Core.Path.{◌≡◌, refl, sym, ap, subst, ◌∙◌}
use mathlib.Core.Bool.{true}
use mathlib.Core.List.{List, [], ◌∷◌, ◌++◌, append-nil}
use Rattle.waiting.specs.Waiting.{Waiting, first}
use Rattle.waiting.proofs.Laws.{held_none}
use Rattle.units.proofs.Round.{round-le}
use Rattle.rules.specs.State.{Setting, setting_at, State, rate, slot, some?, holds, lane_at, setup_of}
use Rattle.rules.specs.Setup.{Setup, longest_charge, margin, framing_of}
use Rattle.rules.specs.Calls.{Call, fresh, step}
use Rattle.rules.specs.Runs.{Event, after, trace}
use Rattle.rules.specs.Endless.{after_by, endless, endless_after}
use Rattle.rules.specs.Fair.{bytes_sent, bytes_sent_of, Holding, Fair, Demand3, Compared, TwoLanes, ComparedTight}
use Rattle.rules.proofs.Bounds.{SetupOk, fresh-inv, lower, upper}
pub use Rattle.rules.proofs.Figures.{tight-ok, longest-most, framing-most, setup-ok, longest-at, framing-at, group_at, slot_at}
use Rattle.rules.proofs.Keep.{Kept, kept, step_kept}
use Rattle.rules.proofs.SameSetup.{setting-lane, same_setup, setup_kept, fresh-setup}
use Rattle.rules.proofs.Sound.{fresh-sound, sound-run}
use Rattle.rules.proofs.Order.{held-run, fresh-held}
use Rattle.rules.proofs.GoodShift.{small-lanes, setup-beside}
use Rattle.rules.proofs.AlwaysGood.{Twins, fresh-twins, step-twins, run-twins}
use Rattle.rules.proofs.Track.{step-moved}
use Rattle.rules.proofs.Runs.{after-append, trace-append, Split, split}
use Rattle.rules.proofs.Moves.{not-idle}

-- ---- the stretch

module _ (M k : ℕ) (gs : List Setting) where
  abbrev Held : State → List Call → Type 0
  Held s mid = (p q : List Call) → p ++ q ≡ mid → holds (lane_at (after s p) k) ≡ true

  -- the answers are those of s by the rules, the clock and the start those of its twin t by the endless rules
  stretch-moves : (n : ℕ) (s t : State) (mid : List Call) → Twins n s t → Kept M t → setup_of s ≡ gs → Held s mid
      → (t.clock + 1024 * bytes_sent gs (trace s mid) ≤ (endless_after t mid).clock)
      × ((lane_at (endless_after t mid) k).start ≡ (lane_at t k).start + rate (setting_at gs k) * bytes_sent_of gs k (trace s mid))
  unfolding trace after after_by
  stretch-moves n s t [] r inv same held = (omega arith, omega arith)
  stretch-moves n s t (c ∷ cs) r inv same held =
      let x = step-twins n s t c r in
      let m = step-moved M k t c inv in
      let ih = stretch-moves x.by (step s c).state (endless t c).state cs x.twins (step_kept M t c inv) (same_setup s c ∙ same) (λ p q e. held (c ∷ p) q (ap (λ (x : List Call). c ∷ x) e)) in
      let now : holds (lane_at t k) ≡ true = ap (λ (w : Waiting). some? (first w)) (r.beside.lane k).waiting ∙ held [] (c ∷ cs) refl in
      let next : holds (lane_at (endless t c).state k) ≡ true = ap (λ (w : Waiting). some? (first w)) (x.twins.beside.lane k).waiting ∙ held (c ∷ []) cs refl in
      let setup : setup_of t ≡ gs = setup-beside n s t r.beside (small-lanes s r.setup) ∙ same in
      let g : (lane_at t k).given ≡ setting_at gs k = sym (setting-lane t k) ∙ ap (λ (x : List Setting). setting_at x k) setup in (
        omega (arith, ih.0, rw (setup, ← x.reply) at (m.clock now)),
        omega (arith, ih.1, rw (setup, g, ← x.reply) at (m.start now next)),
      )

-- ---- from a fresh table

-- a lane that holds a record by the events' count holds one in the state
pub holds_of : (gs : List Setting) (k : ℕ) (cs : List Call) → Holding k (trace (fresh gs) cs) → holds (lane_at (after (fresh gs) cs) k) ≡ true
holds_of gs k cs h =
    let l = lane_at (after (fresh gs) cs) k in
    not-idle l (λ e. omega (arith, held-run k (fresh gs) cs (fresh-sound gs), fresh-held gs k, held_none l.given.longest l.waiting (sound-run (fresh gs) cs (fresh-sound gs) k) e))

module _ (M : ℕ) (gs : List Setting) (setup : Setup gs) (ok : SetupOk M gs) (k : ℕ) where
  -- Over a stretch in which lane k holds records, c O and the move of the endless clock differ by less than 4 slots and M, both ways.
  pub record Pace (pre mid : List Call) : Type 0 where
    pub sent : (endless_after (fresh gs) pre).clock + 1024 * bytes_sent gs (trace (after (fresh gs) pre) mid) ≤ (endless_after (endless_after (fresh gs) pre) mid).clock
    pub not_slow : (endless_after (endless_after (fresh gs) pre) mid).clock
        < (endless_after (fresh gs) pre).clock + rate (setting_at gs k) * bytes_sent_of gs k (trace (after (fresh gs) pre) mid) + 4 * slot (setting_at gs k) + M
    -- the same from the lane's own start
    pub from_start : (endless_after (endless_after (fresh gs) pre) mid).clock
        < (lane_at (endless_after (fresh gs) pre) k).start + rate (setting_at gs k) * bytes_sent_of gs k (trace (after (fresh gs) pre) mid) + 2 * slot (setting_at gs k) + M
    pub not_fast : (endless_after (fresh gs) pre).clock + rate (setting_at gs k) * bytes_sent_of gs k (trace (after (fresh gs) pre) mid)
        < (endless_after (endless_after (fresh gs) pre) mid).clock + 4 * slot (setting_at gs k) + M

  fresh_kept : Kept M (fresh gs)
  unfolding fresh
  fresh_kept = fresh-inv M gs ok

  pub pace : (pre mid : List Call) → ((p q : List Call) → p ++ q ≡ mid → Holding k (trace (fresh gs) (pre ++ p))) → Pace pre mid
  unfolding after
  pace pre mid holding =
      let s = after (fresh gs) pre in
      let t = endless_after (fresh gs) pre in
      let e = endless_after t mid in
      let one = run-twins 0 (fresh gs) (fresh gs) pre (fresh-twins gs setup) in
      let two = run-twins one.0 s t mid one.1 in
      let same : setup_of s ≡ gs = setup_kept (fresh gs) pre ∙ fresh-setup gs in
      let inv : Kept M t = kept M (fresh gs) pre fresh_kept in
      let held : (p q : List Call) → p ++ q ≡ mid → holds (lane_at (after s p) k) ≡ true
      = λ p q h. rw (after-append (fresh gs) pre p) at (holds_of gs k (pre ++ p) (holding p q h)) in
      let moves = stretch-moves M k gs one.0 s t mid one.1 inv same held in
      let given-t : (lane_at t k).given ≡ setting_at gs k = (one.1.beside.lane k).given ∙ sym (setting-lane s k) ∙ ap (λ (x : List Setting). setting_at x k) same in
      let given-e : (lane_at e k).given ≡ setting_at gs k
      = (two.1.beside.lane k).given ∙ sym (setting-lane (after s mid) k) ∙ ap (λ (x : List Setting). setting_at x k) (setup_kept s mid ∙ same) in
      let begins : holds (lane_at t k) ≡ true = ap (λ (w : Waiting). some? (first w)) (one.1.beside.lane k).waiting ∙ held [] mid refl in
      let ends : holds (lane_at e k) ≡ true = ap (λ (w : Waiting). some? (first w)) (two.1.beside.lane k).waiting ∙ held mid [] (append-nil mid) in
      record {
        sent = moves.0;
        not_slow = omega (
          arith,
          moves.1,
          upper M t.clock t.lanes inv k begins,
          lower M e.clock e.lanes (kept M t mid inv) k ends,
          round-le (slot (lane_at e k).given) (lane_at e k).start,
          ap slot given-t,
          ap slot given-e,
        );
        from_start = omega (
          arith,
          moves.1,
          lower M e.clock e.lanes (kept M t mid inv) k ends,
          round-le (slot (lane_at e k).given) (lane_at e k).start,
          ap slot given-e,
        );
        not_fast = omega (
          arith,
          moves.1,
          lower M t.clock t.lanes inv k begins,
          upper M e.clock e.lanes (kept M t mid inv) k ends,
          round-le (slot (lane_at t k).given) (lane_at t k).start,
          ap slot given-t,
          ap slot given-e,
        );
      }

-- a split of the events is one of the calls, and what is held by the events is held by the calls
module _ (gs : List Setting) (calls : List Call) (past stretch rest : List Event) (e : trace (fresh gs) calls ≡ past ++ stretch ++ rest) where
  two : Split (fresh gs) past stretch
  two = let all = split (fresh gs) calls (past ++ stretch) rest e in split (fresh gs) all.calls past stretch all.past_is

  holding-calls : (k : ℕ) → ((p q : List Event) → p ++ q ≡ stretch → Holding k (past ++ p))
      → (p q : List Call) → p ++ q ≡ two.more → Holding k (trace (fresh gs) (two.calls ++ p))
  holding-calls k holding p q h =
      let s = after (fresh gs) two.calls in
      subst (Holding k) (sym (trace-append (fresh gs) two.calls p ∙ ap (λ (es : List Event). es ++ trace s p) two.past_is))
      (holding (trace s p) (trace (after s p) q) (sym (trace-append s p q) ∙ ap (trace s) h ∙ two.rest_is))

-- the claims over the events, for any M that no record's charge of the line exceeds
pub fair : (M : ℕ) (gs : List Setting) → Setup gs → SetupOk M gs → Fair M gs
unfolding Fair
fair M gs setup ok calls past stretch rest e k holding =
    let t = two gs calls past stretch rest e in
    let x = pace M gs setup ok k t.calls t.more (holding-calls gs calls past stretch rest e k holding) in
    subst (λ (es : List Event). 1024 * bytes_sent gs es < rate (setting_at gs k) * bytes_sent_of gs k es + 4 * slot (setting_at gs k) + M) t.rest_is
    (omega (arith, x.sent, x.not_slow))

pub compared : (M : ℕ) (gs : List Setting) → Setup gs → SetupOk M gs → Compared M gs
unfolding Compared
compared M gs setup ok calls past stretch rest e a b holds_a holds_b =
    let t = two gs calls past stretch rest e in
    let x = pace M gs setup ok a t.calls t.more (holding-calls gs calls past stretch rest e a holds_a) in
    let y = pace M gs setup ok b t.calls t.more (holding-calls gs calls past stretch rest e b holds_b) in
    subst (λ (es : List Event). rate (setting_at gs a) * bytes_sent_of gs a es < rate (setting_at gs b) * bytes_sent_of gs b es + 4 * slot (setting_at gs a) + 4 * slot (setting_at gs b) + 2 * M) t.rest_is
    (omega (arith, x.not_fast, y.not_slow))

-- ---- the figures

-- R15.9: with the setup's own greatest charge
pub fair_tight : (gs : List Setting) → Setup gs → Fair (1024 * longest_charge gs) gs
fair_tight gs s = fair (1024 * longest_charge gs) gs s (tight-ok gs s)

pub demand3 : Demand3
unfolding Demand3
demand3 gs s = fair (margin (framing_of gs)) gs s (setup-ok gs s)

pub compared_tight : ComparedTight
unfolding ComparedTight
compared_tight gs s = compared (1024 * longest_charge gs) gs s (tight-ok gs s)

pub two_lanes_lem : TwoLanes
unfolding TwoLanes
two_lanes_lem gs s = compared (margin (framing_of gs)) gs s (setup-ok gs s)
