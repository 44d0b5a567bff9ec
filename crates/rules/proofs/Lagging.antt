-- Demand 3 and a record's wait from a point at which lag was asked: only the lower bound V < S + 2s + M is needed, for lag is V - S. Assumes nothing.
use Prim.Native.Nat.{ℕ, suc, ◌+◌, ◌-◌, ◌*◌, ◌<◌}
use native.Mathlib.Omega.{arith}
use mathlib.Core.Path.{◌≡◌, refl, sym, ap, subst, ◌∙◌}
use mathlib.Core.Bool.{Bool, true, false, cond}
use mathlib.Core.List.{List, [], ◌∷◌, ◌++◌, append-nil}
use lib.Dec.{ltb}
use lib.IntN.{ℤ, pos, negsuc, sub_ℕ}
use borrow.Author.Tests.{ltb-true, ltb-false}
use Rattle.std.specs.Prelude.{if◌then◌else◌}
use Rattle.rules.specs.State.{Setting, setting_at, State, rate, slot, holds, lane_at}
use Rattle.rules.specs.Setup.{Setup}
use Rattle.rules.specs.Calls.{Call, lag, lagged, no, lag_of, do_lag, fresh, step}
use Rattle.rules.specs.Runs.{Event, after, trace, sent_in, offered_in, is_accepted, of_lane, accepted_of, sent_of}
use Rattle.rules.specs.Fair.{charged_to, bytes_sent, bytes_sent_of, Holding}
use Rattle.rules.specs.Waits.{accepts, lags, FairFrom, WaitsFrom, WaitsFromBy}
use Rattle.rules.proofs.Bounds.{SetupOk}
use Rattle.rules.proofs.Keep.{lag-same}
use Rattle.rules.proofs.Runs.{trace-append, split}
use Rattle.rules.proofs.AlwaysGood.{fresh-twins, run-twins}
use Rattle.rules.proofs.Fair.{holds_of, pace}
use Rattle.rules.proofs.Counts.{sent-append, accepted-append}
use Rattle.rules.proofs.Waits.{joined, still-holds, own-most, rated}

-- ---- differences

abbrev above : ℤ → ℕ
above (pos n) = n
above (negsuc n) = 0

abbrev below : ℤ → ℕ
below (pos n) = 0
below (negsuc n) = suc n

parts : (a b : ℕ) → above (sub_ℕ a b) + b ≡ a + below (sub_ℕ a b)
parts a b = go (ltb a b) refl
  where
    go : (t : Bool) → ltb a b ≡ t → above (cond t (negsuc (b - suc a)) (pos (a - b))) + b ≡ a + below (cond t (negsuc (b - suc a)) (pos (a - b)))
    go true e = omega (arith, ltb-true a b e)
    go false e = omega (arith, ltb-false a b e)

-- two pairs of the same difference
same-sub : (a b c d : ℕ) → sub_ℕ a b ≡ sub_ℕ c d → a + d ≡ c + b
same-sub a b c d e = omega (arith, parts a b, parts c d, ap above e, ap below e)

-- ---- a lag that is answered

lag-is : (s : State) (k a b : ℕ) → holds (lane_at s k) ≡ true → (step s (lag k)).reply ≡ lagged (sub_ℕ a b) → s.clock + b ≡ a + (lane_at s k).start
unfolding step do_lag lag_of
lag-is s k a b h e = go (ltb (lane_at s k).given.weight 1) e
  where
    is : lag_of s.clock (lane_at s k) ≡ sub_ℕ s.clock (lane_at s k).start
    is = simp h

    go : (t : Bool) → (if t then no 11 s else record { reply = lagged (lag_of s.clock (lane_at s k)); state = s }).reply ≡ lagged (sub_ℕ a b) → s.clock + b ≡ a + (lane_at s k).start
    go true e = let y : ◌≡◌ {A = ℕ} 0 1 = cc in absurd (omega arith)
    go false e =
        let z : lag_of s.clock (lane_at s k) ≡ sub_ℕ a b = cc in
        same-sub s.clock (lane_at s k).start a b (sym is ∙ z)

-- the first event of a list of calls is a lag
record Asked (s : State) (k a b : ℕ) (cs : List Call) (es : List Event) : Type 0 where
  more : List Call
  calls : cs ≡ lag k ∷ more
  answer : (step s (lag k)).reply ≡ lagged (sub_ℕ a b)
  events : trace s more ≡ es

asked : (s : State) (k a b : ℕ) (cs : List Call) (es : List Event) → trace s cs ≡ lags k a b ∷ es → Asked s k a b cs es
unfolding trace step
asked s k a b [] es e = let y : ◌≡◌ {A = ℕ} 0 1 = cc in absurd (omega arith)
asked s k a b (c ∷ cs) es e =
    let same : record { call = c; reply = (step s c).reply } ≡ lags k a b = cc in
    let is : c ≡ lag k = ap (λ (x : Event). x.call) same in
    let tail : trace (step s c).state cs ≡ es = cc in
    record {
      more = cs;
      calls = ap (λ (x : Call). x ∷ cs) is;
      answer = ap (λ (x : Call). (step s x).reply) (sym is) ∙ ap (λ (x : Event). x.reply) same;
      events = ap (λ (x : State). trace x cs) (sym (lag-same s k)) ∙ ap (λ (x : Call). trace (step s x).state cs) (sym is) ∙ tail;
    }

-- ---- the claim

module _ (M : ℕ) (gs : List Setting) (setup : Setup gs) (ok : SetupOk M gs) (k a b : ℕ) where
  -- over a list of calls in two parts, the lag being asked between them: V and S of the state, and of its twin by the endless rules, differ alike
  from-calls : (pre mid : List Call) → (step (after (fresh gs) pre) (lag k)).reply ≡ lagged (sub_ℕ a b)
      → ((p q : List Call) → p ++ q ≡ mid → Holding k (trace (fresh gs) (pre ++ p)))
      → 1024 * bytes_sent gs (trace (after (fresh gs) pre) mid) + a
      < rate (setting_at gs k) * bytes_sent_of gs k (trace (after (fresh gs) pre) mid) + 2 * slot (setting_at gs k) + M + b
  from-calls pre mid answer holding =
      let s = after (fresh gs) pre in
      let held : holds (lane_at s k) ≡ true = holds_of gs k pre (subst (λ (cs : List Call). Holding k (trace (fresh gs) cs)) (append-nil pre) (holding [] mid refl)) in
      let one = run-twins 0 (fresh gs) (fresh gs) pre (fresh-twins gs setup) in
      let x = pace M gs setup ok k pre mid holding in
      omega (arith, x.sent, x.from_start, lag-is s k a b held answer, one.1.beside.clock, (one.1.beside.lane k).start held)

-- a lag changes no count
lag-sent : (k : ℕ) (past p : List Event) (j a b : ℕ) → sent_of k (past ++ lags j a b ∷ p) ≡ sent_of k (past ++ p)
unfolding sent_of sent_in of_lane
lag-sent k past p j a b = sent-append k past (lags j a b ∷ p) ∙ sym (sent-append k past p)

lag-accepted : (k : ℕ) (past p : List Event) (j a b : ℕ) → accepted_of k (past ++ lags j a b ∷ p) ≡ accepted_of k (past ++ p)
unfolding accepted_of offered_in is_accepted of_lane
lag-accepted k past p j a b = accepted-append k past (lags j a b ∷ p) ∙ sym (accepted-append k past p)

lag-counts : (k : ℕ) (past p : List Event) (j a b : ℕ) → Holding k (past ++ lags j a b ∷ p) → Holding k (past ++ p)
lag-counts k past p j a b h = rw (lag-sent, lag-accepted) at h

pub fair-from : (M : ℕ) (gs : List Setting) → Setup gs → SetupOk M gs → FairFrom M gs
unfolding FairFrom
fair-from M gs setup ok calls past stretch rest k a b e holding =
    let all = split (fresh gs) calls (past ++ lags k a b ∷ stretch) rest e in
    let two = split (fresh gs) all.calls past (lags k a b ∷ stretch) all.past_is in
    let s = after (fresh gs) two.calls in
    let is = asked s k a b two.more stretch two.rest_is in
    subst (λ (es : List Event). 1024 * bytes_sent gs es + a < rate (setting_at gs k) * bytes_sent_of gs k es + 2 * slot (setting_at gs k) + M + b) is.events
    (from-calls M gs setup ok k a b two.calls is.more is.answer
    (λ p q h.
    subst (Holding k) (sym (trace-append (fresh gs) two.calls p ∙ ap (λ (es : List Event). es ++ trace s p) two.past_is))
    (lag-counts k past (trace s p) k a b (holding (trace s p) (trace (after s p) q) (sym (trace-append s p q) ∙ ap (trace s) h ∙ is.events)))))

pub waits_from : (M : ℕ) (gs : List Setting) → Setup gs → SetupOk M gs → WaitsFrom M gs
unfolding WaitsFrom FairFrom sent_of sent_in of_lane
waits_from M gs setup ok calls past since rest k a b r n e few =
    fair-from M gs setup ok calls (past ++ accepts k r n ∷ []) since rest k a b (joined gs calls past (lags k a b ∷ since) rest k r n e)
    (λ p q h. still-holds gs calls past (lags k a b ∷ since) rest k r n e few (lags k a b ∷ p) q (ap (λ (es : List Event). lags k a b ∷ es) h))

pub waits_from_by : (M : ℕ) (gs : List Setting) → Setup gs → SetupOk M gs → WaitsFromBy M gs
unfolding WaitsFromBy WaitsFrom sent_of sent_in of_lane charged_to
waits_from_by M gs setup ok calls past since rest k a b r n e alone few =
    let g = setting_at gs k in
    omega (
      arith,
      waits_from M gs setup ok calls past since rest k a b r n e few,
      rated g n (bytes_sent_of gs k since) (omega (arith, own-most gs calls past (lags k a b ∷ since) rest k r n e alone few)),
    )
