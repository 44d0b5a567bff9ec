-- How long one record waits, proved: a record that was accepted and is not yet handed out keeps its lane holding, so demand 3 speaks of the stretch; and of a lane
-- that is not shared only the records that were before it are sent meanwhile. Assumes nothing.
use Prim.Native.Nat.{ℕ, ◌*◌, ◌≤◌, ◌<◌}
use native.Mathlib.Omega.{arith}
use native.Mathlib.Nat.{mul-le-mul_left, mul-le-mul_right}
use native.Mathlib.Decide.{dec_le}
use mathlib.Core.Path.{◌≡◌, refl, sym, ap, subst, ◌∙◌}
use mathlib.Core.Bool.{false}
use mathlib.Core.Option.{Option, none, some}
use mathlib.Core.List.{List, [], ◌∷◌, ◌++◌, append_assoc}
use lib.ListN.{length, drop, length-append}
use Rattle.rounds.specs.Round as round
use Rattle.waiting.specs.Waiting.{is_shared, bare}
use Rattle.waiting.proofs.Laws.{queue-none, held-hand}
use Rattle.waiting.proofs.Sharing.{known-train}
use Rattle.rules.specs.State.{Rec, Setting, setting_at, Lane, State, charge, rate, first_of, lane_at}
use Rattle.rules.specs.Setup.{Setup, longest_charge, framing_of, margin}
use Rattle.rules.specs.Calls.{Call, accepted, put_refusal, put_of, do_put, fresh, step}
use Rattle.rules.specs.Runs.{Event, after, trace, accepted_of, sent_of, of_train, InOrder, SaysAhead}
use Rattle.rules.specs.Fair.{bytes_sent, bytes_sent_of, Holding, Fair}
use Rattle.rules.specs.Even.{HoldingTrain}
use Rattle.rules.specs.Waits.{accepts, queued, InTurn, NotYet, Out, Waits, wait_span, worst_wait, WaitsBy, OutBy, RecordsOut}
use Rattle.rules.proofs.Bounds.{SetupOk}
use Rattle.rules.proofs.Keep.{PutOk, put-ok, allowed-enters}
use Rattle.rules.proofs.Sound.{fresh-sound, sound-run}
use Rattle.rules.proofs.Kind.{fresh-kind, kind-run}
use Rattle.rules.proofs.Queues.{queue_at}
use Rattle.rules.proofs.SameSetup.{setting-lane, setup_kept, fresh-setup}
use Rattle.rules.proofs.Order.{in_order, held-run, fresh-held}
use Rattle.rules.proofs.Ahead.{begins-with, says-ahead}
use Rattle.rules.proofs.Runs.{trace-append, split}
use Rattle.rules.proofs.Fair.{fair, tight-ok, setup-ok}
use Rattle.rules.proofs.Counts.{drop-front, goes_on, accepted-count, sent-count, put-accepts, put-sends, turn}
use Rattle.rules.proofs.Sent.{sent-fit, fit-train, bytes_most}

-- ---- the order of a train

-- what is queued by the events' count is queued in the state
pub queued-is : (gs : List Setting) (k t : ℕ) (cs : List Call) → queued k t (trace (fresh gs) cs) ≡ queue_at (after (fresh gs) cs) k t
unfolding InOrder
queued-is gs k t cs =
    let es = trace (fresh gs) cs in
    ap (drop (length (of_train t (sent_of k es)))) (in_order gs cs k t) ∙ drop-front (of_train t (sent_of k es)) (queue_at (after (fresh gs) cs) k t)

in-order-queued : (gs : List Setting) (k t : ℕ) (cs : List Call) → (let es = trace (fresh gs) cs in of_train t (accepted_of k es) ≡ of_train t (sent_of k es) ++ queued k t es)
unfolding InOrder
in-order-queued gs k t cs = let es = trace (fresh gs) cs in in_order gs cs k t ∙ ap (λ (q : List round.BareRec). of_train t (sent_of k es) ++ q) (sym (queued-is gs k t cs))

pub in_turn : (gs : List Setting) → InTurn gs
unfolding InTurn SaysAhead
in_turn gs calls past since rest k r n e =
    let t = r.train in
    let all = split (fresh gs) calls (past ++ accepts k r n ∷ since) rest e in
    let two = split (fresh gs) all.calls past (accepts k r n ∷ since) all.past_is in
    let s = after (fresh gs) two.calls in
    let whole : trace (fresh gs) (two.calls ++ two.more) ≡ past ++ accepts k r n ∷ since
    = trace-append (fresh gs) two.calls two.more ∙ ap (λ (x : List Event). x ++ trace s two.more) two.past_is ∙ ap (λ (x : List Event). past ++ x) two.rest_is in
    let before = subst (λ (es : List Event). of_train t (accepted_of k es) ≡ of_train t (sent_of k es) ++ queued k t es) two.past_is (in-order-queued gs k t two.calls) in
    let later = subst (λ (es : List Event). of_train t (accepted_of k es) ≡ of_train t (sent_of k es) ++ queued k t es) whole (in-order-queued gs k t (two.calls ++ two.more)) in
    let told = (says-ahead gs calls past (since ++ rest) k t r.mark r.len n (e ∙ append_assoc past (accepts k r n ∷ since) rest)).0 in
    (omega (arith, told, ap length before, length-append (of_train t (sent_of k past)) (queued k t past)), turn k r n past since (queued k t past) (queued k t (past ++ accepts k r n ∷ since)) before later)

-- ---- its lane holds a record

-- a lane of which a train holds a record, by the count, holds one
train-holding : (gs : List Setting) (k t : ℕ) (cs : List Call) → HoldingTrain k t (trace (fresh gs) cs) → Holding k (trace (fresh gs) cs)
unfolding InOrder
train-holding gs k t cs h = go (first_of l) refl
  where
    s : State
    s = after (fresh gs) cs

    l : Lane
    l = lane_at s k

    es : List Event
    es = trace (fresh gs) cs

    go : (o : Option Rec) → first_of l ≡ o → Holding k es
    go none e =
        absurd (omega (
          arith,
          h,
          ap length (in_order gs cs k t),
          length-append (of_train t (sent_of k es)) (queue_at s k t),
          ap length (queue-none l.given.longest l.waiting (sound-run (fresh gs) cs (fresh-sound gs) k) e t),
        ))
    go (some x) e = omega (arith, held-run k (fresh gs) cs (fresh-sound gs), fresh-held gs k, held-hand l.given.longest l.waiting x (sound-run (fresh gs) cs (fresh-sound gs) k) e)

module _ (gs : List Setting) (calls : List Call) (past since rest : List Event) (k : ℕ) (r : Rec) (n : ℕ) (e : trace (fresh gs) calls ≡ past ++ accepts k r n ∷ since ++ rest) where
  abbrev pub front : List Event
  front = past ++ accepts k r n ∷ []

  pub joined : trace (fresh gs) calls ≡ front ++ since ++ rest
  joined = e ∙ ap (λ (es : List Event). es ++ rest) (sym (append_assoc past (accepts k r n ∷ []) since))

  -- its train holds a record after each call up to which it is not handed out
  pub still-train : NotYet k r n since → (p q : List Event) → p ++ q ≡ since → HoldingTrain k r.train (front ++ p)
  unfolding SaysAhead
  still-train few p q h =
      let t = r.train in
      subst (HoldingTrain k t) (sym (append_assoc past (accepts k r n ∷ []) p))
      (omega (
        arith,
        few,
        (says-ahead gs calls past (since ++ rest) k t r.mark r.len n (e ∙ append_assoc past (accepts k r n ∷ since) rest)).0,
        sent-count k t past (accepts k r n ∷ p),
        ap (λ (x : List Rec). length (of_train t x)) (put-sends k r n p),
        accepted-count k t past (accepts k r n ∷ p),
        ap length (put-accepts k r n p),
        ap (λ (es : List Event). length (of_train t (sent_of k es))) (sym h) ∙ sent-count k t p q,
      ))

  pub still-holds : NotYet k r n since → (p q : List Event) → p ++ q ≡ since → Holding k (front ++ p)
  still-holds few p q h =
      let cut : trace (fresh gs) calls ≡ front ++ p ++ (q ++ rest)
      = joined ∙ ap (λ (x : List Event). front ++ x ++ rest) (sym h) ∙ ap (λ (x : List Event). x ++ rest) (sym (append_assoc front p q)) ∙ append_assoc (front ++ p) q rest in
      let one = split (fresh gs) calls (front ++ p) (q ++ rest) cut in
      subst (Holding k) one.past_is (train-holding gs k r.train one.calls (subst (HoldingTrain k r.train) (sym one.past_is) (still-train few p q h)))

  -- ---- of a lane that is not shared

  module _ (alone : (setting_at gs k).shared ≡ false) where
    pub given_is : (cs : List Call) → (lane_at (after (fresh gs) cs) k).given ≡ setting_at gs k
    given_is cs = sym (setting-lane (after (fresh gs) cs) k) ∙ ap (λ (x : List Setting). setting_at x k) (setup_kept (fresh gs) cs ∙ fresh-setup gs)

    -- its record is of train 0
    train-zero : r.train ≡ 0
    unfolding step do_put put_of
    train-zero =
        let two = split (fresh gs) calls past (accepts k r n ∷ (since ++ rest)) (e ∙ append_assoc past (accepts k r n ∷ since) rest) in
        let s = after (fresh gs) two.calls in
        let kind : is_shared (lane_at s k).waiting ≡ false = kind-run (fresh gs) two.calls (fresh-kind gs) k ∙ ap (λ (g : Setting). g.shared) (given_is two.calls) ∙ alone in
        go s kind (put_refusal s k r) (put-ok s k r) (begins-with s two.more k r.train r.mark r.len n (since ++ rest) two.rest_is)
      where
        go : (s : State) → is_shared (lane_at s k).waiting ≡ false → (o : Option ℕ) → PutOk s k r o → (put_of s k r o).reply ≡ accepted n → r.train ≡ 0
        go s kind none a f = known-train (lane_at s k).waiting r.train kind (allowed-enters s k r a).train
        go s kind (some c) a f = let z : ◌≡◌ {A = ℕ} 0 1 = cc in absurd (omega arith)

    -- what the lane sent meanwhile is at most n records of its longest
    pub own-most : NotYet k r n since → bytes_sent_of gs k since ≤ n * charge (setting_at gs k) (setting_at gs k).longest
    own-most few =
        let g = setting_at gs k in
        let all = split (fresh gs) calls (front ++ since) rest joined in
        let two = split (fresh gs) all.calls front since all.past_is in
        let s = after (fresh gs) two.calls in
        let fit = rw (given_is two.calls, two.rest_is) at (sent-fit k s two.more (sound-run (fresh gs) two.calls (fresh-sound gs)) (kind-run (fresh gs) two.calls (fresh-kind gs))) in
        let few' : length (sent_of k since) ≤ n = omega (arith, few, fit-train g (sent_of k since) alone fit, ap (λ (t : ℕ). length (of_train t (sent_of k since))) train-zero) in
        omega (arith, bytes_most gs k since fit, mul-le-mul_right (charge g g.longest) few')

-- ---- the wait

pub waits : (M : ℕ) (gs : List Setting) → Setup gs → SetupOk M gs → Waits M gs
unfolding Waits Fair
waits M gs setup ok calls past since rest k r n e few =
    fair M gs setup ok calls (front gs calls past since rest k r n e) since rest (joined gs calls past since rest k r n e) k (still-holds gs calls past since rest k r n e few)

-- the rounding up loses nothing
pub worst-is : (M : ℕ) (g : Setting) (n t : ℕ) → (1024 * t < wait_span M g n → t < worst_wait M g n) × (t < worst_wait M g n → 1024 * t < wait_span M g n)
unfolding worst_wait
worst-is M g n t = (λ h. omega arith, λ h. omega arith)

-- c times n records of the longest
pub rated : (g : Setting) (n o : ℕ) → o ≤ n * charge g g.longest → rate g * o ≤ n * (rate g * charge g g.longest)
rated g n o h = let c = rate g in let x = charge g g.longest in omega (arith, mul-le-mul_left c h, swap c n x)
  where
    swap : (c n x : ℕ) → c * (n * x) ≡ n * (c * x)
    swap c n x = omega arith

pub waits_by : (M : ℕ) (gs : List Setting) → Setup gs → SetupOk M gs → WaitsBy M gs
unfolding WaitsBy Waits
waits_by M gs setup ok calls past since rest k r n e alone few =
    let g = setting_at gs k in
    (worst-is M g n (bytes_sent gs since)).0
    (omega (arith, waits M gs setup ok calls past since rest k r n e few, rated g n (bytes_sent_of gs k since) (own-most gs calls past since rest k r n e alone few)))

-- a train of which more records were handed out than were before the put
pub out-more : (gs : List Setting) (calls : List Call) (past since rest : List Event) (k : ℕ) (r : Rec) (n : ℕ) → trace (fresh gs) calls ≡ past ++ accepts k r n ∷ since ++ rest
    → n < length (of_train r.train (sent_of k since)) → Out k r past since
unfolding InTurn
out-more gs calls past since rest k r n e h =
    let t = r.train in
    let x = in_turn gs calls past since rest k r n e in
    goes_on (of_train t (sent_of k since)) (queued k t (past ++ accepts k r n ∷ since)) (queued k t past) (of_train t (accepted_of k since)) (bare r) x.1 (omega (arith, x.0))

pub out_by : (M : ℕ) (gs : List Setting) → Setup gs → SetupOk M gs → OutBy M gs
unfolding OutBy WaitsBy
out_by M gs setup ok calls past since rest k r n e alone much =
    elim (dec_le (length (of_train r.train (sent_of k since))) n) [
      | yes few ↦ absurd (omega (arith, much, waits_by M gs setup ok calls past since rest k r n e alone few))
      | no many ↦ out-more gs calls past since rest k r n e (omega arith)
    ]

pub records-out : RecordsOut
unfolding RecordsOut
records-out gs s = (out_by (margin (framing_of gs)) gs s (setup-ok gs s), out_by (1024 * longest_charge gs) gs s (tight-ok gs s))
