-- Two trains of one lane, of every list of calls from a fresh table. Assumes nothing.
use Prim.Native.Nat.{ℕ, ◌+◌, ◌*◌, ◌≤◌, ◌<◌}
use native.Mathlib.Omega.{arith}
use mathlib.Core.Path.{◌≡◌, refl, sym, ap, subst, ◌∙◌}
use mathlib.Core.Bool.{true}
use mathlib.Core.List.{List, [], ◌∷◌, ◌++◌}
use lib.ListN.{length, length-append}
use Rattle.units.proofs.Lists.{same_or}
use Rattle.rounds.specs.Round as round
use Rattle.waiting.specs.Waiting.{queue_of}
use Rattle.waiting.proofs.Others.{Has}
use Rattle.rules.specs.State.{Setting, setting_at, State, lane_at}
use Rattle.rules.specs.Calls.{Call, fresh}
use Rattle.rules.specs.Runs.{Event, after, trace, sent_of, of_train, InOrder}
use Rattle.rules.specs.Even.{HoldingTrain, train_bytes, OthersTight, EvenTight, EvenTrains}
use Rattle.rules.proofs.SameSetup.{setting-lane, setup_kept, fresh-setup}
use Rattle.rules.proofs.Sound.{sound-run, fresh-sound}
use Rattle.rules.proofs.Order.{in_order}
use Rattle.rules.proofs.Runs.{after-append, trace-append, split}
use Rattle.rules.proofs.Others.{others-bytes}

-- ---- from a fresh table

-- a train that holds a record by the events' count holds one in the state
holds-train : (gs : List Setting) (k t : ℕ) (cs : List Call) → HoldingTrain k t (trace (fresh gs) cs) → round.queued? (queue_of (lane_at (after (fresh gs) cs) k).waiting t) ≡ true
unfolding InOrder
holds-train gs k t cs h =
    go (queue_of (lane_at (after (fresh gs) cs) k).waiting t)
    (omega (arith, ap length (in_order gs cs k t), length-append (of_train t (sent_of k (trace (fresh gs) cs))) (queue_of (lane_at (after (fresh gs) cs) k).waiting t)))
  where
    go : (q : List round.BareRec) → 0 < length q → round.queued? q ≡ true
    go [] p = absurd (omega arith)
    go (x ∷ xs) p = refl

given_is : (gs : List Setting) (k : ℕ) (cs : List Call) → (lane_at (after (fresh gs) cs) k).given.longest ≡ (setting_at gs k).longest
given_is gs k cs = ap (λ (g : Setting). g.longest) (sym (setting-lane (after (fresh gs) cs) k) ∙ ap (λ (x : List Setting). setting_at x k) (setup_kept (fresh gs) cs ∙ fresh-setup gs))

others-calls : (gs : List Setting) (k a b : ℕ) → (a ≡ b → ⊥) → (pre mid : List Call) → ((p q : List Call) → p ++ q ≡ mid → HoldingTrain k a (trace (fresh gs) (pre ++ p)))
    → train_bytes k b (trace (after (fresh gs) pre) mid) + 2 ≤ train_bytes k a (trace (after (fresh gs) pre) mid) + 3 * (setting_at gs k).longest
others-calls gs k a b apart pre mid h =
    let s = after (fresh gs) pre in
    let held : (p q : List Call) → p ++ q ≡ mid → Has a (lane_at (after s p) k).waiting
    = λ p q e. subst (λ (x : State). Has a (lane_at x k).waiting) (after-append (fresh gs) pre p) (holds-train gs k a (pre ++ p) (h p q e)) in
    let same : (lane_at (after s mid) k).given.longest ≡ (lane_at s k).given.longest
    = ap (λ (x : State). (lane_at x k).given.longest) (sym (after-append (fresh gs) pre mid)) ∙ given_is gs k (pre ++ mid) ∙ sym (given_is gs k pre) in
    omega (arith, others-bytes k a b apart s mid (sound-run (fresh gs) pre (fresh-sound gs)) held same, given_is gs k pre)

pub others_tight : (gs : List Setting) → OthersTight gs
unfolding OthersTight
others_tight gs calls past stretch rest e k a b apart h =
    let all = split (fresh gs) calls (past ++ stretch) rest e in
    let two = split (fresh gs) all.calls past stretch all.past_is in
    let s = after (fresh gs) two.calls in
    subst (λ (es : List Event). train_bytes k b es + 2 ≤ train_bytes k a es + 3 * (setting_at gs k).longest) two.rest_is
    (others-calls gs k a b apart two.calls two.more
    (λ p q g.
    subst (HoldingTrain k a) (sym (trace-append (fresh gs) two.calls p ∙ ap (λ (es : List Event). es ++ trace s p) two.past_is))
    (h (trace s p) (trace (after s p) q) (sym (trace-append s p q) ∙ ap (trace s) g ∙ two.rest_is))))

-- where both hold records, each of them is the one that does
pub even_tight : (gs : List Setting) → EvenTight gs
unfolding EvenTight OthersTight
even_tight gs calls past stretch rest e k a b apart h = others_tight gs calls past stretch rest e k b a (λ q. apart (sym q)) (λ p q g. (h p q g).1)

pub even-trains : (gs : List Setting) → EvenTrains gs
unfolding EvenTrains EvenTight
even-trains gs calls past stretch rest e k a b h =
    same_or a b (λ q. omega (arith, ap (λ (t : ℕ). train_bytes k t stretch) q)) (λ n. omega (arith, even_tight gs calls past stretch rest e k a b n h))
