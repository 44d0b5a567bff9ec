-- Each accepted record is handed out once, in its lane's order, or is still held: for every list of calls from a fresh table of any settings.
-- Assumes nothing.
use Prim.Native.Nat.{ℕ, ◌+◌}
use native.Mathlib.Omega.{arith}
use lib.Dec.{eqb}
use lib.ListN.{length, get_or, length-append}
use Rattle.std.specs.Prelude.{if◌then◌else◌}
use mathlib.Core.Path.{◌≡◌, refl, sym, ap, ◌∙◌}
use mathlib.Core.List.{List, [], ◌∷◌, ◌++◌, append_assoc, append-nil}
use Rattle.rounds.specs.Round as round
use Rattle.waiting.specs.Waiting.{bare, queue_of, held}
use Rattle.waiting.proofs.Laws.{queue-nothing, held-nothing}
use Rattle.rules.specs.State.{Rec, Setting, no_setting, Lane, State}
use Rattle.rules.specs.Calls.{Call, idle, fresh, step}
use Rattle.rules.specs.Runs.{after, trace, accepted_in, of_lane, sent_in, accepted_of, sent_of, of_train, InOrder}
use Rattle.rules.proofs.Bounds.{idle-at}
use Rattle.rules.proofs.Queues.{queue_at, held_at, step-passed}
use Rattle.rules.proofs.Keep.{AllSound}
use Rattle.rules.proofs.Sound.{fresh-sound, step-sound}

-- from any state: what was queued and what was accepted is what was handed out and what is queued
pub of-append : (t : ℕ) (xs ys : List Rec) → of_train t (xs ++ ys) ≡ of_train t xs ++ of_train t ys
unfolding of_train
of-append t [] ys = refl
of-append t (x ∷ xs) ys =
    ap (λ (q : List round.BareRec). (if eqb x.train t then bare x ∷ [] else []) ++ q) (of-append t xs ys)
    ∙ sym (append_assoc (if eqb x.train t then bare x ∷ [] else []) (of_train t xs) (of_train t ys))

pub queue-run : (k t : ℕ) (s : State) (cs : List Call) → AllSound s → queue_at s k t ++ of_train t (accepted_of k (trace s cs)) ≡ of_train t (sent_of k (trace s cs)) ++ queue_at (after s cs) k t
unfolding trace after accepted_of sent_of of_train
queue-run k t s [] w = append-nil (queue_at s k t)
queue-run k t s (c ∷ cs) w =
    let o = step s c in
    let a = of_lane k (accepted_in (record { call = c; reply = o.reply })) in
    let x = of_lane k (sent_in o.reply) in
    ap (λ (q : List round.BareRec). queue_at s k t ++ q) (of-append t a (accepted_of k (trace o.state cs)))
    ∙ sym (append_assoc (queue_at s k t) (of_train t a) (of_train t (accepted_of k (trace o.state cs))))
    ∙ ap (λ (q : List round.BareRec). q ++ of_train t (accepted_of k (trace o.state cs))) ((step-passed k s c).fifo w t)
    ∙ append_assoc (of_train t x) (queue_at o.state k t) (of_train t (accepted_of k (trace o.state cs)))
    ∙ ap (λ (q : List round.BareRec). of_train t x ++ q) (queue-run k t o.state cs (step-sound s c w))
    ∙ sym (append_assoc (of_train t x) (of_train t (sent_of k (trace o.state cs))) (queue_at (after o.state cs) k t))
    ∙ ap (λ (q : List round.BareRec). q ++ queue_at (after o.state cs) k t) (sym (of-append t x (sent_of k (trace o.state cs))))

pub fresh-queue : (gs : List Setting) (k t : ℕ) → queue_at (fresh gs) k t ≡ []
unfolding fresh idle
fresh-queue gs k t = ap (λ (l : Lane). queue_of l.waiting t) (idle-at gs k) ∙ queue-nothing (get_or gs k no_setting).shared t

pub in_order : (gs : List Setting) → InOrder gs
unfolding InOrder
in_order gs calls k t = ap (λ (q : List round.BareRec). q ++ of_train t (accepted_of k (trace (fresh gs) calls))) (sym (fresh-queue gs k t)) ∙ queue-run k t (fresh gs) calls (fresh-sound gs)

-- and how many: the lane holds what was accepted and not handed out
pub held-run : (k : ℕ) (s : State) (cs : List Call) → AllSound s → held_at s k + length (accepted_of k (trace s cs)) ≡ length (sent_of k (trace s cs)) + held_at (after s cs) k
unfolding trace after accepted_of sent_of
held-run k s [] w = omega arith
held-run k s (c ∷ cs) w =
    let o = step s c in
    let a = of_lane k (accepted_in (record { call = c; reply = o.reply })) in
    let x = of_lane k (sent_in o.reply) in
    omega (
      arith,
      length-append a (accepted_of k (trace o.state cs)),
      length-append x (sent_of k (trace o.state cs)),
      (step-passed k s c).count w,
      held-run k o.state cs (step-sound s c w),
    )

pub fresh-held : (gs : List Setting) (k : ℕ) → held_at (fresh gs) k ≡ 0
unfolding fresh idle
fresh-held gs k = ap (λ (l : Lane). held l.waiting) (idle-at gs k) ∙ held-nothing (get_or gs k no_setting).shared
