-- What an accepted put answers is how many records of its train its lane held before it. Assumes nothing.
use Prim.Native.Nat.{ℕ, ◌<◌}
use native.Mathlib.Omega.{arith}
use mathlib.Core.Path.{◌≡◌, sym, ap, subst, ◌∙◌}
use mathlib.Core.Bool.{Bool}
use mathlib.Core.List.{List, [], ◌∷◌, ◌++◌}
use mathlib.Core.Option.{Option, none, some}
use lib.ListN.{length, length-append}
use Rattle.std.specs.Prelude.{if◌then◌else◌}
use Rattle.rounds.specs.Round.{train_depth}
use Rattle.waiting.specs.Waiting.{is_shared}
use Rattle.waiting.proofs.Laws.{queue-room}
use Rattle.rules.specs.State.{Rec, Setting, setting_at, State, lane_depth, lane_at}
use Rattle.rules.specs.Calls.{Call, put, accepted, ahead, put_refusal, put_of, do_put, fresh, step}
use Rattle.rules.specs.Runs.{Event, after, trace, accepted_of, sent_of, of_train, InOrder, SaysAhead}
use Rattle.rules.proofs.Keep.{PutOk, put-ok, allowed-enters}
use Rattle.rules.proofs.Queues.{queue_at}
use Rattle.rules.proofs.SameSetup.{setting-lane, setup_kept, fresh-setup}
use Rattle.rules.proofs.Kind.{fresh-kind, kind-run}
use Rattle.rules.proofs.Order.{in_order}
use Rattle.rules.proofs.Runs.{split}

-- of one state
pub put-says : (s : State) (j : ℕ) (r : Rec) (n : ℕ) (o : Option ℕ) → PutOk s j r o → (put_of s j r o).reply ≡ accepted n → (n ≡ ahead s j r.train) × (n < (if is_shared (lane_at s j).waiting then train_depth else lane_depth))
unfolding put_of
put-says s j r n none a e =
    let is : n ≡ ahead s j r.train = cc in
    let x = allowed-enters s j r a in
    (is, omega (arith, queue-room (lane_at s j).waiting r.train x.train x.room))
put-says s j r n (some c) a e = let z : ◌≡◌ {A = ℕ} 0 1 = cc in absurd (omega arith)

-- the list of calls goes on with that put
pub begins-with : (s : State) (cs : List Call) (j t m l n : ℕ) (rest : List Event) → trace s cs ≡ record { call = put j t m l; reply = accepted n } ∷ rest → (step s (put j t m l)).reply ≡ accepted n
unfolding trace
begins-with s [] j t m l n rest e = let z : ◌≡◌ {A = ℕ} 0 1 = cc in absurd (omega arith)
begins-with s (c ∷ cs) j t m l n rest e =
    let same : ◌≡◌ {A = Event} (record { call = c; reply = (step s c).reply }) (record { call = put j t m l; reply = accepted n }) = cc in
    subst (λ (x : Call). (step s x).reply ≡ accepted n) (ap (λ (x : Event). x.call) same) (ap (λ (x : Event). x.reply) same)

pub says-ahead : (gs : List Setting) → SaysAhead gs
unfolding SaysAhead InOrder step do_put
says-ahead gs calls past rest j t m l n e =
    let two = split (fresh gs) calls past (record { call = put j t m l; reply = accepted n } ∷ rest) e in
    let s = after (fresh gs) two.calls in
    let r : Rec = record { train = t; mark = m; len = l } in
    let x = put-says s j r n (put_refusal s j r) (put-ok s j r) (begins-with s two.more j t m l n rest two.rest_is) in
    let kind : is_shared (lane_at s j).waiting ≡ (setting_at gs j).shared
    = kind-run (fresh gs) two.calls (fresh-kind gs) j
    ∙ ap (λ (g : Setting). g.shared) (sym (setting-lane s j) ∙ ap (λ (x : List Setting). setting_at x j) (setup_kept (fresh gs) two.calls ∙ fresh-setup gs)) in
    let order : of_train t (accepted_of j past) ≡ of_train t (sent_of j past) ++ queue_at s j t
    = subst (λ (es : List Event). of_train t (accepted_of j es) ≡ of_train t (sent_of j es) ++ queue_at s j t) two.past_is (in_order gs two.calls j t) in
    (omega (arith, ap length order, length-append (of_train t (sent_of j past)) (queue_at s j t), x.0), subst (λ (b : Bool). n < (if b then train_depth else lane_depth)) kind x.1)
