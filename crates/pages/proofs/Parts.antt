-- A list of the rules' events that ends in a part made by calls from a fresh state, and before which every lane's accepted records had all been handed out.
-- Assumes nothing.
use Prim.Native.Nat.{ℕ, ◌+◌}
use native.Mathlib.Omega.{arith}
use mathlib.Core.Path.{◌≡◌, refl, sym, ap, subst, ◌∙◌}
use mathlib.Core.Bool.{false}
use mathlib.Core.List.{List, [], ◌∷◌, ◌++◌, append_assoc, append-nil}
use lib.ListN.{length, length-append}
use Rattle.rounds.specs.Round as round
use Rattle.waiting.proofs.Laws.{held_none, queue-none}
use Rattle.rules.specs.State.{Setting, State, first_of, lane_at, setup_of, any_holds}
use Rattle.rules.specs.Calls.{Call, fresh, step}
use Rattle.rules.specs.Runs.{Event, after, trace, accepted_of, sent_of, of_train, InOrder}
use Rattle.rules.proofs.Moves.{idle-first}
use Rattle.rules.proofs.Keep.{AllSound}
use Rattle.rules.proofs.Sound.{fresh-sound, sound-run}
use Rattle.rules.proofs.Lowest.{none-holds}
use Rattle.rules.proofs.Queues.{queue_at, held_at}
use Rattle.rules.proofs.SameSetup.{setup_kept, fresh-setup}
use Rattle.rules.proofs.Order.{in_order, of-append, held-run, fresh-held}
use Rattle.rules.proofs.Runs.{after-append, trace-append}
use Rattle.rules.proofs.Counts.{accepted-append, sent-append}

-- ---- parts

-- in number, lane by lane, and in order, train by train
unfoldable pub Cleared : List Event → Type 0
Cleared es = (k : ℕ) → (length (accepted_of k es) ≡ length (sent_of k es)) × ((t : ℕ) → of_train t (accepted_of k es) ≡ of_train t (sent_of k es))

pub cleared-nil : Cleared []
unfolding Cleared accepted_of sent_of
cleared-nil k = (refl, λ t. refl)

pub record Part (es : List Event) (s : State) : Type 0 where
  pub given : List Setting
  pub old : List Event
  pub now : List Call
  pub events : es ≡ old ++ trace (fresh given) now
  pub state : s ≡ after (fresh given) now
  pub even : Cleared old

pub part-setup : (es : List Event) (s : State) (p : Part es s) → setup_of s ≡ p.given
part-setup es s p = ap setup_of p.state ∙ setup_kept (fresh p.given) p.now ∙ fresh-setup p.given

-- each accepted record is handed out once, in its train's order, or is still held
pub part-order : (es : List Event) (s : State) → Part es s → (k t : ℕ) → of_train t (accepted_of k es) ≡ of_train t (sent_of k es) ++ queue_at s k t
unfolding Cleared InOrder
part-order es s p k t =
    let u = trace (fresh p.given) p.now in
    let q = queue_at s k t in
    ap (λ (x : List Event). of_train t (accepted_of k x)) p.events ∙ ap (of_train t) (accepted-append k p.old u) ∙ of-append t (accepted_of k p.old) (accepted_of k u)
    ∙ ap (λ (x : List round.BareRec). x ++ of_train t (accepted_of k u)) ((p.even k).1 t)
    ∙ ap (λ (x : List round.BareRec). of_train t (sent_of k p.old) ++ x) (in_order p.given p.now k t ∙ ap (λ (x : State). of_train t (sent_of k u) ++ queue_at x k t) (sym p.state))
    ∙ sym (append_assoc (of_train t (sent_of k p.old)) (of_train t (sent_of k u)) q)
    ∙ ap (λ (x : List round.BareRec). x ++ q)
    (sym (ap (λ (x : List Event). of_train t (sent_of k x)) p.events ∙ ap (of_train t) (sent-append k p.old u) ∙ of-append t (sent_of k p.old) (sent_of k u)))

-- and in number, lane by lane
pub part_count : (es : List Event) (s : State) → Part es s → (k : ℕ) → length (accepted_of k es) ≡ length (sent_of k es) + held_at s k
unfolding Cleared
part_count es s p k =
    let f = fresh p.given in
    let u = trace f p.now in
    omega (
      arith,
      (p.even k).0,
      ap (λ (x : List Event). length (accepted_of k x)) p.events,
      ap (λ (x : List Event). length (sent_of k x)) p.events,
      ap length (accepted-append k p.old u),
      ap length (sent-append k p.old u),
      length-append (accepted_of k p.old) (accepted_of k u),
      length-append (sent_of k p.old) (sent_of k u),
      held-run k f p.now (fresh-sound p.given),
      fresh-held p.given k,
      ap (λ (x : State). held_at x k) p.state,
    )

pub sound : (es : List Event) (s : State) → Part es s → AllSound s
sound es s p = subst AllSound (sym p.state) (sound-run (fresh p.given) p.now (fresh-sound p.given))

pub part-fresh : (gs : List Setting) (es : List Event) → Cleared es → Part es (fresh gs)
unfolding after trace
part-fresh gs es even = record { given = gs; old = es; now = []; events = sym (append-nil es); state = refl; even = even }

pub part_step : (es : List Event) (s : State) (c : Call) → Part es s → Part (es ++ (record { call = c; reply = (step s c).reply } ∷ [])) (step s c).state
unfolding after trace
part_step es s c p =
    let f = fresh p.given in
    let end : (x : State) → x ≡ after f p.now → trace (after f p.now) (c ∷ []) ≡ record { call = c; reply = (step x c).reply } ∷ []
    = λ x e. ap (λ (y : State). record { call = c; reply = (step y c).reply } ∷ []) (sym e) in
    record {
      given = p.given;
      old = p.old;
      now = p.now ++ (c ∷ []);
      events =
          ap (λ (x : List Event). x ++ (record { call = c; reply = (step s c).reply } ∷ [])) p.events
          ∙ append_assoc p.old (trace f p.now) (record { call = c; reply = (step s c).reply } ∷ [])
          ∙ ap (λ (x : List Event). p.old ++ x) (ap (λ (x : List Event). trace f p.now ++ x) (sym (end s p.state)) ∙ sym (trace-append f p.now (c ∷ [])));
      state = ap (λ (x : State). (step x c).state) p.state ∙ sym (after-append f p.now (c ∷ []));
      even = p.even;
    }

-- where nothing is held every accepted record has been handed out
pub part-cleared : (es : List Event) (s : State) → Part es s → any_holds s.lanes ≡ false → Cleared es
unfolding Cleared
part-cleared es s p e k =
    let l = lane_at s k in
    let idle = idle-first (first_of l) (none-holds s.lanes e k) in (
      omega (arith, part_count es s p k, held_none l.given.longest l.waiting (sound es s p k) idle),
      λ t.
          part-order es s p k t ∙ ap (λ (x : List round.BareRec). of_train t (sent_of k es) ++ x) (queue-none l.given.longest l.waiting (sound es s p k) idle t)
          ∙ append-nil (of_train t (sent_of k es)),
    )
