-- No record waits for ever: while a lane holds a record each take hands one out, of a byte or more. Assumes nothing.
use Prim.Native.Nat.{ℕ, ◌≤◌}
use native.Mathlib.Omega.{arith}
use native.Mathlib.Decide.{dec_le}
use mathlib.Core.Path.{◌≡◌, refl, sym, ap, subst, ◌∙◌}
use mathlib.Core.Bool.{true, false≢true}
use mathlib.Core.Option.{Option, none, some}
use mathlib.Core.List.{List, [], ◌∷◌, ◌++◌}
use lib.ListN.{length}
use Rattle.waiting.proofs.Laws.{first_fits}
use Rattle.rules.specs.State.{Rec, Setting, setting_at, State, holds, lane_at}
use Rattle.rules.specs.Setup.{Setup, framing_of, margin}
use Rattle.rules.specs.Calls.{Call, put, take, look, sets, lag, restart, Pick, picked, take_of, do_take, fresh, step}
use Rattle.rules.specs.Runs.{Event, after, trace, sent_in, sent_of, of_train}
use Rattle.rules.specs.Fair.{charged, bytes_sent, Holding}
use Rattle.rules.specs.Waits.{accepts, NotYet, OutBy, is_take, takes_in, OutByTakes}
use Rattle.rules.proofs.Lane.{le-charge}
use Rattle.rules.proofs.Keep.{PickIs, pick_is}
use Rattle.rules.proofs.Live.{nothing-held}
use Rattle.rules.proofs.AlwaysGood.{Reached, fresh-reached, step-reached, reached, reached-good, reached-live}
use Rattle.rules.proofs.Runs.{after-append, trace-append, split}
use Rattle.rules.proofs.Fair.{holds_of, setup-ok}
use Rattle.rules.proofs.Waits.{joined, still-holds, out-more, out_by}

take-sends : (gs : List Setting) (k : ℕ) (s : State) → Reached s → holds (lane_at s k) ≡ true → 1 ≤ charged gs (sent_in (step s take).reply)
unfolding step do_take take_of sent_in charged
take-sends gs k s r held = go (picked s) (pick_is s)
  where
    go : (o : Option Pick) → PickIs s o → 1 ≤ charged gs (sent_in (take_of s o).reply)
    go none h = absurd (false≢true (sym (nothing-held s (reached-live s r) h k) ∙ held))
    go (some p) h =
        let l = lane_at s p.lane in
        omega (arith, (first_fits l.given.longest l.waiting p.first ((reached-good s r).waiting p.lane) h.is_first).0, le-charge (setting_at gs p.lane) p.first.len)

call-sends : (gs : List Setting) (k : ℕ) (s : State) (c : Call) → Reached s → holds (lane_at s k) ≡ true → is_take c ≤ charged gs (sent_in (step s c).reply)
unfolding is_take
call-sends gs k s (put j t m n) r held = omega arith
call-sends gs k s take r held = take-sends gs k s r held
call-sends gs k s look r held = omega arith
call-sends gs k s sets r held = omega arith
call-sends gs k s (lag j) r held = omega arith
call-sends gs k s restart r held = omega arith

takes-send : (k : ℕ) (gs : List Setting) (s : State) (mid : List Call) → Reached s → ((p q : List Call) → p ++ q ≡ mid → holds (lane_at (after s p) k) ≡ true)
    → takes_in (trace s mid) ≤ bytes_sent gs (trace s mid)
unfolding trace after
takes-send k gs s [] r held = omega arith
takes-send k gs s (c ∷ cs) r held =
    omega (
      arith,
      call-sends gs k s c r (held [] (c ∷ cs) refl),
      takes-send k gs (step s c).state cs (step-reached s c r) (λ p q e. held (c ∷ p) q (ap (λ (x : List Call). c ∷ x) e)),
    )

-- the takes of a stretch in which a lane holds records throughout
pub stretch-takes : (gs : List Setting) → Setup gs → (calls : List Call) (past stretch rest : List Event) → trace (fresh gs) calls ≡ past ++ stretch ++ rest
    → (k : ℕ) → ((p q : List Event) → p ++ q ≡ stretch → Holding k (past ++ p)) → takes_in stretch ≤ bytes_sent gs stretch
stretch-takes gs ok calls past stretch rest e k holding =
    let all = split (fresh gs) calls (past ++ stretch) rest e in
    let two = split (fresh gs) all.calls past stretch all.past_is in
    let s = after (fresh gs) two.calls in
    let held : (p q : List Call) → p ++ q ≡ two.more → holds (lane_at (after s p) k) ≡ true
    = λ p q h.
    rw (after-append (fresh gs) two.calls p) at
    (holds_of gs k (two.calls ++ p)
    (subst (Holding k) (sym (trace-append (fresh gs) two.calls p ∙ ap (λ (es : List Event). es ++ trace s p) two.past_is))
    (holding (trace s p) (trace (after s p) q) (sym (trace-append s p q) ∙ ap (trace s) h ∙ two.rest_is)))) in
    subst (λ (es : List Event). takes_in es ≤ bytes_sent gs es) two.rest_is
    (takes-send k gs s two.more (reached (fresh gs) two.calls (fresh-reached gs ok)) held)

-- the takes since a put whose record was not handed out
since-sends : (gs : List Setting) → Setup gs → (calls : List Call) (past since rest : List Event) (k : ℕ) (r : Rec) (n : ℕ) → trace (fresh gs) calls ≡ past ++ accepts k r n ∷ since ++ rest
    → NotYet k r n since → takes_in since ≤ bytes_sent gs since
since-sends gs ok calls past since rest k r n e few =
    stretch-takes gs ok calls (past ++ accepts k r n ∷ []) since rest (joined gs calls past since rest k r n e) k (still-holds gs calls past since rest k r n e few)

pub out-by-takes : OutByTakes
unfolding OutByTakes OutBy
out-by-takes gs ok calls past since rest k r n e alone much =
    elim (dec_le (length (of_train r.train (sent_of k since))) n) [
      | yes few ↦ out_by (margin (framing_of gs)) gs ok (setup-ok gs ok) calls past since rest k r n e alone (omega (arith, much, since-sends gs ok calls past since rest k r n e few))
      | no many ↦ out-more gs calls past since rest k r n e (omega arith)
    ]
