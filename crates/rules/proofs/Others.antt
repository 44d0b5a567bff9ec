-- What any other train of a lane is sent while one holds records: the figure of waiting/proofs/Others.antt, carried to stretches of calls. Assumes nothing.
use Prim.Native.Nat.{ℕ, ◌+◌, ◌*◌, ◌≤◌, ◌<◌}
use native.Mathlib.Omega.{arith}
use mathlib.Core.Path.{◌≡◌, refl, sym, ap, subst, ◌∙◌}
use mathlib.Core.Bool.{Bool, true, false, false≢true}
use mathlib.Core.List.{List, [], ◌∷◌, ◌++◌, append-nil}
use lib.Dec.{eqb}
use Rattle.std.specs.Prelude.{if◌then◌else◌}
use Rattle.rounds.specs.Round as round
use Rattle.rounds.specs.Runs.{bytes}
use Rattle.rounds.proofs.Figure.{worth}
use Rattle.rounds.proofs.Others.{bytes-append}
use Rattle.waiting.specs.Waiting.{Waiting, bare}
use Rattle.waiting.proofs.Laws.{queue-none}
use Rattle.waiting.proofs.Others.{up_of, down_of, Has, Under, under-enter, under-hand, under-range}
use Rattle.rules.specs.State.{Rec, State, lane_at}
use Rattle.rules.specs.Calls.{Call}
use Rattle.rules.specs.Runs.{after, trace, of_train}
use Rattle.rules.specs.Even.{train_bytes}
use Rattle.rules.proofs.Keep.{AllSound}
use Rattle.rules.proofs.Queues.{of_one}
use Rattle.rules.proofs.Sound.{sound-run}
use Rattle.rules.proofs.Order.{of-append}
use Rattle.rules.proofs.Carry.{Carries, run-carried}

-- the bare bytes of a train among records, of one record and of two lists
pub one-bytes : (t : ℕ) (r : Rec) → bytes (of_train t (r ∷ [])) ≡ worth (eqb r.train t) r.len
one-bytes t r = ap bytes (of_one t r) ∙ go (eqb r.train t)
  where
    go : (c : Bool) → bytes (if c then bare r ∷ [] else []) ≡ worth c r.len
    go true = omega arith
    go false = refl

pub more_bytes : (t : ℕ) (xs ys : List Rec) → bytes (of_train t (xs ++ ys)) ≡ bytes (of_train t xs) + bytes (of_train t ys)
more_bytes t xs ys = ap bytes (of-append t xs ys) ∙ bytes-append (of_train t xs) (of_train t ys)

module _ (k a b : ℕ) (apart : a ≡ b → ⊥) where
  abbrev Sent : ℕ → Waiting → Waiting → List Rec → Type 0
  Sent L w u xs = Under L a b w u (bytes (of_train a xs)) (bytes (of_train b xs))

  carries : Carries (Has a) Sent
  unfolding of_train
  carries = record {
    stays = λ L w. omega arith;
    enters = λ L w r g h. under-enter L a b apart w r g h;
    hands = λ L w x g e h h'. rw (one-bytes a x, one-bytes b x) (under-hand L a b apart w x g e h h');
    joins = λ L w u v xs ys p q. omega (arith, p, q, more_bytes a xs ys, more_bytes b xs ys);
    some_record = λ L w g e h. false≢true (ap round.queued? (sym (queue-none L w g e a)) ∙ h);
  }

  pub others-bytes : (s : State) (mid : List Call) → AllSound s → ((p q : List Call) → p ++ q ≡ mid → Has a (lane_at (after s p) k).waiting)
      → (lane_at (after s mid) k).given.longest ≡ (lane_at s k).given.longest
      → train_bytes k b (trace s mid) + 2 ≤ train_bytes k a (trace s mid) + 3 * (lane_at s k).given.longest
  unfolding after
  others-bytes s mid w h same =
      let L = (lane_at s k).given.longest in
      let u = (lane_at (after s mid) k).waiting in
      let start = under-range L a b apart (lane_at s k).waiting (w k) (h [] mid refl) in
      let end = subst (λ (L : ℕ). (down_of L a b u < up_of L a b u + L) × (up_of L a b u < down_of L a b u + 2 * L)) same
      (under-range (lane_at (after s mid) k).given.longest a b apart u (sound-run s mid w k) (h mid [] (append-nil mid))) in
      omega (arith, run-carried k (Has a) Sent carries s mid w h, start, end)
