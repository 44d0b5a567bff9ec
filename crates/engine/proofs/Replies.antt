-- From what a call found to what it promises. Assumes nothing.
use Prim.Native.Nat.{ℕ, ◌^◌, ◌<◌, max}
use native.Mathlib.Omega.{arith}
use mathlib.Core.Path.{◌≡◌, refl, sym, ap, subst, ◌∙◌}
use mathlib.Core.Bool.{true, false, false≢true}
use mathlib.Core.List.{List}
use mathlib.Core.Option.{Option, none, some}
use lib.IntN.{ℤ, sub_ℕ}
use borrow.Author.Tests.{lt-ltb, le-ltb}
use Rattle.rules.specs.State.{any_holds, Rec, State, first_of, holds, lane_at, setup_of}
use Rattle.rules.specs.Choice.{Candidate, choose}
use Rattle.rules.specs.Calls.{restart, fresh, do_restart, Call, put, take, look, lag, lagged, lag_of, do_lag, refused, Outcome, no, put_refusal, accept, accepted, ahead, shifted, put_of, do_put, Pick, pick_first, pick_of, picked, serve, take_of, do_take, look_of, do_look, step}
use Rattle.rules.specs.Reads.{number, place_of}
use Rattle.rules.specs.declared.Refusal.{Refusal}
use Rattle.rules.specs.declared.Answer.TheVariants.{Restarted, Accepted, Taken, Seen}
use Rattle.std.specs.Prelude.{Ok, Err}
use Rattle.rules.specs.declared.Record.{Record}
use Rattle.rules.specs.Good.{Times, Good}
use Rattle.rules.proofs.Figures.{slot_at}
use Rattle.rules.proofs.Moves.{idle-first}
use Rattle.rules.proofs.Keep.{Picked, PickIs, pick_is, Allowed, PutOk, put-ok}
use Rattle.rules.proofs.Shift.{shifted-allowed}
use Rattle.rules.proofs.Chosen.{Choice, chosen}
use Rattle.rules.proofs.BySets.{candidate_lane}
use Rattle.table.specs.Means.{meant}
use Rattle.choice.specs.Known.{Known}
use Rattle.back.specs.Back.{TakesBack}
use Rattle.engine.specs.Turns.{Holds, Turns}
use Rattle.engine.proofs.Ends.{known-holds, step-encodes}
use Rattle.engine.specs.Does.{SaysReply, Does, Serves}

-- ---- refusals

pub refusal-says : (c : Call) (t : List ℕ) (x : Refusal) → place_of x ≡ none → step (meant t) c ≡ no (number x) (meant t) → SaysReply c t (Err x)
refusal-says c t x p e = ap (refused (number x)) p ∙ sym (ap (λ (o : Outcome). o.reply) e)

pub refusal-does : (c : Call) (t : List ℕ) (x : Refusal) → Known t → place_of x ≡ none → step (meant t) c ≡ no (number x) (meant t) → Does c t (Err x) t
refusal-does c t x known p e = record {
  says = refusal-says c t x p e;
  encodes = step-encodes (meant t) c t known.good (subst (Holds t) (sym (ap (λ (o : Outcome). o.state) e)) (known-holds t known));
  unchanged = refl;
  rest = refl;
}

-- ---- put

pub put_refused : (s : State) (j t m n r : ℕ) → some r ≡ put_refusal s j (record { train = t; mark = m; len = n }) → step s (put j t m n) ≡ no r s
unfolding step do_put put_of
put_refused s j t m n r e = ap (put_of s j (record { train = t; mark = m; len = n })) (sym e)

put-accepted : (s : State) (j t m n : ℕ) → none ≡ put_refusal s j (record { train = t; mark = m; len = n }) → step s (put j t m n) ≡ put_of s j (record { train = t; mark = m; len = n }) none
unfolding step do_put
put-accepted s j t m n e = ap (put_of s j (record { train = t; mark = m; len = n })) (sym e)

pub put-allowed : (s : State) (j : ℕ) (r : Rec) → none ≡ put_refusal s j r → Allowed s j r
put-allowed s j r e = subst (PutOk s j r) (sym e) (put-ok s j r)

-- the clock taken back changes no lane's room, so that the put stays allowed
pub back-allowed : (t b : List ℕ) (j : ℕ) (r : Rec) → TakesBack t b → Allowed (meant t) j r → Allowed (meant b) j r
back-allowed t b j r k a = subst (λ (s : State). Allowed s j r) (sym k.state) (shifted-allowed (meant t) j r a)

-- t before the put, b with the clock taken back, u after it
pub put-does : (t b u : List ℕ) (j i m n a : ℕ) → Known t → none ≡ put_refusal (meant t) j (record { train = i; mark = m; len = n }) → TakesBack t b → Turns b u (accept (meant b) j (record { train = i; mark = m; len = n }))
    → a ≡ ahead (meant t) j i → Does (put j i m n) t (Ok (Accepted a)) u
unfolding put_of
put-does t b u j i m n a known e k l h =
    let r : Rec = record { train = i; mark = m; len = n } in
    let o = put-accepted (meant t) j i m n e in
    let turns : Turns b u (accept (shifted (meant t)) j r) = subst (λ (s : State). Turns b u (accept s j r)) k.state l in
    record {
      says = ap accepted h ∙ sym (ap (λ (x : Outcome). x.reply) o);
      encodes = step-encodes (meant t) (put j i m n) u known.good (subst (Holds u) (sym (ap (λ (x : Outcome). x.state) o)) turns.holds);
      unchanged = tt;
      rest = l.rest ∙ k.rest;
    }

-- ---- take and look

none-picked : (s : State) → none ≡ candidate_lane (choose s) → picked s ≡ none
unfolding picked pick_of
none-picked s e = go (choose s) e
  where
    go : (o : Option Candidate) → none ≡ candidate_lane o → pick_of s o ≡ none
    go none q = refl
    go (some c) q = let z : ◌≡◌ {A = ℕ} 0 1 = cc in absurd (omega arith)

pub take_none : (s : State) → none ≡ candidate_lane (choose s) → step s take ≡ no 16 s
unfolding step do_take take_of
take_none s e = ap (take_of s) (none-picked s e)

pub look_none : (s : State) → none ≡ candidate_lane (choose s) → step s look ≡ no 16 s
unfolding step do_look look_of
look_none s e = ap (look_of s) (none-picked s e)

-- what is picked where lane k is chosen: the lane's first record
pub record Found (s : State) (k : ℕ) : Type 0 where
  pub pick : Pick
  pub picks : picked s ≡ some pick
  pub lane : pick.lane ≡ k
  pub is : Picked s pick

pub found : (s : State) (k : ℕ) → candidate_lane (choose s) ≡ some k → Found s k
unfolding picked pick_of pick_first choose
found s k e = go (choose s) refl e (pick_is s)
  where
    first : (c : Candidate) (o : Option Rec) → first_of (lane_at s c.lane) ≡ o → choose s ≡ some c → c.lane ≡ k → PickIs s (pick_first c.lane o) → Found s k
    first c none eq ec el h =
        let ch = subst (Choice s.clock s.order 0 s.lanes) ec (chosen s.clock s.order 0 s.lanes) in
        absurd (false≢true (sym (h ch.at) ∙ ch.is))
    first c (some r) eq ec el h = record { pick = record { lane = c.lane; first = r }; picks = ap (pick_of s) ec ∙ ap (pick_first c.lane) eq; lane = el; is = h }

    go : (o : Option Candidate) → choose s ≡ o → candidate_lane o ≡ some k → PickIs s (picked s) → Found s k
    go none ec q h = let z : ◌≡◌ {A = ℕ} 0 1 = cc in absurd (omega arith)
    go (some c) ec q h = first c (first_of (lane_at s c.lane)) refl ec (cc) (subst (λ (o : Option Candidate). PickIs s (pick_of s o)) ec h)

served-state : (s : State) (p : Pick) → picked s ≡ some p → (step s take).state ≡ serve s p.lane p.first
unfolding step do_take take_of
served-state s p e = rw e

pub take-does : (t u : List ℕ) (r : Record) → Known t → Serves t r u → Does take t (Ok (Taken r)) u
unfolding step do_take take_of
take-does t u r known s = record {
  says = rw (s.picks, s.lane, s.train, s.mark, s.size);
  encodes = step-encodes (meant t) take u known.good (subst (Holds u) (sym (served-state (meant t) s.pick s.picks)) s.turns.holds);
  unchanged = tt;
  rest = s.turns.rest;
}

pub look-says : (t : List ℕ) (r : Record) (p : Pick) → picked (meant t) ≡ some p → r.lane ≡ p.lane → r.train ≡ p.first.train → r.mark ≡ p.first.mark → r.length.0 ≡ p.first.len → SaysReply look t (Ok (Seen r))
unfolding step do_look look_of
look-says t r p e l i m n = rw (e, l, i, m, n)

-- ---- lag

module _ (s : State) (j : ℕ) where
  pub lag-none : (lane_at s j).given.weight ≡ 0 → step s (lag j) ≡ no 11 s
  unfolding step do_lag
  lag-none w = simp (lt-ltb (lane_at s j).given.weight 1 (omega (arith, w)))

  lag-some : 0 < (lane_at s j).given.weight → (step s (lag j)).reply ≡ lagged (lag_of s.clock (lane_at s j))
  unfolding step do_lag
  lag-some w = simp (le-ltb (lane_at s j).given.weight 1 w)

  pub lag-busy : 0 < (lane_at s j).given.weight → holds (lane_at s j) ≡ true → (z : ℤ) → z ≡ sub_ℕ s.clock (lane_at s j).start → lagged z ≡ (step s (lag j)).reply
  unfolding lag_of
  lag-busy w h z e = ap lagged (e ∙ simp h) ∙ sym (lag-some w)

  pub lag-idle : 0 < (lane_at s j).given.weight → holds (lane_at s j) ≡ false → (z : ℤ) → z ≡ sub_ℕ s.clock (max (lane_at s j).finish s.clock) → lagged z ≡ (step s (lag j)).reply
  unfolding lag_of
  lag-idle w h z e = ap lagged (e ∙ simp h) ∙ sym (lag-some w)

  -- an idle lane's F is below 2 ^ 63
  pub idle-small : Good s → holds (lane_at s j) ≡ false → (lane_at s j).finish < 2 ^ 63
  idle-small g e =
      let n : Times s.clock (lane_at s j) none = subst (Times s.clock (lane_at s j)) (idle-first (first_of (lane_at s j)) e) (g.numbers j) in
      omega (arith, n, g.clock, slot_at s g.setup j)

-- ---- restart

pub restart_held : (s : State) → any_holds s.lanes ≡ true → step s restart ≡ no 15 s
unfolding step do_restart
restart_held s e = simp e

restarted-state : (s : State) → any_holds s.lanes ≡ false → (step s restart).state ≡ fresh (setup_of s)
unfolding step do_restart
restarted-state s e = simp e

pub restart-does : (t u : List ℕ) → Known t → any_holds (meant t).lanes ≡ false → Turns t u (fresh (setup_of (meant t))) → Does restart t (Ok Restarted) u
unfolding step do_restart
restart-does t u known e l = record {
  says = simp e;
  encodes = step-encodes (meant t) restart u known.good (subst (Holds u) (sym (restarted-state (meant t) e)) l.holds);
  unchanged = tt;
  rest = l.rest;
}
