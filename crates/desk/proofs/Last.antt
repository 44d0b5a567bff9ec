-- After the greatest sequence nothing of its train is accepted until it is cleared. Assumes nothing.
use Prim.Native.Nat.{ℕ}
use native.Mathlib.Omega.{arith}
use mathlib.Core.Path.{◌≡◌, refl, ap, ◌∙◌}
use mathlib.Core.Bool.{Bool, true, false, not}
use mathlib.Core.Logic.{◌⊎◌, inl, inr, ⊎_elim}
use mathlib.Core.List.{List, [], ◌∷◌}
use mathlib.Core.Option.{Option, none, some}
use lib.Dec.{eqb, ltb}
use lib.ListN.{length}
use borrow.Author.Tests.{eq-eqb, ne_eqb, le-ltb}
use Rattle.std.specs.Prelude.{if◌then◌else◌}
use Rattle.units.proofs.Bools.{if-same}
use Rattle.words.proofs.Runs.{eq-or-ne}
use Rattle.desk.specs.Board.{Handover, Board, line_at, train_line, lowest, train_shown, Makeable}
use Rattle.desk.specs.Calls.{BoardCall, enter_record, clear, board_refused, known_kind, record_judged, record_refusal, left, record_cleared, board_step, board_after, Sayable, AllSayable, is_told, noted}
use Rattle.desk.specs.Claims.{NotCleared, EndsAtLast}
use Rattle.desk.proofs.Keep.{keeps}
use Rattle.desk.proofs.Shows.{shown-step}

judged-last : (o r : Handover) (free : Bool) → o.sequence ≡ 4294967295 → record_judged (some o) free r ≡ some 32
judged-last o r free e = rw (le-ltb o.sequence 4294967295 (omega (arith, e)))

-- 30 goes first
or-30 : (v : Bool) (x : Option ℕ) → x ≡ some 32 → (if not v then some 30 else x) ≡ some (if v then 32 else 30)
or-30 true x e = e
or-30 false x e = refl

-- the board b shows o, which has the greatest sequence
module _ (b : Board) (o : Handover) (m : Makeable b) (on : train_shown o.train b ≡ some o) (last : o.sequence ≡ 4294967295) where
  refused-last : (r : Handover) → r.train ≡ o.train → record_refusal b r ≡ some (if known_kind r.kind then 32 else 30)
  unfolding record_refusal
  refused-last r e =
      let l : line_at b (train_line r.train b) ≡ some o = ap (λ t. train_shown t b) e ∙ on in
      or-30 (known_kind r.kind) (record_judged (line_at b (train_line r.train b)) (ltb (lowest b) (length b)) r)
      (ap (λ x. record_judged x (ltb (lowest b) (length b)) r) l ∙ judged-last o r (ltb (lowest b) (length b)) last)

  pub refuses : (r : Handover) → r.train ≡ o.train → board_step b (enter_record r) ≡ record { reply = board_refused (if known_kind r.kind then 32 else 30); board = b }
  unfolding board_step
  refuses r e = rw (refused-last r e)

  -- a call that leaves the train as it was noted
  other : (c : BoardCall) → Sayable c → noted o.train (some o) c ≡ some o → train_shown o.train (board_step b c).board ≡ some o
  other c s e =
      shown-step b c o.train m (keeps b c m s)
      ∙ ap (λ x. if is_told (board_step b c).reply then noted o.train x c else x) on
      ∙ ap (λ x. if is_told (board_step b c).reply then x else some o) e
      ∙ if-same (is_told (board_step b c).reply) (some o)

  stays-one : (c : BoardCall) → Sayable c → (c ≡ clear o.train → ⊥) ⊎ (o.kind ≡ 1) → train_shown o.train (board_step b c).board ≡ some o
  unfolding board_step
  stays-one (enter_record r) s k =
      ⊎_elim
      (λ (e : r.train ≡ o.train). ap (λ x. train_shown o.train x.board) (refuses r e) ∙ on)
      (λ (n : r.train ≡ o.train → ⊥). other (enter_record r) s (rw (ne_eqb r.train o.train n)))
      (eq-or-ne r.train o.train)
  stays-one (clear u) s k =
      ⊎_elim
      (λ (e : u ≡ o.train). ⊎_elim
      (λ (n : clear u ≡ clear o.train → ⊥). absurd (n (ap clear e)))
      (λ (one : o.kind ≡ 1). ap (λ x. train_shown o.train (record_cleared x b (train_line u b)).board) (ap left (ap (λ t. train_shown t b) e ∙ on) ∙ ap (λ n. eqb n 2) one) ∙ on)
      k)
      (λ (n : u ≡ o.train → ⊥). other (clear u) s (rw (ne_eqb u o.train n)))
      (eq-or-ne u o.train)

  pub cleared-left : o.kind ≡ 2 → Sayable (clear o.train) → train_shown o.train (board_step b (clear o.train)).board ≡ none
  unfolding board_step
  cleared-left two s =
      shown-step b (clear o.train) o.train m (keeps b (clear o.train) m s)
      ∙ rw (on, two, eq-eqb o.train o.train refl)

stays_all : (cs : List BoardCall) (b : Board) (o : Handover) → Makeable b → train_shown o.train b ≡ some o → o.sequence ≡ 4294967295 → AllSayable cs → NotCleared o.train cs ⊎ (o.kind ≡ 1)
    → train_shown o.train (board_after b cs) ≡ some o
unfolding board_after AllSayable NotCleared
stays_all [] b o m on last s k = on
stays_all (c ∷ cs) b o m on last s k =
    stays_all cs (board_step b c).board o (keeps b c m s.0) (stays-one b o m on last c s.0 (head k)) last s.1 (tail k)
  where
    head : NotCleared o.train (c ∷ cs) ⊎ (o.kind ≡ 1) → (c ≡ clear o.train → ⊥) ⊎ (o.kind ≡ 1)
    head (inl n) = inl n.0
    head (inr one) = inr one

    tail : NotCleared o.train (c ∷ cs) ⊎ (o.kind ≡ 1) → NotCleared o.train cs ⊎ (o.kind ≡ 1)
    tail (inl n) = inl n.1
    tail (inr one) = inr one

pub ends-at-last : EndsAtLast
unfolding Sayable
ends-at-last b o m on last = record {
  refuses = refuses b o m on last;
  stays = λ cs s n. stays_all cs b o m on last s (inl n);
  left = λ two. cleared-left b o m on last two (m.fine (train_line o.train b) o on).carried.train;
  joined = λ one cs s. stays_all cs b o m on last s (inr one);
}
