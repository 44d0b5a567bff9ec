-- Two records of different trains, both on the board: the same replies and the same board in either order. Assumes nothing.
use Prim.Native.Nat.{ℕ, ◌<◌}
use mathlib.Core.Path.{◌≡◌, refl, sym, ap, ◌∙◌}
use mathlib.Core.Bool.{true, not}
use mathlib.Core.Option.{Option, none, some}
use lib.Dec.{ltb}
use lib.ListN.{length, length-set}
use lib.Seq.{set_comm}
use borrow.Author.Tests.{ne_eqb}
use Rattle.std.specs.Prelude.{if◌then◌else◌}
use Rattle.desk.specs.Board.{Handover, Board, line_at, train_line, lowest}
use Rattle.desk.specs.Calls.{enter_record, known_kind, record_judged, record_refusal, record_entered, board_step}
use Rattle.desk.specs.Claims.{InEitherOrder}
use Rattle.desk.proofs.Lines.{of-used, of_one, stands, target-old, place-stays, line_stays}

-- what decides on a record of a train that is on the board: its line
abbrev pub verdict : Option Handover → Handover → Option ℕ
verdict x r = if not (known_kind r.kind) then some 30 else record_judged x true r

pub on-refusal : (b : Board) (r : Handover) → train_line r.train b < length b → record_refusal b r ≡ verdict (line_at b (train_line r.train b)) r
unfolding record_refusal
on-refusal b r h =
    let u = of-used (line_at b (train_line r.train b)) r.train (stands b r.train h) in
    go (line_at b (train_line r.train b)) u.0 u.1
  where
    go : (x : Option Handover) (o : Handover) → x ≡ some o
        → (if not (known_kind r.kind) then some 30 else record_judged x (ltb (lowest b) (length b)) r) ≡ (if not (known_kind r.kind) then some 30 else record_judged x true r)
    go x o e = rw e

on_step : (b : Board) (r : Handover) → train_line r.train b < length b → board_step b (enter_record r) ≡ record_entered (verdict (line_at b (train_line r.train b)) r) b (train_line r.train b) r
unfolding board_step
on_step b r h = rw (on-refusal b r h, target-old b r h)

-- the board after a record of another train
module _ (b : Board) (q r : Handover) (n : q.train ≡ r.train → ⊥) (hq : train_line q.train b < length b) (hr : train_line r.train b < length b) where
  -- with the verdict on r as it may be
  next : Option ℕ → Board
  next v = (record_entered v b (train_line r.train b) r).board

  next_place : (v : Option ℕ) → train_line q.train (next v) ≡ train_line q.train b
  unfolding next
  next_place (some m) = refl
  next_place none = place-stays b (train_line r.train b) (some r) q.train hr (ne_eqb r.train q.train (λ e. n (sym e))) (of_one (line_at b (train_line r.train b)) q.train r.train (stands b r.train hr) (λ e. n (sym e)))

  next-line : (v : Option ℕ) → line_at (next v) (train_line q.train b) ≡ line_at b (train_line q.train b)
  unfolding next
  next-line (some m) = refl
  next-line none = line_stays b (train_line r.train b) (some r) q.train hr (ne_eqb r.train q.train (λ e. n (sym e))) (of_one (line_at b (train_line r.train b)) q.train r.train (stands b r.train hr) (λ e. n (sym e)))

  next-size : (v : Option ℕ) → length (next v) ≡ length b
  unfolding next
  next-size (some m) = refl
  next-size none = length-set b (train_line r.train b) (some r)

  -- then q, judged as before
  then-step : (v : Option ℕ) → board_step (next v) (enter_record q) ≡ record_entered (verdict (line_at b (train_line q.train b)) q) (next v) (train_line q.train b) q
  then-step v =
      let h : train_line q.train (next v) < length (next v) = rw (next_place v, next-size v) hq in
      on_step (next v) q h ∙ rw (next_place v, next-line v)

  after-r : (board_step b (enter_record r)).board ≡ next (verdict (line_at b (train_line r.train b)) r)
  unfolding next
  after-r = ap (λ o. o.board) (on_step b r hr)

  pub then-q : board_step (board_step b (enter_record r)).board (enter_record q)
      ≡ record_entered (verdict (line_at b (train_line q.train b)) q) (record_entered (verdict (line_at b (train_line r.train b)) r) b (train_line r.train b) r).board (train_line q.train b) q
  unfolding next
  then-q = ap (λ x. board_step x (enter_record q)) after-r ∙ then-step (verdict (line_at b (train_line r.train b)) r)

pub reply-same : (v : Option ℕ) (b c : Board) (k : ℕ) (r : Handover) → (record_entered v b k r).reply ≡ (record_entered v c k r).reply
reply-same none b c k r = refl
reply-same (some n) b c k r = refl

pub swap : (v w : Option ℕ) (b : Board) (i j : ℕ) (q r : Handover) → (i ≡ j → ⊥)
    → (record_entered w (record_entered v b i q).board j r).board ≡ (record_entered v (record_entered w b j r).board i q).board
swap none none b i j q r n = set_comm b i j (some q) (some r) n
swap none (some m) b i j q r n = refl
swap (some m) none b i j q r n = refl
swap (some m) (some l) b i j q r n = refl

apart : (b : Board) (q r : Handover) → (q.train ≡ r.train → ⊥) → train_line q.train b < length b → train_line r.train b < length b → train_line q.train b ≡ train_line r.train b → ⊥
apart b q r n hq hr e =
    let u = of-used (line_at b (train_line q.train b)) q.train (stands b q.train hq) in
    let w = of-used (line_at b (train_line r.train b)) r.train (stands b r.train hr) in
    n (cc (u.1, u.2, w.1, w.2))

pub both-on : (b : Board) (q r : Handover) → (q.train ≡ r.train → ⊥) → train_line q.train b < length b → train_line r.train b < length b → InEitherOrder b q r
both-on b q r n hq hr =
    let a = then-q b q r n hq hr in
    let c = then-q b r q (λ e. n (sym e)) hr hq in
    let i = train_line q.train b in
    let j = train_line r.train b in
    let v = verdict (line_at b (train_line q.train b)) q in
    let w = verdict (line_at b (train_line r.train b)) r in
    record {
      reply_q = ap (λ o. o.reply) a ∙ reply-same v (record_entered w b j r).board b i q ∙ sym (ap (λ o. o.reply) (on_step b q hq));
      reply_r = ap (λ o. o.reply) c ∙ reply-same w (record_entered v b i q).board b j r ∙ sym (ap (λ o. o.reply) (on_step b r hr));
      board = ap (λ o. o.board) c ∙ swap v w b i j q r (apart b q r n hq hr) ∙ sym (ap (λ o. o.board) a);
    }
