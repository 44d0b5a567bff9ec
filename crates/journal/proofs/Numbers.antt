-- The rules and the reader of a field never answer 29. Assumes nothing.
use Prim.Native.Nat.{ℕ, ◌<◌}
use native.Mathlib.Omega.{arith}
use mathlib.Core.Path.{◌≡◌, ap}
use mathlib.Core.Bool.{Bool, true, false, not}
use mathlib.Core.List.{List}
use mathlib.Core.Option.{Option, none, some}
use lib.Dec.{eqb, ltb, leb}
use lib.ListN.{length}
use Rattle.std.specs.Prelude.{if◌then◌else◌}
use Rattle.fields.specs.Header.{header_at}
use Rattle.fields.specs.declared.Field.{Field}
use Rattle.fields.specs.declared.Field.TheVariants.{Nothing, Cut, Header}
use Rattle.desk.specs.Board.{Handover, Board, line_at, train_line, lowest}
use Rattle.desk.specs.Calls.{BoardCall, enter_record, clear, known_kind, in_sequence, follows, record_judged, record_refusal, target, record_entered, left, board_step, record_cleared}
use Rattle.journal.specs.Reads.{Plain, line, stands, begun, plain_refused, from_rules}
use Rattle.journal.specs.Record.{Reading, says, faulty, values_of, read_header, read_record}

-- the number of an answer, 0 where it is none
number_of : Plain → ℕ
number_of (line k) = 0
number_of (stands x) = 0
number_of begun = 0
number_of (plain_refused n p) = n

pub stands-not-29 : (x : Option Handover) → stands x ≡ plain_refused 29 none → ⊥
unfolding number_of
stands-not-29 x e = let z : ◌≡◌ {A = ℕ} 0 29 = ap number_of e in omega arith

-- ---- the rules

Above : Option ℕ → Type 0
Above none = Unit {0}
Above (some n) = 29 < n

judged-above : (x : Option Handover) (f : Bool) (r : Handover) → Above (record_judged x f r)
unfolding Above
judged-above none f r = go f (eqb r.kind 1)
  where
    go : (v w : Bool) → Above (if not v then some 31 else if w then none else some 33)
    go false w = omega arith
    go true true = tt
    go true false = omega arith
judged-above (some o) f r = go (in_sequence o r) (follows o r)
  where
    go : (v w : Bool) → Above (if not v then some 32 else if w then none else some 33)
    go false w = omega arith
    go true true = tt
    go true false = omega arith

refusal-above : (b : Board) (r : Handover) → Above (record_refusal b r)
unfolding record_refusal Above
refusal-above b r = go (known_kind r.kind) (record_judged (line_at b (train_line r.train b)) (ltb (lowest b) (length b)) r) (judged-above (line_at b (train_line r.train b)) (ltb (lowest b) (length b)) r)
  where
    go : (v : Bool) (x : Option ℕ) → Above x → Above (if not v then some 30 else x)
    go true x h = h
    go false x h = omega arith

pub rules-not-29 : (b : Board) (c : BoardCall) → from_rules (board_step b c).reply ≡ plain_refused 29 none → ⊥
unfolding board_step number_of Above
rules-not-29 b (enter_record r) e = go (record_refusal b r) (refusal-above b r) e
  where
    go : (x : Option ℕ) → Above x → from_rules (record_entered x b (target b r) r).reply ≡ plain_refused 29 none → ⊥
    go none h e = let z : ◌≡◌ {A = ℕ} 0 29 = ap number_of e in omega arith
    go (some n) h e = let z : n ≡ 29 = ap number_of e in omega arith
rules-not-29 b (clear u) e = go (left (line_at b (train_line u b))) e
  where
    go : (x : Bool) → from_rules (record_cleared x b (train_line u b)).reply ≡ plain_refused 29 none → ⊥
    go true e = let z : ◌≡◌ {A = ℕ} 0 29 = ap number_of e in omega arith
    go false e = let z : ◌≡◌ {A = ℕ} 34 29 = ap number_of e in omega arith

-- ---- the reader

fault_of : Reading → ℕ
fault_of (says r) = 0
fault_of (faulty n p) = n

low : (s : List ℕ) (f : Field) → fault_of (read_header s f) < 4
unfolding fault_of
low s Nothing = omega arith
low s Cut = omega arith
low s (Header tag value n) = go (eqb tag 48) (eqb n 11) (leb 14 (length s))
  where
    go : (v w x : Bool) → fault_of (if not v then faulty 2 (some 0) else if not w then faulty 3 (some 0) else if not x then faulty 1 (some 0) else says (values_of s)) < 4
    go false w x = omega arith
    go true false x = omega arith
    go true true false = omega arith
    go true true true = omega arith

pub field-not-29 : (s : List ℕ) (n : ℕ) (p : Option ℕ) → read_record s ≡ faulty n p → plain_refused n p ≡ plain_refused 29 none → ⊥
unfolding read_record fault_of number_of
field-not-29 s n p q e =
    let z : fault_of (read_header s (header_at s 0)) ≡ n = ap fault_of q in
    let y : n ≡ 29 = ap number_of e in
    omega (arith, low s (header_at s 0))
