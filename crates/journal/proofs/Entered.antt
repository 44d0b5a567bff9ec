-- How a record meets its promise. Assumes nothing.
use Prim.Native.Nat.{ℕ, ◌<◌}
use native.Mathlib.Omega.{arith}
use mathlib.Core.Path.{◌≡◌, refl, sym, ap, ◌∙◌}
use mathlib.Core.Bool.{Bool, true, false, not, false≢true}
use mathlib.Core.Logic.{⊎_elim}
use mathlib.Core.List.{List}
use mathlib.Core.Option.{Option, none, some}
use lib.Dec.{ltb, leb}
use lib.ListN.{length, set}
use borrow.Author.Tests.{eqb-true, eq-eqb, ne_eqb, lt-ltb, le-ltb}
use Rattle.std.specs.Prelude.{Ok, Err}
use Rattle.std.specs.Prelude.{if◌then◌else◌}
use Rattle.fields.specs.Header.{header_at}
use Rattle.fields.specs.declared.Field.TheVariants.{Nothing, Cut, Header}
use Rattle.words.proofs.Runs.{eq-or-ne}
use Rattle.desk.specs.Board.{Handover, Board, line_at, is_of, is_free, train_line, lowest, InField, Makeable}
use Rattle.desk.specs.Calls.{enter_record, known_kind, in_sequence, follows, record_judged, record_refusal, target, record_entered, board_step, Sayable}
use Rattle.desk.proofs.Lines.{beyond, target-old, target-new}
use Rattle.desk.proofs.Keep.{keeps}
use Rattle.desk.proofs.Made.{refusal_is}
use Rattle.board.specs.Layout.{put_line, ShowsBoard, handover_of, board_of, NoBoard, Found}
use Rattle.desk_line.specs.declared.Line.{Line}
use Rattle.desk_line.specs.Follow.{follow}
use Rattle.board.proofs.Means.{board-size}
use Rattle.board.proofs.Stores.{put-size, put_rest, put-shows, found_first}
use Rattle.journal.specs.Reads.{plain_refused, refused_by}
use Rattle.journal.specs.Record.{rec_line, RecordRead, Reading, says, faulty, read_header, read_record}
use Rattle.journal.specs.Step.{BoardStep, RecordSays}
use Rattle.journal.specs.declared.Refusal.{Refusal}
use Rattle.journal.specs.declared.Refusal.TheVariants.{NotABoard, KindUnknown, NoFreeLine, OutOfTurn, DoesNotFollow}
use Rattle.journal.specs.Reads.{Told}
use Rattle.journal.proofs.Steps.{kept_same, bad-step, does-step}

-- ---- a record that is refused, and one that is accepted

enter-refused-is : (b : Board) (r : Handover) (n : ℕ) → record_refusal b r ≡ some n → board_step b (enter_record r) ≡ record_entered (some n) b 0 r
unfolding board_step
enter-refused-is b r n e = rw e

enter-accepted-is : (b : Board) (r : Handover) (k : ℕ) → record_refusal b r ≡ none → target b r ≡ k → board_step b (enter_record r) ≡ record_entered none b k r
unfolding board_step
enter-accepted-is b r k e t = rw (e, t)

module _ (t : List ℕ) (r : Handover) (s : ShowsBoard t (board_of t)) where
  refused-record : (x : Refusal) (n : ℕ) → refused_by x ≡ plain_refused n none → record_refusal (board_of t) r ≡ some n → BoardStep (enter_record r) t (Err x) t
  refused-record x n q e =
      let w = enter-refused-is (board_of t) r n e in
      does-step (enter_record r) t (Err x) t s (rw w q) (rw w s) (rw w) (kept_same (refused_by x) t refl)

  accepted-record : (k : ℕ) → InField r → record_refusal (board_of t) r ≡ none → target (board_of t) r ≡ k → k < 64 → BoardStep (enter_record r) t (Ok k) (put_line t k (some r))
  unfolding Sayable
  accepted-record k c e q h =
      let w = enter-accepted-is (board_of t) r k e q in
      let m : Makeable (set (board_of t) k (some r)) = (rw w at (keeps (board_of t) (enter_record r) s.makeable c)) in
      does-step (enter_record r) t (Ok k) (put_line t k (some r)) s (rw w) (rw w (put-shows t k (some r) h (board_of t) s m)) (rw w) (record { stays = tt; rest = put_rest t k (some r) h; size = put-size t k (some r) h })

  pub unknown-kind : known_kind r.kind ≡ false → BoardStep (enter_record r) t (Err KindUnknown) t
  unfolding record_refusal
  unknown-kind e = refused-record KindUnknown 30 refl (rw e)

  -- ---- a first record

  module _ (Known-is : known_kind r.kind ≡ true) (absent : Found (is_of r.train) (board_of t) 64 64) where
    place_none : train_line r.train (board_of t) ≡ 64
    place_none = found_first (is_of r.train) (board_of t) 64 (board-size t) absent

    line-none : line_at (board_of t) (train_line r.train (board_of t)) ≡ none
    line-none = beyond (board_of t) (train_line r.train (board_of t)) (omega (arith, board-size t, place_none))

    first-refusal : (k : ℕ) (v : Bool) → Found is_free (board_of t) 64 k → ltb k 64 ≡ v → record_refusal (board_of t) r ≡ record_judged none v r
    first-refusal k v f e = refusal_is (board_of t) r none v Known-is line-none (rw (found_first is_free (board_of t) k (board-size t) f, board-size t) e)

    pub no-free-line : (k : ℕ) → Found is_free (board_of t) 64 k → k ≡ 64 → BoardStep (enter_record r) t (Err NoFreeLine) t
    no-free-line k f e = refused-record NoFreeLine 31 refl (first-refusal k false f (le-ltb k 64 (omega arith)))

    pub first-leave : (k : ℕ) → Found is_free (board_of t) 64 k → k < 64 → (r.kind ≡ 1 → ⊥) → BoardStep (enter_record r) t (Err DoesNotFollow) t
    first-leave k f h n = refused-record DoesNotFollow 33 refl (first-refusal k true f (lt-ltb k 64 h) ∙ rw (ne_eqb r.kind 1 n))

    pub first-join : (k : ℕ) → InField r → Found is_free (board_of t) 64 k → k < 64 → r.kind ≡ 1 → BoardStep (enter_record r) t (Ok k) (put_line t k (some r))
    first-join k c f h e =
        accepted-record k c (first-refusal k true f (lt-ltb k 64 h) ∙ rw (eq-eqb r.kind 1 e)) (target-new (board_of t) r (omega (arith, board-size t, place_none)) ∙ found_first is_free (board_of t) k (board-size t) f) h

  -- ---- a later record

  module _ (k : ℕ) (Known-is : known_kind r.kind ≡ true) (found : Found (is_of r.train) (board_of t) 64 k) (below : k < 64) (l : Line) (read : handover_of l ≡ line_at (board_of t) k) where
    place_at : train_line r.train (board_of t) ≡ k
    place_at = found_first (is_of r.train) (board_of t) k (board-size t) found

    used : (x : Option Handover) → handover_of l ≡ x → is_of r.train x ≡ true → x ≡ some (rec_line l)
    used x e h =
        ⊎_elim
        (λ (z : l.kind ≡ 0). absurd (false≢true (rw (← e, eq-eqb l.kind 0 z) at h)))
        (λ (n : l.kind ≡ 0 → ⊥). sym e ∙ rw (ne_eqb l.kind 0 n))
        (eq-or-ne l.kind 0)

    later-refusal : (v w : Bool) → in_sequence (rec_line l) r ≡ v → follows (rec_line l) r ≡ w → record_refusal (board_of t) r ≡ (if not v then some 32 else if w then none else some 33)
    later-refusal v w e q =
        refusal_is (board_of t) r (some (rec_line l)) (ltb (lowest (board_of t)) (length (board_of t))) Known-is (ap (line_at (board_of t)) place_at ∙ used (line_at (board_of t) k) read (found.hit below)) refl
        ∙ rw (e, q)

    pub out-of-turn : in_sequence (rec_line l) r ≡ false → BoardStep (enter_record r) t (Err OutOfTurn) t
    out-of-turn e = refused-record OutOfTurn 32 refl (later-refusal false (follows (rec_line l) r) e refl)

    pub not-following : in_sequence (rec_line l) r ≡ true → follows (rec_line l) r ≡ false → BoardStep (enter_record r) t (Err DoesNotFollow) t
    not-following e q = refused-record DoesNotFollow 33 refl (later-refusal true false e q)

    -- the old line takes the record: the train is the same
    same-train : (x : Option Handover) → x ≡ some (rec_line l) → is_of r.train x ≡ true → l.train ≡ r.train
    same-train x e h = eqb-true l.train r.train (rw e at h)

    next-is : rec_line (follow l r.cell r.kind r.sequence) ≡ r
    next-is = ap (λ n. record { train = n; cell = r.cell; kind = r.kind; sequence = r.sequence }) (same-train (line_at (board_of t) k) (used (line_at (board_of t) k) read (found.hit below)) (found.hit below))

    pub follows_next : (next : Line) → next ≡ follow l r.cell r.kind r.sequence → rec_line next ≡ r
    follows_next next e = ap rec_line e ∙ next-is

    pub follows_on : InField r → in_sequence (rec_line l) r ≡ true → follows (rec_line l) r ≡ true → BoardStep (enter_record r) t (Ok k) (put_line t k (some r))
    follows_on c e q = accepted-record k c (later-refusal true true e q) (target-old (board_of t) r (rw (place_at, board-size t) below) ∙ place_at) below

-- ---- the field

module _ (s : List ℕ) where
  pub read-nothing : header_at s 0 ≡ Nothing → read_record s ≡ faulty 1 (some 0)
  unfolding read_record
  read-nothing e = ap (read_header s) e

  pub read-cut : header_at s 0 ≡ Cut → read_record s ≡ faulty 1 (some 0)
  unfolding read_record
  read-cut e = ap (read_header s) e

  module _ (tag value n : ℕ) (header : header_at s 0 ≡ Header tag value n) where
    pub read-tag : (tag ≡ 48 → ⊥) → read_record s ≡ faulty 2 (some 0)
    unfolding read_record
    read-tag e = ap (read_header s) header ∙ rw (ne_eqb tag 48 e)

    pub read_length : tag ≡ 48 → (n ≡ 11 → ⊥) → read_record s ≡ faulty 3 (some 0)
    unfolding read_record
    read_length e q = ap (read_header s) header ∙ rw (eq-eqb tag 48 e, ne_eqb n 11 q)

    pub read_short : tag ≡ 48 → n ≡ 11 → leb 14 (length s) ≡ false → read_record s ≡ faulty 1 (some 0)
    unfolding read_record
    read_short e q h = ap (read_header s) header ∙ rw (eq-eqb tag 48 e, eq-eqb n 11 q, h)

    pub read_whole : tag ≡ 48 → n ≡ 11 → leb 14 (length s) ≡ true → (l : Line) → RecordRead s l → read_record s ≡ says (rec_line l)
    unfolding read_record
    read_whole e q h l r = ap (read_header s) header ∙ rw (eq-eqb tag 48 e, eq-eqb n 11 q, h) (ap says (sym r.is))

-- ---- record

pub record-bad : (g : Reading) (t : List ℕ) → NoBoard t → RecordSays g t (Err NotABoard) t
record-bad (says r) t n = bad-step (enter_record r) t n
record-bad (faulty m p) t n = (λ q. refl, λ b s. absurd (n b s), kept_same (plain_refused 29 none) t refl)

pub record-faulty : (g : Reading) (t : List ℕ) (x : Refusal) (m : ℕ) (p : Option ℕ) → ShowsBoard t (board_of t) → refused_by x ≡ plain_refused m p → g ≡ faulty m p → RecordSays g t (Err x) t
record-faulty g t x m p s q e = rw e (λ n. absurd (n (board_of t) s), λ b h. q, kept_same (refused_by x) t refl)

pub record-said : (g : Reading) (t : List ℕ) (a : Told) (u : List ℕ) (r : Handover) → g ≡ says r → BoardStep (enter_record r) t a u → RecordSays g t a u
record-said g t a u r e s = rw e s
