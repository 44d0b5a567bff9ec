-- Lists of public calls on a board's bytes, and what the board shows after them.
--
--   Asked, JournalEvent   record with the bytes of a field, or clear with a train; with the call's own answer
--   JournalStep           the promise of such a call
--   JournalChain          a list of them, each on the bytes that the last one left
--   last_said              a train's last accepted record since its last clear, worked from the calls and their answers alone
--   Showing               R11.16: what line answers then
--   JournalShowsLast      R11.16: the claim, for every list from a board that begin left
--   JournalEndsAtLast     .. and R11.17: after sequence 4,294,967,295 nothing of that train is accepted until it is cleared
--
-- Assumes nothing.
use Rattle.std.specs.Prelude.{Ok}
use Rattle.std.specs.Prelude.{ℕ, ◌<◌, ◌≡◌, Bool, true, false, List, [], ◌∷◌, if◌then◌else◌}
use Rattle.std.proofs.Math.Option.{Option, none, some}
use Rattle.desk.specs.Board.{Handover}
use Rattle.desk.specs.Calls.{enter_record, clear, known_kind, noted}
use Rattle.journal.specs.Reads.{Plain, line, stands, begun, plain_refused, plain_told, shown}
use Rattle.journal.specs.Record.{Reading, says, faulty, read_record}
use Rattle.journal.specs.Step.{BoardStep, RecordStep, LineStep, BeginStep}
use Rattle.journal.specs.Reads.{Told}
use Rattle.journal.specs.Reads.{Shown}

pub data Asked : Type 0 where
  recorded : List ℕ → Asked
  cleared : ℕ → Asked

pub record JournalEvent : Type 0 where
  pub call : Asked
  pub answer : Plain

abbrev pub JournalStep : Asked → List ℕ → Told → List ℕ → Type 0
JournalStep (recorded s) t a u = RecordStep s t a u
JournalStep (cleared n) t a u = BoardStep (clear n) t a u

pub data JournalChain : List ℕ → List JournalEvent → List ℕ → Type 0 where
  done : {t : List ℕ} → JournalChain t [] t
  next : {v : List ℕ} {es : List JournalEvent} (t u : List ℕ) (c : Asked) (a : Told) → JournalStep c t a u → JournalChain u es v → JournalChain t (record { call = c; answer = plain_told a } ∷ es) v

-- ---- what the calls and answers alone say of a train

abbrev pub line_accepted : Plain → Bool
line_accepted (line k) = true
line_accepted (stands x) = false
line_accepted begun = false
line_accepted (plain_refused n p) = false

-- what a call that was accepted leaves of train t, where `old` was there
abbrev pub note_read : ℕ → Option Handover → Reading → Option Handover
note_read t old (says r) = noted t old (enter_record r)
note_read t old (faulty n p) = old

abbrev pub note : ℕ → Option Handover → Asked → Option Handover
note t old (recorded s) = note_read t old (read_record s)
note t old (cleared u) = noted t old (clear u)

unfoldable pub last_said : ℕ → Option Handover → List JournalEvent → Option Handover
last_said t old [] = old
last_said t old (e ∷ es) = last_said t (if line_accepted e.answer then note t old e.call else old) es

-- ---- what the board shows then

unfoldable pub Never29 : List JournalEvent → Type 0
Never29 [] = Unit {0}
Never29 (e ∷ es) = (e.answer ≡ plain_refused 29 none → ⊥) × Never29 es

pub record Showing (es : List JournalEvent) (u : List ℕ) : Type 0 where
  -- a board that calls left is never found not to be one
  pub sound : Never29 es
  pub sound_line : (k : ℕ) (a : Shown) → LineStep k u a → shown a ≡ plain_refused 29 none → ⊥
  -- a record that stands on a line is its train's last
  pub only : (k : ℕ) (a : Shown) (r : Handover) → LineStep k u a → shown a ≡ stands (some r) → last_said r.train none es ≡ some r
  -- a train's last record stands on a line
  pub each : (t : ℕ) (r : Handover) → last_said t none es ≡ some r → (k : ℕ) × (k < 64) × ((a : Shown) → LineStep k u a → shown a ≡ stands (some r))
  -- a train stands on one line at most, so it is shown in one cell at most
  pub once : (j k : ℕ) (a c : Shown) (q r : Handover) → LineStep j u a → LineStep k u c → shown a ≡ stands (some q) → shown c ≡ stands (some r) → q.train ≡ r.train → j ≡ k

abbrev pub JournalShowsLast : Type 0
JournalShowsLast = (t₀ t u : List ℕ) (es : List JournalEvent) → BeginStep t₀ (Ok tt) t → JournalChain t es u → Showing es u

-- ---- the last sequence

-- no call of the list clears train t
unfoldable pub JournalNotCleared : ℕ → List JournalEvent → Type 0
JournalNotCleared t [] = Unit {0}
JournalNotCleared t (e ∷ es) = (e.call ≡ cleared t → ⊥) × JournalNotCleared t es

-- the bytes u are a board where o, which has the greatest sequence, is its train's last record
pub record JournalEnded (o : Handover) (u : List ℕ) : Type 0 where
  -- a record of the train is refused by 32, or by 30 which goes before it, and no byte is changed
  pub refuses : (s : List ℕ) (r : Handover) (a : Told) (v : List ℕ) → read_record s ≡ says r → r.train ≡ o.train → RecordStep s u a v
      → (plain_told a ≡ plain_refused (if known_kind r.kind then 32 else 30) none) × (v ≡ u)
  -- it stays the last one, whatever the calls are, until the train is cleared
  pub stays : (es : List JournalEvent) (v : List ℕ) → JournalChain u es v → JournalNotCleared o.train es → last_said o.train (some o) es ≡ some o

abbrev pub JournalEndsAtLast : Type 0
JournalEndsAtLast =
    (t₀ t u : List ℕ) (es : List JournalEvent) (o : Handover) → BeginStep t₀ (Ok tt) t → JournalChain t es u
    → last_said o.train none es ≡ some o → o.sequence ≡ 4294967295 → JournalEnded o u
