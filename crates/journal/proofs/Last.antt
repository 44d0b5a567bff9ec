-- After the greatest sequence no public call changes its train's line until it is cleared. Assumes nothing.
use Prim.Native.Nat.{ℕ}
use mathlib.Core.Path.{◌≡◌, refl, ap, subst, ◌∙◌}
use mathlib.Core.Logic.{⊎_elim}
use mathlib.Core.List.{List}
use mathlib.Core.Option.{none, some}
use borrow.Author.Tests.{ne_eqb}
use Rattle.std.specs.Prelude.{if◌then◌else◌}
use Rattle.units.proofs.Bools.{if-same}
use Rattle.words.proofs.Runs.{eq-or-ne}
use Rattle.desk.specs.Board.{Handover, Board}
use Rattle.desk.specs.Board as Board
use Rattle.desk.specs.Calls.{enter_record, known_kind}
use Rattle.desk.proofs.Last.{ends-at-last}
use Rattle.board.specs.Layout.{ShowsBoard}
use Rattle.journal.specs.Reads.{plain_refused, plain_told, from_rules}
use Rattle.journal.specs.Record.{Reading, says, faulty, read_record}
use Rattle.journal.specs.Step.{BoardStep, RecordSays, RecordStep}
use Rattle.journal.specs.Lists.{Asked, recorded, cleared, JournalEvent, JournalStep, JournalChain, done, next, line_accepted, note_read, note, last_said, JournalNotCleared, JournalEndsAtLast}
use Rattle.journal.specs.Reads.{Told}
use Rattle.journal.proofs.Bytes.{stayed}
use Rattle.journal.proofs.Lists.{after_one, from-begin, said}

-- the bytes u are the board b, which shows o
module _ (b : Board) (u : List ℕ) (o : Handover) (h : ShowsBoard u b) (on : Board.train_shown o.train b ≡ some o) (last : o.sequence ≡ 4294967295) where
  refuses : (s : List ℕ) (r : Handover) (a : Told) (v : List ℕ) → read_record s ≡ says r → r.train ≡ o.train → RecordStep s u a v
      → (plain_told a ≡ plain_refused (if known_kind r.kind then 32 else 30) none) × (v ≡ u)
  refuses s r a v q e x =
      let y : BoardStep (enter_record r) u a v = subst (λ g. RecordSays g u a v) q x in
      let z = y.reply b h ∙ ap (λ w. from_rules w.reply) ((ends-at-last b o h.makeable on last).refuses r e) in
      (z, stayed a u v (if known_kind r.kind then 32 else 30) none z y.kept)

  -- what a call's answer makes of the train's last record
  noted-on : (c : Asked) (a : Told) (v : List ℕ) → JournalStep c u a v → (c ≡ cleared o.train → ⊥) → (if line_accepted (plain_told a) then note o.train (some o) c else some o) ≡ some o
  noted-on (cleared n) a v x k =
      rw (ne_eqb n o.train (λ e. k (ap cleared e))) (if-same (line_accepted (plain_told a)) (some o))
  noted-on (recorded s) a v x k = go (read_record s) refl
    where
      go : (g : Reading) → read_record s ≡ g → (if line_accepted (plain_told a) then note_read o.train (some o) g else some o) ≡ some o
      go (faulty n p) q = if-same (line_accepted (plain_told a)) (some o)
      go (says r) q =
          ⊎_elim
          (λ (e : r.train ≡ o.train). rw (refuses s r a v q e x).0)
          (λ (n : r.train ≡ o.train → ⊥). rw (ne_eqb r.train o.train n) (if-same (line_accepted (plain_told a)) (some o)))
          (eq-or-ne r.train o.train)

stays : (b : Board) {u v : List ℕ} {es : List JournalEvent} (o : Handover) → ShowsBoard u b → Board.train_shown o.train b ≡ some o → o.sequence ≡ 4294967295
    → JournalChain u es v → JournalNotCleared o.train es → last_said o.train (some o) es ≡ some o
unfolding last_said JournalNotCleared
stays b o h on last done k = refl
stays b o h on last (next {es = rest} t u c a x ch) k =
    let f = after_one b c t a u h x in
    let n = noted-on b t o h on last c a u x k.0 in
    let on' = f.shown_of o.train ∙ ap (λ z. if line_accepted (plain_told a) then note o.train z c else z) on ∙ n in
    ap (λ z. last_said o.train z rest) n ∙ stays f.board o f.shows on' last ch k.1

pub ends-at-last-of-calls : JournalEndsAtLast
ends-at-last-of-calls t₀ t u es o x ch e last =
    let r = from-begin t₀ t u es x ch in
    let on = said r o.train ∙ e in
    record {
      refuses = refuses r.board u o r.shows on last;
      stays = λ fs v c k. stays r.board o r.shows on last c k;
    }
