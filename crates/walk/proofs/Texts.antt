-- A run's text in the answer area.
--
--   written        a text that is written from the area's first byte on
--   closes-end, closes-limit, closes-no   the closing lines
--   requested-is   lanes, requests and closing lines are the script's
--   refused-is     a refused setup
--   begun-is       a setup that is read
--
-- Assumes nothing.
use Prim.Native.Nat.{ℕ, ◌+◌, ◌*◌, ◌≤◌}
use native.Mathlib.Nat.{zero-add}
use native.Mathlib.Omega.{arith}
use mathlib.Core.Path.{◌≡◌, refl, ◌∙◌}
use mathlib.Core.List.{List, [], ◌++◌}
use lib.ListN.{length, drop, length-append}
use lib.Seq.{sets-eq}
use Rattle.rules.specs.State.{Setting}
use Rattle.rules.specs.Reads.{number, place_of}
use Rattle.rules.specs.declared.Refusal.{Refusal}
use Rattle.plan.specs.Read.{read_plan, setup_refused, setup_read}
use Rattle.table.specs.Layout.{table_size}
use Rattle.table.specs.Means.{meant}
use Rattle.fresh.specs.Makes.{Makes}
use Rattle.lines.specs.Line.{no_line, lanes_line, end_line, Wrote, Line}
use Rattle.lines.proofs.Writing.{wrote-both}
use Rattle.walk.specs.Script as Script
use Rattle.walk.specs.Script.{session_walk, closing, finished, script}
use Rattle.walk.specs.Follows.{why_of, Follows, FollowsCore}
use Rattle.walk.specs.Walks.{Walks, Closes}
use Rattle.walk.specs.declared.Stop.TheVariants.{End, Limit, Refused}
use Rattle.walk.specs.declared.Walked as Walked
use Rattle.walk.specs.declared.RunResult.{RunResult}
use Rattle.walk.proofs.Blank.{Blank, blank-tabled}

pub written : (a a' text : List ℕ) {n : ℕ} → Wrote a a' 0 text n → length text ≤ length a → a' ≡ text ++ drop (length text) a
written a a' text w h = w.is ∙ sets-eq text a 0 (omega arith) ∙ rw (zero-add (length text))

module _ {a a' : List ℕ} {at n next : ℕ} where
  pub closes-end : Line a a' at (end_line n) next → Closes a a' at End n next
  closes-end l = record { wrote = l.wrote; most = omega (arith, l.most) }

  pub closes-limit : Line a a' at (end_line n) next → Closes a a' at Limit n next
  closes-limit l = record { wrote = l.wrote; most = omega (arith, l.most) }

  pub closes-no : (x : Refusal) {b : List ℕ} {p : ℕ} → Line a b at (no_line (number x) (place_of x)) p → Line b a' p (end_line n) next → Closes a a' at (Refused x) n next
  closes-no x l m = record {
    wrote = wrote-both (no_line (number x) (place_of x)) (end_line n) l.wrote m.wrote;
    most = omega (arith, l.most, m.most, length-append (no_line (number x) (place_of x)) (end_line n));
  }

pub requested-is : (lanes : ℕ) {limit : ℕ} {t t' a a₁ a₂ a₃ : List ℕ} {start end : ℕ} {r : Walked.Walked} {w : Script.Walked}
    → Line a a₁ 0 (lanes_line lanes) start → Walks limit t t' a₁ a₂ start r w → Closes a₂ a₃ r.next r.why r.answered end → 64 * (limit + 2) ≤ length a
    → FollowsCore t t' a a₃ (record { answered = r.answered; written = end; why = r.why }) (finished lanes w)
requested-is lanes {limit} {t} {t'} {a} {a₁} {a₂} {a₃} {start} {end} {r} {w} l k c h =
    let last : List ℕ = closing (why_of r.why) r.answered in
    let same : last ≡ closing w.why w.count = rw (k.why, k.count) in
    let text : List ℕ = lanes_line lanes ++ (w.lines ++ closing w.why w.count) in
    let all : Wrote a a₃ 0 text end = wrote-both (lanes_line lanes) (w.lines ++ closing w.why w.count) l.wrote (rw (← same) (wrote-both w.lines last k.wrote c.wrote)) in
    record {
      count = k.count;
      written = all.past ∙ zero-add (length text);
      why = k.why;
      answers = written a a₃ text all (omega (arith, all.past, c.wrote.past, c.most, k.fits));
      table = record { encodes = k.encodes; rest = k.rest };
    }

module _ (s : List ℕ) (limit : ℕ) where
  pub refused-is : (x : Refusal) {t a a' : List ℕ} {end : ℕ} → read_plan s 0 ≡ setup_refused (number x) (place_of x)
      → Line a a' 0 (no_line (number x) (place_of x)) end → 64 ≤ length a
      → Follows t t a a' (record { answered = 0; written = end; why = Refused x }) (script s limit)
  unfolding script
  refused-is x {t} {a} {a'} e l h =
      rw e (record {
        count = refl;
        written = l.wrote.past ∙ zero-add _;
        why = refl;
        answers = written a a' (no_line (number x) (place_of x)) l.wrote (omega (arith, l.most));
        table = refl;
      })

  -- the requests on the fresh table
  pub begun-is : (v : ℕ) (gs : List Setting) (lanes at : ℕ) {t t₀ t₁ t' a a' : List ℕ} {r : RunResult} → read_plan s 0 ≡ setup_read v gs lanes at
      → table_size ≤ length t' → Blank t t₀ → Makes t₀ t₁ gs → FollowsCore t₁ t' a a' r (finished lanes (session_walk limit s at 0 [] (meant t₁))) → Follows t t' a a' r (script s limit)
  unfolding script
  begun-is v gs lanes at {t} {t₀} {t₁} {t'} e room b m x =
      rw e (let y = rw m.state at x in record {
        count = y.count;
        written = y.written;
        why = y.why;
        answers = y.answers;
        table = blank-tabled t t₀ t' _ room b y.table.encodes (y.table.rest ∙ m.rest);
      })
