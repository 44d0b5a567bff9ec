-- The walk over the requests: what its loop knows.
--
--   walked         one turn of the script's walk; walk-limit, walk-bad, walk-last, walk-request: what it comes to
--   Stands         the walk stands at a place, with n requests answered
--   stands-first   before the first field
--   stands-room    there is room for a line more
--   stands-next    a request is answered
--   stops          the walk stops
--
-- Assumes nothing.
use Prim.Native.Nat.{ℕ, suc, ◌+◌, ◌-◌, ◌*◌, ◌≤◌, ◌<◌}
use native.Mathlib.Nat.{sub-zero, add-zero}
use native.Mathlib.Omega.{arith}
use mathlib.Core.Path.{◌≡◌, refl, sym, ap, subst, ◌∙◌}
use mathlib.Core.List.{List, [], ◌++◌}
use mathlib.Core.Option.{Option}
use lib.ListN.{length, drop, length-append}
use lib.Seq.{length-sets}
use Rattle.rules.specs.State.{State, setup_of}
use Rattle.rules.specs.Calls.{Call, step}
use Rattle.table.specs.Layout.{SIZE}
use Rattle.alike.proofs.Alike.{alike_refl}
use Rattle.table.specs.Means.{meant}
use Rattle.table.specs.Encodes.{Encodes}
use Rattle.lines.specs.Line.{Wrote, Line}
use Rattle.lines.proofs.Writing.{wrote-both}
use Rattle.requests.specs.Request.{RequestItem, request, last, bad_request, request_item_at}
use Rattle.answers.specs.Lines.{line_by}
use Rattle.answers.specs.Answers.{Made, Answers}
use Rattle.answers.proofs.Made.{encodes-step, line_step_lem}
use Rattle.answers.specs.declared.Tally.{Tally}
use Rattle.walk.specs.Script.{at_limit, refusal, Walked, session_closed, session_walk}
use Rattle.walk.specs.Follows.{why_of}
use Rattle.walk.specs.Walks.{line_count, Walks}
use Rattle.walk.specs.declared.Stop as Stop

-- ---- the script's walk, one turn

-- as a function of what stands at the place, so that a proof can go by cases of it
abbrev pub walked : ℕ → List ℕ → ℕ → List ℕ → State → RequestItem → Walked
walked left s n lines σ i = elim i [
  | bad_request r p ↦ record { lines = lines; count = n; why = refusal r p; state = σ }
  | last next ↦ record { lines = lines; count = n; why = session_closed s next; state = σ }
  | request c next ↦ session_walk left s next (n + 1) (lines ++ line_by (setup_of σ) (step σ c).reply) (step σ c).state
]

module _ (s : List ℕ) (limit at n : ℕ) (lines : List ℕ) (σ : State) where
  pub walk-limit : limit ≤ n → session_walk (limit - n) s at n lines σ ≡ record { lines = lines; count = n; why = at_limit; state = σ }
  unfolding session_walk
  walk-limit h = let l : limit - n ≡ 0 = omega arith in rw l

  pub walk-bad : n < limit → (r : ℕ) (p : Option ℕ) → request_item_at s at ≡ bad_request r p → session_walk (limit - n) s at n lines σ ≡ record { lines = lines; count = n; why = refusal r p; state = σ }
  unfolding session_walk
  walk-bad h r p e = let l : limit - n ≡ suc (limit - (n + 1)) = omega arith in rw l (ap (walked (limit - (n + 1)) s n lines σ) e)

  pub walk-last : n < limit → (at' : ℕ) → request_item_at s at ≡ last at' → session_walk (limit - n) s at n lines σ ≡ record { lines = lines; count = n; why = session_closed s at'; state = σ }
  unfolding session_walk
  walk-last h at' e = let l : limit - n ≡ suc (limit - (n + 1)) = omega arith in rw l (ap (walked (limit - (n + 1)) s n lines σ) e)

  pub walk-request : n < limit → (c : Call) (at' : ℕ) → request_item_at s at ≡ request c at'
      → session_walk (limit - n) s at n lines σ ≡ session_walk (limit - (n + 1)) s at' (n + 1) (lines ++ line_by (setup_of σ) (step σ c).reply) (step σ c).state
  unfolding session_walk
  walk-request h c at' e = let l : limit - n ≡ suc (limit - (n + 1)) = omega arith in rw l (ap (walked (limit - (n + 1)) s n lines σ) e)

-- ---- the code's walk

pub record Stands (s : List ℕ) (from limit : ℕ) (t₀ a₀ : List ℕ) (start : ℕ) (t a : List ℕ) (at next n : ℕ) : Type 0 where
  pub lines : List ℕ
  -- the script's state, which the table encodes
  pub state : State
  pub same : session_walk (limit - n) s at n lines state ≡ session_walk limit s from 0 [] (meant t₀)
  pub wrote : Wrote a₀ a start lines next
  pub long : length lines ≤ 64 * n
  pub encodes : Encodes t state
  pub made : Made t
  pub rest : drop SIZE t ≡ drop SIZE t₀
  pub few : n ≤ limit

pub stands-first : (s : List ℕ) (from limit : ℕ) (t a : List ℕ) (start : ℕ) → Made t → Stands s from limit t a start t a from start 0
stands-first s from limit t a start m = record {
  lines = [];
  state = meant t;
  same = rw sub-zero;
  wrote = record { is = refl; past = sym (add-zero start) };
  long = omega arith;
  encodes = record { room = m.room; alike = alike_refl (meant t); beside = m.beside; listed = m.listed };
  made = m;
  rest = refl;
  few = omega arith;
}

pub two-lines : (w : Stop.Stop) → line_count w ≤ 2
two-lines Stop.TheVariants.End = omega arith
two-lines Stop.TheVariants.Limit = omega arith
two-lines (Stop.TheVariants.Refused x) = omega arith

module _ {s : List ℕ} {from limit : ℕ} {t₀ a₀ : List ℕ} {start : ℕ} {t a : List ℕ} {at next n : ℕ} (i : Stands s from limit t₀ a₀ start t a at next n) where
  pub same_area : length a ≡ length a₀
  same_area = ap length i.wrote.is ∙ length-sets a₀ start i.lines

  -- `lanes N` and a line for each request so far
  pub text-most : start ≤ 64 → next ≤ 64 * (n + 1)
  text-most h = omega (arith, i.wrote.past, i.long)

  pub stands-room : start ≤ 64 → n < limit → 64 * (limit + 2) ≤ length a₀ → next + 64 ≤ length a
  stands-room h l m = omega (arith, text-most h, same_area)

  pub stands-next : n < limit → (c : Call) (at' : ℕ) → request_item_at s at ≡ request c at' → {t' a' : List ℕ} {r : Tally} → Answers c t t' a a' (record { answered = n; next = next }) r
      → Stands s from limit t₀ a₀ start t' a' at' r.next r.answered
  stands-next l c at' e {t'} {a'} {r} x =
      let text : List ℕ = line_by (setup_of i.state) (step i.state c).reply in
      let line : Line a a' next text r.next = subst (λ (y : List ℕ). Line a a' next y r.next) (line_step_lem t c i.state i.made i.encodes) x.line in
      rw x.count (record {
        lines = i.lines ++ text;
        state = (step i.state c).state;
        same = sym (walk-request s limit at n i.lines i.state l c at' e) ∙ i.same;
        wrote = wrote-both i.lines text i.wrote line.wrote;
        long = omega (arith, i.long, line.most, length-append i.lines text);
        encodes = encodes-step t t' c i.state i.made i.encodes x.state;
        made = x.made;
        rest = x.rest ∙ i.rest;
        few = omega arith;
      })

  pub stops : (w : Stop.Stop) → session_walk (limit - n) s at n i.lines i.state ≡ record { lines = i.lines; count = n; why = why_of w; state = i.state }
      → next + 64 * line_count w ≤ 64 * (limit + 2)
      → Walks limit t₀ t a₀ a start (record { answered = n; next = next; why = w }) (session_walk limit s from 0 [] (meant t₀))
  stops w e f = rw (sym i.same ∙ e) (record { count = refl; why = refl; wrote = i.wrote; encodes = i.encodes; rest = i.rest; fits = f })
