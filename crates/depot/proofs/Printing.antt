-- What the two programs print, from what their parts ensure.
--
--   prints-line                     a line at the front
--   prints-long, prints-refused     an input that is too long, and one that is not read
--   plan-good, prints-plan          a plan that was read: it is within the numbers, and what is written of it is printed
--   setup-written, setup-always     a plan written as a setup, which it always is
--   sheet-written, sheet-framed     and as a sheet, or a plan that a sheet cannot say
--
-- Assumes nothing.
use Prim.Native.Nat.{ℕ, ◌+◌, ◌≤◌, ◌<◌}
use native.Mathlib.Nat.{zero-add}
use native.Mathlib.Omega.{arith}
use mathlib.Core.Path.{◌≡◌, refl, sym, ap, subst, ◌∙◌}
use mathlib.Core.Logic.{⊎_elim}
use mathlib.Core.List.{List, ◌++◌}
use mathlib.Core.Option.{none}
use borrow.Author.Tests.{lt-ltb, le-ltb, ne_eqb, eq-eqb}
use lib.ListN.{length, drop, length-append}
use Rattle.std.specs.Prelude.{Result, Ok, Err}
use Rattle.std.specs.Result.{IsOk}
use Rattle.rules.specs.State.{Setting}
use Rattle.rules.specs.Setup.{framing_of}
use Rattle.rules.specs.Reads.{number, place_of}
use Rattle.rules.specs.declared.Refusal.{Refusal}
use Rattle.lines.specs.Line.{no_line, Line}
use Rattle.plan.specs.Judge.{known_format}
use Rattle.plan.specs.declared.Reading.{Reading}
use Rattle.plan.proofs.Accepted.{accepted-setup}
use Rattle.plan_writer.specs.Write as setup
use Rattle.plan_writer.specs.Write.{Planned, planned, Within, shareds, setup_bytes}
use Rattle.plan_writer.specs.declared.Unwritten as setup-unwritten
use Rattle.plan_writer.proofs.Numbered.{numbered-all}
use Rattle.plan_writer.proofs.Round.{size_is_lem, size-most}
use Rattle.plan_writer.proofs.Writing.{stored-first}
use Rattle.plan_writer.proofs.Calls.{size-refused}
use Rattle.sheet.specs.Text.{sheet_bytes}
use Rattle.sheet.proofs.Back.{accepted-sheet}
use Rattle.sheet_writer.specs.Write.{Bare, WritesSheet, sheet_size, sheet_write_reply}
use Rattle.sheet_writer.specs.declared.Unwritten as sheet-unwritten
use Rattle.sheet_writer.proofs.Calls.{bare-or-not}
use Rattle.sheet_writer.proofs.Most.{sheet-most}
use Rattle.plan.specs.Read.{settings, setup_reply}
use Rattle.plan.specs.declared.Plan.{Plan}
use Rattle.depot.specs.Prints.{as_planned, read_other, plan_text, reply_text, depot_text, PrintsText}
use Rattle.depot.specs.declared.Form.{Form}
use Rattle.depot.specs.declared.Form.TheVariants.{Setup, Sheet}

pub prints-line : (text a a' : List ℕ) (n : ℕ) → Line a a' 0 text n → 64 ≤ length a → PrintsText text a a' n
prints-line text a a' n l m =
    let e : a' ≡ text ++ drop (length text) a = l.wrote.is ∙ stored-first a text (length text) refl (omega (arith, l.most, m)) in
    let f : n ≡ length text = l.wrote.past ∙ zero-add _ in
    record { is = e; size = f; within = omega (arith, ap length e, length-append text (drop (length text) a), f) }

-- the same text
as-text : (x y a a' : List ℕ) (n : ℕ) → x ≡ y → PrintsText y a a' n → PrintsText x a a' n
as-text x y a a' n e p = subst (λ (t : List ℕ). PrintsText t a a' n) (sym e) p

front : (text a a' : List ℕ) (n : ℕ) → n ≡ length text → a' ≡ text ++ drop n a → PrintsText text a a' n
front text a a' n f e =
    let g : a' ≡ text ++ drop (length text) a = e ∙ ap (λ (k : ℕ). text ++ drop k a) f in
    record { is = g; size = f; within = omega (arith, ap length g, length-append text (drop (length text) a), f) }

-- ---- an input

module _ (form : Form) (s a a' : List ℕ) (n : ℕ) (room : 1024 ≤ length a) where
  pub prints-long : 32768 < length s → Line a a' 0 (no_line 18 none) n → PrintsText (depot_text form s) a a' n
  prints-long long l = as-text (depot_text form s) (no_line 18 none) a a' n (rw (lt-ltb 32768 (length s) long)) (prints-line (no_line 18 none) a a' n l (omega (arith, room)))

  module _ (few : length s ≤ 32768) where
    came : (o : Result Reading Refusal) → setup_reply o ≡ read_other form s → depot_text form s ≡ reply_text form (setup_reply o)
    came o e = rw (le-ltb 32768 (length s) few, ← e)

    pub prints-refused : (x : Refusal) → setup_reply (Err x) ≡ read_other form s → Line a a' 0 (no_line (number x) (place_of x)) n → PrintsText (depot_text form s) a a' n
    prints-refused x e l = as-text _ _ a a' n (came (Err x) e) (prints-line (no_line (number x) (place_of x)) a a' n l (omega (arith, room)))

    pub prints-plan : (r : Reading) → setup_reply (Ok r) ≡ read_other form s → PrintsText (plan_text form (as_planned r.plan)) a a' n → PrintsText (depot_text form s) a a' n
    prints-plan r e p = as-text _ _ a a' n (came (Ok r) e) p

pub plan-good : (form : Form) (s : List ℕ) (r : Reading) → setup_reply (Ok r) ≡ read_other form s → Within (as_planned r.plan)
plan-good Setup s r e =
    let x = accepted-sheet s r.plan.format (settings r.plan) r.plan.count r.next (sym e) in
    record { format = ap known_format x.format; setup = x.setup; count = x.are_there }
plan-good Sheet s r e =
    let x = (accepted-setup r s e).0 in
    record { format = x.rule.format; setup = x.setup; count = x.are_there }

-- ---- a plan

module _ (plan : Plan) (within : Within (as_planned plan)) (a : List ℕ) (room : 1024 ≤ length a) where
  abbrev p : Planned
  p = as_planned plan

  -- the writers speak of the lanes by number
  lanes-are : planned plan ≡ p
  lanes-are = ap (λ (y : List Setting). record { format = plan.format; lanes = y; count = plan.count }) (numbered-all (settings plan) within.setup.size)

  module _ (answer : Result ℕ setup-unwritten.Unwritten) (a' : List ℕ) (w : setup.Writes (planned plan) a answer a') where
    done : (setup.write_reply answer ≡ setup.written_size (setup.setup_size p)) × (a' ≡ setup_bytes p ++ drop (setup.setup_size p) a)
    done = (subst (λ (y : Planned). setup.Writes y a answer a') lanes-are w).written within (omega (arith, size-most p within, room))

    pub setup-written : (n : ℕ) → answer ≡ Ok n → PrintsText (setup_bytes p) a a' n
    setup-written n t =
        let q : setup.written_size n ≡ setup.written_size (setup.setup_size p) = sym (ap setup.write_reply t) ∙ done.0 in
        let n-is : n ≡ setup.setup_size p = cc in
        front (setup_bytes p) a a' n (n-is ∙ sym (size_is_lem p within)) (done.1 ∙ ap (λ (i : ℕ). setup_bytes p ++ drop i a) (sym n-is))

    pub setup-always : IsOk answer
    setup-always = go answer refl
      where
        go : (o : Result ℕ setup-unwritten.Unwritten) → answer ≡ o → IsOk o
        go (Ok n) t = refl
        go (Err x) t = size-refused (sym done.0 ∙ ap setup.write_reply t)

  module _ (answer : Result ℕ sheet-unwritten.Unwritten) (a' : List ℕ) (w : WritesSheet (planned plan) a answer a') where
    writes : WritesSheet p a answer a'
    writes = subst (λ (y : Planned). WritesSheet y a answer a') lanes-are w

    fits : sheet_size p ≤ length a
    fits = omega (arith, sheet-most p.lanes within.setup, room)

    text-bare : Bare p → plan_text Sheet p ≡ sheet_bytes p.lanes
    text-bare b = rw (eq-eqb (framing_of p.lanes + shareds p.lanes) 0 (omega (arith, b.0, b.1)))

    text-framed : (Bare p → ⊥) → plan_text Sheet p ≡ no_line 82 none
    text-framed b = rw (ne_eqb (framing_of p.lanes + shareds p.lanes) 0 (λ z. b (omega (arith, z), omega (arith, z))))

    pub sheet-written : (n : ℕ) → answer ≡ Ok n → PrintsText (plan_text Sheet p) a a' n
    sheet-written n t =
        ⊎_elim
        (λ (b : Bare p).
        let d = writes.written within b fits in
        let q : setup.written_size n ≡ setup.written_size (sheet_size p) = sym (ap sheet_write_reply t) ∙ d.0 in
        let n-is : n ≡ sheet_size p = cc in
        as-text (plan_text Sheet p) (sheet_bytes p.lanes) a a' n (text-bare b) (front (sheet_bytes p.lanes) a a' n n-is (d.1 ∙ ap (λ (i : ℕ). sheet_bytes p.lanes ++ drop i a) (sym n-is))))
        (λ (b : Bare p → ⊥). size-refused (sym (ap sheet_write_reply t) ∙ (writes.no_sheet within b).0))
        (bare-or-not p)

    pub sheet-framed : (x : sheet-unwritten.Unwritten) → answer ≡ Err x → (a'' : List ℕ) (n : ℕ) → Line a' a'' 0 (no_line 82 none) n → PrintsText (plan_text Sheet p) a a'' n
    sheet-framed x t a'' n l =
        ⊎_elim
        (λ (b : Bare p). size-refused (sym (writes.written within b fits).0 ∙ ap sheet_write_reply t))
        (λ (b : Bare p → ⊥).
        let same : a' ≡ a = (writes.no_sheet within b).1 in
        as-text (plan_text Sheet p) (no_line 82 none) a a'' n (text-framed b) (prints-line (no_line 82 none) a a'' n (subst (λ (y : List ℕ). Line y a'' 0 (no_line 82 none) n) same l) (omega (arith, room))))
        (bare-or-not p)
