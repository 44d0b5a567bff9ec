-- The answers of `write_sheet` as specs/Write.antt promises them, and the promises of specs/RoundTrip.antt.
--
--   says-outside, says-no-sheet, says-short, says-size   the promise, where the tests went so
--   none-shared, no-shareds   no lane is shared, by their number and by each of them
--   reads-back-calls, writes-back-calls, size-most-calls   the promises
--
-- Assumes nothing.
use Prim.Native.Nat.{ℕ, zero, suc, ◌+◌, ◌≤◌, ◌<◌}
use mathlib.Core.Path.{◌≡◌, refl, sym, ap, subst, ◌∙◌}
use mathlib.Core.Bool.{Bool, true, false}
use mathlib.Core.Logic.{◌⊎◌, inl, inr, ⊎_elim}
use mathlib.Core.List.{List, [], ◌∷◌, ◌++◌}
use native.Mathlib.Decide.{dec_le}
use native.Mathlib.Omega.{arith}
use lib.ListN.{length, drop, take}
use lib.Seq.{sets, take_at}
use Rattle.std.specs.Prelude.{Result, Ok, Err, if◌then◌else◌}
use Rattle.rules.specs.State.{Setting, setting_at}
use Rattle.rules.specs.Setup.{framing_of}
use Rattle.plan.specs.Judge.{known_format}
use Rattle.plan.specs.Read.{setup_read, settings}
use Rattle.plan_writer.specs.Write.{Planned, planned, Within, shareds, written_size}
use Rattle.plan_writer.proofs.Decided.{within_or_not}
use Rattle.plan_writer.proofs.Numbered.{numbered-all}
use Rattle.plan_writer.proofs.Writing.{stored-first}
use Rattle.plan_writer.proofs.Calls.{size-refused}
use Rattle.sheet.specs.Read.{sheet_format, read_sheet}
use Rattle.sheet.specs.Promises.{Unshared}
use Rattle.sheet.proofs.Back.{accepted-sheet}
use Rattle.sheet.proofs.Forth.{written_read}
use Rattle.sheet_writer.specs.Write.{sheet_of, sheet_size, Bare, sheet_write_reply, WritesSheet}
use Rattle.sheet_writer.specs.RoundTrip.{SheetReadsBack, SheetWritesBack, SheetSizeMost}
use Rattle.sheet_writer.specs.declared.Unwritten.{Unwritten}
use Rattle.sheet_writer.specs.declared.Unwritten.TheVariants.{Outside, NoSheet, Short}
use Rattle.sheet_writer.proofs.Most.{sheet-most}

-- ---- the answer

module _ (p : Planned) (before : List ℕ) where
  pub says-outside : (Within p → ⊥) → WritesSheet p before (Err Outside) before
  says-outside o = record { outside = λ n. (refl, refl); no_sheet = λ w b. absurd (o w); short = λ w b l. absurd (o w); written = λ w b l. absurd (o w) }

  pub says-no-sheet : Within p → (Bare p → ⊥) → WritesSheet p before (Err NoSheet) before
  says-no-sheet w o = record { outside = λ n. absurd (n w); no_sheet = λ v b. (refl, refl); short = λ v b l. absurd (o b); written = λ v b l. absurd (o b) }

  pub says-short : Within p → Bare p → length before < sheet_size p → WritesSheet p before (Err Short) before
  says-short w b l = record {
    outside = λ n. absurd (n w);
    no_sheet = λ v o. absurd (o b);
    short = λ v c m. (refl, refl);
    written = λ v c m. absurd (omega (arith, l, m));
  }

  pub says-size : Within p → Bare p → (n : ℕ) → n ≡ sheet_size p → n ≤ length before → (after : List ℕ) → after ≡ sets before 0 (sheet_of p) → WritesSheet p before (Ok n) after
  says-size w b n is room after e = record {
    outside = λ o. absurd (o w);
    no_sheet = λ v o. absurd (o b);
    short = λ v c l. absurd (omega (arith, is, room, l));
    written = λ v c l. (ap written_size is, e ∙ stored-first before (sheet_of p) (sheet_size p) refl l);
  }

-- ---- of the answers

pub bare-or-not : (p : Planned) → Bare p ⊎ (Bare p → ⊥)
bare-or-not p =
    elim (dec_le (framing_of p.lanes) 0) [
      | yes a ↦ elim (dec_le (shareds p.lanes) 0) [ yes b ↦ inl (omega arith, omega arith) | no b ↦ inr (λ e. omega (arith, e.1, b)) ]
      | no a ↦ inr (λ e. omega (arith, e.0, a))
    ]

-- no lane is shared, by their number
pub none-shared : (gs : List Setting) → shareds gs ≡ 0 → Unshared gs
none-shared [] e k = refl
none-shared (g ∷ gs) e k = go g.shared refl e (none-shared gs) k
  where
    go : (b : Bool) → g.shared ≡ b → (if b then 1 else 0) + shareds gs ≡ 0 → (shareds gs ≡ 0 → Unshared gs) → (k : ℕ) → (setting_at (g ∷ gs) k).shared ≡ false
    go true q z more k = absurd (omega arith)
    go false q z more zero = q
    go false q z more (suc k) = more (omega arith) k

pub no-shareds : (gs : List Setting) → Unshared gs → shareds gs ≡ 0
no-shareds [] u = refl
no-shareds (g ∷ gs) u = omega (arith, ap {B = ℕ} (λ (b : Bool). if b then 1 else 0) (u 0), no-shareds gs (λ k. u (suc k)))

pub record Sized (p : Planned) (before : List ℕ) (k : ℕ) : Type 0 where
  pub within : Within p
  pub bare : Bare p
  pub room : sheet_size p ≤ length before
  pub is : k ≡ sheet_size p

module _ (p : Planned) (before after : List ℕ) (a : Result ℕ Unwritten) (h : WritesSheet p before a after) (k : ℕ) (e : sheet_write_reply a ≡ written_size k) where
  wrote-room : Within p → Bare p → Sized p before k
  wrote-room w b =
      elim (dec_le (sheet_size p) (length before)) [
        | yes l ↦ record { within = w; bare = b; room = l; is = let q : written_size k ≡ written_size (sheet_size p) = sym e ∙ (h.written w b l).0 in cc }
        | no l ↦ let s : length before < sheet_size p = omega arith in size-refused (sym e ∙ (h.short w b s).0)
      ]

  wrote-size : Sized p before k
  wrote-size =
      ⊎_elim
      (λ (w : Within p). ⊎_elim (λ (b : Bare p). wrote-room w b) (λ (o : Bare p → ⊥). size-refused (sym e ∙ (h.no_sheet w o).0)) (bare-or-not p))
      (λ (o : Within p → ⊥). size-refused (sym e ∙ (h.outside o).0))
      (within_or_not p)

pub reads-back-calls : SheetReadsBack
unfolding SheetReadsBack
reads-back-calls plan before after a k h e =
    let p = planned plan in
    let s = wrote-size p before after a h k e in
    let bytes : take k after ≡ sheet_of p =
    ap (take k) (h.written s.within s.bare s.room).1 ∙ ap (λ (i : ℕ). take i (sheet_of p ++ drop (sheet_size p) before)) s.is ∙ take_at (sheet_of p) (drop (sheet_size p) before) (sheet_size p) refl
    in
    ap read_sheet bytes
    ∙ written_read p.lanes s.within.setup s.bare.0 (none-shared p.lanes s.bare.1)
    ∙ ap (λ (n : ℕ). setup_read sheet_format p.lanes n (sheet_size p)) s.within.count
    ∙ ap (setup_read sheet_format p.lanes plan.count) (sym s.is)

pub writes-back-calls : SheetWritesBack
unfolding SheetWritesBack
writes-back-calls s r e before after a h room =
    let p : Planned = record { format = r.plan.format; lanes = settings r.plan; count = r.plan.count } in
    let k = r.next in
    let is : read_sheet s ≡ setup_read p.format p.lanes p.count k = sym e in
    let x = accepted-sheet s p.format p.lanes p.count k is in
    let w : Within p = record { format = ap known_format x.format; setup = x.setup; count = x.are_there } in
    let h₁ : WritesSheet p before a after = subst (λ (y : List Setting). WritesSheet (record { format = r.plan.format; lanes = y; count = r.plan.count }) before a after) (numbered-all (settings r.plan) x.setup.size) h in
    let long : sheet_size p ≡ length s = ap length x.same in
    let done = h₁.written w (x.bare, no-shareds p.lanes x.unshared) (omega (arith, long, room)) in
    (done.0 ∙ ap written_size long, done.1 ∙ ap (λ (y : List ℕ). y ++ drop (sheet_size p) before) x.same ∙ ap (λ (i : ℕ). s ++ drop i before) long)

pub size-most-calls : SheetSizeMost
unfolding SheetSizeMost
size-most-calls p w = sheet-most p.lanes w.setup
