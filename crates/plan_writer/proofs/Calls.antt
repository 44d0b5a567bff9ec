-- The promises of specs/RoundTrip.antt.
--
--   outcome         what writing answers is one of three
--
-- Assumes nothing.
use Prim.Native.Nat.{ℕ, ◌≤◌, ◌<◌}
use mathlib.Core.Path.{◌≡◌, sym, ap, subst, ◌∙◌}
use mathlib.Core.Logic.{◌⊎◌, inl, inr, ⊎_elim}
use mathlib.Core.List.{List, ◌++◌}
use native.Mathlib.Decide.{dec_le}
use native.Mathlib.Omega.{arith}
use lib.ListN.{length, drop, take}
use Rattle.rules.specs.State.{Setting}
use Rattle.plan.specs.Read.{read_setup, settings}
use Rattle.std.specs.Prelude.{Result}
use Rattle.plan_writer.specs.declared.Unwritten.{Unwritten}
use Rattle.plan_writer.specs.Write.{Planned, planned, Within, setup_size, written_size, not_written, write_reply, Writes}
use Rattle.plan_writer.specs.RoundTrip.{read_as, SetupReadsBack, SetupWritesBack, Rewritten, OnlyOutside, OnlyShort, SetupSizeMost}
use Rattle.plan_writer.proofs.Numbered.{numbered-all}
use Rattle.plan_writer.proofs.Round.{size_is_lem, size-most, reads-back, in-form, read-within, writes-back, only-form, written_read, written_at}
use Rattle.plan_writer.proofs.Decided.{within_or_not}

pub size-refused : {A : Type 0} {k n : ℕ} → written_size k ≡ not_written n → A
size-refused h = absurd (let z : ◌≡◌ {A = ℕ} 0 1 = cc in omega arith)

module _ (p : Planned) (before after : List ℕ) (a : Result ℕ Unwritten) (h : Writes p before a after) where
  pub outcome : (Within p → ⊥) ⊎ (Within p × ((length before < setup_size p) ⊎ (setup_size p ≤ length before)))
  outcome =
      ⊎_elim
      (λ (w : Within p). elim (dec_le (setup_size p) (length before)) [ yes b ↦ inr (w, inr b) | no b ↦ inr (w, inl (omega arith)) ])
      (λ (o : Within p → ⊥). inl o)
      (within_or_not p)

  wrote-size : (k : ℕ) → write_reply a ≡ written_size k → Within p × ((setup_size p ≤ length before) × (k ≡ setup_size p))
  wrote-size k e = go outcome
    where
      go : (Within p → ⊥) ⊎ (Within p × ((length before < setup_size p) ⊎ (setup_size p ≤ length before))) → Within p × ((setup_size p ≤ length before) × (k ≡ setup_size p))
      go (inl o) = size-refused (sym e ∙ (h.outside o).0)
      go (inr (w, inl l)) = size-refused (sym e ∙ (h.short w l).0)
      go (inr (w, inr l)) = (w, (l, let q : written_size k ≡ written_size (setup_size p) = sym e ∙ (h.written w l).0 in cc))

  wrote-short : write_reply a ≡ not_written 56 → Within p × (length before < setup_size p)
  wrote-short e = go outcome
    where
      go : (Within p → ⊥) ⊎ (Within p × ((length before < setup_size p) ⊎ (setup_size p ≤ length before))) → Within p × (length before < setup_size p)
      go (inl o) = let q : not_written 55 ≡ not_written 56 = sym (h.outside o).0 ∙ e in absurd (let z : ◌≡◌ {A = ℕ} 55 56 = cc in omega arith)
      go (inr (w, inl l)) = (w, l)
      go (inr (w, inr l)) = size-refused (sym (h.written w l).0 ∙ e)

  wrote-outside : write_reply a ≡ not_written 55 → Within p → ⊥
  wrote-outside e w = go outcome
    where
      go : (Within p → ⊥) ⊎ (Within p × ((length before < setup_size p) ⊎ (setup_size p ≤ length before))) → ⊥
      go (inl o) = o w
      go (inr (v, inl l)) = let q : not_written 56 ≡ not_written 55 = sym (h.short v l).0 ∙ e in let z : ◌≡◌ {A = ℕ} 56 55 = cc in omega arith
      go (inr (v, inr l)) = size-refused (sym (h.written v l).0 ∙ e)

pub reads-back-calls : SetupReadsBack
unfolding SetupReadsBack
reads-back-calls plan before after a k h e =
    let p = planned plan in
    let is = wrote-size p before after a h k e in
    let k-is : k ≡ setup_size p = is.1.1 in
    (ap (λ (i : ℕ). read_setup (take i after)) k-is ∙ written_read p before after a h is.0 is.1.0 ∙ ap (read_as p) (sym k-is), written_at p before after a h is.0 is.1.0 ∙ ap (read_as p) (sym k-is))

pub writes-back-calls : SetupWritesBack
unfolding SetupWritesBack
writes-back-calls s bytes form r e before after a h room =
    let p : Planned = record { format = r.plan.format; lanes = settings r.plan; count = r.plan.count } in
    let k = r.next in
    let is : read_setup s ≡ read_as p k = sym e in
    let w = read-within s p k is in
    let same = writes-back s p k is bytes form in
    let long : setup_size p ≡ length s = sym (size_is_lem p w) ∙ ap length same in
    let h₁ : Writes p before a after = subst (λ (x : List Setting). Writes (record { format = r.plan.format; lanes = x; count = r.plan.count }) before a after) (numbered-all (settings r.plan) w.setup.size) h in
    let done = h₁.written w (omega (arith, long, room)) in
    (done.0 ∙ ap written_size long, done.1 ∙ ap (λ (x : List ℕ). x ++ drop (setup_size p) before) same ∙ ap (λ (i : ℕ). s ++ drop i before) long)

pub rewritten-calls : Rewritten
unfolding Rewritten
rewritten-calls s p next h = let w = read-within s p next h in (w, reads-back p w, in-form p w, only-form s p next h)

pub only-outside-calls : OnlyOutside
unfolding OnlyOutside
only-outside-calls p before after a h = (λ o. (h.outside o).0, wrote-outside p before after a h)

pub only-short-calls : OnlyShort
unfolding OnlyShort
only-short-calls p before after a h = (λ w l. (h.short w l).0, wrote-short p before after a h)

pub size-most-calls : SetupSizeMost
unfolding SetupSizeMost
size-most-calls p w = size-most p w
