-- The promise of a run leaves nothing of its result open. Assumes nothing.
use Prim.Native.Nat.{ℕ}
use mathlib.Core.Path.{◌≡◌, refl, sym, ap, subst, ◌∙◌}
use mathlib.Core.List.{List}
use mathlib.Core.Option.{Option, none, some}
use lib.ListN.{length, drop}
use Rattle.rules.specs.State.{State}
use Rattle.alike.specs.AlikeDevice.{AlikeDevice}
use Rattle.alike.proofs.Alike.{alike_refl, alike-sym, alike-trans}
use Rattle.table.specs.Layout.{table_size}
use Rattle.table.specs.Means.{meant}
use Rattle.paged.specs.Paged.{device_of}
use Rattle.walk.specs.Script.{run_of}
use Rattle.walk.specs.Follows.{TableLeft}
use Rattle.session.specs.One.{OneRun}

one_table : (t t₁ t₂ : List ℕ) (o : Option State) → TableLeft t t₁ o → TableLeft t t₂ o → AlikeDevice (device_of t₁) (device_of t₂) × (drop table_size t₁ ≡ drop table_size t₂)
unfolding device_of
one_table t t₁ t₂ none h h' =
    let q : t₁ ≡ t₂ = h ∙ sym h' in
    (subst (λ (x : List ℕ). AlikeDevice (device_of t₁) (device_of x)) q (record { state = alike_refl (meant t₁); edition = refl; waiting = refl }), ap (drop table_size) q)
one_table t t₁ t₂ (some σ) h h' =
    let e = h.encodes in
    let e' = h'.encodes in (
      record {
        state = alike-trans (meant t₁) σ (meant t₂) e.core.alike (alike-sym (meant t₂) σ e'.core.alike);
        edition = e.edition ∙ sym e'.edition;
        waiting = e.waiting ∙ sym e'.waiting;
      },
      h.rest ∙ sym h'.rest,
    )

pub one-run : OneRun
unfolding OneRun
one-run s limit t a r r' t₁ t₂ a₁ a₂ p p' =
    let table = one_table t t₁ t₂ (run_of s limit (length t) (length a)).state p.table p'.table in
    record {
      count = p.count ∙ sym p'.count;
      written = p.written ∙ sym p'.written;
      why = p.why ∙ sym p'.why;
      answers = p.answers ∙ sym p'.answers;
      table = table.0;
      rest = table.1;
    }
