-- From the tests and what was written to the converter's promise. Assumes nothing.
use mathlib.Core.Path.{◌≡◌, refl, ◌∙◌}
use borrow.Rule.Slice.PartMut.{put_mid, same_len_mid}
use Prim.Native.Nat.{ℕ, ◌-◌, ◌≤◌, ◌<◌}
use mathlib.Core.List.{List}
use mathlib.Core.Option.{Option, none}
use native.Mathlib.Omega.{arith}
use lib.ListN.{length, take, drop}
use Rattle.rules.specs.declared.Refusal.TheVariants.{TableShort, NotGood}
use Rattle.editions.specs.Part.{Fits, Stores}
use Rattle.table.specs.Layout.{SIZE, table_size}
use Rattle.paged.proofs.Lending.{part-stored}
use Rattle.old_table.specs.Old.{old_meant, OldTable}
use Rattle.convert.specs.Over.{Over}
use Rattle.convert.specs.Converts.{converted, not_converted, Converts}
use Rattle.convert.proofs.Encoding.{encodes-over}
use Rattle.convert.proofs.Takes.{unpaged-good}
use Rattle.std.specs.Prelude.{Ok}
use Rattle.std.specs.Prelude.{Err}

refused-not-done : {n : ℕ} {p : Option ℕ} → not_converted n p ≡ converted → ⊥
refused-not-done is = let z : ◌≡◌ {A = ℕ} 0 1 = cc in absurd (omega arith)

pub converts-short : (old t : List ℕ) → length t < table_size → Converts old t (Err TableShort) t
converts-short old t h = record {
  short = λ _. (refl, refl);
  not_good = λ room. absurd (omega arith);
  converts = λ room. absurd (omega arith);
  was_good = λ is. absurd (refused-not-done is);
  size = refl;
}

pub converts-bad : (old t : List ℕ) → table_size ≤ length t → (OldTable old → ⊥) → Converts old t (Err NotGood) t
converts-bad old t room bad = record {
  short = λ h. absurd (omega arith);
  not_good = λ _ _. (refl, refl);
  converts = λ _ g. absurd (bad g);
  was_good = λ is. absurd (refused-not-done is);
  size = refl;
}

-- u as the conversion left it, and p the page's part as it was stored
pub converts-done : (old t u p : List ℕ) → table_size ≤ length t → OldTable old → length u ≡ length t → Over old u 64 → drop SIZE u ≡ drop SIZE t
    → length p ≡ length (take (length u - SIZE) (drop SIZE u)) → Stores (take (length u - SIZE) (drop SIZE u)) p 0 none × Fits p
    → Converts old t (Ok tt) (put_mid SIZE (length u - SIZE) u p)
converts-done old t u p room g len o past size st =
    let room_after : SIZE ≤ length u = omega arith in
    let l = part-stored t u p 0 none (old_meant old) (omega arith) (encodes-over old u g room_after o) past size st.0 st.1 in
    record {
      short = λ h. absurd (omega arith);
      not_good = λ _ bad. absurd (bad g);
      converts = λ _ _. (refl, record { encodes = l.encodes; good = unpaged-good _ (old_meant old) l.encodes g.good.good; rest = l.rest });
      was_good = λ _. g;
      size = same_len_mid SIZE (length u - SIZE) u p size ∙ len;
    }
