-- What is known where a field was judged and taken.
--
--   Taken, is-taken   `judged_at` answers a whole field: it stands there and no refusal is due
--
-- Assumes nothing.
use Prim.Native.Nat.{ℕ}
use mathlib.Core.Path.{◌≡◌, refl, sym, ap, ◌∙◌}
use mathlib.Core.Bool.{Bool, true, false}
use mathlib.Core.List.{List}
use mathlib.Core.Option.{some}
use Rattle.fields.specs.Item.{whole_field, bad_field}
use Rattle.fields.proofs.Item.{bad-whole, Stands, stands}
use Rattle.std.specs.Prelude.{Option, Some, None, if◌then◌else◌}
use Rattle.plan.specs.Fields.{SetupItem, setup_kinds, setup_item_at}
use Rattle.plan.specs.Judge.{misplaced, outside, Inside, over, faulted, judged, judged_at}
use Rattle.plan.specs.declared.judge.Fault.{Fault}
use Rattle.plan.specs.declared.judge.Seen.{Seen}
use Rattle.plan.specs.declared.parse.SetupField.{SetupField}

pub record Taken (seen : Seen) (s : List ℕ) (at : ℕ) (f : SetupField) (m : ℕ) : Type 0 where
  pub item : setup_item_at s at ≡ whole_field f m
  pub stand : Stands setup_kinds s at f m
  pub in_place : misplaced seen f ≡ false
  pub inside : Inside f
  pub under : over seen f ≡ None

-- a whole field after a fault was looked for: there is none
no-fault : (at : ℕ) (x : Option Fault) (rest : SetupItem) (f : SetupField) (m : ℕ) → faulted at x rest ≡ whole_field f m → (x ≡ None) × (rest ≡ whole_field f m)
no-fault at None rest f m h = (refl, h)
no-fault at (Some x) rest f m h = bad-whole h

module _ (seen : Seen) (s : List ℕ) (at : ℕ) (f : SetupField) (m : ℕ) where
  judge-field : (g : SetupField) (k : ℕ) (a : Bool) → setup_item_at s at ≡ whole_field g k → misplaced seen g ≡ a
      → (if a then bad_field 4 (some at) else faulted at (outside g) (faulted at (over seen g) (whole_field g k))) ≡ whole_field f m
      → Taken seen s at f m
  judge-field g k true i p h = bad-whole h
  judge-field g k false i p h =
      let o = no-fault at (outside g) (faulted at (over seen g) (whole_field g k)) f m h in
      let u = no-fault at (over seen g) (whole_field g k) f m o.1 in
      let e : g ≡ f = let w = u.1 in cc in
      record {
        item = i ∙ u.1;
        stand = stands (i ∙ u.1);
        in_place = sym (ap (misplaced seen) e) ∙ p;
        inside = sym (ap outside e) ∙ o.0;
        under = sym (ap (over seen) e) ∙ u.0;
      }

  judge-item : (i : SetupItem) → setup_item_at s at ≡ i → judged seen at i ≡ whole_field f m → Taken seen s at f m
  judge-item (bad_field n p) e h = bad-whole h
  judge-item (whole_field g k) e h = judge-field g k (misplaced seen g) e refl h

  pub is-taken : judged_at seen s at ≡ whole_field f m → Taken seen s at f m
  unfolding judged_at
  is-taken h = judge-item (setup_item_at s at) refl h
