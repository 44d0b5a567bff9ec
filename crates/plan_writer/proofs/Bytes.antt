-- A field is read where its bytes stand.
--
--   Fits         a field's numbers fit their bytes
--   item-bytes   where the bytes of a field stand, the field is read
--
-- Assumes nothing.
use Prim.Native.Nat.{ℕ, ◌+◌, ◌≤◌, ◌<◌}
use mathlib.Core.Path.{◌≡◌, refl, sym, ap, subst, ◌∙◌}
use mathlib.Core.Bool.{true}
use mathlib.Core.Logic.{inl, inr}
use mathlib.Core.List.{List, ◌++◌}
use native.Mathlib.Omega.{arith}
use lib.ListN.{length, drop}
use Rattle.fields.specs.Bytes.{byte_at, big}
use Rattle.fields.proofs.Numbers.{byte-from, two_from, long-from}
use Rattle.fields.proofs.Item.{item_by}
use Rattle.fields.specs.Item.{whole_field}
use Rattle.plan.specs.Fields.{setup_tag, setup_fits, setup_kinds, lane_field_at, setup_field_of, setup_item_at}
use Rattle.std.specs.Prelude as core
use Rattle.std.specs.Prelude.{Some, None}
use Rattle.plan.specs.declared.parse.LaneField.{LaneField}
use Rattle.plan.specs.declared.parse.SetupField.{SetupField}
use Rattle.plan.specs.declared.parse.SetupField.TheVariants.{Format, Lane, Framing, Shared, End}
use Rattle.plan.proofs.Tags.{known_is, field-format, field-lane, field-framing, field_shared, field_end}
use Rattle.plan_writer.specs.Format.{field_bytes}

abbrev pub LongFits : core.Option ℕ → Type 0
LongFits (Some n) = n < 65536
LongFits None = ⊥

abbrev pub Fits : SetupField → Type 0
Fits (Format v) = v < 65536
Fits (Lane l) = (l.lane < 256) × (l.weight < 65536) × LongFits l.longest
Fits (Framing h) = h < 256
Fits (Shared k) = k < 256
Fits End = Unit

module _ (s : List ℕ) (at t n m : ℕ) (f : SetupField) (m-is : at + 3 + n ≡ m) where
  item_from : byte_at s at ≡ t → big s (at + 1) 2 ≡ n → setup_tag t ≡ true → setup_fits t n ≡ true → at + 3 + n ≤ length s → setup_field_of s t (at + 3) n ≡ f
      → setup_item_at s at ≡ whole_field f m
  item_from a b k g l e = item_by setup_kinds s at t n a b k g l e m-is

module _ (s : List ℕ) (at : ℕ) (rest : List ℕ) where
  format-item : (v : ℕ) → v < 65536 → drop at s ≡ field_bytes (Format v) ++ rest → setup_item_at s at ≡ whole_field (Format v) (at + 5)
  format-item v b h =
      let xs = field_bytes (Format v) ++ rest in
      item_from s at 1 2 (at + 5) (Format v) (omega arith) (byte-from s xs at h 0 at (omega arith)) (two_from s xs at h 1 (at + 1) refl) (known_is 1 (inl refl)) refl
      (omega (arith, long-from s xs at h (omega arith)))
      (field-format s 1 (at + 3) 2 refl ∙ ap Format (omega (arith, two_from s xs at h 3 (at + 3) refl)))

  lane-item : (k w n : ℕ) → k < 256 → w < 65536 → n < 65536 → drop at s ≡ field_bytes (Lane (record { lane = k; weight = w; longest = Some n })) ++ rest
      → setup_item_at s at ≡ whole_field (Lane (record { lane = k; weight = w; longest = Some n })) (at + 8)
  lane-item k w n a b c h =
      let xs = field_bytes (Lane (record { lane = k; weight = w; longest = Some n })) ++ rest in
      let k-is : byte_at s (at + 3) ≡ k = byte-from s xs at h 3 (at + 3) refl in
      let w-is : big s (at + 3 + 1) 2 ≡ w = omega (arith, two_from s xs at h 4 (at + 3 + 1) (omega arith)) in
      let n-is : big s (at + 3 + 3) 2 ≡ n = omega (arith, two_from s xs at h 6 (at + 3 + 3) (omega arith)) in
      let l-is : lane_field_at s (at + 3) 5 ≡ record { lane = k; weight = w; longest = Some n } = cc in
      item_from s at 16 5 (at + 8) (Lane (record { lane = k; weight = w; longest = Some n })) (omega arith) (byte-from s xs at h 0 at (omega arith)) (two_from s xs at h 1 (at + 1) refl) (known_is 16 (inr (inl refl))) refl
      (omega (arith, long-from s xs at h (omega arith)))
      (field-lane s 16 (at + 3) 5 refl ∙ ap Lane l-is)

  framing-item : (h : ℕ) → drop at s ≡ field_bytes (Framing h) ++ rest → setup_item_at s at ≡ whole_field (Framing h) (at + 4)
  framing-item h e =
      let xs = field_bytes (Framing h) ++ rest in
      item_from s at 17 1 (at + 4) (Framing h) (omega arith) (byte-from s xs at e 0 at (omega arith)) (two_from s xs at e 1 (at + 1) refl) (known_is 17 (inr (inr (inl refl)))) refl
      (omega (arith, long-from s xs at e (omega arith)))
      (field-framing s 17 (at + 3) 1 refl ∙ ap Framing (byte-from s xs at e 3 (at + 3) refl))

  shared-item : (k : ℕ) → drop at s ≡ field_bytes (Shared k) ++ rest → setup_item_at s at ≡ whole_field (Shared k) (at + 4)
  shared-item k e =
      let xs = field_bytes (Shared k) ++ rest in
      item_from s at 18 1 (at + 4) (Shared k) (omega arith) (byte-from s xs at e 0 at (omega arith)) (two_from s xs at e 1 (at + 1) refl) (known_is 18 (inr (inr (inr (inl refl))))) refl
      (omega (arith, long-from s xs at e (omega arith)))
      (field_shared s 18 (at + 3) 1 refl ∙ ap Shared (byte-from s xs at e 3 (at + 3) refl))

  end-item : drop at s ≡ field_bytes End ++ rest → setup_item_at s at ≡ whole_field End (at + 3)
  end-item h =
      let xs = field_bytes End ++ rest in
      item_from s at 127 0 (at + 3) End (omega arith) (byte-from s xs at h 0 at (omega arith)) (two_from s xs at h 1 (at + 1) refl) (known_is 127 (inr (inr (inr (inr refl))))) refl
      (omega (arith, long-from s xs at h (omega arith)))
      (field_end s 127 (at + 3) 0 (λ e. omega (arith, e)) (λ e. omega (arith, e)) (λ e. omega (arith, e)) (λ e. omega (arith, e)))

pub item-bytes : (s : List ℕ) (at : ℕ) (rest : List ℕ) (f : SetupField) → Fits f → drop at s ≡ field_bytes f ++ rest → setup_item_at s at ≡ whole_field f (at + length (field_bytes f))
item-bytes s at rest (Format v) b h = format-item s at rest v b h
item-bytes s at rest (Lane l) b h = by-longest l.longest refl b.2
  where
    by-longest : (x : core.Option ℕ) → l.longest ≡ x → LongFits x → setup_item_at s at ≡ whole_field (Lane l) (at + length (field_bytes (Lane l)))
    by-longest None e q = absurd q
    by-longest (Some n) e q =
        let l-is : record { lane = l.lane; weight = l.weight; longest = Some n } ≡ l = ap (λ (y : core.Option ℕ). record { lane = l.lane; weight = l.weight; longest = y }) (sym e) in
        let i = lane-item s at rest l.lane l.weight n b.0 b.1 q (subst (λ (y : LaneField). drop at s ≡ field_bytes (Lane y) ++ rest) (sym l-is) h) in
        subst (λ (y : LaneField). setup_item_at s at ≡ whole_field (Lane y) (at + length (field_bytes (Lane y)))) l-is i
item-bytes s at rest (Framing n) b h = framing-item s at rest n h
item-bytes s at rest (Shared n) b h = shared-item s at rest n h
item-bytes s at rest End b h = end-item s at rest h
