-- The loop of `put_lanes`, and the parts of `put_setup`.
--
--   Laying     storing the bytes of the lanes from k on gives what storing those of all lanes gives
--   lay-none, lay-more, lay-skip, lay-all   before the loop, after a lane that is there or is not, and after all
--   stored     the bytes of a setup, stored part by part
--   stored-first   bytes stored from 0 on stand first, and the rest stays; written_all: that is the promise
--
-- Assumes nothing.
use Prim.Native.Nat.{ℕ, suc, ◌+◌, ◌≤◌, ◌<◌}
use mathlib.Core.Path.{◌≡◌, refl, sym, ap, subst, ◌∙◌}
use mathlib.Core.Bool.{Bool, true, false}
use mathlib.Core.List.{List, [], ◌++◌, map, append_assoc}
use native.Mathlib.Numerals.{add-one}
use native.Mathlib.Omega.{arith}
use lib.ListN.{length, drop, get_or, length-append, drop_of_length-le}
use lib.Seq.{sets, sets-eq}
use Rattle.text.proofs.Stores.{sets-append}
use Rattle.std.specs.Prelude.{if◌then◌else◌}
use Rattle.rules.specs.State.{Setting, no_setting, setting_at}
use Rattle.rules.specs.Setup.{InNumbers, framing_of}
use Rattle.plan.specs.Read.{setting_of}
use Rattle.plan.specs.declared.Lane as plan
use Rattle.plan.specs.Accepted.{LaneFields, shared_behind, fields_of, setup_fields}
use Rattle.plan.specs.declared.parse.SetupField.TheVariants.{Format, Lane, Shared, End}
use Rattle.plan_writer.specs.Format.{field_bytes, bytes_of}
use Rattle.plan_writer.specs.Write.{lane_field, own_bytes, lane_bytes, lane_size, lane_fields, lanes_bytes, framing_bytes, framing_size, unless_zero, Planned, Within, Either, setup_bytes, setup_size, written_size, Writes}
use Rattle.std.specs.Prelude.{Ok}
use Rattle.plan_writer.proofs.Numbered.{numbered-size, none, lane-at, lane-next}
use Rattle.plan_writer.proofs.Lane.{there-either, absent-either, lanes_of}
use Rattle.plan_writer.proofs.Framing.{framing-size}
use Rattle.plan_writer.proofs.Lanes.{fields-there, fields-skip}
use Rattle.plan_writer.proofs.Round.{size_is_lem}
use Rattle.plan_writer.proofs.Parts.{setup-parts, bytes-append}

-- ---- the bytes from lane k on

module _ (lanes : List plan.Lane) (k : ℕ) (h : k < 64) where
  abbrev g : Setting
  g = setting_of (get_or lanes k none)

  lanes-more : InNumbers g → lanes_bytes k (drop k (lanes_of lanes)) ≡ lane_bytes k g ++ lanes_bytes (k + 1) (drop (k + 1) (lanes_of lanes))
  unfolding bytes_of
  lanes-more n =
      ap (lanes_bytes k) (lane-next lanes k h)
      ∙ ap (λ (ls : List LaneFields). bytes_of (fields_of ls)) (fields-there k g (drop (suc k) (lanes_of lanes)) n.weight_low)
      ∙ ap (λ (l : List ℕ). field_bytes (Lane (lane_field k g)) ++ l) (bytes-append (shared_behind g.shared k) (fields_of (lane_fields (suc k) (drop (suc k) (lanes_of lanes)))))
      ∙ sym (append_assoc (field_bytes (Lane (lane_field k g))) (bytes_of (shared_behind g.shared k)) (lanes_bytes (suc k) (drop (suc k) (lanes_of lanes))))
      ∙ ap (λ (i : ℕ). lane_bytes k g ++ lanes_bytes i (drop i (lanes_of lanes))) (sym (add-one k))

  lanes-skip : g ≡ no_setting → lanes_bytes k (drop k (lanes_of lanes)) ≡ lanes_bytes (k + 1) (drop (k + 1) (lanes_of lanes))
  lanes-skip e =
      ap (lanes_bytes k) (lane-next lanes k h)
      ∙ ap (λ (ls : List LaneFields). bytes_of (fields_of ls)) (fields-skip k g (drop (suc k) (lanes_of lanes)) e)
      ∙ ap (λ (i : ℕ). lanes_bytes i (drop i (lanes_of lanes))) (sym (add-one k))

-- the bytes of a lane's fields
pub lane-size : (k : ℕ) (g : Setting) → length (lane_bytes k g) ≡ lane_size g
unfolding bytes_of
lane-size k g = go g.shared
  where
    go : (b : Bool) → length (field_bytes (Lane (lane_field k g)) ++ bytes_of (shared_behind b k)) ≡ (if b then 12 else 8)
    go true = refl
    go false = refl

pub lane-least : (g : Setting) → 8 ≤ lane_size g
lane-least g = go g.shared
  where
    go : (b : Bool) → 8 ≤ (if b then 12 else 8)
    go true = omega arith
    go false = omega arith

-- a lane's 0x10 stored, and its 0x12 or none behind it
module _ (a : List ℕ) (at k : ℕ) (g : Setting) where
  pub both_stored : g.shared ≡ true → (sets (sets a at (own_bytes k g)) (at + 8) (field_bytes (Shared k)) ≡ sets a at (lane_bytes k g)) × (lane_size g ≡ 12)
  unfolding bytes_of
  both_stored e =
      (sets-append a at (own_bytes k g) (field_bytes (Shared k)) ∙ ap (λ (b : Bool). sets a at (own_bytes k g ++ bytes_of (shared_behind b k))) (sym e), ap (λ (b : Bool). if b then 12 else 8) e)

  pub own-stored : g.shared ≡ false → (sets a at (own_bytes k g) ≡ sets a at (lane_bytes k g)) × (lane_size g ≡ 8)
  unfolding bytes_of
  own-stored e = (ap (λ (b : Bool). sets a at (own_bytes k g ++ bytes_of (shared_behind b k))) (sym e), ap (λ (b : Bool). if b then 12 else 8) e)

lanes-none : (lanes : List plan.Lane) (k : ℕ) → 64 ≤ k → lanes_bytes k (drop k (lanes_of lanes)) ≡ []
unfolding lane_fields bytes_of
lanes-none lanes k h = ap (lanes_bytes k) (drop_of_length-le (lanes_of lanes) {i = k} (omega (arith, numbered-size (map setting_of lanes), h)))

-- ---- the loop

pub record Laying (a₀ : List ℕ) (at : ℕ) (lanes : List plan.Lane) (a : List ℕ) (p k : ℕ) : Type 0 where
  pub low : k ≤ 64
  pub size : length a ≡ length a₀
  pub left : p + length (lanes_bytes k (drop k (lanes_of lanes))) ≡ at + length (lanes_bytes 0 (lanes_of lanes))
  pub same : sets a p (lanes_bytes k (drop k (lanes_of lanes))) ≡ sets a₀ at (lanes_bytes 0 (lanes_of lanes))

pub lay-none : (a : List ℕ) (at : ℕ) (lanes : List plan.Lane) → Laying a at lanes a at 0
lay-none a at lanes = record { low = omega arith; size = refl; left = refl; same = refl }

module _ (a₀ : List ℕ) (at : ℕ) (lanes : List plan.Lane) (a : List ℕ) (p k : ℕ) (l : Laying a₀ at lanes a p k) (h : k < 64)
    (ok : (j : ℕ) → Either (setting_at (lanes_of lanes) j)) where
  here : Either (setting_of (get_or lanes k none))
  here = subst Either (lane-at lanes k h) (ok k)

  pub lay-numbers : ((get_or lanes k none).weight ≡ 0 → ⊥) → InNumbers (setting_of (get_or lanes k none))
  lay-numbers w = there-either (setting_of (get_or lanes k none)) w here

  sized : ((get_or lanes k none).weight ≡ 0 → ⊥) → length (lanes_bytes k (drop k (lanes_of lanes))) ≡ lane_size (setting_of (get_or lanes k none)) + length (lanes_bytes (k + 1) (drop (k + 1) (lanes_of lanes)))
  sized w = ap length (lanes-more lanes k h (lay-numbers w)) ∙ omega (arith, length-append (lane_bytes k (setting_of (get_or lanes k none))) (lanes_bytes (k + 1) (drop (k + 1) (lanes_of lanes))), lane-size k (setting_of (get_or lanes k none)))

  pub lay-room : at + length (lanes_bytes 0 (lanes_of lanes)) ≤ length a₀ → ((get_or lanes k none).weight ≡ 0 → ⊥) → p + lane_size (setting_of (get_or lanes k none)) ≤ length a
  lay-room room w = omega (arith, sized w, l.left, l.size, room)

  pub lay-more : ((get_or lanes k none).weight ≡ 0 → ⊥) → (b : List ℕ) → length b ≡ length a → b ≡ sets a p (lane_bytes k (setting_of (get_or lanes k none))) → Laying a₀ at lanes b (p + lane_size (setting_of (get_or lanes k none))) (k + 1)
  lay-more w b long e = record {
    low = omega arith;
    size = long ∙ l.size;
    left = omega (arith, sized w, l.left);
    same =
        ap (λ (x : List ℕ). sets x (p + lane_size (setting_of (get_or lanes k none))) (lanes_bytes (k + 1) (drop (k + 1) (lanes_of lanes)))) e
        ∙ ap (λ (i : ℕ). sets (sets a p (lane_bytes k (setting_of (get_or lanes k none)))) (p + i) (lanes_bytes (k + 1) (drop (k + 1) (lanes_of lanes)))) (sym (lane-size k (setting_of (get_or lanes k none))))
        ∙ sets-append a p (lane_bytes k (setting_of (get_or lanes k none))) (lanes_bytes (k + 1) (drop (k + 1) (lanes_of lanes)))
        ∙ ap (sets a p) (sym (lanes-more lanes k h (lay-numbers w)))
        ∙ l.same;
  }

  pub lay-skip : (get_or lanes k none).weight ≡ 0 → Laying a₀ at lanes a p (k + 1)
  lay-skip w =
      let e = lanes-skip lanes k h (absent-either (setting_of (get_or lanes k none)) w here) in
      record { low = omega arith; size = l.size; left = omega (arith, ap length e, l.left); same = ap (sets a p) (sym e) ∙ l.same }

pub lay-all : (a₀ : List ℕ) (at : ℕ) (lanes : List plan.Lane) (a : List ℕ) (p k : ℕ) → Laying a₀ at lanes a p k → 64 ≤ k
    → (a ≡ sets a₀ at (lanes_bytes 0 (lanes_of lanes))) × (p ≡ at + length (lanes_bytes 0 (lanes_of lanes)))
lay-all a₀ at lanes a p k l h =
    let e = lanes-none lanes k h in
    (ap (sets a p) (sym e) ∙ l.same, omega (arith, l.left, ap length e))

-- ---- the parts

pub stored : (a : List ℕ) (v h : ℕ) (gs : List Setting) (at : ℕ) → at ≡ 5 + framing_size h
    → sets (sets (sets (sets a 0 (field_bytes (Format v))) 5 (framing_bytes h)) at (lanes_bytes 0 gs)) (at + length (lanes_bytes 0 gs)) (field_bytes End)
    ≡ sets a 0 (bytes_of (setup_fields v (unless_zero h) (lane_fields 0 gs)))
stored a v h gs at e =
    let at-is : at ≡ 5 + length (framing_bytes h) = omega (arith, e, framing-size h) in
    sets-append (sets (sets a 0 (field_bytes (Format v))) 5 (framing_bytes h)) at (lanes_bytes 0 gs) (field_bytes End)
    ∙ ap (λ (i : ℕ). sets (sets (sets a 0 (field_bytes (Format v))) 5 (framing_bytes h)) i (lanes_bytes 0 gs ++ field_bytes End)) at-is
    ∙ sets-append (sets a 0 (field_bytes (Format v))) 5 (framing_bytes h) (lanes_bytes 0 gs ++ field_bytes End)
    ∙ sets-append a 0 (field_bytes (Format v)) (framing_bytes h ++ (lanes_bytes 0 gs ++ field_bytes End))
    ∙ ap (sets a 0) (sym (setup-parts v h gs))

pub stored-first : (a bs : List ℕ) (n : ℕ) → length bs ≡ n → n ≤ length a → sets a 0 bs ≡ bs ++ drop n a
stored-first a bs n e h = sets-eq bs a 0 (omega (arith, e, h)) ∙ ap (λ (k : ℕ). bs ++ drop k a) (let q : 0 + length bs ≡ n = omega (arith, e) in q)

-- ---- the promise, where the plan was tested and there is room

pub written_all : (p : Planned) → Within p → (before after : List ℕ) (h n : ℕ) → h ≡ framing_of p.lanes → n ≡ setup_size p → n ≤ length before
    → after ≡ sets before 0 (bytes_of (setup_fields p.format (unless_zero h) (lane_fields 0 p.lanes))) → Writes p before (Ok n) after
unfolding setup_bytes
written_all p w before after h n h-is n-is room e = record {
  outside = λ o. absurd (o w);
  short = λ _ l. absurd (omega (arith, l, n-is, room));
  written = λ _ l. (ap written_size n-is, e ∙ ap (λ (x : ℕ). sets before 0 (bytes_of (setup_fields p.format (unless_zero x) (lane_fields 0 p.lanes)))) h-is ∙ stored-first before (setup_bytes p) (setup_size p) (size_is_lem p w) l);
}
