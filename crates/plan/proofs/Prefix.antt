-- Reading depends on no byte after the setup's 0x7F.
--
--   prefix    an input that has the same bytes as far as the place after the 0x7F is read alike
--
-- Assumes nothing.
use Prim.Native.Nat.{ℕ, zero, suc, ◌+◌, ◌-◌, ◌≤◌, ◌<◌}
use mathlib.Core.Path.{◌≡◌, refl, sym, subst, ap, ◌∙◌}
use mathlib.Core.Bool.{Bool, true, false}
use mathlib.Core.List.{List}
use native.Mathlib.Omega.{arith}
use borrow.Author.Tests.{eqb-true, eqb-false}
use lib.Dec.{eqb}
use lib.ListN.{length, get_or, take, length-take}
use lib.Seq.{get_or-take}
use Rattle.fields.specs.Bytes.{byte_at, big}
use Rattle.fields.proofs.Numbers.{big-same}
use Rattle.fields.proofs.Item.{Stands, item_by}
use Rattle.std.specs.Prelude.{Option, Some, None, if◌then◌else◌}
use Rattle.rules.specs.State.{Setting}
use Rattle.fields.specs.Item.{whole_field, bad_field}
use Rattle.plan.specs.Fields.{SetupItem, ends, setup_tag, setup_fits, setup_kinds, longest_at, lane_field_at, setup_field_of, setup_item_at}
use Rattle.plan.specs.Judge.{judged_at, seen_after}
use Rattle.plan.specs.Read.{setup_read, nothing_seen, no_lanes, placed, setup_walk, read_plan}
use Rattle.plan.specs.declared.judge.Seen.{Seen}
use Rattle.plan.specs.declared.parse.SetupField.{SetupField}
use Rattle.plan.specs.declared.parse.SetupField.TheVariants.{Format, Lane, Framing, Shared, End}
use Rattle.plan.proofs.Turn.{turned}
use Rattle.plan.proofs.Tags.{lane-long, lane-three}
use Rattle.plan.proofs.Judged.{judged-whole}
use Rattle.plan.proofs.Taken.{is-taken}
use Rattle.plan.proofs.Rest.{refused-read}
use Rattle.plan.proofs.Accepted.{accepted}

-- the two inputs have the same bytes from a to b
abbrev Same : List ℕ → List ℕ → ℕ → ℕ → Type 0
Same s t a b = (i : ℕ) → a ≤ i → i < b → byte_at s i ≡ byte_at t i

-- ---- a value

module _ (s t : List ℕ) (v n : ℕ) (same : Same s t v (v + n)) where
  number_same : (k w : ℕ) → v ≤ w → w + k ≤ v + n → big s w k ≡ big t w k
  number_same k w low high = big-same s t k w (λ i a b. same i (omega arith) (omega arith))

  longest-same : (b : Bool) → eqb n 3 ≡ b → setup_fits 16 n ≡ true → ◌≡◌ {A = Option ℕ} (if b then None else Some (big s (v + 3) 2)) (if b then None else Some (big t (v + 3) 2))
  longest-same true e f = refl
  longest-same false e f = ap Some (number_same 2 (v + 3) (omega arith) (omega (arith, lane-long n f (eqb-false n 3 e))))

  lane-same : setup_fits 16 n ≡ true → lane_field_at s v n ≡ lane_field_at t v n
  lane-same f =
      let three = lane-three n f in
      let a : byte_at s v ≡ byte_at t v = same v (omega arith) (omega arith) in
      let b : big s (v + 1) 2 ≡ big t (v + 1) 2 = number_same 2 (v + 1) (omega arith) (omega arith) in
      let c : longest_at s v n ≡ longest_at t v n = longest-same (eqb n 3) refl f in
      cc

  field-same : (tag : ℕ) (a b c d : Bool) → eqb tag 1 ≡ a → eqb tag 16 ≡ b → eqb tag 17 ≡ c → eqb tag 18 ≡ d → setup_fits tag n ≡ true
      → ◌≡◌ {A = SetupField} (if a then Format (big s v 2) else (if b then Lane (lane_field_at s v n) else (if c then Framing (byte_at s v) else (if d then Shared (byte_at s v) else End)))) (if a then Format (big t v 2) else (if b then Lane (lane_field_at t v n) else (if c then Framing (byte_at t v) else (if d then Shared (byte_at t v) else End))))
  field-same tag true b c d p q r z f =
      let two : n ≡ 2 = eqb-true n 2 (subst (λ (k : ℕ). setup_fits k n ≡ true) (eqb-true tag 1 p) f) in
      ap Format (number_same 2 v (omega arith) (omega arith))
  field-same tag false true c d p q r z f = ap Lane (lane-same (subst (λ (k : ℕ). setup_fits k n ≡ true) (eqb-true tag 16 q) f))
  field-same tag false false true d p q r z f =
      let one : n ≡ 1 = eqb-true n 1 (subst (λ (k : ℕ). setup_fits k n ≡ true) (eqb-true tag 17 r) f) in
      ap Framing (same v (omega arith) (omega arith))
  field-same tag false false false true p q r z f =
      let one : n ≡ 1 = eqb-true n 1 (subst (λ (k : ℕ). setup_fits k n ≡ true) (eqb-true tag 18 z) f) in
      ap Shared (same v (omega arith) (omega arith))
  field-same tag false false false false p q r z f = refl

  pub value_same : (tag : ℕ) → setup_fits tag n ≡ true → setup_field_of s tag v n ≡ setup_field_of t tag v n
  unfolding setup_field_of
  value_same tag f = field-same tag (eqb tag 1) (eqb tag 16) (eqb tag 17) (eqb tag 18) refl refl refl refl f

-- ---- a field

pub item-same : (s t : List ℕ) (at : ℕ) (f : SetupField) (m : ℕ) → Stands setup_kinds s at f m → Same s t at m → m ≤ length t → setup_item_at t at ≡ whole_field f m
item-same s t at f m h same fits =
    let tag : byte_at s at ≡ byte_at t at = same at (omega arith) (omega (arith, h.after)) in
    let size : big s (at + 1) 2 ≡ big t (at + 1) 2 = big-same s t 2 (at + 1) (λ i a b. same i (omega arith) (omega (arith, h.after))) in
    let fit-s : setup_fits (byte_at t at) (big s (at + 1) 2) ≡ true = subst (λ (k : ℕ). setup_fits k (big s (at + 1) 2) ≡ true) tag h.size in
    let n = big s (at + 1) 2 in
    let value : setup_field_of s (byte_at t at) (at + 3) n ≡ setup_field_of t (byte_at t at) (at + 3) n =
    value_same s t (at + 3) n (λ i a b. same i (omega arith) (omega (arith, h.after))) (byte_at t at) fit-s
    in
    item_by setup_kinds t at (byte_at t at) n refl (sym size) (sym (ap setup_tag tag) ∙ h.tag) fit-s (omega (arith, h.after))
    (sym value ∙ ap (λ (k : ℕ). setup_field_of s k (at + 3) n) (sym tag) ∙ h.field) h.after

-- ---- the walk

module _ (s : List ℕ) (v : ℕ) (gs' : List Setting) (n p : ℕ) where
  -- a setup that is read ends further on
  past-item : (turns : ℕ) (seen : Seen) (gs : List Setting) (at : ℕ) (more : (seen₁ : Seen) (gs₁ : List Setting) (m : ℕ) → setup_walk turns s seen₁ gs₁ m ≡ setup_read v gs' n p → m < p)
      → (i : SetupItem) → judged_at seen s at ≡ i → turned turns s seen gs i ≡ setup_read v gs' n p → at < p
  past-item turns seen gs at more (bad_field a b) e h = refused-read h
  past-item turns seen gs at more (whole_field f m) e h = past-field (ends f) h
    where
      past-field : (b : Bool) → (if b then setup_read seen.format gs seen.count m else setup_walk turns s (seen_after seen f) (placed seen.format seen.framing gs f) m) ≡ setup_read v gs' n p → at < p
      past-field true h =
          let q : m ≡ p = cc in
          omega (arith, (is-taken seen s at f m e).stand.after)
      past-field false h = omega (arith, (is-taken seen s at f m e).stand.after, more (seen_after seen f) (placed seen.format seen.framing gs f) m h)

  past : (turns : ℕ) (seen : Seen) (gs : List Setting) (at : ℕ) → setup_walk turns s seen gs at ≡ setup_read v gs' n p → at < p
  unfolding setup_walk
  past zero seen gs at h = refused-read h
  past (suc turns) seen gs at h = past-item turns seen gs at (λ seen₁ gs₁ m h₁. past turns seen₁ gs₁ m h₁) (judged_at seen s at) refl h

  module _ (t : List ℕ) (same : Same s t 0 p) (fits : p ≤ length t) where
    judged-same : (seen : Seen) (at : ℕ) (f : SetupField) (m : ℕ) → judged_at seen s at ≡ whole_field f m → m ≤ p → judged_at seen t at ≡ whole_field f m
    judged-same seen at f m e q =
        let k = is-taken seen s at f m e in
        judged-whole seen t at f m (item-same s t at f m k.stand (λ i a b. same i (omega arith) (omega arith)) (omega arith)) k.in_place k.inside k.under

    -- one turn, and the rest as `more` has it
    same_turn : (turns turns₁ : ℕ) (seen : Seen) (gs : List Setting) (at : ℕ) → length t - at ≤ suc turns₁
        → (more : (seen₁ : Seen) (gs₁ : List Setting) (m : ℕ) → length t - m ≤ turns₁ → setup_walk turns s seen₁ gs₁ m ≡ setup_read v gs' n p → setup_walk turns₁ t seen₁ gs₁ m ≡ setup_read v gs' n p)
        → (i : SetupItem) → judged_at seen s at ≡ i → turned turns s seen gs i ≡ setup_read v gs' n p → turned turns₁ t seen gs (judged_at seen t at) ≡ setup_read v gs' n p
    same_turn turns turns₁ seen gs at low more (bad_field a b) e h = refused-read h
    same_turn turns turns₁ seen gs at low more (whole_field f m) e h = same-field (ends f) refl h
      where
        same-field : (b : Bool) → ends f ≡ b → (if b then setup_read seen.format gs seen.count m else setup_walk turns s (seen_after seen f) (placed seen.format seen.framing gs f) m) ≡ setup_read v gs' n p
            → turned turns₁ t seen gs (judged_at seen t at) ≡ setup_read v gs' n p
        same-field true b h =
            let q : m ≡ p = cc in
            ap (turned turns₁ t seen gs) (judged-same seen at f m e (omega arith)) ∙ simp b h
        same-field false b h =
            let q = past turns (seen_after seen f) (placed seen.format seen.framing gs f) m h in
            let k = is-taken seen s at f m e in
            ap (turned turns₁ t seen gs) (judged-same seen at f m e (omega arith))
            ∙ simp b (more (seen_after seen f) (placed seen.format seen.framing gs f) m (omega (arith, k.stand.after)) h)

    walk_same : (turns turns₁ : ℕ) (seen : Seen) (gs : List Setting) (at : ℕ) → length t - at ≤ turns₁ → setup_walk turns s seen gs at ≡ setup_read v gs' n p
        → setup_walk turns₁ t seen gs at ≡ setup_read v gs' n p
    unfolding setup_walk
    walk_same zero turns₁ seen gs at low h = refused-read h
    walk_same (suc turns) zero seen gs at low h = absurd (omega (arith, past (suc turns) seen gs at h))
    walk_same (suc turns) (suc turns₁) seen gs at low h =
        same_turn turns turns₁ seen gs at low (λ seen₁ gs₁ m low₁ h₁. walk_same turns turns₁ seen₁ gs₁ m low₁ h₁) (judged_at seen s at) refl h

-- ---- the theorem

module _ (s t : List ℕ) (at v : ℕ) (gs : List Setting) (n p : ℕ) (h : read_plan s at ≡ setup_read v gs n p) (same : take p s ≡ take p t) where
  bytes : Same s t 0 p
  bytes i a b = sym (get_or-take p s i 0 b) ∙ ap (λ (l : List ℕ). get_or l i 0) same ∙ get_or-take p t i 0 b

  long : p ≤ length t
  long = omega (arith, (accepted s at v gs n p h).within, length-take p s, length-take p t, ap length same)

  pub prefix : read_plan t at ≡ setup_read v gs n p
  unfolding read_plan
  prefix = walk_same s v gs n p t bytes long (length s - at) (length t - at) nothing_seen no_lanes at (omega arith) h
