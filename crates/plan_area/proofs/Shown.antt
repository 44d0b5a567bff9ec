-- Areas and the plans that they show.
--
--   shows-plan   an area that shows a plan within the numbers is that plan
--   area-shows   an area that is a plan within the numbers shows it, so its words are the only ones
--
-- Assumes nothing.
use Prim.Native.Nat.{ℕ, suc, ◌+◌, ◌-◌, ◌*◌, ◌/◌, ◌%◌, ◌≤◌, ◌<◌}
use mathlib.Core.Path.{◌≡◌, refl, sym, ap, subst, ◌∙◌}
use mathlib.Core.Bool.{Bool, true, false}
use mathlib.Core.Logic.{⊎_elim}
use mathlib.Core.List.{List, [], ◌∷◌}
use native.Mathlib.Decide.{dec_le}
use native.Mathlib.Omega.{arith}
use borrow.Author.Tests.{ne_eqb, eq-eqb, eqb-true}
use lib.Dec.{eqb}
use lib.ListN.{get_or-eq_default}
use lib.Seq.{ext_get_or}
use Rattle.std.specs.Prelude.{if◌then◌else◌}
use Rattle.words.specs.Words.{word_at}
use Rattle.words.proofs.Runs.{length-tab, get_d-tab}
use Rattle.rules.specs.State.{Setting, no_setting, setting_at}
use Rattle.rules.specs.Setup.{InNumbers, weights, framing_of}
use Rattle.plan.specs.Accepted.{present}
use Rattle.plan_writer.specs.Write.{Planned, Within, Fitting}
use Rattle.plan_writer.proofs.Framing.{fitting-line}
use Rattle.plan_writer.proofs.Parts.{format_small}
use Rattle.plan_area.specs.Area.{AreaRoom, format_in, framing_in, shared_in, longest_in, setting_in, lane_in, lanes_in, plan_in, shared_part, plan_lane_word, ShowsPlan, AreaWithin}

-- ---- an area that shows a plan

-- the parts of a word that is made of them
parts : (w x y : ℕ) (b : Bool) → x ≤ 1024 → y ≤ 1500 → w ≡ x + 65536 * y + shared_part b → (w % 65536 ≡ x) × (longest_in w ≡ y) × (shared_in w ≡ b)
parts w x y true p q e =
    let one : eqb (w / 4294967296) 1 ≡ true = eq-eqb (w / 4294967296) 1 (omega arith) in
    (omega arith, rw one (omega arith), one)
parts w x y false p q e =
    let no_one : eqb (w / 4294967296) 1 ≡ false = ne_eqb (w / 4294967296) 1 (λ z. omega arith) in
    (omega arith, rw no_one (omega arith), no_one)

-- any word is made of its parts
word-is : (h w : ℕ) → plan_lane_word (setting_in h w) ≡ w
word-is h w = go (eqb (w / 4294967296) 1) refl
  where
    go : (b : Bool) → eqb (w / 4294967296) 1 ≡ b → w % 65536 + 65536 * (if b then w / 65536 - 65536 else w / 65536) + shared_part b ≡ w
    go true e = omega (arith, eqb-true (w / 4294967296) 1 e)
    go false e = omega arith

word_back : (h w : ℕ) (g : Setting) → Fitting h g → w ≡ plan_lane_word g → setting_in h w ≡ g
word_back h w g f e = ⊎_elim there absent f
  where
    there : InNumbers g × (g.framing ≡ h) → setting_in h w ≡ g
    there n =
        let p = parts w g.weight g.longest g.shared n.0.weight_high n.0.longest_high e in
        let framing : (if eqb (w % 65536) 0 then 0 else h) ≡ g.framing = rw (ne_eqb (w % 65536) 0 (λ z. omega (arith, z, p.0, n.0.weight_low))) (sym n.1) in
        ap (λ (x : ℕ). record { weight = x; longest = longest_in w; framing = if eqb (w % 65536) 0 then 0 else h; shared = shared_in w }) p.0
        ∙ ap (λ (x : ℕ). record { weight = g.weight; longest = x; framing = if eqb (w % 65536) 0 then 0 else h; shared = shared_in w }) p.1
        ∙ ap (λ (x : ℕ). record { weight = g.weight; longest = g.longest; framing = x; shared = shared_in w }) framing
        ∙ ap (λ (x : Bool). record { weight = g.weight; longest = g.longest; framing = g.framing; shared = x }) p.2

    absent : g ≡ no_setting → setting_in h w ≡ g
    absent q = ap (setting_in h) (e ∙ ap plan_lane_word q) ∙ sym q

module _ (p : Planned) (a : List ℕ) (w : Within p) (s : ShowsPlan p a) where
  framing-back : framing_in a ≡ framing_of p.lanes
  framing-back = omega (arith, s.head, format_small p.format w.format)

  format_back : format_in a ≡ p.format
  format_back = omega (arith, s.head, format_small p.format w.format)

  lanes-back : lanes_in a ≡ p.lanes
  lanes-back =
      ext_get_or no_setting (lanes_in a) p.lanes (length-tab 64 (lane_in a) ∙ sym w.setup.size)
      (λ k l.
      let b : k < 64 = omega (arith, l, length-tab 64 (lane_in a)) in
      get_d-tab 64 k (lane_in a) no_setting b
      ∙ ap (λ (h : ℕ). setting_in h (word_at a (k + 1))) framing-back
      ∙ word_back (framing_of p.lanes) (word_at a (k + 1)) (setting_at p.lanes k) (fitting-line p.lanes w.setup k) (s.lane k b))

  pub shows-plan : plan_in a ≡ p
  shows-plan =
      ap (λ (x : ℕ). record { format = x; lanes = lanes_in a; count = present (lanes_in a) }) format_back
      ∙ ap (λ (x : List Setting). record { format = p.format; lanes = x; count = present x }) lanes-back
      ∙ ap (λ (n : ℕ). record { format = p.format; lanes = p.lanes; count = n }) w.count

  pub shows-within : AreaRoom a → AreaWithin a
  shows-within room = record { room = room; plan = subst Within (sym shows-plan) w }

-- ---- an area that is a plan

some_lane : (gs : List Setting) → 0 < weights gs → (k : ℕ) × (0 < (setting_at gs k).weight)
some_lane [] h = absurd (omega (arith, h))
some_lane (g ∷ gs) h =
    elim (dec_le 1 g.weight) [
      | yes b ↦ (0, b)
      | no b ↦ let r = some_lane gs (omega (arith, h, b)) in (suc r.0, r.1)
    ]

framing-of : (h w : ℕ) → (w % 65536 ≡ 0 → ⊥) → (setting_in h w).framing ≡ h
framing-of h w z = rw (ne_eqb (w % 65536) 0 z)

module _ (a : List ℕ) (w : AreaWithin a) where
  abbrev gs : List Setting
  gs = lanes_in a

  past : (k : ℕ) → 64 ≤ k → setting_at gs k ≡ no_setting
  past k l = get_or-eq_default gs no_setting (omega (arith, l, length-tab 64 (lane_in a)))

  line : framing_of gs ≡ framing_in a
  line =
      let found = some_lane gs w.plan.setup.some_lane in
      let k = found.0 in
      let f = w.plan.setup.framed k found.1 in
      elim (dec_le (suc k) 64) [
        | yes b ↦
            let is : setting_at gs k ≡ lane_in a k = get_d-tab 64 k (lane_in a) no_setting b in
            let weight : (setting_at gs k).weight ≡ word_at a (k + 1) % 65536 = ap (λ (g : Setting). g.weight) is in
            sym f ∙ ap (λ (g : Setting). g.framing) is ∙ framing-of (framing_in a) (word_at a (k + 1)) (λ z. omega (arith, z, weight, found.1))
        | no b ↦ absurd (omega (arith, found.1, ap (λ (g : Setting). g.weight) (past k (omega (arith, b)))))
      ]

  pub area-shows : ShowsPlan (plan_in a) a
  area-shows = record {
    head = omega (arith, line);
    lane = λ k b.
        let is : setting_at gs k ≡ lane_in a k = get_d-tab 64 k (lane_in a) no_setting b in
        sym (ap plan_lane_word is ∙ word-is (framing_in a) (word_at a (k + 1)));
  }
