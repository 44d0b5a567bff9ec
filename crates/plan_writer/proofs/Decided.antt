-- Whether a plan is within the numbers can be told.
--
--   within_or_not   the law
--
-- Assumes nothing.
use Prim.Native.Nat.{ℕ, zero, suc, ◌≤◌}
use mathlib.Core.Path.{◌≡◌, refl, sym, ap, ◌∙◌}
use mathlib.Core.Bool.{Bool, true, false}
use mathlib.Core.Logic.{◌⊎◌, inl, inr, ⊎_elim}
use mathlib.Core.List.{List, [], ◌∷◌}
use native.Mathlib.Decide.{dec_le}
use native.Mathlib.Omega.{arith}
use lib.ListN.{length}
use Rattle.units.proofs.Lists.{same_or}
use Rattle.rules.specs.State.{Setting, setting_at}
use Rattle.rules.specs.Setup.{weights, framing_of}
use Rattle.plan.specs.Judge.{known_format}
use Rattle.plan.specs.Accepted.{present}
use Rattle.plan_writer.specs.Write.{Planned, Within, Fitting, Tells}
use Rattle.plan_writer.proofs.Lane.{absent-lane, last-test, is-there, is-absent}
use Rattle.plan_writer.proofs.Framing.{fitting-each, fitting-framed, fitting-line}

told : {P : Type 0} (b : Bool) → Tells b P → P ⊎ (P → ⊥)
told true t = inl (t.yes refl)
told false t = inr (t.no refl)

fit-or-not : (h : ℕ) (g : Setting) → Fitting h g ⊎ (Fitting h g → ⊥)
fit-or-not h g =
    same_or g.weight 0
    (λ (w : g.weight ≡ 0).
    same_or g.longest 0
    (λ (l : g.longest ≡ 0).
    same_or g.framing 0
    (λ (f : g.framing ≡ 0). told _ (absent-lane h g w l f))
    (λ (f : g.framing ≡ 0 → ⊥). inr (λ p. f (ap (λ (x : Setting). x.framing) (is-absent h g w p)))))
    (λ (l : g.longest ≡ 0 → ⊥). inr (λ p. l (ap (λ (x : Setting). x.longest) (is-absent h g w p)))))
    (λ (w : g.weight ≡ 0 → ⊥).
    elim (dec_le g.weight 1024) [
      | yes a ↦
          elim (dec_le 64 g.longest) [
            | yes l ↦
                elim (dec_le g.longest 1500) [
                  | yes m ↦ told _ (last-test h g w a l m)
                  | no m ↦ inr (λ p. omega (arith, (is-there h g w p).0.longest_high, m))
                ]
            | no l ↦ inr (λ p. omega (arith, (is-there h g w p).0.longest_low, l))
          ]
      | no a ↦ inr (λ p. omega (arith, (is-there h g w p).0.weight_high, a))
    ])

all-or-not : (h : ℕ) (gs : List Setting) → ((j : ℕ) → Fitting h (setting_at gs j)) ⊎ (((j : ℕ) → Fitting h (setting_at gs j)) → ⊥)
all-or-not h [] = inl (λ j. inr refl)
all-or-not h (g ∷ gs) =
    ⊎_elim
    (λ (a : Fitting h g). ⊎_elim (λ (f : (j : ℕ) → Fitting h (setting_at gs j)). inl (both a f)) (λ (o : ((j : ℕ) → Fitting h (setting_at gs j)) → ⊥). inr (λ f. o (λ j. f (suc j)))) (all-or-not h gs))
    (λ (o : Fitting h g → ⊥). inr (λ f. o (f 0)))
    (fit-or-not h g)
  where
    both : Fitting h g → ((j : ℕ) → Fitting h (setting_at gs j)) → (j : ℕ) → Fitting h (setting_at (g ∷ gs) j)
    both a f zero = a
    both a f (suc j) = f j

module _ (p : Planned) where
  abbrev gs : List Setting
  gs = p.lanes

  abbrev h : ℕ
  h = framing_of gs

  -- the numbers that are compared
  pub record Counts : Type 0 where
    pub size : length gs ≡ 64
    pub count : present gs ≡ p.count
    pub some_lane : 1 ≤ weights gs
    pub total : weights gs ≤ 1024
    pub framing : h ≤ 64
    pub format : known_format p.format ≡ true

  by-format : length gs ≡ 64 → present gs ≡ p.count → 1 ≤ weights gs → weights gs ≤ 1024 → h ≤ 64 → (b : Bool) → known_format p.format ≡ b → Counts ⊎ (Counts → ⊥)
  by-format s c a b m true e = inl (record { size = s; count = c; some_lane = a; total = b; framing = m; format = e })
  by-format s c a b m false e = inr (λ k. let z : false ≡ true = sym e ∙ k.format in let y : ◌≡◌ {A = ℕ} 0 1 = cc in omega arith)

  counts-or-not : Counts ⊎ (Counts → ⊥)
  counts-or-not =
      same_or (length gs) 64
      (λ (s : length gs ≡ 64).
      same_or (present gs) p.count
      (λ (c : present gs ≡ p.count).
      elim (dec_le 1 (weights gs)) [
        | yes a ↦
            elim (dec_le (weights gs) 1024) [
              | yes b ↦ elim (dec_le h 64) [ yes m ↦ by-format s c a b m (known_format p.format) refl | no m ↦ inr (λ k. m k.framing) ]
              | no b ↦ inr (λ k. b k.total)
            ]
        | no a ↦ inr (λ k. a k.some_lane)
      ])
      (λ (o : present gs ≡ p.count → ⊥). inr (λ k. o k.count)))
      (λ (o : length gs ≡ 64 → ⊥). inr (λ k. o k.size))

  within : Counts → ((j : ℕ) → Fitting h (setting_at gs j)) → Within p
  within k f = record {
    format = k.format;
    setup = record {
      size = k.size;
      each = λ j. fitting-each h (setting_at gs j) (f j);
      some_lane = k.some_lane;
      total = k.total;
      framing_high = k.framing;
      framed = λ j w. fitting-framed h (setting_at gs j) (f j) w;
    };
    count = k.count;
  }

  counts : Within p → Counts
  counts w = record { format = w.format; size = w.setup.size; count = w.count; some_lane = w.setup.some_lane; total = w.setup.total; framing = w.setup.framing_high }

  pub within_or_not : Within p ⊎ (Within p → ⊥)
  within_or_not =
      ⊎_elim
      (λ (k : Counts).
      ⊎_elim (λ (f : (j : ℕ) → Fitting h (setting_at gs j)). inl (within k f)) (λ (o : ((j : ℕ) → Fitting h (setting_at gs j)) → ⊥). inr (λ w. o (fitting-line gs w.setup))) (all-or-not h gs))
      (λ (o : Counts → ⊥). inr (λ w. o (counts w)))
      counts-or-not
