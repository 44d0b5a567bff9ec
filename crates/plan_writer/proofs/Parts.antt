-- The parts of a setup: their bytes, and what holds of each holds of all.
--
--   setup-parts    the bytes of a setup, part by part
--   fit_append, formed-append, formed-split   fields that fit, and fields in the form, one list after another
--   format_small   a known format fits its two bytes
--
-- Assumes nothing.
use Prim.Native.Nat.{ℕ, ◌≤◌}
use mathlib.Core.Path.{◌≡◌, refl, sym, ap, ◌∙◌}
use mathlib.Core.Bool.{Bool, true, false, ◌||◌}
use mathlib.Core.List.{List, [], ◌∷◌, ◌++◌, append_assoc}
use native.Mathlib.Omega.{arith}
use borrow.Author.Tests.{eqb-true}
use lib.Dec.{eqb}
use Rattle.units.proofs.Bools.{and_parts, and-made}
use Rattle.rules.specs.State.{Setting}
use Rattle.plan.specs.Judge.{known_format}
use Rattle.plan.specs.Accepted.{setup_fields, framed, fields_of}
use Rattle.plan.specs.declared.parse.SetupField.{SetupField}
use Rattle.plan.specs.declared.parse.SetupField.TheVariants.{Format, End}
use Rattle.plan_writer.specs.Format.{field_bytes, bytes_of, formed, all_formed}
use Rattle.plan_writer.specs.Write.{lane_fields, unless_zero, lanes_bytes, framing_bytes}
use Rattle.plan_writer.proofs.Laid.{AllFit}

pub bytes-append : (fs gs : List SetupField) → bytes_of (fs ++ gs) ≡ bytes_of fs ++ bytes_of gs
unfolding bytes_of
bytes-append [] gs = refl
bytes-append (f ∷ fs) gs = ap (λ (l : List ℕ). field_bytes f ++ l) (bytes-append fs gs) ∙ sym (append_assoc (field_bytes f) (bytes_of fs) (bytes_of gs))

-- 0x01, 0x11 or none, the lanes, 0x7F
pub setup-parts : (v h : ℕ) (gs : List Setting) → bytes_of (setup_fields v (unless_zero h) (lane_fields 0 gs)) ≡ field_bytes (Format v) ++ (framing_bytes h ++ (lanes_bytes 0 gs ++ field_bytes End))
unfolding framing_bytes bytes_of
setup-parts v h gs =
    ap (λ (l : List ℕ). field_bytes (Format v) ++ l)
    (bytes-append (framed (unless_zero h)) (fields_of (lane_fields 0 gs) ++ (End ∷ []))
    ∙ ap (λ (l : List ℕ). bytes_of (framed (unless_zero h)) ++ l) (bytes-append (fields_of (lane_fields 0 gs)) (End ∷ [])))

pub fit_append : (fs gs : List SetupField) → AllFit fs → AllFit gs → AllFit (fs ++ gs)
unfolding AllFit
fit_append [] gs a b = b
fit_append (f ∷ fs) gs a b = (a.0, fit_append fs gs a.1 b)

pub formed-append : (fs gs : List SetupField) → all_formed fs ≡ true → all_formed gs ≡ true → all_formed (fs ++ gs) ≡ true
formed-append [] gs a b = b
formed-append (f ∷ fs) gs a b = let both = and_parts (formed f) (all_formed fs) a in and-made (formed f) (all_formed (fs ++ gs)) both.0 (formed-append fs gs both.1 b)

pub formed-split : (fs gs : List SetupField) → all_formed (fs ++ gs) ≡ true → (all_formed fs ≡ true) × (all_formed gs ≡ true)
formed-split [] gs h = (refl, h)
formed-split (f ∷ fs) gs h = let both = and_parts (formed f) (all_formed (fs ++ gs)) h in let rest = formed-split fs gs both.1 in (and-made (formed f) (all_formed fs) both.0 rest.0, rest.1)

-- a known format fits its two bytes
pub format_small : (v : ℕ) → known_format v ≡ true → v ≤ 2
format_small v h = go (eqb v 1) refl h
  where
    go : (b : Bool) → eqb v 1 ≡ b → (b || eqb v 2) ≡ true → v ≤ 2
    go true e h = omega (arith, eqb-true v 1 e)
    go false e h = omega (arith, eqb-true v 2 h)
