-- Fields that stand one after another (`Laid` of the reader), and their bytes.
--
--   one-layout    the fields from a place to another are these and no others
--   laid-bytes    the bytes of fields lay them; bytes-laid: fields in the form that are laid have their bytes there
--
-- Nothing here names a kind of field. Assumes nothing.
use Prim.Native.Nat.{ℕ, ◌+◌, ◌≤◌}
use mathlib.Core.Path.{◌≡◌, refl, sym, ap, subst, ◌∙◌}
use mathlib.Core.Bool.{true}
use mathlib.Core.List.{List, [], ◌∷◌, ◌++◌, append_assoc}
use native.Mathlib.Nat.{add-zero}
use native.Mathlib.Omega.{arith}
use lib.ListN.{length, drop, length-append}
use lib.Seq.{drop-drop, drop-append_seam}
use Rattle.units.proofs.Bools.{and_parts}
use Rattle.fields.specs.Bytes.{Bytes}
use Rattle.fields.specs.Item.{whole_field}
use Rattle.plan.specs.Accepted.{Laid}
use Rattle.plan.specs.declared.parse.SetupField.{SetupField}
use Rattle.fields.proofs.Item.{stands}
use Rattle.plan_writer.specs.Format.{field_bytes, bytes_of, formed, all_formed}
use Rattle.plan_writer.proofs.Bytes.{Fits, item-bytes}
use Rattle.plan_writer.proofs.Standing.{stand-bytes}

-- ---- one layout

past : (s : List ℕ) (at : ℕ) (fs : List SetupField) (p : ℕ) → Laid s at fs p → at ≤ p
unfolding Laid
past s at [] p h = omega (arith, h)
past s at (f ∷ fs) p h = omega (arith, (stands h.1).after, past s h.0 fs p h.2)

pub one-layout : (s : List ℕ) (at : ℕ) (fs gs : List SetupField) (p : ℕ) → Laid s at fs p → Laid s at gs p → fs ≡ gs
unfolding Laid
one-layout s at [] [] p a b = refl
one-layout s at [] (g ∷ gs) p a b = absurd (omega (arith, a, (stands b.1).after, past s b.0 gs p b.2))
one-layout s at (f ∷ fs) [] p a b = absurd (omega (arith, b, (stands a.1).after, past s a.0 fs p a.2))
one-layout s at (f ∷ fs) (g ∷ gs) p a b =
    let w : whole_field f a.0 ≡ whole_field g b.0 = sym a.1 ∙ b.1 in
    let first : f ≡ g = cc in
    let place : a.0 ≡ b.0 = cc in
    let rest = one-layout s b.0 fs gs p (subst (λ (m : ℕ). Laid s m fs p) place a.2) b.2 in
    cc

-- ---- bytes

unfoldable pub AllFit : List SetupField → Type 0
AllFit [] = Unit {0}
AllFit (f ∷ fs) = Fits f × AllFit fs

pub laid-bytes : (s : List ℕ) (at : ℕ) (rest : List ℕ) (fs : List SetupField) → AllFit fs → drop at s ≡ bytes_of fs ++ rest → Laid s at fs (at + length (bytes_of fs))
unfolding Laid AllFit bytes_of
laid-bytes s at rest [] a h = sym (add-zero at)
laid-bytes s at rest (f ∷ fs) a h =
    let here : drop at s ≡ field_bytes f ++ (bytes_of fs ++ rest) = h ∙ append_assoc (field_bytes f) (bytes_of fs) rest in
    let m = at + length (field_bytes f) in
    let behind : drop m s ≡ bytes_of fs ++ rest = sym (drop-drop (length (field_bytes f)) at s) ∙ ap (drop (length (field_bytes f))) here ∙ drop-append_seam (field_bytes f) (bytes_of fs ++ rest) in
    let e : m + length (bytes_of fs) ≡ at + length (field_bytes f ++ bytes_of fs) = omega (arith, length-append (field_bytes f) (bytes_of fs)) in
    (m, item-bytes s at (bytes_of fs ++ rest) f a.0 here, subst (Laid s m fs) e (laid-bytes s m rest fs a.1 behind))

pub bytes-laid : (s : List ℕ) → Bytes s → (at : ℕ) (fs : List SetupField) (p : ℕ) → all_formed fs ≡ true → Laid s at fs p → drop at s ≡ bytes_of fs ++ drop p s
unfolding Laid bytes_of
bytes-laid s b at [] p a h = ap (λ (k : ℕ). drop k s) h
bytes-laid s b at (f ∷ fs) p a h =
    let both = and_parts (formed f) (all_formed fs) a in
    stand-bytes s b at f h.0 (stands h.1) both.0
    ∙ ap (λ (l : List ℕ). field_bytes f ++ l) (bytes-laid s b h.0 fs p both.1 h.2)
    ∙ sym (append_assoc (field_bytes f) (bytes_of fs) (drop p s))
