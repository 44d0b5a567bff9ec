-- Laws of `item_at`.
--
--   item-none .. item-whole   each way that a field goes
--   bad-whole                 a refusal is no field
--   Broken, broken            where and by which number a field is refused
--   Stands, stands, item_of   a whole field: its header, its value and the place after it are there
--   item_by                   one, by the bytes of its header
--   behind-item               a reader moves from it to the place after it
--
-- Assumes nothing.
use Prim.Native.Nat.{ℕ, ◌+◌, ◌≤◌, ◌<◌}
use mathlib.Core.Path.{◌≡◌, refl, ap, subst, ◌∙◌}
use mathlib.Core.Bool.{Bool, true, false, not}
use mathlib.Core.List.{List}
use mathlib.Core.Option.{Option, some}
use native.Mathlib.Omega.{arith}
use borrow.Author.Tests.{leb-true, ltb-true, le-leb}
use lib.Dec.{leb, ltb}
use lib.ListN.{length}
use Rattle.fields.specs.Bytes.{byte_at, big}
use Rattle.fields.specs.Header.{pick, header_at, behind_at}
use Rattle.fields.specs.Item.{Item, whole_field, bad_field, FieldKinds, item_by_header, item_at}
use Rattle.fields.specs.declared.Field.TheVariants.{Nothing, Cut, Header}
use Rattle.fields.proofs.Header.{header-whole, behind-whole}

module _ {A : Type 0} (known : FieldKinds A) (s : List ℕ) (at : ℕ) where
  pub item-none : header_at s at ≡ Nothing → item_at known s at ≡ bad_field 1 (some (length s))
  unfolding item_at
  item-none h = ap (item_by_header known s at) h

  pub item-header-cut : header_at s at ≡ Cut → item_at known s at ≡ bad_field 1 (some at)
  unfolding item_at
  item-header-cut h = ap (item_by_header known s at) h

  module _ (t v n : ℕ) (h : header_at s at ≡ Header t v n) where
    pub item-unknown : known.tag t ≡ false → item_at known s at ≡ bad_field 2 (some at)
    unfolding item_at
    item-unknown k = ap (item_by_header known s at) h ∙ simp k

    pub item-wrong : known.tag t ≡ true → known.fits t n ≡ false → item_at known s at ≡ bad_field 3 (some at)
    unfolding item_at
    item-wrong k f = ap (item_by_header known s at) h ∙ simp (k, f)

    pub item-cut : known.tag t ≡ true → known.fits t n ≡ true → leb (v + n) (length s) ≡ false → item_at known s at ≡ bad_field 1 (some at)
    unfolding item_at
    item-cut k f l = ap (item_by_header known s at) h ∙ simp (k, f, l)

    pub item-whole : known.tag t ≡ true → known.fits t n ≡ true → leb (v + n) (length s) ≡ true → item_at known s at ≡ whole_field (known.field s t v n) (v + n)
    unfolding item_at
    item-whole k f l = ap (item_by_header known s at) h ∙ simp (k, f, l)

pub bad-whole : {A B : Type 0} {k : ℕ} {q : Option ℕ} {f : A} {m : ℕ} → bad_field k q ≡ whole_field f m → B
bad-whole h = absurd (let z : ◌≡◌ {A = ℕ} 0 1 = cc in omega arith)

-- a byte stands where a field is refused, but where none is left
pub data Broken (s : List ℕ) (at : ℕ) : ℕ → Option ℕ → Type 0 where
  none_left : Broken s at 1 (some (length s))
  cut : at < length s → Broken s at 1 (some at)
  unknown : at < length s → Broken s at 2 (some at)
  wrong : at < length s → Broken s at 3 (some at)

pub record Stands {A : Type 0} (known : FieldKinds A) (s : List ℕ) (at : ℕ) (f : A) (m : ℕ) : Type 0 where
  pub tag : known.tag (byte_at s at) ≡ true
  pub size : known.fits (byte_at s at) (big s (at + 1) 2) ≡ true
  pub fits : at + 3 + big s (at + 1) 2 ≤ length s
  pub field : known.field s (byte_at s at) (at + 3) (big s (at + 1) 2) ≡ f
  pub after : at + 3 + big s (at + 1) 2 ≡ m

module _ {A : Type 0} (known : FieldKinds A) (s : List ℕ) (at : ℕ) where
  abbrev t : ℕ
  t = byte_at s at

  abbrev n : ℕ
  n = big s (at + 1) 2

  abbrev Is : Item A → Type 0
  Is (whole_field f m) = Stands known s at f m
  Is (bad_field k q) = Broken s at k q

  by_value : (a b c : Bool) → known.tag t ≡ a → known.fits t n ≡ b → leb (at + 3 + n) (length s) ≡ c → at < length s
      → Is (pick (not a) (bad_field 2 (some at)) (pick (not b) (bad_field 3 (some at)) (pick (not c) (bad_field 1 (some at)) (whole_field (known.field s t (at + 3) n) (at + 3 + n)))))
  by_value false b c p q r l = unknown l
  by_value true false c p q r l = wrong l
  by_value true true false p q r l = cut l
  by_value true true true p q r l = record { tag = p; size = q; fits = leb-true (at + 3 + n) (length s) r; field = refl; after = refl }

  by-header : (a b : Bool) → leb (at + 3) (length s) ≡ a → ltb at (length s) ≡ b → Is (item_by_header known s at (pick a (Header t (at + 3) n) (pick b Cut Nothing)))
  by-header true b p q = by_value (known.tag t) (known.fits t n) (leb (at + 3 + n) (length s)) refl refl refl (omega (arith, leb-true (at + 3) (length s) p))
  by-header false true p q = cut (ltb-true at (length s) q)
  by-header false false p q = none_left

  item-is : (i : Item A) → item_at known s at ≡ i → Is i
  unfolding item_at
  item-is i h = subst Is h (by-header (leb (at + 3) (length s)) (ltb at (length s)) refl refl)

  pub broken : {k : ℕ} {q : Option ℕ} → item_at known s at ≡ bad_field k q → Broken s at k q
  broken h = item-is _ h

pub stands : {A : Type 0} {known : FieldKinds A} {s : List ℕ} {at : ℕ} {f : A} {m : ℕ} → item_at known s at ≡ whole_field f m → Stands known s at f m
stands h = item-is _ _ _ _ h

module _ {A : Type 0} (known : FieldKinds A) (s : List ℕ) (at : ℕ) (f : A) (m : ℕ) where
  header_is : Stands known s at f m → header_at s at ≡ Header (byte_at s at) (at + 3) (big s (at + 1) 2)
  header_is k = header-whole s at (omega (arith, k.fits))

  value_is : Stands known s at f m → leb (at + 3 + big s (at + 1) 2) (length s) ≡ true
  value_is k = le-leb (at + 3 + big s (at + 1) 2) (length s) k.fits

  pub item_of : Stands known s at f m → item_at known s at ≡ whole_field f m
  item_of k =
      item-whole known s at _ _ _ (header_is k) k.tag k.size (value_is k)
      ∙ ap (λ (g : A). whole_field g (at + 3 + big s (at + 1) 2)) k.field
      ∙ ap (whole_field f) k.after

  pub behind-item : item_at known s at ≡ whole_field f m → behind_at s at ≡ m
  behind-item h = let k = stands h in behind-whole s at _ _ _ (header_is k) (value_is k) ∙ k.after

-- by the bytes of its header
pub item_by : {A : Type 0} (known : FieldKinds A) (s : List ℕ) (at t n : ℕ) → byte_at s at ≡ t → big s (at + 1) 2 ≡ n → known.tag t ≡ true → known.fits t n ≡ true → at + 3 + n ≤ length s
    → {f : A} {m : ℕ} → known.field s t (at + 3) n ≡ f → at + 3 + n ≡ m → item_at known s at ≡ whole_field f m
item_by known s at t n a b k g l {f} {m} e i = item_of known s at f m (record { tag = rw a k; size = rw (a, b) g; fits = rw b l; field = rw (a, b) e; after = rw b i })
