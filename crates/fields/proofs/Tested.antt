-- What stands at a place, by the answers of the tests that a reader makes there.
--
--   tested   the laws below, in the order of the tests: nothing left, a header cut, an unknown tag, a wrong length, a value cut, a whole field
--
-- Each is stated of the answers themselves, so that a reader's proof finds them where they were given.
--
-- Assumes nothing.
use Prim.Native.Nat.{ℕ, ◌+◌, ◌≤◌}
use mathlib.Core.Path.{◌≡◌, sym, ap, ◌∙◌}
use mathlib.Core.Bool.{Bool, true, false, not}
use mathlib.Core.List.{List}
use mathlib.Core.Option.{some}
use borrow.Author.Tests.{not-true, not-false, leb-true}
use lib.Dec.{leb}
use lib.ListN.{length}
use Rattle.fields.specs.Header.{header_at}
use Rattle.fields.specs.Item.{whole_field, bad_field, FieldKinds, item_at}
use Rattle.fields.specs.declared.Field.{Field}
use Rattle.fields.specs.declared.Field.TheVariants.{Nothing, Cut, Header}
use Rattle.fields.proofs.Item.{item-none, item-header-cut, item-unknown, item-wrong, item-cut, item-whole}

-- a test that was passed
pub passed : (a b : Bool) → a ≡ b → not a ≡ false → b ≡ true
passed a b e p = sym e ∙ not-false a p

pub passed-within : (a : Bool) (m n : ℕ) → a ≡ leb m n → not a ≡ false → m ≤ n
passed-within a m n e p = leb-true m n (passed a (leb m n) e p)

module _ {A : Type 0} (known : FieldKinds A) (s : List ℕ) (at : ℕ) (r : Field) where
  pub tested-none : r ≡ header_at s at → r ≡ Nothing → bad_field 1 (some (length s)) ≡ item_at known s at
  tested-none i h = sym (item-none known s at (sym i ∙ h))

  pub tested-header-cut : r ≡ header_at s at → r ≡ Cut → bad_field 1 (some at) ≡ item_at known s at
  tested-header-cut i h = sym (item-header-cut known s at (sym i ∙ h))

  module _ (t v n : ℕ) (k : Bool) where
    pub tested-unknown : r ≡ header_at s at → r ≡ Header t v n → k ≡ known.tag t → not k ≡ true → bad_field 2 (some at) ≡ item_at known s at
    tested-unknown i h e p = sym (item-unknown known s at t v n (sym i ∙ h) (sym e ∙ not-true k p))

    module _ (f : Bool) where
      pub tested-wrong : r ≡ header_at s at → r ≡ Header t v n → k ≡ known.tag t → not k ≡ false → f ≡ known.fits t n → not f ≡ true → bad_field 3 (some at) ≡ item_at known s at
      tested-wrong i h e p g q = sym (item-wrong known s at t v n (sym i ∙ h) (passed k (known.tag t) e p) (sym g ∙ not-true f q))

      module _ (l : Bool) where
        pub tested-cut : r ≡ header_at s at → r ≡ Header t v n → k ≡ known.tag t → not k ≡ false → f ≡ known.fits t n → not f ≡ false → l ≡ leb (v + n) (length s) → not l ≡ true
            → bad_field 1 (some at) ≡ item_at known s at
        tested-cut i h e p g q m o = sym (item-cut known s at t v n (sym i ∙ h) (passed k (known.tag t) e p) (passed f (known.fits t n) g q) (sym m ∙ not-true l o))

        pub tested-whole : r ≡ header_at s at → r ≡ Header t v n → k ≡ known.tag t → not k ≡ false → f ≡ known.fits t n → not f ≡ false → l ≡ leb (v + n) (length s) → not l ≡ false
            → (w : A) → w ≡ known.field s t v n → whole_field w (v + n) ≡ item_at known s at
        tested-whole i h e p g q m o w d = ap (λ (x : A). whole_field x (v + n)) d ∙ sym (item-whole known s at t v n (sym i ∙ h) (passed k (known.tag t) e p) (passed f (known.fits t n) g q) (passed l (leb (v + n) (length s)) m o))

pub ruleset tested = (tested-none, tested-header-cut, tested-unknown, tested-wrong, tested-cut, tested-whole)
