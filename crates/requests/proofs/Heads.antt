-- Laws of `head_at` and `request_item_at` of specs/Request.antt: each way that a field goes.
--
--   head-none .. head-right             a header, judged
--   head-whole, head-size, head-short   what a header that is right is
--   item-wrong .. item-request          a field
--   item-quick                          a request, by the bytes of its header
--
-- Assumes nothing.
use Prim.Native.Nat.{ℕ, ◌+◌, ◌≤◌, ◌<◌}
use mathlib.Core.Path.{◌≡◌, refl, sym, ap, subst, ◌∙◌}
use mathlib.Core.Bool.{Bool, true, false, ◌||◌}
use mathlib.Core.List.{List}
use mathlib.Core.Option.{Option, none, some}
use native.Mathlib.Decide.{dec_le}
use native.Mathlib.Omega.{arith}
use borrow.Author.Tests.{eq-eqb, ne_eqb, eqb-true, le-leb, lt-leb}
use lib.Dec.{eqb}
use lib.ListN.{length}
use Rattle.fields.specs.Bytes.{byte_at, big}
use Rattle.fields.specs.Header.{header_at}
use Rattle.fields.specs.declared.Field.TheVariants.{Nothing, Cut, Header}
use Rattle.fields.proofs.Header.{header-whole, header-cut, header-none}
use Rattle.std.specs.Prelude.{if◌then◌else◌}
use Rattle.requests.specs.Request.{request_size, Heading, right, wrong, sized, headed, head_at, request, last, bad_request, call_of, valued, request_item_at}

module _ (s : List ℕ) (at : ℕ) where
  pub head-none : header_at s at ≡ Nothing → head_at s at ≡ wrong 1 (some (length s))
  unfolding head_at
  head-none h = ap (headed s at) h

  pub head-cut : header_at s at ≡ Cut → head_at s at ≡ wrong 1 (some at)
  unfolding head_at
  head-cut h = ap (headed s at) h

module _ (s : List ℕ) (at tag v n : ℕ) (h : header_at s at ≡ Header tag v n) where
  pub head-unknown : request_size tag ≡ none → head_at s at ≡ wrong 2 (some at)
  unfolding head_at
  head-unknown e = ap (headed s at) h ∙ ap (sized at tag n) e

  pub head-wrong : (k : ℕ) → request_size tag ≡ some k → (n ≡ k → ⊥) → head_at s at ≡ wrong 3 (some at)
  unfolding head_at
  head-wrong k e f = ap (headed s at) h ∙ ap (sized at tag n) e ∙ rw (ne_eqb n k f)

  pub head-right : (k : ℕ) → request_size tag ≡ some k → n ≡ k → head_at s at ≡ right tag n
  unfolding head_at
  head-right k e f = ap (headed s at) h ∙ ap (sized at tag n) e ∙ rw (eq-eqb n k f)

-- ---- what a right header knows

abbrev Most : ℕ → Option ℕ → Type 0
Most n none = Unit
Most n (some k) = k ≤ n

pick-most : (b : Bool) (n : ℕ) (x y : Option ℕ) → Most n x → Most n y → Most n (if b then x else y)
pick-most true n x y p q = p
pick-most false n x y p q = q

-- a value has at most 8 bytes
size-most : (t : ℕ) → Most 8 (request_size t)
size-most t =
    pick-most (eqb t 32) 8 _ _ (omega arith)
    (pick-most (eqb t 38) 8 _ _ (omega arith)
    (pick-most (eqb t 36) 8 _ _ (omega arith)
    (pick-most (eqb t 33 || (eqb t 34 || (eqb t 35 || (eqb t 37 || eqb t 127)))) 8 _ _ (omega arith) tt)))

never : {A : Type 0} (n : ℕ) (p : Option ℕ) (t k : ℕ) (x : Heading) → x ≡ wrong n p → x ≡ right t k → A
never n p t k x e f = let z : ◌≡◌ {A = ℕ} 0 1 = cc in absurd (omega arith)

known-size : (at t m : ℕ) (o : Option ℕ) → request_size t ≡ o → (tag n : ℕ) → sized at t m o ≡ right tag n → request_size tag ≡ some n
known-size at t m none q tag n e = never 2 (some at) tag n (sized at t m none) refl e
known-size at t m (some k) q tag n e = go (eqb m k) refl e
  where
    go : (b : Bool) → eqb m k ≡ b → (if b then right t m else wrong 3 (some at)) ≡ right tag n → request_size tag ≡ some n
    go true h f =
        let x : t ≡ tag = cc in
        let y : m ≡ n = cc in
        rw (← x, ← y, eqb-true m k h) q
    go false h f = never 3 (some at) tag n (wrong 3 (some at)) refl f

-- a header that is right is whole ..
pub head-whole : (s : List ℕ) (at tag n : ℕ) → head_at s at ≡ right tag n → at + 3 ≤ length s
head-whole s at tag n e =
    elim (dec_le (at + 3) (length s)) [
      | yes a ↦ a
      | no a ↦ elim (dec_le (length s) at) [
        | yes b ↦ never 1 (some (length s)) tag n (head_at s at) (head-none s at (header-none s at b)) e
        | no b ↦ never 1 (some at) tag n (head_at s at) (head-cut s at (header-cut s at (omega arith) (omega arith))) e
      ]
    ]

-- .. its length is the one for its tag ..
pub head-size : (s : List ℕ) (at tag n : ℕ) → head_at s at ≡ right tag n → request_size tag ≡ some n
unfolding head_at
head-size s at tag n e = known-size at (byte_at s at) (big s (at + 1) 2) (request_size (byte_at s at)) refl tag n (sym (ap (headed s at) (header-whole s at (head-whole s at tag n e))) ∙ e)

-- .. and short
pub head-short : (s : List ℕ) (at tag n : ℕ) → head_at s at ≡ right tag n → n ≤ 8
head-short s at tag n e = subst (Most 8) (head-size s at tag n e) (size-most tag)

-- ---- a field

module _ (s : List ℕ) (at : ℕ) where
  pub item-wrong : (n : ℕ) (p : Option ℕ) → head_at s at ≡ wrong n p → request_item_at s at ≡ bad_request n p
  unfolding request_item_at
  item-wrong n p h = ap (valued s at) h

module _ (s : List ℕ) (at tag n : ℕ) (h : head_at s at ≡ right tag n) where
  pub item-cut : length s < at + 3 + n → request_item_at s at ≡ bad_request 1 (some at)
  unfolding request_item_at
  item-cut l = ap (valued s at) h ∙ rw (lt-leb (at + 3 + n) (length s) l)

  pub item-last : at + 3 + n ≤ length s → tag ≡ 127 → request_item_at s at ≡ last (at + 3 + n)
  unfolding request_item_at
  item-last l e = ap (valued s at) h ∙ rw (le-leb (at + 3 + n) (length s) l, eq-eqb tag 127 e)

  pub item-request : at + 3 + n ≤ length s → (tag ≡ 127 → ⊥) → request_item_at s at ≡ request (call_of s tag (at + 3)) (at + 3 + n)
  unfolding request_item_at
  item-request l f = ap (valued s at) h ∙ rw (le-leb (at + 3 + n) (length s) l, ne_eqb tag 127 f)

-- a request whose header is read by its bytes
pub item-quick : (s : List ℕ) (at tag n : ℕ) → byte_at s at ≡ tag → big s (at + 1) 2 ≡ n → request_size tag ≡ some n → (tag ≡ 127 → ⊥) → at + 3 + n ≤ length s → request_item_at s at ≡ request (call_of s tag (at + 3)) (at + 3 + n)
item-quick s at tag n e f k d h =
    item-request s at tag n (head-right s at tag (at + 3) n (header-whole s at (omega arith) ∙ rw (e, f)) n k refl) h d
