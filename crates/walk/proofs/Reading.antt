-- The value of a field, read byte by byte: what the inner loop of `walk` knows.
--
--   Reading        i bytes of the value are read, as one number
--   read_none      before the first
--   read_more      one more
--   read_fits      the number has room for one more
--   read-request   all of them: the request of that number stands at the place
--
-- Assumes nothing.
use Prim.Native.Nat.{ℕ, ◌+◌, ◌*◌, ◌^◌, ◌≤◌, ◌<◌}
use native.Mathlib.Nat.{pow-le-pow_right}
use native.Mathlib.Numerals.{add-one}
use native.Mathlib.Omega.{arith}
use mathlib.Core.Path.{◌≡◌, refl, sym, ap, ◌∙◌}
use mathlib.Core.List.{List}
use lib.ListN.{length}
use Rattle.fields.specs.Bytes.{byte_at, big}
use Rattle.rules.specs.Calls.{Call}
use Rattle.requests.specs.Request.{head_at, right, request_item_at, request, call_of, call_by_number}
use Rattle.requests.proofs.Heads.{head-size, item-request}
use Rattle.requests.proofs.Values.{big-more, big-most, value_is}

pub record Reading (s : List ℕ) (at size i value : ℕ) : Type 0 where
  pub short : size ≤ 8
  pub few : i ≤ size
  pub within : at + 3 + i ≤ length s
  pub is : value ≡ big s (at + 3) i

pub read_none : (s : List ℕ) (at size : ℕ) → at + 3 ≤ length s → size ≤ 8 → Reading s at size 0 0
unfolding big
read_none s at size h l = record { short = l; few = omega arith; within = omega arith; is = refl }

module _ {s : List ℕ} {at size i value : ℕ} (r : Reading s at size i value) where
  pub read_more : i < size → at + 3 + i < length s → (b : ℕ) → b ≡ byte_at s (at + 3 + i) → Reading s at size (i + 1) (value * 256 + b)
  read_more l h b e = record {
    short = r.short;
    few = omega arith;
    within = omega arith;
    is = rw add-one (omega (arith, r.is, e, big-more s i (at + 3)));
  }

  pub read_fits : ((k : ℕ) → byte_at s k < 256) → i < size → value < 256 ^ 7
  read_fits small l = omega (arith, r.is, big-most s small i (at + 3), pow-le-pow_right {n = 256} (omega arith) {i = i} {j = 7} (omega (arith, r.short)))

  pub read-request : ((k : ℕ) → byte_at s k < 256) → (tag : ℕ) → head_at s at ≡ right tag size → size ≤ i → (tag ≡ 127 → ⊥) → (c : Call) → c ≡ call_by_number tag value → request_item_at s at ≡ request c (at + 3 + size)
  read-request small tag h l d c e =
      let all : i ≡ size = omega (arith, r.few) in
      let whole : at + 3 + size ≤ length s = omega (arith, r.within) in
      let is : c ≡ call_of s tag (at + 3) = e ∙ ap (call_by_number tag) (r.is ∙ ap (big s (at + 3)) all) ∙ value_is s small tag (at + 3) size (head-size s at tag size h) in
      item-request s at tag size h whole d ∙ ap (λ (x : Call). request x (at + 3 + size)) (sym is)
