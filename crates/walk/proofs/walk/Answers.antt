-- `walk` meets its contract. The loop over fields knows `Stands`, the loop over a value's bytes `Reading`. Assumes nothing.
use Prim.Native.Nat.{ℕ, ◌+◌, ◌≤◌, ◌<◌}
use native.Mathlib.Omega.{arith}
use mathlib.Core.Path.{◌≡◌, refl, sym, ap, ◌∙◌}
use lib.ListN.{length}
use Rattle.fields.specs.Bytes.{byte_at}
use Rattle.rules.specs.declared.Refusal.TheVariants.{Cut}
use Rattle.requests.specs.Request.{head_is, head_at, right, call_is, request_item_at, request}
use Rattle.requests.proofs.Heads.{head-whole, head-short, item-wrong, item-cut, item-last}
use Rattle.walk.proofs.Reading.{read_none, read_more, read_fits, read-request}
use Rattle.walk.proofs.Walking.{stands-next, text-most, two-lines, stops, walk-limit, walk-bad, walk-last}
use Rattle.walk.specs.declared.Stop.TheVariants.{Limit, Refused}
use Rattle.walk.proofs.walk.Goals as goal
use Rattle.walk.proofs.walk.Goals.{in-Some, in-None+in-Ok+else-loop-i-test+else-tag-eq-END}

-- ---- what is known at a place of the code

-- ---- the needs

pub loop-i-init : goal.loop-i-init
loop-i-init c =
    let head-is : head_at c.args.s.now c.fields.at ≡ right c.in-Ok.tag c.in-Ok.size = sym c.head_at.ensures ∙ ap head_is c.in-Ok.is in
    (read_none _ _ _ (head-whole _ _ _ _ head-is) (head-short _ _ _ _ head-is), refl)

pub overflow_mul-value : goal.overflow_mul-value
overflow_mul-value c =
    let small : (k : ℕ) → byte_at c.args.s.now k < 256 = λ k. omega (arith, c.type_inv.s k) in
    omega (arith, read_fits c.loop-i.invariant.0 small c.loop-i-test.true)

pub overflow_add-value : goal.overflow_add-value
overflow_add-value c =
    let small : (k : ℕ) → byte_at c.args.s.now k < 256 = λ k. omega (arith, c.type_inv.s k) in
    omega (arith, read_fits c.loop-i.invariant.0 small c.loop-i-test.true, c.type_inv.s (c.fields.at + 3 + c.loop-i.i))

pub loop-i-preserved : goal.loop-i-preserved
loop-i-preserved c = (read_more c.loop-i.invariant.0 c.loop-i-test.true c.if-p-s.false _ refl, c.loop-i.invariant.1)

pub fields-preserved : goal.fields-preserved
fields-preserved c =
    let small : (k : ℕ) → byte_at c.args.s.now k < 256 = λ k. omega (arith, c.type_inv.s k) in
    let found : request_item_at c.args.s.now c.fields.at ≡ request (call_is c.match-quick_at.q) c.match-quick_at.next =
    elim c.match-quick_at.branch [
      | in-Some w ↦ rw (w.q-is, w.next-is) (rw w.in-Some.is at c.quick_at.ensures)
      | in-None+in-Ok+else-loop-i-test+else-tag-eq-END w ↦
          rw (w.q-is, w.next-is) (read-request w.loop-i.invariant.0 small w.in-Ok.tag (sym w.head_at.ensures ∙ ap head_is w.in-Ok.is) w.loop-i-test.false w.if-tag-eq-END.false _ w.request_of-q.ensures)
    ] in
    let goes_on : c.match-quick_at.why ≡ Limit =
    elim c.match-quick_at.branch [
      | in-Some w ↦ w.why-is ∙ c.fields.invariant.1
      | in-None+in-Ok+else-loop-i-test+else-tag-eq-END w ↦ w.why-is ∙ w.loop-i.invariant.1 ∙ c.fields.invariant.1
    ] in
    let f = c.fields in
    (stands-next f.invariant.0 c.fields-test.true _ _ found c.answer-done.ensures, goes_on, c.answer-done.auto.t ∙ f.invariant.2)

pub returns-after-fields : goal.returns-after-fields
returns-after-fields c =
    let f = c.fields in
    let s = c in
    rw f.invariant.1 (stops f.invariant.0 Limit (walk-limit _ _ _ _ _ _ c.fields-test.false) (omega (arith, text-most f.invariant.0 s.requires.2, f.invariant.0.few)))

pub returns-in-Err : goal.returns-in-Err
returns-in-Err c =
    let f = c.fields in
    let s = c in
    let e = c.fields-test.true in
    stops f.invariant.0 (Refused c.in-Err.x)
    (walk-bad _ _ _ _ _ _ e _ _ (item-wrong _ _ _ _ (sym c.head_at.ensures ∙ ap head_is c.in-Err.is)))
    (omega (arith, text-most f.invariant.0 s.requires.2, e))

pub returns-then-p-s : goal.returns-then-p-s
returns-then-p-s c =
    let head-is : head_at c.args.s.now c.fields.at ≡ right c.in-Ok.tag c.in-Ok.size = sym c.head_at.ensures ∙ ap head_is c.in-Ok.is in
    let f = c.fields in
    let s = c in
    let e = c.fields-test.true in
    stops f.invariant.0 (Refused (Cut f.at))
    (walk-bad _ _ _ _ _ _ e _ _ (item-cut _ _ _ _ head-is (omega (arith, c.if-p-s.true, c.loop-i-test.true))))
    (omega (arith, text-most f.invariant.0 s.requires.2, e))

pub returns-then-tag-eq-END : goal.returns-then-tag-eq-END
returns-then-tag-eq-END c =
    let head-is : head_at c.args.s.now c.fields.at ≡ right c.in-Ok.tag c.in-Ok.size = sym c.head_at.ensures ∙ ap head_is c.in-Ok.is in
    let whole : c.fields.at + 3 + c.in-Ok.size ≤ length c.args.s.now = omega (arith, c.loop-i-test.false, c.loop-i.invariant.0.few, c.loop-i.invariant.0.within) in
    let f = c.fields in
    let s = c in
    let e = c.fields-test.true in
    stops f.invariant.0 c.closed-why.result
    (rw c.closed-why.ensures (walk-last _ _ _ _ _ _ e _ (item-last _ _ _ _ head-is whole c.if-tag-eq-END.true)))
    (omega (arith, text-most f.invariant.0 s.requires.2, e, two-lines c.closed-why.result))
