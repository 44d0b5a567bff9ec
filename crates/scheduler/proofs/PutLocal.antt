-- R14.44: 12, 13, 70 and 71 go by what the lane has and holds. Assumes nothing.
use Prim.Native.Nat.{ℕ}
use native.Mathlib.Omega.{arith}
use mathlib.Core.Path.{◌≡◌, refl, sym, ap, ◌∙◌}
use mathlib.Core.Option.{Option, none, some}
use Rattle.rules.specs.State.{Rec, State}
use Rattle.rules.specs.Calls.{put, refused, put_refusal, put_of, do_put, step}
use Rattle.rules.proofs.Local.{put_local}
use Rattle.table.specs.Means.{meant}
use Rattle.scheduler.proofs.Steps.{step-says}
use Rattle.scheduler.specs.PutLocal.{PutLocal}

refused-by : (s : State) (j r : ℕ) (x : Rec) (o : Option ℕ) → (put_of s j x o).reply ≡ refused r none → o ≡ some r
unfolding put_of
refused-by s j r x none e = let z : ◌≡◌ {A = ℕ} 0 1 = cc in absurd (omega arith)
refused-by s j r x (some n) e = cc

-- the mark decides nothing
any-mark : (s : State) (j k m m' n : ℕ) → put_refusal s j (record { train = k; mark = m; len = n }) ≡ put_refusal s j (record { train = k; mark = m'; len = n })
unfolding put_refusal
any-mark s j k m m' n = refl

pub put-local-calls : PutLocal
unfolding PutLocal step do_put put_of
put-local-calls t t' u u' a a' j k m m' n r g g' given waiting p p' h e =
    let s = meant t in
    let s' = meant t' in
    let x : Rec = record { train = k; mark = m; len = n } in
    let x' : Rec = record { train = k; mark = m'; len = n } in
    let is = refused-by s j r x (put_refusal s j x) (sym (step-says (put j k m n) t _ u g p) ∙ e) in
    step-says (put j k m' n) t' _ u' g' p' ∙ ap (λ (o : Option ℕ). (put_of s' j x' o).reply) (any-mark s' j k m' m n ∙ sym (put_local s s' j x given waiting) ∙ is)
