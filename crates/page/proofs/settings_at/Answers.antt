-- `page::settings_at` meets its contract. Assumes nothing.
use Prim.Native.Nat.{ℕ, ◌+◌, ◌-◌}
use lib.ListN.{take, drop}
use mathlib.Core.List.{List}
use mathlib.Core.Path.{◌≡◌, sym, ap, ◌∙◌}
use native.Mathlib.Omega.{arith}
use Rattle.std.proofs.lemmas.Result.{err_from_is_err_and}
use Rattle.fields.specs.Item.{whole_field}
use Rattle.page.proofs.Answers.{value-fits, value-length, not-settings, settings-bad, settings-other, settings-refused, settings-read}
use Rattle.page.proofs.Refusals.{setup-refused}
use Rattle.page.specs.Fields.{page_item_at}
use Rattle.page.specs.Read.{page_read, page_refused, end_at, value_at, distance}
use Rattle.page.specs.declared.parse.PageField.TheVariants.{Settings}
use Rattle.page.specs.declared.parse.PageField.{PageField}
use Rattle.plan.specs.Read.{SetupReply, read_setup, settings}
use Rattle.plan.specs.Read as setup
use Rattle.rules.specs.Reads.{number, place_of}
use borrow.Enum.Refused.{opened}
use Rattle.page.proofs.settings_at.Goals as goal

-- 0x41 stands here
settings_here : (s : List ℕ) (at m : ℕ) (f : PageField) (v n : ℕ) → whole_field f m ≡ page_item_at s at → f ≡ Settings v n → page_item_at s at ≡ whole_field (Settings v n) m
settings_here s at m f v n h e = sym h ∙ ap (λ (g : PageField). whole_field g m) e

-- what was read of its value
inner : (s : List ℕ) (v n : ℕ) (r : SetupReply) → r ≡ read_setup (take (v + n - v) (drop v s)) → read_setup (value_at s v n) ≡ r
unfolding value_at
inner s v n r e = let z : v + n - v ≡ n = omega arith in sym (e ∙ ap (λ (k : ℕ). read_setup (take k (drop v s))) z)

pub returns-in_err-field : goal.returns-in_err-field
returns-in_err-field c =
    let p = err_from_is_err_and c.from_residual.result c.from_residual.ensures.1 in
    rw (p.1, p.2) (sym (settings-bad _ _ _ _ _ (sym c.in_err-field.ensures)))

pub returns-in_default : goal.returns-in_default
returns-in_default c = sym (settings-other _ _ _ _ _ (sym c.in_ok-field.ensures) (not-settings _ (opened c.in_default.in_default-own.keys2)))

pub overflow_add-end : goal.overflow_add-end
overflow_add-end c =
    let v = value-fits _ _ _ _ _ (settings_here _ _ _ _ _ _ c.in_ok-field.ensures c.in-Settings.is) in omega (arith, v.end, v.fits)

pub slice_bounds-read_setup-end : goal.slice_bounds-read_setup-end
slice_bounds-read_setup-end c =
    let v = value-fits _ _ _ _ _ (settings_here _ _ _ _ _ _ c.in_ok-field.ensures c.in-Settings.is) in omega (arith, v.end, v.fits)

pub moved-requires : goal.moved-requires
moved-requires c =
    let v = value-fits _ _ _ _ _ (settings_here _ _ _ _ _ _ c.in_ok-field.ensures c.in-Settings.is) in
    let x = c.in-Err.x in
    let k = setup-refused _ _ _ (inner c.args.s.now c.in-Settings.value c.in-Settings.n (setup.setup_refused (number x) (place_of x)) c.in-Err.ensures) in
    (k.listed, omega (arith, ap distance k.is, k.within, value-length v, v.end, v.fits))

pub returns-in-Ok : goal.returns-in-Ok
returns-in-Ok c =
    let p = c.in-Ok.inner.plan in
    c.end_at.ensures
    ∙ ap (λ (k : ℕ). end_at c.args.s.now k (page_read c.args.edition p.format (settings p) p.count)) c.past_skipped.ensures
    ∙ sym (settings-read _ _ _ _ _ _ (settings_here _ _ _ _ _ _ c.in_ok-field.ensures c.in-Settings.is) _ _ _ _ (inner _ _ _ _ c.in-Ok.ensures))

pub returns-in-Err : goal.returns-in-Err
returns-in-Err c =
    ap (λ (k : ℕ). page_refused k (place_of c.moved.result)) c.moved.ensures.0
    ∙ ap (page_refused (number c.in-Err.x)) c.moved.ensures.1
    ∙ sym (settings-refused _ _ _ _ _ _ (settings_here _ _ _ _ _ _ c.in_ok-field.ensures c.in-Settings.is) _ _ (inner _ _ _ _ c.in-Err.ensures))
