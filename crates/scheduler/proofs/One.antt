-- The promises leave nothing of an answer open. Assumes nothing.
use Prim.Native.Nat.{ℕ, ◌<◌}
use native.Mathlib.Decide.{dec_le}
use native.Mathlib.Omega.{arith}
use mathlib.Core.Path.{◌≡◌, refl, sym, ap, subst, ◌∙◌}
use mathlib.Core.Logic.{inl, inr}
use mathlib.Core.List.{List}
use lib.ListN.{length, drop}
use Rattle.alike.specs.AlikeDevice.{AlikeDevice}
use Rattle.alike.proofs.Alike.{alike_refl, alike-sym, alike-trans}
use Rattle.pages.specs.Device.{Device, fresh_device, DeviceReply, device_step}
use Rattle.plan.specs.Read.{read_setup, SetupReply, setup_refused, setup_read}
use Rattle.table.specs.Layout.{table_size}
use Rattle.paged.specs.Paged.{device_of, EncodesDevice}
use Rattle.paged.proofs.Units.{device-encoded}
use Rattle.scheduler.specs.Step.{KeptBy, UnitStep}
use Rattle.scheduler.specs.Make.{TableBySetup, make_reply}
use Rattle.scheduler.specs.One.{SameTable, OneAnswer, OneMaking}
use Rattle.scheduler.proofs.Steps.{encoded-alike}

-- two tables that encode one unit
alike_both : (d e f : Device) → AlikeDevice d f → AlikeDevice e f → AlikeDevice d e
alike_both d e f a b = record {
  state = alike-trans d.state f.state e.state a.state (alike-sym e.state f.state b.state);
  edition = a.edition ∙ sym b.edition;
  waiting = a.waiting ∙ sym b.waiting;
}

same-unit : (u u' : List ℕ) (d : Device) → EncodesDevice u d → EncodesDevice u' d → drop table_size u ≡ drop table_size u' → SameTable u u'
same-unit u u' d e e' rest = record { device = alike_both (device_of u) (device_of u') d (encoded-alike u d e) (encoded-alike u' d e'); rest = rest }

same_bytes : (t u u' : List ℕ) → u ≡ t → u' ≡ t → SameTable u u'
same_bytes t u u' e e' =
    let q : u ≡ u' = e ∙ sym e' in
    record { device = subst (λ (x : List ℕ). AlikeDevice (device_of u) (device_of x)) q (record { state = alike_refl (device_of u).state; edition = refl; waiting = refl }); rest = ap (drop table_size) q }

pub one_answer : OneAnswer
unfolding OneAnswer
one_answer c t (inl g) r r' u u' p p' =
    let d = device_of t in
    let e = device-encoded t g in
    (p.reply g d e ∙ sym (p'.reply g d e), same-unit u u' (device_step d c).device (p.device g d e) (p'.device g d e) (p.rest ∙ sym p'.rest))
one_answer c t (inr n) r r' u u' p p' =
    let kept : (x : DeviceReply) (v : List ℕ) → UnitStep c t x v → v ≡ t = λ x v q. subst (λ (y : DeviceReply). KeptBy y t v) (q.not_good n) q.unchanged in
    (p.not_good n ∙ sym (p'.not_good n), same_bytes t u u' (kept r u p) (kept r' u' p'))

pub one-making : OneMaking
unfolding OneMaking
one-making setup t a a' u u' p p' = elim (dec_le table_size (length t)) [ yes h ↦ read_one (read_setup setup) (p.follows h) (p'.follows h) | no h ↦ short-one (omega arith) ]
  where
    read_one : (r : SetupReply) → TableBySetup r t a u → TableBySetup r t a' u' → (make_reply a ≡ make_reply a') × SameTable u u'
    read_one (setup_refused n q) h h' = (h.0 ∙ sym h'.0, same_bytes t u u' h.1 h'.1)
    read_one (setup_read v gs n q) h h' = (h.0 ∙ sym h'.0, same-unit u u' (fresh_device gs) h.1 h'.1 (h.2 ∙ sym h'.2))

    short-one : length t < table_size → (make_reply a ≡ make_reply a') × SameTable u u'
    short-one q = let x = p.short q in let y = p'.short q in (x.0 ∙ sym y.0, same_bytes t u u' x.1 y.1)
