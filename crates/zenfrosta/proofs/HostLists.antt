-- A list of exported calls is a list of public calls, as the host hears it. Assumes nothing.
use Prim.Native.Nat.{ℕ}
use mathlib.Core.Path.{◌≡◌, sym, ap, subst, ◌∙◌}
use mathlib.Core.List.{List, [], ◌∷◌, ◌++◌}
use Rattle.rules.specs.State.{Setting}
use Rattle.rules.specs.Calls.{Reply}
use Rattle.rules.specs.Reads.{reads}
use Rattle.table.specs.Means.{meant}
use Rattle.pages.specs.Device.{DeviceReply, ruled, answered}
use Rattle.pages.specs.Offers.{DeviceEvent}
use Rattle.scheduler.specs.Step.{offered, offering}
use Rattle.scheduler.specs.Chain.{Chain, done, then, offers, Led}
use Rattle.scheduler.proofs.Steps.{step-says}
use Rattle.scheduler.specs.Demands.{EveryList}
use Rattle.scheduler.proofs.Chains.{led-good, led_on}
use Rattle.scheduler.proofs.Demands.{every-list}
use Rattle.zenfrosta.specs.Crossing.{code, values, offer_code, words_in}
use Rattle.zenfrosta.specs.Heard.{heard, heard_offer, Crossed, nothing, short, whole, short_offer, whole_offer, HostLists}
use Rattle.zenfrosta.proofs.Heard.{heard-back}
use Rattle.zenfrosta.proofs.HostMakes.{offer-back}

host-chain : (gs : List Setting) (first : List DeviceEvent) {t u : List ℕ} {es : List DeviceEvent} → Led gs first t → Crossed t es u → Chain t es u
host-chain gs first l nothing = done
host-chain gs first l (short {t} {u} {v} {es = es} h x more) =
    let same = (x.short h).1 in
    subst (λ (b : List ℕ). Chain b es v) same (host-chain gs first (subst (Led gs first) (sym same) l) more)
host-chain gs first l (whole {t} {u} {v} {out} {out'} {c} {r} {es} h x more) =
    let told = x.told h in
    let step_is = told.1 in
    let g = led-good gs first t l in
    let reply : reads told.0 ≡ _ = step-says c t (reads told.0) u g step_is in
    let back : heard c (code (reads told.0)) (values (reads told.0)) ≡ reads told.0
    = subst (λ (y : Reply). heard c (code y) (values y) ≡ y) (sym reply) (heard-back (meant t) g.core.good c) in
    let hears : heard c r (words_in out') ≡ reads told.0
    = ap (λ (n : ℕ). heard c n (words_in out')) told.2 ∙ ap (heard c (code (reads told.0))) told.3.read ∙ back in
    let rest = host-chain gs (first ++ record { call = ruled c; reply = answered (reads told.0) } ∷ []) (led_on gs first (record { call = ruled c; reply = answered (reads told.0) } ∷ []) t u l (then step_is done)) more in
    subst (λ (y : Reply). Chain t (record { call = ruled c; reply = answered y } ∷ es) v) (sym hears) (then step_is rest)
host-chain gs first l (short_offer {t} {u} {v} {es = es} bytes h x more) =
    let same = (x.short h).1 in
    subst (λ (b : List ℕ). Chain b es v) same (host-chain gs first (subst (Led gs first) (sym same) l) more)
host-chain gs first l (whole_offer {t} {u} {v} {out} {out'} {r} {es} bytes h x more) =
    let told = x.told h in
    let said = offering told.0 in
    let hears : heard_offer r (words_in out') ≡ said
    = ap (λ (n : ℕ). heard_offer n (words_in out')) told.2 ∙ ap (heard_offer (offer_code said)) told.3.read ∙ offer-back told.0 in
    let rest = host-chain gs (first ++ record { call = offered bytes; reply = said } ∷ []) (led_on gs first (record { call = offered bytes; reply = said } ∷ []) t u l (offers bytes told.1 done)) more in
    subst (λ (y : DeviceReply). Chain t (record { call = offered bytes; reply = y } ∷ es) v) (sym hears) (offers bytes told.1 rest)

pub host-lists : HostLists
unfolding HostLists EveryList
host-lists gs first calls t u l x = let ch = host-chain gs first l x in (ch, every-list gs first calls t u l ch)
