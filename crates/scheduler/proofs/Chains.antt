-- A list of public calls goes on as the rules' own run does. Assumes nothing.
use Prim.Native.Nat.{ℕ}
use mathlib.Core.Path.{◌≡◌, refl, sym, ap, subst, ◌∙◌}
use mathlib.Core.Bool.{false≢true}
use mathlib.Core.List.{List, [], ◌∷◌, ◌++◌, map}
use Rattle.rules.specs.State.{Setting}
use Rattle.rules.specs.Setup.{Setup}
use Rattle.rules.specs.Calls.{Call}
use Rattle.rules.proofs.AlwaysGood.{reached-good}
use Rattle.pages.specs.Device.{Device, fresh_device, DeviceCall, ruled, DeviceReply, device_step}
use Rattle.pages.specs.Offers.{DeviceEvent, event_of, device_after, device_after_by, device_trace, device_trace_by, Read, AllRead}
use Rattle.pages.specs.Claims.{GoodDevice}
use Rattle.pages.proofs.Run.{Run, step_run, run-all}
use Rattle.page.specs.Read.{read_page, PageReply, page_read, page_refused}
use Rattle.plan.specs.Accepted.{setup_refusals, among}
use Rattle.page.specs.Promises.{PagesWithin, PageRefusesInside}
use Rattle.page.proofs.Promises.{pages-within, refuses-inside}
use Rattle.paged.specs.Paged.{EncodesDevice, GoodUnit, EncodesGoodDevice}
use Rattle.paged.proofs.Units.{units-good}
use Rattle.scheduler.specs.Step.{offered, offered_as, UnitStep}
use Rattle.scheduler.specs.Chain.{Chain, done, then, offers, calls_of, Led}

-- a page that the reader reads is a setup within the numbers, and 10 is none of the reader's own numbers
pub page-read : (bytes : List ℕ) → Read (offered bytes)
unfolding Read PagesWithin PageRefusesInside
page-read bytes = go (read_page bytes) refl
  where
    go : (r : PageReply) → read_page bytes ≡ r → Read (offered_as r)
    go (page_read n f gs k) e = (pages-within bytes n f gs k e).setup
    go (page_refused n p) e = λ ten. false≢true (ap (among setup_refusals) (sym ten) ∙ (refuses-inside bytes n p e).listed)

pub run-good : (gs : List Setting) (past : List DeviceEvent) (d : Device) → Run gs past d → GoodDevice d
run-good gs past d r = record { state = reached-good d.state r.reached; waiting = r.waiting }

pub encoded-good : (t : List ℕ) (d : Device) → EncodesDevice t d → GoodDevice d → GoodUnit t
unfolding EncodesGoodDevice
encoded-good t d e g = units-good t d e g

-- a list of public calls is a list of the rules' calls, with the same answers
pub record Ran (d : Device) (es : List DeviceEvent) (u : List ℕ) : Type 0 where
  pub read : AllRead (calls_of es)
  pub events : device_trace d (calls_of es) ≡ es
  pub encodes : EncodesDevice u (device_after d (calls_of es))

-- one call, and what follows it
module _ (gs : List Setting) where
  first-ran : (past : List DeviceEvent) (d : Device) (c : DeviceCall) (r : DeviceReply) (t u v : List ℕ) (es : List DeviceEvent) → Run gs past d → EncodesDevice t d → Read c → UnitStep c t r u
      → Ran (device_step d c).device es v → Ran d (record { call = c; reply = r } ∷ es) v
  unfolding device_trace_by device_after_by AllRead
  first-ran past d c r t u v es at e read p more =
      let g = encoded-good t d e (run-good gs past d at) in
      record {
        read = (read, more.read);
        events = ap (λ (xs : List DeviceEvent). record { call = c; reply = (device_step d c).reply } ∷ xs) more.events
            ∙ ap (λ (x : DeviceReply). record { call = c; reply = x } ∷ es) (sym (p.reply g d e));
        encodes = more.encodes;
      }

  pub ran : (past : List DeviceEvent) (d : Device) {t u : List ℕ} {es : List DeviceEvent} → Run gs past d → EncodesDevice t d → Chain t es u → Ran d es u
  unfolding device_trace_by device_after_by AllRead Read
  ran past d r e done = record { read = tt; events = refl; encodes = e }
  ran past d {t} r e (then {u = u} {v = v} {c = c} {es = rest} st ch) =
      first-ran past d (ruled c) _ t u v rest r e tt st
      (ran (past ++ (event_of d (ruled c) ∷ [])) (device_step d (ruled c)).device (step_run gs past d r (ruled c) tt) (st.device (encoded-good t d e (run-good gs past d r)) d e) ch)
  ran past d {t} r e (offers {u = u} {v = v} {es = rest} bytes st ch) =
      let c = offered bytes in
      first-ran past d c _ t u v rest r e (page-read bytes) st
      (ran (past ++ (event_of d c ∷ [])) (device_step d c).device (step_run gs past d r c (page-read bytes)) (st.device (encoded-good t d e (run-good gs past d r)) d e) ch)

-- ---- lists of calls

pub calls-append : (xs ys : List DeviceEvent) → calls_of (xs ++ ys) ≡ calls_of xs ++ calls_of ys
calls-append [] ys = refl
calls-append (x ∷ xs) ys = ap (λ (cs : List DeviceCall). x.call ∷ cs) (calls-append xs ys)

-- the calls of a run are those that were given
pub calls-of-trace : (d : Device) (cs : List DeviceCall) → calls_of (device_trace d cs) ≡ cs
unfolding device_trace_by
calls-of-trace d [] = refl
calls-of-trace d (c ∷ cs) = ap (λ (x : List DeviceCall). c ∷ x) (calls-of-trace (device_step d c).device cs)

pub trace-append : (d : Device) (xs ys : List DeviceCall) → device_trace d (xs ++ ys) ≡ device_trace d xs ++ device_trace (device_after d xs) ys
unfolding device_trace_by device_after_by
trace-append d [] ys = refl
trace-append d (x ∷ xs) ys = ap (λ (es : List DeviceEvent). record { call = x; reply = (device_step d x).reply } ∷ es) (trace-append (device_step d x).device xs ys)

pub after-append : (d : Device) (xs ys : List DeviceCall) → device_after d (xs ++ ys) ≡ device_after (device_after d xs) ys
unfolding device_after_by
after-append d [] ys = refl
after-append d (x ∷ xs) ys = after-append (device_step d x).device xs ys

read-append : (xs ys : List DeviceCall) → AllRead xs → AllRead ys → AllRead (xs ++ ys)
unfolding AllRead
read-append [] ys h k = k
read-append (x ∷ xs) ys h k = (h.0, read-append xs ys h.1 k)

-- ---- what a list led to

module _ (gs : List Setting) (es : List DeviceEvent) (t : List ℕ) (l : Led gs es t) where
  abbrev end : Device
  end = device_after (fresh_device gs) (calls_of es)

  pub led-run : Run gs es end
  led-run = subst (λ (xs : List DeviceEvent). Run gs xs end) l.answers (run-all gs l.setup (calls_of es) l.read)

  pub led-good : GoodUnit t
  led-good = encoded-good t end l.table (run-good gs es end led-run)

  pub led-ran : (more : List DeviceEvent) (u : List ℕ) → Chain t more u → Ran end more u
  led-ran more u ch = ran gs es end led-run l.table ch

-- public calls go on with it
pub led_on : (gs : List Setting) (es more : List DeviceEvent) (t u : List ℕ) → Led gs es t → Chain t more u → Led gs (es ++ more) u
led_on gs es more t u l ch =
    let r = led-ran gs es t l more u ch in
    let d = device_after (fresh_device gs) (calls_of es) in
    let calls = calls-append es more in
    record {
      setup = l.setup;
      read = subst AllRead (sym calls) (read-append (calls_of es) (calls_of more) l.read r.read);
      answers = ap (device_trace (fresh_device gs)) calls ∙ trace-append (fresh_device gs) (calls_of es) (calls_of more)
          ∙ ap (λ (xs : List DeviceEvent). xs ++ device_trace d (calls_of more)) l.answers ∙ ap (λ (xs : List DeviceEvent). es ++ xs) r.events;
      table = subst (EncodesDevice u) (sym (ap (device_after (fresh_device gs)) calls ∙ after-append (fresh_device gs) (calls_of es) (calls_of more))) r.encodes;
    }

-- a table that encodes what the rules' calls leave
pub led-by : (gs : List Setting) (cs : List DeviceCall) (t : List ℕ) → Setup gs → AllRead cs → EncodesDevice t (device_after (fresh_device gs) cs)
    → Led gs (device_trace (fresh_device gs) cs) t
led-by gs cs t s read e =
    let same = calls-of-trace (fresh_device gs) cs in
    record {
      setup = s;
      read = subst AllRead (sym same) read;
      answers = ap (device_trace (fresh_device gs)) same;
      table = subst (λ (xs : List DeviceCall). EncodesDevice t (device_after (fresh_device gs) xs)) (sym same) e;
    }

pub led-fresh : (gs : List Setting) (t : List ℕ) → Setup gs → EncodesDevice t (fresh_device gs) → Led gs [] t
unfolding device_trace_by device_after_by AllRead
led-fresh gs t s e = led-by gs [] t s tt e

-- calls of the rules alone
pub all-ruled : (cs : List Call) → AllRead (map ruled cs)
unfolding AllRead Read
all-ruled [] = tt
all-ruled (c ∷ cs) = (tt, all-ruled cs)
