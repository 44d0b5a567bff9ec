-- Laws of lists of events: a list in two parts, one event more, and a split of the events that is one of the calls. Assumes nothing.
use Prim.Native.Nat.{ℕ}
use native.Mathlib.Omega.{arith}
use mathlib.Core.Path.{◌≡◌, refl, sym, ap, ◌∙◌}
use mathlib.Core.Bool.{Bool, true, false}
use mathlib.Core.List.{List, [], ◌∷◌, ◌++◌, append_assoc, append-nil}
use Rattle.std.specs.Prelude.{if◌then◌else◌}
use Rattle.rules.specs.State.{Setting}
use Rattle.rules.specs.Runs.{Event}
use Rattle.pages.specs.Device.{Page, Device, start_page, DeviceCall, ruled, offer, unread, DeviceReply, answered, in_force_now, waits_now, device_step}
use Rattle.pages.specs.Offers.{device_after, DeviceEvent, device_trace, AllRead, of_rule, of_rules, any_held, accepted_page, newest, free_from, page_in, device_after_by, device_trace_by}

pub plain-append : (a b : List DeviceEvent) → of_rules (a ++ b) ≡ of_rules a ++ of_rules b
unfolding of_rules
plain-append [] b = refl
plain-append (e ∷ a) b = ap (λ (x : List Event). of_rule e.call e.reply ++ x) (plain-append a b) ∙ sym (append_assoc (of_rule e.call e.reply) (of_rules a) (of_rules b))

pub rules-one : (a : List DeviceEvent) (e : DeviceEvent) → of_rules (a ++ (e ∷ [])) ≡ of_rules a ++ of_rule e.call e.reply
unfolding of_rules
rules-one a e = plain-append a (e ∷ []) ∙ ap (λ (x : List Event). of_rules a ++ x) (append-nil (of_rule e.call e.reply))

pub newest-one : (p : Page) (a : List DeviceEvent) (e : DeviceEvent) → newest p (a ++ (e ∷ [])) ≡ accepted_page (newest p a) e.call e.reply
unfolding newest
newest-one p [] e = refl
newest-one p (x ∷ a) e = newest-one (accepted_page p x.call x.reply) a e

free_one : (best past a : List DeviceEvent) (e : DeviceEvent)
    → free_from best past (a ++ (e ∷ [])) ≡ (if any_held (past ++ (a ++ (e ∷ []))) then free_from best past a else past ++ (a ++ (e ∷ [])))
unfolding free_from
free_one best past [] e = refl
free_one best past (x ∷ a) e =
    free_one (if any_held (past ++ (x ∷ [])) then best else past ++ (x ∷ [])) (past ++ (x ∷ [])) a e
    ∙ ap (λ (y : List DeviceEvent). if any_held y then free_from best past (x ∷ a) else y) (append_assoc past (x ∷ []) (a ++ (e ∷ [])))

if-out : (f : List DeviceEvent → Page) (b : Bool) (x y : List DeviceEvent) → f (if b then x else y) ≡ (if b then f x else f y)
if-out f true x y = refl
if-out f false x y = refl

pub page-one : (gs : List Setting) (a : List DeviceEvent) (e : DeviceEvent)
    → page_in gs (a ++ (e ∷ [])) ≡ (if any_held (a ++ (e ∷ [])) then page_in gs a else newest (start_page gs) (a ++ (e ∷ [])))
unfolding page_in
page-one gs a e =
    ap (newest (start_page gs)) (free_one [] [] a e)
    ∙ if-out (newest (start_page gs)) (any_held (a ++ (e ∷ []))) (free_from [] [] a) (a ++ (e ∷ []))

-- a split of the events is a split of the calls
pub record DeviceSplit (d : Device) (past rest : List DeviceEvent) : Type 0 where
  pub calls : List DeviceCall
  pub more : List DeviceCall
  pub past_is : device_trace d calls ≡ past
  pub rest_is : device_trace (device_after d calls) more ≡ rest
  pub calls_read : AllRead calls
  pub more_read : AllRead more

pub device-split : (d : Device) (cs : List DeviceCall) (past rest : List DeviceEvent) → AllRead cs → device_trace d cs ≡ past ++ rest → DeviceSplit d past rest
unfolding device_trace_by device_after_by AllRead
device-split d cs [] rest r e = record { calls = []; more = cs; past_is = refl; rest_is = e; calls_read = tt; more_read = r }
device-split d [] (x ∷ past) rest r e = let z : ◌≡◌ {A = ℕ} 0 1 = cc in absurd (omega arith)
device-split d (c ∷ cs) (x ∷ past) rest r e =
    let h = device-split (device_step d c).device cs past rest r.1 (cc) in
    record { calls = c ∷ h.calls; more = h.more; past_is = cc h.past_is; rest_is = h.rest_is; calls_read = (r.0, h.calls_read); more_read = h.more_read }

-- a split of the rules' events is one of all
pub record Cut (es : List DeviceEvent) (p : List Event) : Type 0 where
  pub before : List DeviceEvent
  pub behind : List DeviceEvent
  pub all : before ++ behind ≡ es
  pub plain_is : of_rules before ≡ p

skip : (x : DeviceEvent) (es : List DeviceEvent) (p : List Event) → of_rule x.call x.reply ≡ [] → Cut es p → Cut (x ∷ es) p
unfolding of_rules
skip x es p nothing h = record {
  before = x ∷ h.before;
  behind = h.behind;
  all = ap (λ (y : List DeviceEvent). x ∷ y) h.all;
  plain_is = ap (λ (y : List Event). y ++ of_rules h.before) nothing ∙ h.plain_is;
}

cut-more : (c : DeviceCall) (r : DeviceReply) (es : List DeviceEvent) → ((p q : List Event) → p ++ q ≡ of_rules es → Cut es p)
    → (p q : List Event) → p ++ q ≡ of_rule c r ++ of_rules es → Cut (record { call = c; reply = r } ∷ es) p
unfolding of_rules of_rule
cut-more (ruled c) (answered a) es ih [] q e = record { before = []; behind = record { call = ruled c; reply = answered a } ∷ es; all = refl; plain_is = refl }
cut-more (ruled c) (answered a) es ih (x ∷ p) q e =
    let h = ih p q cc in
    record { before = record { call = ruled c; reply = answered a } ∷ h.before; behind = h.behind; all = cc h.all; plain_is = cc h.plain_is }
cut-more (ruled c) in_force_now es ih p q e = skip (record { call = ruled c; reply = in_force_now }) es p refl (ih p q e)
cut-more (ruled c) waits_now es ih p q e = skip (record { call = ruled c; reply = waits_now }) es p refl (ih p q e)
cut-more (offer g) r es ih p q e = skip (record { call = offer g; reply = r }) es p refl (ih p q e)
cut-more (unread n at) r es ih p q e = skip (record { call = unread n at; reply = r }) es p refl (ih p q e)

pub cut : (es : List DeviceEvent) (p q : List Event) → p ++ q ≡ of_rules es → Cut es p
unfolding of_rules
cut [] [] q e = record { before = []; behind = []; all = refl; plain_is = refl }
cut [] (x ∷ p) q e = let z : ◌≡◌ {A = ℕ} 0 1 = cc in absurd (omega arith)
cut (x ∷ es) p q e = cut-more x.call x.reply es (cut es) p q e
