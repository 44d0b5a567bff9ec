-- Records are kept in order by every list of calls from any good table. Assumes nothing.
use Prim.Native.Nat.{ℕ, ◌≤◌}
use mathlib.Core.Path.{◌≡◌, refl, sym, ap, subst, ◌∙◌}
use mathlib.Core.Bool.{Bool, true, false, false≢true}
use mathlib.Core.List.{List, [], ◌∷◌, ◌++◌, append-nil, append_assoc}
use mathlib.Core.Option.{Option, none, some}
use lib.Dec.{leb}
use lib.ListN.{length, get_or}
use Rattle.units.proofs.Bools.{if-ind}
use Rattle.rounds.specs.Round as round
use Rattle.waiting.specs.Waiting.{queue_of}
use Rattle.waiting.proofs.Laws.{queue-none}
use Rattle.rules.specs.State.{Rec, Lane, no_lane, State, first_of, lane_at, any_holds}
use Rattle.rules.specs.Calls.{refused, fresh, step}
use Rattle.rules.specs.Runs.{Event, sent_in, is_accepted, accepted_in, of_lane, accepted_of, sent_of, of_train}
use Rattle.rules.specs.Good.{Good}
use Rattle.rules.proofs.GoodTest.{good_test}
use Rattle.rules.proofs.GoodAgrees.{test_good, good-test}
use Rattle.rules.proofs.Keep.{AllSound}
use Rattle.rules.proofs.Lowest.{none-holds}
use Rattle.rules.proofs.Moves.{idle-first}
use Rattle.rules.proofs.Order.{of-append}
use Rattle.rules.proofs.Queues.{queue_at, step-passed}
use Rattle.rules.proofs.Sound.{fresh-sound, step-sound}
use Rattle.alike.proofs.Alike.{alike_refl}
use Rattle.pages.specs.Device.{Page, Device, in_force_of, DeviceCall, ruled, offer, unread, DeviceReply, answered, DeviceOutcome, settled_device, newest_edition, do_offer, device_step, device_step_by}
use Rattle.pages.specs.Offers.{DeviceEvent, Read, of_rule, of_rules}
use Rattle.pages.specs.Claims.{GoodPage}
use Rattle.pages.specs.OneCall.{KeepsPage}
use Rattle.pages.proofs.Run.{fresh-none}
use Rattle.pages.proofs.OneCall.{keeps-page}
use Rattle.rules.proofs.Counts.{accepted-append, sent-append}
use Rattle.editions.specs.Part.{last_in, GoodWait, GoodPart}
use Rattle.table.specs.Layout.{table_size}
use Rattle.table.specs.Means.{meant}
use Rattle.table.specs.Encodes.{Encodes}
use Rattle.good.proofs.Encodes.{good-encodes}
use Rattle.paged.specs.Paged.{part_of, device_of, EncodesDevice, GoodUnit}
use Rattle.paged.proofs.Units.{page-wait, device-good, device-encoded}
use Rattle.scheduler.specs.Step.{KeptBy, UnitStep, offered}
use Rattle.scheduler.specs.Chain.{Chain, done, then, offers}
use Rattle.scheduler.specs.OrderFrom.{OrderFrom}
use Rattle.scheduler.proofs.Chains.{page-read}

-- ---- one call of a unit

abbrev accepted_by : ℕ → ℕ → List Event → List round.BareRec
accepted_by k i es = of_train i (accepted_of k es)

abbrev sent_by : ℕ → ℕ → List Event → List round.BareRec
sent_by k i es = of_train i (sent_of k es)

free-queue : (s : State) → AllSound s → any_holds s.lanes ≡ false → (k i : ℕ) → queue_at s k i ≡ []
free-queue s w h k i = queue-none (lane_at s k).given.longest (lane_at s k).waiting (w k) (idle-first (first_of (lane_at s k)) (none-holds s.lanes h k)) i

-- a page that comes into force finds no record held, and leaves none
forced-queue : (s : State) (p : Page) → AllSound s → any_holds s.lanes ≡ false → (k i : ℕ) → queue_at s k i ≡ queue_at (in_force_of p).state k i
unfolding in_force_of
forced-queue s p w h k i = free-queue s w h k i ∙ sym (free-queue (fresh p.settings) (fresh-sound p.settings) (fresh-none p.settings) k i)

settled-queue : (s : State) (n : ℕ) (w : Option Page) → AllSound s → (k i : ℕ) → queue_at s k i ≡ queue_at (settled_device s n w).state k i
unfolding settled_device
settled-queue s n none sound k i = refl
settled-queue s n (some p) sound k i =
    if-ind (λ (d : Device). queue_at s k i ≡ queue_at d.state k i) (any_holds s.lanes) _ _ (λ t. refl) (λ t. forced-queue s p sound t k i)

offer-queue : (d : Device) (p : Page) → AllSound d.state → (k i : ℕ) → queue_at d.state k i ≡ queue_at (do_offer d p).device.state k i
unfolding do_offer
offer-queue d p sound k i =
    if-ind (λ (o : DeviceOutcome). queue_at d.state k i ≡ queue_at o.device.state k i) (leb p.edition (newest_edition d.edition d.waiting)) _ _ (λ t. refl)
    (λ t. if-ind (λ (o : DeviceOutcome). queue_at d.state k i ≡ queue_at o.device.state k i) (any_holds d.state.lanes) _ _ (λ h. refl) (λ h. forced-queue d.state p sound h k i))

device-passed : (d : Device) → AllSound d.state → (c : DeviceCall) (k i : ℕ)
    → queue_at d.state k i ++ accepted_by k i (of_rule c (device_step d c).reply) ≡ sent_by k i (of_rule c (device_step d c).reply) ++ queue_at (device_step d c).device.state k i
unfolding device_step_by of_rule accepted_of sent_of of_train
device-passed d w (ruled c) k i =
    let s = d.state in
    let o = step s c in
    let e : Event = record { call = c; reply = o.reply } in
    ap (λ (x : List Rec). queue_at s k i ++ of_train i x) (append-nil (of_lane k (accepted_in e)))
    ∙ (step-passed k s c).fifo w i
    ∙ ap (λ (x : List round.BareRec). of_train i (of_lane k (sent_in o.reply)) ++ x) (settled-queue o.state d.edition d.waiting (step-sound s c w) k i)
    ∙ ap (λ (x : List Rec). of_train i x ++ queue_at (settled_device o.state d.edition d.waiting).state k i) (sym (append-nil (of_lane k (sent_in o.reply))))
device-passed d w (offer p) k i = append-nil (queue_at d.state k i) ∙ offer-queue d p w k i
device-passed d w (unread n at) k i = append-nil (queue_at d.state k i)

-- ---- one public call, on bytes that are long enough, store beside their state what agrees, and keep the rule for a page that waits

record Keeps (t : List ℕ) : Type 0 where
  room : table_size ≤ length t
  core : Encodes t (meant t)
  part : GoodPart (any_holds (meant t).lanes) (part_of t)

good-keeps : (t : List ℕ) → GoodUnit t → Keeps t
good-keeps t g = record { room = g.room; core = good-encodes t g.core; part = g.part }

keeps-good : (t : List ℕ) → Keeps t → Good (meant t) → GoodUnit t
keeps-good t h g = record { room = h.room; core = record { room = h.core.room; good = g; beside = h.core.beside; listed = h.core.listed }; part = h.part }

encoded-keeps : (t : List ℕ) (d : Device) → EncodesDevice t d → GoodPage d d.waiting → Keeps t
encoded-keeps t d e g =
    let w = page-wait d d.waiting g in
    let w₁ = subst (λ (ls : List Lane). GoodWait (any_holds ls) d.edition d.waiting) (sym e.core.alike.lanes) w in
    let w₂ = subst (λ (n : ℕ). GoodWait (any_holds (meant t).lanes) n d.waiting) (sym e.edition) w₁ in
    record {
      room = e.room;
      core = record { room = e.core.room; alike = alike_refl (meant t); beside = e.core.beside; listed = e.core.listed };
      part = record { fits = e.fits; page = subst (GoodWait (any_holds (meant t).lanes) (last_in (part_of t))) (sym e.waiting) w₂ };
    }

abbrev held_of : List ℕ → ℕ → ℕ → List round.BareRec
held_of b k t = queue_at (meant b) k t

record Kept (c : DeviceCall) (t : List ℕ) (r : DeviceReply) (u : List ℕ) : Type 0 where
  fifo : (k i : ℕ) → held_of t k i ++ accepted_by k i (of_rule c r) ≡ sent_by k i (of_rule c r) ++ held_of u k i
  keeps : Keeps u

-- 10 puts no record and hands none out
ten-none : (c : DeviceCall) (k i : ℕ) → (accepted_by k i (of_rule c (answered (refused 10 none))) ≡ []) × (sent_by k i (of_rule c (answered (refused 10 none))) ≡ [])
unfolding of_rule accepted_of sent_of is_accepted sent_in of_lane of_train
ten-none (ruled c) k i = (refl, refl)
ten-none (offer p) k i = (refl, refl)
ten-none (unread n at) k i = (refl, refl)

module _ (c : DeviceCall) (t : List ℕ) (r : DeviceReply) (u : List ℕ) (p : UnitStep c t r u) (read : Read c) (h : Keeps t) where
  good-kept : Good (meant t) → Kept c t r u
  unfolding device_of KeepsPage
  good-kept good =
      let g = keeps-good t h good in
      let d = device_of t in
      let reply : r ≡ (device_step d c).reply = p.reply g d (device-encoded t g) in
      let left = p.device g d (device-encoded t g) in
      record {
        fifo = λ k i.
            subst (λ (x : DeviceReply). held_of t k i ++ accepted_by k i (of_rule c x) ≡ sent_by k i (of_rule c x) ++ held_of u k i) (sym reply)
            (device-passed d good.waiting c k i ∙ ap (λ (ls : List Lane). sent_by k i (of_rule c (device_step d c).reply) ++ queue_of (get_or ls k no_lane).waiting i) (sym left.core.alike.lanes));
        keeps = encoded-keeps u (device_step d c).device left (keeps-page d (device-good t g).waiting c read);
      }

  bad-kept : (GoodUnit t → ⊥) → Kept c t r u
  bad-kept n =
      let ten = p.not_good n in
      let same : u ≡ t = subst (λ (x : DeviceReply). KeptBy x t u) ten p.unchanged in
      record {
        fifo = λ k i.
            let z = ten-none c k i in
            subst (λ (x : DeviceReply). held_of t k i ++ accepted_by k i (of_rule c x) ≡ sent_by k i (of_rule c x) ++ held_of u k i) (sym ten)
            (ap (λ (x : List round.BareRec). held_of t k i ++ x) z.0 ∙ append-nil (held_of t k i) ∙ ap (λ (x : List ℕ). held_of x k i) (sym same)
            ∙ ap (λ (x : List round.BareRec). x ++ held_of u k i) (sym z.1));
        keeps = subst Keeps (sym same) h;
      }

  kept_by : (b : Bool) → good_test (meant t) ≡ b → Kept c t r u
  kept_by true q = good-kept (test_good (meant t) q)
  kept_by false q = bad-kept (λ g. false≢true (sym q ∙ good-test (meant t) g.core.good))

  kept : Kept c t r u
  kept = kept_by (good_test (meant t)) refl

-- ---- a list

more : (c : DeviceCall) (r : DeviceReply) (t u v : List ℕ) (es : List DeviceEvent) → Kept c t r u → (k i : ℕ)
    → held_of u k i ++ accepted_by k i (of_rules es) ≡ sent_by k i (of_rules es) ++ held_of v k i
    → held_of t k i ++ accepted_by k i (of_rules (record { call = c; reply = r } ∷ es)) ≡ sent_by k i (of_rules (record { call = c; reply = r } ∷ es)) ++ held_of v k i
unfolding of_rules
more c r t u v es o k i on =
    let x = of_rule c r in
    let y = of_rules es in
    ap (λ (q : List Rec). held_of t k i ++ of_train i q) (accepted-append k x y)
    ∙ ap (λ (q : List round.BareRec). held_of t k i ++ q) (of-append i (accepted_of k x) (accepted_of k y))
    ∙ sym (append_assoc (held_of t k i) (accepted_by k i x) (accepted_by k i y))
    ∙ ap (λ (q : List round.BareRec). q ++ accepted_by k i y) (o.fifo k i)
    ∙ append_assoc (sent_by k i x) (held_of u k i) (accepted_by k i y)
    ∙ ap (λ (q : List round.BareRec). sent_by k i x ++ q) on
    ∙ sym (append_assoc (sent_by k i x) (sent_by k i y) (held_of v k i))
    ∙ ap (λ (q : List round.BareRec). q ++ held_of v k i) (sym (of-append i (sent_of k x) (sent_of k y)))
    ∙ ap (λ (q : List Rec). of_train i q ++ held_of v k i) (sym (sent-append k x y))

from : {t u : List ℕ} {es : List DeviceEvent} → Keeps t → Chain t es u → (k i : ℕ) → held_of t k i ++ accepted_by k i (of_rules es) ≡ sent_by k i (of_rules es) ++ held_of u k i
unfolding of_rules accepted_of sent_of of_train Read
from {t} h done k i = append-nil (held_of t k i)
from h (then {t} {u} {v} {c} {r} {es} p ch) k i = let o = kept (ruled c) t _ u p tt h in more (ruled c) _ t u v es o k i (from o.keeps ch k i)
from h (offers {t} {u} {v} {r} {es} bytes p ch) k i =
    let x = kept (offered bytes) t _ u p (page-read bytes) h in
    more (offered bytes) _ t u v es x k i (from x.keeps ch k i)

pub order_from : OrderFrom
unfolding OrderFrom
order_from b u es g ch k t = from (good-keeps b g) ch k t
