-- Areas and setups go back and forth: the promises AreaWritesBack and AreaReadsBack of specs/Step.antt.
--
--   ReadInto, read-into   what reading that gave lanes leaves, of a setup or another text
--
-- Assumes nothing.
use Prim.Native.Nat.{ℕ, zero, suc, ◌+◌, ◌≤◌, ◌<◌}
use mathlib.Core.Path.{◌≡◌, refl, sym, ap, subst, ◌∙◌}
use mathlib.Core.Logic.{◌⊎◌, inl, inr, ⊎_elim}
use mathlib.Core.List.{List, ◌++◌}
use mathlib.Core.Option.{Option}
use native.Mathlib.Decide.{dec_le}
use native.Mathlib.Omega.{arith}
use lib.ListN.{length, drop, take}
use lib.Seq.{take_at}
use Rattle.words.specs.Words.{word_at}
use Rattle.plan.specs.Read as plan
use Rattle.plan.specs.Read.{read_setup}
use Rattle.plan_writer.specs.Write.{Planned, Within, setup_bytes, setup_size, written_size, write_reply}
use Rattle.plan_writer.specs.RoundTrip.{read_as}
use Rattle.std.specs.Prelude.{Result}
use Rattle.rules.specs.declared.Refusal.{Refusal}
use Rattle.plan_writer.specs.declared.Unwritten.{Unwritten}
use Rattle.plan_writer.proofs.Decided.{within_or_not}
use Rattle.plan_writer.proofs.Round.{size_is_lem, reads-back, read-within, writes-back}
use Rattle.plan_writer.proofs.Calls.{size-refused}
use Rattle.plan_area.specs.Area.{area_size, AreaRoom, plan_in, ShowsPlan, AreaWithin}
use Rattle.plan_area.specs.Step.{area_lanes, area_refused, area_reply, AreaBySetup, AreaRead, WriteStep, AreaWritesBack, AreaReadsBack}
use Rattle.plan_area.proofs.Shown.{shows-plan, shows-within, area-shows}

lanes-refused : {A : Type 0} {n m : ℕ} {q : Option ℕ} → area_lanes n ≡ area_refused m q → A
lanes-refused h = absurd (let z : ◌≡◌ {A = ℕ} 0 1 = cc in omega arith)

pub record ReadInto (said : plan.SetupReply) (area' : List ℕ) : Type 0 where
  pub plan : Planned
  pub next : ℕ
  pub reads : said ≡ read_as plan next
  pub shows : ShowsPlan plan area'
  pub room : AreaRoom area'

pub read-into : (said : plan.SetupReply) (area area' : List ℕ) (g : Result ℕ Refusal) (n : ℕ) → AreaRead said area g area' → area_reply g ≡ area_lanes n → ReadInto said area'
read-into said area area' g n r e =
    elim (dec_le area_size (length area)) [
      | yes room ↦ by-reply room said refl (r.follows room)
      | no b ↦ lanes-refused (sym e ∙ (r.short (omega (arith, b))).0)
    ]
  where
    by-reply : AreaRoom area → (x : plan.SetupReply) → said ≡ x → AreaBySetup x area g area' → ReadInto said area'
    by-reply room (plan.setup_refused m q) q-is f = lanes-refused (sym e ∙ f.0)
    by-reply room (plan.setup_read v gs m next) q-is f = record { plan = record { format = v; lanes = gs; count = m }; next = next; reads = q-is; shows = f.1; room = omega (arith, room, r.size) }

pub writes-back-area : AreaWritesBack
unfolding AreaWritesBack
writes-back-area s bytes form area area' g n r e before after a h room =
    let into = read-into (read_setup s) area area' g n r e in
    let p = into.plan in
    let w = read-within s p into.next into.reads in
    let plan-is = shows-plan p area' w into.shows in
    let same : setup_bytes p ≡ s = writes-back s p into.next into.reads bytes form in
    let long : setup_size p ≡ length s = sym (size_is_lem p w) ∙ ap length same in
    let long-in : setup_size (plan_in area') ≡ length s = ap setup_size plan-is ∙ long in
    let done = h.written (shows-within p area' w into.shows into.room) (omega (arith, long-in, room)) in
    (done.0 ∙ ap written_size long-in, done.1 ∙ ap (λ (x : Planned). setup_bytes x ++ drop (setup_size x) before) plan-is ∙ ap (λ (x : List ℕ). x ++ drop (setup_size p) before) same ∙ ap (λ (i : ℕ). s ++ drop i before) long)

pub within-area : (a : List ℕ) → AreaWithin a ⊎ (AreaWithin a → ⊥)
within-area a =
    elim (dec_le area_size (length a)) [
      | yes room ↦
          ⊎_elim (λ (w : Within (plan_in a)). inl (record { room = room; plan = w })) (λ (o : Within (plan_in a) → ⊥). inr (λ w. o w.plan)) (within_or_not (plan_in a))
      | no b ↦ inr (λ w. b w.room)
    ]

wrote-size : (area before after : List ℕ) (a : Result ℕ Unwritten) (k : ℕ) → WriteStep area before a after → write_reply a ≡ written_size k → AreaWithin area × (setup_size (plan_in area) ≤ length before) × (k ≡ setup_size (plan_in area))
wrote-size area before after a k h e =
    ⊎_elim
    (λ (w : AreaWithin area).
    elim (dec_le (setup_size (plan_in area)) (length before)) [
      | yes l ↦ (w, l, let q : written_size k ≡ written_size (setup_size (plan_in area)) = sym e ∙ (h.written w l).0 in cc)
      | no l ↦ size-refused (sym e ∙ (h.short w (omega (arith, l))).0)
    ])
    (λ (o : AreaWithin area → ⊥). size-refused (sym e ∙ (h.outside o).0))
    (within-area area)

pub reads-back-area : AreaReadsBack
unfolding AreaReadsBack
reads-back-area area before after a k h e area₁ area₂ g room r =
    let is = wrote-size area before after a k h e in
    let p = plan_in area in
    let w = is.0.plan in
    let first : take k after ≡ setup_bytes p =
    ap (λ (i : ℕ). take i after) is.2 ∙ ap (take (setup_size p)) (h.written is.0 is.1).1 ∙ take_at (setup_bytes p) (drop (setup_size p) before) (setup_size p) (size_is_lem p w) in
    let read_is : read_setup (take k after) ≡ read_as p (setup_size p) = ap read_setup first ∙ reads-back p w in
    let f = subst (λ (x : plan.SetupReply). AreaBySetup x area₁ g area₂) read_is (r.follows room) in
    (f.0, same-words p area area₂ (area-shows area is.0) f.1)
  where
    same-words : (p : Planned) (a b : List ℕ) → ShowsPlan p a → ShowsPlan p b → (i : ℕ) → i < 65 → word_at b i ≡ word_at a i
    same-words p a b s t zero l = t.head ∙ sym s.head
    same-words p a b s t (suc i) l =
        let is : i + 1 ≡ suc i = omega arith in
        subst (λ (j : ℕ). word_at b j ≡ word_at a j) is (t.lane i (omega (arith, l)) ∙ sym (s.lane i (omega (arith, l))))
