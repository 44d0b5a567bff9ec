-- Writing and reading go back and forth.
--
--   size_is_lem       the bytes of a plan are as many as `setup_size` says; size-most: at most 780
--   reads-back    R9.5: a plan comes back from its bytes
--   writes-back   R9.6: a setup that is read and in the form comes back as its own bytes; only-form: and no other does
--   read-within   a plan that was read is within the numbers
--   written_read  of the call's own buffer: what stands there is read as the plan; written_at: also with what is behind it
--
-- Assumes nothing.
use Prim.Native.Nat.{ℕ, ◌+◌, ◌≤◌}
use mathlib.Core.Path.{◌≡◌, refl, sym, ap, subst, ◌∙◌}
use mathlib.Core.Bool.{Bool, true, false}
use mathlib.Core.List.{List, [], ◌∷◌, ◌++◌, append-nil}
use mathlib.Core.Option.{Option, some}
use native.Mathlib.Omega.{arith}
use lib.Dec.{ltb}
use lib.ListN.{length, drop, take, replicate, length-append}
use lib.Seq.{drop-length, take_at, take_all}
use Rattle.fields.specs.Bytes.{Bytes}
use Rattle.std.specs.Prelude.{if◌then◌else◌}
use Rattle.rules.specs.State.{Setting, no_setting, setting_at}
use Rattle.rules.specs.Setup.{framing_of}
use Rattle.plan.specs.Read.{setup_read, no_lanes, read_plan, setup_closed, read_setup, SetupReply, setup_refused}
use Rattle.plan.specs.Accepted.{Laid, LaneFields, fields_of, setup_fields, framed, framed_by, placed_all, AcceptedSetup}
use Rattle.plan.specs.declared.parse.SetupField.TheVariants.{End}
use Rattle.plan.proofs.Rest.{refused-read}
use Rattle.plan.proofs.Closed.{setup-whole}
use Rattle.plan.proofs.Accepted.{accepted-whole}
use Rattle.plan.proofs.Prefix.{prefix}
use Rattle.plan.proofs.Complete.{complete}
use Rattle.plan_writer.specs.Format.{field_bytes, bytes_of, all_formed, InForm}
use Rattle.std.specs.Prelude.{Result}
use Rattle.plan_writer.specs.declared.Unwritten.{Unwritten}
use Rattle.plan_writer.specs.Write.{Planned, Within, Fitting, lane_fields, unless_zero, plan_fields, setup_bytes, lanes_bytes, framing_bytes, setup_size, Writes}
use Rattle.plan_writer.specs.RoundTrip.{read_as}
use Rattle.plan_writer.proofs.Laid.{one-layout, AllFit, laid-bytes, bytes-laid}
use Rattle.plan_writer.proofs.Lanes.{present-most, shareds-most, fields-number, fields-weigh, lanes-some, fields-rise, fields_within, fields_fit, fields-formed, fields-size}
use Rattle.plan_writer.proofs.Placed.{placed-back, fields_back}
use Rattle.plan_writer.proofs.Framing.{unless-by, framing-size, framing-few, framing-fits, framing-formed, unless-back, placed-line, fitting-line}
use Rattle.plan_writer.proofs.Parts.{setup-parts, fit_append, formed-append, formed-split, format_small}

-- ---- a plan within the numbers

module _ (p : Planned) (w : Within p) where
  abbrev gs : List Setting
  gs = p.lanes

  abbrev h : ℕ
  h = framing_of gs

  abbrev each : (j : ℕ) → Fitting h (setting_at gs j)
  each = fitting-line gs w.setup

  abbrev s : List ℕ
  s = setup_bytes p

  pub size_is_lem : length (setup_bytes p) ≡ setup_size p
  unfolding setup_bytes
  size_is_lem =
      ap length (setup-parts p.format h gs)
      ∙ omega (arith, length-append (framing_bytes h) (lanes_bytes 0 gs ++ field_bytes End), length-append (lanes_bytes 0 gs) (field_bytes End), fields-size h gs each 0, framing-size h)

  pub size-most : setup_size p ≤ 780
  size-most = omega (arith, present-most gs, shareds-most gs, w.setup.size, framing-few h)

  laid-plan : Laid s 0 (plan_fields p) (length s)
  unfolding setup_bytes AllFit
  laid-plan =
      subst (Laid s 0 (plan_fields p)) (let e : 0 + length s ≡ length s = omega arith in e)
      (laid-bytes s 0 [] (plan_fields p)
      (omega (arith, format_small p.format w.format), fit_append (framed (unless_zero h)) _ (framing-fits h w.setup.framing_high) (fields_fit h gs each (End ∷ []) (tt, tt) 0 (omega (arith, w.setup.size))))
      (sym (append-nil s)))

  placed-plan : placed_all p.format (framed_by (unless_zero h)) no_lanes (lane_fields 0 gs) ≡ gs
  placed-plan =
      ap (λ (i : ℕ). placed_all p.format i no_lanes (lane_fields 0 gs)) (unless-by h)
      ∙ ap (λ (i : ℕ). placed_all p.format h (replicate i no_setting) (lane_fields 0 gs)) (sym w.setup.size)
      ∙ placed-back p.format h gs each 0 [] refl

  accepted-plan : AcceptedSetup s 0 p.format gs p.count (length s)
  accepted-plan = record {
    format = w.format;
    framing = unless_zero h;
    lanes = lane_fields 0 gs;
    laid = laid-plan;
    framing_high = omega (arith, unless-by h, w.setup.framing_high);
    rising = fields-rise h gs each 0 0 (omega arith);
    each = fields_within h gs each 0 (omega (arith, w.setup.size));
    total = omega (arith, fields-weigh h gs each 0, w.setup.total);
    some_lane = omega (arith, fields-number h gs each 0, lanes-some h gs each, w.setup.some_lane);
    given = sym placed-plan;
    number = sym w.count ∙ sym (fields-number h gs each 0);
  }

  pub reads-back : read_setup (setup_bytes p) ≡ read_as p (setup_size p)
  reads-back =
      setup-whole s p.format gs p.count (length s) (complete s 0 p.format gs p.count (length s) accepted-plan) (omega arith)
      ∙ ap (read_as p) size_is_lem

  pub in-form : InForm (setup_bytes p)
  in-form = record {
    fields = plan_fields p;
    laid = laid-plan;
    all = formed-append (framed (unless_zero h)) _ (framing-formed h) (fields-formed h gs each (End ∷ []) refl 0);
  }

-- ---- a setup that was read

module _ (s : List ℕ) (p : Planned) (q : ℕ) (e : read_setup s ≡ read_as p q) where
  closed-read : (x : SetupReply) → setup_closed s x ≡ read_as p q → x ≡ read_as p q
  closed-read (setup_refused a b) c = refused-read c
  closed-read (setup_read v₁ gs₁ n₁ p₁) c = go (ltb p₁ (length s)) c
    where
      go : (b : Bool) → (if b then setup_refused 4 (some p₁) else setup_read v₁ gs₁ n₁ p₁) ≡ read_as p q → setup_read v₁ gs₁ n₁ p₁ ≡ read_as p q
      go true c = refused-read c
      go false c = c

  pub plan-read : read_plan s 0 ≡ read_as p q
  unfolding read_setup
  plan-read = closed-read (read_plan s 0) e

  pub read-within : Within p
  read-within = let a = (accepted-whole s p.format p.lanes p.count q e).0 in record { format = a.rule.format; setup = a.setup; count = a.are_there }

  pub writes-back : Bytes s → InForm s → setup_bytes p ≡ s
  unfolding setup_bytes lane_fields
  writes-back bytes form =
      let acc = accepted-whole s p.format p.lanes p.count q e in
      let a = acc.0.rule in
      let fs = setup_fields p.format a.framing a.lanes in
      let laid : Laid s 0 fs (length s) = subst (Laid s 0 fs) acc.1 a.laid in
      let formed-all : all_formed fs ≡ true = ap all_formed (one-layout s 0 fs form.fields (length s) laid form.laid) ∙ form.all in
      let formed-parts = formed-split (framed a.framing) (fields_of a.lanes ++ (End ∷ [])) formed-all in
      let line : framing_of p.lanes ≡ framed_by a.framing = ap framing_of a.given ∙ placed-line p.format (framed_by a.framing) a.lanes a.each a.some_lane in
      let framing-is : unless_zero (framing_of p.lanes) ≡ a.framing = ap unless_zero line ∙ unless-back a.framing formed-parts.0 in
      let lanes-are : lane_fields 0 p.lanes ≡ a.lanes =
      ap (lane_fields 0) a.given ∙ fields_back p.format (framed_by a.framing) a.lanes [] 64 refl a.rising a.each formed-parts.1 in
      let there : s ≡ bytes_of fs ++ drop (length s) s = bytes-laid s bytes 0 fs (length s) formed-all laid in
      ap (λ (f : Option ℕ). bytes_of (setup_fields p.format f (lane_fields 0 p.lanes))) framing-is
      ∙ ap (λ (ls : List LaneFields). bytes_of (setup_fields p.format a.framing ls)) lanes-are
      ∙ sym (append-nil (bytes_of fs))
      ∙ ap (λ (l : List ℕ). bytes_of fs ++ l) (sym (drop-length s))
      ∙ sym there

  -- R9.6: no other setup comes back as its own bytes
  pub only-form : setup_bytes p ≡ s → InForm s
  only-form same = subst InForm same (in-form p read-within)

-- ---- of the call's own answers

module _ (p : Planned) (before after : List ℕ) (a : Result ℕ Unwritten) (h : Writes p before a after) (w : Within p) (l : setup_size p ≤ length before) where
  first-bytes : take (setup_size p) after ≡ setup_bytes p
  first-bytes = ap (take (setup_size p)) (h.written w l).1 ∙ take_at (setup_bytes p) (drop (setup_size p) before) (setup_size p) (size_is_lem p w)

  pub written_read : read_setup (take (setup_size p) after) ≡ read_as p (setup_size p)
  written_read = ap read_setup first-bytes ∙ reads-back p w

  -- and where it stands, whatever is behind it
  pub written_at : read_plan after 0 ≡ read_as p (setup_size p)
  written_at =
      prefix (setup_bytes p) after 0 p.format p.lanes p.count (setup_size p) (plan-read (setup_bytes p) p (setup_size p) (reads-back p w))
      (take_all (setup_size p) (setup_bytes p) (omega (arith, size_is_lem p w)) ∙ sym first-bytes)
