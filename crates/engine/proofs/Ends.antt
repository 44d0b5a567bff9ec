-- The table at the ends of a call: it holds the state that it means, and what holds the rules' state after a call encodes it. Assumes nothing.
use mathlib.Core.Path.{◌≡◌, refl, sym, ap, subst, ◌∙◌}
use mathlib.Core.Bool.{true, false, false≢true}
use mathlib.Core.List.{List}
use mathlib.Core.Option.{some}
use Prim.Native.Nat.{ℕ}
use native.Mathlib.Omega.{arith}
use lib.Count.{count_trailing_zeros}
use lib.Pow.{pow_pos}
use Rattle.units.proofs.Bools.{not-passed}
use Rattle.words.specs.Bits.{bit}
use Rattle.words.specs.Runs.{tab}
use Rattle.words.specs.Words.{word_at}
use Rattle.words.proofs.Bits.{low-set, bit-above}
use lib.ListN.{get_or}
use Rattle.rules.specs.State.{Lane, State, lane_at, any_holds}
use Rattle.rules.specs.Calls.{Call, step}
use Rattle.rules.specs.Sets.{in_group, group_start}
use Rattle.rules.specs.Setup.{Setup}
use Rattle.rules.specs.Good.{Good}
use Rattle.rules.proofs.GroupRule.{in_group_lem, group-low}
use Rattle.rules.proofs.Live.{some_holds, holds-some}
use Rattle.rules.proofs.Lowest.{LowOf, LowestOf}
use Rattle.rules.proofs.SameSetup.{same_setup}
use Rattle.rules.proofs.Sound.{step-sound}
use Rattle.rules.proofs.Ties.{Tied, step-tied}
use Rattle.alike.specs.Alike.{Alike}
use Rattle.alike.proofs.Alike.{alike-sym}
use Rattle.slot_lists.specs.Lists.{groups_at, start_word, back_at, list_at, start_at}
use Rattle.slot_lists.proofs.Laws.{start-on, start-off}
use Rattle.filing.specs.Filing.{in_aRow, Filing}
use Rattle.filing.proofs.Slots.{group-held, group-in}
use Rattle.filing.proofs.Starts.{Named, Grouped}
use Rattle.filing.proofs.LeastStart.{none_held}
use Rattle.filing.proofs.AlikeFiled.{in_row, row-agrees, row-alike}
use Rattle.table.specs.Layout.{cells, clock_word}
use Rattle.table.specs.Means.{lane_of, state_of, meant}
use Rattle.table.specs.Encodes.{Encodes}
use Rattle.choice.specs.Known.{Known}
use Rattle.engine.specs.Turns.{Holds}

-- ---- the same first part

pub lanes-same : (t u : List ℕ) → cells u ≡ cells t → (meant u).lanes ≡ (meant t).lanes
unfolding state_of
lanes-same t u e = ap (λ (w : List ℕ). tab 64 (lane_of w)) e

pub clock-same : (t u : List ℕ) → cells u ≡ cells t → (meant u).clock ≡ (meant t).clock
unfolding state_of
clock-same t u e = ap (λ (w : List ℕ). get_or w clock_word 0) e

-- ---- before a call

pub known-holds : (t : List ℕ) → Known t → Holds t (meant t)
known-holds t k = record { sound = k.sound; clock = refl; lanes = refl; solid = k.listed.solid; agrees = k.listed.agrees }

-- whether any lane holds records, by the groups' word
module _ (t : List ℕ) (s : State) (h : Holds t s) where
  pub nobody : Good s → groups_at t ≡ 0 → any_holds s.lanes ≡ false
  nobody good z =
      not-passed (any_holds s.lanes) (λ q.
      let w = some_holds s.lanes q in
      false≢true (sym (none_held s (start_at t) h.agrees.started (group-held s good) (λ i lo hi. start-off t i (λ one. omega (arith, one, ap (bit i) z, bit-above i 0 (pow_pos i)))) w.0) ∙ w.1))

  pub somebody : (groups_at t ≡ 0 → ⊥) → any_holds s.lanes ≡ true
  somebody ne =
      let m = groups_at t in
      let g = count_trailing_zeros 64 m in
      let one : bit g m ≡ 1 = (low-set 64 m (omega (arith, ne)) (omega (arith, h.solid.high))).0 in
      let bounds = h.solid.groups g one in
      let start : group_start s.lanes g ≡ some (word_at t (start_word g)) = sym (h.agrees.started g bounds.0 bounds.1) ∙ start-on t g one in
      let lead : LowestOf (in_group g) s.lanes (word_at t (start_word g)) = subst (LowOf (in_group g) s.lanes) start (group-low s.lanes g) in
      holds-some s.lanes lead.at (in_group_lem g (lane_at s lead.at) lead.is).0

-- ---- after a call

module _ (t : List ℕ) (s : State) (h : Holds t s) (named : Named s) (grouped : Grouped s) where
  abbrev row : State
  row = in_row (back_at t) s (list_at t) h.agrees.filed named grouped

  -- the state that the table means is s, with the slot lists in a row
  in_a_row : meant t ≡ row
  unfolding state_of
  in_a_row =
      ap (λ (v : ℕ). record { clock = v; lanes = (meant t).lanes; order = in_aRow (list_at t) }) h.clock
      ∙ ap (λ (ls : List Lane). record { clock = s.clock; lanes = ls; order = in_aRow (list_at t) }) h.lanes

  pub holds-encodes : Encodes t s
  holds-encodes = record {
    room = h.sound.room;
    alike = subst (λ (u : State). Alike u s) (sym in_a_row) (alike-sym s row (row-alike (back_at t) s (list_at t) h.agrees.filed named grouped h.solid.back_whole));
    beside = h.sound.beside;
    listed = record {
      solid = h.solid;
      agrees = record {
        filed = subst (Filing (back_at t) (list_at t)) (sym in_a_row) (row-agrees (back_at t) s (list_at t) h.agrees.filed named grouped);
        started = λ g lo hi. h.agrees.started g lo hi ∙ ap (λ (ls : List Lane). group_start ls g) (sym h.lanes);
      };
    };
  }

-- a call's state, of a good one: its tie order names the lanes that hold records, and their groups are 16 to 31
pub step-encodes : (s : State) (c : Call) (t : List ℕ) → Good s → Holds t (step s c).state → Encodes t (step s c).state
unfolding Tied
step-encodes s c t good h =
    let u = (step s c).state in
    holds-encodes t u h (step-tied s c good.waiting good.order) (group-in u (subst Setup (sym (same_setup s c)) good.setup) (step-sound s c good.waiting))
