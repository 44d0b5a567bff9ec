-- What the bits of the answer of `sets` say. Assumes nothing.
use Prim.Native.Nat.{ℕ, ◌<◌}
use native.Mathlib.Omega.{arith}
use mathlib.Core.Path.{◌≡◌, refl, sym, ap, subst, ◌∙◌}
use mathlib.Core.Bool.{Bool, true, false}
use mathlib.Core.List.{List}
use mathlib.Core.Option.{Option, none, some}
use Rattle.words.specs.Bits.{bit}
use Rattle.rules.specs.State.{Rec, State, Lane, first_of, group, lane_at}
use Rattle.rules.specs.Choice.{Candidate, choose}
use Rattle.rules.specs.Good.{Good}
use Rattle.units.specs.Plain.{count}
use Rattle.rules.specs.Sets.{groups, ready, ineligible_ready, eligible_blocked, ineligible_blocked, set_word}
use Rattle.rules.specs.Calls.{sets, look, words, seen, pick_first, pick_of, picked, look_of, do_look, do_sets, step}
use Rattle.rules.proofs.Word.{word_lt, word-bit}
use Rattle.rules.proofs.BySets.{sets-rule}
use Rattle.table.specs.Means.{meant}
use Rattle.scheduler.proofs.Steps.{step-says}
use Rattle.scheduler.specs.SetsAnswer.{SetsAnswer, SetsCall}

-- a look names the chosen lane
record Names (s : State) (j : ℕ) : Type 0 where
  chosen : Candidate
  is : choose s ≡ some chosen
  lane : chosen.lane ≡ j

look-names : (s : State) (j k m n : ℕ) → (step s look).reply ≡ seen j k m n → Names s j
unfolding step do_look picked pick_of pick_first look_of
look-names s j k m n h = go (choose s) refl h
  where
    queued : (c : Candidate) (o : Option Rec) → (look_of s (pick_first c.lane o)).reply ≡ seen j k m n → c.lane ≡ j
    queued c none e = let z : ◌≡◌ {A = ℕ} 0 1 = cc in absurd (omega arith)
    queued c (some r) e = cc

    go : (o : Option Candidate) → choose s ≡ o → (look_of s (pick_of s o)).reply ≡ seen j k m n → Names s j
    go none q e = let z : ◌≡◌ {A = ℕ} 0 1 = cc in absurd (omega arith)
    go (some c) q e = record { chosen = c; is = q; lane = queued c (first_of (lane_at s c.lane)) e }

is_set : (b : Bool) → count b ≡ 1 → b ≡ true
is_set true e = refl
is_set false e = absurd (omega arith)

module _ (s : State) (good : Good s) where
  bits : (p : ℕ → List Lane → ℕ → Bool) (i : ℕ) → i < groups → bit i (set_word p s) ≡ count (p s.clock s.lanes i)
  bits p i h = word-bit (p s.clock s.lanes) groups i h

  words-say : SetsAnswer s (set_word ready s) (set_word ineligible_ready s) (set_word eligible_blocked s) (set_word ineligible_blocked s)
  words-say = record {
    parted = λ i h. omega (arith, (sets-rule s good).parted i, bits ready i h, bits ineligible_ready i h, bits eligible_blocked i h, bits ineligible_blocked i h);
    small = (word_lt _ groups, word_lt _ groups, word_lt _ groups, word_lt _ groups);
    first = λ j k m n h.
        let c = look-names s j k m n h in
        (sets-rule s good).first c.chosen c.is ∙ ap (λ (k : ℕ). group (lane_at s k).given) c.lane;
    rising = λ i k h h' e e'.
        (sets-rule s good).rising i k h h'
        (is_set (ready s.clock s.lanes i) (sym (bits ready i (omega arith)) ∙ e))
        (is_set (ready s.clock s.lanes k) (sym (bits ready k h') ∙ e'));
  }

pub sets-call : SetsCall
unfolding SetsCall step do_sets
sets-call t u a er ir eb ib g p e =
    let s = meant t in
    let q : words er ir eb ib ≡ (step s sets).reply = sym e ∙ step-says sets t _ u g p in
    let w = words-say s g.core.good in
    let e₁ : set_word ready s ≡ er = cc in
    let e₂ : set_word ineligible_ready s ≡ ir = cc in
    let e₃ : set_word eligible_blocked s ≡ eb = cc in
    let e₄ : set_word ineligible_blocked s ≡ ib = cc in
    subst (λ (x : ℕ). SetsAnswer s x ir eb ib) e₁
    (subst (λ (x : ℕ). SetsAnswer s (set_word ready s) x eb ib) e₂
    (subst (λ (x : ℕ). SetsAnswer s (set_word ready s) (set_word ineligible_ready s) x ib) e₃
    (subst (λ (x : ℕ). SetsAnswer s (set_word ready s) (set_word ineligible_ready s) (set_word eligible_blocked s) x) e₄ w)))
