-- What is handed out fits its lane: no record is over the longest, and one of a lane that is not shared is of train 0. Assumes nothing.
use Prim.Native.Nat.{ℕ, ◌*◌, ◌≤◌, ◌<◌}
use native.Mathlib.Omega.{arith}
use mathlib.Core.Path.{◌≡◌, refl, subst, ◌∙◌}
use mathlib.Core.Bool.{Bool, true, false}
use mathlib.Core.Option.{Option, none, some}
use mathlib.Core.List.{List, [], ◌∷◌, ◌++◌}
use lib.Dec.{eqb, ltb}
use lib.ListN.{length}
use borrow.Author.Tests.{eqb-true, eq-eqb}
use Rattle.std.specs.Prelude.{if◌then◌else◌}
use Rattle.units.specs.Plain.{sum}
use Rattle.units.proofs.Bools.{if-ind}
use Rattle.units.proofs.Lists.{sum-append}
use Rattle.rounds.specs.Round.{train_count}
use Rattle.waiting.proofs.Laws.{first_fits}
use Rattle.waiting.proofs.Sharing.{first-train, first-known}
use Rattle.rules.specs.State.{Rec, Setting, setting_at, State, charge, lane_at, any_holds}
use Rattle.rules.specs.Calls.{Call, put, take, look, sets, lag, restart, Outcome, put_refusal, put_of, do_put, Pick, picked, take_of, do_take, look_of, do_look, do_sets, do_lag, do_restart, step}
use Rattle.rules.specs.Runs.{Event, trace, Moving, sent_in, of_lane, sent_of, of_train}
use Rattle.rules.specs.Fair.{charged_to, bytes_sent_of}
use Rattle.rules.proofs.Lane.{charge-mono}
use Rattle.rules.proofs.Keep.{AllSound, PickIs, pick_is}
use Rattle.rules.proofs.Sound.{step-sound}
use Rattle.rules.proofs.Kind.{AllKind, step-kind}
use Rattle.rules.proofs.Queues.{step-passed}

abbrev pub Fit : Setting → List Rec → Type 0
Fit g [] = Unit {0}
Fit g (x ∷ xs) = ((1 ≤ x.len) × (x.len ≤ g.longest) × (x.train < train_count) × (g.shared ≡ false → x.train ≡ 0)) × Fit g xs

fit_append : (g : Setting) (xs ys : List Rec) → Fit g xs → Fit g ys → Fit g (xs ++ ys)
fit_append g [] ys a b = b
fit_append g (x ∷ xs) ys a b = (a.0, fit_append g xs ys a.1 b)

-- ---- one call

abbrev Fits : ℕ → State → Outcome → Type 0
Fits k s o = Fit (lane_at s k).given (of_lane k (sent_in o.reply))

take-fit : (k : ℕ) (s : State) → AllSound s → AllKind s → (o : Option Pick) → PickIs s o → Fits k s (take_of s o)
unfolding take_of sent_in of_lane
take-fit k s w kind none h = tt
take-fit k s w kind (some p) h = go (eqb p.lane k) refl
  where
    go : (b : Bool) → eqb p.lane k ≡ b → Fit (lane_at s k).given (if b then p.first ∷ [] else [])
    go false e = tt
    go true e =
        subst (λ (i : ℕ). Fit (lane_at s i).given (p.first ∷ [])) (eqb-true p.lane k e)
        (let l = lane_at s p.lane in
        let fits = first_fits l.given.longest l.waiting p.first (w p.lane) h.is_first in
        ((fits.0, fits.1, first-known l.given.longest l.waiting p.first (w p.lane) h.is_first, λ u. first-train l.waiting p.first (kind p.lane ∙ u) h.is_first), tt))

put_fit : (k : ℕ) (s : State) (j : ℕ) (r : Rec) (o : Option ℕ) → Fits k s (put_of s j r o)
unfolding put_of sent_in of_lane
put_fit k s j r none = tt
put_fit k s j r (some n) = tt

look-fit : (k : ℕ) (s : State) (o : Option Pick) → Fits k s (look_of s o)
unfolding look_of sent_in of_lane
look-fit k s none = tt
look-fit k s (some p) = tt

step-fit : (k : ℕ) (s : State) (c : Call) → AllSound s → AllKind s → Fits k s (step s c)
unfolding step do_put do_take do_look do_sets do_lag do_restart sent_in of_lane
step-fit k s (put j t m n) w kind = put_fit k s j (record { train = t; mark = m; len = n }) (put_refusal s j (record { train = t; mark = m; len = n }))
step-fit k s take w kind = take-fit k s w kind (picked s) (pick_is s)
step-fit k s look w kind = look-fit k s (picked s)
step-fit k s sets w kind = tt
step-fit k s (lag j) w kind = if-ind (Fits k s) (ltb (lane_at s j).given.weight 1) _ _ (λ e. tt) (λ e. tt)
step-fit k s restart w kind = if-ind (Fits k s) (any_holds s.lanes) _ _ (λ e. tt) (λ e. tt)

pub sent-fit : (k : ℕ) (s : State) (cs : List Call) → AllSound s → AllKind s → Fit (lane_at s k).given (sent_of k (trace s cs))
unfolding trace sent_of
sent-fit k s [] w kind = tt
sent-fit k s (c ∷ cs) w kind =
    let s' = (step s c).state in
    fit_append (lane_at s k).given (of_lane k (sent_in (step s c).reply)) (sent_of k (trace s' cs)) (step-fit k s c w kind)
    (subst (λ (g : Setting). Fit g (sent_of k (trace s' cs))) (step-passed k s c).given (sent-fit k s' cs (step-sound s c w) (step-kind s c kind)))

-- ---- what follows

-- as many records of train 0 as records
pub fit-train : (g : Setting) (xs : List Rec) → g.shared ≡ false → Fit g xs → length (of_train 0 xs) ≡ length xs
unfolding of_train
fit-train g [] u f = refl
fit-train g (x ∷ xs) u f = simp (eq-eqb x.train 0 (f.0.3 u)) (omega (arith, fit-train g xs u f.1))

unfoldable pub charges : Setting → List Rec → ℕ
charges g xs = sum (λ (r : Rec). charge g r.len) xs

fit-charges : (g : Setting) (xs : List Rec) → Fit g xs → charges g xs ≤ length xs * charge g g.longest
unfolding charges
fit-charges g [] f = omega arith
fit-charges g (x ∷ xs) f = omega (arith, charge-mono g x.len g.longest f.0.1, fit-charges g xs f.1)

-- what is sent of a lane is charged by the records' own lengths
pub bytes_of : (gs : List Setting) (k : ℕ) (es : List Event) → bytes_sent_of gs k es ≡ charges (setting_at gs k) (sent_of k es)
unfolding sent_of charged_to of_lane charges
bytes_of gs k [] = refl
bytes_of gs k (e ∷ es) =
    let f : Rec → ℕ = λ r. charge (setting_at gs k) r.len in
    omega (arith, one (sent_in e.reply), bytes_of gs k es, sum-append f (of_lane k (sent_in e.reply)) (sent_of k es))
  where
    pick : (b : Bool) (r : Rec) → (if b then charge (setting_at gs k) r.len else 0) ≡ charges (setting_at gs k) (if b then r ∷ [] else [])
    pick true r = omega arith
    pick false r = refl

    one : (o : Option Moving) → charged_to gs k o ≡ charges (setting_at gs k) (of_lane k o)
    one none = refl
    one (some x) = pick (eqb x.lane k) x.item

pub bytes_most : (gs : List Setting) (k : ℕ) (es : List Event) → Fit (setting_at gs k) (sent_of k es) → bytes_sent_of gs k es ≤ length (sent_of k es) * charge (setting_at gs k) (setting_at gs k).longest
bytes_most gs k es f = omega (arith, bytes_of gs k es, fit-charges (setting_at gs k) (sent_of k es) f)
