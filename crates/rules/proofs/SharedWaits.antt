-- How long one record waits in a shared lane: what the eight trains are sent meanwhile, by the bound of each other train. Assumes nothing.
use Prim.Native.Nat.{ℕ, zero, suc, ◌+◌, ◌*◌, ◌≤◌, ◌<◌}
use native.Mathlib.Omega.{arith}
use native.Mathlib.Nat.{mul-le-mul_left, mul-le-mul_right}
use native.Mathlib.Decide.{dec_le}
use mathlib.Core.Path.{◌≡◌, refl, sym, ap, ◌∙◌}
use mathlib.Core.Bool.{Bool, true, false}
use mathlib.Core.Option.{Option, none, some}
use mathlib.Core.List.{List, [], ◌∷◌, ◌++◌, append_assoc}
use lib.Dec.{eqb}
use lib.ListN.{length}
use Rattle.std.specs.Prelude.{if◌then◌else◌}
use Rattle.units.specs.Plain.{sum}
use Rattle.units.proofs.Lists.{same_or}
use Rattle.units.proofs.Below.{sum_below, below-add, below-own}
use Rattle.rounds.specs.Round.{train_count}
use Rattle.rounds.specs.Runs.{bytes}
use Rattle.rounds.proofs.Figure.{worth, of_train-bytes}
use Rattle.rounds.proofs.Others.{bytes-append}
use Rattle.waiting.specs.Waiting.{bare}
use Rattle.waiting.proofs.Sharing.{known-inside}
use Rattle.rules.specs.State.{Rec, Setting, setting_at, State, charge, rate, lane_at}
use Rattle.rules.specs.Setup.{Setup}
use Rattle.rules.specs.Calls.{Call, accepted, put_refusal, put_of, do_put, fresh, step}
use Rattle.rules.specs.Runs.{Event, after, trace, sent_of, of_train}
use Rattle.rules.specs.Fair.{bytes_sent, bytes_sent_of}
use Rattle.rules.specs.Even.{train_bytes, HoldingTrain, OthersTight}
use Rattle.rules.specs.Waits.{accepts, NotYet, Waits, shared_span, worst_shared, WaitsShared, OutByShared}
use Rattle.rules.proofs.Bounds.{SetupOk}
use Rattle.rules.proofs.Keep.{PutOk, put-ok, allowed-enters}
use Rattle.rules.proofs.Ahead.{begins-with}
use Rattle.rules.proofs.Sound.{fresh-sound, sound-run}
use Rattle.rules.proofs.Kind.{fresh-kind, kind-run}
use Rattle.rules.proofs.SameSetup.{setting-lane, setup_kept, fresh-setup}
use Rattle.rules.proofs.Runs.{split}
use Rattle.rules.proofs.EvenTrains.{others_tight}
use Rattle.rules.proofs.Sent.{Fit, sent-fit, charges, bytes_of}
use Rattle.rules.proofs.Waits.{joined, still-train, waits, out-more}

-- ---- sums over the trains

-- where all but the one at a are at most B
module _ (f : ℕ → ℕ) (a B : ℕ) (h : (t : ℕ) → (a ≡ t → ⊥) → f t ≤ B) where
  without-it : (n : ℕ) → n ≤ a → sum_below f n ≤ n * B
  without-it zero p = omega arith
  without-it (suc n) p = omega (arith, h n (λ e. omega arith), without-it n (omega arith))

  with_it : (n : ℕ) → a < suc n → sum_below f (suc n) ≤ f a + n * B
  with_it zero p = let e : a ≡ 0 = omega arith in omega (arith, ap f e)
  with_it (suc n) p =
      same_or a (suc n)
      (λ e. omega (arith, ap f e, without-it (suc n) (omega arith)))
      (λ m. omega (arith, h (suc n) m, with_it n (omega arith)))

-- ---- records that fit a lane

lens : List Rec → ℕ
lens xs = sum (λ (r : Rec). r.len) xs

lens-trains : (g : Setting) (xs : List Rec) → Fit g xs → lens xs ≡ sum_below (λ (t : ℕ). bytes (of_train t xs)) 8
unfolding lens of_train
lens-trains g [] f = refl
lens-trains g (x ∷ xs) f =
    let one : (t : ℕ) → ℕ = λ t. worth (eqb x.train t) x.len in
    omega (
      arith,
      below-own x.train x.len 8 f.0.2,
      lens-trains g xs f.1,
      below-add (λ (t : ℕ). bytes (of_train t (x ∷ xs))) one (λ (t : ℕ). bytes (of_train t xs)) 8
          (λ t. bytes-append (if eqb x.train t then bare x ∷ [] else []) (of_train t xs) ∙ ap (λ (y : ℕ). y + bytes (of_train t xs)) (of_train-bytes t x.train (bare x))),
    )

-- a record of one byte is charged 1 + h times its length
charges-lens : (g : Setting) (xs : List Rec) → Fit g xs → charges g xs ≤ (1 + g.framing) * lens xs
unfolding charges lens charge
charges-lens g [] f = omega arith
charges-lens g (x ∷ xs) f = let h = g.framing in omega (arith, charges-lens g xs f.1, mul-le-mul_left h f.0.0, split_off h x.len (lens xs))
  where
    split_off : (h l m : ℕ) → (1 + h) * (l + m) ≡ l + h * l + (1 + h) * m
    split_off h l m = omega arith

own-bytes : (g : Setting) (t : ℕ) (xs : List Rec) → Fit g xs → bytes (of_train t xs) ≤ length (of_train t xs) * g.longest
unfolding of_train
own-bytes g t [] f = omega arith
own-bytes g t (x ∷ xs) f = go (own-bytes g t xs f.1) (eqb x.train t)
  where
    go : bytes (of_train t xs) ≤ length (of_train t xs) * g.longest → (b : Bool) → bytes ((if b then bare x ∷ [] else []) ++ of_train t xs) ≤ length ((if b then bare x ∷ [] else []) ++ of_train t xs) * g.longest
    go rest true = omega (arith, f.0.1, rest)
    go rest false = rest

-- ---- a stretch in which a train of the lane holds records throughout

module _ (gs : List Setting) (calls : List Call) (past stretch rest : List Event) (e : trace (fresh gs) calls ≡ past ++ stretch ++ rest) (k : ℕ) where
  abbrev g : Setting
  g = setting_at gs k

  pub stretch-fit : Fit g (sent_of k stretch)
  stretch-fit =
      let all = split (fresh gs) calls (past ++ stretch) rest e in
      let two = split (fresh gs) all.calls past stretch all.past_is in
      let s = after (fresh gs) two.calls in
      let given : (lane_at s k).given ≡ g = sym (setting-lane s k) ∙ ap (λ (x : List Setting). setting_at x k) (setup_kept (fresh gs) two.calls ∙ fresh-setup gs) in
      rw (given, two.rest_is) at (sent-fit k s two.more (sound-run (fresh gs) two.calls (fresh-sound gs)) (kind-run (fresh gs) two.calls (fresh-kind gs)))

  -- the whole lane, while that train is sent no more than n records
  pub stretch-most : (t n : ℕ) → t < train_count → ((p q : List Event) → p ++ q ≡ stretch → HoldingTrain k t (past ++ p)) → length (of_train t (sent_of k stretch)) ≤ n
      → bytes_sent_of gs k stretch ≤ (1 + g.framing) * ((8 * n + 21) * g.longest)
  unfolding OthersTight
  stretch-most t n inside holding few =
      let f : ℕ → ℕ = λ i. train_bytes k i stretch in
      let L = g.longest in
      let fit = stretch-fit in
      let other : (i : ℕ) → (t ≡ i → ⊥) → f i ≤ f t + 3 * L = λ i ne. omega (arith, others_tight gs calls past stretch rest e k t i ne holding) in
      let own : f t ≤ n * L = omega (arith, own-bytes g t (sent_of k stretch) fit, mul-le-mul_right L few) in
      let all : lens (sent_of k stretch) ≤ (8 * n + 21) * L = omega (arith, lens-trains g (sent_of k stretch) fit, with_it f t (f t + 3 * L) other 7 (omega (arith, inside)), own, spread n L) in
      omega (arith, bytes_of gs k stretch, charges-lens g (sent_of k stretch) fit, mul-le-mul_left (1 + g.framing) all)
    where
      spread : (n l : ℕ) → (8 * n + 21) * l ≡ 8 * (n * l) + 21 * l
      spread n l = omega arith

-- ---- the wait

module _ (gs : List Setting) (calls : List Call) (past since rest : List Event) (k : ℕ) (r : Rec) (n : ℕ) (e : trace (fresh gs) calls ≡ past ++ accepts k r n ∷ since ++ rest) where
  -- the train of a record that is accepted is one of the lane's
  inside : r.train < train_count
  unfolding step do_put put_of
  inside =
      let two = split (fresh gs) calls past (accepts k r n ∷ (since ++ rest)) (e ∙ append_assoc past (accepts k r n ∷ since) rest) in
      let s = after (fresh gs) two.calls in
      go s (put_refusal s k r) (put-ok s k r) (begins-with s two.more k r.train r.mark r.len n (since ++ rest) two.rest_is)
    where
      go : (s : State) (o : Option ℕ) → PutOk s k r o → (put_of s k r o).reply ≡ accepted n → r.train < train_count
      go s none a f = known-inside (lane_at s k).waiting r.train (allowed-enters s k r a).train
      go s (some c) a f = let z : ◌≡◌ {A = ℕ} 0 1 = cc in absurd (omega arith)

  -- the whole lane, while the record is not out
  pub lane-most : NotYet k r n since → bytes_sent_of gs k since ≤ (1 + (setting_at gs k).framing) * ((8 * n + 21) * (setting_at gs k).longest)
  lane-most few =
      stretch-most gs calls (past ++ accepts k r n ∷ []) since rest (joined gs calls past since rest k r n e) k r.train n inside (still-train gs calls past since rest k r n e few) few

pub worst-shared : (M : ℕ) (g : Setting) (n t : ℕ) → 1024 * t < shared_span M g n → t < worst_shared M g n
unfolding worst_shared
worst-shared M g n t h = omega arith

pub waits_shared : (M : ℕ) (gs : List Setting) → Setup gs → SetupOk M gs → WaitsShared M gs
unfolding WaitsShared Waits
waits_shared M gs setup ok calls past since rest k r n e few =
    worst-shared M (setting_at gs k) n (bytes_sent gs since)
    (omega (arith, waits M gs setup ok calls past since rest k r n e few, mul-le-mul_left (rate (setting_at gs k)) (lane-most gs calls past since rest k r n e few)))

pub out_by_shared : (M : ℕ) (gs : List Setting) → Setup gs → SetupOk M gs → OutByShared M gs
unfolding OutByShared WaitsShared
out_by_shared M gs setup ok calls past since rest k r n e much =
    elim (dec_le (length (of_train r.train (sent_of k since))) n) [
      | yes few ↦ absurd (omega (arith, much, waits_shared M gs setup ok calls past since rest k r n e few))
      | no many ↦ out-more gs calls past since rest k r n e (omega arith)
    ]
