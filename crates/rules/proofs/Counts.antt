-- Counting over a list of events in two parts, and after an accepted put. Assumes nothing.
use Prim.Native.Nat.{ℕ, ◌+◌, ◌<◌}
use native.Mathlib.Omega.{arith}
use mathlib.Core.Path.{◌≡◌, refl, sym, ap, ◌∙◌}
use mathlib.Core.List.{List, [], ◌∷◌, ◌++◌, append_assoc}
use lib.ListN.{length, drop, length-append}
use borrow.Author.Tests.{eq-eqb}
use Rattle.rounds.specs.Round as round
use Rattle.waiting.specs.Waiting.{bare}
use Rattle.rules.specs.State.{Rec}
use Rattle.rules.specs.Runs.{Event, sent_in, offered_in, is_accepted, accepted_in, of_lane, accepted_of, sent_of, of_train}
use Rattle.rules.specs.Waits.{accepts}
use Rattle.rules.proofs.Order.{of-append}

-- ---- lists

module _ {A : Type 0} where
  pub drop-front : (a b : List A) → drop (length a) (a ++ b) ≡ b
  drop-front [] b = refl
  drop-front (x ∷ a) b = drop-front a b

  -- of two lists that begin the same list the longer goes on as that list does
  pub goes_on : (a b c d : List A) (x : A) → a ++ b ≡ c ++ x ∷ d → length c < length a → (more : List A) × (a ≡ c ++ x ∷ more)
  goes_on [] b c d x e h = absurd (omega arith)
  goes_on (y ∷ a) b [] d x e h = (a, cc)
  goes_on (y ∷ a) b (z ∷ c) d x e h =
      let same : y ≡ z = cc in
      let tail : a ++ b ≡ c ++ x ∷ d = cc in
      let r = goes_on a b c d x tail (omega arith) in
      (r.0, ap (λ (w : List A). y ∷ w) r.1 ∙ ap (λ (w : A). w ∷ (c ++ x ∷ r.0)) same)

  pub cancel-front : (a b c : List A) → a ++ b ≡ a ++ c → b ≡ c
  cancel-front [] b c e = e
  cancel-front (x ∷ a) b c e = cancel-front a b c cc

-- ---- events in two parts

pub accepted-append : (k : ℕ) (a b : List Event) → accepted_of k (a ++ b) ≡ accepted_of k a ++ accepted_of k b
unfolding accepted_of
accepted-append k [] b = refl
accepted-append k (e ∷ a) b =
    ap (λ (x : List Rec). of_lane k (accepted_in e) ++ x) (accepted-append k a b) ∙ sym (append_assoc (of_lane k (accepted_in e)) (accepted_of k a) (accepted_of k b))

pub sent-append : (k : ℕ) (a b : List Event) → sent_of k (a ++ b) ≡ sent_of k a ++ sent_of k b
unfolding sent_of
sent-append k [] b = refl
sent-append k (e ∷ a) b =
    ap (λ (x : List Rec). of_lane k (sent_in e.reply) ++ x) (sent-append k a b) ∙ sym (append_assoc (of_lane k (sent_in e.reply)) (sent_of k a) (sent_of k b))

pub accepted-count : (k t : ℕ) (a b : List Event) → length (of_train t (accepted_of k (a ++ b))) ≡ length (of_train t (accepted_of k a)) + length (of_train t (accepted_of k b))
accepted-count k t a b =
    ap (λ (x : List Rec). length (of_train t x)) (accepted-append k a b) ∙ ap length (of-append t (accepted_of k a) (accepted_of k b)) ∙ length-append (of_train t (accepted_of k a)) (of_train t (accepted_of k b))

pub sent-count : (k t : ℕ) (a b : List Event) → length (of_train t (sent_of k (a ++ b))) ≡ length (of_train t (sent_of k a)) + length (of_train t (sent_of k b))
sent-count k t a b = ap (λ (x : List Rec). length (of_train t x)) (sent-append k a b) ∙ ap length (of-append t (sent_of k a) (sent_of k b)) ∙ length-append (of_train t (sent_of k a)) (of_train t (sent_of k b))

-- ---- an accepted put adds its record to those accepted, and sends none

pub put-accepts : (k : ℕ) (r : Rec) (n : ℕ) (es : List Event) → of_train r.train (accepted_of k (accepts k r n ∷ es)) ≡ bare r ∷ of_train r.train (accepted_of k es)
unfolding accepted_of offered_in is_accepted of_lane of_train
put-accepts k r n es = simp (eq-eqb k k refl, eq-eqb r.train r.train refl)

pub put-sends : (k : ℕ) (r : Rec) (n : ℕ) (es : List Event) → sent_of k (accepts k r n ∷ es) ≡ sent_of k es
unfolding sent_of sent_in of_lane
put-sends k r n es = refl

-- Where the order of a train is kept before the put and later, what is handed out between and what is queued then is what was queued, the record, and what was
-- accepted between.
pub turn : (k : ℕ) (r : Rec) (n : ℕ) (past since : List Event) (q q' : List round.BareRec)
    → of_train r.train (accepted_of k past) ≡ of_train r.train (sent_of k past) ++ q
    → of_train r.train (accepted_of k (past ++ accepts k r n ∷ since)) ≡ of_train r.train (sent_of k (past ++ accepts k r n ∷ since)) ++ q'
    → of_train r.train (sent_of k since) ++ q' ≡ q ++ bare r ∷ of_train r.train (accepted_of k since)
turn k r n past since q q' before later =
    let t = r.train in
    let acc = of_train t (accepted_of k past) in
    let sent = of_train t (sent_of k past) in
    let all : of_train t (accepted_of k (past ++ accepts k r n ∷ since)) ≡ acc ++ (bare r ∷ of_train t (accepted_of k since))
    = ap (of_train t) (accepted-append k past (accepts k r n ∷ since)) ∙ of-append t (accepted_of k past) (accepted_of k (accepts k r n ∷ since)) ∙ ap (λ (x : List round.BareRec). acc ++ x) (put-accepts k r n since) in
    let out : of_train t (sent_of k (past ++ accepts k r n ∷ since)) ≡ sent ++ of_train t (sent_of k since)
    = ap (of_train t) (sent-append k past (accepts k r n ∷ since)) ∙ of-append t (sent_of k past) (sent_of k (accepts k r n ∷ since)) ∙ ap (λ (x : List Rec). sent ++ of_train t x) (put-sends k r n since) in
    sym (cancel-front sent (q ++ (bare r ∷ of_train t (accepted_of k since))) (of_train t (sent_of k since) ++ q')
    (sym (append_assoc sent q (bare r ∷ of_train t (accepted_of k since)))
    ∙ ap (λ (x : List round.BareRec). x ++ (bare r ∷ of_train t (accepted_of k since))) (sym before)
    ∙ sym all ∙ later ∙ ap (λ (x : List round.BareRec). x ++ q') out ∙ append_assoc sent (of_train t (sent_of k since)) q'))
