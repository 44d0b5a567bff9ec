-- The call of three bytes, the calls one after another, and the restart that they begin with. Assumes nothing.
use Prim.Native.Nat.{ℕ, zero, suc, ◌+◌, ◌*◌, ◌/◌, ◌<◌, ◌≤◌}
use native.Mathlib.Omega.{arith}
use mathlib.Core.Path.{◌≡◌, refl, sym, ap, subst, ◌∙◌}
use mathlib.Core.Bool.{Bool, true, false, false≢true}
use mathlib.Core.List.{List, [], ◌∷◌}
use lib.ListN.{length, drop}
use borrow.Author.Tests.{lt-ltb, le-ltb}
use Rattle.fields.specs.Bytes.{byte_at, big}
use Rattle.std.specs.Prelude.{if◌then◌else◌}
use Rattle.rules.specs.State.{State, any_holds, setup_of}
use Rattle.rules.specs.Calls.{Call, take, restart, Reply, restarted, Outcome, no, fresh, do_restart, step}
use Rattle.rules.specs.declared.Answer.{Answer}
use Rattle.std.specs.Prelude.{Result}
use Rattle.rules.specs.declared.Refusal.{Refusal}
use Rattle.std.specs.Prelude.{Ok, Err}
use Rattle.rules.specs.Reads.{answer}
use Rattle.rules.proofs.AlwaysGood.{Reached, fresh-reached, step-reached, reached-good}
use Rattle.alike.specs.Alike.{Alike}
use Rattle.alike.proofs.Alike.{alike_refl, alike-sym, alike-trans, step-alike}
use Rattle.alike.proofs.Reached.{alike-reached}
use Rattle.table.specs.Layout.{SIZE}
use Rattle.choice.specs.Known.{Known}
use Rattle.table.specs.Means.{meant}
use Rattle.table.specs.Encodes.{Encodes}
use Rattle.engine.specs.Does.{Does, Unchanged}
use Rattle.scheduler.proofs.Taken.{kind_of, answer-kind}
use Rattle.answers.specs.Answers.{Made}
use Rattle.answers.proofs.Made.{made-step, encodes-step}
use Rattle.good.specs.Table.{GoodTable}
use Rattle.inner.specs.Works.{CALL, put_by, call_at, calls_in, worked, LeadsTable, Works}

-- the call of three bytes, once it is known which it is
abbrev by_lane : List ℕ → ℕ → Bool → Call
by_lane calls at b = if b then put_by (byte_at calls at) (big calls (at + 1) 2) else take

module _ {t u : List ℕ} {a : Result Answer Refusal} (calls : List ℕ) (at : ℕ) where
  pub put-at : (n : ℕ) → byte_at calls at < 64 → n ≡ big calls (at + 1) 2 → Does (put_by (byte_at calls at) n) t a u → Does (call_at calls at) t a u
  unfolding call_at
  put-at n h e d =
      subst (λ (x : Bool). Does (by_lane calls at x) t a u) (sym (lt-ltb (byte_at calls at) 64 h)) (subst (λ (x : ℕ). Does (put_by (byte_at calls at) x) t a u) e d)

  pub take_at : 64 ≤ byte_at calls at → Does take t a u → Does (call_at calls at) t a u
  unfolding call_at
  take_at h d = subst (λ (x : Bool). Does (by_lane calls at x) t a u) (sym (le-ltb (byte_at calls at) 64 h)) d

-- ---- one call more

pub record So (calls t₀ t : List ℕ) (i : ℕ) : Type 0 where
  pub made : Made t
  pub leads : LeadsTable t₀ t (worked calls (meant t₀) i)

pub so-none : (calls t : List ℕ) → Made t → So calls t t 0
unfolding worked
so-none calls t m = record { made = m; leads = record { table = record { room = m.room; alike = alike_refl (meant t); beside = m.beside; listed = m.listed }; rest = refl } }

one_more : (i : ℕ) → suc i ≡ i + 1
one_more i = omega arith

pub so-more : (calls t₀ t u : List ℕ) (i : ℕ) (a : Result Answer Refusal) → So calls t₀ t i → Does (call_at calls (i * CALL)) t a u → So calls t₀ u (i + 1)
unfolding worked
so-more calls t₀ t u i a s d = record {
  made = made-step t u (call_at calls (i * CALL)) s.made d.encodes;
  leads = record {
    table = subst (λ (k : ℕ). Encodes u (worked calls (meant t₀) k)) (one_more i) (encodes-step t u (call_at calls (i * CALL)) (worked calls (meant t₀) i) s.made s.leads.table d.encodes);
    rest = d.rest ∙ s.leads.rest;
  };
}

pub so-all : (calls t₀ t : List ℕ) (i : ℕ) → i ≡ length calls / CALL → So calls t₀ t i → LeadsTable t₀ t (worked calls (meant t₀) (calls_in calls))
unfolding calls_in
so-all calls t₀ t i e s = subst (λ (k : ℕ). LeadsTable t₀ t (worked calls (meant t₀) k)) e s.leads

-- ---- the restart before them

restart-by : (s : State) (b : Bool) → any_holds s.lanes ≡ b → step s restart ≡ (if b then no 15 s else record { reply = restarted; state = fresh (setup_of s) })
unfolding step do_restart
restart-by s b e = ap (λ (x : Bool). if x then no 15 s else record { reply = restarted; state = fresh (setup_of s) }) e

pub record Begun (t u : List ℕ) : Type 0 where
  pub made : Made u
  pub none_held : any_holds (meant t).lanes ≡ false
  pub alike : Alike (meant u) (fresh (setup_of (meant t)))
  pub rest : drop SIZE u ≡ drop SIZE t

pub begun : (t u : List ℕ) (a : Answer) → Known t → Does restart t (Ok a) u → Begun t u
unfolding kind_of
begun t u a k d = go (any_holds (meant t).lanes) refl
  where
    go : (b : Bool) → any_holds (meant t).lanes ≡ b → Begun t u
    go true e = let z : kind_of (answer a) ≡ 6 = ap kind_of (d.says ∙ ap (λ (o : Outcome). o.reply) (restart-by (meant t) true e)) in absurd (omega (arith, answer-kind a))
    go false e =
        let σ = fresh (setup_of (meant t)) in
        let is : Encodes u σ = subst (Encodes u) (ap (λ (o : Outcome). o.state) (restart-by (meant t) false e)) d.encodes in
        record {
          made = record {
            room = is.room;
            beside = is.beside;
            listed = is.listed;
            reached = alike-reached σ (meant u) (alike-sym (meant u) σ is.alike) (fresh-reached _ k.good.setup);
          };
          none_held = e;
          alike = is.alike;
          rest = d.rest;
        }

-- a refusal: a lane holds records, and nothing is done
pub still : (t u : List ℕ) (x : Refusal) → Does restart t (Err x) u → (any_holds (meant t).lanes ≡ true) × (u ≡ t)
unfolding kind_of
still t u x d = (go (any_holds (meant t).lanes) refl, d.unchanged)
  where
    go : (b : Bool) → any_holds (meant t).lanes ≡ b → any_holds (meant t).lanes ≡ true
    go true e = e
    go false e = let z : ◌≡◌ {A = ℕ} 6 5 = ap kind_of (d.says ∙ ap (λ (o : Outcome). o.reply) (restart-by (meant t) false e)) in absurd (omega arith)

-- ---- the promise, by what the tests found

pub bad-works : (calls t : List ℕ) → (GoodTable t → ⊥) → Works calls t 10 t
bad-works calls t b = record { not_good = λ _. (refl, refl); held = λ g. absurd (b g); done = λ g. absurd (b g); size = refl }

pub held-works : (calls t u : List ℕ) (x : Refusal) → GoodTable t → Does restart t (Err x) u → Works calls t 15 u
held-works calls t u x g d =
    let s = still t u x d in
    record {
      not_good = λ b. absurd (b g);
      held = λ _ _. (refl, s.1);
      done = λ _ e. absurd (false≢true (sym e ∙ s.0));
      size = ap length s.1;
    }

worked-reached : (calls : List ℕ) (s : State) (n : ℕ) → Reached s → Reached (worked calls s n)
unfolding worked
worked-reached calls s zero r = r
worked-reached calls s (suc n) r = step-reached (worked calls s n) (call_at calls (n * CALL)) (worked-reached calls s n r)

-- calls from two states that are alike, the first of them one that calls reach, lead to states that are alike
worked-alike : (calls : List ℕ) (s σ : State) (n : ℕ) → Reached s → Alike s σ → Alike (worked calls s n) (worked calls σ n)
unfolding worked
worked-alike calls s σ zero r a = a
worked-alike calls s σ (suc n) r a = (step-alike (worked calls s n) (worked calls σ n) (reached-good _ (worked-reached calls s n r)) (worked-alike calls s σ n r a) (call_at calls (n * CALL))).state

pub done-works : (calls t u v : List ℕ) → GoodTable t → Begun t u → length v ≡ length t → LeadsTable u v (worked calls (meant u) (calls_in calls)) → Works calls t 0 v
done-works calls t u v g b len l = record {
  not_good = λ h. absurd (h g);
  held = λ _ e. absurd (false≢true (sym b.none_held ∙ e));
  done = λ _ _. (
    refl,
    record {
      table = record {
        room = l.table.room;
        alike = alike-trans (meant v) (worked calls (meant u) (calls_in calls)) (worked calls (fresh (setup_of (meant t))) (calls_in calls)) l.table.alike (worked-alike calls (meant u) (fresh (setup_of (meant t))) (calls_in calls) b.made.reached b.alike);
        beside = l.table.beside;
        listed = l.table.listed;
      };
      rest = l.rest ∙ b.rest;
    },
  );
  size = len;
}
