-- The stores of `serve` and `settle` come to the rules' `serve`. Assumes nothing.
use mathlib.Core.Path.{◌≡◌, refl, sym, ap, subst, ◌∙◌}
use mathlib.Core.Bool.{Bool, true}
use mathlib.Core.Option.{Option, none, some}
use mathlib.Core.Logic.{◌⊎◌, inl, inr}
use Prim.Native.Nat.{ℕ, ◌+◌, ◌*◌, ◌^◌, ◌≤◌, ◌<◌}
use mathlib.Core.List.{List}
use native.Mathlib.Omega.{arith}
use lib.Dec.{ltb}
use lib.ListN.{length, drop, set}
use borrow.Author.Tests.{lt-ltb, le-ltb}
use Rattle.units.specs.Numbers.{line_rate}
use Rattle.std.specs.Prelude.{if◌then◌else◌}
use Rattle.units.proofs.Round.{round-le}
use Rattle.units.proofs.Bools.{not-passed}
use Rattle.units.proofs.Lists.{set_cases}
use Rattle.rules.specs.State.{Rec, Lane, State, no_lane, charge, slot, group, start_r, holds, lane_at}
use Rattle.rules.specs.Choice.{least_of}
use Rattle.rules.specs.Calls.{served, settled_at, settled, serve, take_of}
use Rattle.rules.specs.Sets.{in_group, group_start}
use Rattle.rules.specs.declared.Record.{Record}
use Rattle.rules.specs.Lowest.{LowOf}
use Rattle.rules.proofs.Lowest.{lowest}
use Rattle.rules.proofs.GroupRule.{in_group_lem, group-low}
use Rattle.rules.proofs.Queues.{served-given}
use Rattle.rules.proofs.Ties.{Tied, take_tied}
use Rattle.rules.proofs.Track.{served-start}
use Rattle.table.specs.Layout.{SIZE, Behind, cells}
use Rattle.table.specs.Means.{meant, Sound, Leaves, with_clock}
use Rattle.queue.specs.Queue.{Takes}
use Rattle.queue.specs.declared.Item.{Item}
use Rattle.choice.proofs.Held.{held-early}
use Rattle.slot_lists.specs.Lists.{back_at, list_at, start_at}
use Rattle.filing.specs.Filing.{Starting, Agrees, never}
use Rattle.filing.proofs.Slots.{low-unique, group-held}
use Rattle.filing.proofs.Starts.{Named, Grouped}
use Rattle.filing.proofs.LeastStart.{group_of, least-all}
use Rattle.groups.specs.Front.{Settles, stays, none_starts, jumps}
use Rattle.groups.proofs.Laws.{no_start}
use Rattle.lane_moves.specs.Moves.{TellsReached, Refiled}
use Rattle.lane_moves.proofs.Rules.{refile-agrees}
use Rattle.choice.specs.Known.{Known, Standing}
use Rattle.choice.specs.declared.Place.{Place}
use Rattle.engine.specs.Turns.{Holds, Reaching, Settled}
use Rattle.engine.specs.Does.{Serves}
use Rattle.engine.proofs.Ends.{lanes-same, known-holds}
use Rattle.table.proofs.Lists.{cells-apart, solid-stays, agrees-stay, past-stays, past-rings}
use Rattle.engine.proofs.Serving.{At, f, x, is_first, holds-k, finish-small, entry-is, lanes-after, sound-after, inside}
use Rattle.engine.proofs.ServingLists.{solid-after, agrees₁, first₁, start₁}

-- ---- where the clock settles

settled_at_lem : (v r : ℕ) (o : Option ℕ) → o ≡ some r → settled_at v o ≡ (if ltb v r then r else v)
unfolding settled_at
settled_at_lem v r o e = ap (settled_at v) e

pub settles-is : (s : State) (starts : ℕ → Option ℕ) → Starting starts s → Grouped s → (v r : ℕ) → Settles starts v r → settled v s.lanes ≡ r
unfolding settled settled_at
settles-is s starts st grouped v r (stays i q lo hi e le er) = go (group_start s.lanes i) (sym (st i lo hi) ∙ e) (group-low s.lanes i) (least_of holds s.lanes) refl (lowest s.lanes)
  where
    go : (o : Option ℕ) → o ≡ some q → LowOf (in_group i) s.lanes o → (p : Option ℕ) → least_of holds s.lanes ≡ p → LowOf holds s.lanes p → settled_at v (least_of holds s.lanes) ≡ r
    go none z low p ep lp = let w : ◌≡◌ {A = ℕ} 0 1 = cc in absurd (omega arith)
    go (some y) z low none ep lp = ap (settled_at v) ep ∙ sym er
    go (some y) z low (some m) ep lp =
        let same : y ≡ q = cc in
        let first : m ≤ start_r (lane_at s low.at) = lp.bound low.at (in_group_lem i (lane_at s low.at) low.is).0 in
        settled_at_lem v m (least_of holds s.lanes) ep ∙ rw (le-ltb v m (omega (arith, first, low.start, same, le))) (sym er)
settles-is s starts st grouped v r (none_starts none-at er) =
    let least : least_of holds s.lanes ≡ none = low-unique holds s.lanes _ none (lowest s.lanes) (λ j. not-passed (holds (lane_at s j)) (λ hj.
    let q = group_of s starts st grouped j hj in
    let e : starts (group (lane_at s j).given) ≡ none = none-at (group (lane_at s j).given) (grouped j hj).0 (grouped j hj).1 in
    no_start (starts (group (lane_at s j).given)) q.0 e q.1)) in
    ap (settled_at v) least ∙ sym er
settles-is s starts st grouped v r (jumps m lt) = settled_at_lem v r (least_of holds s.lanes) (least-all s starts st grouped r m) ∙ rw (lt-ltb v r lt)

-- ---- once the lane has its new list

module _ (t : List ℕ) (s : State) (g r k : ℕ) (a : At t s g r k) (t₁ : List ℕ) (e : Item) (taken : Takes t t₁ k e) (len : length t₁ ≡ length t)
    (t₂ : List ℕ) (y : ℕ) (ey : y ≡ (lane_at s k).finish) (m : Bool) (em : m ≡ holds (served (lane_at s k))) (len₂ : length t₂ ≡ length t₁) (n : ℕ) (re : Refiled t₁ t₂ g r y k m n) where
  abbrev pub u : State
  u = serve s k (x t s g r k a)

  abbrev new : Lane
  new = served (lane_at s k)

  u-lanes : u.lanes ≡ set s.lanes k new
  unfolding serve
  u-lanes = refl

  named : Named u
  unfolding Tied take_of
  named = subst (λ (j : ℕ). Named (serve s j (x t s g r k a))) (f t s g r k a).lane (take_tied s (some (f t s g r k a).pick) (f t s g r k a).is a.good.order)

  cs : cells t₂ ≡ cells t₁
  cs = cells-apart t₁ t₂ re.apart

  agrees₂ : Agrees (back_at t₂) (list_at t₂) (start_at t₂) u
  agrees₂ =
      let re' : Refiled t₁ t₂ g r (lane_at s k).finish k m n = subst (λ (z : ℕ). Refiled t₁ t₂ g r z k m n) ey re in
      subst (λ (b : ℕ). Agrees b (list_at t₂) (start_at t₂) u) (sym re.apart.back)
      (refile-agrees s a.good t₁ t₂ (solid-after t s g r k a t₁ e taken len).back_whole (agrees₁ t s g r k a t₁ e taken len) k g r a.low a.high (start₁ t s g r k a t₁ e taken len) (first₁ t s g r k a t₁ e taken len) (x t s g r k a) (is_first t s g r k a) named m em n re')

  pub sound₂ : Sound t₂
  sound₂ =
      let s₁ = sound-after t s g r k a t₁ e taken len in
      record { room = omega (arith, s₁.room, len₂); beside = rw cs s₁.beside }

  -- the lanes after it, one by one
  each : (P : Lane → Type 0) → P new → ((j : ℕ) → P (lane_at s j)) → (j : ℕ) → P (lane_at u j)
  each P now o j = rw u-lanes (set_cases P s.lanes k j new no_lane (inside t s g r k a t₁ e taken len) (λ q. now) (λ ne. o j))

  new-early : holds new ≡ true → start_r new < 2 ^ 63
  new-early hn = omega (arith, round-le (slot new.given) new.start, served-start (lane_at s k) hn, finish-small t s g r k a)

  grouped : Grouped u
  grouped =
      each (λ (m : Lane). holds m ≡ true → (16 ≤ group m.given) × (group m.given ≤ 31))
      (λ hn. rw (served-given (lane_at s k)) (group-held s a.good k (holds-k t s g r k a)))
      (λ j hj. group-held s a.good j hj)

  pub early₂ : (i q : ℕ) → 16 ≤ i → i ≤ 31 → start_at t₂ i ≡ some q → q < 2 ^ 63
  early₂ i q lo hi z = go (group_start u.lanes i) (sym (agrees₂.started i lo hi) ∙ z) (group-low u.lanes i)
    where
      go : (o : Option ℕ) → o ≡ some q → LowOf (in_group i) u.lanes o → q < 2 ^ 63
      go none z low = let w : ◌≡◌ {A = ℕ} 0 1 = cc in absurd (omega arith)
      go (some y) z low =
          let same : y ≡ q = cc in
          omega (arith, same, low.start, each (λ (m : Lane). holds m ≡ true → start_r m < 2 ^ 63) new-early (λ j hj. held-early s a.good j hj) low.at (in_group_lem i (lane_at u low.at) low.is).0)

  -- what `refile` answers
  pub start-now : (v : ℕ) → r ≤ v → (n ≡ never) ⊎ Reaching t₂ v n
  start-now v le = go re.now
    where
      go : (n ≡ never) ⊎ ((q : ℕ) × (start_at t₂ g ≡ some q) × TellsReached r q n) → (n ≡ never) ⊎ Reaching t₂ v n
      go (inl z) = inl z
      go (inr z) = inr (record { group = g; at = z.0; low = a.low; high = a.high; start = z.1; reached = z.2 v le })

  -- ---- and the clock its new time

  pub holds_after : (t₃ : List ℕ) (v : ℕ) → length t₃ ≡ length t₂ → v ≡ s.clock + line_rate * charge (lane_at s k).given (x t s g r k a).len → Settled t₂ t₃ v → Holds t₃ u
  unfolding serve
  holds_after t₃ v len₃ ev st =
      let rest₃ : Behind t₂ t₃ = st.leaves.rest in
      record {
        sound = record {
          room = omega (arith, sound₂.room, len₃);
          beside = st.leaves.beside sound₂.beside;
        };
        clock = ap (λ (y : State). y.clock) st.leaves.state ∙ sym (settles-is u (start_at t₂) agrees₂.started grouped v st.clock st.is) ∙ ap (λ (y : ℕ). settled y u.lanes) ev;
        lanes = ap (λ (y : State). y.lanes) st.leaves.state ∙ lanes-same t₁ t₂ cs ∙ lanes-after t s g r k a t₁ e taken len;
        solid = solid-stays t₂ t₃ rest₃ re.solid;
        agrees = agrees-stay t₂ t₃ rest₃ u agrees₂;
      }

  pub past_after : (t₃ : List ℕ) (v : ℕ) → Settled t₂ t₃ v → drop SIZE t₃ ≡ drop SIZE t
  past_after t₃ v st = past-stays t₂ t₃ st.leaves.rest ∙ past-rings t₁ t₂ re.apart.rest ∙ past-stays t t₁ taken.leaves.rest

-- the group that was served is eligible still
pub settled-stays : (t t' : List ℕ) (v r : ℕ) → v < never → r ≤ v → (r ≡ never) ⊎ Reaching t v r → Leaves t t' (with_clock (meant t) v) → Settled t t' v
settled-stays t t' v r small le (inl e) lv = absurd (omega arith)
settled-stays t t' v r small le (inr p) lv = record { clock = v; is = stays p.group p.at p.low p.high p.start (p.reached le) refl; leaves = lv }

-- the chosen lane, of the state that the table means
pub at-chosen : (t : List ℕ) (known : Known t) (p : Place) → Standing t p → At t (meant t) p.group p.start p.lane
at-chosen t known p st = record { holds = known-holds t known; good = known.good; low = st.low; high = st.high; start = st.start; first = st.first; lane = st.chosen }

-- what was handed out
module _ (t : List ℕ) (g r k : ℕ) (a : At t (meant t) g r k) (t₁ : List ℕ) (e : Item) (taken : Takes t t₁ k e) (len : length t₁ ≡ length t)
    (t₂ : List ℕ) (y : ℕ) (ey : y ≡ (lane_at (meant t) k).finish) (m : Bool) (em : m ≡ holds (served (lane_at (meant t) k))) (len₂ : length t₂ ≡ length t₁) (n : ℕ) (re : Refiled t₁ t₂ g r y k m n) where
  pub handed : (t₃ : List ℕ) (v : ℕ) (rec : Record) → length t₃ ≡ length t₂ → v ≡ (meant t).clock + line_rate * charge (lane_at (meant t) k).given (x t (meant t) g r k a).len → Settled t₂ t₃ v
      → rec.lane ≡ k → rec.train ≡ e.train → rec.mark ≡ e.mark → rec.length.0 ≡ e.length.0 → Serves t rec t₃
  handed t₃ v rec len₃ ev st p i q d =
      let w = f t (meant t) g r k a in
      let same = entry-is t (meant t) g r k a t₁ e taken len in
      record {
        pick = w.pick;
        picks = w.picks;
        lane = p ∙ sym w.lane;
        train = i ∙ ap (λ (y : Rec). y.train) same;
        mark = q ∙ ap (λ (y : Rec). y.mark) same;
        size = d ∙ ap (λ (y : Rec). y.len) same;
        turns = record {
          holds = subst (λ (j : ℕ). Holds t₃ (serve (meant t) j (x t (meant t) g r k a))) (sym w.lane) (holds_after t (meant t) g r k a t₁ e taken len t₂ y ey m em len₂ n re t₃ v len₃ ev st);
          rest = past_after t (meant t) g r k a t₁ e taken len t₂ y ey m em len₂ n re t₃ v st;
        };
      }
