-- The rules beside the endless rules: from two states that are beside each other, each call answers alike and leaves two such states. Assumes nothing.
use Prim.Native.Nat.{ℕ, ◌+◌, ◌*◌, ◌≤◌}
use native.Mathlib.Omega.{arith}
use native.Mathlib.Nat.{le_refl}
use mathlib.Core.Path.{◌≡◌, refl, sym, ap, ◌∙◌}
use mathlib.Core.Bool.{Bool, true, false, not, ◌&&◌}
use mathlib.Core.List.{List, [], ◌∷◌, ◌++◌}
use mathlib.Core.Option.{Option, none, some}
use lib.Dec.{ltb}
use lib.ListN.{length, get_or, set, length-set}
use borrow.Author.Tests.{ltb-true}
use Rattle.units.specs.Numbers.{line_rate}
use Rattle.std.specs.Prelude.{if◌then◌else◌}
use Rattle.units.specs.Plain.{without}
use Rattle.units.proofs.Bools.{if-ind, and_parts}
use Rattle.waiting.specs.Waiting.{Waiting, first}
use Rattle.rules.specs.State.{clock_step, Rec, Setting, Lane, no_lane, State, charge, group, start_r, some?, holds, lane_at, any_holds}
use Rattle.rules.specs.Choice.{Candidate, choose}
use Rattle.rules.specs.Calls.{Outcome, put_refusal, appended, woken, accept, served, settled, serve, Pick, pick_first, pick_of, picked, take_of, do_take, look_of, do_look}
use Rattle.rules.specs.Endless.{LaneBeside, Beside}
use Rattle.rules.proofs.Lists.{set-two}
use Rattle.rules.proofs.Serve.{served-ind}
use Rattle.rules.proofs.Moves.{Sound, MayEnter, woken-holds}
use Rattle.rules.proofs.Keep.{PickIs, pick_is}
use Rattle.rules.proofs.Further.{ltb-further, Sees, holds_same, mapped, ByPlace, any_same, further, choose-further, settled-further}
use Rattle.rules.proofs.LaneBeside.{appended-beside, lane-later, lane-sees, served-beside, settled_up, woken-beside}

-- ---- two states

pub same_beside : (s : State) → Beside 0 s s
same_beside s = record {
  clock = omega arith;
  order = refl;
  size = refl;
  lane = λ k. record { given = refl; waiting = refl; start = λ e. omega arith; finish = λ e. omega arith; idle = λ e. omega arith };
}

-- t is made of s's clock and order, and its own lanes
pub made_of : (n : ℕ) (s t : State) → Beside n s t → t ≡ record { clock = s.clock + n * clock_step; lanes = t.lanes; order = s.order }
made_of n s t b =
    ap (λ (v : ℕ). record { clock = v; lanes = t.lanes; order = t.order }) b.clock
    ∙ ap (λ (o : List ℕ). record { clock = s.clock + n * clock_step; lanes = t.lanes; order = o }) b.order

abbrev pub Small : State → Type 0
Small s = (k : ℕ) → group (lane_at s k).given ≤ 31

-- two outcomes: one answer, and two states beside each other
pub record Same (o p : Outcome) : Type 0 where
  pub reply : o.reply ≡ p.reply
  pub by : ℕ
  pub beside : Beside by o.state p.state

module _ (n : ℕ) (s : State) (ms : List Lane) (z : length ms ≡ length s.lanes)
    (lane : (k : ℕ) → LaneBeside (n * clock_step) s.clock (lane_at s k) (get_or ms k no_lane)) (small : Small s)
  where
    abbrev d : ℕ
    d = n * clock_step

    abbrev t : State
    t = record { clock = s.clock + d; lanes = ms; order = s.order }

    pub here : Beside n s t
    here = record { clock = refl; order = refl; size = z; lane = lane }

    pub sees : ByPlace d s.lanes ms
    sees k = lane-sees n s.clock (lane_at s k) (get_or ms k no_lane) (small k) (lane k)

    pub holds-t : (k : ℕ) → holds (get_or ms k no_lane) ≡ holds (lane_at s k)
    holds-t k = holds_same d (lane_at s k) (get_or ms k no_lane) (sees k)

    -- lane j replaced in both, and the clocks moved on alike
    replaced : (j : ℕ) (l m : Lane) (v : ℕ) (order : List ℕ) → s.clock ≤ v → LaneBeside d v l m
        → Beside n (record { clock = v; lanes = set s.lanes j l; order = order }) (record { clock = v + d; lanes = set ms j m; order = order })
    replaced j l m v order up b = record {
      clock = refl;
      order = refl;
      size = length-set ms j m ∙ z ∙ sym (length-set s.lanes j l);
      lane = set-two (LaneBeside d v) s.lanes ms j l m no_lane z b (λ k. lane-later d s.clock v (lane_at s k) (get_or ms k no_lane) up (lane k));
    }

    -- ---- put

    pub refusal-same : (j : ℕ) (x : Rec) → put_refusal t j x ≡ put_refusal s j x
    unfolding put_refusal
    refusal-same j x = rw ((lane j).given, (lane j).waiting)

    waked : (j : ℕ) (r : Rec) → Sound (lane_at s j) → MayEnter (lane_at s j) r → holds (lane_at s j) ≡ false → start_r (woken (s.clock + d) (get_or ms j no_lane) r) ≡ start_r (woken s.clock (lane_at s j) r) + d
    unfolding woken
    waked j r w a e =
        (lane-sees n s.clock (woken s.clock (lane_at s j) r) (woken (s.clock + d) (get_or ms j no_lane) r) (small j)
        (woken-beside d s.clock s.clock (lane_at s j) (get_or ms j no_lane) r w a e (lane j))).start (woken-holds s.clock (lane_at s j) r w a e)

    pub accept-built : (j : ℕ) (r : Rec) → Sound (lane_at s j) → MayEnter (lane_at s j) r → Beside n (accept s j r) (accept t j r)
    unfolding accept
    accept-built j r w a = rw (holds-t j) (go (holds (lane_at s j)) refl)
      where
        l : Lane
        l = lane_at s j

        m : Lane
        m = get_or ms j no_lane

        l' : Lane
        l' = woken s.clock l r

        m' : Lane
        m' = woken (s.clock + d) m r

        push : (x : Bool) → (if x then start_r l' + d else s.clock + d) ≡ (if x then start_r l' else s.clock) + d
        push true = refl
        push false = refl

        clocks : holds l ≡ false
            → (if not (any_holds ms) && ltb (s.clock + d) (start_r m') then start_r m' else s.clock + d) ≡ (if not (any_holds s.lanes) && ltb s.clock (start_r l') then start_r l' else s.clock) + d
        clocks e = rw (any_same d s.lanes ms z sees, waked j r w a e, ltb-further s.clock (start_r l') d) (push (not (any_holds s.lanes) && ltb s.clock (start_r l')))

        up : s.clock ≤ (if not (any_holds s.lanes) && ltb s.clock (start_r l') then start_r l' else s.clock)
        up =
            if-ind (λ (v : ℕ). s.clock ≤ v) (not (any_holds s.lanes) && ltb s.clock (start_r l')) _ _
            (λ e. omega (arith, ltb-true s.clock (start_r l') (and_parts (not (any_holds s.lanes)) (ltb s.clock (start_r l')) e).1)) (λ e. le_refl s.clock)

        go : (b : Bool) → holds l ≡ b
            → Beside n
            (if b then record { clock = s.clock; lanes = set s.lanes j (appended l r); order = s.order }
            else record { clock = if not (any_holds s.lanes) && ltb s.clock (start_r l') then start_r l' else s.clock; lanes = set s.lanes j l'; order = s.order ++ (j ∷ []) })
            (if b then record { clock = s.clock + d; lanes = set ms j (appended m r); order = s.order }
            else record { clock = if not (any_holds ms) && ltb (s.clock + d) (start_r m') then start_r m' else s.clock + d; lanes = set ms j m'; order = s.order ++ (j ∷ []) })
        go true e = replaced j (appended l r) (appended m r) s.clock s.order (le_refl s.clock) (appended-beside d s.clock l m r w a e (lane j))
        go false e =
            rw (clocks e)
            (replaced j l' m' (if not (any_holds s.lanes) && ltb s.clock (start_r l') then start_r l' else s.clock) (s.order ++ (j ∷ [])) up (woken-beside d s.clock _ l m r w a e (lane j)))

    -- ---- take and look

    picked_same : picked t ≡ picked s
    unfolding picked choose pick_of
    picked_same = ap (pick_of t) (choose-further d s.clock s.order 0 s.lanes ms z sees) ∙ go (choose s)
      where
        go : (o : Option Candidate) → pick_of t (mapped (further d) o) ≡ pick_of s o
        go none = refl
        go (some c) = ap (λ (w : Waiting). pick_first c.lane (first w)) (lane c.lane).waiting

    served-small : (j : ℕ) → group (served (lane_at s j)).given ≤ 31
    served-small j = served-ind (λ (l : Lane). group l.given ≤ 31) (lane_at s j) (λ e. small j) (λ r e. small j)

    serve-built : (j : ℕ) (r : Rec) → holds (lane_at s j) ≡ true → Beside n (serve s j r) (serve t j r)
    unfolding serve
    serve-built j r e =
        let l = lane_at s j in
        let m = get_or ms j no_lane in
        let x : ℕ = line_rate * charge l.given r.len in
        let new : (v : ℕ) → LaneBeside d v (served l) (served m) = λ v. served-beside d s.clock v l m e (lane j) in
        let b = replaced j (served l) (served m) (s.clock + x) (without j s.order ++ (if holds (served l) then j ∷ [] else [])) (omega arith) (new (s.clock + x)) in
        let ls' = set s.lanes j (served l) in
        let ms' = set ms j (served m) in
        let small' : (k : ℕ) → Sees d (get_or ls' k no_lane) (get_or ms' k no_lane) = set-two (Sees d) s.lanes ms j (served l) (served m) no_lane z (lane-sees n s.clock (served l) (served m) (served-small j) (new s.clock)) sees in
        let at : s.clock + d + line_rate * charge m.given r.len ≡ s.clock + x + d = omega (arith, ap (λ (g : Setting). line_rate * charge g r.len) (lane j).given) in
        let clocks : settled (s.clock + d + line_rate * charge m.given r.len) ms' ≡ settled (s.clock + x) ls' + d = ap (λ (v : ℕ). settled v ms') at ∙ settled-further d (s.clock + x) ls' ms' b.size small' in
        record {
          clock = clocks;
          order = ap (λ (w : Waiting). without j s.order ++ (if some? (first w) then j ∷ [] else [])) (new s.clock).waiting;
          size = b.size;
          lane = λ k. lane-later d (s.clock + x) (settled (s.clock + x) ls') (get_or ls' k no_lane) (get_or ms' k no_lane) (settled_up (s.clock + x) ls') (b.lane k);
        }

    pub take-built : Same (do_take s) (do_take t)
    unfolding do_take take_of
    take-built = rw picked_same (go (picked s) (pick_is s))
      where
        go : (o : Option Pick) → PickIs s o → Same (take_of s o) (take_of t o)
        go none h = record { reply = refl; by = n; beside = here }
        go (some p) h = record { reply = refl; by = n; beside = serve-built p.lane p.first (ap some? h.is_first) }

    pub look-built : Same (do_look s) (do_look t)
    unfolding do_look look_of
    look-built = rw picked_same (go (picked s))
      where
        go : (o : Option Pick) → Same (look_of s o) (look_of t o)
        go none = record { reply = refl; by = n; beside = here }
        go (some p) = record { reply = refl; by = n; beside = here }
