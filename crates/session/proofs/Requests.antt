-- A run's requests are a list of the rules' calls. Assumes nothing.
use Prim.Native.Nat.{ℕ, zero, suc, ◌+◌, ◌*◌, ◌≤◌}
use native.Mathlib.Omega.{arith}
use mathlib.Core.Path.{◌≡◌, refl, sym, ap, ◌∙◌}
use mathlib.Core.Bool.{Bool, true, false, ◌||◌}
use mathlib.Core.List.{List, [], ◌∷◌, ◌++◌, append-nil, append_assoc}
use mathlib.Core.Option.{none, some}
use lib.Dec.{ltb}
use lib.ListN.{length}
use Rattle.std.specs.Prelude.{if◌then◌else◌}
use Rattle.rules.specs.State.{Setting, State, setup_of}
use Rattle.rules.specs.Setup.{Setup}
use Rattle.rules.specs.Calls.{Call, fresh, step}
use Rattle.rules.specs.Runs.{after, trace}
use Rattle.rules.specs.Fair.{Demand3, TwoLanes}
use Rattle.rules.proofs.SameSetup.{same_setup, fresh-setup}
use Rattle.rules.proofs.Fair.{demand3, two_lanes_lem}
use Rattle.plan.specs.Read.{SetupReply, read_plan, setup_refused, setup_read}
use Rattle.plan.proofs.Accepted.{accepted}
use Rattle.table.specs.Layout.{table_size}
use Rattle.lines.specs.Line.{lanes_line}
use Rattle.requests.specs.Request.{RequestItem, request, last, bad_request, request_item_at}
use Rattle.answers.specs.Lines.{line_by}
use Rattle.walk.specs.Script.{Walked, closing, session_walk, session_begun, script, nothing_done, run_of}
use Rattle.walk.proofs.Walking.{walked}
use Rattle.session.specs.Requests.{requests_of, lines_of, ListsRequests, RunLists}

-- one turn of `requests_of`, as a function of what stands at the place
abbrev asked : ℕ → List ℕ → RequestItem → List Call
asked left s i = elim i [
  | bad_request n p ↦ []
  | last next ↦ []
  | request c next ↦ c ∷ requests_of left s next
]

-- the walk from a state, with the lines before it; the setup is the same in all of it
record WalkLists (lines : List ℕ) (n : ℕ) (σ : State) (cs : List Call) (left : ℕ) (w : Walked) : Type 0 where
  text : w.lines ≡ lines ++ lines_of (setup_of σ) (trace σ cs)
  count : w.count ≡ n + length cs
  state : w.state ≡ after σ cs
  within : length cs ≤ left

walk-stops : (lines : List ℕ) (n left : ℕ) (σ : State) (w : Walked) → w.lines ≡ lines → w.count ≡ n → w.state ≡ σ → WalkLists lines n σ [] left w
unfolding trace after lines_of
walk-stops lines n left σ w a b c = record { text = a ∙ sym (append-nil lines); count = omega (arith, b); state = c; within = omega arith }

walk-lists : (left : ℕ) (s : List ℕ) (at n : ℕ) (lines : List ℕ) (σ : State) → WalkLists lines n σ (requests_of left s at) left (session_walk left s at n lines σ)
unfolding session_walk requests_of trace after lines_of
walk-lists zero s at n lines σ = walk-stops lines n 0 σ (session_walk zero s at n lines σ) refl refl refl
walk-lists (suc left) s at n lines σ = go (request_item_at s at) (λ q m ls τ. walk-lists left s q m ls τ)
  where
    go : (i : RequestItem) → ((q m : ℕ) (ls : List ℕ) (τ : State) → WalkLists ls m τ (requests_of left s q) left (session_walk left s q m ls τ))
        → WalkLists lines n σ (asked left s i) (suc left) (walked left s n lines σ i)
    go (bad_request r p) more = walk-stops lines n (suc left) σ (walked left s n lines σ (bad_request r p)) refl refl refl
    go (last q) more = walk-stops lines n (suc left) σ (walked left s n lines σ (last q)) refl refl refl
    go (request c q) more =
        let line = line_by (setup_of σ) (step σ c).reply in
        let rest = more q (n + 1) (lines ++ line) (step σ c).state in
        record {
          text = rest.text ∙ append_assoc lines line (lines_of (setup_of (step σ c).state) (trace (step σ c).state (requests_of left s q)))
              ∙ ap (λ (gs : List Setting). lines ++ (line ++ lines_of gs (trace (step σ c).state (requests_of left s q)))) (same_setup σ c);
          count = omega (arith, rest.count);
          state = rest.state;
          within = omega (arith, rest.within);
        }

module _ (s : List ℕ) (limit : ℕ) (σ : State) where
  begun-lists : (r : SetupReply) → read_plan s 0 ≡ r → (session_begun s limit r).state ≡ some σ → ListsRequests s limit (session_begun s limit r)
  unfolding Demand3 TwoLanes
  begun-lists (setup_refused n p) e h = let z : ◌≡◌ {A = ℕ} 0 1 = cc in absurd (omega arith)
  begun-lists (setup_read v gs lanes at) e h =
      let w = session_walk limit s at 0 [] (fresh gs) in
      let i = walk-lists limit s at 0 [] (fresh gs) in
      let ok : Setup gs = (accepted s 0 v gs lanes at e).setup in
      record {
        settings = gs;
        format = v;
        lanes = lanes;
        at = at;
        reads_it = e;
        setup = ok;
        count = omega (arith, i.count);
        within = omega (arith, i.count, i.within);
        text = ap (λ (x : List ℕ). lanes_line lanes ++ (x ++ closing w.why w.count))
            (i.text ∙ ap (λ (hs : List Setting). lines_of hs (trace (fresh gs) (requests_of limit s at))) (fresh-setup gs));
        state = ap some i.state;
        fair = demand3 gs ok;
        compared = two_lanes_lem gs ok;
      }

pub run-lists : RunLists
unfolding RunLists run_of script
run-lists s limit table area σ = go (ltb 1000 limit || ltb area (64 * (limit + 2))) (ltb table table_size)
  where
    go : (a b : Bool) → (if a then nothing_done 17 none else (if b then nothing_done 7 (some 0) else session_begun s limit (read_plan s 0))).state ≡ some σ
        → ListsRequests s limit (if a then nothing_done 17 none else (if b then nothing_done 7 (some 0) else session_begun s limit (read_plan s 0)))
    go true b h = let z : ◌≡◌ {A = ℕ} 0 1 = cc in absurd (omega arith)
    go false true h = let z : ◌≡◌ {A = ℕ} 0 1 = cc in absurd (omega arith)
    go false false h = begun-lists s limit σ (read_plan s 0) refl h
