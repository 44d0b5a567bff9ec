-- Which lane take serves, worked plainly over all lanes.
--
--   choose     the best of the eligible lanes
--   least_of    the least R of the lanes that pass a test
--
-- Assumes nothing.
use Rattle.std.specs.Prelude.{ℕ, suc, Bool, ◌&&◌, ◌||◌, List, [], ◌∷◌, leb, ltb, eqb, if◌then◌else◌}
use Rattle.std.proofs.Math.Option.{Option, none, some}
use Rattle.units.specs.Plain.{place}
use Rattle.rules.specs.State.{Lane, State, group, start_r, finish_r, eligible}

-- what the choice goes by: the rounded finish, the group, and the place in the tie order
pub record Candidate : Type 0 where
  pub lane : ℕ
  pub finish : ℕ
  pub group : ℕ
  pub turn : ℕ

-- R3.10: by the rounded finish, then by the group, then by the place in the tie order
unfoldable pub before : Candidate → Candidate → Bool
before a b =
    ltb a.finish b.finish
    || eqb a.finish b.finish && (ltb a.group b.group || eqb a.group b.group && ltb a.turn b.turn)

unfoldable pub best : Candidate → Option Candidate → Option Candidate
best a none = some a
best a (some b) = some (if before b a then b else a)

-- the best of the eligible lanes of a list whose first lane has the number j
unfoldable pub choose_from : ℕ → List ℕ → ℕ → List Lane → Option Candidate
choose_from v order j [] = none
choose_from v order j (l ∷ ls) =
    let rest = choose_from v order (suc j) ls in
    if eligible v l then best (record { lane = j; finish = finish_r l; group = group l.given; turn = place j order }) rest else rest

-- R3.10
unfoldable pub choose : State → Option Candidate
choose s = choose_from s.clock s.order 0 s.lanes

-- ---- the least R

abbrev pub least : ℕ → Option ℕ → Option ℕ
least a none = some a
least a (some b) = some (if leb a b then a else b)

-- R3.14
unfoldable pub least_of : (Lane → Bool) → List Lane → Option ℕ
least_of p [] = none
least_of p (l ∷ ls) = if p l then least (start_r l) (least_of p ls) else least_of p ls
