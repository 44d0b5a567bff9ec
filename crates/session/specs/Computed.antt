-- The first session of docs/RULES.md, R16, and sessions at the edges of a run: what the script's definition gives for them.
--
--   RunShows       a run's text, its count of requests, and why it stopped
--   TenLines       R16.3: the session gives its ten lines, and stops at the end field
--   LimitNone      R16.5, as those below: a limit of 0: `lanes 2`, `end 0`
--   LimitReached   the limit is looked at before the end field too: with 8 requests allowed the same lines, and the limit as the reason
--   ByteAfter      a byte after the end field: refusal 4 with its place, and `no 4 PLACE` before `end 8`
--   EndsEarly      a session that ends after its setup: refusal 1 at the input's length
--
-- Assumes nothing.
use Rattle.std.specs.Prelude.{ℕ, ◌≡◌, List, [], ◌∷◌, ◌++◌}
use Rattle.std.proofs.Math.Option.{some}
use Rattle.plan.specs.Examples.{session_setup}
use Rattle.lines.specs.Line.{no_line}
use Rattle.walk.specs.Script.{Why, at_end, at_limit, refusal, Script, script}
use Rattle.session.specs.Examples.{session, output, lanes_two, put_ok_line, sets_line, take_first, take_third, take_second, no_sixteen, end_eight, end_none}

pub record RunShows (x : Script) (text : List ℕ) (count : ℕ) (why : Why) : Type 0 where
  pub text_is : x.text ≡ text
  pub count_is : x.count ≡ count
  pub why_is : x.why ≡ why

unfoldable pub TenLines : Type 0
TenLines = RunShows (script session 1000) output 8 at_end

unfoldable pub LimitNone : Type 0
LimitNone = RunShows (script session 0) (lanes_two ++ end_none) 0 at_limit

unfoldable pub LimitReached : Type 0
LimitReached = RunShows (script session 8) output 8 at_limit

unfoldable pub ByteAfter : Type 0
ByteAfter =
    RunShows (script (session ++ (0 ∷ [])) 1000)
    (lanes_two ++ put_ok_line 0 ++ put_ok_line 0 ++ put_ok_line 1 ++ sets_line ++ take_first ++ take_third ++ take_second ++ no_sixteen ++ no_line 4 (some 72) ++ end_eight) 8 (refusal 4 (some 72))

unfoldable pub EndsEarly : Type 0
EndsEarly = RunShows (script session_setup 1000) (lanes_two ++ no_line 1 (some 24) ++ end_none) 0 (refusal 1 (some 24))
