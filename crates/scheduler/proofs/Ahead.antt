-- What an accepted put answers. Assumes nothing.
use Prim.Native.Nat.{ℕ, ◌<◌}
use mathlib.Core.Path.{sym, subst, ◌∙◌}
use mathlib.Core.Bool.{Bool}
use mathlib.Core.List.{List}
use Rattle.std.specs.Prelude.{if◌then◌else◌}
use Rattle.rounds.specs.Round.{train_depth}
use Rattle.rules.specs.State.{Rec, Setting, lane_depth}
use Rattle.rules.specs.Calls.{put, put_refusal, do_put, step}
use Rattle.rules.proofs.Keep.{put-ok}
use Rattle.rules.proofs.Ahead.{put-says}
use Rattle.pages.specs.Offers.{DeviceEvent}
use Rattle.pages.specs.Claims.{SaysAheadPages}
use Rattle.pages.proofs.Ahead.{says-ahead-pages}
use Rattle.table.specs.Means.{meant}
use Rattle.scheduler.specs.Chain.{calls_of, Led}
use Rattle.scheduler.specs.Ahead.{AheadTold, PutAhead}
use Rattle.scheduler.proofs.Steps.{step-says}

pub ahead-told : (gs : List Setting) (es : List DeviceEvent) (u : List ℕ) → Led gs es u → AheadTold gs es
unfolding AheadTold SaysAheadPages
ahead-told gs es u l past rest j t m k n e = says-ahead-pages gs l.setup (calls_of es) l.read past rest j t m k n (l.answers ∙ e)

pub put-ahead : PutAhead
unfolding PutAhead step do_put
put-ahead b u a j t m l n g p e =
    let s = meant b in
    let r : Rec = record { train = t; mark = m; len = l } in
    let x = put-says s j r n (put_refusal s j r) (put-ok s j r) (sym (step-says (put j t m l) b _ u g p) ∙ e) in
    (x.0, subst (λ (q : Bool). n < (if q then train_depth else lane_depth)) (g.core.good.kind j) x.1)
