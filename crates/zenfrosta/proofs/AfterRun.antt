-- Public calls on the table that a run left go on from the run's requests. Assumes nothing.
use mathlib.Core.Path.{sym, subst}
use mathlib.Core.List.{map}
use Rattle.pages.specs.Device.{ruled}
use Rattle.pages.specs.Carried.{WithoutOffers}
use Rattle.pages.proofs.Carried.{without-offers}
use Rattle.paged.specs.Paged.{EncodesDevice}
use Rattle.scheduler.specs.Demands.{EveryList}
use Rattle.scheduler.proofs.Chains.{led-by, all-ruled}
use Rattle.scheduler.proofs.Demands.{every-list}
use Rattle.walk.specs.Follows.{TableLeft}
use Rattle.session.specs.Requests.{requests_of}
use Rattle.zenfrosta.specs.AfterRun.{run_events, ByRun, AfterRun}

pub by-run : ByRun
unfolding ByRun WithoutOffers
by-run s limit t t' a a' r p l =
    let cs = requests_of limit s l.at in
    led-by l.settings (map ruled cs) t' l.setup (all-ruled cs)
    (subst (EncodesDevice t') (sym (without-offers l.settings cs).1) (subst (TableLeft t t') l.state p.table).encodes)

pub after_run : AfterRun
unfolding AfterRun ByRun EveryList
after_run s limit t t' a a' r p l calls u ch = every-list l.settings (run_events s limit l.settings l.at) calls t' u (by-run s limit t t' a a' r p l) ch
