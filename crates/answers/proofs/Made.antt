-- A table that calls made from a fresh one is known to be good, and stays so. Assumes nothing.
use Prim.Native.Nat.{ℕ}
use mathlib.Core.Path.{◌≡◌, sym, ap, subst, ◌∙◌}
use mathlib.Core.List.{List}
use Rattle.rules.specs.State.{Setting, State, setup_of}
use Rattle.rules.specs.Setup.{Setup}
use Rattle.rules.specs.Calls.{Call, step}
use Rattle.rules.proofs.AlwaysGood.{Reached, fresh-reached, step-reached, reached-good}
use Rattle.alike.proofs.Alike.{alike-sym, alike-trans, step-alike}
use Rattle.alike.proofs.Reached.{alike-reached}
use Rattle.table.specs.Layout.{Room}
use Rattle.table.specs.Means.{meant}
use Rattle.table.specs.Encodes.{Encodes}
use Rattle.table.proofs.Lists.{empty-listed}
use Rattle.choice.specs.Known.{Known}
use Rattle.fresh.specs.Makes.{Makes}
use Rattle.answers.specs.Lines.{line_by}
use Rattle.answers.specs.Answers.{Made}
use Rattle.answers.proofs.Shared.{encodes-setup}

pub reached-known : (t : List ℕ) → Made t → Known t
reached-known t m = record {
  sound = record { room = m.room; beside = m.beside };
  listed = m.listed;
  good = reached-good (meant t) m.reached;
}

pub made-fresh : (t t' : List ℕ) (gs : List Setting) → Setup gs → Room t' → Makes t t' gs → Made t'
made-fresh t t' gs s h m = record { room = h; beside = m.beside; listed = empty-listed t' gs m.state m.empty; reached = subst Reached (sym m.state) (fresh-reached gs s) }

pub made-step : (t t' : List ℕ) (c : Call) → Made t → Encodes t' (step (meant t) c).state → Made t'
made-step t t' c m e = record {
  room = e.room;
  beside = e.beside;
  listed = e.listed;
  reached = alike-reached (step (meant t) c).state (meant t') (alike-sym (meant t') (step (meant t) c).state e.alike) (step-reached (meant t) c m.reached);
}

-- the same of any state that the table encodes
pub encodes-step : (t t' : List ℕ) (c : Call) (s : State) → Made t → Encodes t s → Encodes t' (step (meant t) c).state → Encodes t' (step s c).state
encodes-step t t' c s m e d = record {
  room = d.room;
  alike = alike-trans (meant t') (step (meant t) c).state (step s c).state d.alike (step-alike (meant t) s (reached-good (meant t) m.reached) e.alike c).state;
  beside = d.beside;
  listed = d.listed;
}

-- and the line of the reply
pub line_step_lem : (t : List ℕ) (c : Call) (s : State) → Made t → Encodes t s → line_by (setup_of (meant t)) (step (meant t) c).reply ≡ line_by (setup_of s) (step s c).reply
line_step_lem t c s m e =
    ap (λ (gs : List Setting). line_by gs (step (meant t) c).reply) (encodes-setup t s e)
    ∙ ap (line_by (setup_of s)) (step-alike (meant t) s (reached-good (meant t) m.reached) e.alike c).reply
