-- The setups of specs/Examples.antt, computed. Assumes nothing.
use native.Mathlib.Omega.{arith}
use mathlib.Core.Path.{refl, ap}
use mathlib.Core.List.{List}
use Rattle.rules.specs.State.{Setting, setting_at}
use Rattle.fields.specs.Bytes.{big}
use Rattle.fields.specs.Item.{item_at}
use Rattle.plan.specs.Fields.{setup_field_of}
use Rattle.plan.specs.Judge.{lane_outside, judged_at}
use Rattle.plan.specs.Read.{setup_walk, read_plan, read_setup}
use Rattle.halt.specs.Halt.{halt_setup}
use Rattle.halt.specs.Examples.{HaltShown}

pub examples : HaltShown
unfolding big setup_field_of item_at lane_outside judged_at setup_walk read_plan read_setup halt_setup
examples = record {
  format_1 = refl;
  format_2 = refl;
  no_framing = refl;
  one_framing = λ e. absurd (omega (arith, ap (λ (gs : List Setting). (setting_at gs 0).framing) e));
  other_lanes = λ e. absurd (omega (arith, ap (λ (gs : List Setting). (setting_at gs 3).weight) e));
  short_1 = λ e. absurd (omega (arith, ap (λ (gs : List Setting). (setting_at gs 0).longest) e));
  short_2 = λ e. absurd (omega (arith, ap (λ (gs : List Setting). (setting_at gs 0).longest) e));
}
