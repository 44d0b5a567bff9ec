-- The pages of specs/Examples.antt, computed. Assumes nothing.
use mathlib.Core.Path.{refl}
use Rattle.fields.specs.Bytes.{big}
use Rattle.fields.specs.Item.{item_at}
use Rattle.plan.specs.Fields.{setup_field_of}
use Rattle.plan.specs.Judge.{lane_outside, judged_at}
use Rattle.plan.specs.Read.{setup_walk, read_plan, read_setup}
use Rattle.page.specs.Fields.{page_field_of}
use Rattle.page.specs.Read.{skip_walk, past_skipped, end_at, value_at, settings_at, read_page}
use Rattle.page.specs.Examples.{Shown}

pub examples : Shown
unfolding big item_at setup_field_of lane_outside judged_at setup_walk read_plan read_setup page_field_of skip_walk past_skipped end_at value_at settings_at read_page
examples = record {
  plain = refl;
  with_skipped = refl;
  weight_right = refl;
  weight_over = refl;
  weight_moved = refl;
  value_short = refl;
  value_long = refl;
  skipped_first = refl;
  skipped_last = refl;
  twice = refl;
  missing = refl;
  stops = refl;
}
