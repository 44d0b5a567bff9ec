-- One name under which every definition of the rules opens: a proof that says `unfolding rules` computes an example. Assumes nothing.
use Rattle.units.specs.Numbers.{per_byte, power_from, least_power, round_down}
use Rattle.rules.specs.State.{charge, group, slot, eligible, any_holds}
use Rattle.units.specs.Plain.{place, without, any_below, word_of}
use Rattle.rules.specs.Choice.{before, best, choose_from, choose, least_of}
use Rattle.rules.specs.Sets.{in_group, group_start, held_start, reached, finish_from, group_holds, group_eligible, group_finish, blocks, blocked, ready, ineligible_ready, eligible_blocked, ineligible_blocked}
use Rattle.rules.specs.Calls.{put_refusal, appended, woken, accept, put_of, do_put, served, settled_at, settled, serve, timed, pick_first, pick_of, picked, take_of, do_take, look_of, do_look, do_sets, lag_of, do_lag, idle, fresh, do_restart, step, taken_off, lowered, lower_all, shifted}
use Rattle.waiting.specs.Waiting.{tail, enter, hand_out, queue_of, full, known}
use Rattle.rounds.specs.Round as round
use Rattle.rules.specs.Runs.{after, trace}

unfoldable pub rules : Unit {0}
unfolding per_byte power_from least_power round_down charge group slot eligible any_holds place before best choose_from choose least_of in_group group_start held_start reached finish_from group_holds group_eligible group_finish any_below word_of blocks blocked ready ineligible_ready eligible_blocked ineligible_blocked put_refusal taken_off lowered lower_all shifted appended woken accept put_of do_put served settled_at settled without serve timed pick_first tail enter hand_out queue_of full known round.empty_shared round.first_of_train round.first_in_turn round.shared_first round.raised round.begin round.added round.join round.shared_put round.hand_of round.hand_in round.shared_hand_out pick_of picked take_of do_take look_of do_look do_sets lag_of do_lag idle fresh do_restart step after trace
rules = tt
