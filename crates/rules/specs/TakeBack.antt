-- What a put takes off where it finds the clock far on (R5.1 to R5.3), of any good state, whatever table it came from.
--
--   TakenOff K s u   u is s with K taken off, and K is the number that the rule names
--   TakeBackExact    what `shifted` does to a good state whose clock is far on is that, so that no number goes below 0 but where the rule says 0
--   TakeBackGood     the state after it is good
--   TakeBackEarly    and its clock is below where it would be taken back again
--
-- Assumes nothing.
use Rattle.std.specs.Prelude.{ℕ, ◌+◌, ◌*◌, ◌^◌, ◌≤◌, ◌<◌, ◌≡◌, true, false, length}
use Rattle.rules.specs.State.{State, clock_far, holds, lane_at}
use Rattle.rules.specs.Calls.{taken_off, shifted}
use Rattle.rules.specs.Good.{Good}

pub record TakenOff (K : ℕ) (s u : State) : Type 0 where
  -- K is the largest multiple of 2^31 that is not above V - 2^33
  pub multiple : (n : ℕ) × (K ≡ n * 2 ^ 31)
  pub below : K + 2 ^ 33 ≤ s.clock
  pub largest : (m : ℕ) → m * 2 ^ 31 + 2 ^ 33 ≤ s.clock → m * 2 ^ 31 ≤ K
  -- it is off V, off S and F of each lane that holds a record, and off F of each idle lane, or that becomes 0
  pub clock : u.clock + K ≡ s.clock
  pub start : (k : ℕ) → holds (lane_at s k) ≡ true → (lane_at u k).start + K ≡ (lane_at s k).start
  pub finish : (k : ℕ) → holds (lane_at s k) ≡ true → (lane_at u k).finish + K ≡ (lane_at s k).finish
  pub idle : (k : ℕ) → holds (lane_at s k) ≡ false → K ≤ (lane_at s k).finish → (lane_at u k).finish + K ≡ (lane_at s k).finish
  pub idle_below : (k : ℕ) → holds (lane_at s k) ≡ false → (lane_at s k).finish < K → (lane_at u k).finish ≡ 0
  -- and nothing else changes
  pub given : (k : ℕ) → (lane_at u k).given ≡ (lane_at s k).given
  pub waiting : (k : ℕ) → (lane_at u k).waiting ≡ (lane_at s k).waiting
  pub order : u.order ≡ s.order
  pub size : length u.lanes ≡ length s.lanes

unfoldable pub TakeBackExact : Type 0
TakeBackExact = (s : State) → Good s → clock_far ≤ s.clock → TakenOff (taken_off s.clock) s (shifted s)

unfoldable pub TakeBackGood : Type 0
TakeBackGood = (s : State) → Good s → Good (shifted s)

unfoldable pub TakeBackEarly : Type 0
TakeBackEarly = (s : State) → (shifted s).clock < clock_far
