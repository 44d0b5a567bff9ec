-- Lists of public calls, each on the bytes that the last one left.
--
--   Chain     the calls with their answers, from some bytes to others
--   calls_of   the calls of a list, without their answers
--   Begins    a list begins with a table that `make` left
--   Led       a list led from the fresh table of a setup to these bytes
--
-- Assumes nothing.
use Rattle.std.specs.Prelude.{ℕ, ◌≤◌, ◌≡◌, List, [], ◌∷◌, map, length}
use Rattle.rules.specs.State.{Setting}
use Rattle.rules.specs.Setup.{Setup}
use Rattle.rules.specs.Calls.{Call, Reply}
use Rattle.pages.specs.Device.{fresh_device, DeviceCall, ruled, DeviceReply, answered}
use Rattle.pages.specs.Offers.{DeviceEvent, device_after, device_trace, AllRead}
use Rattle.plan.specs.Read.{setup_read, read_setup}
use Rattle.table.specs.Layout.{table_size}
use Rattle.paged.specs.Paged.{EncodesDevice}
use Rattle.scheduler.specs.Step.{UnitStep, offered}
use Rattle.scheduler.specs.Make.{MakeStep}
use Rattle.std.specs.Prelude.{Result}
use Rattle.rules.specs.declared.Refusal.{Refusal}

-- R3.22: no call of a list makes a table anew; an offer of a page is one of its calls
pub data Chain : List ℕ → List DeviceEvent → List ℕ → Type 0 where
  done : {t : List ℕ} → Chain t [] t
  then : {t u v : List ℕ} {c : Call} {r : Reply} {es : List DeviceEvent} → UnitStep (ruled c) t (answered r) u → Chain u es v
      → Chain t (record { call = ruled c; reply = answered r } ∷ es) v
  offers : {t u v : List ℕ} {r : DeviceReply} {es : List DeviceEvent} (bytes : List ℕ) → UnitStep (offered bytes) t r u → Chain u es v
      → Chain t (record { call = offered bytes; reply = r } ∷ es) v

abbrev pub calls_of : List DeviceEvent → List DeviceCall
calls_of es = map (λ (e : DeviceEvent). e.call) es

-- R3.22: `make` was called with a setup whose settings are gs, and left the bytes t
pub record Begins (gs : List Setting) (t : List ℕ) : Type 0 where
  pub setup : List ℕ
  pub before : List ℕ
  pub answer : Result ℕ Refusal
  pub format : ℕ
  pub lanes : ℕ
  pub at : ℕ
  pub reads_it : read_setup setup ≡ setup_read format gs lanes at
  pub room : table_size ≤ length before
  pub makes : MakeStep setup before answer t

-- R15.4: the bytes t are a table that the list es led to, from the fresh table of the setup gs: the rules' own run of its calls from the fresh unit gives its
-- answers, and t encodes the unit that this run leaves. Pages of the list that were read are setups within the numbers. `make`, an accepted restart and a
-- session's run begin such a list, and public calls go on with it (Demands.antt).
pub record Led (gs : List Setting) (es : List DeviceEvent) (t : List ℕ) : Type 0 where
  pub setup : Setup gs
  pub read : AllRead (calls_of es)
  pub answers : device_trace (fresh_device gs) (calls_of es) ≡ es
  pub table : EncodesDevice t (device_after (fresh_device gs) (calls_of es))
